-- `number_parse::parse_i_json_int` meets its contract: the digits with their sign say which law of proofs/Ints.antt answers.
use mathlib.Core.Path.{sym, ◌∙◌}
use mathlib.Core.Bool.{true≢false}
use Rattle.std.proofs.lemmas.Result.{err_from_is_err_and}
use Rattle.number_parse.proofs.Ints.{whole_read, whole_unread, whole_int, minus_zero_int}
use Rattle.number_parse.proofs.parse_i_json_int.Goals as goal
use Rattle.number_parse.proofs.parse_i_json_int.Goals.{else-whole-via-then-whole+else-whole-eq0, else-whole-via-else-whole}

pub returns-in_err-whole : goal.returns-in_err-whole
returns-in_err-whole c =
    let p = err_from_is_err_and c.from_residual.result c.from_residual.ensures.1 in
    rw (p.1, p.2) (whole_unread c.read_whole.result _ c.read_whole.ensures c.in_err-whole.ensures.cases)

pub returns-then-whole-eq0 : goal.returns-then-whole-eq0
returns-then-whole-eq0 c = minus_zero_int c.args.s.now c.args.at c.in_ok-whole.whole (whole_read c.read_whole.result _ c.read_whole.ensures c.in_ok-whole.ensures.cases) c.if-whole.true c.if-whole-eq0.true

pub returns : goal.returns
returns c =
    rw c.range.ensures
    (whole_int c.args.s.now c.args.at c.in_ok-whole.whole (whole_read c.read_whole.result _ c.read_whole.ensures c.in_ok-whole.ensures.cases)
    (elim c.else-whole.branch [ else-whole-via-then-whole+else-whole-eq0 w ↦ λ n z. w.if-whole-eq0.false z | else-whole-via-else-whole w ↦ λ n z. true≢false (sym n ∙ w.if-whole.false) ]))
