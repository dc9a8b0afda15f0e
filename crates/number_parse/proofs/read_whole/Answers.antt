-- `number_parse::read_whole` meets its contract: the sign and what stands behind it say which law of proofs/Wholes.antt answers.
use Rattle.std.proofs.lemmas.Result.{err_from_is_err_and}
use Rattle.number_parse.proofs.Wholes.{behind_in, whole_there, whole_none}
use Rattle.number_parse.proofs.read_whole.Goals as goal

pub read_unsigned-requires : goal.read_unsigned-requires
read_unsigned-requires c = rw c.from.ensures (behind_in c.args.s.now c.args.at c.is-negative.result c.requires c.is-negative.ensures)

pub returns-in_err-digits : goal.returns-in_err-digits
returns-in_err-digits c =
    let p = err_from_is_err_and c.from_residual.result c.from_residual.ensures.1 in
    rw (p.1, p.2) (whole_none c.args.s.now c.args.at c.is-negative.result c.is-negative.ensures _ (rw c.from.ensures at c.in_err-digits.ensures))

pub returns : goal.returns
returns c = whole_there c.args.s.now c.args.at c.is-negative.result c.is-negative.ensures c.in_ok-digits.digits (rw c.from.ensures at c.in_ok-digits.ensures)
