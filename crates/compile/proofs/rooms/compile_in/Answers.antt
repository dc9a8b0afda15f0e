-- `compile::rooms::compile_in` meets its contract: the outcome of a query that no early refusal meets.
use Rattle.parser_items.specs.Laws.{whole}
use Rattle.compile.proofs.Answers.{rooms_of, rooms_whole, parse_whole, whole_of_lem, none_of, numbered, outcome_refused, outcome_form, outcome_none}
use Rattle.std.proofs.lemmas.Result.{err_from_is_err_and}
use Rattle.compile.proofs.rooms.compile_in.Goals as goal

pub parse-requires : goal.parse-requires
parse-requires c = rooms_whole (whole _) (rooms_of c.requires.0 c.requires.1)

pub deliver-requires : goal.deliver-requires
deliver-requires c = ((whole_of_lem (parse_whole (whole c.args.query.now) c.parse.ensures) c.in-Ok.is).len, (whole_of_lem (parse_whole (whole c.args.query.now) c.parse.ensures) c.in-Ok.is).pool_len)

pub returns-in_default : goal.returns-in_default
returns-in_default c = outcome_none c.requires.1 (none_of (parse_whole (whole _) c.parse.ensures) _ c.in_default.is)

pub returns-in_err-judge : goal.returns-in_err-judge
returns-in_err-judge c =
    let p = err_from_is_err_and c.from_residual.result c.from_residual.ensures.1 in
    rw (p.1, p.2) (outcome_refused (whole_of_lem (parse_whole (whole _) c.parse.ensures) c.in-Ok.is) _ c.requires.1 (λ q. rw c.in_err-judge.was at c.judge.ensures))

pub returns : goal.returns
returns c = outcome_form (whole_of_lem (parse_whole (whole _) c.parse.ensures) c.in-Ok.is) c.requires.1 (λ q. rw c.in_ok-judge.was at c.judge.ensures) c.deliver.ensures

pub judge-requires : goal.judge-requires
judge-requires c = numbered (whole_of_lem (parse_whole (whole _) c.parse.ensures) c.in-Ok.is)
