-- `select::select_in` meets its contract: what the plan of a query gives is what the query gives.
use Rattle.std.proofs.lemmas.Result.{err_from_is_err_and}
use Rattle.compile.proofs.Answers.{rooms_of, whole_of_lem, none_of, numbered}
use Rattle.select.proofs.Answers.{select_refused, plan_part, pool_part, planned, select_form, select_stopped, select_none}
use borrow.Author.Rules.{rules}
use Rattle.select.proofs.select_in.Goals as goal

pub parse-requires : goal.parse-requires
parse-requires c = rooms_of c.requires.0 c.requires.1

pub returns-in_default : goal.returns-in_default
returns-in_default c = select_none c.requires.1 (none_of c.parse.ensures _ c.in_default.is)

pub returns-in_err-judge : goal.returns-in_err-judge
returns-in_err-judge c =
    let p = err_from_is_err_and c.from_residual.result c.from_residual.ensures.1 in
    rw (p.1, p.2) (select_refused (whole_of_lem c.parse.ensures c.in-Ok.is) _ c.requires.1 (λ q. rw c.in_err-judge.was at c.judge.ensures))

pub slice_bounds-plan-end : goal.slice_bounds-plan-end
slice_bounds-plan-end c = (whole_of_lem c.parse.ensures c.in-Ok.is).len

pub slice_bounds-plan-end-2 : goal.slice_bounds-plan-end-2
slice_bounds-plan-end-2 c = plan_part (whole_of_lem c.parse.ensures c.in-Ok.is)

pub slice_bounds-pool-end : goal.slice_bounds-pool-end
slice_bounds-pool-end c = (whole_of_lem c.parse.ensures c.in-Ok.is).pool_len

pub slice_bounds-pool-end-2 : goal.slice_bounds-pool-end-2
slice_bounds-pool-end-2 c = pool_part (whole_of_lem c.parse.ensures c.in-Ok.is)

pub run_form-requires : goal.run_form-requires
run_form-requires c = planned (whole_of_lem c.parse.ensures c.in-Ok.is) c.requires.1 (λ q. rw c.in_ok-judge.was at c.judge.ensures)

pub returns-in_err-count : goal.returns-in_err-count
returns-in_err-count c =
    let p = err_from_is_err_and c.from_residual-in_err-count.result c.from_residual-in_err-count.ensures.1 in
    rw (p.1, p.2) (select_stopped (whole_of_lem c.parse.ensures c.in-Ok.is) c.requires.1 (λ q. rw c.in_ok-judge.was at c.judge.ensures) _ _ c.in_err-count.ensures)

pub returns : goal.returns
returns c = select_form (whole_of_lem c.parse.ensures c.in-Ok.is) c.requires.1 (λ q. rw c.in_ok-judge.was at c.judge.ensures) _ _ c.in_ok-count.ensures

pub judge-requires : goal.judge-requires
judge-requires c = numbered (whole_of_lem c.parse.ensures c.in-Ok.is)
