-- `select::select` meets its contract: one outcome for each input.
use Rattle.std.proofs.lemmas.Result.{err_from_is_err_and}
use Rattle.select.proofs.Answers.{select_early}
use Rattle.select.proofs.select.Goals as goal

pub returns-in_err-early_refusal : goal.returns-in_err-early_refusal
returns-in_err-early_refusal c =
    let p = err_from_is_err_and c.from_residual.result c.from_residual.ensures.1 in
    let o = select_early c.in_err-early_refusal.field-0.0 (rw c.in_err-early_refusal.was at c.early_refusal.ensures) in
    rw (p.1, p.2) (record { answers = o.is; only = o.only })
