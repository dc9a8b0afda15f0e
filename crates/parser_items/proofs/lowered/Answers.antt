-- `parser_items::lowered` meets its contract: both answers are taken apart.
--
use Rattle.std.proofs.lemmas.Result.{err_from_is_err_and}
use Rattle.parser_items.proofs.lowered.Goals as goal

pub returns-in_err-st : goal.returns-in_err-st
returns-in_err-st c = let p = err_from_is_err_and c.from_residual.result c.from_residual.ensures.1 in rw (c.in_err-st.was, p.1, p.2)

pub returns : goal.returns
returns c = rw c.in_ok-st.was
