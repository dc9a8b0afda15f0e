-- The numbers are those of a check's answer.
use Rattle.std.specs.Prelude.{refl}
use Rattle.table.specs.Outcomes.{reported}
use Rattle.refusals.proofs.Answers.{check_tells}
use Rattle.refusals.proofs.of_check.Goals as goal

pub returns-in-Ok : goal.returns-in-Ok
unfolding reported
returns-in-Ok c = rw c.in-Ok.is refl

pub returns-in-Err : goal.returns-in-Err
returns-in-Err c = rw (c.in-Err.is, c.table_number.ensures, c.table_node.ensures) (check_tells c.in-Err.refusal)
