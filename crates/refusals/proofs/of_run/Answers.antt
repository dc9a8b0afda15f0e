-- The numbers are those of a run's answer.
use Rattle.std.specs.Prelude.{refl}
use Rattle.run.specs.Outcomes.{ran}
use Rattle.refusals.proofs.Answers.{run_tells}
use Rattle.refusals.proofs.of_run.Goals as goal

pub returns-in-Ok : goal.returns-in-Ok
unfolding ran
returns-in-Ok c = λ L. rw c.in-Ok.is refl

pub returns-in-Err : goal.returns-in-Err
returns-in-Err c = λ L. rw (c.in-Err.is, c.run_number.ensures, c.run_node.ensures) (run_tells c.in-Err.refusal L)
