-- The numbers are those of a selection's answer.
use Rattle.std.specs.Prelude.{refl}
use Rattle.run.specs.Outcomes.{ran}
use Rattle.select.specs.Selections.{selected}
use Rattle.refusals.proofs.Answers.{select_tells}
use Rattle.refusals.proofs.of_select.Goals as goal

pub returns-in-Ok : goal.returns-in-Ok
unfolding selected ran
returns-in-Ok c = λ L. rw c.in-Ok.is refl

pub returns-in-Err : goal.returns-in-Err
returns-in-Err c = λ L. rw (c.in-Err.is, c.select_number.ensures, c.select_node.ensures) (select_tells c.in-Err.refusal L)
