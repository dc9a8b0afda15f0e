-- The numbers are those of the answer of path of a node.
use Rattle.std.specs.Prelude.{refl}
use Rattle.table_path.specs.Outcomes.{told}
use Rattle.refusals.proofs.Answers.{path_tells}
use Rattle.refusals.proofs.of_path.Goals as goal

pub returns-in-Ok : goal.returns-in-Ok
unfolding told
returns-in-Ok c = λ B. rw c.in-Ok.is refl

pub returns-in-Err : goal.returns-in-Err
returns-in-Err c = λ B. rw (c.in-Err.is, c.path_number.ensures, c.path_size.ensures, c.path_node.ensures) (path_tells c.in-Err.refusal B)
