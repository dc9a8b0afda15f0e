-- `regex_states::state_of` meets its contract.
use mathlib.Core.Path.{refl}
use native.Mathlib.Omega.{arith}
use Rattle.regex_states.specs.Rooms.{known}
use Rattle.regex_states.proofs.Tables.{found_of}
use Rattle.regex_states.proofs.state_of.Goals as goal

pub returns-then-t-gt0 : goal.returns-then-t-gt0
returns-then-t-gt0 c = known refl refl (λ z. omega (arith, c.if-t-gt0.true)) (found_of c.from-count.ensures c.find-t.ensures)
