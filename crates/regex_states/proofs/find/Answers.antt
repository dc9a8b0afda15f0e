-- `regex_states::find` meets its contract.
use mathlib.Core.Path.{refl}
use native.Mathlib.Omega.{arith}
use Rattle.regex_states.proofs.find.Goals as goal

pub returns-then-same : goal.returns-then-same
returns-then-same c = record { is = λ n. (omega arith, omega arith, c.same.ensures c.if-same.true) }

pub returns : goal.returns
returns c = record { is = λ n. absurd (n refl) }
