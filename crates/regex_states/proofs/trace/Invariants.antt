-- `regex_states::trace` meets its contract.
use mathlib.Core.Path.{◌≡◌}
use Prim.Native.Nat.{◌-◌}
use lib.ListN.{length}
use Rattle.regex_states.specs.Texts.{Tracing}
use Rattle.regex_states.proofs.trace.Given as goal

abbrev pub invariant-loop-i : goal.invariant-loop-i
invariant-loop-i l = (length l.edges ≡ length l.initial.edges) × (length l.sets ≡ length l.initial.sets) × (length l.marks ≡ length l.initial.marks) × Tracing l.code l.text l.initial.sets l.edges l.sets l.marks l.i l.k

abbrev pub decreases-loop-i : goal.decreases-loop-i
decreases-loop-i l = l.end - l.i
