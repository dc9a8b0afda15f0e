-- `regex_states::store` meets its contract.
use mathlib.Core.Path.{◌≡◌}
use Prim.Native.Nat.{ℕ, ◌+◌, ◌<◌}
use lib.ListN.{length, get_or}
use Rattle.regex_states.proofs.store.Given as goal

abbrev pub invariant-loop-i : goal.invariant-loop-i
invariant-loop-i l = (length l.sets ≡ length l.initial.sets) × ((j : ℕ) → j < l.i → get_or l.sets (l.from + j) 0 ≡ get_or l.marks j 0) × ((j : ℕ) → j < l.from → get_or l.sets j 0 ≡ get_or l.initial.sets j 0)
