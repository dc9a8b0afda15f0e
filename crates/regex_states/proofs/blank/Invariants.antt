-- `regex_states::blank` meets its contract.
use mathlib.Core.Path.{◌≡◌}
use Prim.Native.Nat.{ℕ, ◌+◌, ◌<◌}
use lib.ListN.{length, get_or}
use Rattle.regex_states.proofs.blank.Given as goal

abbrev pub invariant-loop-i : goal.invariant-loop-i
invariant-loop-i l = (length l.rows ≡ length l.initial.rows) × ((j : ℕ) → j < l.i → get_or l.rows (l.from + j) 0 ≡ 0) × ((j : ℕ) → j < l.from → get_or l.rows j 0 ≡ get_or l.initial.rows j 0)
