-- The loop's invariant: the words that are left, mixed into the hash, give the hash of all.
use native.Mathlib.Omega.{arith}
use mathlib.Core.Path.{◌≡◌, sym, ap, ◌∙◌}
use Prim.Native.Nat.{ℕ, ◌+◌, ◌-◌, ◌*◌, ◌/◌, ◌≤◌, ◌<◌}
use lib.ListN.{length}
use Rattle.table.specs.Buckets.{hashes, folded}
use Rattle.table.proofs.Folds.{fold_on, fold_end}
use borrow.Author.Rules.{rules}
use Rattle.table.proofs.buckets.words_hash.Given as goal

abbrev pub invariant-loop-i : goal.invariant-loop-i
invariant-loop-i l = (l.hash < hashes) × (folded 4 l.s (length l.s / 4 - l.i) (4 * l.i) l.hash ≡ folded 4 l.s (length l.s / 4) 0 0)
