-- The loop's invariant: the bytes that are left, mixed into the hash, give the hash of all.
use native.Mathlib.Omega.{arith}
use mathlib.Core.Path.{◌≡◌, sym, ap, ◌∙◌}
use Prim.Native.Nat.{ℕ, ◌+◌, ◌-◌, ◌≤◌, ◌<◌}
use lib.ListN.{length}
use Rattle.table.specs.Buckets.{hashes, folded}
use Rattle.table.proofs.Folds.{fold_on, fold_end}
use Rattle.table.proofs.buckets.bytes_hash.Given as goal

abbrev pub invariant-loop-at : goal.invariant-loop-at
invariant-loop-at l = (l.at ≤ length l.s) × (l.hash < hashes) × (folded 1 l.s (length l.s - l.at) l.at l.hash ≡ folded 1 l.s (length l.s) 0 0)
