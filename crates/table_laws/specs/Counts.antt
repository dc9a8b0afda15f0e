-- The child counts of the nodes before a node: they never fall. Assumes nothing.
use Rattle.std.specs.Prelude.{ℕ, zero, suc, ◌+◌, ◌-◌, ◌≤◌, ◌<◌, ◌≡◌, List}
use Rattle.std.proofs.Math.Path.{refl}
use Rattle.std.proofs.Common.{sym, subst, add-suc, add-zero, le_refl, arith}
use Rattle.definition.specs.Tables.{child_count, counts_before}

module _ (T : List ℕ) where
  -- no node stands before the root
  pub counts_root : counts_before T 0 ≡ 0
  unfolding counts_before
  counts_root = refl

  -- the counts before the next node
  pub counts_next : (i : ℕ) → counts_before T (suc i) ≡ counts_before T i + child_count T i
  unfolding counts_before
  counts_next i = refl

  counts_more : (i k : ℕ) → counts_before T i ≤ counts_before T (i + k)
  counts_more i zero = rw add-zero (le_refl (counts_before T i))
  counts_more i (suc k) =
      let m = counts_more i k in
      let s = counts_next (i + k) in
      rw add-suc (omega arith)

  -- the counts before a later node are no smaller
  pub counts_monotone : (i j : ℕ) → i ≤ j → counts_before T i ≤ counts_before T j
  counts_monotone i j h =
      let e : i + (j - i) ≡ j = omega arith in
      subst (λ (x : ℕ). counts_before T i ≤ counts_before T x) e (counts_more i (j - i))
