-- The parent of a node: the node p for which countsBefore p < i ≤ countsBefore (p + 1). Assumes nothing.
-- The ranges of different nodes are apart, and in the order of the nodes, so a cursor that only moves forward finds every parent.
use Prim.Native.Nat.{ℕ, zero, suc, ◌+◌, ◌-◌, ◌≤◌, ◌<◌}
use Rattle.std.proofs.Math.Path.{◌≡◌, refl, ap, subst}
use Rattle.std.proofs.Common.{sym, ◌∙◌}
use Rattle.std.specs.Prelude.{List, Bool, ◌&&◌, ltb}
use Rattle.std.proofs.Math.Bool.{true, false, cond}
use Rattle.std.proofs.Math.Option.{Option, none, some}
use Rattle.std.proofs.Math.Dec.{leb}
use native.Mathlib.Omega.{arith}
use borrow.Author.Tests.{leb-true, ltb-true, le-leb, lt-ltb}
use Rattle.definition.specs.Tables.{child_count, counts_before, first_child, is_child_of, parent_below, parent_of}
use Rattle.basics.specs.Bools.{and_both, and_left, and_right, both_answers, not_true_false}
use Rattle.table_laws.specs.Counts.{counts_next, counts_monotone}

-- node i stands in the range of node p's children
pub record InRange (T : List ℕ) (p i : ℕ) : Type 0 where
  pub above : counts_before T p < i
  pub within : i ≤ counts_before T (suc p)

module _ (T : List ℕ) where
  -- the test of the definition is the range
  pub child_in : (p i : ℕ) → is_child_of T p i ≡ true → InRange T p i
  unfolding is_child_of
  child_in p i h =
      let a = leb-true (first_child T p) i (and_left (leb (first_child T p) i) (ltb i (first_child T p + child_count T p)) h) in
      let b = ltb-true i (first_child T p + child_count T p) (and_right (leb (first_child T p) i) (ltb i (first_child T p + child_count T p)) h) in
      let s = counts_next T p in
      record { above = omega arith; within = omega arith }

  pub in_child : (p i : ℕ) → InRange T p i → is_child_of T p i ≡ true
  unfolding is_child_of
  in_child p i h =
      let a = h.above in
      let b = h.within in
      let s = counts_next T p in
      and_both (leb (first_child T p) i) (ltb i (first_child T p + child_count T p)) (le-leb (first_child T p) i (omega arith)) (lt-ltb i (first_child T p + child_count T p) (omega arith))

  -- ranges of different nodes are apart, and stand in the order of the nodes
  pub ranges_apart : (p q i j : ℕ) → p < q → InRange T p i → InRange T q j → i < j
  ranges_apart p q i j l a b =
      let m = counts_monotone T (suc p) q l in
      let u = a.within in
      let v = b.above in
      omega arith

  -- a node has one parent at most
  pub one_parent : (p q i : ℕ) → InRange T p i → InRange T q i → p ≡ q
  one_parent p q i a b = go (ltb p q) refl (ltb q p) refl
    where
      go : (x : Bool) → ltb p q ≡ x → (y : Bool) → ltb q p ≡ y → p ≡ q
      go true e y f = let z = ranges_apart p q i i (ltb-true p q e) a b in absurd (omega arith)
      go false e true f = let z = ranges_apart q p i i (ltb-true q p f) b a in absurd (omega arith)
      go false e false f = omega (arith, borrow.Author.Tests.ltb-false p q e, borrow.Author.Tests.ltb-false q p f)

  -- the parent of the next node is not before the parent of this one
  pub parents_forward : (p q i : ℕ) → InRange T p i → InRange T q (suc i) → p ≤ q
  parents_forward p q i a b = go (ltb q p) refl
    where
      go : (x : Bool) → ltb q p ≡ x → p ≤ q
      go true e = let z = ranges_apart q p (suc i) i (ltb-true q p e) b a in absurd (omega arith)
      go false e = borrow.Author.Tests.ltb-false q p e

  below_some : (p i : ℕ) → InRange T p i → (b : ℕ) → p < b → parent_below T i b ≡ some p
  unfolding parent_below
  below_some p i h zero l = absurd (omega arith)
  below_some p i h (suc b) l = go (is_child_of T b i) refl (below_some p i h b)
    where
      go : (x : Bool) → is_child_of T b i ≡ x → (p < b → parent_below T i b ≡ some p) → cond x (some b) (parent_below T i b) ≡ some p
      go true e ih = ap some (one_parent b p i (child_in b i e) h)
      go false e ih =
          let ne : p ≡ b → ⊥ = λ z. both_answers (is_child_of T b i) (subst (λ (y : ℕ). is_child_of T y i ≡ true) z (in_child p i h)) e in
          ih (omega arith)

  -- the parent is the earlier node that has i in its range
  pub parent_is : (p i : ℕ) → p < i → InRange T p i → parent_of T i ≡ some p
  parent_is p i l h = below_some p i h i l

  below_none : (i b : ℕ) → counts_before T b < i → parent_below T i b ≡ none
  unfolding parent_below
  below_none i zero h = refl
  below_none i (suc b) h = go (is_child_of T b i) refl (below_none i b (omega (arith, counts_next T b)))
    where
      go : (x : Bool) → is_child_of T b i ≡ x → parent_below T i b ≡ none → cond x (some b) (parent_below T i b) ≡ none
      go true e ih = let w = (child_in b i e).within in absurd (omega arith)
      go false e ih = ih

  -- a node that the counts before it do not reach has no parent
  pub parent_none : (i : ℕ) → counts_before T i < i → parent_of T i ≡ none
  parent_none i h = below_none i i h

  below_found : (p i b : ℕ) → parent_below T i b ≡ some p → (p < b) × InRange T p i
  unfolding parent_below
  below_found p i zero e = let z : ◌≡◌ {A = ℕ} 0 1 = cc in absurd (omega arith)
  below_found p i (suc b) e = go (is_child_of T b i) refl e (below_found p i b)
    where
      go : (x : Bool) → is_child_of T b i ≡ x → cond x (some b) (parent_below T i b) ≡ some p → (parent_below T i b ≡ some p → (p < b) × InRange T p i) → (p < suc b) × InRange T p i
      go true f g ih = let z : b ≡ p = cc in (omega arith, subst (λ (y : ℕ). InRange T y i) z (child_in b i f))
      go false f g ih = let w = ih g in let l = w.0 in (omega arith, w.1)

  -- what is found as the parent is earlier, and has i in its range
  pub parent_found : (p i : ℕ) → parent_of T i ≡ some p → (p < i) × InRange T p i
  parent_found p i e = below_found p i i e

  -- a node that the counts before some node reach has a parent before that node
  parent_below_lem : (i b : ℕ) → 0 < i → i ≤ counts_before T b → (p : ℕ) × (p < b) × InRange T p i
  unfolding counts_before
  parent_below_lem i zero l h = absurd (omega arith)
  parent_below_lem i (suc b) l h = go (leb i (counts_before T b)) refl (parent_below_lem i b l)
    where
      go : (x : Bool) → leb i (counts_before T b) ≡ x → (i ≤ counts_before T b → (p : ℕ) × (p < b) × InRange T p i) → (p : ℕ) × (p < suc b) × InRange T p i
      go true e ih = let w = ih (leb-true i (counts_before T b) e) in let q = w.1 in (w.0, omega arith, w.2)
      go false e ih = let m = borrow.Author.Tests.leb-false i (counts_before T b) e in (b, omega arith, record { above = m; within = h })

  -- a node behind the root that the counts before it reach has a parent
  pub parent_some : (i : ℕ) → 0 < i → i ≤ counts_before T i → (p : ℕ) × (p < i) × InRange T p i
  parent_some i l h = parent_below_lem i i l h
