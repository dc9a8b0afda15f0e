-- The chain of a bucket, followed, meets every earlier key that could be the same. Assumes nothing.
use Prim.Native.Nat.{ℕ, zero, suc, ◌+◌, ◌-◌, ◌≤◌, ◌<◌}
use mathlib.Core.Path.{◌≡◌, refl, sym, ap, ◌∙◌, subst}
use mathlib.Core.List.{List}
use mathlib.Core.Bool.{Bool, true, false, not, ◌&&◌}
use lib.Dec.{ltb}
use native.Mathlib.Omega.{arith}
use borrow.Author.Tests.{ltb-true, ltb-false}
use Rattle.definition.specs.Bytes.{same_bytes}
use Rattle.definition.specs.Tables.{key_bytes, key_differs}
use Rattle.definition_bytes.specs.Same.{same_true}
use Rattle.basics.specs.Bools.{and_not_left, and_not_right}
use Rattle.table.specs.Buckets.{bucket_of, bucket_at}
use Rattle.table.specs.Chains.{Latest, Linked}

-- keys of different buckets differ
apart : (n : ℕ) (s t : List ℕ) → (bucket_of n s ≡ bucket_of n t → ⊥) → same_bytes s t ≡ false
apart n s t ne = go (same_bytes s t) refl
  where
    go : (x : Bool) → same_bytes s t ≡ x → x ≡ false
    go true e = absurd (ne (ap (bucket_of n) (same_true s t e)))
    go false e = refl

module _ (T X : List ℕ) (i : ℕ) where
  -- the keys of the nodes from a place on, above j, are unlike that of node i
  abbrev pub UnlikeAbove : ℕ → ℕ → Type 0
  UnlikeAbove from j = (k : ℕ) → from ≤ k → k < i → j < k → same_bytes (key_bytes T X k) (key_bytes T X i) ≡ false

  -- where every key is unlike it, the key differs
  differs_every : (n j : ℕ) → ((k : ℕ) → j ≤ k → k < j + n → same_bytes (key_bytes T X k) (key_bytes T X i) ≡ false) → key_differs T X i j n ≡ true
  unfolding key_differs
  differs_every zero j u = refl
  differs_every (suc n) j u = rw (u j (omega arith) (omega arith)) (differs_every n (suc j) (λ k a b. u k (omega arith) (omega arith)))

  pub differs_each : (from : ℕ) → from ≤ i → ((k : ℕ) → from ≤ k → k < i → same_bytes (key_bytes T X k) (key_bytes T X i) ≡ false) → key_differs T X i from (i - from) ≡ true
  differs_each from a u = differs_every (i - from) from (λ k b d. u k b (omega arith))

  pub differs_all : (from j : ℕ) → from ≤ i → j < from → UnlikeAbove from j → key_differs T X i from (i - from) ≡ true
  differs_all from j a l u = differs_every (i - from) from (λ k b d. u k b (omega arith) (omega arith))

  -- where one key is the same, it does not
  differs_one : (n j k : ℕ) → j ≤ k → k < j + n → same_bytes (key_bytes T X k) (key_bytes T X i) ≡ true → key_differs T X i j n ≡ false
  unfolding key_differs
  differs_one zero j k a b s = absurd (omega arith)
  differs_one (suc n) j k a b s = go (ltb j k) refl (λ l. differs_one n (suc j) k l (omega arith) s)
    where
      go : (x : Bool) → ltb j k ≡ x → (suc j ≤ k → key_differs T X i (suc j) n ≡ false) → (not (same_bytes (key_bytes T X j) (key_bytes T X i)) && key_differs T X i (suc j) n) ≡ false
      go true e ih = and_not_right (not (same_bytes (key_bytes T X j) (key_bytes T X i))) (key_differs T X i (suc j) n) (ih (ltb-true j k e))
      go false e ih =
          let m = ltb-false j k e in
          let z : k ≡ j = omega arith in
          and_not_left (not (same_bytes (key_bytes T X j) (key_bytes T X i))) (key_differs T X i (suc j) n) (ap not (subst (λ (x : ℕ). same_bytes (key_bytes T X x) (key_bytes T X i) ≡ true) z s))

  pub differs_not : (from k : ℕ) → from ≤ k → k < i → same_bytes (key_bytes T X k) (key_bytes T X i) ≡ true → key_differs T X i from (i - from) ≡ false
  differs_not from k a b s = differs_one (i - from) from k a (omega arith) s

  -- above the last node in a bucket no key is in it
  pub follow_begins : (n from v : ℕ) → Latest (bucket_at n T X) (bucket_at n T X i) from i v → UnlikeAbove from v
  follow_begins n from v h k a b l = apart n (key_bytes T X k) (key_bytes T X i) (λ e. let m = h.covers k a b e in omega arith)

  -- one step down: the key of node j is unlike, and the others down to the node before it in the bucket are in other buckets
  pub follow_on : (n from j v : ℕ) → j < i → bucket_at n T X j ≡ bucket_at n T X i → Latest (bucket_at n T X) (bucket_at n T X j) from j v → same_bytes (key_bytes T X j) (key_bytes T X i) ≡ false → UnlikeAbove from j → UnlikeAbove from v
  follow_on n from j v l e h d u k a b m = go (ltb j k) refl (ltb k j) refl
    where
      go : (x : Bool) → ltb j k ≡ x → (y : Bool) → ltb k j ≡ y → same_bytes (key_bytes T X k) (key_bytes T X i) ≡ false
      go true f y g = u k a b (ltb-true j k f)
      go false f true g = apart n (key_bytes T X k) (key_bytes T X i) (λ z. let o = h.covers k a (ltb-true k j g) (z ∙ sym e) in omega arith)
      go false f false g =
          let p = ltb-false j k f in
          let q = ltb-false k j g in
          let z : j ≡ k = omega arith in
          subst (λ (x : ℕ). same_bytes (key_bytes T X x) (key_bytes T X i) ≡ false) z d

-- A chain that is followed and has come down to j: the keys above it are unlike that of the node, and it is in the node's bucket or below the first one.
pub record Following (T X : List ℕ) (node from : ℕ) (L : List ℕ) (j : ℕ) : Type 0 where
  pub below : j < node
  pub count : ℕ
  pub linked : Linked (bucket_at count T X) from node L
  pub same : from ≤ j → bucket_at count T X j ≡ bucket_at count T X node
  pub unlike : UnlikeAbove T X node from j
