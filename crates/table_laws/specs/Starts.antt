-- The text check alone, where ranges overlap: of all maps that hold a node only the least start matters. Assumes nothing.
use Prim.Native.Nat.{ℕ, zero, suc, ◌+◌, ◌-◌, ◌≤◌, ◌<◌}
use Rattle.std.specs.Prelude.{◌≡◌, List, Bool, not, ◌&&◌, length}
use Rattle.std.proofs.Math.Path.{refl, sym, subst}
use Rattle.std.proofs.Common.{◌∙◌}
use Rattle.std.proofs.Math.Bool.{true, false, cond}
use Rattle.std.proofs.Math.Dec.{eqb, leb, ltb}
use native.Mathlib.Omega.{arith}
use borrow.Author.Tests.{eqb-true, leb-true, ltb-true, ltb-false, eq-eqb, ne_eqb, le-leb, lt-leb, lt-ltb, le-ltb}
use Rattle.definition.specs.Bytes.{same_bytes}
use Rattle.definition.specs.Tables.{node_count, kind_at, kind_text, kind_map, key_start, key_length, low_word, high_word, key_bytes, good_part, text_inside, holds, key_differs, key_right, keys_right, text_right}
use Rattle.basics.specs.Bools.{and_left, and_not_left, and_not_right, and_right}
use Rattle.utf8_laws.specs.Bytes.{by_test}
use Rattle.table_laws.specs.Bools.{and_true}
use Rattle.table_laws.specs.Rights.{good_inside}

-- the least start of the written ranges, of the n first nodes, that hold node i; or i + 1, if none does
unfoldable pub least_start : List ℕ → ℕ → ℕ → ℕ
least_start T i zero = suc i
least_start T i (suc p) = cond (holds T p i && ltb (low_word T p) (least_start T i p)) (low_word T p) (least_start T i p)

-- a good key that is unlike those from a start on
unfoldable pub key_from : List ℕ → List ℕ → ℕ → ℕ → Bool
key_from T X i m = good_part X (key_start T i) (key_length T i) && key_differs T X i m (i - m)

-- the same where the start is one
unfoldable pub key_from_start : List ℕ → List ℕ → ℕ → ℕ → Bool
key_from_start T X i m = cond (leb m i) (key_from T X i m) true

-- ---- which ranges hold a node

module _ (T : List ℕ) where
  pub holds_is : (p i : ℕ) → holds T p i ≡ true → (kind_at T p ≡ kind_map) × (low_word T p ≤ i) × (i < low_word T p + high_word T p)
  unfolding holds
  holds_is p i h =
      let a = eqb (kind_at T p) kind_map in
      let b = leb (low_word T p) i in
      let c = ltb i (low_word T p + high_word T p) in
      let g = and_right a (b && c) h in
      (eqb-true (kind_at T p) kind_map (and_left a (b && c) h), leb-true (low_word T p) i (and_left b c g), ltb-true i (low_word T p + high_word T p) (and_right b c g))

  is_held : (p i : ℕ) → kind_at T p ≡ kind_map → low_word T p ≤ i → i < low_word T p + high_word T p → holds T p i ≡ true
  unfolding holds
  is_held p i k a b = rw (eq-eqb (kind_at T p) kind_map k, le-leb (low_word T p) i a, lt-ltb i (low_word T p + high_word T p) b)

  -- a range that holds a node holds all from its start up to it
  pub holds_earlier : (p i j : ℕ) → holds T p i ≡ true → low_word T p ≤ j → j ≤ i → holds T p j ≡ true
  holds_earlier p i j h a b = let w = holds_is p i h in let c = w.2 in is_held p j w.0 a (omega arith)

  -- ---- the least start, as it is found: one node more

  module _ (i p : ℕ) where
    pub start_other : (kind_at T p ≡ kind_map → ⊥) → least_start T i (suc p) ≡ least_start T i p
    unfolding least_start holds
    start_other h = rw (ne_eqb (kind_at T p) kind_map h)

    pub start_later : least_start T i p ≤ low_word T p → least_start T i (suc p) ≡ least_start T i p
    unfolding least_start
    start_later h = rw (and_not_right (holds T p i) (ltb (low_word T p) (least_start T i p)) (le-ltb (low_word T p) (least_start T i p) h))

    pub start_past : low_word T p + high_word T p ≤ i → least_start T i (suc p) ≡ least_start T i p
    unfolding least_start
    start_past h =
        let n : holds T p i ≡ false = by_test (holds T p i) (λ y. let w = holds_is p i y in let a = w.2 in absurd (omega arith)) (λ f. f) in
        rw n

    pub start_earlier : kind_at T p ≡ kind_map → low_word T p ≤ i → i < low_word T p + high_word T p → low_word T p < least_start T i p → least_start T i (suc p) ≡ low_word T p
    unfolding least_start
    start_earlier k a b l = rw (is_held p i k a b, lt-ltb (low_word T p) (least_start T i p) l)

  -- it is at most one behind the node
  pub start_near : (i n : ℕ) → least_start T i n ≤ suc i
  unfolding least_start
  start_near i zero = omega arith
  start_near i (suc p) =
      let w = start_near i p in
      by_test (holds T p i && ltb (low_word T p) (least_start T i p))
      (λ y. let l = ltb-true (low_word T p) (least_start T i p) (and_right (holds T p i) (ltb (low_word T p) (least_start T i p)) y) in rw y (omega arith))
      (λ f. rw f w)

  -- and where it is no later than the node, a range that holds the node begins there
  pub start_held : (i n : ℕ) → least_start T i n ≤ i → (p : ℕ) × (p < n) × (holds T p i ≡ true) × (low_word T p ≡ least_start T i n)
  unfolding least_start
  start_held i zero l = absurd (omega arith)
  start_held i (suc p) l =
      by_test (holds T p i && ltb (low_word T p) (least_start T i p))
      (λ y. (p, omega arith, and_left (holds T p i) (ltb (low_word T p) (least_start T i p)) y, rw y))
      (λ f. let w = start_held i p (rw f at l) in let b = w.1 in (w.0, omega arith, w.2, rw f w.3))

-- ---- what is asked of a key

module _ (T X : List ℕ) (i : ℕ) where
  -- a key that is unlike all from an earlier start on is unlike all from a later one
  differs_later : (d m n : ℕ) → key_differs T X i m (d + n) ≡ true → key_differs T X i (m + d) n ≡ true
  unfolding key_differs
  differs_later zero m n h =
      let a : 0 + n ≡ n = omega arith in
      let b : m + 0 ≡ m = omega arith in
      rw b (rw a at h)
  differs_later (suc d) m n h =
      let a : suc d + n ≡ suc (d + n) = omega arith in
      let b : suc m + d ≡ m + suc d = omega arith in
      let g : key_differs T X i m (suc (d + n)) ≡ true = rw a at h in
      subst (λ (x : ℕ). key_differs T X i x n ≡ true) b (differs_later d (suc m) n (and_right (not (same_bytes (key_bytes T X m) (key_bytes T X i))) (key_differs T X i (suc m) (d + n)) g))

  from_later : (m n : ℕ) → m ≤ n → n ≤ i → key_from T X i m ≡ true → key_from T X i n ≡ true
  unfolding key_from
  from_later m n l h e =
      let good = good_part X (key_start T i) (key_length T i) in
      let a : i - m ≡ (n - m) + (i - n) = omega arith in
      let b : m + (n - m) ≡ n = omega arith in
      let g = and_left good (key_differs T X i m (i - m)) e in
      let k : key_differs T X i m ((n - m) + (i - n)) ≡ true = rw a at (and_right good (key_differs T X i m (i - m)) e) in
      let w : key_differs T X i n (i - n) ≡ true = subst (λ (x : ℕ). key_differs T X i x (i - n) ≡ true) b (differs_later (n - m) m (i - n) k) in
      rw (g, w)

  -- of two starts the lesser decides
  lesser_first : (m n : ℕ) → m ≤ n → m ≤ i → (key_from T X i m && key_from_start T X i n) ≡ key_from_start T X i m
  unfolding key_from_start
  lesser_first m n l h =
      rw (le-leb m i h)
      (by_test (leb n i)
      (λ y. by_test (key_from T X i m) (λ k. rw (y, k, from_later m n l (leb-true n i y) k)) (λ f. rw f))
      (λ f. rw f (and_true (key_from T X i m))))

  lesser_second : (m n : ℕ) → n ≤ m → m ≤ i → (key_from T X i m && key_from_start T X i n) ≡ key_from_start T X i n
  unfolding key_from_start
  lesser_second m n l h =
      let e : n ≤ i = omega arith in
      rw (le-leb n i e) (by_test (key_from T X i n) (λ k. rw (k, from_later n m l h k)) (λ f. rw f (and_not_right (key_from T X i m) false refl)))

  key_from_lem : (p : ℕ) → key_right T X p i ≡ key_from T X i (low_word T p)
  unfolding key_right key_from
  key_from_lem p = refl

  none_starts : key_from_start T X i (suc i) ≡ true
  unfolding key_from_start
  none_starts = rw (lt-leb (suc i) i (omega arith))

  -- what all maps that hold a node ask of its key is what one with the least start would ask: one comparison with each earlier node is enough
  pub keys_from_start : (n : ℕ) → keys_right T X i n ≡ key_from_start T X i (least_start T i n)
  unfolding keys_right least_start
  keys_from_start zero = sym none_starts
  keys_from_start (suc p) =
      by_test (holds T p i)
      (λ y.
      let w = holds_is T p i y in
      let a = w.1 in
      by_test (ltb (low_word T p) (least_start T i p))
      (λ l. let m = ltb-true (low_word T p) (least_start T i p) l in rw (y, l, key_from_lem p, keys_from_start p) (lesser_first (low_word T p) (least_start T i p) (omega arith) a))
      (λ l. let m = ltb-false (low_word T p) (least_start T i p) l in rw (y, l, key_from_lem p, keys_from_start p) (lesser_second (low_word T p) (least_start T i p) m a)))
      (λ f. rw f (keys_from_start p))

  -- ---- by the least start: no map holds the node; its key is bad; its key is good and compared

  pub keys_none : (m : ℕ) → m ≡ least_start T i (node_count T) → i < m → keys_right T X i (node_count T) ≡ true
  unfolding key_from_start
  keys_none m e l = keys_from_start (node_count T) ∙ rw (← e) (rw (lt-leb m i l))

  pub keys_bad : (m : ℕ) → m ≡ least_start T i (node_count T) → m ≤ i → good_part X (key_start T i) (key_length T i) ≡ false → keys_right T X i (node_count T) ≡ false
  unfolding key_from_start key_from
  keys_bad m e l g = keys_from_start (node_count T) ∙ rw (← e) (rw (le-leb m i l, g))

  pub keys_compared : (m : ℕ) → m ≡ least_start T i (node_count T) → m ≤ i → good_part X (key_start T i) (key_length T i) ≡ true → keys_right T X i (node_count T) ≡ key_differs T X i m (i - m)
  unfolding key_from_start key_from
  keys_compared m e l g = keys_from_start (node_count T) ∙ rw (← e) (rw (le-leb m i l, g))

-- ---- the keys that are compared lie inside the text

module _ (T X : List ℕ) where
  -- what a map that holds a node asks of its key
  keys_each : (j p n : ℕ) → p < n → holds T p j ≡ true → keys_right T X j n ≡ true → key_right T X p j ≡ true
  unfolding keys_right
  keys_each j p zero l h e = absurd (omega arith)
  keys_each j p (suc n) l h e =
      by_test (eqb n p)
      (λ y.
      let z : n ≡ p = eqb-true n p y in
      let g : holds T n j ≡ true = subst (λ (x : ℕ). holds T x j ≡ true) (sym z) h in
      let k : cond (holds T n j) (key_right T X n j) true ≡ true = and_left (cond (holds T n j) (key_right T X n j) true) (keys_right T X j n) e in
      subst (λ (x : ℕ). key_right T X x j ≡ true) z (rw g at k))
      (λ f. let d = borrow.Author.Tests.eqb-false n p f in keys_each j p n (omega arith) h (and_right (cond (holds T n j) (key_right T X n j) true) (keys_right T X j n) e))

  key_good : (p j : ℕ) → key_right T X p j ≡ true → good_part X (key_start T j) (key_length T j) ≡ true
  unfolding key_right
  key_good p j h = and_left (good_part X (key_start T j) (key_length T j)) (key_differs T X j (low_word T p) (j - low_word T p)) h

  text_keys : (j : ℕ) → text_right T X j ≡ true → keys_right T X j (node_count T) ≡ true
  unfolding text_right
  text_keys j h = and_right (text_inside T X j) (keys_right T X j (node_count T)) h

  -- from the least start up to a node with right texts before it, all keys lie inside the text
  pub keys_inside : (i j : ℕ) → ((k : ℕ) → k < i → text_right T X k ≡ true) → least_start T i (node_count T) ≤ j → j < i → key_start T j + key_length T j ≤ length X
  keys_inside i j r a b =
      let w = start_held T i (node_count T) (omega arith) in
      let p : ℕ = w.0 in
      let e = w.3 in
      let h = holds_earlier T p i j w.2 (omega arith) (omega arith) in
      good_inside X (key_start T j) (key_length T j) (key_good p j (keys_each j p (node_count T) w.1 h (text_keys j (r j b))))

  -- ---- the parts of a node's texts

  pub text_wrong : (i : ℕ) → text_inside T X i ≡ false → text_right T X i ≡ false
  unfolding text_right
  text_wrong i h = and_not_left (text_inside T X i) (keys_right T X i (node_count T)) h

  pub text_by_keys : (i : ℕ) → text_inside T X i ≡ true → text_right T X i ≡ keys_right T X i (node_count T)
  unfolding text_right
  text_by_keys i h = rw h

  pub inside_none : (i : ℕ) → (kind_at T i ≡ kind_text → ⊥) → text_inside T X i ≡ true
  unfolding text_inside
  inside_none i h = rw (ne_eqb (kind_at T i) kind_text h)

  pub inside_text : (i : ℕ) → kind_at T i ≡ kind_text → text_inside T X i ≡ good_part X (low_word T i) (high_word T i)
  unfolding text_inside
  inside_text i h = rw (eq-eqb (kind_at T i) kind_text h)
