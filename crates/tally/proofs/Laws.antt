-- The laws of counting: an item more, and sums place by place. Assumes nothing.
use Prim.Native.Nat.{ℕ, zero, suc, ◌+◌, ◌≤◌, ◌<◌}
use mathlib.Core.Path.{◌≡◌, refl, sym, ap, ◌∙◌}
use mathlib.Core.Bool.{Bool, true, false, cond, true≢false, ◌&&◌}
use mathlib.Core.List.{List, [], ◌∷◌}
use native.Mathlib.Numerals.{add-one}
use native.Mathlib.Omega.{arith}
use lib.Dec.{eqb}
use lib.ListN.{length, drop, get_or, set, replicate, length-set, length-replicate, get_or-replicate}
use lib.Seq.{drop-cons, drop-drop, get_or-set_same, get_or-set_other}
use borrow.Author.Tests.{eqb-true, eqb-false}
use Rattle.utf8_laws.specs.Bytes.{by_test}
use Rattle.tally_laws.specs.Items.{body_length, kinds_within, kinds_of, occurrences}
use Rattle.tally_laws.specs.Tallies.{every_below}
use Rattle.tally.specs.Counts.{CountsOf, Sums}

-- ---- an item more

-- C holds what was counted up to the place at: with what is left it comes to all
pub record Going (s : List ℕ) (at : ℕ) (C : List ℕ) : Type 0 where
  pub left : ℕ
  pub enough : length s ≤ left + at
  pub room : length C ≡ 256
  pub small : (k : ℕ) → k < 256 → get_or C k 0 ≤ at
  pub each : (k : ℕ) → k < 256 → get_or C k 0 + occurrences k (kinds_within left (drop at s)) ≡ occurrences k (kinds_of s)

pub going_start : (s : List ℕ) → Going s 0 (replicate 256 0)
going_start s =
    record {
      left = length s;
      enough = omega arith;
      room = length-replicate {A = ℕ} 256 0;
      small = λ k h. let e = get_or-replicate {A = ℕ} 256 k 0 0 h in omega arith;
      each = λ k h. let e = get_or-replicate {A = ℕ} 256 k 0 0 h in rw e (zero_sum (occurrences k (kinds_of s)));
    }
  where
    zero_sum : (n : ℕ) → 0 + n ≡ n
    zero_sum n = omega arith

-- an item counts once for its own kind
occurs_cons : (k x : ℕ) (l : List ℕ) → occurrences k (x ∷ l) ≡ cond (eqb k x) 1 0 + occurrences k l
unfolding occurrences
occurs_cons k x l = refl

kinds_cons : (n x : ℕ) (s : List ℕ) → kinds_within (suc n) (x ∷ s) ≡ x ∷ kinds_within n (drop (body_length x) s)
unfolding kinds_within
kinds_cons n x s = refl

kinds_end : (n : ℕ) → kinds_within n [] ≡ []
unfolding kinds_within
kinds_end zero = refl
kinds_end (suc n) = refl

module _ (s : List ℕ) (at : ℕ) (C : List ℕ) (g : Going s at C) (l : at < length s) (x b : ℕ) (i : x ≡ get_or s at 0) (small : x < 256) (e : b ≡ body_length x) where
  -- what is left begins with the item at the place
  first_left : (n : ℕ) → kinds_within (suc n) (drop at s) ≡ x ∷ kinds_within n (drop (at + 1 + b) s)
  first_left n =
      let z : suc at + b ≡ at + 1 + b = omega arith in
      ap (kinds_within (suc n)) (drop-cons s at 0 l ∙ ap (λ (z : ℕ). z ∷ drop (suc at) s) (sym i))
      ∙ kinds_cons n x (drop (suc at) s)
      ∙ ap (λ (z : ℕ). x ∷ kinds_within n (drop z (drop (suc at) s))) (sym e)
      ∙ ap (λ (z : List ℕ). x ∷ kinds_within n z) (drop-drop b (suc at) s ∙ ap (λ (y : ℕ). drop y s) z)

  pub going_on : Going s (at + 1 + b) (set C x (get_or C x 0 + 1))
  going_on = go g.left refl
    where
      counted : (n : ℕ) → g.left ≡ suc n → (k : ℕ) → k < 256 → get_or (set C x (get_or C x 0 + 1)) k 0 + occurrences k (kinds_within n (drop (at + 1 + b) s)) ≡ occurrences k (kinds_of s)
      counted n q k h =
          let r = g.room in
          let a = sym (ap (λ (z : ℕ). get_or C k 0 + occurrences k (kinds_within z (drop at s))) q) ∙ g.each k h in
          let o = ap (occurrences k) (first_left n) ∙ occurs_cons k x (kinds_within n (drop (at + 1 + b) s)) in
          by_test (eqb k x)
          (λ t. let m = eqb-true k x t in
          let w : get_or (set C x (get_or C x 0 + 1)) k 0 ≡ get_or C k 0 + 1 = rw m (get_or-set_same C x (get_or C x 0 + 1) 0 (omega arith)) in
          let v : occurrences k (kinds_within (suc n) (drop at s)) ≡ 1 + occurrences k (kinds_within n (drop (at + 1 + b) s)) = o ∙ rw t in
          omega (arith, w, v, a))
          (λ f. let m = eqb-false k x f in
          let w : get_or (set C x (get_or C x 0 + 1)) k 0 ≡ get_or C k 0 = get_or-set_other C x k (get_or C x 0 + 1) 0 m in
          let v : occurrences k (kinds_within (suc n) (drop at s)) ≡ 0 + occurrences k (kinds_within n (drop (at + 1 + b) s)) = o ∙ rw f in
          omega (arith, w, v, a))

      bounded : (k : ℕ) → k < 256 → get_or (set C x (get_or C x 0 + 1)) k 0 ≤ at + 1 + b
      bounded k h =
          let r = g.room in
          by_test (eqb k x)
          (λ t. let m = eqb-true k x t in let w : get_or (set C x (get_or C x 0 + 1)) k 0 ≡ get_or C x 0 + 1 = rw m (get_or-set_same C x (get_or C x 0 + 1) 0 (omega arith)) in omega (arith, w, g.small x small))
          (λ f. let m = eqb-false k x f in let w : get_or (set C x (get_or C x 0 + 1)) k 0 ≡ get_or C k 0 = get_or-set_other C x k (get_or C x 0 + 1) 0 m in omega (arith, w, g.small k h))

      go : (n : ℕ) → g.left ≡ n → Going s (at + 1 + b) (set C x (get_or C x 0 + 1))
      go zero q = absurd (omega (arith, g.enough))
      go (suc n) q = record { left = n; enough = omega (arith, g.enough); room = length-set C x (get_or C x 0 + 1) ∙ g.room; small = bounded; each = counted n q }

drop_past : (n : ℕ) (s : List ℕ) → length s ≤ n → drop n s ≡ []
drop_past zero [] h = refl
drop_past zero (x ∷ s) h = absurd (omega arith)
drop_past (suc n) [] h = refl
drop_past (suc n) (x ∷ s) h = drop_past n s (omega arith)

-- behind the last byte all is counted
pub going_end : (s : List ℕ) (at : ℕ) (C : List ℕ) → Going s at C → length s ≤ at → CountsOf (kinds_of s) C
unfolding occurrences
going_end s at C g h =
    record {
      room = g.room;
      each = λ k l. let z = ap (λ (w : List ℕ). occurrences k (kinds_within g.left w)) (drop_past at s h) ∙ ap (occurrences k) (kinds_end g.left) in omega (arith, g.each k l, z);
    }

-- ---- sums place by place

pub every_none : (p : ℕ → Bool) → every_below 0 p ≡ true
unfolding every_below
every_none p = refl

-- a test that holds below i and at i holds below i + 1; one that fails somewhere below n fails below n
pub every_more : (i : ℕ) (p : ℕ → Bool) → every_below i p ≡ true → p i ≡ true → every_below (i + 1) p ≡ true
unfolding every_below
every_more i p h e = ap (λ (n : ℕ). every_below n p) (add-one i) ∙ rw (h, e) refl

pub every_not : (n i : ℕ) (p : ℕ → Bool) → i < n → p i ≡ false → every_below n p ≡ false
unfolding every_below
every_not zero i p h e = absurd (omega arith)
every_not (suc n) i p h e =
    by_test (eqb i n)
    (λ t. let q = eqb-true i n t in and_false (every_below n p) (sym (ap p q) ∙ e))
    (λ f. let q = eqb-false i n f in rw (every_not n i p (omega arith) e) refl)
  where
    and_false : (a : Bool) {b : Bool} → b ≡ false → (a && b) ≡ false
    and_false true z = z
    and_false false z = refl

pub every_at : (n i : ℕ) (p : ℕ → Bool) → every_below n p ≡ true → i < n → p i ≡ true
every_at n i p h l = by_test (p i) (λ t. t) (λ f. absurd (true≢false (sym h ∙ every_not n i p l f)))

-- R holds the sums below i
pub record Adding (M C R : List ℕ) (i : ℕ) : Type 0 where
  pub room : length R ≡ 256
  pub below : (k : ℕ) → k < i → get_or R k 0 ≡ get_or C k 0 + get_or M k 0

pub adding_start : (M C : List ℕ) → Adding M C (replicate 256 0) 0
adding_start M C = record { room = length-replicate {A = ℕ} 256 0; below = λ k h. absurd (omega arith) }

pub adding_on : (M C R : List ℕ) (i : ℕ) → Adding M C R i → i < 256 → Adding M C (set R i (get_or C i 0 + get_or M i 0)) (i + 1)
adding_on M C R i a l =
    let r = a.room in
    record {
      room = length-set R i (get_or C i 0 + get_or M i 0) ∙ a.room;
      below = λ k h. by_test (eqb k i)
          (λ t. let q = eqb-true k i t in rw q (get_or-set_same R i (get_or C i 0 + get_or M i 0) 0 (omega arith)))
          (λ f. let q = eqb-false k i f in get_or-set_other R i k (get_or C i 0 + get_or M i 0) 0 q ∙ a.below k (omega arith));
    }

pub adding_end : (M C R : List ℕ) (i : ℕ) → Adding M C R i → 256 ≤ i → Sums M C R
adding_end M C R i a h = record { room = a.room; each = λ k l. a.below k (omega arith) }
