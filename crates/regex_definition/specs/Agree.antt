-- THE TWO DEFINITIONS AGREE: `described x w` is true if and only if `Describes x w`. Assumes nothing.
use Rattle.std.specs.Prelude.{◌≡◌, refl, Bool, true, false, ◌&&◌, ◌||◌, List, [], ◌∷◌, ◌⊎◌, ◌↔◌, ℕ, zero, suc, ◌≤◌, length, leb}
use Rattle.std.proofs.Common.{ap, inl, inr, ⊎_elim, arith, le_refl, leb-true, leb-false}
use Rattle.regex_definition.specs.Words.{Join, Row, Times, Most, upto, any, Told, holds, fails}
use Rattle.regex_definition.specs.Regexp.{
  Regexp,
  empty,
  class,
  Range,
  hits,
  then,
  or,
  times,
  One,
  Describes,
  is_nil,
  is_one,
  cut,
  row_of,
  some_row,
  first_of,
  star_of,
  times_of,
  described,
}
use Rattle.regex_definition.specs.Laws.{
  join_nil,
  join_cons,
  cons_join,
  nil_join,
  times_split,
  times_join,
  star_cons,
  cons_star,
  star_nil,
}

-- a test that is told, of another statement that means the same
pub told : {P Q : Type 0} {b : Bool} → (P → Q) → (Q → P) → Told P b → Told Q b
told f g (holds p) = holds (f p)
told f g (fails n) = fails (λ q. n (g q))

pub both : {P Q : Type 0} {a b : Bool} → Told P a → Told Q b → Told (P × Q) (a && b)
both (holds p) (holds q) = holds (p, q)
both (holds p) (fails n) = fails (λ r. n r.1)
both (fails n) (holds q) = fails (λ r. n r.0)
both (fails n) (fails m) = fails (λ r. n r.0)

pub either : {P Q : Type 0} {a b : Bool} → Told P a → Told Q b → Told (P ⊎ Q) (a || b)
either (holds p) (holds q) = holds (inl p)
either (holds p) (fails n) = holds (inl p)
either (fails n) (holds q) = holds (inr q)
either (fails n) (fails m) = fails (⊎_elim n m)

pub told_true : {P : Type 0} {b : Bool} → Told P b → b ≡ true → P
told_true (holds p) e = p
told_true (fails n) e = absurd (let z : ◌≡◌ {A = ℕ} 0 1 = ap number e in omega arith)
  where
    number : Bool → ℕ
    number true = 1
    number false = 0

pub true_told : {P : Type 0} {b : Bool} → Told P b → P → b ≡ true
true_told (holds p) q = refl
true_told (fails n) q = absurd (n q)

-- one Bool for one statement
pub told_same : {P : Type 0} {a b : Bool} → Told P a → Told P b → a ≡ b
told_same (holds p) (holds q) = refl
told_same (holds p) (fails n) = absurd (n p)
told_same (fails n) (holds q) = absurd (n q)
told_same (fails n) (fails m) = refl

pub leb_told : (a b : ℕ) → Told (a ≤ b) (leb a b)
leb_told a b = go (leb a b) refl
  where
    go : (t : Bool) → leb a b ≡ t → Told (a ≤ b) t
    go true e = holds (leb-true a b e)
    go false e = fails (λ h. let z = leb-false a b e in omega arith)

nil_told : (w : List ℕ) → Told (w ≡ []) (is_nil w)
nil_told [] = holds refl
nil_told (c ∷ w) = fails (λ e. let z : ◌≡◌ {A = ℕ} 0 1 = cc in omega arith)

-- a Bool that is worked out tells whether it is true
pub bool_told : (b : Bool) → Told (b ≡ true) b
bool_told true = holds refl
bool_told false = fails (λ e. let z : ◌≡◌ {A = ℕ} 0 1 = ap number e in omega arith)
  where
    number : Bool → ℕ
    number true = 1
    number false = 0

one_told : (comp : Bool) (gs : List Range) (w : List ℕ) → Told (One comp gs w) (is_one comp gs w)
one_told comp gs [] = fails (λ o. let e = o.eq in let z : ◌≡◌ {A = ℕ} 0 1 = cc in omega arith)
one_told comp gs (c ∷ []) = told (λ h. record { char = c; eq = refl; hit = h }) back (bool_told (hits comp gs c))
  where
    back : One comp gs (c ∷ []) → hits comp gs c ≡ true
    back o = let e = o.eq in let z : c ≡ o.char = cc in rw z o.hit
one_told comp gs (c ∷ d ∷ w) = fails (λ o. let e = o.eq in let z : ◌≡◌ {A = ℕ} 0 1 = cc in omega arith)

pub cut_told :
    (P Q : List ℕ → Type 0) (p q : List ℕ → Bool) (n : ℕ) → ((u : List ℕ) → Told (P u) (p u))
    → ((u : List ℕ) → length u ≤ n → Told (Q u) (q u)) → (w : List ℕ) → length w ≤ n → Told (Join P Q w) (cut p q w)
cut_told P Q p q n tp tq [] h =
    told (λ r. nil_join [] r.0 r.1) join_nil (both (tp []) (tq [] h))
cut_told P Q p q n tp tq (c ∷ w) h =
    told (⊎_elim (λ r. nil_join (c ∷ w) r.0 r.1) (cons_join c w)) (join_cons c w)
    (either (both (tp []) (tq (c ∷ w) h)) (cut_told (λ u. P (c ∷ u)) Q (λ u. p (c ∷ u)) q n (λ u. tp (c ∷ u)) tq w (omega arith)))

module _ (P : List ℕ → Type 0) (p : List ℕ → Bool) (tp : (u : List ℕ) → Told (P u) (p u)) where
  row_told : (n : ℕ) (w : List ℕ) → Told (Row P n w) (row_of p n w)
  row_told zero w = nil_told w
  row_told (suc n) w = cut_told P (Row P n) p (row_of p n) (length w) tp (λ u h. row_told n u) w (le_refl _)

  some_told : (lo h : ℕ) (w : List ℕ) → Told (Times lo (upto h) P w) (some_row p lo h w)
  some_told lo zero w =
      told (λ r. record { count = 0; least = r.0; most = le_refl _; row = r.1 }) back (both (leb_told lo 0) (row_told 0 w))
    where
      back : Times lo (upto 0) P w → (lo ≤ 0) × Row P 0 w
      back t = let e : t.count ≡ 0 = omega (arith, t.most) in (omega (arith, t.least), rw e at t.row)
  some_told lo (suc h) w =
      told forth back (either (both (leb_told lo (suc h)) (row_told (suc h) w)) (some_told lo h w))
    where
      forth : ((lo ≤ suc h) × Row P (suc h) w) ⊎ Times lo (upto h) P w → Times lo (upto (suc h)) P w
      forth (inl r) = record { count = suc h; least = r.0; most = le_refl _; row = r.1 }
      forth (inr t) = record { count = t.count; least = t.least; most = omega (arith, t.most); row = t.row }

      back : Times lo (upto (suc h)) P w → ((lo ≤ suc h) × Row P (suc h) w) ⊎ Times lo (upto h) P w
      back t = go (leb t.count h) refl
        where
          go : (b : Bool) → leb t.count h ≡ b → ((lo ≤ suc h) × Row P (suc h) w) ⊎ Times lo (upto h) P w
          go true e = inr (record { count = t.count; least = t.least; most = leb-true t.count h e; row = t.row })
          go false e =
              let z : t.count ≡ suc h = omega (arith, leb-false t.count h e, t.most) in
              inl (omega (arith, t.least), rw z at t.row)

  star_told : (k : ℕ) (w : List ℕ) → length w ≤ k → Told (Times 0 any P w) (star_of p k w)
  star_told zero [] h = holds (star_nil P)
  star_told zero (c ∷ w) h = absurd (omega arith)
  star_told (suc k) [] h = holds (star_nil P)
  star_told (suc k) (c ∷ w) h =
      told (cons_star P c w) (star_cons P c w)
      (cut_told (λ u. P (c ∷ u)) (Times 0 any P) (λ u. p (c ∷ u)) (star_of p k) k (λ u. tp (c ∷ u)) (star_told k) w (omega arith))

  times_told : (lo : ℕ) (hi : Most) (w : List ℕ) → Told (Times lo hi P w) (times_of p lo hi w)
  times_told lo (upto h) w = some_told lo h w
  times_told lo any w =
      told (times_join P lo w) (times_split P lo w)
      (cut_told (Row P lo) (Times 0 any P) (row_of p lo) (λ u. star_of p (length u) u) (length w) (row_told lo)
      (λ u h. star_told (length u) u (le_refl _)) w (le_refl _))

-- the agreement
pub agree : (x : Regexp) (w : List ℕ) → Told (Describes x w) (described x w)
agree empty w = nil_told w
agree (class comp gs) w = one_told comp gs w
agree (then x y) w =
    cut_told (Describes x) (Describes y) (described x) (described y) (length w) (λ u. agree x u) (λ u h. agree y u) w (le_refl _)
agree (or x y) w = either (agree x w) (agree y w)
agree (times lo hi x) w = times_told (Describes x) (described x) (λ u. agree x u) lo hi w

-- in two directions
pub described_describes : (x : Regexp) (w : List ℕ) → (described x w ≡ true) ↔ Describes x w
described_describes x w = (told_true (agree x w), true_told (agree x w))
