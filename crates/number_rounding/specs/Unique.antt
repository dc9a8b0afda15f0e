-- What makes only one float nearest to a fraction with ties to even, which proofs/Unique concludes. Assumes nothing.
-- Two magnitudes that are both nearest are equally near. If they differed, no magnitude could lie between them, and both would have an even significand;
-- but of two neighbouring magnitudes one has an odd significand.
use Rattle.std.specs.Prelude.{◌≡◌, refl, ◌⊎◌, Bool, true, false, not, cond, ◌&&◌, ℕ, zero, suc, ◌+◌, ◌-◌, ◌*◌, ◌/◌, ◌%◌, ◌^◌, ◌≤◌, ◌<◌, ℤ, pos, negsuc, Float}
use Rattle.std.proofs.Common.{sym, ap, ◌∙◌, inr, ⊎_elim, arith, eqb-true, pow-add, pow_pos, pow_mono}
use native.Mathlib.Nat.{le_refl, le_trans, le_of_eq, le_of_lt, le_antisymm, lt_irrefl, lt_of_lt_of_le, lt_of_le_of_lt, lt_of_mul-lt-mul_right, le_of_mul-le-mul_right, mul_assoc, mul_right_comm, mul-one, zero-mul, mul-le-mul_right, mul-lt-mul_of_pos_right, mul-div_cancel, eq_of_mul-eq-mul_right, pow-succ'}
use Rattle.std.proofs.lemmas.Bool.{eqb-false}
use lib.Dec.{T, leb, leb→le, nleb→lt, eqb, ltb, ltb→lt}
use Rattle.std.proofs.Math.Pow.{pow-lt}
use Rattle.std.specs.Float.{nan, inf, fin, binary64}
use Rattle.std.specs.Float.Ieee.{up, down, size, fits, to_bits}
use Rattle.std.specs.Float.Ieee.Digits.{back}
use Rattle.std.specs.Float.Ieee.Exact.{HasValue}
use Rattle.std.specs.Float.Ieee.Fits.{and_l, and_r, down_pos}
use Rattle.number_rounding.specs.Near.{gap, EvenDigits}

-- X units are the magnitude of a float, if that is no overflow
pub record Magnitude (X : ℕ) : Type 0 where
  pub q : ℕ
  pub k : ℕ
  pub is : X ≡ q * 2 ^ k
  pub fit : q < 2 ^ 53

-- ---- equally near means that the fraction lies in the middle, and what lies between is nearer

pub middle : (n x y : ℕ) → x < y → gap n x ≡ gap n y → x + y ≡ n + n
middle n x y h e = omega arith

pub between : (n x y z : ℕ) → x + y ≡ n + n → x < z → z < y → gap n z < gap n x
between n x y z e h k = omega arith

-- ---- the significand of an even magnitude, with at most 53 digits

-- the same with 2 ^ 53 written as 2 ^ 52 at the next exponent
pub record Even (X : ℕ) : Type 0 where
  pub q : ℕ
  pub k : ℕ
  pub is : X ≡ q * 2 ^ k
  pub even : q % 2 ≡ 0
  pub fit : q < 2 ^ 53
  pub full : (k ≡ 0) ⊎ (2 ^ 52 ≤ q)

-- q * 2 ^ k with q = 2 ^ 53 is 2 ^ 52 at the next exponent
pub carry : (q k : ℕ) → q ≡ 2 ^ 53 → q * 2 ^ k ≡ 2 ^ 52 * 2 ^ suc k
carry q k e = ap (λ (z : ℕ). z * 2 ^ k) e ∙ mul_assoc (2 ^ 52) 2 (2 ^ k) ∙ ap (λ (z : ℕ). 2 ^ 52 * z) (sym (pow-succ' 2 k))

pub normal : (X : ℕ) → EvenDigits X → Even X
normal X d = go (eqb d.q (2 ^ 53)) refl
  where
    go : (t : Bool) → eqb d.q (2 ^ 53) ≡ t → Even X
    go true e = record { q = 2 ^ 52; k = suc d.k; is = d.is ∙ carry d.q d.k (eqb-true d.q (2 ^ 53) e); even = refl; fit = lib.Dec.lit< tt; full = inr (le_refl (2 ^ 52)) }
    go false e =
        let n = eqb-false d.q (2 ^ 53) e in
        let l = d.fit in
        record { q = d.q; k = d.k; is = d.is; even = d.even; fit = omega arith; full = d.full }

-- the magnitude that follows q * 2 ^ k
pub next : (q k : ℕ) → q < 2 ^ 53 → Magnitude (suc q * 2 ^ k)
next q k h = go (eqb (suc q) (2 ^ 53)) refl
  where
    go : (t : Bool) → eqb (suc q) (2 ^ 53) ≡ t → Magnitude (suc q * 2 ^ k)
    go true e = record { q = 2 ^ 52; k = suc k; is = carry (suc q) k (eqb-true (suc q) (2 ^ 53) e); fit = lib.Dec.lit< tt }
    go false e = let n = eqb-false (suc q) (2 ^ 53) e in record { q = suc q; k = k; is = refl; fit = omega arith }

-- ---- two even magnitudes are no neighbours

odd_even : (q p : ℕ) → q % 2 ≡ 0 → p % 2 ≡ 0 → p ≡ suc q → ⊥
odd_even q p e f h = omega arith

times_even : (p j : ℕ) → p % 2 ≡ 0 → p * 2 ^ j % 2 ≡ 0
times_even p j e =
    let h : p ≡ p / 2 * 2 = omega arith in
    let m : p * 2 ^ j ≡ p / 2 * 2 ^ j * 2 = ap (λ (z : ℕ). z * 2 ^ j) h ∙ mul_right_comm (p / 2) 2 (2 ^ j) in
    omega arith

squeezed : (q p u : ℕ) → 0 < u → q * u < p * u → p * u ≤ suc q * u → p ≡ suc q
squeezed q p u U h k =
    let l : q < p = lt_of_mul-lt-mul_right u h in
    let m : p ≤ suc q = le_of_mul-le-mul_right k U in
    omega arith

module _ (X Y : ℕ) (x : Even X) (y : Even Y) (l : X < Y) (m : Y ≤ suc x.q * 2 ^ x.k) where
  -- the larger one on the grid of the smaller one
  on_grid : x.k ≤ y.k → ⊥
  on_grid h =
      let j = y.k - x.k in
      let u = 2 ^ x.k in
      let p = y.q * 2 ^ j in
      let e : Y ≡ p * u = y.is ∙ ap (λ (z : ℕ). y.q * 2 ^ z) (sym (back y.k x.k h)) ∙ ap (λ (z : ℕ). y.q * z) (pow-add 2 j x.k) ∙ sym (mul_assoc y.q (2 ^ j) u) in
      let a : x.q * u < p * u = lt_of_le_of_lt (le_of_eq (sym x.is)) (lt_of_lt_of_le l (le_of_eq e)) in
      let b : p * u ≤ suc x.q * u = le_trans (le_of_eq (sym e)) m in
      odd_even x.q p x.even (times_even y.q j y.even) (squeezed x.q p u (pow_pos x.k) a b)

  -- or on a finer one, which ends below the smaller one
  off_grid : y.k < x.k → ⊥
  off_grid h =
      let g : 2 ^ 52 ≤ x.q = ⊎_elim (λ (z : x.k ≡ 0). absurd (omega arith)) (λ (f : 2 ^ 52 ≤ x.q). f) x.full in
      let a : y.q * 2 ^ y.k < 2 ^ 52 * 2 ^ suc y.k = lt_of_lt_of_le (mul-lt-mul_of_pos_right y.fit (pow_pos y.k)) (le_of_eq (carry (2 ^ 53) y.k refl)) in
      let b : 2 ^ 52 * 2 ^ suc y.k ≤ x.q * 2 ^ x.k = le_trans (native.Mathlib.Nat.mul-le-mul_left (2 ^ 52) (pow_mono h)) (mul-le-mul_right (2 ^ x.k) g) in
      lt_irrefl X (le_trans l (le_trans (le_of_eq y.is) (le_trans (le_of_lt a) (le_trans b (le_of_eq (sym x.is))))))

  pub apart : ⊥
  apart = go (leb x.k y.k) (leb→le x.k y.k) (nleb→lt x.k y.k)
    where
      go : (t : Bool) → (T t → x.k ≤ y.k) → (T (not t) → y.k < x.k) → ⊥
      go true h k = on_grid (h tt)
      go false h k = off_grid (k tt)

-- ---- the magnitude of a float

-- what a float's digits and exponent are bounded by
pub bounded : (s : Bool) (m : ℕ) (e : ℤ) → T (fits binary64 (fin s (suc m) e)) → (suc m < 2 ^ 53) × (down e ≤ 2 ^ 1074)
unfolding fits
bounded s m e t =
    let odd = eqb (suc m % 2) 1 in
    let few = ltb (suc m) (2 ^ 53) in
    let low = leb (down e) (2 ^ 1074) in
    let u = and_l (odd && few && low) (ltb (suc m * up e) (2 ^ 1024 * down e)) t in
    (ltb→lt (suc m) (2 ^ 53) (and_r odd few (and_l (odd && few) low u)), leb→le (down e) (2 ^ 1074) (and_r (odd && few) low u))

-- and its magnitude is no overflow
below_top : (s : Bool) (m : ℕ) (e : ℤ) → T (fits binary64 (fin s (suc m) e)) → suc m * up e < 2 ^ 1024 * down e
unfolding fits
below_top s m e t =
    ltb→lt (suc m * up e) (2 ^ 1024 * down e) (and_r (eqb (suc m % 2) 1 && ltb (suc m) (2 ^ 53) && leb (down e) (2 ^ 1074)) (ltb (suc m * up e) (2 ^ 1024 * down e)) t)

-- 2 ^ j is at most 2 ^ l only if j is at most l
pub exponents : (j l : ℕ) → 2 ^ j ≤ 2 ^ l → j ≤ l
exponents j l h = go (leb j l) (leb→le j l) (nleb→lt j l)
  where
    go : (t : Bool) → (T t → j ≤ l) → (T (not t) → l < j) → j ≤ l
    go true a b = a tt
    go false a b = absurd (lt_irrefl (2 ^ l) (lt_of_lt_of_le (pow-lt (b tt)) h))

scaled_up : (m k l X : ℕ) → m * 2 ^ k * 2 ^ l ≡ X * 1 → X ≡ m * 2 ^ (k + l)
scaled_up m k l X h = sym (mul-one X) ∙ sym h ∙ mul_assoc m (2 ^ k) (2 ^ l) ∙ ap (λ (z : ℕ). m * z) (sym (pow-add 2 k l))

scaled_down : (m j l X : ℕ) → j ≤ l → m * 1 * 2 ^ l ≡ X * 2 ^ j → X ≡ m * 2 ^ (l - j)
scaled_down m j l X h e =
    sym
    (eq_of_mul-eq-mul_right (2 ^ j) (pow_pos j) (m * 2 ^ (l - j)) X
    (mul_assoc m (2 ^ (l - j)) (2 ^ j) ∙ ap (λ (z : ℕ). m * z) (sym (pow-add 2 (l - j) j) ∙ ap (λ (z : ℕ). 2 ^ z) (back l j h)) ∙ ap (λ (z : ℕ). z * 2 ^ l) (sym (mul-one m)) ∙ e))

no_units : (X u d : ℕ) → 0 < d → 0 * u ≡ X * d → X ≡ 0
no_units X u d D h = eq_of_mul-eq-mul_right d D X 0 (sym h ∙ zero-mul u ∙ sym (zero-mul d))

pub magnitude : (x : Float) (s : Bool) (X : ℕ) → T (fits binary64 x) → HasValue x s X (2 ^ 1074) → Magnitude X
magnitude nan s X f h = absurd h
magnitude (inf t) s X f h = absurd h
magnitude (fin t zero e) s X f h = record { q = 0; k = 0; is = no_units X (2 ^ 1074) (down e) (down_pos e) (ap (λ (z : ℕ). z * 2 ^ 1074) (sym (zero-mul (up e))) ∙ h.1); fit = lib.Dec.lit< tt }
magnitude (fin t (suc m) (pos k)) s X f h = record { q = suc m; k = k + 1074; is = scaled_up (suc m) k 1074 X h.1; fit = (bounded t m (pos k) f).0 }
magnitude (fin t (suc m) (negsuc k)) s X f h =
    let b = bounded t m (negsuc k) f in
    record { q = suc m; k = 1074 - suc k; is = scaled_down (suc m) (suc k) 1074 X (exponents (suc k) 1074 b.1) h.1; fit = b.0 }

-- A float's magnitude is below the least overflow.
pub no_overflow : (x : Float) (s : Bool) (X : ℕ) → T (fits binary64 x) → HasValue x s X (2 ^ 1074) → X < 2 ^ 2098
no_overflow nan s X f h = absurd h
no_overflow (inf t) s X f h = absurd h
no_overflow (fin t zero e) s X f h =
    lt_of_le_of_lt (le_of_eq (no_units X (2 ^ 1074) (down e) (down_pos e) (ap (λ (z : ℕ). z * 2 ^ 1074) (sym (zero-mul (up e))) ∙ h.1))) (pow_pos 2098)
no_overflow (fin t (suc m) e) s X f h =
    lt_of_mul-lt-mul_right (down e)
    (lt_of_le_of_lt (le_of_eq (sym h.1)) (lt_of_lt_of_le (mul-lt-mul_of_pos_right (below_top t m e f) (pow_pos 1074)) (le_of_eq (mul_right_comm (2 ^ 1024) (down e) (2 ^ 1074)))))

-- ---- the float of a magnitude

-- the bits of a sign and a magnitude
unfoldable pub bits_of : Bool → ℕ → ℕ
bits_of s X = let k = size X - 53 in cond s (2 ^ 63) 0 + k * 2 ^ 52 + X / 2 ^ k

pub bits_are : (x : Float) (s : Bool) (X : ℕ) → HasValue x s X (2 ^ 1074) → to_bits binary64 x ≡ bits_of s X
unfolding to_bits bits_of
bits_are nan s X h = absurd h
bits_are (inf t) s X h = absurd h
bits_are (fin t m e) s X h =
    let n : m * up e * 2 ^ 1074 / down e ≡ X = ap (λ (z : ℕ). z / down e) h.1 ∙ mul-div_cancel X (down_pos e) in
    ap (λ (z : ℕ). cond t (2 ^ 63) 0 + (size z - 53) * 2 ^ 52 + z / 2 ^ (size z - 53)) n ∙ ap (λ (z : Bool). cond z (2 ^ 63) 0 + (size X - 53) * 2 ^ 52 + X / 2 ^ (size X - 53)) h.0
