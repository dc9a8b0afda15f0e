-- A float's value from its bit pattern; an integer and a float, and two floats, in the order of their cross products. Assumes nothing.
use Rattle.number_order.specs.Finite.{bits_finite}
use mathlib.Core.Path.{◌≡◌, refl, sym, ap, ◌∙◌, subst}
use mathlib.Core.Bool.{Bool, true, false, not, cond}
use Prim.Native.Nat.{ℕ, zero, suc, ◌+◌, ◌-◌, ◌*◌, ◌/◌, ◌%◌, ◌^◌, ◌≤◌, ◌<◌}
use native.Mathlib.Nat.{mul_right_comm, zero-add}
use native.Mathlib.Omega.{arith}
use lib.Dec.{T, leb, ltb, eqb, leb-suc-zero, leb-suc-suc}
use lib.IntN.{ℤ, pos, ◌*ℤ◌}
use lib.Signed.{lt_z}
use lib.Ieee.{Float, nan, inf, fin, binary64, up, down, odd, of_fields, of_bits, to_bits, fits, is_nan, nan_bits, lt, below}
use lib.Ieee.Bits.{of_bits-to_bits, to_bits-lt, nan_bits_is}
use lib.Ieee.Exact.{HasValue, odd_sign}
use lib.Ieee.Fits.{down_pos}
use lib.Ieee.Scale.{finite}
use borrow.Author.Tests.{lt-ltb, le-leb, lt-leb, eqb-false}
use Rattle.number_integers.specs.Signed.{signed}
use Rattle.number_order.specs.Exact.{order_z, of_integer, of_float, order_of, significand, shift}
use Rattle.number_order.proofs.Orders.{signed_times, scale_order}
use Rattle.number_order.proofs.Signs.{times_one}

-- ---- the fields of a pattern

-- A finite float made of a sign, an exponent's field and digits has the value that the pattern's words say.
fields : (s : Bool) (x t : ℕ) → x < 2048 → T (finite (of_fields binary64 s x t))
    → (x < 2047) × HasValue (of_fields binary64 s x t) s (cond (ltb 0 x) (2 ^ 52 + t) t * 2 ^ (x - 1)) (2 ^ 1074)
unfolding of_fields
fields s zero t h f = (omega arith, odd_sign 53 s t 0 1074)
fields s (suc x) t h f = go (eqb (suc x) 2047) refl f
  where
    O : Float
    O = odd 53 s (2 ^ 52 + t) x 1074

    not_finite : (z : Bool) → T (finite (cond z (inf s) nan)) → ⊥
    not_finite true w = w
    not_finite false w = w

    right : HasValue O s (cond (ltb 0 (suc x)) (2 ^ 52 + t) t * 2 ^ (suc x - 1)) (2 ^ 1074)
    right =
        let e : suc x - 1 ≡ x = omega arith in
        rw (lt-ltb 0 (suc x) (omega arith), e) (odd_sign 53 s (2 ^ 52 + t) x 1074)

    go : (b : Bool) → eqb (suc x) 2047 ≡ b → T (finite (cond b (cond (eqb t 0) (inf s) nan) O))
        → (suc x < 2047) × HasValue (cond b (cond (eqb t 0) (inf s) nan) O) s (cond (ltb 0 (suc x)) (2 ^ 52 + t) t * 2 ^ (suc x - 1)) (2 ^ 1074)
    go true e w = absurd (not_finite (eqb t 0) w)
    go false e w = (let n = eqb-false (suc x) 2047 e in omega arith, right)

-- The value of a finite float v of the sign s, by a pattern b without sign.
pub record Pattern (v : Float) (s : Bool) (b : ℕ) : Type 0 where
  pub small : b < 2047 * 2 ^ 52
  pub value : HasValue v s (significand b * 2 ^ shift b) (2 ^ 1074)

-- A finite float's pattern, with the sign taken off.
pattern : (v : Float) → T (fits binary64 v) → T (finite v) → Pattern v (leb (2 ^ 63) (to_bits binary64 v)) (to_bits binary64 v % 2 ^ 63)
unfolding of_bits
pattern v F N =
    let b = to_bits binary64 v in
    let e : of_bits binary64 b ≡ v = of_bits-to_bits binary64 v F in
    let m : b % 2 ^ 63 % 2 ^ 52 ≡ b % 2 ^ 52 = omega arith in
    let r = fields (leb (2 ^ 63) b) (b % 2 ^ 63 / 2 ^ 52) (b % 2 ^ 52) (omega arith) (subst (λ (z : Float). T (finite z)) (sym e) N) in
    record {
      small = let s = r.0 in omega arith;
      value = rw m (subst (λ (z : Float). HasValue z (leb (2 ^ 63) b) (cond (ltb 0 (b % 2 ^ 63 / 2 ^ 52)) (2 ^ 52 + b % 2 ^ 52) (b % 2 ^ 52) * 2 ^ (b % 2 ^ 63 / 2 ^ 52 - 1)) (2 ^ 1074)) e r.1);
    }

-- Below 2 ^ 63 a pattern has no sign.
pub plus_pattern : (v : Float) → T (fits binary64 v) → T (finite v) → to_bits binary64 v < 2 ^ 63 → Pattern v false (to_bits binary64 v)
plus_pattern v F N h =
    let e : to_bits binary64 v % 2 ^ 63 ≡ to_bits binary64 v = omega arith in
    rw (lt-leb (2 ^ 63) (to_bits binary64 v) h, e) at (pattern v F N)

-- From 2 ^ 63 on it has one, and what is left is the rest.
pub minus_pattern : (v : Float) → T (fits binary64 v) → T (finite v) → 2 ^ 63 ≤ to_bits binary64 v → Pattern v true (to_bits binary64 v - 2 ^ 63)
minus_pattern v F N h =
    let f : to_bits binary64 v < 2 ^ 64 = to_bits-lt binary64 v F in
    let e : to_bits binary64 v % 2 ^ 63 ≡ to_bits binary64 v - 2 ^ 63 = omega arith in
    rw (le-leb (2 ^ 63) (to_bits binary64 v) h, e) at (pattern v F N)

-- ---- the float of a pattern

-- A finite float is no NaN.
pub no_nan : (v : Float) → T (finite v) → T (not (is_nan v))
unfolding is_nan
no_nan nan t = absurd t
no_nan (inf s) t = tt
no_nan (fin s m e) t = tt

-- So it is no NaN's.
pub bits_number : (b : ℕ) → b % 2 ^ 63 < 2047 * 2 ^ 52 → T (not (nan_bits binary64 b))
bits_number b h = subst (λ (z : Bool). T (not z)) (sym (nan_bits_is binary64 b)) (no_nan (of_bits binary64 b) (bits_finite b h))

-- ---- an integer and a float

-- The order of a signed number n and a float of the value ± A / C is that of n * C and A with their signs.
pub mixed_order : (t s : Bool) (n A C : ℕ) (v : Float) → 0 < C → HasValue v s A C → order_of (of_integer (signed t n)) (of_float v) ≡ order_z (signed t (n * C)) (signed s A)
mixed_order t s n A C nan K h = absurd h
mixed_order t s n A C (inf u) K h = absurd h
mixed_order t s n A C (fin u m e) K h =
    let d = down e in
    let M = m * up e in
    ap (λ (z : ℤ). order_z z (signed u M *ℤ pos 1)) (signed_times t n d)
    ∙ ap (λ (z : ℤ). order_z (signed t (n * d)) z) (times_one (signed u M))
    ∙ sym (scale_order t u (n * d) M C K)
    ∙ ap (λ (z : ℕ). order_z (signed t z) (signed u (M * C))) (mul_right_comm n d C)
    ∙ ap (λ (z : ℕ). order_z (signed t (n * C * d)) (signed u z)) h.1
    ∙ scale_order t u (n * C) A d (down_pos e)
    ∙ ap (λ (z : Bool). order_z (signed t (n * C)) (signed z A)) h.0

-- ---- two floats

-- The library's order of signed magnitudes is that of whole numbers.
below_is : (s : Bool) (a : ℕ) (t : Bool) (b : ℕ) → below s a t b ≡ lt_z (signed s a) (signed t b)
below_is false a false b = refl
below_is false a true zero = sym (leb-suc-zero a)
below_is false a true (suc b) = refl
below_is true zero false b = ap (λ (z : ℕ). ltb 0 z) (zero-add b)
below_is true (suc a) false b = lt-ltb 0 (suc a + b) (omega arith)
below_is true zero true zero = refl
below_is true zero true (suc b) = leb-suc-zero (suc b)
below_is true (suc a) true zero = lt-ltb 0 (suc a) (omega arith)
below_is true (suc a) true (suc b) = leb-suc-suc (suc b) a

-- The test `<` of two finite floats is that of their cross products.
pub lt_is : (x y : Float) → T (finite x) → T (finite y)
    → lt x y ≡ lt_z ((of_float x).num *ℤ pos (of_float y).den) ((of_float y).num *ℤ pos (of_float x).den)
unfolding lt
lt_is nan y f g = absurd f
lt_is (inf s) y f g = absurd f
lt_is (fin s m e) nan f g = absurd g
lt_is (fin s m e) (inf t) f g = absurd g
lt_is (fin s m e) (fin t n d) f g =
    below_is s (m * up e * down d) t (n * up d * down e)
    ∙ sym (ap (λ (z : ℤ). lt_z z (signed t (n * up d) *ℤ pos (down e))) (signed_times s (m * up e) (down d)) ∙ ap (λ (z : ℤ). lt_z (signed s (m * up e * down d)) z) (signed_times t (n * up d) (down e)))
