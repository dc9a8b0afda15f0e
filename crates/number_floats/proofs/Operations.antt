-- A product and a quotient of two floats are their exact product and quotient, rounded once. So a whole number times or over a power of ten
-- is the definition's `nearest`. Assumes nothing.
use mathlib.Core.Path.{◌≡◌, refl, sym, ap, ◌∙◌, subst}
use mathlib.Core.Bool.{Bool, true, false, not, cond}
use Prim.Native.Nat.{ℕ, zero, suc, ◌+◌, ◌*◌, ◌^◌, ◌≤◌, ◌<◌}
use native.Mathlib.Nat.{le_trans, mul_comm, mul-mul-mul_comm, mul-pos, mul-one, one-mul}
use native.Mathlib.Numerals.{add-one}
use native.Mathlib.Omega.{arith}
use lib.Dec.{T, eqb, ltb, le→leb, lit≤, eqb-suc-zero}
use lib.IntN.{pos, negsuc, neg_ℤ}
use lib.Ieee.{Float, nan, inf, fin, Format, binary64, unlike, up, down, mul, div, neg, round, odd, units, low, prec, emax, of_int, in_float, to_bits, is_nan}
use lib.Ieee.Back.{round_whole}
use lib.Ieee.Bits.{cond_no}
use lib.Ieee.Exact.{HasValue}
use lib.Ieee.Fits.{down_pos, round_is}
use lib.Ieee.Order.{drop, kept}
use lib.Ieee.Positive.{first_pos}
use lib.Ieee.Scale.{round_same}
use Rattle.definition.specs.Limits.{max_int}
use Rattle.definition.specs.Literals.{nearest}
use Rattle.number_rounding.specs.Decimal.{nearest_is, ten_pos}

-- ---- fractions

-- the product of M / e = a / c and N / d = b / g
cross_mul : (M N e d a b c g : ℕ) → M * c ≡ a * e → N * g ≡ b * d → M * N * (c * g) ≡ a * b * (e * d)
cross_mul M N e d a b c g p q = mul-mul-mul_comm M N c g ∙ ap (λ (z : ℕ). z * (N * g)) p ∙ ap (λ (z : ℕ). a * e * z) q ∙ mul-mul-mul_comm a e b d

-- and the quotient
cross_div : (M N e d a b c g : ℕ) → M * c ≡ a * e → N * g ≡ b * d → M * d * (c * b) ≡ a * g * (N * e)
cross_div M N e d a b c g p q =
    mul-mul-mul_comm M d c b
    ∙ ap (λ (z : ℕ). z * (d * b)) p
    ∙ ap (λ (z : ℕ). a * e * z) (mul_comm d b ∙ sym q ∙ mul_comm N g)
    ∙ mul-mul-mul_comm a e g N
    ∙ ap (λ (z : ℕ). a * g * z) (mul_comm e N)

signs : {s z t w : Bool} → s ≡ z → t ≡ w → unlike s t ≡ unlike z w
signs {s} {z} {t} {w} p q = ap (λ (v : Bool). unlike v t) p ∙ ap (λ (v : Bool). unlike z v) q

not_zero : (n : ℕ) → 0 < n → T (not (eqb n 0))
not_zero zero h = absurd (omega arith)
not_zero (suc n) h = subst (λ (z : Bool). T (not z)) (sym (eqb-suc-zero n)) tt

-- ---- one rounding

-- A product of two values is the exact product, rounded once.
mul_round : (f : Format) (x y : Float) (s t : Bool) (a c b d : ℕ) → 0 < c → 0 < d → HasValue x s a c → HasValue y t b d → mul f x y ≡ round f (unlike s t) (a * b) (c * d)
unfolding mul
mul_round f nan y s t a c b d C D h k = absurd h
mul_round f (inf z) y s t a c b d C D h k = absurd h
mul_round f (fin z m e) nan s t a c b d C D h k = absurd k
mul_round f (fin z m e) (inf w) s t a c b d C D h k = absurd k
mul_round f (fin z m e) (fin w n g) s t a c b d C D h k =
    ap (λ (v : Bool). round f v (m * up e * (n * up g)) (down e * down g)) (signs h.0 k.0)
    ∙ round_same f (unlike s t) (m * up e * (n * up g)) (down e * down g) (a * b) (c * d) (mul-pos (down_pos e) (down_pos g)) (mul-pos C D)
    (cross_mul (m * up e) (n * up g) (down e) (down g) a b c d h.1 k.1)

-- A quotient by a value above 0 is the exact quotient, rounded once.
div_round : (f : Format) (x y : Float) (s t : Bool) (a c b d : ℕ) → 0 < c → 0 < b → 0 < d → HasValue x s a c → HasValue y t b d → div f x y ≡ round f (unlike s t) (a * d) (c * b)
unfolding div
div_round f nan y s t a c b d C B D h k = absurd h
div_round f (inf z) y s t a c b d C B D h k = absurd h
div_round f (fin z m e) nan s t a c b d C B D h k = absurd k
div_round f (fin z m e) (inf w) s t a c b d C B D h k = absurd k
div_round f (fin z m e) (fin w n g) s t a c b d C B D h k =
    let N : 0 < n * up g = first_pos (n * up g) d (subst (λ (v : ℕ). 0 < v) (sym k.1) (mul-pos B (down_pos g))) in
    cond_no (eqb n 0) _ _ (not_zero n (first_pos n (up g) N))
    ∙ ap (λ (v : Bool). round f v (m * up e * down g) (n * up g * down e)) (signs h.0 k.0)
    ∙ round_same f (unlike s t) (m * up e * down g) (n * up g * down e) (a * d) (c * b) (mul-pos N (down_pos e)) (mul-pos C B)
    (cross_div (m * up e) (n * up g) (down e) (down g) a b c d h.1 k.1)

-- ---- a whole number

-- A whole number up to 2^53-1 may be cast, and the cast keeps its value.
pub castable : (n : ℕ) → n ≤ max_int → T (in_float binary64 (pos n))
unfolding in_float
castable n h = le→leb n (2 ^ 53) (le_trans h (lit≤ tt))

pub cast_value : (n : ℕ) → n ≤ max_int → HasValue (of_int binary64 (pos n)) false n 1
unfolding of_int
cast_value n h = round_whole binary64 false n (le_trans h (lit≤ tt))

-- A change of sign changes the sign alone, of 0 too.
pub negated : (x : Float) (a c : ℕ) → HasValue x false a c → HasValue (neg x) true a c
unfolding neg
negated nan a c h = absurd h
negated (inf t) a c h = absurd h
negated (fin t m e) a c h = (ap not h.0, h.1)

-- ---- what is rounded is no NaN

odd_number : (d : ℕ) (s : Bool) (q k l : ℕ) → T (not (is_nan (odd d s q k l)))
unfolding odd is_nan
odd_number d s zero k l = tt
odd_number d s (suc q) k l = tt

units_number : (f : Format) (s : Bool) (q k : ℕ) → T (not (is_nan (units f s q k)))
unfolding units is_nan
units_number f s q k = go (ltb (q * 2 ^ k) (2 ^ (low f + suc (emax f))))
  where
    go : (b : Bool) → T (not (is_nan (cond b (odd (suc (prec f)) s q k (low f)) (inf s))))
    go true = odd_number (suc (prec f)) s q k (low f)
    go false = tt

round_number : (x : Float) (s : Bool) (a b : ℕ) → x ≡ round binary64 s a b → T (not (is_nan x))
round_number x s a b e = subst (λ (z : Float). T (not (is_nan z))) (sym (e ∙ round_is binary64 s a b)) (units_number binary64 s (kept 53 (a * 2 ^ 1074) b) (drop 53 (a * 2 ^ 1074) b))

-- ---- times and over a power of ten

unlike_plus : (s : Bool) → unlike s false ≡ s
unlike_plus true = refl
unlike_plus false = refl

module _ (s : Bool) (n k : ℕ) (x p : Float) (v : HasValue x s n 1) (w : HasValue p false (10 ^ k) 1) where
  -- the product, and the quotient, of a whole number and a power of ten
  pub product : mul binary64 x p ≡ round binary64 s (n * 10 ^ k) 1
  product = mul_round binary64 x p s false n 1 (10 ^ k) 1 (omega arith) (omega arith) v w ∙ ap (λ (z : Bool). round binary64 z (n * 10 ^ k) 1) (unlike_plus s)

  quotient : div binary64 x p ≡ round binary64 s n (10 ^ k)
  quotient =
      div_round binary64 x p s false n 1 (10 ^ k) 1 (omega arith) (ten_pos k) (omega arith) v w
      ∙ ap (λ (z : Bool). round binary64 z (n * 1) (1 * 10 ^ k)) (unlike_plus s)
      ∙ ap (λ (z : ℕ). round binary64 s z (1 * 10 ^ k)) (mul-one n)
      ∙ ap (λ (z : ℕ). round binary64 s n z) (one-mul (10 ^ k))

  pub times_number : T (not (is_nan (mul binary64 x p)))
  times_number = round_number (mul binary64 x p) s (n * 10 ^ k) 1 product

  pub over_number : T (not (is_nan (div binary64 x p)))
  over_number = round_number (div binary64 x p) s n (10 ^ k) quotient

  pub times_nearest : to_bits binary64 (mul binary64 x p) ≡ nearest s n (pos k)
  times_nearest = ap (to_bits binary64) product ∙ sym (nearest_is s n (pos k))

pub over_nearest : (s : Bool) (n k : ℕ) (x p : Float) → HasValue x s n 1 → HasValue p false (10 ^ k) 1 → to_bits binary64 (div binary64 x p) ≡ nearest s n (neg_ℤ (pos k))
over_nearest s n zero x p v w = ap (to_bits binary64) (quotient s n 0 x p v w ∙ ap (λ (z : ℕ). round binary64 s z 1) (sym (mul-one n))) ∙ sym (nearest_is s n (pos 0))
over_nearest s n (suc k) x p v w = ap (to_bits binary64) (quotient s n (suc k) x p v w ∙ ap (λ (z : ℕ). round binary64 s n (10 ^ z)) (sym (add-one k))) ∙ sym (nearest_is s n (negsuc k))
