-- Finite floats by their bits, and numbers in the two ways in which they are put in order. Assumes nothing.
use Prim.Native.Nat.compare
use Prim.Native.Nat.{ℕ, zero, suc, ◌*◌, ◌/◌, ◌%◌, ◌^◌, ◌<◌, Ordering}
use Rattle.std.specs.Prelude.{◌≡◌, refl, Bool, true, false, not, T, eqb, ℤ, pos, negsuc, neg_ℤ, nat_abs, ◌*ℤ◌, Float, Some}
use Rattle.std.proofs.Common.{ap, ◌∙◌, mul-one, zero-mul, arith, ltb-true, le-ltb}
use Rattle.std.proofs.Math.Dec.{eqb-suc-zero}
use Rattle.std.specs.Float.{binary64}
use Rattle.std.specs.Float.Ieee.{of_bits, nan_bits}
use Rattle.std.specs.Float.Ieee.Bits.{nan_bits_above}
use Rattle.std.specs.Float.Ieee.Scale.{finite}
use Rattle.definition.specs.Tables.{is_finite}
use Rattle.definition.specs.Compare.{Fraction, order_fractions, whole_fraction, float_fraction}
use Rattle.definition.specs.Compare as D
use Rattle.number_order.specs.Finite.{bits_finite as finite_bits}
use Rattle.number_order.specs.Exact.{of_integer, of_float, order_of, answer}
use Rattle.std.specs.declared.cmp.Ordering.TheVariants.{Less, Equal, Greater}
use Rattle.std.specs.declared.cmp.Ordering.{Ordering as Rank}
use Rattle.eval_values.specs.Ranks.{ranked}

-- bits whose exponent's field is not all ones
small_bits : (b : ℕ) → is_finite b ≡ true → b % 2 ^ 63 < 2047 * 2 ^ 52
unfolding is_finite
small_bits b h = let l = ltb-true (b % 2 ^ 63 / 2 ^ 52) 2047 h in omega arith

-- are those of a finite float
pub bits_finite : (b : ℕ) → is_finite b ≡ true → T (finite (of_bits binary64 b))
bits_finite b h = finite_bits b (small_bits b h)

-- and of no NaN
pub bits_number : (b : ℕ) → is_finite b ≡ true → nan_bits binary64 b ≡ false
bits_number b h = nan_bits_above binary64 b ∙ le-ltb (2047 * 2 ^ 52) (b % 2 ^ 63) (let l = small_bits b h in omega arith)

-- ---- the crate `number_order` answers in the definition's order

-- two fractions that are one number
abbrev pub One : Fraction → Fraction → Type 0
One r a = r ≡ a

pub one_whole : (z : ℤ) → One (of_integer z) (whole_fraction z)
one_whole z = refl

pub one_float : (x : Float) → One (of_float x) (float_fraction x)
one_float x = refl

order_same : (r s : Fraction) (a b : Fraction) → One r a → One s b → order_of r s ≡ order_fractions a b
order_same r s a b x y = ap (λ (z : Fraction). order_fractions z s) x ∙ ap (λ (z : Fraction). order_fractions a z) y

ordered_answer : (o : Ordering) → Some (answer o) ≡ ranked o
ordered_answer Ordering.lt = refl
ordered_answer Ordering.eq = refl
ordered_answer Ordering.gt = refl

-- the rank of two numbers, from the answer of `number_order`
pub rank_answer : (r s : Fraction) (a b : Fraction) (o : Rank) → One r a → One s b → o ≡ answer (order_of r s) → Some o ≡ ranked (order_fractions a b)
rank_answer r s a b o x y e = ap Some (e ∙ ap answer (order_same r s a b x y)) ∙ ordered_answer (order_fractions a b)

-- ---- zeros

abbrev pub not_equal : Rank → Bool
not_equal Less = true
not_equal Equal = false
not_equal Greater = true

zero_by : (z : ℤ) → not_equal (answer (D.order_z (pos 0) z)) ≡ not (eqb (nat_abs z) 0)
zero_by (pos zero) = refl
zero_by (pos (suc n)) = rw (compare.zero-suc n, eqb-suc-zero n)
zero_by (negsuc n) = rw (eqb-suc-zero n)

times_one : (z : ℤ) → z *ℤ pos 1 ≡ z
times_one (pos n) = ap pos (mul-one n)
times_one (negsuc n) = ap (λ (m : ℕ). neg_ℤ (pos m)) (mul-one (suc n))

-- a float is no zero where 0 is not equal to it
pub nonzero : (x : Float) → not_equal (answer (order_of (of_integer (pos 0)) (of_float x))) ≡ not (eqb (nat_abs (float_fraction x).num) 0)
nonzero x =
    ap (λ (o : Ordering). not_equal (answer o)) (order_same (of_integer (pos 0)) (of_float x) (whole_fraction (pos 0)) (float_fraction x) (one_whole (pos 0)) (one_float x))
    ∙ ap (λ (z : ℤ). not_equal (answer (D.order_z z ((float_fraction x).num *ℤ pos 1)))) (ap pos (zero-mul (float_fraction x).den))
    ∙ ap (λ (z : ℤ). not_equal (answer (D.order_z (pos 0) z))) (times_one (float_fraction x).num)
    ∙ zero_by (float_fraction x).num

-- the same of an integer that is read as another
pub one_whole_at : (y z : ℤ) → y ≡ z → One (of_integer y) (whole_fraction z)
one_whole_at y z e = ap whole_fraction e
