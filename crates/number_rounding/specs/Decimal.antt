-- The fraction that a float literal writes, and what its bits say of an overflow. proofs/Decimal has the theorem: the definition's `nearest` is the float nearest
-- to N times ten to E, ties to even. Assumes nothing.
use Rattle.std.specs.Prelude.{◌≡◌, refl, Bool, true, false, not, ℕ, ◌+◌, ◌*◌, ◌/◌, ◌%◌, ◌^◌, ◌≤◌, ◌<◌, T, leb, ℤ, pos, negsuc, Float}
use Rattle.std.proofs.Common.{sym, ap, ◌∙◌, true≢false, arith, lt-ltb, leb→le}
use native.Mathlib.Nat.{le_of_eq, lt_of_le_of_lt, one-le-pow}
use Rattle.std.proofs.Math.Dec.{nleb→lt}
use Rattle.std.specs.Float.{nan, inf, fin, binary64}
use Rattle.std.specs.Float.Ieee.{round, to_bits, of_bits, is_nan}
use Rattle.std.specs.Float.Ieee.Bits.{of_bits-to_bits}
use Rattle.std.specs.Float.Ieee.Exact.{HasValue}
use Rattle.std.specs.Float.Ieee.Fits.{round-fits}
use Rattle.std.specs.Float.Ieee.Scale.{grid, overflow, round_same}
use Rattle.definition.specs.Tables.{is_finite}
use Rattle.definition.specs.Literals.{nearest}
use Rattle.number_rounding.specs.Bits.{infinity, sign_bit, round_past}

-- N times ten to E is the fraction above / below
abbrev pub above : ℕ → ℤ → ℕ
above n (pos e) = n * 10 ^ e
above n (negsuc e) = n

abbrev pub below : ℤ → ℕ
below (pos e) = 1
below (negsuc e) = 10 ^ (e + 1)

-- The definition rounds that fraction once.
pub nearest_is : (s : Bool) (n : ℕ) (e : ℤ) → nearest s n e ≡ to_bits binary64 (round binary64 s (above n e) (below e))
unfolding nearest
nearest_is s n (pos e) = refl
nearest_is s n (negsuc e) = refl

pub ten_pos : (k : ℕ) → 0 < 10 ^ k
ten_pos k = one-le-pow k 10 (omega arith)

pub below_pos : (e : ℤ) → 0 < below e
below_pos (pos e) = omega arith
below_pos (negsuc e) = ten_pos (e + 1)

-- Nothing times a power of ten is nothing, whatever the power.
pub nearest_zero : (s : Bool) (d e : ℤ) → nearest s 0 d ≡ nearest s 0 e
nearest_zero s d e =
    nearest_is s 0 d ∙ ap (to_bits binary64) (round_same binary64 s (above 0 d) (below d) (above 0 e) (below e) (below_pos d) (below_pos e) (nothing d e)) ∙ sym (nearest_is s 0 e)
  where
    zero_above : (d : ℤ) → above 0 d ≡ 0
    zero_above (pos d) = native.Mathlib.Nat.zero-mul (10 ^ d)
    zero_above (negsuc d) = refl

    nothing : (d e : ℤ) → above 0 d * below e ≡ above 0 e * below d
    nothing d e =
        ap (λ (z : ℕ). z * below e) (zero_above d) ∙ native.Mathlib.Nat.zero-mul (below e) ∙ sym (ap (λ (z : ℕ). z * below d) (zero_above e) ∙ native.Mathlib.Nat.zero-mul (below d))

-- ---- an overflow shows in the bits

pub finite_bits : (s : Bool) (r : ℕ) → r < infinity → is_finite (sign_bit s + r) ≡ true
unfolding is_finite
finite_bits true r h = lt-ltb ((2 ^ 63 + r) % 2 ^ 63 / 2 ^ 52) 2047 (omega arith)
finite_bits false r h = lt-ltb ((0 + r) % 2 ^ 63 / 2 ^ 52) 2047 (omega arith)

infinite_bits : (s : Bool) → is_finite (sign_bit s + infinity) ≡ false
unfolding is_finite
infinite_bits true = refl
infinite_bits false = refl

module _ (s : Bool) (n : ℕ) (e : ℤ) where
  -- Finite bits are no overflow.
  pub finite_within : is_finite (nearest s n e) ≡ true → grid binary64 (above n e) (below e) < overflow binary64
  finite_within f = let g = grid binary64 (above n e) (below e) in go g (leb (overflow binary64) g) (leb→le (overflow binary64) g) (nleb→lt (overflow binary64) g) (λ h. round_past s (above n e) (below e) h)
    where
      go : (g : ℕ) (t : Bool) → (T t → overflow binary64 ≤ g) → (T (not t) → g < overflow binary64)
          → (overflow binary64 ≤ g → to_bits binary64 (round binary64 s (above n e) (below e)) ≡ sign_bit s + infinity) → g < overflow binary64
      go g true h k p = absurd (true≢false (sym f ∙ ap is_finite (nearest_is s n e ∙ p (h tt)) ∙ infinite_bits s))
      go g false h k p = k tt

  -- the float that the definition's bits stand for
  pub read_back : of_bits binary64 (nearest s n e) ≡ round binary64 s (above n e) (below e)
  read_back = ap (of_bits binary64) (nearest_is s n e) ∙ of_bits-to_bits binary64 (round binary64 s (above n e) (below e)) (round-fits binary64 s (above n e) (below e))

-- what has a value is no NaN
pub value_number : (x : Float) (s : Bool) (a c : ℕ) → HasValue x s a c → T (not (is_nan x))
unfolding is_nan
value_number nan s a c h = absurd h
value_number (inf t) s a c h = tt
value_number (fin t m e) s a c h = tt
