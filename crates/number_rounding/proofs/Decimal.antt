-- The float of a literal: the definition's `nearest` is the float nearest to N times ten to E, ties to even, with no upper limit, and an infinity
-- exactly where that is past the largest float (document 01: "the value is the float nearest to N times ten to E, ties to even, with the written sign";
-- document 02, W7: "what rounds past the largest float stays refused"). No other bits are the nearest float's. Assumes nothing.
use Rattle.std.specs.Prelude.{◌≡◌, Bool, true, ℕ, ◌+◌, ◌*◌, ◌^◌, ◌<◌, min, ℤ, Float}
use Rattle.std.proofs.Common.{sym, ap, ◌∙◌, subst, arith}
use native.Mathlib.Nat.{le_of_eq, lt_of_le_of_lt}
use Rattle.std.specs.Float.{binary64}
use Rattle.std.specs.Float.Ieee.{low, round, of_bits}
use Rattle.std.specs.Float.Ieee.Bits.{of_bits-fits, to_bits-of_bits}
use Rattle.std.specs.Float.Ieee.Fits.{round-fits}
use Rattle.std.specs.Float.Ieee.Order.{drop, kept}
use Rattle.std.specs.Float.Ieee.Scale.{grid, overflow}
use Rattle.definition.specs.Tables.{is_finite}
use Rattle.definition.specs.Literals.{nearest}
use Rattle.number_rounding.specs.Near.{Nearest, Rounded}
use Rattle.number_rounding.specs.Round.{grid_nearest}
use Rattle.number_rounding.specs.Unique.{Magnitude, magnitude, no_overflow}
use Rattle.number_rounding.specs.Bits.{infinity, sign_bit, capped, under, NearestBits}
use Rattle.number_rounding.proofs.Round.{round_nearest}
use Rattle.number_rounding.proofs.Unique.{one_nearest, same_bits}
use Rattle.number_rounding.proofs.Bits.{kept_best, round_bits, bits_of_round}
use Rattle.number_rounding.specs.Decimal.{above, below, nearest_is, below_pos, finite_bits, finite_within, read_back, value_number}

-- The bits of the nearest float, with the bit of the sign.
pub nearest_bits : (s : Bool) (n : ℕ) (e : ℤ) (r : ℕ) → NearestBits (above n e) (below e) r → nearest s n e ≡ sign_bit s + r
nearest_bits s n e r b = nearest_is s n e ∙ bits_of_round s (above n e) (below e) r (below_pos e) b

module _ (s : Bool) (n : ℕ) (e : ℤ) where
  -- What is no overflow has finite bits.
  within_finite : grid binary64 (above n e) (below e) < overflow binary64 → is_finite (nearest s n e) ≡ true
  within_finite h =
      let a = above n e * 2 ^ low binary64 in
      let c = kept 53 a (below e) in
      let k = drop 53 a (below e) in
      let b = kept_best (above n e) (below e) (below_pos e) in
      ap is_finite (nearest_is s n e ∙ round_bits s (above n e) (below e) c k (below_pos e) b) ∙ finite_bits s (min (k * 2 ^ 52 + c) infinity) (least (k * 2 ^ 52 + c) (under c k b.fit b.full h))
    where
      least : (x : ℕ) → x < infinity → min x infinity < infinity
      least x h = omega arith

  -- So the bits are finite exactly where the nearest magnitude, of all that there are with no upper limit, is below the least overflow.
  pub past_largest : (X : ℕ) → Magnitude X → Nearest (above n e) (below e) X → (is_finite (nearest s n e) ≡ true → X < overflow binary64) × (X < overflow binary64 → is_finite (nearest s n e) ≡ true)
  past_largest X m r =
      let a = above n e * 2 ^ low binary64 in
      let b = kept_best (above n e) (below e) (below_pos e) in
      let q : X ≡ grid binary64 (above n e) (below e) =
      one_nearest (above n e) (below e) (below_pos e) X (grid binary64 (above n e) (below e)) m (capped (kept 53 a (below e)) (drop 53 a (below e)) b.fit) r (grid_nearest (above n e) (below e) (below_pos e))
      in
      (λ f. lt_of_le_of_lt (le_of_eq q) (finite_within s n e f), λ h. within_finite (lt_of_le_of_lt (le_of_eq (sym q)) h))

  -- ---- the theorem

  rounded : grid binary64 (above n e) (below e) < overflow binary64 → Rounded (round binary64 s (above n e) (below e)) s (above n e) (below e)
  rounded h = round_nearest s (above n e) (below e) (below_pos e) h

  -- The definition's float, where it is one, is nearest to N times ten to E, ties to even.
  pub nearest_rounded : is_finite (nearest s n e) ≡ true → Rounded (of_bits binary64 (nearest s n e)) s (above n e) (below e)
  nearest_rounded f = subst (λ (z : Float). Rounded z s (above n e) (below e)) (sym (read_back s n e)) (rounded (finite_within s n e f))

-- And its bits are the only ones.
pub nearest_only : (s : Bool) (n : ℕ) (e : ℤ) (c : ℕ) → c < 2 ^ 64 → Rounded (of_bits binary64 c) s (above n e) (below e) → c ≡ nearest s n e
nearest_only s n e c h r =
    let f = of_bits-fits binary64 c in
    let x = of_bits binary64 c in
    let l : is_finite (nearest s n e) ≡ true = (past_largest s n e r.X (magnitude x s r.X f r.value) r.nearest).1 (no_overflow x s r.X f r.value) in
    sym (to_bits-of_bits binary64 c h (value_number x s r.X (2 ^ 1074) r.value))
    ∙ same_bits x (round binary64 s (above n e) (below e)) s (above n e) (below e) (below_pos e) f (round-fits binary64 s (above n e) (below e)) r (rounded s n e (finite_within s n e l))
    ∙ sym (nearest_is s n e)
