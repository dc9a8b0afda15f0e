-- The bits of the nearest float: c steps of 2 ^ k units that are nearest have the bits k * 2 ^ 52 + c, or those of an infinity where that is past the largest float. Assumes nothing.
use Rattle.std.specs.Prelude.{◌≡◌, Bool, true, false, not, ℕ, ◌+◌, ◌*◌, ◌^◌, ◌≤◌, ◌<◌, min, T, leb}
use Rattle.std.proofs.Common.{sym, ap, ◌∙◌, le_trans, le_of_eq, lt_of_le_of_lt, arith, leb→le}
use Rattle.std.proofs.Math.Dec.{nleb→lt}
use Rattle.std.specs.Float.{binary64}
use Rattle.std.specs.Float.Ieee.{round, to_bits, low}
use Rattle.std.specs.Float.Ieee.Order.{drop, kept}
use Rattle.std.specs.Float.Ieee.Scale.{grid, overflow}
use Rattle.number_rounding.specs.Round.{kept_le, full, grid_nearest}
use Rattle.number_rounding.specs.Unique.{bits_of}
use Rattle.number_rounding.proofs.Unique.{one_nearest}
use Rattle.number_rounding.specs.Decided.{Best}
use Rattle.number_rounding.specs.Bits.{infinity, sign_bit, capped, steps_bits, under, over, round_past, round_within, NearestBits}

-- The nearest number of steps is what `round` keeps.
pub kept_steps : (a b c k : ℕ) → 0 < b → Best a b c k → c * 2 ^ k ≡ grid binary64 a b
kept_steps a b c k B r =
    let n = a * 2 ^ low binary64 in
    one_nearest a b B (c * 2 ^ k) (grid binary64 a b) (capped c k r.fit) (capped (kept 53 n b) (drop 53 n b) (kept_le 53 n b (omega arith) B)) r.nearest (grid_nearest a b B)

-- What `round` keeps is itself a nearest number of steps.
pub kept_best : (a b : ℕ) → 0 < b → Best a b (kept 53 (a * 2 ^ low binary64) b) (drop 53 (a * 2 ^ low binary64) b)
kept_best a b B = let n = a * 2 ^ low binary64 in record { fit = kept_le 53 n b (omega arith) B; full = full 53 n b (omega arith) B; nearest = grid_nearest a b B }

-- The bits of the nearest float, by its number of steps.
pub round_bits : (s : Bool) (a b c k : ℕ) → 0 < b → Best a b c k → to_bits binary64 (round binary64 s a b) ≡ sign_bit s + min (k * 2 ^ 52 + c) infinity
round_bits s a b c k B r = go (leb (overflow binary64) (c * 2 ^ k)) (leb→le (overflow binary64) (c * 2 ^ k)) (nleb→lt (overflow binary64) (c * 2 ^ k))
  where
    e : c * 2 ^ k ≡ grid binary64 a b
    e = kept_steps a b c k B r

    small : (t x : ℕ) → x < infinity → t + x ≡ t + min x infinity
    small t x h = omega arith

    large : (t x : ℕ) → infinity ≤ x → t + infinity ≡ t + min x infinity
    large t x h = omega arith

    sum : (t x y : ℕ) → t + x + y ≡ t + (x + y)
    sum t x y = omega arith

    go : (v : Bool) → (T v → overflow binary64 ≤ c * 2 ^ k) → (T (not v) → c * 2 ^ k < overflow binary64) → to_bits binary64 (round binary64 s a b) ≡ sign_bit s + min (k * 2 ^ 52 + c) infinity
    go true h l = round_past s a b (le_trans (h tt) (le_of_eq e)) ∙ large (sign_bit s) (k * 2 ^ 52 + c) (over c k r.fit r.full (h tt))
    go false h l =
        round_within s a b (lt_of_le_of_lt (le_of_eq (sym e)) (l tt))
        ∙ ap (bits_of s) (sym e)
        ∙ steps_bits s c k r.fit r.full
        ∙ sum (sign_bit s) (k * 2 ^ 52) c
        ∙ small (sign_bit s) (k * 2 ^ 52 + c) (under c k r.fit r.full (l tt))

-- With the bit of the sign they are the bits that `round` gives.
pub bits_of_round : (s : Bool) (a b r : ℕ) → 0 < b → NearestBits a b r → to_bits binary64 (round binary64 s a b) ≡ sign_bit s + r
bits_of_round s a b r B n = round_bits s a b n.c n.k B n.best ∙ ap (λ (z : ℕ). sign_bit s + z) (sym n.is)
