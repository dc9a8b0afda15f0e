-- What `round` keeps is nearest to a / b (specs/Round), so `round` gives the nearest float, a tie to the even one, where nothing overflows. Assumes nothing.
use Rattle.std.specs.Prelude.{Bool, Float}
use Rattle.std.proofs.Common.{sym}
use Rattle.std.proofs.Math.Path.{subst}
use Prim.Native.Nat.{ℕ, ◌*◌, ◌^◌, ◌<◌}
use Rattle.std.specs.Float.{binary64}
use Rattle.std.specs.Float.Ieee.{low, round}
use Rattle.std.specs.Float.Ieee.Exact.{HasValue, units_val}
use Rattle.std.specs.Float.Ieee.Fits.{round_is}
use Rattle.std.specs.Float.Ieee.Order.{drop, kept}
use Rattle.std.specs.Float.Ieee.Scale.{grid, overflow}
use Rattle.number_rounding.specs.Near.{Rounded}
use Rattle.number_rounding.specs.Round.{grid_nearest}

-- `round` gives the float nearest to a / b, with the sign, where that is no overflow.
pub round_nearest : (s : Bool) (a b : ℕ) → 0 < b → grid binary64 a b < overflow binary64 → Rounded (round binary64 s a b) s a b
round_nearest s a b B h =
    let n = a * 2 ^ low binary64 in
    record {
      X = grid binary64 a b;
      value = subst (λ (z : Float). HasValue z s (grid binary64 a b) (2 ^ low binary64)) (sym (round_is binary64 s a b)) (units_val binary64 s (kept 53 n b) (drop 53 n b) h);
      nearest = grid_nearest a b B;
    }
