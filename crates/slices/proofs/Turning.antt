-- How many places a step apart lie below a bound, by one division. Assumes nothing.
use Prim.Native.Nat.{ℕ, suc, ◌+◌, ◌-◌, ◌*◌, ◌/◌, ◌≤◌, ◌<◌}
use mathlib.Core.Path.{◌≡◌}
use native.Mathlib.Nat.{suc-mul, lt-div-mul-add, div-mul-le_self}
use native.Mathlib.Numerals.{add-one}
use native.Mathlib.Omega.{arith}
use Rattle.slices.specs.Walks.{Turns}

-- a number that is one more than q is q's successor alone
last : (q m : ℕ) → q + 1 ≡ suc m → m ≡ q
last q m e = omega arith

-- The quotient of what lies between, with one for the first place.
pub turns_by_division : (from to step : ℕ) → 0 < step → from < to → Turns from to step ((to - from - 1) / step + 1)
turns_by_division from to step p h =
    let q = (to - from - 1) / step in
    let low : q * step ≤ to - from - 1 = div-mul-le_self (to - from - 1) step in
    let high : to - from - 1 < q * step + step = lt-div-mul-add p in
    record {
      enough = rw (add-one, suc-mul) (omega arith);
      needed = λ m e. rw (last q m e) (omega arith);
    }
