-- What "the float nearest to a / b, ties to even" means, over whole numbers alone (document 01: "Statements over floats and fractions multiply out to whole numbers").
-- A float's magnitude is counted in units of the smallest positive one, 2 ^ -1074: it is X units for a whole number X.
-- The magnitudes of floats are the X = q * 2 ^ k with q below 2 ^ 53 (and, for an X that is no overflow, below 2 ^ 2098).
-- So a / b is near X units as a * 2 ^ 1074 is near X * b.
use Rattle.std.specs.Prelude.{◌≡◌, Bool, ◌⊎◌, ℕ, ◌+◌, ◌-◌, ◌*◌, ◌^◌, ◌%◌, ◌≤◌, ◌<◌, Float}
use Rattle.std.specs.Float.Ieee.Exact.{HasValue}

-- the distance of two numbers
abbrev pub gap : ℕ → ℕ → ℕ
gap x y = (x - y) + (y - x)

-- X has an even significand: it is q * 2 ^ k with an even q of at most 53 digits (2 ^ 53 stands for 2 ^ 52 at k + 1), all of them in use unless k is 0
pub record EvenDigits (X : ℕ) : Type 0 where
  pub q : ℕ
  pub k : ℕ
  pub is : X ≡ q * 2 ^ k
  pub even : q % 2 ≡ 0
  pub fit : q ≤ 2 ^ 53
  pub full : (k ≡ 0) ⊎ (2 ^ 52 ≤ q)

-- X units are nearest to a / b among the magnitudes of floats, and where another one is as near, X is the even one
pub record Nearest (a b X : ℕ) : Type 0 where
  pub near : (q k : ℕ) → q < 2 ^ 53 → gap (a * 2 ^ 1074) (X * b) ≤ gap (a * 2 ^ 1074) (q * 2 ^ k * b)
  pub tie : (q k : ℕ) → q < 2 ^ 53 → gap (a * 2 ^ 1074) (X * b) ≡ gap (a * 2 ^ 1074) (q * 2 ^ k * b) → (X ≡ q * 2 ^ k → ⊥) → EvenDigits X

-- the float r is finite, has the sign s, and is nearest to a / b in magnitude
pub record Rounded (r : Float) (s : Bool) (a b : ℕ) : Type 0 where
  pub X : ℕ
  pub value : HasValue r s X (2 ^ 1074)
  pub nearest : Nearest a b X
