-- The numbers that are compared fit their limbs. Assumes nothing.
use mathlib.Core.Path.{◌≡◌, sym, ap, ◌∙◌}
use Prim.Native.Nat.{ℕ, zero, suc, ◌+◌, ◌*◌, ◌^◌, ◌≤◌, ◌<◌}
use native.Mathlib.Nat.{le_refl, le_trans, le_of_eq, lt_of_lt_of_le, mul-le-mul, mul-le-mul_left, mul-lt-mul_of_pos_right, pow-suc, one-le-pow}
use native.Mathlib.Omega.{arith}
use lib.Pow.{pow-add, pow_pos, pow_mono}

-- ten is below 2 ^ 4
tens : (p : ℕ) → 10 ^ p ≤ 2 ^ (4 * p)
tens zero = le_refl 1
tens (suc p) =
    le_trans (le_of_eq (pow-suc 10 p)) (le_trans (mul-le-mul {n₁ = 10 ^ p} {m₁ = 10} {n₂ = 2 ^ (4 * p)} {m₂ = 2 ^ 4} (tens p) (omega arith)) (le_of_eq (sym (pow-add 2 (4 * p) 4) ∙ ap (λ (z : ℕ). 2 ^ z) (four p))))
  where
    four : (p : ℕ) → 4 * p + 4 ≡ 4 * suc p
    four p = omega arith

-- m of x bits, times ten to p, times two to e
pub fits : (m x p e : ℕ) → m < 2 ^ x → x + 4 * p + e ≤ 2432 → m * 10 ^ p * 2 ^ e < 2 ^ 2432
fits m x p e h l =
    let a : m * 10 ^ p < 2 ^ x * 10 ^ p = mul-lt-mul_of_pos_right h (one-le-pow p 10 (omega arith)) in
    let b : m * 10 ^ p < 2 ^ (x + 4 * p) = lt_of_lt_of_le a (le_trans (mul-le-mul_left (2 ^ x) (tens p)) (le_of_eq (sym (pow-add 2 x (4 * p))))) in
    lt_of_lt_of_le (mul-lt-mul_of_pos_right b (pow_pos e)) (le_trans (le_of_eq (sym (pow-add 2 (x + 4 * p) e))) (pow_mono l))
