-- Shifts, and what moves the leading bit to the top. Assumes nothing.
use mathlib.Core.Path.{◌≡◌, sym, ap, ◌∙◌}
use Prim.Native.Nat.{ℕ, suc, ◌+◌, ◌*◌, ◌%◌, ◌^◌, ◌≤◌, ◌<◌}
use native.Mathlib.Nat.{le_trans, le_of_eq, mul-le-mul_right, one-mul}
use native.Mathlib.Omega.{arith}
use lib.Count.{count_leading_zeros}
use lib.Pow.{pow-add, shl_exact}
use Rattle.std.proofs.lemmas.Nat.{leading_top}

-- 1 << j
pub one_shl : (j : ℕ) → j ≤ 63 → 1 * 2 ^ j % 2 ^ 64 ≡ 2 ^ j
one_shl j h = shl_exact 1 j 64 (omega arith) (omega arith) ∙ one-mul (2 ^ j)

-- ---- the leading bit at the top

-- The zeros before the leading bit are as many as can be moved out.
pub moved_up : (n : ℕ) → 0 < n → n < 2 ^ 64 → let z = count_leading_zeros 64 n in (n * 2 ^ z % 2 ^ 64 ≡ n * 2 ^ z) × (2 ^ 63 ≤ n * 2 ^ z) × (z < 64)
moved_up n h l =
    let t = leading_top 64 n h l in
    let z = count_leading_zeros 64 n in
    let e : t.0 + z ≡ 63 = omega (arith, t.1) in
    (shl_exact (suc t.0) z 64 t.3 (omega arith), le_trans (le_of_eq (sym (ap (λ (k : ℕ). 2 ^ k) e) ∙ pow-add 2 t.0 z)) (mul-le-mul_right (2 ^ z) t.2), omega arith)
