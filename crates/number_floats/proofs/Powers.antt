-- The powers of ten up to 22 by repeated multiplication: each is 5 to k times 2 to k, and 5 to 22 is below 2 to 53, so a float holds it and no product rounds.
-- Assumes nothing.
use mathlib.Core.Path.{◌≡◌, refl, sym, ap, ◌∙◌, subst}
use mathlib.Core.Bool.{false}
use Prim.Native.Nat.{ℕ, zero, suc, ◌+◌, ◌*◌, ◌^◌, ◌≤◌, ◌<◌}
use native.Mathlib.Nat.{mul_assoc, mul-mul-mul_comm, mul-one, pow-suc, pow-le-pow_right, lt_of_le_of_lt, lt_of_lt_of_le}
use native.Mathlib.Omega.{arith}
use lib.Dec.{lit<}
use lib.Pow.{pow-add, pow_mono, shl_lt}
use lib.Ieee.{Float, binary64, of_bits, mul, round}
use lib.Ieee.Exact.{HasValue, round_exact}
use Rattle.number_floats.proofs.Operations.{product}

-- the floats 1 and 10, by their bits
pub one_value : HasValue (of_bits binary64 4607182418800017408) false (10 ^ 0) 1
unfolding of_bits
one_value = (refl, refl)

pub ten_value : HasValue (of_bits binary64 4621819117588971520) false (10 ^ 1) 1
unfolding of_bits
ten_value = (refl, refl)

-- ten to k is 5 to k times 2 to k
ten_is : (k : ℕ) → 10 ^ k ≡ 5 ^ k * 2 ^ k
ten_is zero = refl
ten_is (suc k) =
    pow-suc 10 k
    ∙ ap (λ (z : ℕ). z * 10) (ten_is k)
    ∙ mul-mul-mul_comm (5 ^ k) (2 ^ k) 5 2
    ∙ ap (λ (z : ℕ). z * (2 ^ k * 2)) (sym (pow-suc 5 k))
    ∙ ap (λ (z : ℕ). 5 ^ suc k * z) (sym (pow-suc 2 k))

-- a float holds ten to k
held : (k : ℕ) → k ≤ 22 → HasValue (round binary64 false (10 ^ k) 1) false (10 ^ k) 1
held k h =
    let small : 5 ^ k < 2 ^ 53 = lt_of_le_of_lt (pow-le-pow_right (lit< tt) h) (lit< tt) in
    let room : 53 + (k + 1074) ≤ 1074 + 1024 = omega arith in
    let fine : 5 ^ k * 2 ^ (k + 1074) < 2 ^ (1074 + 1024) = lt_of_lt_of_le (shl_lt 53 (k + 1074) small) (pow_mono room) in
    round_exact binary64 false (10 ^ k) 1 (5 ^ k) (k + 1074) (lit< tt) small fine
    (ap (λ (z : ℕ). z * 2 ^ 1074) (ten_is k) ∙ mul_assoc (5 ^ k) (2 ^ k) (2 ^ 1074) ∙ ap (λ (z : ℕ). 5 ^ k * z) (sym (pow-add 2 k 1074)) ∙ sym (mul-one (5 ^ k * 2 ^ (k + 1074))))

-- one product more
pub power_step : (i : ℕ) (x : Float) → i < 22 → HasValue x false (10 ^ i) 1 → HasValue (mul binary64 x (of_bits binary64 4621819117588971520)) false (10 ^ (i + 1)) 1
power_step i x h v =
    subst (λ (y : Float). HasValue y false (10 ^ (i + 1)) 1)
    (sym (product false (10 ^ i) 1 x (of_bits binary64 4621819117588971520) v ten_value ∙ ap (λ (z : ℕ). round binary64 false z 1) (sym (pow-add 10 i 1))))
    (held (i + 1) (omega arith))
