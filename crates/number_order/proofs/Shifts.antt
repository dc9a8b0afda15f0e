-- A number and a significand that is shifted: the bounds that decide their order without the product. Assumes nothing.
use mathlib.Core.Path.{◌≡◌, sym, ap, ◌∙◌}
use Prim.Native.Nat.{ℕ, ◌+◌, ◌-◌, ◌*◌, ◌/◌, ◌%◌, ◌^◌, ◌≤◌, ◌<◌, compare, Ordering}
use native.Mathlib.Nat.{le_trans, le_of_eq, le_of_lt, lt_of_lt_of_le, lt_of_le_of_lt, mul_assoc, mul-le-mul_left, mul-le-mul_right, mul-lt-mul_of_pos_right, one-mul, div-mul-le_self, div-lt_iff_lt-mul, mod-eq_of_lt}
use native.Mathlib.Omega.{arith}
use lib.Dec.{lit≤}
use lib.Pow.{pow-add, pow_pos, pow_mono, shl_exact}
use borrow.Author.Tests.{lt-ltb}
use Rattle.std.specs.Ordering.{ordering_then, nat_cmp}
use Rattle.number_integers.specs.Compare.{Says, said}
use Rattle.number_order.specs.Exact.{answer, significand, shift}
use Rattle.number_order.proofs.Orders.{scale_compare, cmp_compare, lt_compare, gt_compare}

-- A significand of 53 digits, shifted by more than 11, is past every u64.
pub past_all : (n m k : ℕ) → n < 2 ^ 64 → 2 ^ 52 ≤ m → 11 < k → n < m * 2 ^ k
past_all n m k h l g = lt_of_lt_of_le h (le_trans (mul-le-mul_left (2 ^ 52) (pow_mono {i = 12} {j = k} g)) (mul-le-mul_right (2 ^ k) l))

-- Shifted by less it fits.
pub shift_fits : (m k : ℕ) → m < 2 ^ 53 → k ≤ 11 → m * 2 ^ k % 2 ^ 64 ≡ m * 2 ^ k
shift_fits m k h l = shl_exact 53 k 64 h (omega arith)

-- A number above 0, shifted by more than 53, is past every significand.
pub past_digits : (n m k : ℕ) → 0 < n → m < 2 ^ 53 → 53 < k → m < n * 2 ^ k
past_digits n m k N M K =
    lt_of_lt_of_le M (le_trans (pow_mono {i = 53} {j = k} (le_of_lt K)) (le_trans (le_of_eq (sym (one-mul (2 ^ k)))) (mul-le-mul_right (2 ^ k) N)))

-- A number that is not the quotient by 2 ^ k decides as the quotient does.
pub under_quotient : (n m k : ℕ) → n < m / 2 ^ k → n * 2 ^ k < m
under_quotient n m k h = lt_of_lt_of_le (mul-lt-mul_of_pos_right h (pow_pos k)) (div-mul-le_self m (2 ^ k))

pub over_quotient : (n m k : ℕ) → m / 2 ^ k < n → m < n * 2 ^ k
over_quotient n m k h = (div-lt_iff_lt-mul (pow_pos k)).0 h

-- The quotient shifted back fits.
pub back_fits : (m k : ℕ) → m < 2 ^ 53 → m / 2 ^ k * 2 ^ k % 2 ^ 64 ≡ m / 2 ^ k * 2 ^ k
back_fits m k h = mod-eq_of_lt (lt_of_le_of_lt (div-mul-le_self m (2 ^ k)) (lt_of_lt_of_le h (lit≤ tt)))

-- ---- the pattern's words at an exponent's field of 0, below 1075, and from there on

pub low_bits : (b : ℕ) → b / 2 ^ 52 ≡ 0 → b ≡ significand b * 2 ^ shift b
low_bits b e = rw e (omega arith)

pub high_bits : (b : ℕ) → (b / 2 ^ 52 ≡ 0 → ⊥) → 2 ^ 52 + b % 2 ^ 52 ≡ significand b
high_bits b e = rw (lt-ltb 0 (b / 2 ^ 52) (omega arith))

pub with_fraction : (n m x : ℕ) → 0 < x → x < 1075 → compare (n * 2 ^ (1075 - x)) m ≡ compare (n * 2 ^ 1074) (m * 2 ^ (x - 1))
with_fraction n m x X l =
    let s : 1075 - x + (x - 1) ≡ 1074 = omega arith in
    let e : n * 2 ^ (1075 - x) * 2 ^ (x - 1) ≡ n * 2 ^ 1074 =
    mul_assoc n (2 ^ (1075 - x)) (2 ^ (x - 1)) ∙ ap (λ (z : ℕ). n * z) (sym (pow-add 2 (1075 - x) (x - 1)) ∙ ap (λ (z : ℕ). 2 ^ z) s)
    in
    sym (scale_compare (n * 2 ^ (1075 - x)) m (2 ^ (x - 1)) (pow_pos (x - 1))) ∙ ap (λ (z : ℕ). compare z (m * 2 ^ (x - 1))) e

pub no_fraction : (n m x : ℕ) → 1075 ≤ x → compare n (m * 2 ^ (x - 1075)) ≡ compare (n * 2 ^ 1074) (m * 2 ^ (x - 1))
no_fraction n m x l =
    let s : x - 1075 + 1074 ≡ x - 1 = omega arith in
    let e : m * 2 ^ (x - 1075) * 2 ^ 1074 ≡ m * 2 ^ (x - 1) =
    mul_assoc m (2 ^ (x - 1075)) (2 ^ 1074) ∙ ap (λ (z : ℕ). m * z) (sym (pow-add 2 (x - 1075) 1074) ∙ ap (λ (z : ℕ). 2 ^ z) s)
    in
    sym (scale_compare n (m * 2 ^ (x - 1075)) (2 ^ 1074) (pow_pos 1074)) ∙ ap (λ (z : ℕ). compare (n * 2 ^ 1074) z) e

-- The quotient decides, and where it is n the digits shifted out do.
pub by_quotient : (n m k : ℕ) → ordering_then (nat_cmp n (m / 2 ^ k)) (nat_cmp (m / 2 ^ k * 2 ^ k) m) ≡ answer (compare (n * 2 ^ k) m)
by_quotient n m k = rw (cmp_compare n (m / 2 ^ k)) (go (compare n (m / 2 ^ k)) (said n (m / 2 ^ k)))
  where
    go : (o : Ordering) → Says o n (m / 2 ^ k) → ordering_then (answer o) (nat_cmp (m / 2 ^ k * 2 ^ k) m) ≡ answer (compare (n * 2 ^ k) m)
    go Ordering.lt c = sym (ap answer (lt_compare (n * 2 ^ k) m (under_quotient n m k c)))
    go Ordering.eq c = cmp_compare (m / 2 ^ k * 2 ^ k) m ∙ ap (λ (q : ℕ). answer (compare (q * 2 ^ k) m)) (sym c)
    go Ordering.gt c = sym (ap answer (gt_compare (n * 2 ^ k) m (over_quotient n m k c)))
