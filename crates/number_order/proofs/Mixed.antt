-- An i64 and a float, by the sign of each: the order that the code answers is that of the numbers.
-- The i64 stands as its bits have it; n is its magnitude. Assumes nothing.
use mathlib.Core.Path.{◌≡◌, sym, ap, ◌∙◌, subst}
use mathlib.Core.Bool.{Bool, true, false}
use Prim.Native.Nat.{ℕ, ◌*◌, ◌^◌, ◌≤◌, ◌<◌, compare}
use native.Mathlib.Nat.{mul-pos}
use native.Mathlib.Omega.{arith}
use lib.Pow.{pow_pos}
use lib.IntN.{ℤ, pos, nat_abs}
use lib.Signed.{lt_z}
use lib.Ieee.{Float}
use mir.Syntax.{w64}
use mir.Val.{SFits, of_z, to_z}
use mir.ValLaws.{to_z-of_z}
use Rattle.number_integers.specs.Signed.{signed}
use Rattle.number_order.specs.Exact.{order_z, answer, of_integer, of_float, order_of, significand, shift}
use Rattle.std.specs.declared.cmp.Ordering.TheVariants.{Less, Greater}
use Rattle.std.specs.Ordering.{ordering_reverse}
use Rattle.number_order.proofs.Orders.{both_minus, above_minus, below_plus, zero_minus, reverse_compare}
use Rattle.number_order.proofs.Signs.{minus, plus}
use Rattle.number_order.proofs.Patterns.{Pattern, mixed_order}

-- the magnitude of a float's pattern, in units of 2 ^ -1074
abbrev pub units : ℕ → ℕ
units b = significand b * 2 ^ shift b

module _ (i : ℤ) (f : SFits w64 i) where
  -- the number that the bits of i stand for
  abbrev pub held : ℤ
  held = to_z w64 (of_z w64 i)

  -- The order of a number with a known sign and a float of a known pattern.
  by_signs : (t s : Bool) (n b : ℕ) (v : Float) → held ≡ signed t n → Pattern v s b → order_of (of_integer i) (of_float v) ≡ order_z (signed t (n * 2 ^ 1074)) (signed s (units b))
  by_signs t s n b v e p =
      ap (λ (z : ℤ). order_of (of_integer z) (of_float v)) (sym (to_z-of_z w64 i f) ∙ e) ∙ mixed_order t s n (units b) (2 ^ 1074) v (pow_pos 1074) p.value

  module _ (n b : ℕ) (v : Float) (m : n ≡ nat_abs held) where
    is_minus_lem : lt_z held (pos 0) ≡ true → held ≡ signed true n
    is_minus_lem t = (minus held t).0 ∙ ap (signed true) (sym m)

    is_plus : lt_z held (pos 0) ≡ false → held ≡ signed false n
    is_plus t = plus held t ∙ ap (signed false) (sym m)

    -- A negative integer is less than a float with no sign.
    pub minus_plus : lt_z held (pos 0) ≡ true → Pattern v false b → Less ≡ answer (order_of (of_integer i) (of_float v))
    minus_plus t p =
        let l : 0 < n = subst (λ (z : ℕ). 0 < z) (sym m) (minus held t).1 in
        sym (ap answer (by_signs true false n b v (is_minus_lem t) p ∙ below_plus (n * 2 ^ 1074) (units b) (mul-pos l (pow_pos 1074))))

    -- Where neither has a sign, the magnitudes decide.
    pub plus_plus : lt_z held (pos 0) ≡ false → Pattern v false b → answer (compare (n * 2 ^ 1074) (units b)) ≡ answer (order_of (of_integer i) (of_float v))
    plus_plus t p = sym (ap answer (by_signs false false n b v (is_plus t) p))

    -- Where both have one, the magnitudes decide the other way round.
    pub minus_minus : lt_z held (pos 0) ≡ true → Pattern v true b → ordering_reverse (answer (compare (n * 2 ^ 1074) (units b))) ≡ answer (order_of (of_integer i) (of_float v))
    minus_minus t p = reverse_compare (n * 2 ^ 1074) (units b) ∙ sym (ap answer (by_signs true true n b v (is_minus_lem t) p ∙ both_minus (n * 2 ^ 1074) (units b)))

    -- An integer above 0 is greater than a float with a sign.
    pub above_float : lt_z held (pos 0) ≡ false → 0 < n → Pattern v true b → Greater ≡ answer (order_of (of_integer i) (of_float v))
    above_float t l p = sym (ap answer (by_signs false true n b v (is_plus t) p ∙ above_minus (n * 2 ^ 1074) (units b) (mul-pos l (pow_pos 1074))))

    -- 0 and a float with a sign: the magnitudes decide, since the float may be -0.0.
    pub zero_float : lt_z held (pos 0) ≡ false → n ≤ 0 → Pattern v true b → ordering_reverse (answer (compare (n * 2 ^ 1074) (units b))) ≡ answer (order_of (of_integer i) (of_float v))
    zero_float t l p =
        let e : n ≡ 0 = omega arith in
        let z : n * 2 ^ 1074 ≡ 0 = ap (λ (x : ℕ). x * 2 ^ 1074) e in
        reverse_compare (n * 2 ^ 1074) (units b)
        ∙ sym (ap answer (by_signs false true n b v (is_plus t) p ∙ ap (λ (x : ℕ). order_z (signed false x) (signed true (units b))) z ∙ zero_minus (units b) ∙ ap (compare (units b)) (sym z)))
