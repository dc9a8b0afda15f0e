-- Laws of the order of natural and of whole numbers: what `compare` and `order_z` say, and that a factor above 0 changes no order. Assumes nothing.
use mathlib.Core.Path.{◌≡◌, refl, sym, ap, ◌∙◌}
use mathlib.Core.Bool.{Bool, true, false, cond}
use Prim.Native.Nat.compare
use Prim.Native.Nat.{ℕ, zero, suc, ◌*◌, ◌<◌, compare, Ordering}
use native.Mathlib.Nat.{mul-lt-mul_of_pos_right, mul-pos, zero-mul}
use native.Mathlib.Omega.{arith}
use lib.IntN.{ℤ, pos, negsuc, neg_ℤ, ◌*ℤ◌}
use lib.Signed.{lt_z}
use borrow.Author.Tests.{ltb-true, ltb-false}
use Rattle.std.specs.declared.cmp.Ordering.TheVariants.{Less, Equal, Greater}
use Rattle.std.specs.Ordering.{ordering_reverse, nat_cmp, int_cmp}
use Rattle.std.specs.Cmp.{nat_cmp_is}
use Rattle.number_integers.specs.Signed.{signed}
use Rattle.number_integers.specs.Compare.{Says, said, compared}
use Rattle.number_order.specs.Exact.{order_z, answer, Fraction, order_of}

-- ---- natural numbers

pub lt_compare : (a b : ℕ) → a < b → compare a b ≡ Ordering.lt
lt_compare a b h = compared Ordering.lt a b h

pub eq_compare : (a b : ℕ) → a ≡ b → compare a b ≡ Ordering.eq
eq_compare a b h = compared Ordering.eq a b h

pub gt_compare : (a b : ℕ) → b < a → compare a b ≡ Ordering.gt
gt_compare a b h = compared Ordering.gt a b h

-- What `cmp` answers of two natural numbers is their order.
pub cmp_compare : (a b : ℕ) → nat_cmp a b ≡ answer (compare a b)
cmp_compare a b = go (compare a b) (said a b)
  where
    go : (o : Ordering) → Says o a b → nat_cmp a b ≡ answer o
    go Ordering.lt c = sym (nat_cmp_is a b Less c)
    go Ordering.eq c = sym (nat_cmp_is a b Equal c)
    go Ordering.gt c = sym (nat_cmp_is a b Greater c)

-- A factor above 0 changes no order.
pub scale_compare : (a b u : ℕ) → 0 < u → compare (a * u) (b * u) ≡ compare a b
scale_compare a b u U = go (compare a b) (said a b)
  where
    go : (o : Ordering) → Says o a b → compare (a * u) (b * u) ≡ o
    go Ordering.lt c = lt_compare (a * u) (b * u) (mul-lt-mul_of_pos_right c U)
    go Ordering.eq c = eq_compare (a * u) (b * u) (ap (λ (z : ℕ). z * u) c)
    go Ordering.gt c = gt_compare (a * u) (b * u) (mul-lt-mul_of_pos_right c U)

-- The order the other way round.
pub reverse_compare : (a b : ℕ) → ordering_reverse (answer (compare a b)) ≡ answer (compare b a)
reverse_compare a b = go (compare a b) (said a b)
  where
    go : (o : Ordering) → Says o a b → ordering_reverse (answer o) ≡ answer (compare b a)
    go Ordering.lt c = sym (ap answer (gt_compare b a c))
    go Ordering.eq c = sym (ap answer (eq_compare b a (sym c)))
    go Ordering.gt c = sym (ap answer (lt_compare b a c))

-- ---- whole numbers

-- The order of whole numbers the other way round, and of fractions.
reverse_order : (x y : ℤ) → ordering_reverse (answer (order_z x y)) ≡ answer (order_z y x)
reverse_order (pos a) (pos b) = reverse_compare a b
reverse_order (pos a) (negsuc b) = refl
reverse_order (negsuc a) (pos b) = refl
reverse_order (negsuc a) (negsuc b) = reverse_compare b a

pub reversed_order : (x y : Fraction) → ordering_reverse (answer (order_of x y)) ≡ answer (order_of y x)
reversed_order x y = reverse_order (x.num *ℤ pos y.den) (y.num *ℤ pos x.den)

-- The test `<` on whole numbers decides the order.
pub less_order : (x y : ℤ) → lt_z x y ≡ true → order_z x y ≡ Ordering.lt
less_order (pos a) (pos b) t = lt_compare a b (ltb-true a b t)
less_order (pos a) (negsuc b) t = let z : ◌≡◌ {A = Bool} false true = t in cc
less_order (negsuc a) (pos b) t = refl
less_order (negsuc a) (negsuc b) t = lt_compare b a (ltb-true b a t)

pub greater_order : (x y : ℤ) → lt_z y x ≡ true → order_z x y ≡ Ordering.gt
greater_order (pos a) (pos b) t = gt_compare a b (ltb-true b a t)
greater_order (pos a) (negsuc b) t = refl
greater_order (negsuc a) (pos b) t = let z : ◌≡◌ {A = Bool} false true = t in cc
greater_order (negsuc a) (negsuc b) t = gt_compare b a (ltb-true a b t)

pub equal_order : (x y : ℤ) → lt_z x y ≡ false → lt_z y x ≡ false → order_z x y ≡ Ordering.eq
equal_order (pos a) (pos b) t u =
    let h = ltb-false a b t in
    let k = ltb-false b a u in
    eq_compare a b (omega arith)
equal_order (pos a) (negsuc b) t u = let z : ◌≡◌ {A = Bool} true false = u in cc
equal_order (negsuc a) (pos b) t u = let z : ◌≡◌ {A = Bool} true false = t in cc
equal_order (negsuc a) (negsuc b) t u =
    let h = ltb-false b a t in
    let k = ltb-false a b u in
    eq_compare b a (omega arith)

-- What `cmp` answers of two whole numbers is their order.
pub cmp_order : (x y : ℤ) → int_cmp x y ≡ answer (order_z x y)
cmp_order x y = go (lt_z x y) (lt_z y x) refl refl
  where
    go : (t u : Bool) → lt_z x y ≡ t → lt_z y x ≡ u → cond t Less (cond u Greater Equal) ≡ answer (order_z x y)
    go true u e f = sym (ap answer (less_order x y e))
    go false true e f = sym (ap answer (greater_order x y f))
    go false false e f = sym (ap answer (equal_order x y e f))

-- ---- whole numbers by their sign and magnitude

-- Two numbers with a minus are in the order of their magnitudes the other way round.
pub both_minus : (a b : ℕ) → order_z (signed true a) (signed true b) ≡ compare b a
both_minus zero zero = refl
both_minus zero (suc b) = sym (gt_compare (suc b) 0 (omega arith))
both_minus (suc a) zero = sym (lt_compare 0 (suc a) (omega arith))
both_minus (suc a) (suc b) = sym (compare.suc-suc b a)

-- A number above 0 is above one with a minus.
pub above_minus : (a b : ℕ) → 0 < a → order_z (signed false a) (signed true b) ≡ Ordering.gt
above_minus a zero h = gt_compare a 0 h
above_minus a (suc b) h = refl

pub below_plus : (a b : ℕ) → 0 < a → order_z (signed true a) (signed false b) ≡ Ordering.lt
below_plus zero b h = absurd (omega arith)
below_plus (suc a) b h = refl

-- 0 with a number with a minus.
pub zero_minus : (b : ℕ) → order_z (signed false 0) (signed true b) ≡ compare b 0
zero_minus b = both_minus 0 b

-- The product of a signed number and a natural one.
pub signed_times : (s : Bool) (a d : ℕ) → signed s a *ℤ pos d ≡ signed s (a * d)
signed_times false a d = refl
signed_times true zero d = ap pos (zero-mul d) ∙ sym (ap (λ (z : ℕ). neg_ℤ (pos z)) (zero-mul d))
signed_times true (suc a) d = refl

-- A factor above 0 changes no order, whatever the signs.
pub scale_order : (s t : Bool) (a b u : ℕ) → 0 < u → order_z (signed s (a * u)) (signed t (b * u)) ≡ order_z (signed s a) (signed t b)
scale_order false false a b u U = scale_compare a b u U
scale_order true true a b u U = both_minus (a * u) (b * u) ∙ scale_compare b a u U ∙ sym (both_minus a b)
scale_order false true zero b u U =
    ap (λ (z : ℕ). order_z (signed false z) (signed true (b * u))) (zero-mul u) ∙ zero_minus (b * u)
    ∙ ap (λ (z : ℕ). compare (b * u) z) (sym (zero-mul u)) ∙ scale_compare b 0 u U ∙ sym (zero_minus b)
scale_order false true (suc a) b u U = above_minus (suc a * u) (b * u) (mul-pos (omega arith) U) ∙ sym (above_minus (suc a) b (omega arith))
scale_order true false zero b u U = ap (λ (z : ℕ). order_z (signed true z) (signed false (b * u))) (zero-mul u) ∙ ap (λ (z : ℕ). compare z (b * u)) (sym (zero-mul u)) ∙ scale_compare 0 b u U
scale_order true false (suc a) b u U = below_plus (suc a * u) (b * u) (mul-pos (omega arith) U)
