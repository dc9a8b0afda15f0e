-- The exponent of a literal less its count of fraction digits. Assumes nothing.
use mathlib.Core.Path.{◌≡◌, refl, sym, ap, ◌∙◌}
use mathlib.Core.Bool.{true, false}
use Prim.Native.Nat.{ℕ, zero, suc, ◌+◌, ◌-◌, ◌≤◌, ◌<◌}
use native.Mathlib.Omega.{arith}
use borrow.Author.Tests.{lt-ltb, le-ltb}
use lib.IntN.{pos, neg_ℤ, sub_ℕ, ◌-ℤ◌}
use Rattle.number_integers.specs.Signed.{signed}

-- ---- differences of natural numbers

sub_past : (a b : ℕ) → a < b → sub_ℕ a b ≡ neg_ℤ (pos (b - a))
sub_past a b h =
    let e : b - a ≡ suc (b - suc a) = omega arith in
    rw (lt-ltb a b h) (sym (ap (λ (z : ℕ). neg_ℤ (pos z)) e))

sub_within : (a b : ℕ) → b ≤ a → sub_ℕ a b ≡ pos (a - b)
sub_within a b h = rw (le-ltb a b h) refl

minus_of : (n m : ℕ) → n ≡ m → neg_ℤ (pos n) ≡ neg_ℤ (pos m)
minus_of n m e = ap (λ (z : ℕ). neg_ℤ (pos z)) e

-- ---- an exponent less a count

-- An exponent with a minus goes down.
pub down_less : (a b : ℕ) → signed true a -ℤ pos b ≡ signed true (a + b)
down_less zero zero = refl
down_less zero (suc b) = sub_past 0 (suc b) (omega arith) ∙ minus_of (suc b - 0) (0 + suc b) (omega arith)
down_less (suc a) zero = sub_past 0 (suc a) (omega arith) ∙ minus_of (suc a - 0) (suc a + 0) (omega arith)
down_less (suc a) (suc b) = minus_of (suc (suc (a + b))) (suc a + suc b) (omega arith)

-- One without a minus goes down too: as far as 0 where the count is no larger, and below it otherwise.
pub up_less : (a b : ℕ) → b ≤ a → signed false a -ℤ pos b ≡ signed false (a - b)
up_less a zero h = ap pos (let e : a + 0 ≡ a - 0 = omega arith in e)
up_less a (suc b) h = sub_within a (suc b) h

pub past_less : (a b : ℕ) → a < b → signed false a -ℤ pos b ≡ signed true (b - a)
past_less a zero h = absurd (omega arith)
past_less a (suc b) h = sub_past a (suc b) h
