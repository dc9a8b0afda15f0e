-- A run of digits, and a number without a sign, are read in one way. Assumes nothing.
use mathlib.Core.Path.{◌≡◌, refl, sym, ◌∙◌}
use mathlib.Core.Bool.{Bool, true, true≢false}
use mathlib.Core.List.{List, [], ◌∷◌, ◌++◌}
use Prim.Native.Nat.{ℕ, ◌+◌, ◌-◌, ◌*◌, ◌≤◌, ◌<◌}
use native.Mathlib.Omega.{arith}
use borrow.Author.Tests.{le-leb, leb-true}
use lib.Dec.{leb}
use Rattle.number_integers.specs.Tests.{both}
use Rattle.definition.specs.Bytes.{every}
use Rattle.definition.specs.Lexical.{Natural, is_digit, is_digit1}
use Rattle.definition.specs.Literals.{decimal, decimal_from, natural_digits}
use Rattle.basics.specs.Reads.{StartsNot}
use Rattle.number_digits.specs.Unsigned.{Unsigned, zero_unsigned, natural_unsigned, spell_unsigned, unsigned_digits}

-- ---- bytes

-- A digit from 1 on is a digit, and no 0.
pub digit1_bounds : (c : ℕ) → is_digit1 c ≡ true → (49 ≤ c) × (c ≤ 57)
digit1_bounds c e = let b = both (leb 0x31 c) (leb c 0x39) e in (leb-true 0x31 c b.0, leb-true c 0x39 b.1)

pub digit1_digit : (c : ℕ) → is_digit1 c ≡ true → is_digit c ≡ true
digit1_digit c e = let b = digit1_bounds c e in rw (le-leb 0x30 c (omega arith), le-leb c 0x39 b.1) refl

pub digit_bounds : (c : ℕ) → is_digit c ≡ true → (48 ≤ c) × (c ≤ 57)
digit_bounds c e = let b = both (leb 0x30 c) (leb c 0x39) e in (leb-true 0x30 c b.0, leb-true c 0x39 b.1)

-- A text that begins with a byte which passes a test does not begin with none that does.
pub begins : (p : ℕ → Bool) (c : ℕ) (r : List ℕ) → p c ≡ true → StartsNot p (c ∷ r) → ⊥
unfolding StartsNot
begins p c r t n = true≢false (sym t ∙ n)

-- ---- runs

-- The longest run that passes a test, and what follows it, are one.
pub same_run : (p : ℕ → Bool) (ds es r q : List ℕ) → every p ds ≡ true → every p es ≡ true → StartsNot p r → StartsNot p q → ds ++ r ≡ es ++ q → (ds ≡ es) × (r ≡ q)
same_run p [] [] r q g h m n e = (refl, e)
same_run p [] (x ∷ es) r q g h m n e = absurd (begins p x (es ++ q) (both (p x) (every p es) h).0 (rw e at m))
same_run p (d ∷ ds) [] r q g h m n e = absurd (begins p d (ds ++ r) (both (p d) (every p ds) g).0 (rw (sym e) at n))
same_run p (d ∷ ds) (x ∷ es) r q g h m n e =
    let a : d ≡ x = cc in
    let t : ds ++ r ≡ es ++ q = cc in
    let k = same_run p ds es r q (both (p d) (every p ds) g).1 (both (p x) (every p es) h).1 m n t in
    ((λ i. a i ∷ k.0 i), k.1)

-- ---- numbers without a sign

-- Such a number is spelled by its digits.
pub unsigned_run : (u : Unsigned) (r : List ℕ) → spell_unsigned u r ≡ unsigned_digits u ++ r
unsigned_run zero_unsigned r = refl
unsigned_run (natural_unsigned n) r = refl

pub unsigned_good : (u : Unsigned) → every is_digit (unsigned_digits u) ≡ true
unsigned_good zero_unsigned = refl
unsigned_good (natural_unsigned n) = rw (digit1_digit n.first n.is_first) n.are_more

-- Two of them that spell one text, with no digit behind them, have the same digits and the same rest.
pub unsigned_only : (u v : Unsigned) (r q : List ℕ) → StartsNot is_digit r → StartsNot is_digit q → spell_unsigned u r ≡ spell_unsigned v q → (unsigned_digits u ≡ unsigned_digits v) × (r ≡ q)
unsigned_only u v r q m n e = same_run is_digit (unsigned_digits u) (unsigned_digits v) r q (unsigned_good u) (unsigned_good v) m n (sym (unsigned_run u r) ∙ e ∙ unsigned_run v q)

-- ---- numbers above 0

-- More digits make a number no smaller.
decimal_grows : (n : ℕ) (ds : List ℕ) → n ≤ decimal_from n ds
unfolding decimal_from
decimal_grows n [] = omega arith
decimal_grows n (d ∷ ds) = let h = decimal_grows (n * 10 + (d - 48)) ds in omega arith

-- A number that begins with a digit from 1 on is above 0.
pub natural_above : (n : Natural) → 0 < decimal (natural_digits n)
unfolding decimal_from
natural_above n =
    let b = digit1_bounds n.first n.is_first in
    let h = decimal_grows (0 * 10 + (n.first - 48)) n.more in
    omega arith
