-- An int, and the digits before a fraction, are a sign and a number without one; so each is read in one way. Assumes nothing.
use mathlib.Core.Path.{◌≡◌, refl, sym, ap, ◌∙◌}
use mathlib.Core.Bool.{Bool, true, false}
use mathlib.Core.List.{List, ◌∷◌}
use Prim.Native.Nat.{ℕ}
use native.Mathlib.Omega.{arith}
use Rattle.definition.specs.Lexical.{Int, Whole, is_digit, spell_int, spell_whole}
use Rattle.definition.specs.Lexical.Int.{zero_int, plain_int, minus_int}
use Rattle.definition.specs.Lexical.Whole.{int_whole, minus_zero}
use Rattle.definition.specs.Literals.{decimal, decimal_from, int_value, whole_digits, is_minus}
use Rattle.basics.specs.Reads.{StartsNot}
use Rattle.number_integers.specs.Signed.{signed}
use Rattle.number_digits.specs.Unsigned.{Unsigned, zero_unsigned, natural_unsigned, spell_unsigned, unsigned_digits}
use Rattle.number_digits.proofs.Unique.{digit1_bounds, unsigned_only}

-- a text behind a minus, or not
abbrev pub with_sign : Bool → List ℕ → List ℕ
with_sign false t = t
with_sign true t = 0x2D ∷ t

-- No number without a sign begins with a minus.
pub no_minus : (u : Unsigned) (r t : List ℕ) → spell_unsigned u r ≡ 0x2D ∷ t → ⊥
no_minus zero_unsigned r t e = let f : ◌≡◌ {A = ℕ} 0x30 0x2D = cc in omega arith
no_minus (natural_unsigned n) r t e =
    let f : n.first ≡ 0x2D = cc in
    let b = digit1_bounds n.first n.is_first in
    omega arith

-- The sign of a text, and the text behind it, are one.
sign_only : (a b : Bool) (u v : Unsigned) (r q : List ℕ) → with_sign a (spell_unsigned u r) ≡ with_sign b (spell_unsigned v q) → (a ≡ b) × (spell_unsigned u r ≡ spell_unsigned v q)
sign_only false false u v r q e = (refl, e)
sign_only true true u v r q e = (refl, cc)
sign_only false true u v r q e = absurd (no_minus u r (spell_unsigned v q) e)
sign_only true false u v r q e = absurd (no_minus v q (spell_unsigned u r) (sym e))

-- Two texts of this form, with no digit behind them, have the same sign, the same digits and the same rest.
signed_only : (a b : Bool) (u v : Unsigned) (r q : List ℕ) → StartsNot is_digit r → StartsNot is_digit q → with_sign a (spell_unsigned u r) ≡ with_sign b (spell_unsigned v q)
    → (a ≡ b) × (unsigned_digits u ≡ unsigned_digits v) × (r ≡ q)
signed_only a b u v r q m n e =
    let k = sign_only a b u v r q e in
    let l = unsigned_only u v r q m n k.1 in
    (k.0, l.0, l.1)

-- ---- ints

abbrev pub int_sign : Int → Bool
int_sign zero_int = false
int_sign (plain_int n) = false
int_sign (minus_int n) = true

abbrev pub int_unsigned : Int → Unsigned
int_unsigned zero_int = zero_unsigned
int_unsigned (plain_int n) = natural_unsigned n
int_unsigned (minus_int n) = natural_unsigned n

pub int_spelled : (i : Int) (r : List ℕ) → spell_int i r ≡ with_sign (int_sign i) (spell_unsigned (int_unsigned i) r)
int_spelled zero_int r = refl
int_spelled (plain_int n) r = refl
int_spelled (minus_int n) r = refl

pub int_value_lem : (i : Int) → int_value i ≡ signed (int_sign i) (decimal (unsigned_digits (int_unsigned i)))
unfolding int_value decimal_from
int_value_lem zero_int = refl
int_value_lem (plain_int n) = refl
int_value_lem (minus_int n) = refl

-- Two ints that spell one text, with no digit behind them, have the same value and the same rest.
pub int_only : (i j : Int) (r q : List ℕ) → StartsNot is_digit r → StartsNot is_digit q → spell_int i r ≡ spell_int j q → (int_value j ≡ int_value i) × (q ≡ r)
int_only i j r q m n e =
    let k = signed_only (int_sign i) (int_sign j) (int_unsigned i) (int_unsigned j) r q m n (sym (int_spelled i r) ∙ e ∙ int_spelled j q) in (
      int_value_lem j ∙ ap (λ (t : Bool). signed t (decimal (unsigned_digits (int_unsigned j)))) (sym k.0) ∙ ap (λ (ds : List ℕ). signed (int_sign i) (decimal ds)) (sym k.1) ∙ sym (int_value_lem i),
      sym k.2,
    )

-- ---- the digits before a fraction

abbrev pub whole_unsigned : Whole → Unsigned
whole_unsigned (int_whole i) = int_unsigned i
whole_unsigned minus_zero = zero_unsigned

-- the tree of a sign and a number without one
abbrev pub whole_of : Bool → Unsigned → Whole
whole_of false zero_unsigned = int_whole zero_int
whole_of false (natural_unsigned n) = int_whole (plain_int n)
whole_of true zero_unsigned = minus_zero
whole_of true (natural_unsigned n) = int_whole (minus_int n)

pub whole_spelled : (w : Whole) (r : List ℕ) → spell_whole w r ≡ with_sign (is_minus w) (spell_unsigned (whole_unsigned w) r)
unfolding is_minus
whole_spelled (int_whole zero_int) r = refl
whole_spelled (int_whole (plain_int n)) r = refl
whole_spelled (int_whole (minus_int n)) r = refl
whole_spelled minus_zero r = refl

pub whole_digits_lem : (w : Whole) → whole_digits w ≡ unsigned_digits (whole_unsigned w)
unfolding whole_digits
whole_digits_lem (int_whole zero_int) = refl
whole_digits_lem (int_whole (plain_int n)) = refl
whole_digits_lem (int_whole (minus_int n)) = refl
whole_digits_lem minus_zero = refl

-- The tree of a sign and a number has that sign, those digits and that spelling.
pub whole_sign : (t : Bool) (u : Unsigned) → t ≡ is_minus (whole_of t u)
unfolding is_minus
whole_sign false zero_unsigned = refl
whole_sign false (natural_unsigned n) = refl
whole_sign true zero_unsigned = refl
whole_sign true (natural_unsigned n) = refl

pub whole_of_lem : (t : Bool) (u : Unsigned) → whole_unsigned (whole_of t u) ≡ u
whole_of_lem false zero_unsigned = refl
whole_of_lem false (natural_unsigned n) = refl
whole_of_lem true zero_unsigned = refl
whole_of_lem true (natural_unsigned n) = refl

-- Two of them that spell one text, with no digit behind them, have the same sign, the same digits and the same rest.
pub whole_only : (w v : Whole) (r q : List ℕ) → StartsNot is_digit r → StartsNot is_digit q → spell_whole w r ≡ spell_whole v q → (is_minus w ≡ is_minus v) × (whole_digits w ≡ whole_digits v) × (r ≡ q)
whole_only w v r q m n e =
    let k = signed_only (is_minus w) (is_minus v) (whole_unsigned w) (whole_unsigned v) r q m n (sym (whole_spelled w r) ∙ e ∙ whole_spelled v q) in
    (k.0, whole_digits_lem w ∙ k.1 ∙ sym (whole_digits_lem v), k.2)
