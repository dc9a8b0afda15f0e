-- What a number literal stands for, from the parts that a reader keeps. Assumes nothing.
use mathlib.Core.Path.{◌≡◌, refl, sym, ap, ◌∙◌}
use mathlib.Core.Bool.{Bool}
use mathlib.Core.List.{List, [], ◌∷◌, ◌++◌, append-nil}
use Prim.Native.Nat.{ℕ, suc, ◌+◌, ◌-◌, ◌*◌, ◌^◌, ◌<◌, min}
use native.Mathlib.Omega.{arith}
use borrow.Author.Tests.{lt-ltb}
use lib.IntN.{ℤ, pos, ◌-ℤ◌, +ℤ_idr}
use lib.ListN.{length}
use Rattle.definition.specs.Lexical.{Number, Fraction, Exponent}
use Rattle.definition.specs.Lexical.Fraction.{no_fraction, fraction}
use Rattle.definition.specs.Lexical.Exponent.{no_exponent, exponent}
use Rattle.definition.specs.Literals.{decimal, decimal_from, digits_of, whole_digits, is_minus, exponent_value, float_numeral, whole_numeral, numeral, numeral_of}
use Rattle.basics.specs.Bools.{or_true}
use Rattle.number_integers.specs.Signed.{signed}
use Rattle.number_digits.proofs.Loops.{kept_once}
use Rattle.number_digits.specs.Runs.{limit}
use Rattle.number_literals.specs.Values.{numeral_by}
use Rattle.number_literals.proofs.Ranges.{numeral_kept}
use Rattle.number_parse.specs.Parts.{fraction_digits, has_exponent, is_low, exponent_digits}
use Rattle.number_parse.proofs.Exponents.{exponent_value_lem}

-- ---- the definition by parts

-- A fraction, whatever the exponent, makes a float.
with_fraction : (s g : Bool) (n p : ℕ) (e : ℤ) → float_numeral s n (e -ℤ pos (suc p)) ≡ numeral_by s n (suc p) g e
with_fraction s g n p e = rw (lt-ltb 0 (suc p) (omega arith), or_true g) refl

pub by_parts : (s : Bool) (ds : List ℕ) (f : Fraction) (x : Exponent) → numeral_of s ds f x ≡ numeral_by s (decimal (ds ++ fraction_digits f)) (length (fraction_digits f)) (has_exponent x) (exponent_value x)
unfolding numeral_of fraction_digits
by_parts s ds no_fraction no_exponent = ap (λ (es : List ℕ). whole_numeral s (decimal es)) (sym (append-nil ds))
by_parts s ds no_fraction (exponent e h g d) =
    ap (λ (es : List ℕ). float_numeral s (decimal es) (exponent_value (exponent e h g d))) (sym (append-nil ds))
    ∙ ap (float_numeral s (decimal (ds ++ []))) (sym (+ℤ_idr (exponent_value (exponent e h g d))))
by_parts s ds (fraction d) x = with_fraction s (has_exponent x) (decimal (ds ++ digits_of d)) (length d.more) (exponent_value x)

pub numeral_parts : (t : Number)
    → numeral t ≡ numeral_by (is_minus t.whole) (decimal (whole_digits t.whole ++ fraction_digits t.frac)) (length (fraction_digits t.frac)) (has_exponent t.exp) (signed (is_low t.exp) (decimal (exponent_digits t.exp)))
unfolding numeral
numeral_parts t =
    by_parts (is_minus t.whole) (whole_digits t.whole) t.frac t.exp
    ∙ ap (numeral_by (is_minus t.whole) (decimal (whole_digits t.whole ++ fraction_digits t.frac)) (length (fraction_digits t.frac)) (has_exponent t.exp)) (exponent_value_lem t.exp)

-- ---- digits behind digits

decimal_append : (n : ℕ) (ds es : List ℕ) → decimal_from n (ds ++ es) ≡ decimal_from (decimal_from n ds) es
unfolding decimal_from
decimal_append n [] es = refl
decimal_append n (d ∷ ds) es = decimal_append (n * 10 + (d - 48)) ds es

-- A number that is kept at the limit before more digits is the same as one that is kept only behind them.
kept_before : (ds : List ℕ) (n : ℕ) → min limit (decimal_from (min limit n) ds) ≡ min limit (decimal_from n ds)
unfolding decimal_from
kept_before [] n = omega arith
kept_before (d ∷ ds) n =
    sym (kept_before ds (min limit n * 10 + (d - 48))) ∙ ap (λ (z : ℕ). min limit (decimal_from z ds)) (kept_once n (d - 48)) ∙ kept_before ds (n * 10 + (d - 48))

pub digits_together : (ds es : List ℕ) → min limit (decimal_from (min limit (decimal ds)) es) ≡ min limit (decimal (ds ++ es))
digits_together ds es = kept_before es (decimal ds) ∙ ap (min limit) (sym (decimal_append 0 ds es))

-- ---- the parts that a reader keeps

-- They stand for what the literal stands for.
pub kept_parts : (t : Number) (negative : Bool) (n m places : ℕ) (given low : Bool) (exp : ℕ) → negative ≡ is_minus t.whole → n ≡ min limit (decimal (whole_digits t.whole))
    → m ≡ min limit (decimal_from n (fraction_digits t.frac)) → places ≡ length (fraction_digits t.frac) → places < 2 ^ 63
    → given ≡ has_exponent t.exp → low ≡ is_low t.exp → exp ≡ min limit (decimal (exponent_digits t.exp))
    → numeral_by negative m places given (signed low exp) ≡ numeral t
kept_parts t negative n m places given low exp a b c d l e f g =
    let w = whole_digits t.whole in
    let r = fraction_digits t.frac in
    let k : m ≡ min limit (decimal (w ++ r)) = c ∙ ap (λ (z : ℕ). min limit (decimal_from z r)) b ∙ digits_together w r in
    ap (λ (z : Bool). numeral_by z m places given (signed low exp)) a
    ∙ ap (λ (z : ℕ). numeral_by (is_minus t.whole) z places given (signed low exp)) k
    ∙ ap (λ (z : Bool). numeral_by (is_minus t.whole) (min limit (decimal (w ++ r))) places z (signed low exp)) e
    ∙ ap (λ (z : Bool). numeral_by (is_minus t.whole) (min limit (decimal (w ++ r))) places (has_exponent t.exp) (signed z exp)) f
    ∙ ap (λ (z : ℕ). numeral_by (is_minus t.whole) (min limit (decimal (w ++ r))) places (has_exponent t.exp) (signed (is_low t.exp) z)) g
    ∙ numeral_kept (is_minus t.whole) (decimal (w ++ r)) places (has_exponent t.exp) (is_low t.exp) (decimal (exponent_digits t.exp)) l
    ∙ ap (λ (z : ℕ). numeral_by (is_minus t.whole) (decimal (w ++ r)) z (has_exponent t.exp) (signed (is_low t.exp) (decimal (exponent_digits t.exp)))) d
    ∙ sym (numeral_parts t)
