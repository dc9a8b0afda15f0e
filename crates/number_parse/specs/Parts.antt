-- The three parts of a number literal, ( int / "-0" ), [ frac ] and [ exp ]: what may follow each, and what its reader answers.
-- The place of an answer that finds no such part is the byte that is in the way; of it no more is promised than that it lies in the text.
use Rattle.std.specs.Prelude.{◌≡◌, Bool, true, false, List, [], ◌∷◌, ℕ, ◌+◌, ◌≤◌, ◌<◌, min, eqb, length, drop, Result, Ok, Err}
use Rattle.definition.specs.Lexical.{Whole, Fraction, Exponent, Digits, is_digit, is_e, spell_whole, spell_fraction, spell_exponent, spell_digits}
use Rattle.definition.specs.Lexical.Fraction.{no_fraction, fraction}
use Rattle.definition.specs.Lexical.Sign.{no_sign, plus_sign, minus_sign}
use Rattle.definition.specs.Lexical.Exponent.{no_exponent, exponent}
use Rattle.definition.specs.Literals.{decimal, decimal_from, digits_of, whole_digits, is_minus}
use Rattle.basics.specs.Reads.{ReadsNone, StartsNot}
use Rattle.number_digits.specs.Runs.{limit}
use Rattle.number_parse.specs.declared.WholeRead.{WholeRead}
use Rattle.number_parse.specs.declared.FractionRead.{FractionRead}
use Rattle.number_parse.specs.declared.ExponentRead.{ExponentRead}

-- the digits behind the point, none where there is no fraction
unfoldable pub fraction_digits : Fraction → List ℕ
fraction_digits no_fraction = []
fraction_digits (fraction d) = digits_of d

-- ---- ( int / "-0" ), which no digit follows

pub record WholeAt (s : List ℕ) (at end : ℕ) (negative : Bool) (n : ℕ) : Type 0 where
  pub from : at < end
  pub to : end ≤ length s
  pub tree : Whole
  pub text : drop at s ≡ spell_whole tree (drop end s)
  pub stop : StartsNot is_digit (drop end s)
  pub sign : negative ≡ is_minus tree
  pub value : n ≡ min limit (decimal (whole_digits tree))

pub data WholeAnswer (s : List ℕ) (at : ℕ) : Result WholeRead ℕ → Type 0 where
  whole_end : {r : WholeRead} → WholeAt s at r.end r.negative r.value → WholeAnswer s at (Ok r)
  bad_whole : {place : ℕ} → at ≤ place → place ≤ length s → ReadsNone spell_whole (StartsNot is_digit) (drop at s) → WholeAnswer s at (Err place)

-- ---- 1*DIGIT, which no digit follows, behind a number `start`

pub record DigitsAt (s : List ℕ) (at start end v : ℕ) : Type 0 where
  pub from : at < end
  pub to : end ≤ length s
  pub tree : Digits
  pub text : drop at s ≡ spell_digits tree (drop end s)
  pub stop : StartsNot is_digit (drop end s)
  pub count : end ≡ at + length (digits_of tree)
  pub value : v ≡ min limit (decimal_from start (digits_of tree))

-- ---- [ frac ]

abbrev pub is_point : ℕ → Bool
is_point c = eqb c 0x2E

-- no further point follows where there is no fraction, and no digit where there is one
abbrev pub AfterFraction : Fraction → List ℕ → Type 0
AfterFraction no_fraction r = StartsNot is_point r
AfterFraction (fraction d) r = StartsNot is_digit r

-- the count of fraction digits, and the number that they write behind `start`
pub record FractionAt (s : List ℕ) (at start end places n : ℕ) : Type 0 where
  pub from : at ≤ end
  pub to : end ≤ length s
  pub tree : Fraction
  pub text : drop at s ≡ spell_fraction tree (drop end s)
  pub stop : AfterFraction tree (drop end s)
  pub count : places ≡ length (fraction_digits tree)
  pub value : n ≡ min limit (decimal_from start (fraction_digits tree))

pub record FractionNone (t : List ℕ) : Type 0 where
  pub none : (f : Fraction) (r : List ℕ) → AfterFraction f r → t ≡ spell_fraction f r → ⊥

pub data FractionAnswer (s : List ℕ) (at start : ℕ) : Result FractionRead ℕ → Type 0 where
  fraction_end : {r : FractionRead} → FractionAt s at start r.end r.places r.value → FractionAnswer s at start (Ok r)
  bad_fraction : {place : ℕ} → at ≤ place → place ≤ length s → FractionNone (drop at s) → FractionAnswer s at start (Err place)

-- ---- [ exp ]

abbrev pub has_exponent : Exponent → Bool
has_exponent no_exponent = false
has_exponent (exponent e h g d) = true

abbrev pub is_low : Exponent → Bool
is_low no_exponent = false
is_low (exponent e h no_sign d) = false
is_low (exponent e h plus_sign d) = false
is_low (exponent e h minus_sign d) = true

abbrev pub exponent_digits : Exponent → List ℕ
exponent_digits no_exponent = []
exponent_digits (exponent e h g d) = digits_of d

-- no "e" follows where there is no exponent, and no digit where there is one
abbrev pub AfterExponent : Exponent → List ℕ → Type 0
AfterExponent no_exponent r = StartsNot is_e r
AfterExponent (exponent e h g d) r = StartsNot is_digit r

pub record ExponentAt (s : List ℕ) (at end : ℕ) (given low : Bool) (exp : ℕ) : Type 0 where
  pub from : at ≤ end
  pub to : end ≤ length s
  pub tree : Exponent
  pub text : drop at s ≡ spell_exponent tree (drop end s)
  pub stop : AfterExponent tree (drop end s)
  pub has : given ≡ has_exponent tree
  pub sign : low ≡ is_low tree
  pub value : exp ≡ min limit (decimal (exponent_digits tree))

pub record ExponentNone (t : List ℕ) : Type 0 where
  pub none : (x : Exponent) (r : List ℕ) → AfterExponent x r → t ≡ spell_exponent x r → ⊥

pub data ExponentAnswer (s : List ℕ) (at : ℕ) : Result ExponentRead ℕ → Type 0 where
  exponent_end : {r : ExponentRead} → ExponentAt s at r.end r.given r.low r.value → ExponentAnswer s at (Ok r)
  bad_exponent : {place : ℕ} → at ≤ place → place ≤ length s → ExponentNone (drop at s) → ExponentAnswer s at (Err place)

-- the digits of an exponent, behind its sign
pub data PowerAnswer (s : List ℕ) (at : ℕ) (low : Bool) : Result ExponentRead ℕ → Type 0 where
  power_end : {r : ExponentRead} → DigitsAt s at 0 r.end r.value → r.given ≡ true → r.low ≡ low → PowerAnswer s at low (Ok r)
  bad_power : {place : ℕ} → at ≤ place → place ≤ length s → StartsNot is_digit (drop at s) → PowerAnswer s at low (Err place)

-- whether an "e", in either case, stands at a place
pub record LetterAt (s : List ℕ) (at : ℕ) : Type 0 where
  pub to : at + 1 ≤ length s
  pub letter : ℕ
  pub good : is_e letter ≡ true
  pub text : drop at s ≡ letter ∷ drop (at + 1) s

abbrev pub IsLetter : List ℕ → ℕ → Bool → Type 0
IsLetter s at true = LetterAt s at
IsLetter s at false = StartsNot is_e (drop at s)
