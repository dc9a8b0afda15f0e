-- A number literal from its three parts: read in one way, found where all parts are, and not there where one is missing. Assumes nothing.
use mathlib.Core.Path.{◌≡◌, refl, sym, ap, ◌∙◌}
use mathlib.Core.Bool.{Bool, true, false}
use mathlib.Core.List.{List, ◌++◌}
use Prim.Native.Nat.{ℕ, ◌^◌, ◌<◌}
use native.Mathlib.Omega.{arith}
use lib.ListN.{length, drop, length-drop}
use Rattle.std.specs.Prelude.{Ok, Err}
use Rattle.definition.specs.Lexical.{Number, Fraction, Exponent, is_digit, spell_whole, spell_fraction, spell_exponent, spell_number}
use Rattle.definition.specs.Lexical.Fraction.{no_fraction, fraction}
use Rattle.definition.specs.Lexical.Exponent.{no_exponent, exponent}
use Rattle.definition.specs.Literals.{decimal, whole_digits, is_minus, numeral}
use Rattle.basics.specs.Reads.{StartsNot}
use Rattle.number_integers.specs.Signed.{signed}
use Rattle.number_literals.specs.Values.{meaning, numeral_by}
use Rattle.number_literals.specs.declared.Literal.{Literal}
use Rattle.number_parse.specs.Parts.{fraction_digits, is_point, WholeAt, WholeAnswer, bad_whole, whole_end, AfterFraction, FractionAt, FractionAnswer, fraction_end, bad_fraction, has_exponent, is_low, exponent_digits, AfterExponent, ExponentAt, ExponentAnswer, exponent_end, bad_exponent}
use Rattle.number_parse.specs.Numbers.{is_number_char, Ends, NumberAnswer, next_number, no_number_lem}
use Rattle.number_parse.specs.declared.WholeRead.{WholeRead}
use Rattle.number_parse.specs.declared.FractionRead.{FractionRead}
use Rattle.number_parse.specs.declared.ExponentRead.{ExponentRead}
use Rattle.number_parse.proofs.Signed.{whole_only}
use Rattle.number_parse.proofs.Chars.{no_digit, no_point, no_letter, letter_digit, letter_point}
use Rattle.number_parse.proofs.Fractions.{fraction_only, fraction_length}
use Rattle.number_parse.proofs.Exponents.{SameExponent, exponent_only}
use Rattle.number_parse.proofs.Values.{numeral_parts, kept_parts}

-- ---- the parts that the readers found

pub whole_at : {s : List ℕ} {at : ℕ} {r : WholeRead} → WholeAnswer s at (Ok r) → WholeAt s at r.end r.negative r.value
whole_at (whole_end w) = w

pub fraction_at : {s : List ℕ} {at start : ℕ} {r : FractionRead} → FractionAnswer s at start (Ok r) → FractionAt s at start r.end r.places r.value
fraction_at (fraction_end f) = f

pub exponent_at : {s : List ℕ} {at : ℕ} {r : ExponentRead} → ExponentAnswer s at (Ok r) → ExponentAt s at r.end r.given r.low r.value
exponent_at (exponent_end x) = x

-- ---- what follows each part of a number

-- An exponent, or what follows the number, begins with no digit and with no point.
exponent_digit : (x : Exponent) (r : List ℕ) → StartsNot is_number_char r → StartsNot is_digit (spell_exponent x r)
unfolding StartsNot
exponent_digit no_exponent r n = no_digit r n
exponent_digit (exponent e h g d) r n = letter_digit e h

exponent_point : (x : Exponent) (r : List ℕ) → StartsNot is_number_char r → StartsNot is_point (spell_exponent x r)
unfolding StartsNot
exponent_point no_exponent r n = no_point r n
exponent_point (exponent e h g d) r n = letter_point e h

-- So what follows each part is what may follow it.
after_whole : (f : Fraction) (x : Exponent) (r : List ℕ) → StartsNot is_number_char r → StartsNot is_digit (spell_fraction f (spell_exponent x r))
unfolding StartsNot
after_whole no_fraction x r n = exponent_digit x r n
after_whole (fraction d) x r n = refl

after_fraction : (f : Fraction) (x : Exponent) (r : List ℕ) → StartsNot is_number_char r → AfterFraction f (spell_exponent x r)
after_fraction no_fraction x r n = exponent_point x r n
after_fraction (fraction d) x r n = exponent_digit x r n

after_exponent : (x : Exponent) (r : List ℕ) → StartsNot is_number_char r → AfterExponent x r
after_exponent no_exponent r n = no_letter r n
after_exponent (exponent e h g d) r n = no_digit r n

-- ---- read in one way

-- what of a number its text fixes
record SameNumber (t u : Number) : Type 0 where
  pub sign : is_minus t.whole ≡ is_minus u.whole
  pub whole : whole_digits t.whole ≡ whole_digits u.whole
  pub frac : fraction_digits t.frac ≡ fraction_digits u.frac
  pub has : has_exponent t.exp ≡ has_exponent u.exp
  pub low : is_low t.exp ≡ is_low u.exp
  pub exp : exponent_digits t.exp ≡ exponent_digits u.exp

-- Such numbers stand for the same.
same_numeral : (t u : Number) → SameNumber t u → numeral t ≡ numeral u
same_numeral t u k =
    numeral_parts t
    ∙ ap (λ (z : Bool). numeral_by z (decimal (whole_digits t.whole ++ fraction_digits t.frac)) (length (fraction_digits t.frac)) (has_exponent t.exp) (signed (is_low t.exp) (decimal (exponent_digits t.exp)))) k.sign
    ∙ ap (λ (z : List ℕ). numeral_by (is_minus u.whole) (decimal (z ++ fraction_digits t.frac)) (length (fraction_digits t.frac)) (has_exponent t.exp) (signed (is_low t.exp) (decimal (exponent_digits t.exp)))) k.whole
    ∙ ap (λ (z : List ℕ). numeral_by (is_minus u.whole) (decimal (whole_digits u.whole ++ z)) (length z) (has_exponent t.exp) (signed (is_low t.exp) (decimal (exponent_digits t.exp)))) k.frac
    ∙ ap (λ (z : Bool). numeral_by (is_minus u.whole) (decimal (whole_digits u.whole ++ fraction_digits u.frac)) (length (fraction_digits u.frac)) z (signed (is_low t.exp) (decimal (exponent_digits t.exp)))) k.has
    ∙ ap (λ (z : Bool). numeral_by (is_minus u.whole) (decimal (whole_digits u.whole ++ fraction_digits u.frac)) (length (fraction_digits u.frac)) (has_exponent u.exp) (signed z (decimal (exponent_digits t.exp)))) k.low
    ∙ ap (λ (z : List ℕ). numeral_by (is_minus u.whole) (decimal (whole_digits u.whole ++ fraction_digits u.frac)) (length (fraction_digits u.frac)) (has_exponent u.exp) (signed (is_low u.exp) (decimal z))) k.exp
    ∙ sym (numeral_parts u)

-- ---- the parts of a number that stands at a place where a reader found parts

module _ (s : List ℕ) (at a : ℕ) (negative : Bool) (n : ℕ) (W : WholeAt s at a negative n) (u : Number) (r : List ℕ) (m : StartsNot is_number_char r) (e : drop at s ≡ spell_number u r) where
  -- The digits before its fraction are those that were read.
  whole_same : (is_minus W.tree ≡ is_minus u.whole) × (whole_digits W.tree ≡ whole_digits u.whole) × (drop a s ≡ spell_fraction u.frac (spell_exponent u.exp r))
  whole_same = whole_only W.tree u.whole (drop a s) (spell_fraction u.frac (spell_exponent u.exp r)) W.stop (after_whole u.frac u.exp r m) (sym W.text ∙ e)

  module _ (b places k : ℕ) (F : FractionAt s a n b places k) where
    -- So is its fraction.
    fraction_same : (fraction_digits F.tree ≡ fraction_digits u.frac) × (drop b s ≡ spell_exponent u.exp r)
    fraction_same = fraction_only F.tree u.frac (drop b s) (spell_exponent u.exp r) F.stop (after_fraction u.frac u.exp r m) (sym F.text ∙ whole_same.2)

    module _ (end : ℕ) (given low : Bool) (exp : ℕ) (X : ExponentAt s b end given low exp) where
      -- And its exponent.
      exponent_same : SameExponent X.tree u.exp (drop end s) r
      exponent_same = exponent_only X.tree u.exp (drop end s) r X.stop (after_exponent u.exp r m) (sym X.text ∙ fraction_same.1)

-- ---- found, or not there

module _ (s : List ℕ) (at : ℕ) where
  -- Without digits before a fraction there is no number.
  pub no_whole : (place : ℕ) → WholeAnswer s at (Err place) → NumberAnswer s at (Err place)
  no_whole place (bad_whole f t k) = no_number_lem f t (record { none = λ u r m e. k.none u.whole (spell_fraction u.frac (spell_exponent u.exp r)) (after_whole u.frac u.exp r m) e })

  module _ (a : ℕ) (negative : Bool) (n : ℕ) (W : WholeAt s at a negative n) where
    -- Nor is there one where a fraction goes wrong,
    pub wrong_fraction : (place : ℕ) → FractionAnswer s a n (Err place) → NumberAnswer s at (Err place)
    wrong_fraction place (bad_fraction f t k) =
        no_number_lem {place = place} (omega (arith, W.from)) t (record { none = λ u r m e. k.none u.frac (spell_exponent u.exp r) (after_fraction u.frac u.exp r m) (whole_same s at a negative n W u r m e).2 })

    module _ (b places k : ℕ) (F : FractionAt s a n b places k) where
      -- or an exponent,
      pub no_exponent_lem : (place : ℕ) → ExponentAnswer s b (Err place) → NumberAnswer s at (Err place)
      no_exponent_lem place (bad_exponent f t l) =
          no_number_lem {place = place} (omega (arith, W.from, F.from)) t (record { none = λ u r m e. l.none u.exp r (after_exponent u.exp r m) (fraction_same s at a negative n W u r m e b places k F).1 })

      module _ (end : ℕ) (given low : Bool) (exp : ℕ) (X : ExponentAt s b end given low exp) where
        -- or a character follows that could go on with it.
        pub no_end : Ends s end false → NumberAnswer s at (Err end)
        no_end N = no_number_lem {place = end} (omega (arith, W.from, F.from, X.from)) X.to (record { none = go })
          where
            go : (u : Number) (r : List ℕ) → StartsNot is_number_char r → drop at s ≡ spell_number u r → ⊥
            go u r m e = N (rw (sym (exponent_same s at a negative n W u r m e b places k F end given low exp X).rest) at m)

        -- Otherwise the parts are a number, and the only one.
        tree : Number
        tree = record { whole = W.tree; frac = F.tree; exp = X.tree }

        text : drop at s ≡ spell_number tree (drop end s)
        unfolding tree
        text = W.text ∙ ap (spell_whole W.tree) (F.text ∙ ap (spell_fraction F.tree) X.text)

        same : (u : Number) (r : List ℕ) → StartsNot is_number_char r → drop at s ≡ spell_number u r → (numeral u ≡ numeral tree) × (r ≡ drop end s)
        unfolding tree
        same u r m e =
            let w = whole_same s at a negative n W u r m e in
            let f = fraction_same s at a negative n W u r m e b places k F in
            let x = exponent_same s at a negative n W u r m e b places k F end given low exp X in
            (sym (same_numeral tree u (record { sign = w.0; whole = w.1; frac = f.0; has = x.has; low = x.low; exp = x.digits })), sym x.rest)

        pub number_there : (v : Literal) → length s < 2 ^ 63 → Ends s end true → meaning v ≡ numeral_by negative k places given (signed low exp) → NumberAnswer s at (Ok (record { end = end; value = v }))
        unfolding tree
        number_there v l E h =
            next_number {r = record { end = end; value = v }}
            (record {
              from = omega (arith, W.from, F.from, X.from);
              to = X.to;
              tree = tree;
              reads = record { eq = text; only = same };
              may = E;
              value = h ∙ kept_parts tree negative n k places given low exp W.sign W.value F.value F.count (few l) X.has X.sign X.value;
            })
          where
            few : length s < 2 ^ 63 → places < 2 ^ 63
            few l = omega (arith, F.count, fraction_length F.tree (drop b s), ap length F.text, length-drop a s)
