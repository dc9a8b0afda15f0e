-- Exponents: read in one way, and what digits behind a letter and a sign say. Assumes nothing.
use mathlib.Core.Path.{◌≡◌, refl, sym, ap, ◌∙◌}
use mathlib.Core.Bool.{Bool, true, false}
use mathlib.Core.List.{List, ◌∷◌}
use Prim.Native.Nat.{ℕ, ◌+◌, ◌≤◌, ◌<◌}
use native.Mathlib.Omega.{arith}
use lib.ListN.{length, drop}
use Rattle.definition.specs.Lexical.{Exponent, Sign, Digits, is_digit, is_e, spell_sign, spell_digits, spell_exponent}
use Rattle.definition.specs.Lexical.Sign.{no_sign, plus_sign, minus_sign}
use Rattle.definition.specs.Lexical.Exponent.{no_exponent, exponent}
use Rattle.definition.specs.Literals.{decimal, decimal_from, exponent_value}
use Rattle.basics.specs.Reads.{StartsNot}
use Rattle.number_integers.specs.Signed.{signed}
use Rattle.number_digits.specs.Runs.{Is, DigitRun}
use Rattle.number_digits.proofs.Unique.{begins, digit_bounds}
use Rattle.number_parse.specs.Parts.{DigitsAt, has_exponent, is_low, exponent_digits, AfterExponent, ExponentAnswer, exponent_end, bad_exponent, PowerAnswer, power_end, bad_power, LetterAt}
use Rattle.number_parse.specs.declared.ExponentRead.{ExponentRead}
use Rattle.std.specs.Prelude.{Result, Ok, Err}
use Rattle.number_parse.proofs.Fractions.{digits_only, digits_there, digits_none}

-- ---- signs

-- the minus of a sign
abbrev low_sign : Sign → Bool
low_sign no_sign = false
low_sign plus_sign = false
low_sign minus_sign = true

pub low_is : (e : ℕ) (h : is_e e ≡ true) (g : Sign) (d : Digits) → is_low (exponent e h g d) ≡ low_sign g
low_is e h no_sign d = refl
low_is e h plus_sign d = refl
low_is e h minus_sign d = refl

-- No digit is a sign.
not_sign : (d : Digits) (r t : List ℕ) (c : ℕ) → c < 48 → spell_digits d r ≡ c ∷ t → ⊥
not_sign d r t c h e =
    let f : d.first ≡ c = cc in
    let b = digit_bounds d.first d.is_first in
    omega arith

-- The sign of a text, and the digits behind it, are one.
sign_only : (g k : Sign) (d e : Digits) (r q : List ℕ) → spell_sign g (spell_digits d r) ≡ spell_sign k (spell_digits e q) → (low_sign g ≡ low_sign k) × (spell_digits d r ≡ spell_digits e q)
sign_only no_sign no_sign d e r q h = (refl, h)
sign_only no_sign plus_sign d e r q h = absurd (not_sign d r (spell_digits e q) 0x2B (omega arith) h)
sign_only no_sign minus_sign d e r q h = absurd (not_sign d r (spell_digits e q) 0x2D (omega arith) h)
sign_only plus_sign no_sign d e r q h = absurd (not_sign e q (spell_digits d r) 0x2B (omega arith) (sym h))
sign_only plus_sign plus_sign d e r q h = (refl, cc)
sign_only plus_sign minus_sign d e r q h = let z : ◌≡◌ {A = ℕ} 0x2B 0x2D = cc in absurd (omega arith)
sign_only minus_sign no_sign d e r q h = absurd (not_sign e q (spell_digits d r) 0x2D (omega arith) (sym h))
sign_only minus_sign plus_sign d e r q h = let z : ◌≡◌ {A = ℕ} 0x2D 0x2B = cc in absurd (omega arith)
sign_only minus_sign minus_sign d e r q h = (refl, cc)

-- ---- exponents

-- The value of an exponent by its sign and its digits.
pub exponent_value_lem : (x : Exponent) → exponent_value x ≡ signed (is_low x) (decimal (exponent_digits x))
unfolding exponent_value decimal_from
exponent_value_lem no_exponent = refl
exponent_value_lem (exponent e h no_sign d) = refl
exponent_value_lem (exponent e h plus_sign d) = refl
exponent_value_lem (exponent e h minus_sign d) = refl

-- what of an exponent its text fixes
pub record SameExponent (x y : Exponent) (r q : List ℕ) : Type 0 where
  pub has : has_exponent x ≡ has_exponent y
  pub low : is_low x ≡ is_low y
  pub digits : exponent_digits x ≡ exponent_digits y
  pub rest : r ≡ q

-- Two exponents that spell one text are the same, and so is the rest.
pub exponent_only : (x y : Exponent) (r q : List ℕ) → AfterExponent x r → AfterExponent y q → spell_exponent x r ≡ spell_exponent y q → SameExponent x y r q
exponent_only no_exponent no_exponent r q m n e = record { has = refl; low = refl; digits = refl; rest = e }
exponent_only no_exponent (exponent c h g d) r q m n e = absurd (begins is_e c (spell_sign g (spell_digits d q)) h (rw e at m))
exponent_only (exponent c h g d) no_exponent r q m n e = absurd (begins is_e c (spell_sign g (spell_digits d r)) h (rw (sym e) at n))
exponent_only (exponent c h g d) (exponent b k f w) r q m n e =
    let t : spell_sign g (spell_digits d r) ≡ spell_sign f (spell_digits w q) = cc in
    let s = sign_only g f d w r q t in
    let o = digits_only d w r q m n s.1 in
    record { has = refl; low = low_is c h g d ∙ s.0 ∙ sym (low_is b k f w); digits = o.0; rest = o.1 }

-- ---- what a run of digits says

module _ (s : List ℕ) (at end v : ℕ) (low : Bool) (R : DigitRun s at 0 end v) where
  -- No digits are no power, and some are one.
  pub no_power : end ≡ at → PowerAnswer s at low (Err at)
  no_power e = let t = R.to in bad_power {place = at} (omega arith) (omega arith) (rw e at R.stop)

  pub power_there : (end ≡ at → ⊥) → PowerAnswer s at low (Ok (record { end = end; given = true; low = low; value = v }))
  power_there h = power_end {r = record { end = end; given = true; low = low; value = v }} (digits_there s at 0 end v R h) refl refl

-- ---- behind a letter and a sign

-- The text behind the letter is the sign g and the text from a place on, whatever digits are read there.
module _ (s : List ℕ) (at from : ℕ) (g : Sign) (L : LetterAt s at) (low : at < from) (text : drop (at + 1) s ≡ spell_sign g (drop from s))
    (only : (k : Sign) (d : Digits) (r : List ℕ) → drop (at + 1) s ≡ spell_sign k (spell_digits d r) → drop from s ≡ spell_digits d r) where
  found : (r : ExponentRead) → DigitsAt s from 0 r.end r.value → r.given ≡ true → r.low ≡ low_sign g → ExponentAnswer s at (Ok r)
  found r D h l =
      let x = exponent L.letter L.good g D.tree in
      exponent_end {r = r}
      (record {
        from = omega (arith, D.from);
        to = D.to;
        tree = x;
        text = L.text ∙ ap (λ (t : List ℕ). L.letter ∷ t) (text ∙ ap (spell_sign g) D.text);
        stop = D.stop;
        has = h;
        sign = l ∙ sym (low_is L.letter L.good g D.tree);
        value = D.value;
      })

  bad : (place : ℕ) → from ≤ place → place ≤ length s → StartsNot is_digit (drop from s) → ExponentAnswer s at (Err place)
  bad place f t n = bad_exponent {place = place} (omega arith) t (record { none = go })
    where
      go : (x : Exponent) (r : List ℕ) → AfterExponent x r → drop at s ≡ spell_exponent x r → ⊥
      go no_exponent r m e = begins is_e L.letter (drop (at + 1) s) L.good (rw (sym e ∙ L.text) at m)
      go (exponent c h k d) r m e =
          let l = L.text in
          let j : drop (at + 1) s ≡ spell_sign k (spell_digits d r) = cc in
          digits_none d r (drop from s) n (only k d r j)

  -- What the digits say, the exponent says.
  pub behind : (r : Result ExponentRead ℕ) → PowerAnswer s from (low_sign g) r → ExponentAnswer s at r
  behind r (power_end {r = q} D h l) = found q D h l
  behind r (bad_power {place = place} f t n) = bad place f t n

module _ (s : List ℕ) (at : ℕ) (L : LetterAt s at) where
  pub minus_power : (r : Result ExponentRead ℕ) → Is s (at + 1) 0x2D true → PowerAnswer s (at + 1 + 1) true r → ExponentAnswer s at r
  minus_power r M p = behind s at (at + 1 + 1) minus_sign L (omega arith) M.1 go r p
    where
      go : (k : Sign) (d : Digits) (q : List ℕ) → drop (at + 1) s ≡ spell_sign k (spell_digits d q) → drop (at + 1 + 1) s ≡ spell_digits d q
      go no_sign d q e = absurd (not_sign d q (drop (at + 1 + 1) s) 0x2D (omega arith) (sym e ∙ M.1))
      go plus_sign d q e = let m = M.1 in let z : ◌≡◌ {A = ℕ} 0x2D 0x2B = cc in absurd (omega arith)
      go minus_sign d q e = let m = M.1 in cc

  pub plus_power : (r : Result ExponentRead ℕ) → Is s (at + 1) 0x2B true → PowerAnswer s (at + 1 + 1) false r → ExponentAnswer s at r
  plus_power r M p = behind s at (at + 1 + 1) plus_sign L (omega arith) M.1 go r p
    where
      go : (k : Sign) (d : Digits) (q : List ℕ) → drop (at + 1) s ≡ spell_sign k (spell_digits d q) → drop (at + 1 + 1) s ≡ spell_digits d q
      go no_sign d q e = absurd (not_sign d q (drop (at + 1 + 1) s) 0x2B (omega arith) (sym e ∙ M.1))
      go plus_sign d q e = let m = M.1 in cc
      go minus_sign d q e = let m = M.1 in let z : ◌≡◌ {A = ℕ} 0x2B 0x2D = cc in absurd (omega arith)

  pub plain_power : (r : Result ExponentRead ℕ) → Is s (at + 1) 0x2D false → Is s (at + 1) 0x2B false → PowerAnswer s (at + 1) false r → ExponentAnswer s at r
  plain_power r N O p = behind s at (at + 1) no_sign L (omega arith) refl go r p
    where
      go : (k : Sign) (d : Digits) (q : List ℕ) → drop (at + 1) s ≡ spell_sign k (spell_digits d q) → drop (at + 1) s ≡ spell_digits d q
      go no_sign d q e = e
      go plus_sign d q e = absurd (O (spell_digits d q) e)
      go minus_sign d q e = absurd (N (spell_digits d q) e)

-- Without a letter there is no exponent.
pub without_letter : (s : List ℕ) (at : ℕ) → at ≤ length s → StartsNot is_e (drop at s) → ExponentAnswer s at (Ok (record { end = at; given = false; low = false; value = 0 }))
unfolding decimal_from
without_letter s at t n =
    exponent_end {r = record { end = at; given = false; low = false; value = 0 }}
    (record { from = omega arith; to = t; tree = no_exponent; text = refl; stop = n; has = refl; sign = refl; value = refl })
