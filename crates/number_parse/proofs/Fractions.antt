-- Fractions: read in one way, and what a run of digits behind a point says. Assumes nothing.
use mathlib.Core.Path.{◌≡◌, refl, sym, ap, ◌∙◌}
use mathlib.Core.Bool.{true, false}
use mathlib.Core.List.{List, [], ◌∷◌, ◌++◌}
use Prim.Native.Nat.{ℕ, ◌+◌, ◌-◌, ◌≤◌, min}
use native.Mathlib.Omega.{arith}
use borrow.Author.Tests.{ne_eqb}
use lib.ListN.{length, drop, length-append}
use Rattle.number_integers.specs.Tests.{both}
use Rattle.definition.specs.Bytes.{every}
use Rattle.definition.specs.Lexical.{Fraction, Digits, is_digit, spell_fraction, spell_digits}
use Rattle.definition.specs.Lexical.Fraction.{no_fraction, fraction}
use Rattle.definition.specs.Literals.{decimal_from, digits_of}
use Rattle.basics.specs.Reads.{StartsNot}
use Rattle.number_digits.specs.Runs.{Is, limit, DigitRun}
use Rattle.number_digits.proofs.Unique.{begins, same_run}
use Rattle.number_parse.specs.Parts.{fraction_digits, DigitsAt, is_point, AfterFraction, FractionAnswer, fraction_end, bad_fraction}
use Rattle.std.specs.Prelude.{Ok, Err}
use Rattle.number_parse.proofs.Chars.{starts_none}

-- ---- one digit or more

pub digits_good : (d : Digits) → every is_digit (digits_of d) ≡ true
digits_good d = rw d.is_first d.are_more

-- Digits that spell one text, with no digit behind them, are the same, and so is the rest.
pub digits_only : (d e : Digits) (r q : List ℕ) → StartsNot is_digit r → StartsNot is_digit q → spell_digits d r ≡ spell_digits e q → (digits_of d ≡ digits_of e) × (r ≡ q)
digits_only d e r q m n h = same_run is_digit (digits_of d) (digits_of e) r q (digits_good d) (digits_good e) m n h

-- A run of some digits.
pub digits_there : (s : List ℕ) (at start end v : ℕ) → DigitRun s at start end v → (end ≡ at → ⊥) → DigitsAt s at start end v
digits_there s at start end v R h = go R.digits R.good R.text R.value R.count
  where
    go : (ds : List ℕ) → every is_digit ds ≡ true → drop at s ≡ ds ++ drop end s → v ≡ min limit (decimal_from start ds) → end ≡ at + length ds → DigitsAt s at start end v
    go [] g t w c = absurd (h (omega arith))
    go (d ∷ ds) g t w c =
        let b = both (is_digit d) (every is_digit ds) g in
        record { from = omega arith; to = R.to; tree = record { first = d; more = ds; is_first = b.0; are_more = b.1 }; text = t; stop = R.stop; count = c; value = w }

-- A text that begins with no digit is none.
pub digits_none : (d : Digits) (r t : List ℕ) → StartsNot is_digit t → t ≡ spell_digits d r → ⊥
digits_none d r t n e = begins is_digit d.first (d.more ++ r) d.is_first (rw e at n)

-- ---- fractions

-- Two fractions that spell one text have the same digits and the same rest.
pub fraction_only : (f g : Fraction) (r q : List ℕ) → AfterFraction f r → AfterFraction g q → spell_fraction f r ≡ spell_fraction g q → (fraction_digits f ≡ fraction_digits g) × (r ≡ q)
unfolding fraction_digits
fraction_only no_fraction no_fraction r q m n e = (refl, e)
fraction_only no_fraction (fraction d) r q m n e = absurd (begins is_point 0x2E (spell_digits d q) refl (rw e at m))
fraction_only (fraction d) no_fraction r q m n e = absurd (begins is_point 0x2E (spell_digits d r) refl (rw (sym e) at n))
fraction_only (fraction d) (fraction k) r q m n e = let h : spell_digits d r ≡ spell_digits k q = cc in digits_only d k r q m n h

-- A fraction has no more digits than its text has bytes.
pub fraction_length : (f : Fraction) (r : List ℕ) → length (fraction_digits f) ≤ length (spell_fraction f r)
unfolding fraction_digits
fraction_length no_fraction r = omega arith
fraction_length (fraction d) r = omega (arith, length-append d.more r)

module _ (s : List ℕ) (at start : ℕ) where
  -- A point before no digit begins no fraction.
  pub point_alone : (end v : ℕ) → Is s at 0x2E true → DigitRun s (at + 1) start end v → end ≡ at + 1 → FractionAnswer s at start (Err (at + 1))
  point_alone end v P R e = bad_fraction {place = at + 1} (omega arith) P.0 (record { none = go })
    where
      stop : StartsNot is_digit (drop (at + 1) s)
      stop = rw e at R.stop

      go : (f : Fraction) (r : List ℕ) → AfterFraction f r → drop at s ≡ spell_fraction f r → ⊥
      go no_fraction r m h = begins is_point 0x2E (drop (at + 1) s) refl (rw (sym h ∙ P.1) at m)
      go (fraction d) r m h = let p = P.1 in let k : drop (at + 1) s ≡ spell_digits d r = cc in digits_none d r (drop (at + 1) s) stop k

  -- One before some digits begins one.
  pub point_digits : (end v : ℕ) → Is s at 0x2E true → DigitRun s (at + 1) start end v → (end ≡ at + 1 → ⊥) → FractionAnswer s at start (Ok (record { end = end; places = end - (at + 1); value = v }))
  unfolding fraction_digits
  point_digits end v P R h =
      let D = digits_there s (at + 1) start end v R h in
      fraction_end {r = record { end = end; places = end - (at + 1); value = v }}
      (record {
        from = omega (arith, D.from);
        to = D.to;
        tree = fraction D.tree;
        text = P.1 ∙ ap (λ (t : List ℕ). 0x2E ∷ t) D.text;
        stop = D.stop;
        count = omega (arith, D.count);
        value = D.value;
      })

  -- Without a point there is none.
  pub no_point : at ≤ length s → start ≤ limit → Is s at 0x2E false → FractionAnswer s at start (Ok (record { end = at; places = 0; value = start }))
  unfolding fraction_digits decimal_from
  no_point t l N =
      fraction_end {r = record { end = at; places = 0; value = start }}
      (record {
        from = omega arith;
        to = t;
        tree = no_fraction;
        text = refl;
        stop = starts_none is_point (drop at s) go;
        count = refl;
        value = omega arith;
      })
    where
      go : (c : ℕ) (r : List ℕ) → drop at s ≡ c ∷ r → is_point c ≡ false
      go c r e = ne_eqb c 0x2E (λ f. N r (e ∙ ap (λ (z : ℕ). z ∷ r) f))
