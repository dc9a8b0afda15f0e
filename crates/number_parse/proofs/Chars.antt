-- The characters that could go on with a number: a digit, "." and "e" in either case. Assumes nothing.
use mathlib.Core.Path.{◌≡◌, refl, sym, ap, ◌∙◌}
use mathlib.Core.Bool.{Bool, true, false, not, ◌||◌, true≢false}
use mathlib.Core.List.{List, [], ◌∷◌}
use mathlib.Core.Logic.{⊎_elim}
use Prim.Native.Nat.{ℕ, ◌≤◌, ◌<◌}
use borrow.Author.Tests.{ne_eqb, eqb-true}
use lib.Dec.{eqb}
use lib.ListN.{length, drop, get_or, drop_of_length-le}
use Rattle.number_integers.specs.Tests.{neither}
use Rattle.definition.specs.Lexical.{is_digit, is_e}
use Rattle.basics.specs.Lists.{drop_at}
use Rattle.basics.specs.Bools.{or_cases as either}
use Rattle.basics.specs.Reads.{StartsNot}
use Rattle.number_digits.specs.Runs.{Is}
use Rattle.number_parse.specs.Parts.{is_point, IsLetter}
use Rattle.number_parse.specs.Numbers.{is_number_char, Ends}

-- ---- what a text does not begin with

module _ (p : ℕ → Bool) where
  -- A text that begins with no byte that passes.
  pub starts_none : (t : List ℕ) → ((c : ℕ) (r : List ℕ) → t ≡ c ∷ r → p c ≡ false) → StartsNot p t
  unfolding StartsNot
  starts_none [] k = tt
  starts_none (c ∷ r) k = k c r refl

-- A test that passes less.
pub starts_less : (p q : ℕ → Bool) (t : List ℕ) → ((c : ℕ) → p c ≡ false → q c ≡ false) → StartsNot p t → StartsNot q t
unfolding StartsNot
starts_less p q [] k n = tt
starts_less p q (c ∷ r) k n = k c n

-- What follows a number begins with no digit, no point and no letter.
pub no_digit : (r : List ℕ) → StartsNot is_number_char r → StartsNot is_digit r
no_digit r n = starts_less is_number_char is_digit r (λ c e. (neither (is_digit c) (is_point c || is_e c) e).0) n

pub no_point : (r : List ℕ) → StartsNot is_number_char r → StartsNot is_point r
no_point r n = starts_less is_number_char is_point r (λ c e. (neither (is_point c) (is_e c) (neither (is_digit c) (is_point c || is_e c) e).1).0) n

pub no_letter : (r : List ℕ) → StartsNot is_number_char r → StartsNot is_e r
no_letter r n = starts_less is_number_char is_e r (λ c e. (neither (is_point c) (is_e c) (neither (is_digit c) (is_point c || is_e c) e).1).1) n

-- A letter is no digit and no point.
pub letter_digit : (c : ℕ) → is_e c ≡ true → is_digit c ≡ false
letter_digit c e = ⊎_elim (λ (h : eqb c 101 ≡ true). rw (eqb-true c 101 h) refl) (λ (h : eqb c 69 ≡ true). rw (eqb-true c 69 h) refl) (either (eqb c 101) (eqb c 69) e)

pub letter_point : (c : ℕ) → is_e c ≡ true → is_point c ≡ false
letter_point c e = ⊎_elim (λ (h : eqb c 101 ≡ true). rw (eqb-true c 101 h) refl) (λ (h : eqb c 69 ≡ true). rw (eqb-true c 69 h) refl) (either (eqb c 101) (eqb c 69) e)

-- ---- at a place

module _ (s : List ℕ) (at : ℕ) where
  -- The end of the text, and a test of the byte, say whether a number may end.
  pub ends_past : length s ≤ at → Ends s at true
  unfolding StartsNot
  ends_past h = rw (drop_of_length-le s h) tt

  pub ends_tested : at < length s → (t : Bool) → t ≡ is_number_char (get_or s at 0) → Ends s at (not t)
  unfolding StartsNot
  ends_tested h true e = λ n. true≢false (e ∙ rw (drop_at s at h) at n)
  ends_tested h false e = rw (drop_at s at h) (sym e)

  -- A letter in either case.
  pub small_letter : Is s at 101 true → IsLetter s at true
  small_letter i = record { to = i.0; letter = 101; good = refl; text = i.1 }

  pub other_letter : Is s at 101 false → (t : Bool) → Is s at 69 t → IsLetter s at t
  other_letter n true i = record { to = i.0; letter = 69; good = refl; text = i.1 }
  other_letter n false i = starts_none is_e (drop at s) go
    where
      not_one : (c x : ℕ) (r : List ℕ) → drop at s ≡ c ∷ r → ((q : List ℕ) → drop at s ≡ x ∷ q → ⊥) → eqb c x ≡ false
      not_one c x r e k = ne_eqb c x (λ f. k r (e ∙ ap (λ (z : ℕ). z ∷ r) f))

      go : (c : ℕ) (r : List ℕ) → drop at s ≡ c ∷ r → is_e c ≡ false
      go c r e = rw (not_one c 101 r e n, not_one c 69 r e i) refl
