-- "0" / DIGIT1 *DIGIT: what an int and the digits before a fraction have in common, without their sign.
use Rattle.std.specs.Prelude.{◌≡◌, List, [], ◌∷◌, ℕ, ◌≤◌, ◌<◌, min, length, drop, Result, Ok, Err}
use Rattle.definition.specs.Lexical.{Natural, is_digit, spell_natural}
use Rattle.definition.specs.Literals.{decimal, natural_digits}
use Rattle.basics.specs.Reads.{StartsNot, ReadsNone}
use Rattle.number_digits.specs.Runs.{limit}
use Rattle.number_digits.specs.declared.Run.{Run}

pub data Unsigned : Type 0 where
  zero_unsigned : Unsigned
  natural_unsigned : Natural → Unsigned

abbrev pub spell_unsigned : Unsigned → List ℕ → List ℕ
spell_unsigned zero_unsigned r = 0x30 ∷ r
spell_unsigned (natural_unsigned n) r = spell_natural n r

abbrev pub unsigned_digits : Unsigned → List ℕ
unsigned_digits zero_unsigned = 0x30 ∷ []
unsigned_digits (natural_unsigned n) = natural_digits n

-- u stands at a place of s, ends at `end`, and no digit follows
pub record UnsignedAt (s : List ℕ) (at end : ℕ) (u : Unsigned) : Type 0 where
  pub from : at < end
  pub to : end ≤ length s
  pub text : drop at s ≡ spell_unsigned u (drop end s)
  pub stop : StartsNot is_digit (drop end s)

-- What `read_unsigned` answers: where a number ends, with its value kept at the limit, or that none stands there which no digit follows.
pub data UnsignedAnswer (s : List ℕ) (at : ℕ) : Result Run ℕ → Type 0 where
  unsigned_read : {r : Run} (u : Unsigned) → UnsignedAt s at r.end u → r.value ≡ min limit (decimal (unsigned_digits u)) → UnsignedAnswer s at (Ok r)
  nothing_read : {place : ℕ} → at ≤ place → place ≤ length s → ReadsNone spell_unsigned (StartsNot is_digit) (drop at s) → UnsignedAnswer s at (Err place)
