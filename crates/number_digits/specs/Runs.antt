-- What the contracts of this crate say of a byte at a place and of a run of digits.
use Rattle.std.specs.Prelude.{◌≡◌, Bool, true, false, List, ◌∷◌, ◌++◌, ℕ, ◌+◌, ◌≤◌, min, length, drop}
use Rattle.definition.specs.Bytes.{every}
use Rattle.definition.specs.Limits.{literal_limit}
use Rattle.definition.specs.Lexical.{is_digit}
use Rattle.definition.specs.Literals.{decimal_from}
use Rattle.basics.specs.Reads.{StartsNot}

-- whether x is the byte at a place of s
abbrev pub Is : List ℕ → ℕ → ℕ → Bool → Type 0
Is s at x true = (at + 1 ≤ length s) × (drop at s ≡ x ∷ drop (at + 1) s)
Is s at x false = (r : List ℕ) → drop at s ≡ x ∷ r → ⊥

-- Numbers that digits write are kept up to the limit of literals, which stands for every larger number: it is past 2^53-1, past an i64, and fits a u64.
abbrev pub limit : ℕ
limit = literal_limit

-- All digits of s from a place on end at `end`, and behind the number `start` they write v, kept at the limit.
pub record DigitRun (s : List ℕ) (from start end v : ℕ) : Type 0 where
  pub digits : List ℕ
  pub good : every is_digit digits ≡ true
  pub text : drop from s ≡ digits ++ drop end s
  pub stop : StartsNot is_digit (drop end s)
  pub value : v ≡ min limit (decimal_from start digits)
  pub count : end ≡ from + length digits
  pub to : end ≤ length s
