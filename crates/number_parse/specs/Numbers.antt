-- What `parse_number` promises: a `number` of the grammar that no digit, "." or "e" follows, with what it stands for; or that none stands there.
use Rattle.std.specs.Prelude.{◌≡◌, Bool, true, false, ◌||◌, List, ℕ, ◌≤◌, ◌<◌, length, drop, Result, Ok, Err}
use Rattle.definition.specs.Lexical.{Number, is_digit, is_e, spell_number}
use Rattle.definition.specs.Literals.{Numeral, numeral}
use Rattle.basics.specs.Reads.{Reads, ReadsNone, StartsNot}
use Rattle.number_literals.specs.Values.{meaning}
use Rattle.number_parse.specs.Parts.{is_point}
use Rattle.number_parse.specs.declared.NumberRead.{NumberRead}

-- the characters that could go on with a number: a digit, "." and "e" in either case
abbrev pub is_number_char : ℕ → Bool
is_number_char c = is_digit c || (is_point c || is_e c)

-- whether none of them stands at a place
abbrev pub Ends : List ℕ → ℕ → Bool → Type 0
Ends s at true = StartsNot is_number_char (drop at s)
Ends s at false = StartsNot is_number_char (drop at s) → ⊥

-- A number stands at a place of s and ends at `end`, where none of these characters follows. It is the only one there, and stands for v.
pub record NumberAt (s : List ℕ) (at end : ℕ) (v : Numeral) : Type 0 where
  pub from : at < end
  pub to : end ≤ length s
  pub tree : Number
  pub reads : Reads spell_number numeral (StartsNot is_number_char) (drop at s) tree (drop end s)
  pub may : StartsNot is_number_char (drop end s)
  pub value : v ≡ numeral tree

-- The place of an `Err` is the byte that is in the way; of it no more is promised than that it lies in the text.
pub data NumberAnswer (s : List ℕ) (at : ℕ) : Result NumberRead ℕ → Type 0 where
  next_number : {r : NumberRead} → NumberAt s at r.end (meaning r.value) → NumberAnswer s at (Ok r)
  no_number_lem : {place : ℕ} → at ≤ place → place ≤ length s → ReadsNone spell_number (StartsNot is_number_char) (drop at s) → NumberAnswer s at (Err place)
