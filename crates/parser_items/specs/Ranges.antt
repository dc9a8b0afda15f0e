-- What the contracts say of an index, and of the bounds and the step of a slice: what stands in the text, and the field that is written for it.
use Rattle.std.specs.Prelude.{◌≡◌, Bool, true, false, List, ◌∷◌, ◌++◌, ℕ, ◌+◌, ◌≤◌, length, drop, Option, Some, None, is_some}
use Rattle.definition.specs.Bytes.{little_endian}
use Rattle.definition.specs.Lexical as X
use Rattle.definition.specs.Lexical.{Int, Bound, is_digit, spell_int, spell_step}
use Rattle.definition.specs.Lexical.Bound.{no_bound, bound}
use Rattle.definition.specs.Plans.{eight}
use Rattle.definition.specs.Utf8.{is_utf8}
use Rattle.basics.specs.Reads.{ReadsNone, StartsNot}
use Rattle.number_parse.specs.Ints.{IntAt}
use Rattle.parser_scan.specs.Text.{Is, Skipped}
use Rattle.compile_writes.specs.Effects.{Marks, first}
use Rattle.compile_writes.specs.Writes.{kept_int, verdict_int}
use Rattle.parser_items.specs.Reads.{After}
use Rattle.parser_items.specs.declared.ranges.Piece.{Piece}
use Rattle.parser_items.specs.declared.ranges.Value.{Value}

-- a bound or a step as it is written: whether it is given, its eight bytes, and the verdict on it
pub record Field : Type 0 where
  pub given : Bool
  pub bytes : List ℕ
  pub verdict : ℕ

abbrev pub int_field : Int → Field
int_field i = record { given = true; bytes = eight (kept_int i); verdict = verdict_int i }

abbrev pub no_field : Field
no_field = record { given = false; bytes = little_endian 8 0; verdict = 0 }

abbrev pub bound_field : Bound → Field
bound_field no_bound = no_field
bound_field (bound i b) = int_field i

abbrev pub step_field : X.Step → Field
step_field X.Step.no_step = no_field
step_field X.Step.colon = no_field
step_field (X.Step.step b i) = int_field i

-- what the code holds of an int, and 0 of none
abbrev pub bits_of : Option Value → ℕ
bits_of (Some v) = v.bits
bits_of None = 0

abbrev pub verdict_of : Option Value → ℕ
verdict_of (Some v) = v.verdict
verdict_of None = 0

-- the field that a piece of the code holds
abbrev pub field_of : Piece → Field
field_of p = record { given = is_some p.value; bytes = little_endian 8 (bits_of p.value); verdict = verdict_of p.value }

-- ---- an int at a place, with the blanks behind it

pub record IntThere (s : List ℕ) (a : ℕ) (p : Piece) : Type 0 where
  pub int : Int
  pub is : IntAt s a p.end int
  pub skipped : Skipped s p.end p.at
  pub field : field_of p ≡ int_field int

pub record NoInt (s : List ℕ) (a : ℕ) (p : Piece) : Type 0 where
  pub reads : ReadsNone spell_int (StartsNot is_digit) (drop a s)
  pub at : p.at ≡ a
  pub field : field_of p ≡ no_field

abbrev pub IntOrNot : List ℕ → ℕ → Piece → Bool → Type 0
IntOrNot s a p true = IntThere s a p
IntOrNot s a p false = NoInt s a p

-- ---- the step of a slice at a place: it is read to its end, and no blanks behind it

pub record StepThere (s : List ℕ) (a : ℕ) (p : Piece) : Type 0 where
  pub tree : X.Step
  pub eq : drop a s ≡ spell_step tree (drop p.at s)
  pub only : (t' : X.Step) (r' : List ℕ) → After 4 r' → drop a s ≡ spell_step t' r' → (step_field t' ≡ step_field tree) × (r' ≡ drop p.at s)
  pub from : a ≤ p.at
  pub to : p.at ≤ length s
  pub utf8 : is_utf8 (drop a s) ≡ true → is_utf8 (drop p.at s) ≡ true
  pub field : field_of p ≡ step_field tree

-- ---- what is written

abbrev pub bit_of : Bool → ℕ → ℕ
bit_of true n = n
bit_of false n = 0

abbrev pub slice_bytes : Field → Field → Field → List ℕ
slice_bytes a b c = 0x07 ∷ (bit_of a.given 1 + bit_of b.given 2 + bit_of c.given 4) ∷ (a.bytes ++ (b.bytes ++ c.bytes))

abbrev pub slice_marks : Field → Field → Field → Marks
slice_marks a b c = record { verdict = first a.verdict (first b.verdict c.verdict); beyond = false }

-- neither a quoted text nor a wildcard begins at a place
pub record NoText (s : List ℕ) (a : ℕ) : Type 0 where
  pub double : Is s a 0x22 false
  pub single : Is s a 0x27 false
  pub star : Is s a 0x2A false
