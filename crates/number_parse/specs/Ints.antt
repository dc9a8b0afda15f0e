-- What `parse_i_json_int` promises: an `int` of the grammar that no digit follows, with its value or that it is out of range; or that none stands there.
use Rattle.std.specs.Prelude.{◌≡◌, Bool, true, false, cond, List, ℕ, ◌≤◌, ◌<◌, leb, length, drop, Result, Ok, Err}
use Rattle.definition.specs.Limits.{max_int}
use Rattle.definition.specs.Lexical.{Int, is_digit, spell_int}
use Rattle.definition.specs.Literals.{int_value, in_range}
use Rattle.basics.specs.Reads.{Reads, ReadsNone, StartsNot}
use Rattle.number_integers.specs.Signed.{signed}
use Rattle.number_parse.specs.declared.IntRead.{IntRead}
use Rattle.number_parse.specs.declared.IntError.{IntError}
use Rattle.number_parse.specs.declared.IntError.TheVariants.{OutOfRange, Nothing}

-- The int t stands at a place of s and ends at `end`, where no digit follows, and it is the only one there.
pub record IntAt (s : List ℕ) (at end : ℕ) (t : Int) : Type 0 where
  pub from : at < end
  pub to : end ≤ length s
  pub reads : Reads spell_int int_value (StartsNot is_digit) (drop at s) t (drop end s)
  pub may : StartsNot is_digit (drop end s)

-- The place of `Nothing` is the byte that is in the way; of it no more is promised than that it lies in the text.
pub data IntAnswer (s : List ℕ) (at : ℕ) : Result IntRead IntError → Type 0 where
  next_int : {r : IntRead} (t : Int) → IntAt s at r.end t → r.value ≡ int_value t → in_range r.value ≡ true → IntAnswer s at (Ok r)
  out_int : {end : ℕ} (t : Int) → IntAt s at end t → in_range (int_value t) ≡ false → IntAnswer s at (Err (OutOfRange end))
  no_int : {place : ℕ} → at ≤ place → place ≤ length s → ReadsNone spell_int (StartsNot is_digit) (drop at s) → IntAnswer s at (Err (Nothing place))

-- the answer for a magnitude and its sign
abbrev pub ranged : ℕ → Bool → ℕ → Result IntRead IntError
ranged end s n = cond (leb n max_int) (Ok (record { end = end; value = signed s n })) (Err (OutOfRange end))
