-- What the leaves answer: `out` is what the definition reads at a place of the characters s; what is left begins no earlier than `from`.
use Rattle.std.specs.Prelude.{Option as Answer, Some, None}
use Rattle.std.specs.Prelude.{◌≡◌, Bool, true, List, ◌∷◌, ℕ, ◌-◌, ◌≤◌, ◌<◌, length, drop}
use Rattle.std.proofs.Math.Option.{Option, none, some}
use Rattle.basics.specs.Reads.{Wrote}
use Rattle.regex_definition.specs.Words.{Most, upto, any}
use Rattle.regex_definition.specs.Regexp.{Range, Regexp, times}
use Rattle.regex_definition.specs.Read.{begins, read_quantifier}
use Rattle.regex_leaves.specs.declared.counts.Quant.{Quant}
use Rattle.regex_leaves.specs.declared.counts.Quant.TheVariants as quant

-- whether x stands at a place; where it does, the place is in the text
pub record Is (s : List ℕ) (at x : ℕ) (r : Bool) : Type 0 where
  pub told : r ≡ begins x (drop at s)
  pub inside : r ≡ true → at < length s

pub data ReadChar (out : Option (ℕ × List ℕ)) (s : List ℕ) (from : ℕ) : Answer (ℕ × ℕ) → Type 0 where
  next : (b c : ℕ) → out ≡ some (c, drop b s) → from ≤ b → b ≤ length s → ReadChar out s from (Some (b, c))
  stop : out ≡ none → ReadChar out s from None

pub data ReadItem (out : Option (Range × List ℕ)) (s : List ℕ) (from : ℕ) : Answer (ℕ × ℕ × ℕ) → Type 0 where
  next : (b lo hi : ℕ) → out ≡ some (record { low = lo; high = hi }, drop b s) → from ≤ b → b ≤ length s → ReadItem out s from (Some (b, lo, hi))
  stop : out ≡ none → ReadItem out s from None

pub data ReadBraces (out : Option ((ℕ × Most) × List ℕ)) (s : List ℕ) (from : ℕ) : Answer Quant → Type 0 where
  bounded : (b lo hi : ℕ) → out ≡ some ((lo, upto hi), drop b s) → from ≤ b → b ≤ length s → ReadBraces out s from (Some (quant.Upto b lo hi))
  endless : (b lo : ℕ) → out ≡ some ((lo, any), drop b s) → from ≤ b → b ≤ length s → ReadBraces out s from (Some (quant.Least b lo))
  stop : out ≡ none → ReadBraces out s from None

-- behind an atom, whichever it is
pub data ReadQuantifier (s : List ℕ) (at : ℕ) : Answer Quant → Type 0 where
  bounded : (b lo hi : ℕ) → ((x : Regexp) → read_quantifier x (drop at s) ≡ some (times lo (upto hi) x, drop b s)) → at < b → b ≤ length s
      → ReadQuantifier s at (Some (quant.Upto b lo hi))
  endless : (b lo : ℕ) → ((x : Regexp) → read_quantifier x (drop at s) ≡ some (times lo any x, drop b s)) → at < b → b ≤ length s
      → ReadQuantifier s at (Some (quant.Least b lo))
  once : ((x : Regexp) → read_quantifier x (drop at s) ≡ some (x, drop at s)) → ReadQuantifier s at (Some quant.Once)
  stop : ((x : Regexp) → read_quantifier x (drop at s) ≡ none) → ReadQuantifier s at None

-- where the words c were stored from a place on, x stands before them
pub record Inserted (p : List ℕ) (from to x : ℕ) (q : List ℕ) : Type 0 where
  pub is : (p₀ c : List ℕ) → Wrote p₀ from c p → length c ≡ to - from → Wrote p₀ from (x ∷ c) q
