-- What the reader's parts answer, and what they are lent. `out n` is what the definition reads in n steps from a place on.
use Rattle.std.specs.Prelude.{Option as Answer, Some, None}
use Rattle.std.specs.Prelude.{◌≡◌, Bool, true, ◌&&◌, List, [], ◌∷◌, ◌++◌, ℕ, ◌+◌, ◌-◌, ◌*◌, ◌≤◌, ◌<◌, eqb, length, drop}
use Rattle.std.proofs.Math.Option.{Option, none, some}
use Rattle.basics.specs.Reads.{Wrote}
use Rattle.regex_definition.specs.Regexp.{Range, Regexp}
use Rattle.regex_definition.specs.Read.{begins, rest, read_items, read_class, read_ranges, read_leaf, read_atom, read_piece, read_branch, read_alternatives, read_regexp}
use Rattle.regex_code.specs.Flat.{flat, flat_ranges}
use Rattle.regex_leaves.specs.declared.counts.Quant.{Quant}
use Rattle.regex_leaves.specs.declared.counts.Quant.TheVariants as quant
use Rattle.regex_reader.specs.declared.steps.Cursor.{Cursor}

-- whether "-]" stands at a place
pub record IsEnd (s : List ℕ) (at : ℕ) (r : Bool) : Type 0 where
  pub told : r ≡ (begins 0x2D (drop at s) && begins 0x5D (rest (drop at s)))
  pub inside : r ≡ true → at + 1 < length s

-- ---- the items of a class behind the first

-- from `at` on stand the items of the ranges `found`, up to and with the "]"; their words are written from len on
pub record ReadItems (s p q : List ℕ) (at len b n : ℕ) : Type 0 where
  pub found : List Range
  pub is : (m : ℕ) (gs : List Range) → length s - at < m → read_items m gs (drop at s) ≡ some (gs ++ found, drop b s)
  pub count : n ≡ length found
  pub from : at + n + 1 ≤ b
  pub to : b ≤ length s
  pub buf : Wrote p len (flat_ranges found []) q

pub data PostRanges (s p q : List ℕ) (at len : ℕ) : Answer (ℕ × ℕ) → Type 0 where
  next : (b n : ℕ) → ReadItems s p q at len b n → PostRanges s p q at len (Some (b, n))
  stop : ((m : ℕ) (gs : List Range) → length s - at < m → read_items m gs (drop at s) ≡ none) → PostRanges s p q at len None

-- ---- a part of an expression

-- what is left of the characters has room behind the words: eight for each, and k more
pub record Room (s p : List ℕ) (a : Cursor) (k : ℕ) : Type 0 where
  pub text : a.at ≤ length s
  pub small : length s ≤ 1024
  pub fits : a.len + 8 * (length s - a.at) + k ≤ length p

-- from the place of a to that of b stands an expression, and its code is written; four steps for each character that is left, and j more, are enough
pub record Read (out : ℕ → Option (Regexp × List ℕ)) (j k : ℕ) (s p q : List ℕ) (a b : Cursor) : Type 0 where
  pub expr : Regexp
  pub is : (n : ℕ) → 4 * (length s - a.at) + j ≤ n → out n ≡ some (expr, drop b.at s)
  pub from : a.at ≤ b.at
  pub to : b.at ≤ length s
  pub grown : b.len ≡ a.len + length (flat expr [])
  pub cost : b.len + 1 ≤ a.len + 8 * (b.at - a.at) + k
  pub buf : Wrote p a.len (flat expr []) q

pub data Post (out : ℕ → Option (Regexp × List ℕ)) (j k : ℕ) (s p q : List ℕ) (a : Cursor) : Answer Cursor → Type 0 where
  next : (b : Cursor) → Read out j k s p q a b → Post out j k s p q a (Some b)
  stop : ((n : ℕ) → 4 * (length s - a.at) + j ≤ n → out n ≡ none) → Post out j k s p q a None

-- a word as the sign of the complement
abbrev pub is_complement : ℕ → Bool
is_complement f = eqb f 1

-- what the definition reads
abbrev pub out_ranges : ℕ → List ℕ → Cursor → ℕ → Option (Regexp × List ℕ)
out_ranges f s a n = read_ranges n (is_complement f) (drop a.at s)

abbrev pub out_class : List ℕ → Cursor → ℕ → Option (Regexp × List ℕ)
out_class s a n = read_class n (drop a.at s)

abbrev pub out_leaf : List ℕ → Cursor → ℕ → Option (Regexp × List ℕ)
out_leaf s a n = read_leaf n (drop a.at s)

abbrev pub out_atom : List ℕ → Cursor → ℕ → Option (Regexp × List ℕ)
out_atom s a n = read_atom n (drop a.at s)

abbrev pub out_piece : List ℕ → Cursor → ℕ → Option (Regexp × List ℕ)
out_piece s a n = read_piece n (drop a.at s)

abbrev pub out_branch : List ℕ → Cursor → ℕ → Option (Regexp × List ℕ)
out_branch s a n = read_branch n (λ x. x) (drop a.at s)

abbrev pub out_alternatives : List ℕ → Cursor → ℕ → Option (Regexp × List ℕ)
out_alternatives s a n = read_alternatives n (λ x. x) (drop a.at s)

-- the words of a repeat go in before those of an atom
pub data Repeats (p q : List ℕ) (from : ℕ) (n : Cursor) : Quant → Cursor → Type 0 where
  once : q ≡ p → Repeats p q from n quant.Once n
  endless : (b lo : ℕ) → ((p₀ c : List ℕ) → Wrote p₀ from c p → length c ≡ n.len - from → Wrote p₀ from (5 ∷ lo ∷ c) q)
      → Repeats p q from n (quant.Least b lo) (record { at = b; len = n.len + 2 })
  bounded : (b lo hi : ℕ) → ((p₀ c : List ℕ) → Wrote p₀ from c p → length c ≡ n.len - from → Wrote p₀ from (4 ∷ lo ∷ hi ∷ c) q)
      → Repeats p q from n (quant.Upto b lo hi) (record { at = b; len = n.len + 3 })

-- ---- the whole

-- the code of the expression is written from len on, up to n, and takes up to eight words for each character; or the characters are outside the part
pub record IsCode (s p q : List ℕ) (len n : ℕ) : Type 0 where
  pub expr : Regexp
  pub is : read_regexp s ≡ some expr
  pub grown : n ≡ len + length (flat expr [])
  pub few : n ≤ len + 8 * length s + 3
  pub buf : Wrote p len (flat expr []) q

pub data ReadsWhole (s p q : List ℕ) (len : ℕ) : Answer ℕ → Type 0 where
  code : (n : ℕ) → IsCode s p q len n → ReadsWhole s p q len (Some n)
  outside : read_regexp s ≡ none → ReadsWhole s p q len None

-- the code of a character that was read
pub data PutChar (p q : List ℕ) (len : ℕ) : Answer (ℕ × ℕ) → Answer Cursor → Type 0 where
  next : (b c : ℕ) → Wrote p len (1 ∷ 0 ∷ 1 ∷ c ∷ c ∷ []) q → PutChar p q len (Some (b, c)) (Some (record { at = b; len = len + 5 }))
  stop : PutChar p q len None None
