-- The parts of rules that do not nest: how each is spelled, what is written for it, and the number that is told of it.
use Rattle.std.specs.Prelude.{List, [], ◌∷◌, ℕ}
use Rattle.definition.specs.Lexical.{Name, Int, Number, Text, Slice, name_bytes, spell_name, spell_int, spell_number, spell_text, spell_slice}
use Rattle.definition.specs.Literals.{text_bytes, numeral}
use Rattle.definition.specs.Grammar as G
use Rattle.definition.specs.Grammar.{spell_literal}
use Rattle.compile_writes.specs.Effects.{Writer, bytes, pooling, counted}
use Rattle.compile_writes.specs.Writes.{write_slice, write_index, write_numeral, write_literal}

-- ( wildcard-selector / member-name-shorthand ), behind "." or ".."
pub data Dotted : Type 0 where
  wild_dotted : Dotted
  name_dotted : Name → Dotted

abbrev pub spell_dotted : Dotted → List ℕ → List ℕ
spell_dotted wild_dotted r = 0x2A ∷ r
spell_dotted (name_dotted n) r = spell_name n r

abbrev pub write_dotted : ℕ → Dotted → Writer
write_dotted kind wild_dotted = counted kind 1 (bytes (0x08 ∷ []))
write_dotted kind (name_dotted n) = counted kind 1 (pooling 0x05 (name_bytes n))

abbrev pub dotted_flag : Dotted → ℕ
dotted_flag wild_dotted = 0
dotted_flag (name_dotted n) = 2

-- the selectors that do not nest
pub data Plain : Type 0 where
  text_plain : Text → Plain
  wild_plain : Plain
  slice_plain : Slice → Plain
  index_plain : Int → Plain

abbrev pub spell_plain : Plain → List ℕ → List ℕ
spell_plain (text_plain t) r = spell_text t r
spell_plain wild_plain r = 0x2A ∷ r
spell_plain (slice_plain x) r = spell_slice x r
spell_plain (index_plain i) r = spell_int i r

abbrev pub write_plain : Plain → Writer
write_plain (text_plain t) = pooling 0x05 (text_bytes t)
write_plain wild_plain = bytes (0x08 ∷ [])
write_plain (slice_plain x) = write_slice x
write_plain (index_plain i) = write_index i

abbrev pub is_plain : Plain → ℕ
is_plain (text_plain t) = 1
is_plain wild_plain = 0
is_plain (slice_plain x) = 0
is_plain (index_plain i) = 1

-- the literals that are no words
pub data Constant : Type 0 where
  number_constant : Number → Constant
  text_constant : Text → Constant

abbrev pub spell_constant : Constant → List ℕ → List ℕ
spell_constant (number_constant n) r = spell_number n r
spell_constant (text_constant t) r = spell_text t r

abbrev pub write_constant : Constant → Writer
write_constant (number_constant n) = write_numeral (numeral n)
write_constant (text_constant t) = pooling 0x12 (text_bytes t)

-- the literals that are words
pub data Keyword : Type 0 where
  true_word : Keyword
  false_word : Keyword
  null_word : Keyword

abbrev pub keyword_literal : Keyword → G.Literal
keyword_literal true_word = G.Literal.true_literal
keyword_literal false_word = G.Literal.false_literal
keyword_literal null_word = G.Literal.null_literal

abbrev pub spell_keyword : Keyword → List ℕ → List ℕ
spell_keyword k r = spell_literal (keyword_literal k) r

abbrev pub write_keyword : Keyword → Writer
write_keyword k = write_literal (keyword_literal k)
