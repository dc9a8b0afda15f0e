-- The words of unescape_string's contract.
use Rattle.std.specs.Prelude.{ℕ, ◌+◌, ◌-◌, ◌≤◌, ◌<◌, ◌≡◌, List, ◌∷◌, true, cond, eqb, length, take, drop, Result, Ok, Err}
use Rattle.definition.specs.Lexical.{Char, Quote, own_byte, spell_char, spell_chars}
use Rattle.definition.specs.Lexical.Quote.{double, single}
use Rattle.definition.specs.Literals.{chars_bytes}
use Rattle.definition.specs.Utf8.{is_utf8}
use Rattle.basics.specs.Reads.{Reads, ReadsNone, Wrote}
use Rattle.text_quoted.specs.declared.Unescaped.{Unescaped}

-- the kind of quoted text that a quote begins: a double quote, or any other byte taken for a single one
unfoldable pub quote_of : ℕ → Quote
quote_of b = cond (eqb b 0x22) double single

-- A quoted text may be read: its quote is a quote, what follows that from `at` on is UTF-8, and p has room for as many bytes from `len` on.
pub record Opened (quote : ℕ) (s : List ℕ) (at : ℕ) (p : List ℕ) (len : ℕ) : Type 0 where
  pub is_quote : own_byte (quote_of quote) ≡ quote
  pub sound : is_utf8 (drop at s) ≡ true
  pub within : at ≤ length s
  pub room : len + (length s - at) ≤ length p

-- the characters of a quoted text and its closing quote, followed by the bytes r
abbrev pub spell_closed : Quote → List Char → List ℕ → List ℕ
spell_closed q cs r = spell_chars q cs (own_byte q ∷ r)

-- no text is ruled out behind a closing quote
abbrev pub Any : List ℕ → Type 0
Any r = Unit {0}

-- From `at` on, s has the characters of a quoted text and its closing quote, up to `next`. p' is p with the bytes that they stand for
-- stored from `len` on, up to `end`.
pub record Unescapes (q : Quote) (s : List ℕ) (at : ℕ) (p : List ℕ) (len : ℕ) (p' : List ℕ) (next end : ℕ) : Type 0 where
  pub chars : List Char
  pub reads : Reads (spell_closed q) (chars_bytes q) Any (drop at s) chars (drop next s)
  pub wrote : Wrote p len (chars_bytes q chars) p'
  pub grown : end ≡ len + length (chars_bytes q chars)
  pub from : at < next
  pub to : next ≤ length s
  pub short : length (chars_bytes q chars) < next - at
  pub sound : is_utf8 (drop next s) ≡ true

-- neither a character nor the closing quote stands in front of s
pub record Stuck (q : Quote) (s : List ℕ) : Type 0 where
  pub char : ReadsNone (spell_char q) Any s
  pub own : (r : List ℕ) → s ≡ own_byte q ∷ r → ⊥

-- No quoted text's characters and closing quote stand there. Some characters do, up to `place`, where neither another one nor the closing
-- quote follows. p' is p with the bytes that they stand for stored from `len` on.
pub record Refuses (q : Quote) (s : List ℕ) (at : ℕ) (p : List ℕ) (len : ℕ) (p' : List ℕ) (place : ℕ) : Type 0 where
  pub reads : ReadsNone (spell_closed q) Any (drop at s)
  pub chars : List Char
  pub is : drop at s ≡ spell_chars q chars (drop place s)
  pub stuck : Stuck q (drop place s)
  pub wrote : Wrote p len (chars_bytes q chars) p'
  pub kept : take len p' ≡ take len p
  pub size : length p' ≡ length p
  pub from : at ≤ place
  pub to : place ≤ length s

-- the answer of unescape_string
abbrev pub Unescaping : Quote → List ℕ → ℕ → List ℕ → ℕ → List ℕ → Result Unescaped ℕ → Type 0
Unescaping q s at p len p' (Ok u) = Unescapes q s at p len p' u.next u.end
Unescaping q s at p len p' (Err place) = Refuses q s at p len p' place
