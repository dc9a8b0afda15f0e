-- The words of the contracts of unescape_string's parts.
use Rattle.std.specs.Prelude.{ℕ, ◌+◌, ◌≤◌, ◌<◌, ◌≡◌, List, ◌∷◌, ◌++◌, true, false, cond, length, drop, Option, Some, None, Result, Ok, Err}
use Rattle.definition.specs.Lexical.{Char, Escape, Hex4, Quote, own_byte, is_hex, hex_value, hex4_value, is_low, is_short, spell_hex4, spell_escape, spell_char, spell_chars}
use Rattle.definition.specs.Literals.{short_value, escape_value, char_bytes, chars_bytes}
use Rattle.definition.specs.Utf8.{encode}
use Rattle.basics.specs.Reads.{Reads, ReadsNone, Wrote}
use Rattle.utf8_laws.specs.Scan.{front, behind}
use Rattle.utf8_laws.specs.Names.{unescaped_byte}
use Rattle.text_quoted.specs.Quoted.{spell_closed, Any, Stuck}
use Rattle.text_quoted.specs.declared.Turn.{Turn}
use Rattle.text_quoted.specs.declared.Turn.TheVariants.{On, End}

-- ---- hexadecimal digits

-- the value of a byte that is a hexadecimal digit
abbrev pub HexDigit : ℕ → Option ℕ → Type 0
HexDigit b (Some v) = (is_hex b ≡ true) × (hex_value b ≡ v)
HexDigit b None = is_hex b ≡ false

-- from `at` on, s has four hexadecimal digits of the value v
pub record HasDigits (s : List ℕ) (at v : ℕ) : Type 0 where
  pub digits : Hex4
  pub is : drop at s ≡ spell_hex4 digits (drop (at + 4) s)
  pub value : hex4_value digits ≡ v
  pub to : at + 4 ≤ length s

-- no four hexadecimal digits stand there
pub record NoDigits (s : List ℕ) (at : ℕ) : Type 0 where
  pub none : (h : Hex4) (r : List ℕ) → drop at s ≡ spell_hex4 h r → ⊥

abbrev pub Digits : List ℕ → ℕ → Option ℕ → Type 0
Digits s at (Some v) = HasDigits s at v
Digits s at None = NoDigits s at

-- from `at` on, s has the escape of the low surrogate v
pub record HasLow (s : List ℕ) (at v : ℕ) : Type 0 where
  pub digits : Hex4
  pub is : drop at s ≡ 0x5C ∷ 0x75 ∷ spell_hex4 digits (drop (at + 6) s)
  pub value : hex4_value digits ≡ v
  pub low : is_low v ≡ true
  pub to : at + 6 ≤ length s

-- no escape of a low surrogate stands there
pub record NoLow (s : List ℕ) (at : ℕ) : Type 0 where
  pub none : (h : Hex4) (r : List ℕ) → is_low (hex4_value h) ≡ true → drop at s ≡ 0x5C ∷ 0x75 ∷ spell_hex4 h r → ⊥

abbrev pub LowDigits : List ℕ → ℕ → Option ℕ → Type 0
LowDigits s at (Some v) = HasLow s at v
LowDigits s at None = NoLow s at

-- ---- escapes

-- the code point that a letter names
unfoldable pub short_code : ℕ → Option ℕ
short_code b = cond (is_short b) (Some (short_value b)) None

-- behind a backslash and u, s has from `at` to `next` what makes them the escape of the code point c
pub record HasUnicode (s : List ℕ) (at c next : ℕ) : Type 0 where
  pub escape : Escape
  pub reads : Reads spell_escape escape_value Any (0x5C ∷ 0x75 ∷ drop at s) escape (drop next s)
  pub value : escape_value escape ≡ c
  pub most : c ≤ 0x10FFFF
  pub from : at < next
  pub to : next ≤ length s

abbrev pub Unicode : List ℕ → ℕ → Option (ℕ × ℕ) → Type 0
Unicode s at (Some p) = HasUnicode s at p.0 p.1
Unicode s at None = ReadsNone spell_escape Any (0x5C ∷ 0x75 ∷ drop at s)

-- behind a backslash, s has from `at` to `next` what makes it an escaped character, which stands for the code point c
pub record HasEscape (q : Quote) (s : List ℕ) (at c next : ℕ) : Type 0 where
  pub char : Char
  pub reads : Reads (spell_char q) (char_bytes q) Any (0x5C ∷ drop at s) char (drop next s)
  pub bytes : char_bytes q char ≡ encode c
  pub most : c ≤ 0x10FFFF
  pub from : at < next
  pub to : next ≤ length s

abbrev pub Escaped : Quote → List ℕ → ℕ → Option (ℕ × ℕ) → Type 0
Escaped q s at (Some p) = HasEscape q s at p.0 p.1
Escaped q s at None = ReadsNone (spell_char q) Any (0x5C ∷ drop at s)

-- ---- what is written

-- the plain bytes from `at` up to r, where the first byte stands that is not plain, are stored from `len` on
pub record Copied (s : List ℕ) (at : ℕ) (p : List ℕ) (len : ℕ) (p' : List ℕ) (r : ℕ) : Type 0 where
  pub from : at ≤ r
  pub to : r ≤ length s
  pub rest : drop r s ≡ behind unescaped_byte (drop at s)
  pub wrote : Wrote p len (front unescaped_byte (drop at s)) p'

-- the bytes of a code point are stored from `len` up to r
pub record Encoded (p : List ℕ) (len c : ℕ) (p' : List ℕ) (r : ℕ) : Type 0 where
  pub wrote : Wrote p len (encode c) p'
  pub grown : r ≡ len + length (encode c)

-- ---- a part of the characters

-- The text s is some characters and then r, and these characters stand for the bytes d. However s is read as a quoted text's characters
-- and closing quote, it begins with characters that stand for d, and r is what follows them.
pub record Passed (q : Quote) (s r d : List ℕ) : Type 0 where
  pub chars : List Char
  pub is : s ≡ spell_chars q chars r
  pub bytes : chars_bytes q chars ≡ d
  pub only : (t' : List Char) (r' : List ℕ) → s ≡ spell_closed q t' r' → (u' : List Char) × (r ≡ spell_closed q u' r') × (chars_bytes q t' ≡ d ++ chars_bytes q u')

-- From `at` on, s was read up to `next`, where `rest` was left, and the bytes of its characters are stored from `len` up to `end`.
pub record Went (q : Quote) (s : List ℕ) (at : ℕ) (p : List ℕ) (len : ℕ) (p' : List ℕ) (next end : ℕ) (rest : List ℕ) : Type 0 where
  pub bytes : List ℕ
  pub passed : Passed q (drop at s) rest bytes
  pub wrote : Wrote p len bytes p'
  pub grown : end ≡ len + length bytes
  pub from : at ≤ next
  pub to : next ≤ length s

-- From `at` on, s was read up to `place`, where neither a character nor the closing quote follows, and the bytes of its characters are
-- stored from `len` on.
pub record Fails (q : Quote) (s : List ℕ) (at : ℕ) (p : List ℕ) (len : ℕ) (p' : List ℕ) (place : ℕ) : Type 0 where
  pub bytes : List ℕ
  pub passed : Passed q (drop at s) (drop place s) bytes
  pub stuck : Stuck q (drop place s)
  pub wrote : Wrote p len bytes p'
  pub from : at ≤ place
  pub to : place ≤ length s

-- a part of the characters is read, or the last part and the closing quote, or no quoted text stands there
abbrev pub Turning : Quote → List ℕ → ℕ → List ℕ → ℕ → List ℕ → Result Turn ℕ → Type 0
Turning q s at p len p' (Ok (On u)) = (at < u.next) × Went q s at p len p' u.next u.end (drop u.next s)
Turning q s at p len p' (Ok (End u)) = (at < u.next) × Went q s at p len p' u.next u.end (own_byte q ∷ drop u.next s)
Turning q s at p len p' (Err place) = Fails q s at p len p' place
