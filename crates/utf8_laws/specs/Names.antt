-- Names and unescaped characters as a byte-wise scan meets them: both classes hold every character beyond ASCII, so that Scan's laws serve.
-- Assumes nothing.
use Rattle.std.specs.Prelude.{ℕ, ◌≤◌, ◌<◌, ◌≡◌, ◌⊎◌, List, [], ◌∷◌, ◌++◌, Bool, true, ◌||◌, leb, ltb}
use Rattle.std.proofs.Common.{sym, ap, ◌∙◌, inl, inr, append_assoc, arith, ne_eqb, ltb-false}
use Rattle.std.proofs.Math.Bool.{and-false, or-true, or-false}
use Rattle.std.proofs.lemmas.Bool.{lt-leb}
use Rattle.definition.specs.Bytes.{every, within}
use Rattle.definition.specs.Lexical.{is_name_first, is_name_char, is_unescaped, Name, name_bytes}
use Rattle.definition.specs.Utf8.{is_scalar, encode, encode_all, is_utf8}
use Rattle.utf8_laws.specs.Bytes.{by_test, inside}
use Rattle.utf8_laws.specs.Encode.{scalar_range}
use Rattle.utf8_laws.specs.Decode.{Begins, begins}
use Rattle.utf8_laws.specs.Scan.{front, behind, front_append, behind_append, every_append, byte_of, char_bytes_lem, chars_bytes_lem, Wide, Scanned, scan, encode_bytes, char_begins, begins_char, front_all, behind_all}

-- ---- the classes beyond ASCII

-- a scalar value from a bound on is in the two ranges that the classes end with
beyond : (lo c : ℕ) → is_scalar c ≡ true → lo ≤ c → (within lo 0xD7FF c || within 0xE000 0x10FFFF c) ≡ true
beyond lo c e l = by (scalar_range c e)
  where
    by : (c < 0xD800) ⊎ ((0xE000 ≤ c) × (c ≤ 0x10FFFF)) → (within lo 0xD7FF c || within 0xE000 0x10FFFF c) ≡ true
    by (inl h) = rw (inside lo 0xD7FF c l (omega arith))
    by (inr h) = rw (inside 0xE000 0x10FFFF c h.0 h.1) (or-true (within lo 0xD7FF c))

-- every character beyond ASCII may begin a name
pub first_wide : Wide is_name_first
first_wide c e l = rw (beyond 0x80 c e l) (simp or-true)

-- every character beyond ASCII may stand in a name
pub name_wide : Wide is_name_char
name_wide c e l = rw (first_wide c e l)

-- every character beyond ASCII may stand unescaped in a quoted text
pub unescaped_wide : Wide is_unescaped
unescaped_wide c e l = rw (beyond 0x5D c e (omega arith)) (simp or-true)

-- ---- the classes hold scalar values only

-- a code point that is a scalar value or none, by a test that it passes only above the surrogates
scalar_by : (c : ℕ) (t : Bool) → (0xD800 ≤ c → t ≡ within 0xE000 0x10FFFF c) → t ≡ true → is_scalar c ≡ true
scalar_by c t f e =
    by_test (ltb c 0xD800)
    (λ y. rw y)
    (λ n. rw n (sym (f (ltb-false c 0xD800 n)) ∙ e))

-- a character of a name is a scalar value
pub name_scalar : (c : ℕ) → is_name_char c ≡ true → is_scalar c ≡ true
name_scalar c e =
    scalar_by c (is_name_char c)
    (λ h. simp (lt-leb c 0x5A (omega arith), lt-leb c 0x7A (omega arith), ne_eqb c 0x5F (λ q. omega arith), lt-leb c 0xD7FF (omega arith), lt-leb c 0x39 (omega arith), and-false, or-false))
    e

-- an unescaped character is a scalar value
pub unescaped_scalar : (c : ℕ) → is_unescaped c ≡ true → is_scalar c ≡ true
unescaped_scalar c e =
    scalar_by c (is_unescaped c)
    (λ h. simp (lt-leb c 0x21 (omega arith), lt-leb c 0x26 (omega arith), lt-leb c 0x5B (omega arith), lt-leb c 0xD7FF (omega arith), and-false))
    e

-- what may begin a name may stand in one
pub first_char : (c : ℕ) → is_name_first c ≡ true → is_name_char c ≡ true
first_char c e = rw e

-- ---- names

-- the bytes of a name
abbrev pub name_byte : ℕ → Bool
name_byte b = byte_of is_name_char b

-- the first byte of a name
abbrev pub first_byte : ℕ → Bool
first_byte b = byte_of is_name_first b

-- a scan for the bytes of names passes whole characters of names, and UTF-8 is left
pub name_scan : (s : List ℕ) → is_utf8 s ≡ true → Scanned is_name_char s
name_scan s u = scan is_name_char name_wide s u

-- every byte of a character of a name is such a byte
pub name_char_bytes : (c : ℕ) → is_name_char c ≡ true → every name_byte (encode c) ≡ true
name_char_bytes c e = char_bytes_lem is_name_char c e

-- every byte of a name is such a byte
pub name_bytes_lem : (n : Name) → every name_byte (name_bytes n) ≡ true
name_bytes_lem n = every_append name_byte (encode n.first) (encode_all n.more) (char_bytes_lem is_name_char n.first (first_char n.first n.is_first)) (chars_bytes_lem is_name_char n.more n.are_more)

-- the first byte of a name passes the test of a first byte
pub name_begins : (n : Name) (b : ℕ) (r s : List ℕ) → name_bytes n ++ r ≡ b ∷ s → first_byte b ≡ true
name_begins n b r s e = char_begins is_name_first n.first (encode_all n.more ++ r) b s n.is_first (rw append_assoc at e)

-- the name that a text begins with
pub record Named (s : List ℕ) : Type 0 where
  pub name : Name
  pub is : name_bytes name ≡ front name_byte s
  pub sound : is_utf8 (behind name_byte s) ≡ true

-- a text whose first character may begin a name begins with a name
named_of : (s : List ℕ) (g : Begins s) → is_name_first g.char ≡ true → Named s
named_of s g e =
    let d = scan is_name_char name_wide g.rest g.sound in
    let k : every name_byte (encode g.char) ≡ true = char_bytes_lem is_name_char g.char (first_char g.char e) in
    record {
      name = record { first = g.char; more = d.chars; is_first = e; are_more = d.good };
      is = rw g.is (ap (λ (r : List ℕ). encode g.char ++ r) d.is ∙ sym (front_append name_byte (encode g.char) g.rest k));
      sound = rw g.is (rw (behind_append name_byte (encode g.char) g.rest k) d.sound);
    }

-- a UTF-8 text whose first byte may begin a name begins with a name, which the scan finds
pub named : (b : ℕ) (s : List ℕ) → is_utf8 (b ∷ s) ≡ true → first_byte b ≡ true → Named (b ∷ s)
named b s u f =
    let g = begins b s u in
    named_of (b ∷ s) g (begins_char is_name_first first_wide g.char g.rest b s g.scalar (sym g.is) f)

-- no other name stands there with a text behind it that goes on with no byte of a name
pub named_only : (n : Name) (s r : List ℕ) → s ≡ name_bytes n ++ r → front name_byte r ≡ [] → (name_bytes n ≡ front name_byte s) × (r ≡ behind name_byte s)
named_only n s r e z = (sym (rw e (front_all name_byte (name_bytes n) r (name_bytes_lem n) z)), sym (rw e (behind_all name_byte (name_bytes n) r (name_bytes_lem n) z)))

-- ---- unescaped characters

-- the bytes of unescaped characters
abbrev pub unescaped_byte : ℕ → Bool
unescaped_byte b = byte_of is_unescaped b

-- a scan for such bytes passes whole unescaped characters, and UTF-8 is left
pub unescaped_scan : (s : List ℕ) → is_utf8 s ≡ true → Scanned is_unescaped s
unescaped_scan s u = scan is_unescaped unescaped_wide s u

-- an unescaped character is one ASCII byte, which is itself, or all its bytes are at least 80
pub unescaped_bytes : (c : ℕ) → is_unescaped c ≡ true → ((c < 0x80) × (encode c ≡ c ∷ [])) ⊎ ((0x80 ≤ c) × (every (leb 0x80) (encode c) ≡ true))
unescaped_bytes c e = encode_bytes c
