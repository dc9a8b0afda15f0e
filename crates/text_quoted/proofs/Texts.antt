-- Characters of a quoted text one behind the other: how a text that begins with some can be read, and what holds of what is left.
-- Assumes nothing.
use Prim.Native.Nat.{ℕ, ◌+◌, ◌≤◌, ◌<◌}
use mathlib.Core.Path.{◌≡◌, refl, sym, ap, ◌∙◌}
use mathlib.Core.List.{List, [], ◌∷◌, ◌++◌, append_assoc, append-nil}
use mathlib.Core.Bool.{true, and-eq-true_iff}
use native.Mathlib.Omega.{arith}
use lib.Dec.{lit<}
use lib.ListN.{length, length-append}
use Rattle.definition.specs.Bytes.{every}
use Rattle.definition.specs.Lexical.{Char, Quote, Hex4, own_byte, other_byte, is_unescaped, spell_hex4, spell_char, spell_chars}
use Rattle.definition.specs.Lexical.Char.{plain, other_quote, own_quote, escape}
use Rattle.definition.specs.Lexical.Escape.{short, unicode, pair}
use Rattle.definition.specs.Literals.{escape_value, char_bytes, chars_bytes}
use Rattle.definition.specs.Utf8.{encode, encode_all, is_utf8}
use Rattle.utf8_laws.specs.Texts.{encode_most, other_ascii, own_ascii}
use Rattle.basics.specs.Reads.{Reads, ReadsNone}
use Rattle.utf8_laws.specs.Encode.{utf8_ascii, utf8_encode}
use Rattle.utf8_laws.specs.Decode.{encode_long}
use Rattle.utf8_laws.specs.Names.{unescaped_scalar}
use Rattle.text_quoted.specs.Quoted.{spell_closed, Any, Stuck}
use Rattle.text_quoted.specs.Pieces.{Passed}
use Rattle.text_quoted.proofs.Hexes.{all_hex, hex_ascii}
use Rattle.text_quoted.proofs.Letters.{letter_ascii, short_range}
use Rattle.text_quoted.proofs.Storing.{size_one}
use Rattle.text_quoted.proofs.Chars.{own-not-slash, own-not-other, own_not_plain, not_plain, escape_first, plain_char}

-- ---- one list behind another

spell_append : (q : Quote) (a b : List Char) (r : List ℕ) → spell_chars q (a ++ b) r ≡ spell_chars q a (spell_chars q b r)
spell_append q [] b r = refl
spell_append q (c ∷ a) b r = ap (spell_char q c) (spell_append q a b r)

bytes_append : (q : Quote) (a b : List Char) → chars_bytes q (a ++ b) ≡ chars_bytes q a ++ chars_bytes q b
unfolding chars_bytes
bytes_append q [] b = refl
bytes_append q (c ∷ a) b = ap (λ (r : List ℕ). char_bytes q c ++ r) (bytes_append q a b) ∙ sym (append_assoc (char_bytes q c) (chars_bytes q a) (chars_bytes q b))

-- ---- parts

-- nothing is read
pub passed_none : (q : Quote) (s : List ℕ) → Passed q s s []
unfolding chars_bytes
passed_none q s = record { chars = []; is = refl; bytes = refl; only = λ t' r' e. (t', e, refl) }

-- one part behind another
pub passed_then : (q : Quote) (s t r c d : List ℕ) → Passed q s t c → Passed q t r d → Passed q s r (c ++ d)
passed_then q s t r c d a b =
    record {
      chars = a.chars ++ b.chars;
      is = a.is ∙ ap (spell_chars q a.chars) b.is ∙ sym (spell_append q a.chars b.chars r);
      bytes = bytes_append q a.chars b.chars ∙ rw (a.bytes, b.bytes);
      only = λ t' r' e.
          let x = a.only t' r' e in
          let y = b.only x.0 r' x.1 in
          (y.0, y.1, x.2 ∙ ap (λ (l : List ℕ). c ++ l) y.2 ∙ sym (append_assoc c d (chars_bytes q y.0)));
    }

-- one character, where no closing quote stands
pub passed_char : (q : Quote) (s : List ℕ) (c : Char) (r : List ℕ) → Reads (spell_char q) (char_bytes q) Any s c r → ((r' : List ℕ) → s ≡ own_byte q ∷ r' → ⊥) → Passed q s r (char_bytes q c)
unfolding chars_bytes
passed_char q s c r a own = record { chars = c ∷ []; is = a.eq; bytes = append-nil (char_bytes q c); only = only }
  where
    only : (t' : List Char) (r' : List ℕ) → s ≡ spell_closed q t' r' → (u' : List Char) × (r ≡ spell_closed q u' r') × (chars_bytes q t' ≡ char_bytes q c ++ chars_bytes q u')
    only [] r' e = absurd (own r' e)
    only (y ∷ ys) r' e = let o = a.only y (spell_closed q ys r') tt e in (ys, sym o.1, rw o.0)

-- where no character and no closing quote stands, no text does
pub none_closed : (q : Quote) (s : List ℕ) → Stuck q s → ReadsNone (spell_closed q) Any s
none_closed q s a = record { none = λ t' r' _ e. none t' r' e }
  where
    none : (t' : List Char) (r' : List ℕ) → s ≡ spell_closed q t' r' → ⊥
    none [] r' e = a.own r' e
    none (y ∷ ys) r' e = a.char.none y (spell_closed q ys r') tt e

-- unescaped characters
pub passed_plain : (q : Quote) (cs : List ℕ) (r : List ℕ) → every is_unescaped cs ≡ true → Passed q (encode_all cs ++ r) r (encode_all cs)
unfolding encode_all char_bytes
passed_plain q [] r h = passed_none q r
passed_plain q (c ∷ cs) r h =
    let t = (and-eq-true_iff (is_unescaped c) (every is_unescaped cs)).0 h in
    rw append_assoc
    (passed_then q (encode c ++ (encode_all cs ++ r)) (encode_all cs ++ r) r (encode c) (encode_all cs)
    (passed_char q (encode c ++ (encode_all cs ++ r)) (plain c t.0) (encode_all cs ++ r) (plain_char q c t.0 (encode_all cs ++ r))
    (λ r' e. not_plain c (own_byte q) r' (encode_all cs ++ r) t.0 (sym e) (own_not_plain q)))
    (passed_plain q cs r t.1))

-- a closing quote is no character, so the text ends there
pub own_ends : (q : Quote) (u : List Char) (r r' : List ℕ) → own_byte q ∷ r ≡ spell_closed q u r' → (chars_bytes q u ≡ []) × (r' ≡ r)
unfolding chars_bytes
own_ends q [] r r' e = (refl, cc)
own_ends q (plain c h ∷ u) r r' e = not_plain c (own_byte q) r (spell_closed q u r') h e (own_not_plain q)
own_ends q (other_quote ∷ u) r r' e = let k : own_byte q ≡ other_byte q = cc in own-not-other q k
own_ends q (own_quote ∷ u) r r' e = let k : own_byte q ≡ 0x5C = cc in own-not-slash q k
own_ends q (escape x ∷ u) r r' e = own-not-slash q (escape_first x (own_byte q) r (spell_closed q u r') e)

-- ---- UTF-8 is left

ascii_four : (h : Hex4) (r : List ℕ) → is_utf8 (spell_hex4 h r) ≡ is_utf8 r
ascii_four h r =
    let x = all_hex h.a h.b h.c h.d h.good in
    utf8_ascii h.a (h.b ∷ h.c ∷ h.d ∷ r) (hex_ascii h.a x.a_is)
    ∙ utf8_ascii h.b (h.c ∷ h.d ∷ r) (hex_ascii h.b x.b_is)
    ∙ utf8_ascii h.c (h.d ∷ r) (hex_ascii h.c x.c_is)
    ∙ utf8_ascii h.d r (hex_ascii h.d x.d_is)

slash_ascii : (b : ℕ) (r : List ℕ) → b < 0x80 → is_utf8 (0x5C ∷ b ∷ r) ≡ is_utf8 r
slash_ascii b r h = utf8_ascii 0x5C (b ∷ r) (lit< tt) ∙ utf8_ascii b r h

-- a character's spelling in front of a text leaves it UTF-8, or not, as it was
char_sound : (q : Quote) (c : Char) (r : List ℕ) → is_utf8 (spell_char q c r) ≡ is_utf8 r
char_sound q (plain c h) r = utf8_encode c r (unescaped_scalar c h)
char_sound q other_quote r = utf8_ascii (other_byte q) r (other_ascii q)
char_sound q own_quote r = slash_ascii (own_byte q) r (own_ascii q)
char_sound q (escape (short c h)) r = slash_ascii c r (letter_ascii c h)
char_sound q (escape (unicode h g)) r = slash_ascii 0x75 (spell_hex4 h r) (lit< tt) ∙ ascii_four h r
char_sound q (escape (pair h l g k)) r =
    slash_ascii 0x75 (spell_hex4 h (0x5C ∷ 0x75 ∷ spell_hex4 l r)) (lit< tt)
    ∙ ascii_four h (0x5C ∷ 0x75 ∷ spell_hex4 l r)
    ∙ slash_ascii 0x75 (spell_hex4 l r) (lit< tt)
    ∙ ascii_four l r

pub chars_sound : (q : Quote) (cs : List Char) (r : List ℕ) → is_utf8 (spell_chars q cs r) ≡ is_utf8 r
chars_sound q [] r = refl
chars_sound q (c ∷ cs) r = char_sound q c (spell_chars q cs r) ∙ chars_sound q cs r

-- ---- what characters stand for is never longer than their spelling

pub char_short : (q : Quote) (c : Char) (r : List ℕ) → length (char_bytes q c) + length r ≤ length (spell_char q c r)
unfolding char_bytes escape_value
char_short q (plain c h) r = omega (arith, length-append (encode c) r)
char_short q other_quote r = omega arith
char_short q own_quote r = omega arith
char_short q (escape (short c h)) r = omega (arith, size_one (escape_value (short c h)) (short_range c h).1)
char_short q (escape (unicode h g)) r = omega (arith, encode_most (escape_value (unicode h g)))
char_short q (escape (pair h l g k)) r = omega (arith, encode_most (escape_value (pair h l g k)))

pub chars_short : (q : Quote) (cs : List Char) (r : List ℕ) → length (chars_bytes q cs) + length r ≤ length (spell_chars q cs r)
unfolding chars_bytes
chars_short q [] r = omega arith
chars_short q (c ∷ cs) r =
    omega (arith, length-append (char_bytes q c) (chars_bytes q cs), char_short q c (spell_chars q cs r), chars_short q cs r)

-- in an empty text neither a character nor a closing quote stands
char_long : (q : Quote) (c : Char) (r : List ℕ) → 0 < length (spell_char q c r)
char_long q (plain c h) r = let k = length-append (encode c) r in let l = encode_long c in omega arith
char_long q other_quote r = omega arith
char_long q own_quote r = omega arith
char_long q (escape (short c h)) r = omega arith
char_long q (escape (unicode h g)) r = omega arith
char_long q (escape (pair h l g k)) r = omega arith

pub stuck_end : (q : Quote) → Stuck q []
stuck_end q =
    record {
      char = record { none = λ c r _ e. let k = ap length e in let h = char_long q c r in absurd (omega arith) };
      own = λ r e. let z : ◌≡◌ {A = ℕ} 0 1 = cc in omega arith;
    }
