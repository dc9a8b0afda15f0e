-- The quoted text of the grammar that spells an escaped key and stands for it. Assumes nothing.
use Rattle.std.specs.Prelude.{ℕ, ◌+◌, ◌-◌, ◌/◌, ◌%◌, ◌≤◌, ◌<◌, ◌≡◌, refl, ◌⊎◌, List, [], ◌∷◌, ◌++◌, true, false, ◌||◌, eqb, leb, ltb}
use Rattle.std.proofs.Common.{sym, ap, ◌∙◌, inl, inr, append_assoc, append-nil, arith, eqb-true, ltb-true, ltb-false, leb-true}
use Rattle.std.proofs.Math.Bool.{and-eq-true_iff}
use Rattle.std.proofs.lemmas.Bool.{eqb-false, lt-leb}
use Rattle.definition.specs.Bytes.{every, within}
use Rattle.definition.specs.Utf8.{is_scalar, encode, encode_all, is_utf8}
use Rattle.definition.specs.Lexical.{is_unescaped, Hex4, hex4_value, is_high, is_low, Char, Text, spell_char, spell_chars, spell_text}
use Rattle.definition.specs.Lexical.Escape.{short, unicode}
use Rattle.definition.specs.Lexical.Char.{plain, other_quote, own_quote, escape}
use Rattle.definition.specs.Lexical.Quote.{single}
use Rattle.definition.specs.Literals.{escape_value, char_bytes, chars_bytes, text_bytes}
use Rattle.utf8_laws.specs.Bytes.{by_test, inside}
use Rattle.utf8_laws.specs.Encode.{encode_one, scalar_range}
use Rattle.utf8_laws.specs.Decode.{decode}
use Rattle.utf8_laws.specs.Scan.{encode_high}
use Rattle.definition.specs.Paths.{hex_digit, escaped, escaped_all}
use Rattle.basics.specs.Bools.{or_first, or_second}
use Rattle.table_path_laws.specs.Escapes.{Escapes, escapes, hex_digit_lem}
use Rattle.table_path_laws.specs.Escapes.Escapes.{by_letter, by_quote, by_digits_lem, by_self}

-- ---- escapes of several bytes

-- the escapes of two texts stand end to end
pub escaped_append : (a b : List ℕ) → escaped_all (a ++ b) ≡ escaped_all a ++ escaped_all b
unfolding escaped_all
escaped_append [] b = refl
escaped_append (c ∷ a) b = ap (λ (r : List ℕ). escaped c ++ r) (escaped_append a b) ∙ sym (append_assoc (escaped c) (escaped_all a) (escaped_all b))

-- a byte beyond ASCII stands for itself
high_self : (b : ℕ) → 0x80 ≤ b → escaped b ≡ b ∷ []
high_self b h = by (escapes b)
  where
    by : Escapes b → escaped b ≡ b ∷ []
    by (by_letter c g v l m e) = absurd (omega arith)
    by (by_quote q e) = absurd (omega arith)
    by (by_digits_lem l e) = absurd (omega arith)
    by (by_self l q g e) = e

-- and so do several
pub high_selves : (s : List ℕ) → every (leb 0x80) s ≡ true → escaped_all s ≡ s
unfolding escaped_all
high_selves [] h = refl
high_selves (b ∷ s) h =
    let t = (and-eq-true_iff (leb 0x80 b) (every (leb 0x80) s)).0 h in
    rw (high_self b (leb-true 0x80 b t.0)) (ap (λ (r : List ℕ). b ∷ r) (high_selves s t.1))

-- ---- characters that need no escape

-- a scalar value from 20 on that is no quote and no backslash is unescaped
pub unescaped_by : (c : ℕ) → is_scalar c ≡ true → 0x20 ≤ c → (c ≡ 0x22 → ⊥) → (c ≡ 0x27 → ⊥) → (c ≡ 0x5C → ⊥) → is_unescaped c ≡ true
unescaped_by c s l q r t =
    let w1 = within 0x20 0x21 c in
    let w2 = within 0x23 0x26 c in
    let w3 = within 0x28 0x5B c in
    let w4 = within 0x5D 0xD7FF c in
    let w5 = within 0xE000 0x10FFFF c in
    by_test (ltb c 0x22) (λ y. let h = ltb-true c 0x22 y in or_first w1 (w2 || (w3 || (w4 || w5))) (inside 0x20 0x21 c l (omega arith))) (λ n1.
    let h1 = ltb-false c 0x22 n1 in
    or_second w1 (w2 || (w3 || (w4 || w5)))
    (by_test (ltb c 0x27) (λ y. let h = ltb-true c 0x27 y in or_first w2 (w3 || (w4 || w5)) (inside 0x23 0x26 c (omega arith) (omega arith))) (λ n2.
    let h2 = ltb-false c 0x27 n2 in
    or_second w2 (w3 || (w4 || w5))
    (by_test (ltb c 0x5C) (λ y. let h = ltb-true c 0x5C y in or_first w3 (w4 || w5) (inside 0x28 0x5B c (omega arith) (omega arith))) (λ n3.
    let h3 = ltb-false c 0x5C n3 in
    or_second w3 (w4 || w5) (by (scalar_range c s) (omega arith)))))))
  where
    by : (c < 0xD800) ⊎ ((0xE000 ≤ c) × (c ≤ 0x10FFFF)) → 0x5D ≤ c → (within 0x5D 0xD7FF c || within 0xE000 0x10FFFF c) ≡ true
    by (inl h) k = or_first (within 0x5D 0xD7FF c) (within 0xE000 0x10FFFF c) (inside 0x5D 0xD7FF c k (omega arith))
    by (inr h) k = or_second (within 0x5D 0xD7FF c) (within 0xE000 0x10FFFF c) (inside 0xE000 0x10FFFF c h.0 h.1)

-- ---- the character of a scalar value

-- a character of the grammar that spells a scalar value as a path does, and stands for it
pub record Spelled (c : ℕ) : Type 0 where
  pub char : Char
  pub spells : (r : List ℕ) → spell_char single char r ≡ escaped_all (encode c) ++ r
  pub means : char_bytes single char ≡ encode c

-- the four digits of a control character
control : (c : ℕ) → c < 0x20 → Hex4
control c l =
    record {
      a = 0x30;
      b = 0x30;
      c = hex_digit (c / 16);
      d = hex_digit (c % 16);
      good = rw ((hex_digit_lem (c / 16) (omega arith)).hex, (hex_digit_lem (c % 16) (omega arith)).hex);
    }

control_value : (c : ℕ) (l : c < 0x20) → hex4_value (control c l) ≡ c
unfolding control
control_value c l = rw ((hex_digit_lem (c / 16) (omega arith)).value, (hex_digit_lem (c % 16) (omega arith)).value) (omega arith)

control_plain : (c : ℕ) (l : c < 0x20) → (is_high (hex4_value (control c l)) || is_low (hex4_value (control c l))) ≡ false
control_plain c l = rw (control_value c l) (rw (lt-leb 0xD800 c (omega arith), lt-leb 0xDC00 c (omega arith)))

-- an ASCII character is one byte, and so are its escapes those of that byte
ascii_escapes : (c : ℕ) (e : List ℕ) → c < 0x80 → escaped c ≡ e → (r : List ℕ) → e ++ r ≡ escaped_all (encode c) ++ r
unfolding escaped_all
ascii_escapes c e l h r = rw (encode_one c l, h, append-nil e)

spell_ascii : (c : ℕ) → c < 0x80 → is_scalar c ≡ true → Spelled c
unfolding char_bytes escape_value control
spell_ascii c l s = by (escapes c)
  where
    by : Escapes c → Spelled c
    by (by_letter d h v m k e) = record { char = escape (short d h); spells = ascii_escapes c (0x5C ∷ d ∷ []) l e; means = ap encode v }
    by (by_quote q e) = record { char = own_quote; spells = ascii_escapes c (0x5C ∷ 0x27 ∷ []) l e; means = rw (encode_one c l, q) }
    by (by_digits_lem m e) =
        record {
          char = escape (unicode (control c m) (control_plain c m));
          spells = ascii_escapes c (0x5C ∷ 0x75 ∷ 0x30 ∷ 0x30 ∷ hex_digit (c / 16) ∷ hex_digit (c % 16) ∷ []) l e;
          means = ap encode (control_value c m);
        }
    by (by_self m q g e) =
        by_test (eqb c 0x22)
        (λ y. let z = eqb-true c 0x22 y in record { char = other_quote; spells = λ r. ap (λ (x : ℕ). x ∷ r) (sym z) ∙ ascii_escapes c (c ∷ []) l e r; means = rw (encode_one c l, z) })
        (λ n. record { char = plain c (unescaped_by c s m (eqb-false c 0x22 n) q g); spells = λ r. ap (λ (x : List ℕ). x ++ r) (encode_one c l) ∙ ascii_escapes c (c ∷ []) l e r; means = refl })

spell_high : (c : ℕ) → 0x80 ≤ c → is_scalar c ≡ true → Spelled c
unfolding char_bytes
spell_high c l s =
    record {
      char = plain c (unescaped_by c s (omega arith) (λ e. omega arith) (λ e. omega arith) (λ e. omega arith));
      spells = λ r. ap (λ (x : List ℕ). x ++ r) (sym (high_selves (encode c) (encode_high c l)));
      means = refl;
    }

-- every scalar value has its character
pub spelled : (c : ℕ) → is_scalar c ≡ true → Spelled c
spelled c s = by_test (ltb c 0x80) (λ y. spell_ascii c (ltb-true c 0x80 y) s) (λ n. spell_high c (ltb-false c 0x80 n) s)

-- ---- keys

-- the characters of a list of scalar values
pub record Chars (cs : List ℕ) : Type 0 where
  pub chars : List Char
  pub spells : (r : List ℕ) → spell_chars single chars r ≡ escaped_all (encode_all cs) ++ r
  pub means : chars_bytes single chars ≡ encode_all cs

pub characters : (cs : List ℕ) → every is_scalar cs ≡ true → Chars cs
unfolding chars_bytes encode_all escaped_all
characters [] h = record { chars = []; spells = λ r. refl; means = refl }
characters (c ∷ cs) h =
    let t = (and-eq-true_iff (is_scalar c) (every is_scalar cs)).0 h in
    let x = spelled c t.0 in
    let xs = characters cs t.1 in
    record {
      chars = x.char ∷ xs.chars;
      spells = λ r.
          ap (spell_char single x.char) (xs.spells r)
          ∙ x.spells (escaped_all (encode_all cs) ++ r)
          ∙ sym (append_assoc (escaped_all (encode c)) (escaped_all (encode_all cs)) r)
          ∙ ap (λ (y : List ℕ). y ++ r) (sym (escaped_append (encode c) (encode_all cs)));
      means = rw (x.means, xs.means);
    }

-- a quoted text of the grammar that spells a key as a path does, and stands for it
pub record Quoted (k : List ℕ) : Type 0 where
  pub text : Text
  pub spells : (r : List ℕ) → spell_text text r ≡ 0x27 ∷ (escaped_all k ++ (0x27 ∷ r))
  pub means : text_bytes text ≡ k

-- every UTF-8 key has its quoted text
pub quoted : (k : List ℕ) → is_utf8 k ≡ true → Quoted k
unfolding text_bytes
quoted k u =
    let d = decode k u in
    let xs = characters d.0 d.1 in
    record {
      text = record { quote = single; chars = xs.chars };
      spells = λ r. ap (λ (y : List ℕ). 0x27 ∷ y) (xs.spells (0x27 ∷ r) ∙ ap (λ (y : List ℕ). escaped_all y ++ (0x27 ∷ r)) d.2);
      means = xs.means ∙ d.2;
    }
