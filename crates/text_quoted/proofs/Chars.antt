-- One character of a quoted text: how a text that begins with it can be read, and how one that does not. Assumes nothing.
use Prim.Native.Nat.{ℕ}
use mathlib.Core.Path.{◌≡◌, refl, sym, ap, ◌∙◌}
use mathlib.Core.List.{List, [], ◌∷◌, ◌++◌}
use mathlib.Core.Bool.{true, false, true≢false}
use native.Mathlib.Omega.{arith}
use Rattle.definition.specs.Lexical.{Char, Escape, Quote, own_byte, other_byte, is_short, is_unescaped, spell_escape, spell_char}
use Rattle.definition.specs.Lexical.Quote.{double, single}
use Rattle.definition.specs.Lexical.Char.{plain, other_quote, own_quote, escape}
use Rattle.definition.specs.Lexical.Escape.{short, unicode, pair}
use Rattle.definition.specs.Literals.{escape_value, char_bytes}
use Rattle.definition.specs.Utf8.{encode}
use Rattle.basics.specs.Reads.{Reads, ReadsNone}
use Rattle.utf8_laws.specs.Unique.{encode_unique}
use Rattle.utf8_laws.specs.Scan.{char_begins}
use Rattle.utf8_laws.specs.Names.{unescaped_byte}
use Rattle.text_quoted.specs.Quoted.{Any}
use Rattle.text_quoted.proofs.Places.{differ}

-- ---- the quotes

own-not-u {ℓ} : {X : Type ℓ} (q : Quote) → own_byte q ≡ 0x75 → X
own-not-u double e = differ 0x22 0x75 refl e
own-not-u single e = differ 0x27 0x75 refl e

own_not_short : (q : Quote) → is_short (own_byte q) ≡ false
own_not_short double = refl
own_not_short single = refl

pub own-not-slash {ℓ} : {X : Type ℓ} (q : Quote) → own_byte q ≡ 0x5C → X
own-not-slash double e = differ 0x22 0x5C refl e
own-not-slash single e = differ 0x27 0x5C refl e

pub other-not-slash {ℓ} : {X : Type ℓ} (q : Quote) → other_byte q ≡ 0x5C → X
other-not-slash double e = differ 0x27 0x5C refl e
other-not-slash single e = differ 0x22 0x5C refl e

pub own-not-other {ℓ} : {X : Type ℓ} (q : Quote) → own_byte q ≡ other_byte q → X
own-not-other double e = differ 0x22 0x27 refl e
own-not-other single e = differ 0x27 0x22 refl e

pub own_not_plain : (q : Quote) → unescaped_byte (own_byte q) ≡ false
own_not_plain double = refl
own_not_plain single = refl

pub other_not_plain : (q : Quote) → unescaped_byte (other_byte q) ≡ false
other_not_plain double = refl
other_not_plain single = refl

-- ---- the first byte of a character

-- the first byte of an unescaped character is plain
plain_first : (c x : ℕ) (t r : List ℕ) → is_unescaped c ≡ true → x ∷ t ≡ encode c ++ r → unescaped_byte x ≡ true
plain_first c x t r h e = char_begins is_unescaped c r x t h (sym e)

-- a byte that is not plain begins no unescaped character
pub not_plain {ℓ} : {X : Type ℓ} (c x : ℕ) (t r : List ℕ) → is_unescaped c ≡ true → x ∷ t ≡ encode c ++ r → unescaped_byte x ≡ false → X
not_plain c x t r h e f = absurd (true≢false (sym (plain_first c x t r h e) ∙ f))

-- an escape begins with a backslash
pub escape_first : (e : Escape) (x : ℕ) (t r : List ℕ) → x ∷ t ≡ spell_escape e r → x ≡ 0x5C
escape_first (short c h) x t r e = cc
escape_first (unicode h g) x t r e = cc
escape_first (pair h l g k) x t r e = cc

-- behind a backslash stands the own quote or an escape
by_slash : {X : Type 0} (q : Quote) (t r : List ℕ) (y : Char) → 0x5C ∷ t ≡ spell_char q y r
    → (y ≡ own_quote → t ≡ own_byte q ∷ r → X) → ((e : Escape) → y ≡ escape e → 0x5C ∷ t ≡ spell_escape e r → X) → X
by_slash q t r (plain c h) e own esc = not_plain c 0x5C t r h e refl
by_slash q t r other_quote e own esc = let k : other_byte q ≡ 0x5C = cc in other-not-slash q k
by_slash q t r own_quote e own esc = own refl (cc)
by_slash q t r (escape x) e own esc = esc x refl e

-- behind a backslash an escape has a letter that names a character, or u
by_letter_lem : {X : Type 0} (b : ℕ) (t r : List ℕ) (e : Escape) → 0x5C ∷ b ∷ t ≡ spell_escape e r
    → ((h : is_short b ≡ true) → escape_value e ≡ escape_value (short b h) → t ≡ r → X) → (b ≡ 0x75 → X) → X
unfolding escape_value
by_letter_lem b t r (short c h) e named u =
    let k : c ≡ b = cc in
    named (rw k at h) (rw k) (cc)
by_letter_lem b t r (unicode h g) e named u = u (cc)
by_letter_lem b t r (pair h l g k) e named u = u (cc)

-- ---- characters behind a backslash

-- nothing stands behind it
pub slash_end : (q : Quote) → ReadsNone (spell_char q) Any (0x5C ∷ [])
slash_end q =
    record {
      none = λ y r _ e.
          by_slash q [] r y e
          (λ p k. let z : ◌≡◌ {A = ℕ} 0 1 = cc in omega arith)
          (λ x p k. no_escape x r k);
    }
  where
    no_escape : (x : Escape) (r : List ℕ) → 0x5C ∷ [] ≡ spell_escape x r → ⊥
    no_escape (short c h) r k = let z : ◌≡◌ {A = ℕ} 0 1 = cc in omega arith
    no_escape (unicode h g) r k = let z : ◌≡◌ {A = ℕ} 0 1 = cc in omega arith
    no_escape (pair h l g m) r k = let z : ◌≡◌ {A = ℕ} 0 1 = cc in omega arith

-- the own quote
pub slash_own : (q : Quote) (r : List ℕ) → Reads (spell_char q) (char_bytes q) Any (0x5C ∷ own_byte q ∷ r) own_quote r
unfolding char_bytes
slash_own q r =
    record {
      eq = refl;
      only = λ y r' _ e.
          by_slash q (own_byte q ∷ r) r' y e
          (λ p k. (rw p, cc))
          (λ x p k.
          by_letter_lem (own_byte q) r r' x k
          (λ h v n. absurd (true≢false (sym h ∙ own_not_short q)))
          (λ u. own-not-u q u));
    }

-- a letter that names a character
pub slash_short : (q : Quote) (b : ℕ) (h : is_short b ≡ true) (r : List ℕ) → Reads (spell_char q) (char_bytes q) Any (0x5C ∷ b ∷ r) (escape (short b h)) r
unfolding char_bytes escape_value
slash_short q b h r =
    record {
      eq = refl;
      only = λ y r' _ e.
          by_slash q (b ∷ r) r' y e
          (λ p k. let o : b ≡ own_byte q = cc in absurd (true≢false (sym h ∙ ap is_short o ∙ own_not_short q)))
          (λ x p k.
          by_letter_lem b r r' x k
          (λ g v n. (rw (p, v), sym n))
          (λ u. absurd (true≢false (sym h ∙ ap is_short u))));
    }

-- u, with an escape
pub slash_unicode : (q : Quote) (t : List ℕ) (x : Escape) (r : List ℕ) → Reads spell_escape escape_value Any (0x5C ∷ 0x75 ∷ t) x r → Reads (spell_char q) (char_bytes q) Any (0x5C ∷ 0x75 ∷ t) (escape x) r
unfolding char_bytes
slash_unicode q t x r a =
    record {
      eq = a.eq;
      only = λ y r' _ e.
          by_slash q (0x75 ∷ t) r' y e
          (λ p k. let o : own_byte q ≡ 0x75 = cc in own-not-u q o)
          (λ z p k. let o = a.only z r' tt k in (rw (p, o.0), o.1));
    }

-- u, with no escape
pub slash_no_unicode : (q : Quote) (t : List ℕ) → ReadsNone spell_escape Any (0x5C ∷ 0x75 ∷ t) → ReadsNone (spell_char q) Any (0x5C ∷ 0x75 ∷ t)
slash_no_unicode q t a =
    record {
      none = λ y r' _ e.
          by_slash q (0x75 ∷ t) r' y e
          (λ p k. let o : own_byte q ≡ 0x75 = cc in own-not-u q o)
          (λ z p k. a.none z r' tt k);
    }

-- any other byte
pub slash_wrong : (q : Quote) (b : ℕ) (t : List ℕ) → (b ≡ own_byte q → ⊥) → (b ≡ 0x75 → ⊥) → is_short b ≡ false → ReadsNone (spell_char q) Any (0x5C ∷ b ∷ t)
slash_wrong q b t own u f =
    record {
      none = λ y r' _ e.
          by_slash q (b ∷ t) r' y e
          (λ p k. own (cc))
          (λ z p k. by_letter_lem b t r' z k (λ h v n. true≢false (sym h ∙ f)) u);
    }

-- ---- characters with no backslash

-- the other quote
pub other_char : (q : Quote) (r : List ℕ) → Reads (spell_char q) (char_bytes q) Any (other_byte q ∷ r) other_quote r
unfolding char_bytes
other_char q r = record { eq = refl; only = λ y r' _ e. only y r' e }
  where
    only : (y : Char) (r' : List ℕ) → other_byte q ∷ r ≡ spell_char q y r' → (char_bytes q y ≡ char_bytes q other_quote) × (r' ≡ r)
    only (plain c h) r' e = not_plain c (other_byte q) r r' h e (other_not_plain q)
    only other_quote r' e = (refl, cc)
    only own_quote r' e = let k : other_byte q ≡ 0x5C = cc in other-not-slash q k
    only (escape x) r' e = other-not-slash q (escape_first x (other_byte q) r r' e)

-- an unescaped character
pub plain_char : (q : Quote) (c : ℕ) (h : is_unescaped c ≡ true) (r : List ℕ) → Reads (spell_char q) (char_bytes q) Any (encode c ++ r) (plain c h) r
unfolding char_bytes
plain_char q c h r = record { eq = refl; only = λ y r' _ e. only y r' e }
  where
    only : (y : Char) (r' : List ℕ) → encode c ++ r ≡ spell_char q y r' → (char_bytes q y ≡ char_bytes q (plain c h)) × (r' ≡ r)
    only (plain d g) r' e = let u = encode_unique c d r r' e in (ap encode (sym u.0), sym u.1)
    only other_quote r' e = not_plain c (other_byte q) r' r h (sym e) (other_not_plain q)
    only own_quote r' e = not_plain c 0x5C (own_byte q ∷ r') r h (sym e) refl
    only (escape (short d g)) r' e = not_plain c 0x5C (d ∷ r') r h (sym e) refl
    only (escape (unicode d g)) r' e = not_plain c 0x5C _ r h (sym e) refl
    only (escape (pair d l g k)) r' e = not_plain c 0x5C _ r h (sym e) refl

-- a byte that begins no character
pub wrong_char : (q : Quote) (x : ℕ) (t : List ℕ) → unescaped_byte x ≡ false → (x ≡ other_byte q → ⊥) → (x ≡ 0x5C → ⊥) → ReadsNone (spell_char q) Any (x ∷ t)
wrong_char q x t f other slash = record { none = λ y r _ e. none y r e }
  where
    none : (y : Char) (r : List ℕ) → x ∷ t ≡ spell_char q y r → ⊥
    none (plain c h) r e = not_plain c x t r h e f
    none other_quote r e = other (cc)
    none own_quote r e = slash (cc)
    none (escape y) r e = slash (escape_first y x t r e)
