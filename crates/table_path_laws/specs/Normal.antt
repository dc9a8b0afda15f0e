-- The escapes of a path are those of RFC 9535, section 2.7, and no others: its rule normal-single-quoted as a tree, held against `escaped`. Assumes nothing.
use Rattle.std.specs.Prelude.{ℕ, ◌+◌, ◌-◌, ◌*◌, ◌/◌, ◌%◌, ◌≤◌, ◌<◌, ◌≡◌, refl, ◌⊎◌, List, [], ◌∷◌, ◌++◌, Bool, true, ◌&&◌, ◌||◌, eqb, ltb}
use Rattle.std.proofs.Common.{sym, ◌∙◌, inl, inr, append-nil, arith, eqb-true, ne_eqb, lt-ltb, le-ltb, ltb-true, ltb-false, le-leb}
use Rattle.std.proofs.Math.Bool.{and-eq-true_iff}
use Rattle.std.proofs.lemmas.Bool.{eqb-false, lt-leb}
use Rattle.definition.specs.Bytes.{within}
use Rattle.definition.specs.Utf8.{encode, encode_all}
use Rattle.definition.specs.Lexical.{is_digit, hex_value}
use Rattle.definition.specs.Literals.{short_value}
use Rattle.utf8_laws.specs.Bytes.{by_test, inside_low, inside_high}
use Rattle.utf8_laws.specs.Encode.{encode_one}
use Rattle.utf8_laws.specs.Scan.{encode_high}
use Rattle.definition.specs.Paths.{hex_digit, escaped, escaped_all}
use Rattle.basics.specs.Bools.{or_cases as either}
use Rattle.table_path_laws.specs.Texts.{escaped_append, high_selves}

-- ---- the rules

-- normal-unescaped = %x20-26 / %x28-5B / %x5D-D7FF / %xE000-10FFFF
abbrev pub is_normal_unescaped : ℕ → Bool
is_normal_unescaped c = within 0x20 0x26 c || (within 0x28 0x5B c || (within 0x5D 0xD7FF c || within 0xE000 0x10FFFF c))

-- normal-escapable without hexadecimal digits: b f n r t ' \
abbrev pub is_normal_letter : ℕ → Bool
is_normal_letter c = eqb c 0x62 || (eqb c 0x66 || (eqb c 0x6E || (eqb c 0x72 || (eqb c 0x74 || (eqb c 0x27 || eqb c 0x5C)))))

-- normal-HEXDIG = DIGIT / %x61-66
abbrev pub is_normal_hex : ℕ → Bool
is_normal_hex c = is_digit c || within 0x61 0x66 c

-- normal-hexchar = "0" "0" ( ("0" %x30-37) / ("0" %x62) / ("0" %x65-66) / ("1" normal-HEXDIG) ), by its last two characters
abbrev pub is_normal_hexchar : ℕ → ℕ → Bool
is_normal_hexchar a b = (eqb a 0x30 && (within 0x30 0x37 b || (eqb b 0x62 || within 0x65 0x66 b))) || (eqb a 0x31 && is_normal_hex b)

-- normal-single-quoted = normal-unescaped / ESC normal-escapable
pub data NormalChar : Type 0 where
  plain : (c : ℕ) → is_normal_unescaped c ≡ true → NormalChar
  letter : (c : ℕ) → is_normal_letter c ≡ true → NormalChar
  hex : (a b : ℕ) → is_normal_hexchar a b ≡ true → NormalChar

unfoldable pub spell_normal : NormalChar → List ℕ
spell_normal (plain c h) = encode c
spell_normal (letter c h) = 0x5C ∷ c ∷ []
spell_normal (hex a b h) = 0x5C ∷ 0x75 ∷ 0x30 ∷ 0x30 ∷ a ∷ b ∷ []

-- the code point that it stands for
unfoldable pub normal_value : NormalChar → ℕ
normal_value (plain c h) = c
normal_value (letter c h) = short_value c
normal_value (hex a b h) = hex_value a * 16 + hex_value b

unfoldable pub spell_normals : List NormalChar → List ℕ
spell_normals [] = []
spell_normals (n ∷ ns) = spell_normal n ++ spell_normals ns

unfoldable pub normal_values : List NormalChar → List ℕ
normal_values [] = []
normal_values (n ∷ ns) = normal_value n ∷ normal_values ns

-- ---- each is spelled as `escaped` spells what it stands for

-- a byte from 20 on that is no quote and no backslash stands for itself
self_escaped : (b : ℕ) → 0x20 ≤ b → (b ≡ 0x27 → ⊥) → (b ≡ 0x5C → ⊥) → escaped b ≡ b ∷ []
unfolding escaped
self_escaped b l q s =
    rw (ne_eqb b 0x08 (λ e. omega arith), ne_eqb b 0x09 (λ e. omega arith), ne_eqb b 0x0A (λ e. omega arith), ne_eqb b 0x0C (λ e. omega arith), ne_eqb b 0x0D (λ e. omega arith), ne_eqb b 0x27 q, ne_eqb b 0x5C s, le-ltb b 0x20 l)

-- a control character that no letter names is escaped by digits
hex_escaped : (b : ℕ) → b < 0x20 → (b ≡ 0x08 → ⊥) → (b ≡ 0x09 → ⊥) → (b ≡ 0x0A → ⊥) → (b ≡ 0x0C → ⊥) → (b ≡ 0x0D → ⊥)
    → escaped b ≡ 0x5C ∷ 0x75 ∷ 0x30 ∷ 0x30 ∷ hex_digit (b / 16) ∷ hex_digit (b % 16) ∷ []
unfolding escaped
hex_escaped b l n8 n9 nA nC nD =
    rw (ne_eqb b 0x08 n8, ne_eqb b 0x09 n9, ne_eqb b 0x0A nA, ne_eqb b 0x0C nC, ne_eqb b 0x0D nD, ne_eqb b 0x27 (λ e. omega arith), ne_eqb b 0x5C (λ e. omega arith), lt-ltb b 0x20 l)

one_escaped : (b : ℕ) (e : List ℕ) → b < 0x80 → escaped b ≡ e → e ≡ escaped_all (encode b)
unfolding escaped_all
one_escaped b e l h = rw (encode_one b l, h, append-nil e)

-- what normal-unescaped leaves out
plain_bounds : (c : ℕ) → is_normal_unescaped c ≡ true → (0x20 ≤ c) × ((c ≡ 0x27 → ⊥) × (c ≡ 0x5C → ⊥))
plain_bounds c h = a (either (within 0x20 0x26 c) (within 0x28 0x5B c || (within 0x5D 0xD7FF c || within 0xE000 0x10FFFF c)) h)
  where
    by : (lo hi : ℕ) → 0x20 ≤ lo → ((c : ℕ) → lo ≤ c → c ≤ hi → (c ≡ 0x27 → ⊥) × (c ≡ 0x5C → ⊥)) → within lo hi c ≡ true → (0x20 ≤ c) × ((c ≡ 0x27 → ⊥) × (c ≡ 0x5C → ⊥))
    by lo hi l f w = let x = inside_low lo hi c w in (omega arith, f c x (inside_high lo hi c w))

    d : (within 0x5D 0xD7FF c ≡ true) ⊎ (within 0xE000 0x10FFFF c ≡ true) → (0x20 ≤ c) × ((c ≡ 0x27 → ⊥) × (c ≡ 0x5C → ⊥))
    d (inl w) = by 0x5D 0xD7FF (omega arith) (λ x l h. ((λ e. omega arith), (λ e. omega arith))) w
    d (inr w) = by 0xE000 0x10FFFF (omega arith) (λ x l h. ((λ e. omega arith), (λ e. omega arith))) w

    b : (within 0x28 0x5B c ≡ true) ⊎ ((within 0x5D 0xD7FF c || within 0xE000 0x10FFFF c) ≡ true) → (0x20 ≤ c) × ((c ≡ 0x27 → ⊥) × (c ≡ 0x5C → ⊥))
    b (inl w) = by 0x28 0x5B (omega arith) (λ x l h. ((λ e. omega arith), (λ e. omega arith))) w
    b (inr w) = d (either (within 0x5D 0xD7FF c) (within 0xE000 0x10FFFF c) w)

    a : (within 0x20 0x26 c ≡ true) ⊎ ((within 0x28 0x5B c || (within 0x5D 0xD7FF c || within 0xE000 0x10FFFF c)) ≡ true) → (0x20 ≤ c) × ((c ≡ 0x27 → ⊥) × (c ≡ 0x5C → ⊥))
    a (inl w) = by 0x20 0x26 (omega arith) (λ x l h. ((λ e. omega arith), (λ e. omega arith))) w
    a (inr w) = b (either (within 0x28 0x5B c) (within 0x5D 0xD7FF c || within 0xE000 0x10FFFF c) w)

plain_escaped : (c : ℕ) → is_normal_unescaped c ≡ true → encode c ≡ escaped_all (encode c)
plain_escaped c h =
    let w = plain_bounds c h in
    by_test (ltb c 0x80)
    (λ y. let l = ltb-true c 0x80 y in encode_one c l ∙ one_escaped c (c ∷ []) l (self_escaped c w.0 w.1.0 w.1.1))
    (λ n. sym (high_selves (encode c) (encode_high c (ltb-false c 0x80 n))))

letter_escaped : (c : ℕ) → is_normal_letter c ≡ true → 0x5C ∷ c ∷ [] ≡ escaped_all (encode (short_value c))
unfolding escaped_all escaped encode short_value
letter_escaped c h =
    by_test (eqb c 0x62) (λ y. rw (eqb-true c 0x62 y)) (λ n1.
    by_test (eqb c 0x66) (λ y. rw (eqb-true c 0x66 y)) (λ n2.
    by_test (eqb c 0x6E) (λ y. rw (eqb-true c 0x6E y)) (λ n3.
    by_test (eqb c 0x72) (λ y. rw (eqb-true c 0x72 y)) (λ n4.
    by_test (eqb c 0x74) (λ y. rw (eqb-true c 0x74 y)) (λ n5.
    by_test (eqb c 0x27) (λ y. rw (eqb-true c 0x27 y)) (λ n6.
    let y : eqb c 0x5C ≡ true = rw (n1, n2, n3, n4, n5, n6) at h in
    rw (eqb-true c 0x5C y)))))))

-- a small hexadecimal digit is the digit of its value
pub record SmallHex (b : ℕ) : Type 0 where
  pub small : hex_value b < 16
  pub digit : hex_digit (hex_value b) ≡ b

small_hex : (b : ℕ) → is_normal_hex b ≡ true → SmallHex b
unfolding hex_digit
small_hex b h = by (either (is_digit b) (within 0x61 0x66 b) h)
  where
    by : (is_digit b ≡ true) ⊎ (within 0x61 0x66 b ≡ true) → SmallHex b
    by (inl w) =
        let l = inside_low 0x30 0x39 b w in
        let m = inside_high 0x30 0x39 b w in
        record { small = rw (le-leb 0x30 b l, le-leb b 0x39 m) (omega arith); digit = rw (le-leb 0x30 b l, le-leb b 0x39 m) (rw (lt-ltb (b - 0x30) 10 (omega arith)) (omega arith)) }
    by (inr w) =
        let l = inside_low 0x61 0x66 b w in
        let m = inside_high 0x61 0x66 b w in
        record {
          small = rw (le-leb 0x30 b (omega arith), lt-leb b 0x39 (omega arith), le-leb 0x61 b l) (omega arith);
          digit = rw (le-leb 0x30 b (omega arith), lt-leb b 0x39 (omega arith), le-leb 0x61 b l) (rw (le-ltb (b - 0x57) 10 (omega arith)) (omega arith));
        }

-- digits whose value is a control character that no letter names
digits_escaped : (a b d v : ℕ) → hex_digit d ≡ a → hex_digit v ≡ b → d < 2 → v < 16 → (d * 16 + v ≡ 0x08 → ⊥) → (d * 16 + v ≡ 0x09 → ⊥) → (d * 16 + v ≡ 0x0A → ⊥) → (d * 16 + v ≡ 0x0C → ⊥) → (d * 16 + v ≡ 0x0D → ⊥)
    → 0x5C ∷ 0x75 ∷ 0x30 ∷ 0x30 ∷ a ∷ b ∷ [] ≡ escaped_all (encode (d * 16 + v))
digits_escaped a b d v p q l m n8 n9 nA nC nD =
    let c = d * 16 + v in
    let x : c / 16 ≡ d = omega arith in
    let y : c % 16 ≡ v = omega arith in
    one_escaped c (0x5C ∷ 0x75 ∷ 0x30 ∷ 0x30 ∷ a ∷ b ∷ []) (omega arith) (hex_escaped c (omega arith) n8 n9 nA nC nD ∙ rw (x, y, p, q))

hexchar_escaped : (a b : ℕ) → is_normal_hexchar a b ≡ true → 0x5C ∷ 0x75 ∷ 0x30 ∷ 0x30 ∷ a ∷ b ∷ [] ≡ escaped_all (encode (hex_value a * 16 + hex_value b))
unfolding hex_digit
hexchar_escaped a b h = by (either (eqb a 0x30 && (within 0x30 0x37 b || (eqb b 0x62 || within 0x65 0x66 b))) (eqb a 0x31 && is_normal_hex b) h)
  where
    zeros : a ≡ 0x30 → (within 0x30 0x37 b ≡ true) ⊎ ((eqb b 0x62 || within 0x65 0x66 b) ≡ true) → 0x5C ∷ 0x75 ∷ 0x30 ∷ 0x30 ∷ a ∷ b ∷ [] ≡ escaped_all (encode (hex_value a * 16 + hex_value b))
    zeros e (inl w) =
        let l = inside_low 0x30 0x37 b w in
        let m = inside_high 0x30 0x37 b w in
        let s = small_hex b (rw (le-leb 0x30 b l, le-leb b 0x39 (omega arith))) in
        let k : hex_value b ≡ b - 0x30 = rw (le-leb 0x30 b l, le-leb b 0x39 (omega arith)) in
        rw (e) (digits_escaped 0x30 b 0 (hex_value b) refl s.digit (omega arith) s.small (λ z. omega arith) (λ z. omega arith) (λ z. omega arith) (λ z. omega arith) (λ z. omega arith))
    zeros e (inr w) = rest (either (eqb b 0x62) (within 0x65 0x66 b) w)
      where
        rest : (eqb b 0x62 ≡ true) ⊎ (within 0x65 0x66 b ≡ true) → 0x5C ∷ 0x75 ∷ 0x30 ∷ 0x30 ∷ a ∷ b ∷ [] ≡ escaped_all (encode (hex_value a * 16 + hex_value b))
        rest (inl y) = let f = eqb-true b 0x62 y in rw (e, f) (digits_escaped 0x30 0x62 0 0x0B refl refl (omega arith) (omega arith) (λ z. omega arith) (λ z. omega arith) (λ z. omega arith) (λ z. omega arith) (λ z. omega arith))
        rest (inr y) =
            let l = inside_low 0x65 0x66 b y in
            let m = inside_high 0x65 0x66 b y in
            by_test (eqb b 0x65)
            (λ t. let f = eqb-true b 0x65 t in rw (e, f) (digits_escaped 0x30 0x65 0 0x0E refl refl (omega arith) (omega arith) (λ z. omega arith) (λ z. omega arith) (λ z. omega arith) (λ z. omega arith) (λ z. omega arith)))
            (λ t. let g = eqb-false b 0x65 t in let f : b ≡ 0x66 = omega arith in rw (e, f) (digits_escaped 0x30 0x66 0 0x0F refl refl (omega arith) (omega arith) (λ z. omega arith) (λ z. omega arith) (λ z. omega arith) (λ z. omega arith) (λ z. omega arith)))

    by : ((eqb a 0x30 && (within 0x30 0x37 b || (eqb b 0x62 || within 0x65 0x66 b))) ≡ true) ⊎ ((eqb a 0x31 && is_normal_hex b) ≡ true) → 0x5C ∷ 0x75 ∷ 0x30 ∷ 0x30 ∷ a ∷ b ∷ [] ≡ escaped_all (encode (hex_value a * 16 + hex_value b))
    by (inl w) = let t = (and-eq-true_iff (eqb a 0x30) (within 0x30 0x37 b || (eqb b 0x62 || within 0x65 0x66 b))).0 w in zeros (eqb-true a 0x30 t.0) (either (within 0x30 0x37 b) (eqb b 0x62 || within 0x65 0x66 b) t.1)
    by (inr w) =
        let t = (and-eq-true_iff (eqb a 0x31) (is_normal_hex b)).0 w in
        let e = eqb-true a 0x31 t.0 in
        let s = small_hex b t.1 in
        let k = s.small in
        rw (e) (digits_escaped 0x31 b 1 (hex_value b) refl s.digit (omega arith) s.small (λ z. omega arith) (λ z. omega arith) (λ z. omega arith) (λ z. omega arith) (λ z. omega arith))

-- Every character of section 2.7 is spelled as a path spells what it stands for: so no two spellings stand for one character.
pub normal_spelled : (n : NormalChar) → spell_normal n ≡ escaped_all (encode (normal_value n))
unfolding spell_normal normal_value
normal_spelled (plain c h) = plain_escaped c h
normal_spelled (letter c h) = letter_escaped c h
normal_spelled (hex a b h) = hexchar_escaped a b h

pub normals_spelled : (ns : List NormalChar) → spell_normals ns ≡ escaped_all (encode_all (normal_values ns))
unfolding spell_normals normal_values encode_all escaped_all
normals_spelled [] = refl
normals_spelled (n ∷ ns) = rw (normal_spelled n, normals_spelled ns) (sym (escaped_append (encode (normal_value n)) (encode_all (normal_values ns))))
