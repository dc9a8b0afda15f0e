-- The letters that name a character behind a backslash, and the bytes of unescaped characters. Assumes nothing.
use Prim.Native.Nat.{ℕ, ◌≤◌, ◌<◌}
use mathlib.Core.Path.{◌≡◌, sym, ◌∙◌}
use mathlib.Core.Bool.{true, false, not, ◌||◌, true≢false}
use native.Mathlib.Omega.{arith}
use borrow.Author.Tests.{ne_eqb, eqb-true, eqb-false, lt-ltb, ltb-true, ltb-false, leb-true, leb-false}
use lib.Dec.{eqb, leb, ltb, lit<}
use Rattle.definition.specs.Lexical.{is_short, is_unescaped}
use Rattle.definition.specs.Literals.{short_value}
use Rattle.utf8_laws.specs.Bytes.{by_test, inside}
use Rattle.utf8_laws.specs.Names.{unescaped_byte}
use Rattle.std.specs.Prelude.{Some, None}
use Rattle.std.proofs.lemmas.Option.{cond_some, none-some}
use Rattle.text_quoted.specs.Pieces.{short_code}
use Rattle.text_quoted.proofs.Hexes.{under, beyond}

-- a byte that is none of the letters
pub short_none : (b : ℕ) → (b ≡ 0x62 → ⊥) → (b ≡ 0x66 → ⊥) → (b ≡ 0x6E → ⊥) → (b ≡ 0x72 → ⊥) → (b ≡ 0x74 → ⊥) → (b ≡ 0x2F → ⊥) → (b ≡ 0x5C → ⊥) → None ≡ short_code b
unfolding short_code
short_none b n62 n66 n6E n72 n74 n2F n5C =
    rw (ne_eqb b 0x62 n62, ne_eqb b 0x66 n66, ne_eqb b 0x6E n6E, ne_eqb b 0x72 n72, ne_eqb b 0x74 n74, ne_eqb b 0x2F n2F, ne_eqb b 0x5C n5C)

-- what the code's answer tells of a byte
pub short_is : (b c : ℕ) → Some c ≡ short_code b → (is_short b ≡ true) × (short_value b ≡ c)
unfolding short_code
short_is b c e = cond_some (is_short b) (short_value b) c (sym e)

pub short_not : (b : ℕ) → None ≡ short_code b → is_short b ≡ false
unfolding short_code
short_not b e = by_test (is_short b) (λ t. absurd (none-some (short_value b) (rw t at e))) (λ f. f)

-- no letter names the code point 0, and all of them name ASCII characters
pub short_range : (b : ℕ) → is_short b ≡ true → (0 < short_value b) × (short_value b < 0x80)
unfolding short_value
short_range b t =
    by_test (eqb b 0x62) (λ e. rw e (lit< tt, lit< tt)) (λ n1.
    by_test (eqb b 0x66) (λ e. rw (n1, e) (lit< tt, lit< tt)) (λ n2.
    by_test (eqb b 0x6E) (λ e. rw (n1, n2, e) (lit< tt, lit< tt)) (λ n3.
    by_test (eqb b 0x72) (λ e. rw (n1, n2, n3, e) (lit< tt, lit< tt)) (λ n4.
    by_test (eqb b 0x74) (λ e. rw (n1, n2, n3, n4, e) (lit< tt, lit< tt)) (λ n5.
    rw (n1, n2, n3, n4, n5) (itself b (rw (n1, n2, n3, n4, n5) at t)))))))
  where
    itself : (b : ℕ) → (eqb b 0x2F || eqb b 0x5C) ≡ true → (0 < b) × (b < 0x80)
    itself b h =
        by_test (eqb b 0x2F) (λ e. rw (eqb-true b 0x2F e) (lit< tt, lit< tt))
        (λ n. rw (eqb-true b 0x5C (rw n at h)) (lit< tt, lit< tt))

-- the letters are ASCII themselves
pub letter_ascii : (b : ℕ) → is_short b ≡ true → b < 0x80
letter_ascii b t =
    by_test (ltb b 0x80) (λ y. ltb-true b 0x80 y) (λ n.
    let l : 0x80 ≤ b = ltb-false b 0x80 n in
    absurd (true≢false (sym t ∙ rw (ne_eqb b 0x62 (λ e. omega arith), ne_eqb b 0x66 (λ e. omega arith), ne_eqb b 0x6E (λ e. omega arith), ne_eqb b 0x72 (λ e. omega arith), ne_eqb b 0x74 (λ e. omega arith), ne_eqb b 0x2F (λ e. omega arith), ne_eqb b 0x5C (λ e. omega arith)))))

-- ---- plain bytes

pub plain_control : (b : ℕ) → b < 0x20 → false ≡ unescaped_byte b
plain_control b h =
    rw (lt-ltb b 0x80 (omega arith), under 0x20 0x21 b h, under 0x23 0x26 b (omega arith), under 0x28 0x5B b (omega arith), under 0x5D 0xD7FF b (omega arith), under 0xE000 0x10FFFF b (omega arith))

pub plain_double : (b : ℕ) → b ≡ 0x22 → false ≡ unescaped_byte b
plain_double b e = rw e

pub plain_single : (b : ℕ) → b ≡ 0x27 → false ≡ unescaped_byte b
plain_single b e = rw e

-- an ASCII character from the blank on that is no quote and no backslash
plain_ascii : (b : ℕ) → 0x20 ≤ b → b < 0x80 → (b ≡ 0x22 → ⊥) → (b ≡ 0x27 → ⊥) → (b ≡ 0x5C → ⊥) → is_unescaped b ≡ true
plain_ascii b l h n22 n27 n5C =
    by_test (leb b 0x21) (λ t. let k = leb-true b 0x21 t in rw (inside 0x20 0x21 b l k)) (λ f.
    let f' = leb-false b 0x21 f in
    by_test (leb b 0x26) (λ t. let k = leb-true b 0x26 t in rw (beyond 0x20 0x21 b f', inside 0x23 0x26 b (omega arith) k)) (λ g.
    let g' = leb-false b 0x26 g in
    by_test (leb b 0x5B)
    (λ t. let k = leb-true b 0x5B t in rw (beyond 0x20 0x21 b f', beyond 0x23 0x26 b g', inside 0x28 0x5B b (omega arith) k))
    (λ t. let k = leb-false b 0x5B t in rw (beyond 0x20 0x21 b f', beyond 0x23 0x26 b g', beyond 0x28 0x5B b k, inside 0x5D 0xD7FF b (omega arith) (omega arith)))))

pub plain_rest : (b : ℕ) → 0x20 ≤ b → (b ≡ 0x22 → ⊥) → (b ≡ 0x27 → ⊥) → not (eqb b 0x5C) ≡ unescaped_byte b
plain_rest b l n22 n27 =
    by_test (eqb b 0x5C)
    (λ t. rw (eqb-true b 0x5C t))
    (λ f. rw f
    (by_test (ltb b 0x80)
    (λ t. rw t (sym (plain_ascii b l (ltb-true b 0x80 t) n22 n27 (eqb-false b 0x5C f))))
    (λ t. rw t)))

-- a byte behind the backslash's
pub plain_high : (b : ℕ) → 0x5C < b → true ≡ unescaped_byte b
plain_high b h = rw (ne_eqb b 0x5C (λ e. omega arith)) at (plain_rest b (omega arith) (λ e. omega arith) (λ e. omega arith))

-- a byte from the blank on that is not plain and no backslash is one quote or the other
quote_left : (b : ℕ) → unescaped_byte b ≡ false → 0x20 ≤ b → (b ≡ 0x5C → ⊥) → (b ≡ 0x22 → ⊥) → (b ≡ 0x27 → ⊥) → ⊥
quote_left b f l n5C n22 n27 = true≢false (rw (ne_eqb b 0x5C n5C) at (plain_rest b l n22 n27 ∙ f))

pub single_left : (b : ℕ) → unescaped_byte b ≡ false → 0x20 ≤ b → (b ≡ 0x5C → ⊥) → (b ≡ 0x22 → ⊥) → b ≡ 0x27
single_left b f l n5C n22 = by_test (eqb b 0x27) (λ t. eqb-true b 0x27 t) (λ n. absurd (quote_left b f l n5C n22 (eqb-false b 0x27 n)))

pub double_left : (b : ℕ) → unescaped_byte b ≡ false → 0x20 ≤ b → (b ≡ 0x5C → ⊥) → (b ≡ 0x27 → ⊥) → b ≡ 0x22
double_left b f l n5C n27 = by_test (eqb b 0x22) (λ t. eqb-true b 0x22 t) (λ n. absurd (quote_left b f l n5C (eqb-false b 0x22 n) n27))
