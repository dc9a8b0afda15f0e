-- The escapes of a path, each in its kind, and that a key can be told from its escapes. Assumes nothing.
use Rattle.std.specs.Prelude.{ℕ, ◌+◌, ◌-◌, ◌*◌, ◌/◌, ◌%◌, ◌≤◌, ◌<◌, ◌≡◌, refl, List, [], ◌∷◌, ◌++◌, true, cond, eqb, ltb, length, drop, get_or}
use Rattle.std.proofs.Common.{sym, ap, ◌∙◌, append_assoc, arith, eqb-true, ne_eqb, ltb-true, ltb-false, le-leb}
use Rattle.std.proofs.Math.Seq.{drop-append_seam}
use Rattle.std.proofs.lemmas.Bool.{eqb-false, lt-leb}
use Rattle.definition.specs.Lexical.{is_short, is_hex, hex_value}
use Rattle.definition.specs.Literals.{short_value}
use Rattle.utf8_laws.specs.Bytes.{by_test}
use Rattle.definition.specs.Paths.{hex_digit, escaped, escaped_all}

-- ---- the kinds of escapes

-- A byte is escaped by a letter that names it; or it is the quote, behind a backslash; or a control character, by its four digits; or it stands for itself.
pub data Escapes (b : ℕ) : Type 0 where
  by_letter : (c : ℕ) → is_short c ≡ true → short_value c ≡ b → c < 0x75 → b < 0x80 → escaped b ≡ 0x5C ∷ c ∷ [] → Escapes b
  by_quote : b ≡ 0x27 → escaped b ≡ 0x5C ∷ 0x27 ∷ [] → Escapes b
  by_digits_lem : b < 0x20 → escaped b ≡ 0x5C ∷ 0x75 ∷ 0x30 ∷ 0x30 ∷ hex_digit (b / 16) ∷ hex_digit (b % 16) ∷ [] → Escapes b
  by_self : 0x20 ≤ b → (b ≡ 0x27 → ⊥) → (b ≡ 0x5C → ⊥) → escaped b ≡ b ∷ [] → Escapes b

-- every byte is escaped in one of the four ways
pub escapes : (b : ℕ) → Escapes b
unfolding escaped short_value
escapes b =
    by_test (eqb b 0x08) (λ y. let e = eqb-true b 0x08 y in by_letter 0x62 refl (sym e) (omega arith) (omega arith) (rw y)) (λ n1.
    by_test (eqb b 0x09) (λ y. let e = eqb-true b 0x09 y in by_letter 0x74 refl (sym e) (omega arith) (omega arith) (rw (n1, y))) (λ n2.
    by_test (eqb b 0x0A) (λ y. let e = eqb-true b 0x0A y in by_letter 0x6E refl (sym e) (omega arith) (omega arith) (rw (n1, n2, y))) (λ n3.
    by_test (eqb b 0x0C) (λ y. let e = eqb-true b 0x0C y in by_letter 0x66 refl (sym e) (omega arith) (omega arith) (rw (n1, n2, n3, y))) (λ n4.
    by_test (eqb b 0x0D) (λ y. let e = eqb-true b 0x0D y in by_letter 0x72 refl (sym e) (omega arith) (omega arith) (rw (n1, n2, n3, n4, y))) (λ n5.
    by_test (eqb b 0x27) (λ y. by_quote (eqb-true b 0x27 y) (rw (n1, n2, n3, n4, n5, y))) (λ n6.
    by_test (eqb b 0x5C) (λ y. let e = eqb-true b 0x5C y in by_letter 0x5C refl (sym e) (omega arith) (omega arith) (rw (n1, n2, n3, n4, n5, n6, y))) (λ n7.
    by_test (ltb b 0x20) (λ y. by_digits_lem (ltb-true b 0x20 y) (rw (n1, n2, n3, n4, n5, n6, n7, y)))
    (λ n8. by_self (ltb-false b 0x20 n8) (eqb-false b 0x27 n6) (eqb-false b 0x5C n7) (rw (n1, n2, n3, n4, n5, n6, n7, n8))))))))))

-- ---- hexadecimal digits

-- a digit below 16 is a hexadecimal digit of that value, and no quote, no backslash
pub record HexDigit (d : ℕ) : Type 0 where
  pub hex : is_hex (hex_digit d) ≡ true
  pub value : hex_value (hex_digit d) ≡ d
  pub high : 0x30 ≤ hex_digit d
  pub apart : hex_digit d ≡ 0x5C → ⊥

pub hex_digit_lem : (d : ℕ) → d < 16 → HexDigit d
unfolding hex_digit
hex_digit_lem d l =
    by_test (ltb d 10)
    (λ y.
    let h = ltb-true d 10 y in
    record {
      hex = rw (y, le-leb 0x30 (0x30 + d) (omega arith), le-leb (0x30 + d) 0x39 (omega arith));
      value = rw (y, le-leb 0x30 (0x30 + d) (omega arith), le-leb (0x30 + d) 0x39 (omega arith)) (omega arith);
      high = rw y (omega arith);
      apart = rw y (λ e. omega arith);
    })
    (λ n.
    let h = ltb-false d 10 n in
    record {
      hex = rw (n, le-leb 0x30 (0x57 + d) (omega arith), lt-leb (0x57 + d) 0x39 (omega arith), le-leb 0x41 (0x57 + d) (omega arith), lt-leb (0x57 + d) 0x46 (omega arith), le-leb 0x61 (0x57 + d) (omega arith), le-leb (0x57 + d) 0x66 (omega arith));
      value = rw (n, le-leb 0x30 (0x57 + d) (omega arith), lt-leb (0x57 + d) 0x39 (omega arith), le-leb 0x61 (0x57 + d) (omega arith)) (omega arith);
      high = rw n (omega arith);
      apart = rw n (λ e. omega arith);
    })

-- ---- a byte from its escape

-- the byte that an escape in front of a text stands for
unfoldable pub unescaped : List ℕ → ℕ
unescaped s =
    let b = get_or s 0 0 in
    let c = get_or s 1 0 in
    cond (eqb b 0x5C) (cond (eqb c 0x75) (hex_value (get_or s 4 0) * 16 + hex_value (get_or s 5 0)) (short_value c)) b

pub unescaped_escaped : (b : ℕ) (r : List ℕ) → unescaped (escaped b ++ r) ≡ b
unfolding unescaped short_value
unescaped_escaped b r = by (escapes b)
  where
    by : Escapes b → unescaped (escaped b ++ r) ≡ b
    by (by_letter c h v l m e) = rw (e, ne_eqb c 0x75 (λ z. omega arith)) v
    by (by_quote q e) = rw (e) (sym q)
    by (by_digits_lem l e) =
        let x = hex_digit_lem (b / 16) (omega arith) in
        let y = hex_digit_lem (b % 16) (omega arith) in
        rw (e, x.value, y.value) (omega arith)
    by (by_self l q s e) = rw (e, ne_eqb b 0x5C s)

-- an escape is not empty, and does not begin with the quote
pub escaped_first : (b : ℕ) (r s : List ℕ) → escaped b ++ r ≡ 0x27 ∷ s → ⊥
escaped_first b r s h = by (escapes b)
  where
    by : Escapes b → ⊥
    by (by_letter c g v l m e) = let k : 0x5C ∷ c ∷ r ≡ 0x27 ∷ s = rw e at h in let z : ◌≡◌ {A = ℕ} 0x5C 0x27 = cc in omega arith
    by (by_quote q e) = let k : 0x5C ∷ 0x27 ∷ r ≡ 0x27 ∷ s = rw e at h in let z : ◌≡◌ {A = ℕ} 0x5C 0x27 = cc in omega arith
    by (by_digits_lem l e) =
        let k : 0x5C ∷ 0x75 ∷ 0x30 ∷ 0x30 ∷ hex_digit (b / 16) ∷ hex_digit (b % 16) ∷ r ≡ 0x27 ∷ s = rw e at h in
        let z : ◌≡◌ {A = ℕ} 0x5C 0x27 = cc in
        omega arith
    by (by_self l q g e) = let k : b ∷ r ≡ 0x27 ∷ s = rw e at h in let z : b ≡ 0x27 = cc in q z

-- texts that begin with escapes and are equal begin with those of one byte, and go on alike
pub escaped_unique : (b c : ℕ) (r s : List ℕ) → escaped b ++ r ≡ escaped c ++ s → (b ≡ c) × (r ≡ s)
escaped_unique b c r s e =
    let q : b ≡ c = sym (unescaped_escaped b r) ∙ ap unescaped e ∙ unescaped_escaped c s in
    let f : escaped c ++ r ≡ escaped c ++ s = rw q at e in
    (q, sym (drop-append_seam (escaped c) r) ∙ ap (drop (length (escaped c))) f ∙ drop-append_seam (escaped c) s)

-- a key ends at its quote, and is told from its escapes
pub key_unique : (k l r s : List ℕ) → escaped_all k ++ (0x27 ∷ r) ≡ escaped_all l ++ (0x27 ∷ s) → (k ≡ l) × (r ≡ s)
unfolding escaped_all
key_unique [] [] r s e = let z : r ≡ s = cc in (refl, z)
key_unique [] (c ∷ l) r s e = absurd (escaped_first c (escaped_all l ++ (0x27 ∷ s)) r (sym (e ∙ append_assoc (escaped c) (escaped_all l) (0x27 ∷ s))))
key_unique (b ∷ k) [] r s e = absurd (escaped_first b (escaped_all k ++ (0x27 ∷ r)) s (sym (append_assoc (escaped b) (escaped_all k) (0x27 ∷ r)) ∙ e))
key_unique (b ∷ k) (c ∷ l) r s e =
    let u = escaped_unique b c (escaped_all k ++ (0x27 ∷ r)) (escaped_all l ++ (0x27 ∷ s)) (sym (append_assoc (escaped b) (escaped_all k) (0x27 ∷ r)) ∙ e ∙ append_assoc (escaped c) (escaped_all l) (0x27 ∷ s)) in
    let v = key_unique k l r s u.1 in
    (rw (u.0, v.0), v.1)
