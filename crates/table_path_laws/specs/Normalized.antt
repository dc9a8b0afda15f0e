-- A path is the one text of RFC 9535's rule normalized-path that names its steps. Assumes nothing.
use Rattle.std.specs.Prelude.{ℕ, suc, ◌+◌, ◌-◌, ◌/◌, ◌%◌, ◌≤◌, ◌<◌, ◌≡◌, refl, ◌⊎◌, List, [], ◌∷◌, ◌++◌, Bool, true, false, ◌||◌, eqb, ltb}
use Rattle.std.proofs.Common.{sym, ap, ◌∙◌, inl, inr, arith, eqb-true, ltb-true, ltb-false, lt-ltb}
use Rattle.std.proofs.Math.Bool.{and-eq-true_iff}
use Rattle.std.proofs.lemmas.Bool.{eqb-false}
use Rattle.definition.specs.Bytes.{every, within}
use Rattle.definition.specs.Utf8.{is_scalar, encode_all}
use Rattle.definition.specs.Lexical.{Natural, spell_natural}
use Rattle.definition.specs.Literals.{short_value, decimal, natural_digits}
use Rattle.definition.specs.Tables.{node_count, check_table}
use Rattle.definition.specs.Tables.Checked.{accepted}
use Rattle.utf8_laws.specs.Bytes.{by_test, inside}
use Rattle.utf8_laws.specs.Encode.{scalar_range}
use Rattle.utf8_laws.specs.Decode.{decode}
use Rattle.table_laws.specs.Accepted.{accepted_gives}
use Rattle.definition.specs.Paths.{Step, hex_digit, spell_step, spell_steps, steps_to, path_of}
use Rattle.definition.specs.Paths.Step.{named, placed}
use Rattle.basics.specs.Bools.{or_first, or_second}
use Rattle.table_path_laws.specs.Escapes.{hex_digit_lem}
use Rattle.table_path_laws.specs.Digits.{wrote, written_one, natural_written}
use Rattle.table_path_laws.specs.Trees.{StepRight, StepsRight, steps_right}
use Rattle.table_path_laws.specs.Trees.StepRight.{key, place}
use Rattle.table_path_laws.specs.Trees.StepsRight.{no_step, more_steps}
use Rattle.table_path_laws.specs.Normal.{NormalChar, is_normal_unescaped, is_normal_letter, is_normal_hex, is_normal_hexchar, normal_value, spell_normals, normal_values, normals_spelled}
use Rattle.table_path_laws.specs.Normal.NormalChar.{plain, letter, hex}

-- ---- the rules above characters

-- normal-selector = normal-name-selector / normal-index-selector; normal-index-selector = "0" / (DIGIT1 *DIGIT)
pub data NormalSelector : Type 0 where
  name_selector : List NormalChar → NormalSelector
  zero_selector : NormalSelector
  index_selector : Natural → NormalSelector

-- normal-index-segment = "[" normal-selector "]"; normal-name-selector = %x27 *normal-single-quoted %x27
unfoldable pub spell_normal_segment : NormalSelector → List ℕ → List ℕ
spell_normal_segment (name_selector ns) r = 0x5B ∷ 0x27 ∷ (spell_normals ns ++ (0x27 ∷ 0x5D ∷ r))
spell_normal_segment zero_selector r = 0x5B ∷ 0x30 ∷ 0x5D ∷ r
spell_normal_segment (index_selector n) r = 0x5B ∷ spell_natural n (0x5D ∷ r)

unfoldable pub spell_normal_segments : List NormalSelector → List ℕ
spell_normal_segments [] = []
spell_normal_segments (s ∷ ss) = spell_normal_segment s (spell_normal_segments ss)

-- normalized-path = root-identifier *(normal-index-segment)
unfoldable pub spell_normal_path : List NormalSelector → List ℕ
spell_normal_path ss = 0x24 ∷ spell_normal_segments ss

-- the step that a selector names
unfoldable pub normal_step : NormalSelector → Step
normal_step (name_selector ns) = named (encode_all (normal_values ns))
normal_step zero_selector = placed 0
normal_step (index_selector n) = placed (decimal (natural_digits n))

unfoldable pub normal_steps : List NormalSelector → List Step
normal_steps [] = []
normal_steps (s ∷ ss) = normal_step s ∷ normal_steps ss

-- ---- every normalized path is spelled as the steps that it names

segment_spelled : (s : NormalSelector) (r : List ℕ) → spell_normal_segment s r ≡ spell_step (normal_step s) r
unfolding spell_normal_segment normal_step spell_step
segment_spelled (name_selector ns) r = ap (λ (x : List ℕ). 0x5B ∷ 0x27 ∷ (x ++ (0x27 ∷ 0x5D ∷ r))) (normals_spelled ns)
segment_spelled zero_selector r = ap (λ (x : List ℕ). 0x5B ∷ (x ++ (0x5D ∷ r))) (sym (written_one 0 (omega arith)))
segment_spelled (index_selector n) r = ap (λ (x : List ℕ). 0x5B ∷ (x ++ (0x5D ∷ r))) (sym (natural_written n))

pub segments_spelled : (ss : List NormalSelector) → spell_normal_segments ss ≡ spell_steps (normal_steps ss)
unfolding spell_normal_segments spell_steps normal_steps
segments_spelled [] = refl
segments_spelled (s ∷ ss) = segment_spelled s (spell_normal_segments ss) ∙ ap (spell_step (normal_step s)) (segments_spelled ss)

-- ---- every step that a query can name has its selector

-- a character of section 2.7 that stands for a scalar value
pub record Normalizes (c : ℕ) : Type 0 where
  pub char : NormalChar
  pub value : normal_value char ≡ c

by_letter_lem : (c d : ℕ) (h : is_normal_letter d ≡ true) → short_value d ≡ c → Normalizes c
unfolding normal_value
by_letter_lem c d h e = record { char = letter d h; value = e }

normal_hex : (d : ℕ) → d < 16 → is_normal_hex (hex_digit d) ≡ true
unfolding hex_digit
normal_hex d l =
    by_test (ltb d 10)
    (λ y. let h = ltb-true d 10 y in rw y (or_first (within 0x30 0x39 (0x30 + d)) (within 0x61 0x66 (0x30 + d)) (inside 0x30 0x39 (0x30 + d) (omega arith) (omega arith))))
    (λ n. let h = ltb-false d 10 n in rw n (or_second (within 0x30 0x39 (0x57 + d)) (within 0x61 0x66 (0x57 + d)) (inside 0x61 0x66 (0x57 + d) (omega arith) (omega arith))))

by_hex : (c : ℕ) → c < 0x20 → is_normal_hexchar (hex_digit (c / 16)) (hex_digit (c % 16)) ≡ true → Normalizes c
unfolding normal_value
by_hex c l h = record { char = hex (hex_digit (c / 16)) (hex_digit (c % 16)) h; value = rw ((hex_digit_lem (c / 16) (omega arith)).value, (hex_digit_lem (c % 16) (omega arith)).value) (omega arith) }

-- the numbers above one that is ruled out, and the one number that is left
next_above : (c d : ℕ) → d ≤ c → (c ≡ d → ⊥) → suc d ≤ c
next_above c d l n = omega arith

only_left : (c d : ℕ) → d ≤ c → c < suc d → c ≡ d
only_left c d l h = omega arith

-- 8, 9, A and C, D are ruled out: of 8 to F there are left B, E and F
pub data Left (c : ℕ) : Type 0 where
  is_b : c ≡ 0x0B → Left c
  is_e : c ≡ 0x0E → Left c
  is_f : c ≡ 0x0F → Left c

left : (c : ℕ) → 8 ≤ c → c < 16 → (c ≡ 0x08 → ⊥) → (c ≡ 0x09 → ⊥) → (c ≡ 0x0A → ⊥) → (c ≡ 0x0C → ⊥) → (c ≡ 0x0D → ⊥) → Left c
left c l h n8 n9 nA nC nD =
    let b = next_above c 0x0A (next_above c 0x09 (next_above c 0x08 l n8) n9) nA in
    by_test (eqb c 0x0B) (λ y. is_b (eqb-true c 0x0B y)) (λ n.
    let e = next_above c 0x0D (next_above c 0x0C (next_above c 0x0B b (eqb-false c 0x0B n)) nC) nD in
    by_test (eqb c 0x0E) (λ y. is_e (eqb-true c 0x0E y)) (λ m. is_f (only_left c 0x0F (next_above c 0x0E e (eqb-false c 0x0E m)) h)))

-- the last two digits of a control character that no letter names
control_digits : (c : ℕ) → c < 0x20 → (c ≡ 0x08 → ⊥) → (c ≡ 0x09 → ⊥) → (c ≡ 0x0A → ⊥) → (c ≡ 0x0C → ⊥) → (c ≡ 0x0D → ⊥) → is_normal_hexchar (hex_digit (c / 16)) (hex_digit (c % 16)) ≡ true
unfolding hex_digit
control_digits c l n8 n9 nA nC nD =
    by_test (ltb c 16)
    (λ y.
    let h = ltb-true c 16 y in
    let x : c / 16 ≡ 0 = omega arith in
    let z : c % 16 ≡ c = omega arith in
    rw (x, z)
    (by_test (ltb c 8)
    (λ t. let k = ltb-true c 8 t in rw (lt-ltb c 10 (omega arith), inside 0x30 0x37 (0x30 + c) (omega arith) (omega arith)))
    (λ t. by (left c (ltb-false c 8 t) h n8 n9 nA nC nD))))
    (λ y.
    let h = ltb-false c 16 y in
    let x : c / 16 ≡ 1 = omega arith in
    rw x (normal_hex (c % 16) (omega arith)))
  where
    by : Left c → is_normal_hexchar (hex_digit 0) (hex_digit c) ≡ true
    by (is_b e) = rw e
    by (is_e e) = rw e
    by (is_f e) = rw e

plain_right : (c : ℕ) → is_scalar c ≡ true → 0x20 ≤ c → (c ≡ 0x27 → ⊥) → (c ≡ 0x5C → ⊥) → is_normal_unescaped c ≡ true
plain_right c s l q t =
    let w1 = within 0x20 0x26 c in
    let w2 = within 0x28 0x5B c in
    let w3 = within 0x5D 0xD7FF c in
    let w4 = within 0xE000 0x10FFFF c in
    by_test (ltb c 0x27) (λ y. let h = ltb-true c 0x27 y in or_first w1 (w2 || (w3 || w4)) (inside 0x20 0x26 c l (omega arith))) (λ n1.
    let h1 = ltb-false c 0x27 n1 in
    or_second w1 (w2 || (w3 || w4))
    (by_test (ltb c 0x5C) (λ y. let h = ltb-true c 0x5C y in or_first w2 (w3 || w4) (inside 0x28 0x5B c (omega arith) (omega arith))) (λ n2.
    let h2 = ltb-false c 0x5C n2 in
    or_second w2 (w3 || w4) (by (scalar_range c s) (omega arith)))))
  where
    by : (c < 0xD800) ⊎ ((0xE000 ≤ c) × (c ≤ 0x10FFFF)) → 0x5D ≤ c → (within 0x5D 0xD7FF c || within 0xE000 0x10FFFF c) ≡ true
    by (inl h) k = or_first (within 0x5D 0xD7FF c) (within 0xE000 0x10FFFF c) (inside 0x5D 0xD7FF c k (omega arith))
    by (inr h) k = or_second (within 0x5D 0xD7FF c) (within 0xE000 0x10FFFF c) (inside 0xE000 0x10FFFF c h.0 h.1)

pub normalizes : (c : ℕ) → is_scalar c ≡ true → Normalizes c
unfolding normal_value short_value
normalizes c s =
    by_test (eqb c 0x08) (λ y. by_letter_lem c 0x62 refl (sym (eqb-true c 0x08 y))) (λ n1.
    by_test (eqb c 0x09) (λ y. by_letter_lem c 0x74 refl (sym (eqb-true c 0x09 y))) (λ n2.
    by_test (eqb c 0x0A) (λ y. by_letter_lem c 0x6E refl (sym (eqb-true c 0x0A y))) (λ n3.
    by_test (eqb c 0x0C) (λ y. by_letter_lem c 0x66 refl (sym (eqb-true c 0x0C y))) (λ n4.
    by_test (eqb c 0x0D) (λ y. by_letter_lem c 0x72 refl (sym (eqb-true c 0x0D y))) (λ n5.
    by_test (eqb c 0x27) (λ y. by_letter_lem c 0x27 refl (sym (eqb-true c 0x27 y))) (λ n6.
    by_test (eqb c 0x5C) (λ y. by_letter_lem c 0x5C refl (sym (eqb-true c 0x5C y))) (λ n7.
    by_test (ltb c 0x20)
    (λ y. by_hex c (ltb-true c 0x20 y) (control_digits c (ltb-true c 0x20 y) (eqb-false c 0x08 n1) (eqb-false c 0x09 n2) (eqb-false c 0x0A n3) (eqb-false c 0x0C n4) (eqb-false c 0x0D n5)))
    (λ n8. record { char = plain c (plain_right c s (ltb-false c 0x20 n8) (eqb-false c 0x27 n6) (eqb-false c 0x5C n7)); value = refl }))))))))

normal_chars : (cs : List ℕ) → every is_scalar cs ≡ true → (ns : List NormalChar) × (normal_values ns ≡ cs)
unfolding normal_values
normal_chars [] h = ([], refl)
normal_chars (c ∷ cs) h =
    let t = (and-eq-true_iff (is_scalar c) (every is_scalar cs)).0 h in
    let x = normalizes c t.0 in
    let xs = normal_chars cs t.1 in
    (x.char ∷ xs.0, rw (x.value, xs.1))

normal_selector : (s : Step) → StepRight s → (n : NormalSelector) × (normal_step n ≡ s)
unfolding normal_step
normal_selector s (key {k} u) =
    let d = decode k u in
    let xs = normal_chars d.0 d.1 in
    (name_selector xs.0, rw (xs.1, d.2))
normal_selector s (place {n} l) =
    by_test (eqb n 0)
    (λ y. (zero_selector, ap placed (sym (eqb-true n 0 y))))
    (λ z.
    let m = eqb-false n 0 z in
    let w = wrote n in
    (index_selector (record { first = w.first; more = w.more; is_first = w.some_first (omega arith); are_more = w.are_more }), ap placed w.value))

normal_selectors : (ss : List Step) → StepsRight ss → (ns : List NormalSelector) × (normal_steps ns ≡ ss)
unfolding normal_steps
normal_selectors ss no_step = ([], refl)
normal_selectors ss (more_steps {s} {ss = ts} h hs) =
    let x = normal_selector s h in
    let xs = normal_selectors ts hs in
    (x.0 ∷ xs.0, rw (x.1, xs.1))

-- The path of a node is a text of the rule normalized-path, and every text of that rule that names the same steps is this one.
pub record Normalized (T X : List ℕ) (i : ℕ) : Type 0 where
  pub selectors : List NormalSelector
  pub names : normal_steps selectors ≡ steps_to T X i
  pub spells : spell_normal_path selectors ≡ path_of T X i
  pub only : (ns : List NormalSelector) → normal_steps ns ≡ steps_to T X i → spell_normal_path ns ≡ path_of T X i

normal_path : (T X : List ℕ) (i : ℕ) (ns : List NormalSelector) → normal_steps ns ≡ steps_to T X i → spell_normal_path ns ≡ path_of T X i
unfolding spell_normal_path path_of
normal_path T X i ns e = ap (λ (x : List ℕ). 0x24 ∷ x) (segments_spelled ns ∙ ap spell_steps e)

pub path_normalized : (T X : List ℕ) → check_table T X ≡ accepted → (i : ℕ) → i < node_count T → Normalized T X i
path_normalized T X h i l =
    let w = normal_selectors (steps_to T X i) (steps_right T X (accepted_gives T X h) i l) in
    record { selectors = w.0; names = w.1; spells = normal_path T X i w.0 w.1; only = normal_path T X i }
