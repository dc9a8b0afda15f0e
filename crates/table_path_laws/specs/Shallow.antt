-- The bracket count of a path: every step goes back to 0, and passes 1 at no moment. Assumes nothing.
use Rattle.std.specs.Prelude.{ℕ, ◌+◌, ◌-◌, ◌/◌, ◌%◌, ◌≤◌, ◌≡◌, refl, List, [], ◌∷◌, ◌++◌, true, false}
use Rattle.std.proofs.Common.{◌∙◌, append_assoc, arith, ne_eqb}
use Rattle.std.proofs.Math.Bool.{and-eq-true_iff}
use Rattle.definition.specs.Bytes.{every}
use Rattle.definition.specs.Lexical.{is_digit}
use Rattle.definition.specs.Brackets.{place_after, count_after, too_deep_from, too_deep}
use Rattle.definition.specs.Brackets.Place.{outside, quoted, escaped}
use Rattle.utf8_laws.specs.Bytes.{inside_low, inside_high}
use Rattle.definition.specs.Paths as P
use Rattle.definition.specs.Paths.{Step, hex_digit, escaped_all, written, spell_step, spell_steps, steps_to, path_of}
use Rattle.definition.specs.Paths.Step.{named, placed}
use Rattle.table_path_laws.specs.Escapes.{Escapes, escapes, hex_digit_lem}
use Rattle.table_path_laws.specs.Escapes.Escapes.{by_letter, by_quote, by_digits_lem, by_self}
use Rattle.table_path_laws.specs.Digits.{written_digits}

-- a byte of a quoted text that is neither its quote nor a backslash is passed
pass_plain : (b : ℕ) (r : List ℕ) → (b ≡ 0x27 → ⊥) → (b ≡ 0x5C → ⊥) → too_deep_from (quoted 0x27) 1 (b ∷ r) ≡ too_deep_from (quoted 0x27) 1 r
unfolding too_deep_from place_after count_after
pass_plain b r q s = rw (ne_eqb b 0x27 q, ne_eqb b 0x5C s)

-- a backslash and what stands behind it are passed
pass_pair : (b : ℕ) (r : List ℕ) → too_deep_from (quoted 0x27) 1 (0x5C ∷ b ∷ r) ≡ too_deep_from (quoted 0x27) 1 r
unfolding too_deep_from place_after count_after
pass_pair b r = refl

-- the escape of a byte is passed
pass_escaped : (b : ℕ) (r : List ℕ) → too_deep_from (quoted 0x27) 1 (P.escaped b ++ r) ≡ too_deep_from (quoted 0x27) 1 r
pass_escaped b r = by (escapes b)
  where
    by : Escapes b → too_deep_from (quoted 0x27) 1 (P.escaped b ++ r) ≡ too_deep_from (quoted 0x27) 1 r
    by (by_letter c h v l m e) = rw e (pass_pair c r)
    by (by_quote q e) = rw e (pass_pair 0x27 r)
    by (by_digits_lem l e) =
        let x = hex_digit_lem (b / 16) (omega arith) in
        let y = hex_digit_lem (b % 16) (omega arith) in
        let xh = x.high in
        let yh = y.high in
        let c = hex_digit (b / 16) in
        let d = hex_digit (b % 16) in
        rw e
        (pass_pair 0x75 (0x30 ∷ 0x30 ∷ c ∷ d ∷ r)
        ∙ pass_plain 0x30 (0x30 ∷ c ∷ d ∷ r) (λ z. omega arith) (λ z. omega arith)
        ∙ pass_plain 0x30 (c ∷ d ∷ r) (λ z. omega arith) (λ z. omega arith)
        ∙ pass_plain c (d ∷ r) (λ z. omega arith) x.apart
        ∙ pass_plain d r (λ z. omega arith) y.apart)
    by (by_self l q g e) = rw e (pass_plain b r q g)

-- a key is passed up to its quote
pass_key : (k r : List ℕ) → too_deep_from (quoted 0x27) 1 (escaped_all k ++ (0x27 ∷ r)) ≡ too_deep_from outside 1 r
unfolding escaped_all too_deep_from place_after count_after
pass_key [] r = refl
pass_key (b ∷ k) r = rw (append_assoc (P.escaped b) (escaped_all k) (0x27 ∷ r)) (pass_escaped b (escaped_all k ++ (0x27 ∷ r)) ∙ pass_key k r)

-- a digit outside quoted text is passed
pass_digit : (d : ℕ) (r : List ℕ) → 0x30 ≤ d → d ≤ 0x39 → too_deep_from outside 1 (d ∷ r) ≡ too_deep_from outside 1 r
unfolding too_deep_from place_after count_after
pass_digit d r l h = rw (ne_eqb d 0x22 (λ e. omega arith), ne_eqb d 0x27 (λ e. omega arith), ne_eqb d 0x5B (λ e. omega arith), ne_eqb d 0x28 (λ e. omega arith), ne_eqb d 0x5D (λ e. omega arith), ne_eqb d 0x29 (λ e. omega arith))

pass_digits : (s r : List ℕ) → every is_digit s ≡ true → too_deep_from outside 1 (s ++ r) ≡ too_deep_from outside 1 r
pass_digits [] r e = refl
pass_digits (d ∷ s) r e =
    let t = (and-eq-true_iff (is_digit d) (every is_digit s)).0 e in
    pass_digit d (s ++ r) (inside_low 0x30 0x39 d t.0) (inside_high 0x30 0x39 d t.0) ∙ pass_digits s r t.1

-- a bracket opens, and a bracket closes
opens : (r : List ℕ) → too_deep_from outside 0 (0x5B ∷ r) ≡ too_deep_from outside 1 r
unfolding too_deep_from place_after count_after
opens r = refl

opens_quote : (r : List ℕ) → too_deep_from outside 0 (0x5B ∷ 0x27 ∷ r) ≡ too_deep_from (quoted 0x27) 1 r
unfolding too_deep_from place_after count_after
opens_quote r = refl

closes : (r : List ℕ) → too_deep_from outside 1 (0x5D ∷ r) ≡ too_deep_from outside 0 r
unfolding too_deep_from place_after count_after
closes r = refl

-- a step is passed
pass_step : (s : Step) (r : List ℕ) → too_deep_from outside 0 (spell_step s r) ≡ too_deep_from outside 0 r
unfolding spell_step
pass_step (named k) r = opens_quote (escaped_all k ++ (0x27 ∷ 0x5D ∷ r)) ∙ pass_key k (0x5D ∷ r) ∙ closes r
pass_step (placed n) r = opens (written n ++ (0x5D ∷ r)) ∙ pass_digits (written n) (0x5D ∷ r) (written_digits n) ∙ closes r

pass_steps : (ss : List Step) → too_deep_from outside 0 (spell_steps ss) ≡ false
unfolding spell_steps too_deep_from
pass_steps [] = refl
pass_steps (s ∷ ss) = pass_step s (spell_steps ss) ∙ pass_steps ss

-- no path has too many brackets
pub path_shallow : (T X : List ℕ) (i : ℕ) → too_deep (path_of T X i) ≡ false
unfolding path_of too_deep too_deep_from place_after count_after
path_shallow T X i = pass_steps (steps_to T X i)
