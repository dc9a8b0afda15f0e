-- A byte of a key is spelled by a letter, as it is, or by its digits. Assumes nothing.
use Prim.Native.Nat.{ℕ, ◌+◌, ◌/◌, ◌%◌, ◌≤◌, ◌<◌}
use mathlib.Core.Path.{◌≡◌, refl, sym, ap, ◌∙◌}
use mathlib.Core.Logic.{◌⊎◌, inl, inr}
use mathlib.Core.List.{List, [], ◌∷◌}
use mathlib.Core.Bool.{cond, true, false}
use Rattle.std.specs.Prelude.{Option, Some, None, is_some}
use Rattle.std.specs.Option.{unwrap_or}
use Rattle.std.proofs.lemmas.Bool.{false≢true}
use lib.Dec.{eqb, ltb}
use lib.ListN.{length}
use native.Mathlib.Omega.{arith}
use borrow.Author.Tests.{lt-ltb, le-ltb, ne_eqb}
use Rattle.definition.specs.Paths.{hex_digit, escaped}
use Rattle.utf8_laws.specs.Bytes.{by_test}
use Rattle.table_path.specs.Words.{letter_of}

-- a control character by its digits
abbrev pub by_digits_lem : ℕ → List ℕ
by_digits_lem b = 0x5C ∷ 0x75 ∷ 0x30 ∷ 0x30 ∷ hex_digit (b / 16) ∷ hex_digit (b % 16) ∷ []

-- with a letter, or without one
Lettered : ℕ → Type 0
Lettered b = ((n : ℕ) × (letter_of b ≡ Some n) × (escaped b ≡ 0x5C ∷ n ∷ [])) ⊎ ((letter_of b ≡ None) × (escaped b ≡ cond (ltb b 0x20) (by_digits_lem b) (b ∷ [])))

lettered : (b : ℕ) → Lettered b
unfolding letter_of escaped Lettered
lettered b =
    by_test (eqb b 0x08) (λ y. inl (0x62, rw y, rw y)) (λ n1.
    by_test (eqb b 0x09) (λ y. inl (0x74, rw (n1, y), rw (n1, y))) (λ n2.
    by_test (eqb b 0x0A) (λ y. inl (0x6E, rw (n1, n2, y), rw (n1, n2, y))) (λ n3.
    by_test (eqb b 0x0C) (λ y. inl (0x66, rw (n1, n2, n3, y), rw (n1, n2, n3, y))) (λ n4.
    by_test (eqb b 0x0D) (λ y. inl (0x72, rw (n1, n2, n3, n4, y), rw (n1, n2, n3, n4, y))) (λ n5.
    by_test (eqb b 0x27) (λ y. inl (0x27, rw (n1, n2, n3, n4, n5, y), rw (n1, n2, n3, n4, n5, y))) (λ n6.
    by_test (eqb b 0x5C) (λ y. inl (0x5C, rw (n1, n2, n3, n4, n5, n6, y), rw (n1, n2, n3, n4, n5, n6, y)))
    (λ n7. inr (rw (n1, n2, n3, n4, n5, n6, n7), rw (n1, n2, n3, n4, n5, n6, n7)))))))))

by_letter_lem : (b n : ℕ) → letter_of b ≡ Some n → escaped b ≡ 0x5C ∷ n ∷ []
unfolding Lettered
by_letter_lem b n h = by (lettered b)
  where
    by : Lettered b → escaped b ≡ 0x5C ∷ n ∷ []
    by (inl w) = w.2 ∙ ap (λ (o : Option ℕ). 0x5C ∷ unwrap_or o 0 ∷ []) (sym w.1 ∙ h)
    by (inr w) = absurd (false≢true (ap is_some (sym w.0 ∙ h)))

without : (b : ℕ) → letter_of b ≡ None → escaped b ≡ cond (ltb b 0x20) (by_digits_lem b) (b ∷ [])
unfolding Lettered
without b e = by (lettered b)
  where
    by : Lettered b → escaped b ≡ cond (ltb b 0x20) (by_digits_lem b) (b ∷ [])
    by (inl w) = absurd (false≢true (ap is_some (sym e ∙ w.1)))
    by (inr w) = w.1

-- a hexadecimal digit
pub digit_low : (d : ℕ) → d < 10 → hex_digit d ≡ 0x30 + d
unfolding hex_digit
digit_low d l = rw (lt-ltb d 10 l)

pub digit_high : (d : ℕ) → 10 ≤ d → hex_digit d ≡ 0x57 + d
unfolding hex_digit
digit_high d l = rw (le-ltb d 10 l)

-- ---- as the code reads them

pub letter_spelled : (b n : ℕ) → Some n ≡ letter_of b → 0x5C ∷ n ∷ [] ≡ escaped b
letter_spelled b n h = sym (by_letter_lem b n (sym h))

pub self_spelled : (b : ℕ) → None ≡ letter_of b → 0x20 ≤ b → b ∷ [] ≡ escaped b
self_spelled b h l = sym (without b (sym h) ∙ rw (le-ltb b 0x20 l))

pub digits_spelled : (b : ℕ) → None ≡ letter_of b → b < 0x20 → by_digits_lem b ≡ escaped b
digits_spelled b h l = sym (without b (sym h) ∙ rw (lt-ltb b 0x20 l))

-- whether there is a letter, by the test of it
pub some_spelled : (b : ℕ) (o : Option ℕ) → o ≡ letter_of b → is_some o ≡ true → 2 ≡ length (escaped b)
some_spelled b (Some n) h e = ap length (letter_spelled b n h)
some_spelled b None h e = absurd (false≢true e)

pub none_is : (b : ℕ) (o : Option ℕ) → o ≡ letter_of b → is_some o ≡ false → None ≡ letter_of b
none_is b (Some n) h e = absurd (false≢true (sym e))
none_is b None h e = h
