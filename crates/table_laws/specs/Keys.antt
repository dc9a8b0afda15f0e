-- Parts of the text as the code takes them, and keys that are compared in turn. Assumes nothing.
use Prim.Native.Nat.{ℕ, zero, suc, ◌+◌, ◌-◌, ◌≤◌, ◌<◌}
use Rattle.std.specs.Prelude.{◌≡◌, refl, List, true, false, cond, ◌&&◌, length, take, drop}
use Rattle.std.proofs.Common.{sym, ◌∙◌, subst, eqb-true}
use Rattle.std.proofs.Math.Path.{ap}
use Rattle.std.proofs.Math.Bool.{not}
use native.Mathlib.Omega.{arith}
use Rattle.std.proofs.lemmas.Bool.{eqb-false}
use Rattle.definition.specs.Bytes.{part, same_bytes}
use Rattle.definition.specs.Utf8.{is_utf8}
use Rattle.definition.specs.Tables.{good_part, key_start, key_length, low_word, high_word, key_bytes, text_bytes_at, key_differs}
use Rattle.definition_bytes.specs.Same.{part_length, unlike_length}
use Rattle.basics.specs.Bools.{and_not_left}
use Rattle.table_laws.specs.Rights.{part_inside}

-- the elements from a start to an end are the part of that length
pub part_span : (X : List ℕ) (at n e : ℕ) → e ≡ at + n → take (e - at) (drop at X) ≡ part X at n
part_span X at n e h = let d : e - at ≡ n = omega arith in ap (λ (k : ℕ). take k (drop at X)) d

-- a part inside the text, tested from its start to its end
pub part_tested : (X : List ℕ) (at n e : ℕ) → e ≡ at + n → e ≤ length X → is_utf8 (take (e - at) (drop at X)) ≡ good_part X at n
part_tested X at n e h l = ap is_utf8 (part_span X at n e h) ∙ sym (part_inside X at n (omega arith))

module _ (T X : List ℕ) where
  -- the elements from a key's start to its end are the key
  pub key_span : (j a e : ℕ) → a ≡ key_start T j → e ≡ a + key_length T j → take (e - a) (drop a X) ≡ key_bytes T X j
  key_span j a e h l = part_span X a (key_length T j) e l ∙ ap (λ (x : ℕ). part X x (key_length T j)) h

  -- the elements from a text's start to its end are the text
  pub text_span : (j a e : ℕ) → a ≡ low_word T j → e ≡ a + high_word T j → take (e - a) (drop a X) ≡ text_bytes_at T X j
  text_span j a e h l = part_span X a (high_word T j) e l ∙ ap (λ (x : ℕ). part X x (high_word T j)) h

  -- a key of another length than a text is no such text
  pub key_unlike : (j : ℕ) (k : List ℕ) → key_start T j + key_length T j ≤ length X → (key_length T j ≡ length k → ⊥) → same_bytes (key_bytes T X j) k ≡ false
  key_unlike j k h ne = unlike_length (key_bytes T X j) k (λ e. ne (sym (part_length X (key_start T j) (key_length T j) h) ∙ e))

  differs_by : (i j n : ℕ) → n ≡ i - j → j < i → key_differs T X i j n ≡ (not (same_bytes (key_bytes T X j) (key_bytes T X i)) && key_differs T X i (suc j) (i - suc j))
  unfolding key_differs
  differs_by i j zero e h = absurd (omega arith)
  differs_by i j (suc n) e h = let d : n ≡ i - suc j = omega arith in ap (λ (m : ℕ). not (same_bytes (key_bytes T X j) (key_bytes T X i)) && key_differs T X i (suc j) m) d

  -- an earlier key that is the same ends the search
  pub differs_same : (i j : ℕ) → j < i → same_bytes (key_bytes T X j) (key_bytes T X i) ≡ true → key_differs T X i j (i - j) ≡ false
  differs_same i j h s = differs_by i j (i - j) refl h ∙ and_not_left (not (same_bytes (key_bytes T X j) (key_bytes T X i))) (key_differs T X i (suc j) (i - suc j)) (ap not s)

  -- an earlier key that is another leaves the others to compare
  pub differs_step : (i j : ℕ) → j < i → same_bytes (key_bytes T X j) (key_bytes T X i) ≡ false → key_differs T X i (j + 1) (i - (j + 1)) ≡ key_differs T X i j (i - j)
  differs_step i j h s =
      let d : j + 1 ≡ suc j = omega arith in
      sym (differs_by i j (i - j) refl h ∙ rw s (ap (λ (m : ℕ). key_differs T X i m (i - m)) (sym d)))

  -- with no key left none is the same
  pub differs_end : (i j : ℕ) → i ≤ j → key_differs T X i j (i - j) ≡ true
  unfolding key_differs
  differs_end i j h = let d : i - j ≡ 0 = omega arith in rw d
