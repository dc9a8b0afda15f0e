-- Little-endian numbers and kinds at a place of a plan, as the lists that they are. Assumes nothing.
use Prim.Native.Nat.{ℕ, suc, ◌+◌, ◌*◌, ◌/◌, ◌%◌, ◌≤◌, ◌<◌}
use native.Mathlib.Omega.{arith}
use mathlib.Core.Path.{◌≡◌, refl, sym, ap, ◌∙◌}
use mathlib.Core.List.{List, [], ◌∷◌, ◌++◌}
use mathlib.Core.Bool.{true}
use borrow.Author.Tests.{ltb-true}
use lib.Dec.{ltb}
use lib.ListN.{length, drop, get_or, length-drop, drop_of_length-le}
use Rattle.definition.specs.Bytes.{part, number, little_endian, every}
use Rattle.definition_bytes.specs.Same.{part_length}
use Rattle.basics.specs.Bools.{and_left, and_right}
use Rattle.basics.specs.Lists.{drop_at}
use Rattle.text.specs.Words.{Word}
use Rattle.text.proofs.Ascii.{is_byte, are_bytes, every_part}
use Rattle.text.proofs.Same.{part_rest}
use Rattle.plan_items.specs.Readings.{first_byte, Kind}

-- bytes are those of the number that they stand for
pub little_endian_number : (s : List ℕ) → every is_byte s ≡ true → little_endian (length s) (number s) ≡ s
unfolding little_endian number
little_endian_number [] h = refl
little_endian_number (b ∷ s) h =
    let l : b < 256 = ltb-true b 256 (and_left (ltb b 256) (every is_byte s) h) in
    let m : (b + 256 * number s) % 256 ≡ b = omega arith in
    let d : (b + 256 * number s) / 256 ≡ number s = omega arith in
    rw (m, d, little_endian_number s (and_right (ltb b 256) (every is_byte s) h))

-- a word at a place of the plan is spelled there
pub word_at : {S : List ℕ} {w at n : ℕ} → ((i : ℕ) → get_or S i 0 < 256) → at + w ≤ length S → Word w S at n → drop at S ≡ little_endian w n ++ drop (at + w) S
word_at {S} {w} {at} {n} bytes h x =
    let l = part_length S at w h in
    let e : little_endian w n ≡ part S at w = ap (little_endian w) x.is ∙ ap (λ k. little_endian k (number (part S at w))) (sym l) ∙ little_endian_number (part S at w) (every_part is_byte S at w (are_bytes S bytes)) in
    sym (part_rest S at w) ∙ ap (λ c. c ++ drop (at + w) S) (sym e)

-- the kind at a place is the byte there, or 0 at the end
pub kind_byte : (S : List ℕ) (at : ℕ) → at < length S → Kind S at (get_or S at 0)
kind_byte S at h = record { is = sym (ap first_byte (drop_at S at h)) }

pub kind_end : (S : List ℕ) (at : ℕ) → length S ≤ at → Kind S at 0
kind_end S at h = record { is = sym (ap first_byte (drop_of_length-le S h)) }

-- a kind that is not 0 is an item's
cons_of : (k : ℕ) (s : List ℕ) → k ≡ first_byte s → 1 ≤ k → (t : List ℕ) × (s ≡ k ∷ t)
cons_of k [] e h = absurd (omega arith)
cons_of k (c ∷ s) e h = (s, ap (λ b. b ∷ s) (sym e))

module _ {S : List ℕ} {at k : ℕ} (e : Kind S at k) where
  pub kind_in : 1 ≤ k → at + 1 ≤ length S
  kind_in h =
      let c = cons_of k (drop at S) e.is h in
      let d : length (drop at S) ≡ suc (length c.0) = ap length c.1 in
      let f = length-drop at S in
      omega arith

  pub kind_is : 1 ≤ k → drop at S ≡ k ∷ drop (at + 1) S
  kind_is h =
      let b = drop_at S at (let z = kind_in h in omega arith) in
      let f : k ≡ get_or S at 0 = e.is ∙ ap first_byte b in
      b ∙ ap (λ c. c ∷ drop (at + 1) S) (sym f)

  -- what an item's kind is not
  pub kind_not : {t : List ℕ} (j : ℕ) → (k ≡ j → ⊥) → drop at S ≡ j ∷ t → ⊥
  kind_not j n f = n (e.is ∙ ap first_byte f)

-- the same where the kind is a number that was tested
pub kind_in_at : {S : List ℕ} {at k : ℕ} {j : ℕ} → Kind S at k → k ≡ suc j → at + 1 ≤ length S
kind_in_at e f = kind_in e (omega arith)

pub kind_at : {S : List ℕ} {at k : ℕ} {j : ℕ} → Kind S at k → k ≡ suc j → drop at S ≡ suc j ∷ drop (at + 1) S
kind_at {S} {at} e f = kind_is e (omega arith) ∙ ap (λ c. c ∷ drop (at + 1) S) f
