-- Writing node numbers into a list of places, one after the other: what is there after all of them, and that nothing changes once the cap is passed.
-- Assumes nothing.
use Prim.Native.Nat.{ℕ, zero, suc, ◌+◌, ◌-◌, ◌≤◌, ◌<◌, min}
use Rattle.std.specs.Prelude.{◌≡◌, refl, set, take}
use Rattle.std.proofs.Common.{sym, ◌∙◌, length-set}
use Rattle.std.proofs.Math.Path.{ap}
use mathlib.Core.List.{List, [], ◌∷◌, ◌++◌}
use Rattle.std.proofs.Math.ListN.{length}
use Rattle.std.proofs.lemmas.List.Edits.{sets}
use Rattle.std.proofs.Math.Seq.{set_out, take-nil}
use native.Mathlib.Omega.{arith}

-- how many are counted at most before all stops, the places, and the next place; one more than the cap: no more is taken
pub record State : Type 0 where
  pub cap : ℕ
  pub places : List ℕ
  pub next : ℕ

abbrev pub st : ℕ → List ℕ → ℕ → State
st m l n = record { cap = m; places = l; next = n }

-- a number is set at the next place, if there is one
unfoldable pub push : ℕ → State → State
push x s = st s.cap (set s.places s.next x) (min (s.next + 1) (s.cap + 1))

unfoldable pub emit : List ℕ → State → State
emit [] s = s
emit (x ∷ xs) s = emit xs (push x s)

-- emission of two lists is emission of one after the other
pub emit_append : (xs ys : List ℕ) (s : State) → emit (xs ++ ys) s ≡ emit ys (emit xs s)
unfolding emit
emit_append [] ys s = refl
emit_append (x ∷ xs) ys s = emit_append xs ys (push x s)

-- emission keeps the number of places, and the next place in its bound
pub emit_length : (xs : List ℕ) (s : State) → length (emit xs s).places ≡ length s.places
unfolding emit push
emit_length [] s = refl
emit_length (x ∷ xs) s = emit_length xs (push x s) ∙ length-set s.places s.next x

pub emit_bound : (xs : List ℕ) (s : State) → s.next ≤ s.cap + 1 → (emit xs s).next ≤ s.cap + 1
unfolding emit push
emit_bound [] s h = h
emit_bound (x ∷ xs) s h =
    let b : (push x s).next ≤ (push x s).cap + 1 = omega arith in
    emit_bound xs (push x s) b

-- one more than the cap: nothing changes
pub emit_full : (xs : List ℕ) (s : State) → s.next ≡ s.cap + 1 → length s.places ≤ s.cap + 1 → emit xs s ≡ s
unfolding emit push
emit_full [] s h w = refl
emit_full (x ∷ xs) s h w =
    let p : push x s ≡ s = λ i. record { cap = s.cap; places = set_out s.places s.next x (omega arith) i; next = same i } in
    ap (emit xs) p ∙ emit_full xs s h w
  where
    same : min (s.next + 1) (s.cap + 1) ≡ s.next
    same = omega arith

-- how many there are in the end
pub emit_next : (xs : List ℕ) (s : State) → s.next ≤ s.cap + 1 → (emit xs s).next ≡ min (s.next + length xs) (s.cap + 1)
unfolding emit push
emit_next [] s h = omega arith
emit_next (x ∷ xs) s h = let e = emit_next xs (push x s) (omega arith) in omega arith

-- what a push comes to: at a place, behind the places, and once the cap is passed
pub push_in : (m : ℕ) (l : List ℕ) (at x : ℕ) → at ≤ m → st m (set l at x) (at + 1) ≡ push x (st m l at)
unfolding push
push_in m l at x h = let e : at + 1 ≡ min (at + 1) (m + 1) = omega arith in ap (λ (n : ℕ). st m (set l at x) n) e

pub push_out : (m : ℕ) (l : List ℕ) (at x : ℕ) → at ≤ m → length l ≤ at → st m l (at + 1) ≡ push x (st m l at)
push_out m l at x h w = ap (λ (k : List ℕ). st m k (at + 1)) (sym (set_out l at x w)) ∙ push_in m l at x h

pub push_full : (m : ℕ) (l : List ℕ) (at x : ℕ) → length l ≤ m + 1 → m < at → at ≤ m + 1 → st m l at ≡ push x (st m l at)
unfolding push
push_full m l at x w h k = let e : at ≡ min (at + 1) (m + 1) = omega arith in (λ i. record { cap = m; places = sym (set_out l at x (omega arith)) i; next = e i })

-- All that is emitted from a place on, where the cap is the number of places: as many as there is room for are set, and one more is counted at most.
module _ (m : ℕ) where
  emit_by : (xs l : List ℕ) (n k : ℕ) → length l ≡ m → n + k ≡ m → emit xs (st m l n) ≡ st m (sets l n (take k xs)) (min (n + length xs) (m + 1))
  unfolding emit
  emit_by [] l n k hl hk =
      let e : n ≡ min (n + 0) (m + 1) = omega arith in
      ap (λ (x : ℕ). st m l x) e ∙ ap (λ (v : List ℕ). st m (sets l n v) (min (n + 0) (m + 1))) (sym (take-nil k))
  emit_by (x ∷ xs) l n zero hl hk =
      let e : n + 1 ≡ min (n + suc (length xs)) (m + 1) = omega arith in
      ap (emit xs) (sym (push_out m l n x (omega arith) (omega arith))) ∙ emit_full xs (st m l (n + 1)) (omega arith) (omega arith) ∙ ap (λ (z : ℕ). st m l z) e
  emit_by (x ∷ xs) l n (suc k) hl hk =
      let d : n + 1 ≡ suc n = omega arith in
      let e : min (suc n + length xs) (m + 1) ≡ min (n + suc (length xs)) (m + 1) = omega arith in
      ap (emit xs) (sym (push_in m l n x (omega arith)))
      ∙ ap (λ (z : ℕ). emit xs (st m (set l n x) z)) d
      ∙ emit_by xs (set l n x) (suc n) k (length-set l n x ∙ hl) (omega arith)
      ∙ ap (λ (z : ℕ). st m (sets (set l n x) (suc n) (take k xs)) z) e

-- all that is emitted from the first place on
pub emit_whole : (xs l l' : List ℕ) (n : ℕ) → st (length l) l' n ≡ emit xs (st (length l) l 0) → (l' ≡ sets l 0 (take (length l) xs)) × (n ≡ min (length xs) (length l + 1))
emit_whole xs l l' n e =
    let a = e ∙ emit_by (length l) xs l 0 (length l) refl (omega arith) in
    let b = ap (λ (s : State). s.next) a in
    (ap (λ (s : State). s.places) a, omega arith)
