-- What a run or a selection over an accepted table leaves in the lent list: the nodes from the start position on, or refusal 13 or 14.
-- proofs/Lists concludes that the definition's outcome is so. Assumes nothing.
use Rattle.std.specs.Prelude.{ℕ, ◌+◌, ◌-◌, ◌≤◌, ◌<◌, ◌≡◌, Bool, leb, drop}
use Rattle.std.proofs.Common.{arith, ap, sym, ◌∙◌, drop_of_length-le}
use Rattle.std.proofs.Math.Path.{refl, subst}
use Rattle.std.proofs.Math.Bool.{true, false}
use mathlib.Core.List.{List, [], ◌++◌, append-nil}
use borrow.Author.Tests.{leb-true, leb-false}
use Rattle.std.proofs.Math.ListN.{length, take}
use Rattle.std.proofs.Math.Seq.{sets, length-take-le}
use Rattle.std.proofs.lemmas.List.Edits.{sets-eq}
use Rattle.definition.specs.Outcomes.{RunOutcome, refuse_run, place}
use Rattle.promises_stated.specs.Promises.{Listed, listed, filled, beyond}

-- ---- the definition's outcome is of this kind

-- stores that reach the end of the list leave nothing behind them
sets_to_end : (v l : List ℕ) (i : ℕ) → i + length v ≡ length l → sets l i v ≡ take i l ++ v
sets_to_end v l i e =
    let d : drop (i + length v) l ≡ [] = drop_of_length-le l {i = i + length v} (omega arith) in
    sets-eq v l i (omega arith) ∙ ap (λ (x : List ℕ). take i l ++ v ++ x) d ∙ append-nil (take i l ++ v)

module _ (ns L : List ℕ) (at : ℕ) where
  pub placed : (b : Bool) → at ≤ length L → leb (length ns) (length L - at) ≡ b → Listed ns L at (place b ns L at)
  unfolding place refuse_run
  placed true h e =
      let f : at + length ns ≤ length L = omega (arith, leb-true (length ns) (length L - at) e) in
      subst (λ (x : List ℕ). Listed ns L at (record { refusal = 0; count = length ns; node = 0; places = x })) (sym (sets-eq ns L at f)) (listed f)
  placed false h e =
      let k : length L - at < length ns = leb-false (length ns) (length L - at) e in
      let n : length (take (length L - at) ns) ≡ length L - at = length-take-le (length L - at) ns (omega arith) in
      let s : sets L at (take (length L - at) ns) ≡ take at L ++ take (length L - at) ns = sets_to_end (take (length L - at) ns) L at (omega arith) in
      subst (λ (x : List ℕ). Listed ns L at (record { refusal = 13; count = 0; node = 0; places = x })) (sym s) (filled h (omega arith))

-- ---- and there is no other of this kind

pub listed_one : {ns L : List ℕ} {at : ℕ} {o o' : RunOutcome} → Listed ns L at o → Listed ns L at o' → o ≡ o'
listed_one (listed a) (listed b) = refl
listed_one (listed a) (filled b c) = absurd (omega arith)
listed_one (listed a) (beyond b) = absurd (omega arith)
listed_one (filled a b) (listed c) = absurd (omega arith)
listed_one (filled a b) (filled c d) = refl
listed_one (filled a b) (beyond c) = absurd (omega arith)
listed_one (beyond a) (listed b) = absurd (omega arith)
listed_one (beyond a) (filled b c) = absurd (omega arith)
listed_one (beyond a) (beyond b) = refl
