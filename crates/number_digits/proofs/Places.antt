-- A byte at a place of a text. Assumes nothing.
use mathlib.Core.Path.{◌≡◌, refl, sym, ap, ◌∙◌}
use mathlib.Core.Bool.{Bool, true, false}
use mathlib.Core.List.{List, ◌∷◌}
use Prim.Native.Nat.{ℕ, ◌+◌, ◌≤◌, ◌<◌}
use native.Mathlib.Omega.{arith}
use borrow.Author.Tests.{eqb-true, eqb-false}
use lib.Dec.{eqb}
use lib.ListN.{length, drop, get_or, drop_of_length-le}
use Rattle.number_digits.specs.Runs.{Is}
use Rattle.basics.specs.Lists.{drop_at, not_cons}

-- A test of the byte at a place says whether it stands there.
pub is_tested : (s : List ℕ) (at x : ℕ) → at < length s → Is s at x (eqb (get_or s at 0) x)
is_tested s at x h = go (eqb (get_or s at 0) x) refl
  where
    go : (t : Bool) → eqb (get_or s at 0) x ≡ t → Is s at x t
    go true e = (omega arith, drop_at s at h ∙ ap (λ (c : ℕ). c ∷ drop (at + 1) s) (eqb-true (get_or s at 0) x e))
    go false e = λ r f.
        let d = drop_at s at h in
        let g : get_or s at 0 ≡ x = cc in
        eqb-false (get_or s at 0) x e g

-- Past the end no byte stands.
pub is_past : (s : List ℕ) (at x : ℕ) → length s ≤ at → Is s at x false
is_past s at x h = λ r f. not_cons (sym (drop_of_length-le s h) ∙ f)
