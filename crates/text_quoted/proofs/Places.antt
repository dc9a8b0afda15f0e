-- What stands at a place of a text, and buffers after stores. Assumes nothing.
use Prim.Native.Nat.{ℕ, suc, ◌+◌, ◌≤◌, ◌<◌}
use mathlib.Core.Path.{◌≡◌, refl, ap, ◌∙◌}
use mathlib.Core.List.{List, [], ◌∷◌}
use native.Mathlib.Omega.{arith}
use lib.Dec.{eqb}
use lib.ListN.{length, drop, take, get_or, set}
use lib.Seq.{sets, take-set-le}
use borrow.Author.Tests.{eqb-false}
use Rattle.basics.specs.Reads.{Wrote}
use Rattle.basics.specs.Lists.{drop_at as here}

-- two numerals that differ are not equal
pub differ {ℓ} : {X : Type ℓ} (a b : ℕ) → eqb a b ≡ mathlib.Core.Bool.false → a ≡ b → X
differ a b e h = absurd (eqb-false a b e h)

pub here_four : (s : List ℕ) (i : ℕ) → i + 4 ≤ length s → drop i s ≡ get_or s i 0 ∷ get_or s (i + 1) 0 ∷ get_or s (i + 2) 0 ∷ get_or s (i + 3) 0 ∷ drop (i + 4) s
here_four s i h =
    let e : i + 1 + 1 ≡ i + 2 = omega arith in
    let f : i + 2 + 1 ≡ i + 3 = omega arith in
    let g : i + 3 + 1 ≡ i + 4 = omega arith in
    here s i (omega arith)
    ∙ ap (λ (r : List ℕ). get_or s i 0 ∷ r) (here s (i + 1) (omega arith)
    ∙ ap (λ (r : List ℕ). get_or s (i + 1) 0 ∷ r) (ap (λ (n : ℕ). drop n s) e ∙ here s (i + 2) (omega arith)
    ∙ ap (λ (r : List ℕ). get_or s (i + 2) 0 ∷ r) (ap (λ (n : ℕ). drop n s) f ∙ here s (i + 3) (omega arith)
    ∙ ap (λ (n : ℕ). get_or s (i + 3) 0 ∷ drop n s) g)))

-- ---- stores

-- what stands before the stores is kept
pub take_sets : (p : List ℕ) (n m : ℕ) (c : List ℕ) → n ≤ m → take n (sets p m c) ≡ take n p
take_sets p n m [] h = refl
take_sets p n m (x ∷ c) h = take_sets (set p m x) n (suc m) c (omega arith) ∙ take-set-le n p m x h

pub wrote_kept : (p q : List ℕ) (n : ℕ) (c : List ℕ) → Wrote p n c q → take n q ≡ take n p
wrote_kept p q n c w = rw w.is (take_sets p n n c (omega arith))

-- two bytes of a known value at a place
pub here_two : (s : List ℕ) (i x y : ℕ) → i + 2 ≤ length s → get_or s i 0 ≡ x → get_or s (i + 1) 0 ≡ y → drop i s ≡ x ∷ y ∷ drop (i + 2) s
here_two s i x y h ex ey =
    let e : i + 1 + 1 ≡ i + 2 = omega arith in
    here s i (omega arith)
    ∙ ap (λ (r : List ℕ). get_or s i 0 ∷ r) (here s (i + 1) (omega arith) ∙ ap (λ (n : ℕ). get_or s (i + 1) 0 ∷ drop n s) e)
    ∙ rw (ex, ey)

-- a text that begins with an element has that element at its place
pub begins_here : (s : List ℕ) (i x : ℕ) (r : List ℕ) → i < length s → drop i s ≡ x ∷ r → (get_or s i 0 ≡ x) × (drop (i + 1) s ≡ r)
begins_here s i x r h e = let f = here s i h in (cc, cc)
