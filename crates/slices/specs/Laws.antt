-- What a caller needs to know of places and walks: an index's place is in the list; of a walk the first place is, a step keeps to it,
-- and all places lie in it. Assumes nothing.
use Rattle.std.specs.Prelude.{ℕ, zero, suc, ◌+◌, ◌≤◌, ◌<◌, ◌≡◌, refl, [], ◌∷◌, Bool, true, false, ltb, ℤ}
use Rattle.std.proofs.Common.{sym, ◌∙◌, suc-mul, arith, lt-ltb}
use Rattle.definition.specs.Bytes.{every}
use Rattle.definition.specs.Slices.{index_places}
use Rattle.slices.specs.Walks.{place_list, moved, places_from, walked, Within, Inside}
use Rattle.slices.specs.Meaning.{index_below}
use Rattle.std.specs.Prelude.{Option, Some, None}
use Rattle.slices.specs.declared.Walk.{Walk}

-- the first of some places is in the list
pub within_at : (n : ℕ) (down : Bool) (step at l : ℕ) → Within n down step at (suc l) → at < n
unfolding Within
within_at n true step at l h = h.0
within_at n false step at l h = omega arith

-- a longer list will do
pub within_more : (m n : ℕ) (down : Bool) (step at l : ℕ) → m ≤ n → Within m down step at l → Within n down step at l
unfolding Within
within_more m n down step at zero h x = tt
within_more m n true step at (suc l) h x = (omega arith, x.1)
within_more m n false step at (suc l) h x = omega arith

-- the places behind the first lie in the list
pub within_next : (n : ℕ) (down : Bool) (step at l : ℕ) → Within n down step at (suc l) → Within n down step (moved down step at) l
unfolding Within moved
within_next n down step at zero h = tt
within_next n true step at (suc l) h = (omega arith, omega (arith, suc-mul l step))
within_next n false step at (suc l) h = omega (arith, suc-mul l step)

-- where a place follows, a step down does not pass 0, and a step up stays in the list
pub step_down : (n step at l : ℕ) → Within n true step at (suc (suc l)) → step ≤ at
unfolding Within
step_down n step at l h = omega (arith, suc-mul l step)

pub step_up : (n step at l : ℕ) → Within n false step at (suc (suc l)) → at + step < n
unfolding Within
step_up n step at l h = omega (arith, suc-mul l step)

-- all the places lie in the list
pub within_every : (n : ℕ) (down : Bool) (step at l : ℕ) → Within n down step at l → every (λ k. ltb k n) (places_from down step at l) ≡ true
unfolding places_from
within_every n down step at zero h = refl
within_every n down step at (suc l) h =
    rw (lt-ltb at n (within_at n down step at l h)) (within_every n down step (moved down step at) l (within_next n down step at l h))

-- ---- the same of a walk

pub inside_at : (n : ℕ) (w : Walk) → Inside n w → 0 < w.left → w.at < n
inside_at n w h p = go w.left p h.within
  where
    go : (l : ℕ) → 0 < l → Within n w.down w.step w.at l → w.at < n
    go zero p x = absurd (omega arith)
    go (suc l) p x = within_at n w.down w.step w.at l x

pub inside_more : (m n : ℕ) (w : Walk) → m ≤ n → Inside m w → Inside n w
inside_more m n w h x = record { within = within_more m n w.down w.step w.at w.left h x.within }

pub inside_every : (n : ℕ) (w : Walk) → Inside n w → every (λ k. ltb k n) (walked w) ≡ true
unfolding walked
inside_every n w h = within_every n w.down w.step w.at w.left h.within

-- ---- the place of an index

-- The place of an index is Some k exactly where it stands for k alone, and None exactly where it stands for none.
pub at_means : (p : Option ℕ) (k : ℕ) → p ≡ Some k → place_list p ≡ k ∷ []
unfolding place_list
at_means p k e = rw e

pub means_at : (p : Option ℕ) (k : ℕ) → place_list p ≡ k ∷ [] → p ≡ Some k
unfolding place_list
means_at (Some j) k e = cc
means_at None k e = cc

pub nothing_means : (p : Option ℕ) → p ≡ None → place_list p ≡ []
unfolding place_list
nothing_means p e = rw e

pub means_nothing : (p : Option ℕ) → place_list p ≡ [] → p ≡ None
unfolding place_list
means_nothing (Some j) e = cc
means_nothing None e = refl

-- what an index selects is in the list
pub index_at : (n : ℕ) (i : ℤ) (p : Option ℕ) (k : ℕ) → place_list p ≡ index_places n i → p ≡ Some k → k < n
index_at n i p k e h = index_below n i k (sym e ∙ at_means p k h)
