-- The words of this crate's contracts: what the place of an index and a Walk stand for, and which walks keep to a list of n elements.
use Rattle.std.specs.Prelude.{ℕ, zero, suc, ◌+◌, ◌-◌, ◌*◌, ◌≤◌, ◌<◌, ◌≡◌, List, [], ◌∷◌, Bool, true, false, ℤ, ◌≤ℤ◌}
use Rattle.std.specs.Prelude.{Option as Place, Some, None}
use Rattle.std.proofs.Math.Option.{Option, none, some}
use Rattle.definition.specs.Slices.{walk_places, slice_places}
use Rattle.slices.specs.declared.Walk.{Walk}

-- the elements that the place of an index stands for: one, or none
unfoldable pub place_list : Place ℕ → List ℕ
place_list (Some k) = k ∷ []
place_list None = []

-- a bound or step as a plan holds it: a flag that says whether it is given, and its value
unfoldable pub given : Bool → ℤ → Option ℤ
given true z = some z
given false z = none

-- lo ≤ z ≤ hi
pub record Between (lo hi z : ℤ) : Type 0 where
  pub low : lo ≤ℤ z
  pub high : z ≤ℤ hi

-- a step further, down the list or up
unfoldable pub moved : Bool → ℕ → ℕ → ℕ
moved true step at = at - step
moved false step at = at + step

-- so many places, a step apart, from a first one on
unfoldable pub places_from : Bool → ℕ → ℕ → ℕ → List ℕ
places_from down step at zero = []
places_from down step at (suc left) = at ∷ places_from down step (moved down step at) left

-- the places that are left of a walk, in its order
unfoldable pub walked : Walk → List ℕ
walked w = places_from w.down w.step w.at w.left

-- so many places, a step apart, lie in a list of n: the first and the last do, and no step between them goes below 0
unfoldable pub Within : ℕ → Bool → ℕ → ℕ → ℕ → Type 0
Within n down step at zero = Unit {0}
Within n true step at (suc more) = (at < n) × (more * step ≤ at)
Within n false step at (suc more) = at + more * step < n

-- the places that are left of a walk lie in a list of n
pub record Inside (n : ℕ) (w : Walk) : Type 0 where
  pub within : Within n w.down w.step w.at w.left

-- r is the number of places from, from + step, from + 2 step .. that lie below to
pub record Turns (from to step r : ℕ) : Type 0 where
  pub enough : to ≤ from + r * step
  pub needed : (more : ℕ) → r ≡ suc more → from + more * step < to

-- w is document 01's walk in a list of n, from a start by steps of s, while below the stop b, or above it
pub record Walks (n : ℕ) (i b s : ℤ) (w : Walk) : Type 0 where
  pub places : walked w ≡ walk_places (suc n) n i b s
  pub inside : Inside n w

-- w is what a slice selects of a list of n
pub record Selects (n : ℕ) (a b c : Option ℤ) (w : Walk) : Type 0 where
  pub places : walked w ≡ slice_places n a b c
  pub inside : Inside n w

-- r is the walk w without its first place
pub record Next (w r : Walk) : Type 0 where
  pub places : walked w ≡ w.at ∷ walked r
  pub inside : (n : ℕ) → Inside n w → Inside n r
  pub fewer : w.left ≡ suc r.left
