-- A slice by the sign of its step: where document 01's slice is the RFC's. Assumes nothing.
use Rattle.std.specs.Prelude.{ℕ, suc, ◌≡◌, refl, map, ℤ, pos, negsuc, ◌≤ℤ◌, ◌<ℤ◌}
use Rattle.std.proofs.Math.Option.{Option, none, some}
use Rattle.std.proofs.Common.{arith, lt-ltb, ltb→lt}
use Rattle.definition.specs.Slices.{clamp, slice_step, given_start, given_stop, slice_start, slice_stop, goes_on, walk_places, slice_places}
use Rattle.definition.specs.StandardSlices.{given, start_of, end_of, normalize, normal_start, bounds_of, loop_down, rfc_loop, index_of, rfc_places}
use Rattle.definition_standards.specs.Walks.{bound_down, added_normalized, same_up, same_down, same_empty}

-- the given bounds and their defaults are the same
same_start : (n : ℕ) (a : Option ℤ) (s : ℤ) → given_start n a s ≡ start_of n a s
unfolding given_start given
same_start n (some z) s = refl
same_start n none (pos k) = refl
same_start n none (negsuc k) = refl

same_stop : (n : ℕ) (b : Option ℤ) (s : ℤ) → given_stop n b s ≡ end_of n b s
unfolding given_stop given
same_stop n (some z) s = refl
same_stop n none (pos k) = refl
same_stop n none (negsuc k) = refl

-- A slice with a positive step is the RFC's.
pub positive : (n k : ℕ) (a b : Option ℤ) → slice_places n a b (some (pos (suc k))) ≡ rfc_places n a b (some (pos (suc k)))
unfolding slice_places rfc_places rfc_loop slice_step slice_start slice_stop bounds_of given
positive n k a b =
    rw (lt-ltb 0 (suc k) (omega arith), same_start n a (pos (suc k)), same_stop n b (pos (suc k)), added_normalized n (start_of n a (pos (suc k))), added_normalized n (end_of n b (pos (suc k))))
    (same_up (suc n) n k (normalize (start_of n a (pos (suc k))) n) (normalize (end_of n b (pos (suc k))) n))

-- A slice with a step of 0 is the RFC's: both select nothing.
pub by_zero : (n : ℕ) (a b : Option ℤ) → slice_places n a b (some (pos 0)) ≡ rfc_places n a b (some (pos 0))
unfolding slice_places rfc_places rfc_loop slice_step given walk_places goes_on
by_zero n a b = refl

-- from y, normalised, and by a negative step, the walk is the loop to any stop
SameFrom : ℕ → ℕ → ℤ → Type 0
SameFrom n k y = (z : ℤ) → walk_places (suc n) n (clamp (pos 0) (pos n) y) (clamp (negsuc 0) (pos n) z) (negsuc k) ≡ map index_of (loop_down (suc n) (bound_down n y) (bound_down n z) (negsuc k))

-- so it is from a place of the list
from_inside : (n k : ℕ) (y : ℤ) → pos 0 ≤ℤ y → y <ℤ pos n → SameFrom n k y
unfolding SameFrom
from_inside n k (pos m) low high = λ z. same_down (suc n) n m k z (ltb→lt m n high.lt)
from_inside n k (negsuc j) low high = absurd low.le

-- and a slice with that start is then the RFC's
negative : (n k : ℕ) (a b : Option ℤ) → SameFrom n k (normal_start n a (some (negsuc k))) → slice_places n a b (some (negsuc k)) ≡ rfc_places n a b (some (negsuc k))
unfolding slice_places rfc_places rfc_loop slice_step slice_start slice_stop bounds_of given SameFrom
negative n k a b same =
    rw (same_start n a (negsuc k), same_stop n b (negsuc k), added_normalized n (start_of n a (negsuc k)), added_normalized n (end_of n b (negsuc k)))
    (same (normalize (end_of n b (negsuc k)) n))

-- A slice with a negative step is the RFC's where its normalised start is a place of the list.
pub negative_inside : (n k : ℕ) (a b : Option ℤ) → pos 0 ≤ℤ normal_start n a (some (negsuc k)) → normal_start n a (some (negsuc k)) <ℤ pos n → slice_places n a b (some (negsuc k)) ≡ rfc_places n a b (some (negsuc k))
negative_inside n k a b low high = negative n k a b (from_inside n k (normal_start n a (some (negsuc k))) low high)

-- A slice with a negative step is the RFC's on an empty list: both select nothing.
pub negative_empty : (k : ℕ) (a b : Option ℤ) → slice_places 0 a b (some (negsuc k)) ≡ rfc_places 0 a b (some (negsuc k))
unfolding SameFrom
negative_empty k a b = negative 0 k a b (λ z. same_empty k (normal_start 0 a (some (negsuc k))) z)
