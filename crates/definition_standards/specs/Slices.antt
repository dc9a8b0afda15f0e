-- Which slices are standard: which select the indices that RFC 9535's slice selects, in its order, from a list of any length.
-- What support can tell a customer: every slice whose step is positive, 0 or left out is standard, on every list. So is every slice whose
-- start is left out, and every slice on an empty list. A slice with a negative step and a written start is standard wherever that start,
-- with the list's length added once if it is negative, is the number of an element: 0 up to the length less one. Where it is not, ours may
-- differ from the RFC's, as in the two rows that document 01 marks: a start past the end begins at n, not n - 1, and one before the front
-- begins at 0, where the RFC selects nothing. Which stop is written makes no slice standard or not. All this holds of bounds and steps of
-- any size, also of those that a query may not write. What is concluded of a start left out, and the marked rows, stand in proofs/Slices.
use Rattle.std.specs.Prelude.{ℕ, zero, suc, ◌<◌, ◌≡◌, List, ℤ, pos, negsuc, ◌≤ℤ◌, ◌<ℤ◌}
use Rattle.std.proofs.Common.{zero-le, arith, lt→ltb, le→leb}
use Rattle.std.proofs.Math.Option.{Option, none, some}
use Rattle.std.specs.Int.Signed.{le_z_yes, lt_z_yes}
use Rattle.definition.specs.Slices.{slice_step, slice_places}
use Rattle.definition.specs.StandardSlices.{given, step_of, normalize, normal_start, rfc_loop, rfc_places}
use Rattle.definition_standards.specs.Walks.{last_place}
use Rattle.definition_standards.specs.Signs.{positive, by_zero, negative_inside, negative_empty}

-- the normalised start lies in 0..n-1
pub record StartsInside (n : ℕ) (a c : Option ℤ) : Type 0 where
  pub low : pos 0 ≤ℤ normal_start n a c
  pub high : normal_start n a c <ℤ pos n

-- a slice with a start a and a step c is standard on a list of n: its step is not negative, or the list is empty, or its start is inside
pub data Standard (n : ℕ) (a c : Option ℤ) : Type 0 where
  not_negative : pos 0 ≤ℤ step_of c → Standard n a c
  empty_list : n ≡ 0 → Standard n a c
  inside : StartsInside n a c → Standard n a c

-- Standard slices select the RFC's indices in the RFC's order.
pub slices_standard : (n : ℕ) (a b c : Option ℤ) → Standard n a c → slice_places n a b c ≡ rfc_places n a b c
unfolding slice_places slice_step rfc_places rfc_loop given
slices_standard n a b none h = positive n 0 a b
slices_standard n a b (some (pos zero)) h = by_zero n a b
slices_standard n a b (some (pos (suc k))) h = positive n k a b
slices_standard n a b (some (negsuc k)) (not_negative h) = absurd h.le
slices_standard n a b (some (negsuc k)) (empty_list e) = rw e (negative_empty k a b)
slices_standard n a b (some (negsuc k)) (inside h) = negative_inside n k a b h.low h.high

-- ---- a start that is left out

-- the default start of a negative step is the last element's
pub default_inside : (n k : ℕ) → 0 < n → StartsInside n none (some (negsuc k))
unfolding given normalize
default_inside zero k h = absurd (omega arith)
default_inside (suc p) k h = record { low = rw (normal p) (le_z_yes (le→leb 0 p zero-le)); high = rw (normal p) (lt_z_yes (lt→ltb p (suc p) (omega arith))) }
  where
    normal : (p : ℕ) → normal_start (suc p) none (some (negsuc k)) ≡ pos p
    normal p = rw (last_place p)

-- ---- the rows that document 01 marks with the RFC's other answer

-- A slice selects one list of indices here and another by the RFC, and fails only the condition on the start: its step is negative, the
-- list is not empty, and its start is not inside; with any start that is inside, the same stop and step select the RFC's indices.
pub record OnlyStartFails (n : ℕ) (a b c : Option ℤ) (here there : List ℕ) : Type 0 where
  pub ours : slice_places n a b c ≡ here
  pub rfcs : rfc_places n a b c ≡ there
  pub step_negative : step_of c <ℤ pos 0
  pub some_element : 0 < n
  pub start_outside : ¬ StartsInside n a c
  pub other_starts : (d : Option ℤ) → StartsInside n d c → slice_places n d b c ≡ rfc_places n d b c
