-- A slice with no start is standard on every list, and the rows that document 01 marks fail only the condition on the start (specs/Slices has what both say).
use Rattle.std.specs.Prelude.{ℕ, zero, suc, ◌<◌, ◌≡◌, refl, List, [], ◌∷◌, ℤ, pos, negsuc}
use Rattle.std.proofs.Common.{zero-le, arith, le→leb}
use Rattle.std.proofs.Math.Option.{Option, none, some}
use Rattle.std.specs.Int.Signed.{le_z_yes, lt_z_yes}
use Rattle.definition.specs.Slices.{add_once, clamp, slice_step, given_start, given_stop, slice_start, slice_stop, goes_on, element_at, walk_places, slice_places}
use Rattle.definition.specs.StandardSlices.{minimum, maximum, given, normalize, bounds_of, loop_down, rfc_loop, index_of, rfc_places, other_answers}
use Rattle.definition_standards.specs.Slices.{StartsInside, Standard, not_negative, empty_list, inside, slices_standard, default_inside, OnlyStartFails}

-- A slice with no start is standard on every list, whatever its stop and its step.
pub no_start_standard : (n : ℕ) (c : Option ℤ) → Standard n none c
unfolding given
no_start_standard n none = not_negative (le_z_yes tt)
no_start_standard n (some (pos k)) = not_negative (le_z_yes (le→leb 0 k zero-le))
no_start_standard zero (some (negsuc k)) = empty_list refl
no_start_standard (suc p) (some (negsuc k)) = inside (default_inside (suc p) k (omega arith))

-- [::-1] is the RFC's on every list.
pub reversed_standard : (n : ℕ) → slice_places n none none (some (negsuc 0)) ≡ rfc_places n none none (some (negsuc 0))
reversed_standard n = slices_standard n none none (some (negsuc 0)) (no_start_standard n (some (negsuc 0)))

-- ---- the rows that document 01 marks with the RFC's other answer

-- a slice with a negative step whose start is not inside
only_start : (n k : ℕ) (a b : Option ℤ) (here there : List ℕ) → slice_places n a b (some (negsuc k)) ≡ here → rfc_places n a b (some (negsuc k)) ≡ there → 0 < n → ¬ StartsInside n a (some (negsuc k)) → OnlyStartFails n a b (some (negsuc k)) here there
unfolding given
only_start n k a b here there ours rfcs some-element outside =
    record {
      ours = ours;
      rfcs = rfcs;
      step_negative = lt_z_yes tt;
      some_element = some-element;
      start_outside = outside;
      other_starts = λ d h. slices_standard n d b (some (negsuc k)) (inside h);
    }

-- On a list of 3, [9::-2] selects 1 here, and 2 0 by the RFC; [-9:-9:-1] selects 0 here, and none by the RFC.
pub marked_rows : OnlyStartFails 3 (some (pos 9)) none (some (negsuc 1)) (1 ∷ []) (2 ∷ 0 ∷ []) × OnlyStartFails 3 (some (negsuc 8)) (some (negsuc 8)) (some (negsuc 0)) (0 ∷ []) []
unfolding slice_places slice_step slice_start slice_stop given_start given_stop add_once clamp walk_places goes_on element_at given normalize
marked_rows = (
  only_start 3 1 (some (pos 9)) none (1 ∷ []) (2 ∷ 0 ∷ []) refl other_answers.0 (omega arith) (λ h. h.high.lt),
  only_start 3 0 (some (negsuc 8)) (some (negsuc 8)) (0 ∷ []) [] refl other_answers.1 (omega arith) (λ h. h.low.le),
)

-- The condition's ends are sharp: already [3::-2] and [-4::-1], a place past the end and one before the front, are not the RFC's.
pub sharp_ends : OnlyStartFails 3 (some (pos 3)) none (some (negsuc 1)) (1 ∷ []) (2 ∷ 0 ∷ []) × OnlyStartFails 3 (some (negsuc 3)) none (some (negsuc 0)) (0 ∷ []) []
unfolding slice_places slice_step slice_start slice_stop given_start given_stop add_once clamp walk_places goes_on element_at rfc_places rfc_loop given normalize bounds_of minimum maximum loop_down index_of
sharp_ends = (
  only_start 3 1 (some (pos 3)) none (1 ∷ []) (2 ∷ 0 ∷ []) refl refl (omega arith) (λ h. h.high.lt),
  only_start 3 0 (some (negsuc 3)) none (0 ∷ []) [] refl refl (omega arith) (λ h. h.low.le),
)
