-- The walks that the code hands out are document 01's. Assumes nothing.
use Prim.Native.Nat.{ℕ, zero, suc, ◌+◌, ◌-◌, ◌≤◌, ◌<◌}
use mathlib.Core.Path.{◌≡◌, refl, sym}
use mathlib.Core.Bool.{true, false}
use native.Mathlib.Omega.{arith}
use lib.IntN.{ℤ, pos, negsuc, neg_ℤ, nat_abs, sub_ℕ, ◌+ℤ◌}
use lib.Signed.{lt_z}
use Rattle.definition.specs.Slices.{walk_places, goes_on}
use Rattle.slices.specs.Walks.{places_from, Turns, Within, Walks, walked, Between}
use Rattle.slices.specs.Walking.{turns_few, up, down, from_end, from_end_none}
use Rattle.slices.specs.declared.Walk.{Walk}
use Rattle.slices.proofs.Bounds.{at_most, behind_at_most, behind_back, sized_below, sized_above}

-- places a step apart, upwards and downwards, lie in the list
within_up : (n i e step l : ℕ) → e ≤ suc n → Turns (i + 1) e step l → Within n false step i l
unfolding Within
within_up n i e step zero a t = tt
within_up n i e step (suc l) a t = omega (arith, t.needed l refl)

within_down : (n i e step l : ℕ) → i < n → Turns e (i + 1) step l → Within n true step i l
unfolding Within
within_down n i e step zero a t = tt
within_down n i e step (suc l) a t = (a, omega (arith, t.needed l refl))

module _ (n i e : ℕ) where
  pub walk_nowhere : (step : ℕ) → step ≡ 0 → Walks n (pos i) (sub_ℕ e 1) (pos step) (record { at = i; left = 0; step = step; down = false })
  unfolding walked places_from walk_places goes_on Within
  walk_nowhere zero h = record { places = refl; inside = record { within = tt } }
  walk_nowhere (suc k) h = absurd (omega arith)

  pub walk_up : (step l : ℕ) → (step ≡ 0 → ⊥) → e ≤ suc n → Turns (i + 1) e step l → Walks n (pos i) (sub_ℕ e 1) (pos step) (record { at = i; left = l; step = step; down = false })
  unfolding walked
  walk_up zero l p a t = absurd (p refl)
  walk_up (suc k) l p a t =
      record {
        places = sym (up (suc n) n i e k l a (omega (arith, turns_few (i + 1) e k l t)) t);
        inside = record { within = within_up n i e (suc k) l a t };
      }

  pub walk_down : (step l : ℕ) → 0 < step → i < n → Turns e (i + 1) step l → Walks n (pos i) (sub_ℕ e 1) (neg_ℤ (pos step)) (record { at = i; left = l; step = step; down = true })
  unfolding walked
  walk_down zero l p a t = absurd (omega arith)
  walk_down (suc k) l p a t =
      record {
        places = sym (down (suc n) n i e k l a (omega (arith, turns_few e (i + 1) k l t)) t);
        inside = record { within = within_down n i e (suc k) l a t };
      }

  pub walk_end : (step l : ℕ) → 0 < step → i ≡ n → step ≤ n → Turns e (i - step + 1) step l → Walks n (pos i) (sub_ℕ e 1) (neg_ℤ (pos step)) (record { at = i - step; left = l; step = step; down = true })
  unfolding walked
  walk_end zero l p q a t = absurd (omega arith)
  walk_end (suc k) l p q a t =
      record {
        places = rw q (sym (from_end n e k l a (rw q at t)));
        inside = record { within = within_down n (i - suc k) e (suc k) l (omega arith) t };
      }

  pub walk_end_none : (step : ℕ) → i ≡ n → n < step → Walks n (pos i) (sub_ℕ e 1) (neg_ℤ (pos step)) (record { at = i; left = 0; step = step; down = true })
  unfolding walked places_from Within
  walk_end_none zero q a = absurd (omega arith)
  walk_end_none (suc k) q a = record { places = sym (rw q (from_end_none n e k a)); inside = record { within = tt } }

-- ---- from places back to signed numbers

-- a start, a stop and a step, with the place, the place behind and the size that the code has for them
pub record Turned (from to by : ℤ) (at end step : ℕ) : Type 0 where
  pub start : pos at ≡ from
  pub stop : pos end ≡ to +ℤ pos 1
  pub size : step ≡ nat_abs by

module _ (n : ℕ) (from to by : ℤ) (at end step : ℕ) (t : Turned from to by at end step) where
  pub turned_bounds : Between (pos 0) (pos n) from → Between (negsuc 0) (pos n) to → (at ≤ n) × (end ≤ suc n)
  turned_bounds a b = (at_most at n from t.start a.high, behind_at_most end n to t.stop b)

  pub turned_down : (w : Walk) → lt_z by (pos 0) ≡ true → Walks n (pos at) (sub_ℕ end 1) (neg_ℤ (pos step)) w → Walks n from to by w
  turned_down w h x = rw (t.start, behind_back end to t.stop, sized_below step by t.size h) at x

  pub turned_up : (w : Walk) → lt_z by (pos 0) ≡ false → Walks n (pos at) (sub_ℕ end 1) (pos step) w → Walks n from to by w
  turned_up w h x = rw (t.start, behind_back end to t.stop, sized_above step by t.size h) at x
