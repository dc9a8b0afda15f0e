-- A walk without its first place. Assumes nothing.
use Prim.Native.Nat.{ℕ, zero, suc, ◌+◌, ◌-◌, ◌≤◌, ◌<◌}
use mathlib.Core.Path.{◌≡◌, refl}
use mathlib.Core.Bool.{Bool, true, false}
use native.Mathlib.Omega.{arith}
use Rattle.slices.specs.Walks.{moved, places_from, walked, Within, Next}
use Rattle.slices.specs.Laws.{within_next, step_down, step_up}

less_one : (l : ℕ) → suc l - 1 ≡ l
less_one l = omega arith

-- the flag says where a step leads
pub moved_down : (down : Bool) (step at : ℕ) → down ≡ true → moved down step at ≡ at - step
unfolding moved
moved_down down step at e = rw e

pub moved_up : (down : Bool) (step at : ℕ) → down ≡ false → moved down step at ≡ at + step
unfolding moved
moved_up down step at e = rw e

module _ (down : Bool) (step at : ℕ) where
  -- behind the last place nothing is left
  pub next_last : (left : ℕ) → 0 < left → left - 1 ≡ 0 → Next (record { at = at; left = left; step = step; down = down }) (record { at = at; left = left - 1; step = step; down = down })
  unfolding walked places_from Within
  next_last zero p e = absurd (omega arith)
  next_last (suc zero) p e = record { places = refl; inside = λ n h. record { within = tt }; fewer = refl }
  next_last (suc (suc l)) p e = absurd (omega arith)

  -- a place further, a place fewer
  pub next_moved : (left : ℕ) → 0 < left → Next (record { at = at; left = left; step = step; down = down }) (record { at = moved down step at; left = left - 1; step = step; down = down })
  unfolding walked places_from
  next_moved zero p = absurd (omega arith)
  next_moved (suc l) p =
      rw (less_one l) (record { places = refl; inside = λ n h. record { within = within_next n down step at l h.within }; fewer = refl })

-- where a place is left behind the first, the step down and the step up are safe
pub safe_down : (n : ℕ) (down : Bool) (step at left : ℕ) → down ≡ true → 0 < left → (left - 1 ≡ 0 → ⊥) → Within n down step at left → step ≤ at
safe_down n down step at zero e p q h = absurd (omega arith)
safe_down n down step at (suc zero) e p q h = absurd (q refl)
safe_down n down step at (suc (suc l)) e p q h = step_down n step at l (rw e at h)

pub safe_up : (n : ℕ) (down : Bool) (step at left : ℕ) → down ≡ false → 0 < left → (left - 1 ≡ 0 → ⊥) → Within n down step at left → at + step < n
safe_up n down step at zero e p q h = absurd (omega arith)
safe_up n down step at (suc zero) e p q h = absurd (q refl)
safe_up n down step at (suc (suc l)) e p q h = step_up n step at l (rw e at h)
