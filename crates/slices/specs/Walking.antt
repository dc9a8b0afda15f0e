-- Document 01's walk, over signed numbers, is so many places, a step apart. Assumes nothing.
use Rattle.std.specs.Prelude.{ℕ, zero, suc, ◌+◌, ◌-◌, ◌*◌, ◌≤◌, ◌<◌, ◌≡◌, refl, List, [], ◌∷◌, ◌++◌, Bool, true, false, cond, leb, ltb, ℤ, pos, negsuc}
use Rattle.std.proofs.Common.{zero-le, sym, ap, suc-mul, mul-suc, arith, ltb-true, ltb-false, lt-ltb, le-ltb, leb-true, leb-false}
use Rattle.std.proofs.Math.IntN.{sub_ℕ}
use Rattle.std.specs.Int.Signed.{lt_z}
use Rattle.definition.specs.Slices.{walk_places, goes_on, element_at}
use Rattle.slices.specs.Walks.{places_from, moved, Turns}

-- ---- differences

-- a - b by cases: it is below 0 or not
pub data Difference (a b : ℕ) : ℤ → Type 0 where
  under : a < b → Difference a b (negsuc (b - suc a))
  over : b ≤ a → Difference a b (pos (a - b))

pub difference : (a b : ℕ) → Difference a b (sub_ℕ a b)
difference a b = go (ltb a b) refl
  where
    go : (t : Bool) → ltb a b ≡ t → Difference a b (cond t (negsuc (b - suc a)) (pos (a - b)))
    go true e = under (ltb-true a b e)
    go false e = over (ltb-false a b e)

-- ---- how many places are left

-- A step further at the lower end, one place is fewer.
pub turns_up : (from to step l : ℕ) → Turns (from + 1) to step (suc l) → Turns (from + step + 1) to step l
turns_up from to step l t =
    record {
      enough = omega (arith, t.enough, suc-mul l step);
      needed = λ m e. omega (arith, t.needed (suc m) (ap suc e), suc-mul m step);
    }

-- A step further at the upper end, one place is fewer.
pub turns_down : (from to step l : ℕ) → step ≤ to → Turns from (to + 1) step (suc l) → Turns from (to - step + 1) step l
turns_down from to step l h t =
    record {
      enough = omega (arith, t.enough, suc-mul l step);
      needed = λ m e. omega (arith, t.needed (suc m) (ap suc e), suc-mul m step);
    }

-- no more places than numbers
pub turns_few : (from to k l : ℕ) → Turns from to (suc k) l → l ≤ to
turns_few from to k zero t = zero-le
turns_few from to k (suc l) t = omega (arith, t.needed l refl, mul-suc l k)

-- where the first step leads below 0, there is one place at most
pub one_turn : (i l step : ℕ) → l * step ≤ i → i < step → l ≡ 0
one_turn i zero step a b = refl
one_turn i (suc l) step a b = omega (arith, suc-mul l step)

-- ---- the stop is one less than the place e

pub stop_behind : (m : ℕ) → sub_ℕ (suc m) 1 ≡ pos m
stop_behind m = by (sub_ℕ (suc m) 1) (difference (suc m) 1)
  where
    by : (z : ℤ) → Difference (suc m) 1 z → z ≡ pos m
    by z (under h) = absurd (omega arith)
    by z (over h) = ap pos (omega arith)

-- a place is above the stop, or not
above : (e i : ℕ) → e ≤ i → lt_z (sub_ℕ e 1) (pos i) ≡ true
above zero i h = refl
above (suc m) i h = rw (stop_behind m) (lt-ltb m i h)

not_above : (e i : ℕ) → i < e → lt_z (sub_ℕ e 1) (pos i) ≡ false
not_above zero i h = absurd (omega arith)
not_above (suc m) i h = rw (stop_behind m) (le-ltb m i (omega arith))

-- no number below 0 is above the stop
below_all : (e j : ℕ) → lt_z (sub_ℕ e 1) (negsuc j) ≡ false
below_all zero j = le-ltb j 0 zero-le
below_all (suc m) j = rw (stop_behind m)

-- a place is below the stop, or not
before : (e i : ℕ) → i + 1 < e → lt_z (pos i) (sub_ℕ e 1) ≡ true
before zero i h = absurd (omega arith)
before (suc m) i h = rw (stop_behind m) (lt-ltb i m (omega arith))

not_before : (e i : ℕ) → e ≤ i + 1 → lt_z (pos i) (sub_ℕ e 1) ≡ false
not_before zero i h = refl
not_before (suc m) i h = rw (stop_behind m) (le-ltb i m (omega arith))

-- ---- upwards

pub up : (f n i e k l : ℕ) → e ≤ suc n → l ≤ f → Turns (i + 1) e (suc k) l → walk_places f n (pos i) (sub_ℕ e 1) (pos (suc k)) ≡ places_from false (suc k) i l
unfolding walk_places goes_on element_at places_from moved
up zero n i e k zero a h t = refl
up zero n i e k (suc l) a h t = absurd (omega arith)
up (suc f) n i e k zero a h t = rw (not_before e i (omega (arith, t.enough)))
up (suc f) n i e k (suc l) a h t =
    let g = t.needed l refl in
    rw (before e i (omega arith), lt-ltb i n (omega arith), up f n (i + suc k) e k l a (omega arith) (turns_up i e (suc k) l t))

-- ---- downwards

-- below 0 the walk is over
over_below : (f n e k j : ℕ) → walk_places f n (negsuc j) (sub_ℕ e 1) (negsuc k) ≡ []
unfolding walk_places goes_on
over_below zero n e k j = refl
over_below (suc f) n e k j = rw (below_all e j)

-- The walk from a step below i, which may be below 0: where that is no place, none is left.
down_on : (f n i e k l : ℕ) (z : ℤ) → Difference i (suc k) z → l * suc k ≤ i → (suc k ≤ i → walk_places f n (pos (i - suc k)) (sub_ℕ e 1) (negsuc k) ≡ places_from true (suc k) (i - suc k) l) → walk_places f n z (sub_ℕ e 1) (negsuc k) ≡ places_from true (suc k) (i - suc k) l
unfolding places_from
down_on f n i e k l z (under g) h again = rw (one_turn i l (suc k) h g) (over_below f n e k (suc k - suc i))
down_on f n i e k l z (over g) h again = again g

pub down : (f n i e k l : ℕ) → i < n → l ≤ f → Turns e (i + 1) (suc k) l → walk_places f n (pos i) (sub_ℕ e 1) (negsuc k) ≡ places_from true (suc k) i l
unfolding walk_places goes_on element_at places_from moved
down zero n i e k zero a h t = refl
down zero n i e k (suc l) a h t = absurd (omega arith)
down (suc f) n i e k zero a h t = rw (not_above e i (omega (arith, t.enough)))
down (suc f) n i e k (suc l) a h t =
    let g = t.needed l refl in
    rw (above e i (omega arith), lt-ltb i n a)
    (ap (λ (r : List ℕ). i ∷ r) (down_on f n i e k l (sub_ℕ i (suc k)) (difference i (suc k)) (omega arith)
    (λ b. down f n (i - suc k) e k l (omega arith) (omega arith) (turns_down e i (suc k) l b t))))

-- from a place n, which selects nothing, the walk goes on a step below it
pub from_end : (n e k l : ℕ) → suc k ≤ n → Turns e (n - suc k + 1) (suc k) l → walk_places (suc n) n (pos n) (sub_ℕ e 1) (negsuc k) ≡ places_from true (suc k) (n - suc k) l
unfolding walk_places goes_on element_at places_from
from_end n e k l a t = go (leb e n) refl
  where
    none_left : (l : ℕ) → n < e → Turns e (n - suc k + 1) (suc k) l → places_from true (suc k) (n - suc k) l ≡ []
    none_left zero h t = refl
    none_left (suc l) h t = absurd (omega (arith, t.needed l refl))

    below : (z : ℤ) → Difference n (suc k) z → walk_places n n z (sub_ℕ e 1) (negsuc k) ≡ places_from true (suc k) (n - suc k) l
    below z (under h) = absurd (omega arith)
    below z (over h) = down n n (n - suc k) e k l (omega arith) (omega (arith, turns_few e (n - suc k + 1) k l t)) t

    go : (b : Bool) → leb e n ≡ b → walk_places (suc n) n (pos n) (sub_ℕ e 1) (negsuc k) ≡ places_from true (suc k) (n - suc k) l
    go true h = rw (above e n (leb-true e n h), le-ltb n n (omega arith)) (below (sub_ℕ n (suc k)) (difference n (suc k)))
    go false h = rw (not_above e n (leb-false e n h)) (sym (none_left l (leb-false e n h) t))

-- where even a step below n is below 0, nothing is selected
pub from_end_none : (n e k : ℕ) → n < suc k → walk_places (suc n) n (pos n) (sub_ℕ e 1) (negsuc k) ≡ []
unfolding walk_places goes_on element_at
from_end_none n e k a = go (lt_z (sub_ℕ e 1) (pos n))
  where
    below : (z : ℤ) → Difference n (suc k) z → walk_places n n z (sub_ℕ e 1) (negsuc k) ≡ []
    below z (under h) = over_below n n e k (suc k - suc n)
    below z (over h) = absurd (omega arith)

    go : (b : Bool) → cond b (element_at n (pos n) ++ walk_places n n (sub_ℕ n (suc k)) (sub_ℕ e 1) (negsuc k)) [] ≡ []
    go true = rw (le-ltb n n (omega arith)) (below (sub_ℕ n (suc k)) (difference n (suc k)))
    go false = refl
