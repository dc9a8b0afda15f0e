-- Document 01's walk and the standard's loop take the same indices: upwards from any start, downwards from a start in the list, and on
-- an empty list. Assumes nothing.
use Rattle.std.specs.Prelude.{ℕ, zero, suc, ◌+◌, ◌-◌, ◌≤◌, ◌<◌, ◌≡◌, refl, List, [], ◌∷◌, ◌++◌, map, Bool, true, false, cond, ltb, ℤ, pos, negsuc, ◌-ℤ◌}
use Rattle.std.proofs.Common.{zero-le, sym, ap, ◌∙◌, arith, ltb-true, ltb-false, lt-ltb, le-ltb}
use Rattle.std.proofs.Math.IntN.{sub_ℕ}
use Rattle.std.specs.Int.Signed.{lt_z}
use Rattle.definition.specs.Slices.{add_once, element_at, clamp, goes_on, walk_places}
use Rattle.definition.specs.StandardSlices.{minimum, maximum, normalize, index_of, loop_up, loop_down}

-- "n added once" is Normalize
pub added_normalized : (n : ℕ) (z : ℤ) → add_once n z ≡ normalize z n
unfolding add_once normalize
added_normalized n (pos k) = refl
added_normalized n (negsuc k) = refl

-- a normalised bound brought into the list as the RFC does it, for step >= 0 and for step < 0
abbrev pub bound_up : ℕ → ℤ → ℤ
bound_up n z = minimum (maximum z (pos 0)) (pos n)

abbrev pub bound_down : ℕ → ℤ → ℤ
bound_down n z = minimum (maximum z (negsuc 0)) (pos n -ℤ pos 1)

-- a number brought into lo..hi is MIN(MAX(z, lo), hi), where lo is not above hi
pub clamp_minimum : (lo hi z : ℤ) → lt_z hi lo ≡ false → clamp lo hi z ≡ minimum (maximum z lo) hi
unfolding clamp minimum maximum
clamp_minimum lo hi z h = go (lt_z z lo)
  where
    go : (t : Bool) → cond t lo (cond (lt_z hi z) hi z) ≡ cond (lt_z hi (cond t lo z)) hi (cond t lo z)
    go true = rw h
    go false = refl

-- a place of lo..h is left as it is
clamp_kept : (lo : ℤ) (h m : ℕ) → lt_z (pos m) lo ≡ false → m ≤ h → clamp lo (pos h) (pos m) ≡ pos m
unfolding clamp
clamp_kept lo h m e g = rw (e, le-ltb h m g)

-- where a walk or a loop does not begin, it takes nothing
walk_none : (f n : ℕ) (i b s : ℤ) → goes_on s i b ≡ false → walk_places f n i b s ≡ []
unfolding walk_places
walk_none zero n i b s h = refl
walk_none (suc f) n i b s h = rw h

loop_none : (f : ℕ) (i b s : ℤ) → lt_z b i ≡ false → loop_down f i b s ≡ []
unfolding loop_down
loop_none zero i b s h = refl
loop_none (suc f) i b s h = rw h

-- ---- upwards

-- from a place up to a stop of at most n, every place is an element's
walk_loop_up : (f n i e k : ℕ) → e ≤ n → walk_places f n (pos i) (pos e) (pos (suc k)) ≡ map index_of (loop_up f (pos i) (pos e) (pos (suc k)))
unfolding walk_places goes_on element_at loop_up index_of
walk_loop_up zero n i e k h = refl
walk_loop_up (suc f) n i e k h = go (ltb i e) refl (walk_loop_up f n (i + suc k) e k h)
  where
    go : (t : Bool) → ltb i e ≡ t → walk_places f n (pos (i + suc k)) (pos e) (pos (suc k)) ≡ map index_of (loop_up f (pos (i + suc k)) (pos e) (pos (suc k))) → cond t (element_at n (pos i) ++ walk_places f n (pos (i + suc k)) (pos e) (pos (suc k))) [] ≡ map index_of (cond t (pos i ∷ loop_up f (pos (i + suc k)) (pos e) (pos (suc k))) [])
    go true g again = rw (lt-ltb i n (omega (arith, ltb-true i e g)), again)
    go false g again = refl

-- a number brought into 0..n is a place of 0..n
pub data Brought (n : ℕ) : ℤ → Type 0 where
  brought : (i : ℕ) → i ≤ n → Brought n (pos i)

pub brings : (n : ℕ) (z : ℤ) → Brought n (bound_up n z)
unfolding minimum maximum
brings n (negsuc k) = rw (le-ltb n 0 zero-le) (brought 0 zero-le)
brings n (pos k) = rw (le-ltb k 0 zero-le) (go (ltb n k) refl)
  where
    go : (t : Bool) → ltb n k ≡ t → Brought n (cond t (pos n) (pos k))
    go true e = brought n (omega arith)
    go false e = brought k (ltb-false n k e)

-- a stop below 0 is the stop 0 for a walk upwards, and any other is the same
stop_up : (f n i k : ℕ) (z : ℤ) → walk_places f n (pos i) (clamp (negsuc 0) (pos n) z) (pos (suc k)) ≡ walk_places f n (pos i) (bound_up n z) (pos (suc k))
unfolding clamp minimum maximum goes_on
stop_up f n i k (pos m) = rw (le-ltb m 0 zero-le)
stop_up f n i k (negsuc j) = rw (le-ltb n 0 zero-le) (go (ltb 0 j) ∙ sym (walk_none f n (pos i) (pos 0) (pos (suc k)) (le-ltb i 0 zero-le)))
  where
    go : (t : Bool) → walk_places f n (pos i) (cond t (negsuc 0) (negsuc j)) (pos (suc k)) ≡ []
    go true = walk_none f n (pos i) (negsuc 0) (pos (suc k)) refl
    go false = walk_none f n (pos i) (negsuc j) (pos (suc k)) refl

-- With a positive step the walk is the loop, whatever the bounds.
pub same_up : (f n k : ℕ) (y z : ℤ) → walk_places f n (clamp (pos 0) (pos n) y) (clamp (negsuc 0) (pos n) z) (pos (suc k)) ≡ map index_of (loop_up f (bound_up n y) (bound_up n z) (pos (suc k)))
same_up f n k y z = rw (clamp_minimum (pos 0) (pos n) y (le-ltb n 0 zero-le)) (from (bound_up n y) (brings n y))
  where
    to : (i : ℕ) (e : ℤ) → Brought n e → walk_places f n (pos i) e (pos (suc k)) ≡ map index_of (loop_up f (pos i) e (pos (suc k)))
    to i e (brought m h) = walk_loop_up f n i m k h

    from : (s : ℤ) → Brought n s → walk_places f n s (clamp (negsuc 0) (pos n) z) (pos (suc k)) ≡ map index_of (loop_up f s (bound_up n z) (pos (suc k)))
    from s (brought i h) = stop_up f n i k z ∙ to i (bound_up n z) (brings n z)

-- ---- downwards

-- a step down from at most n leads below n
pub steps_below : (n i k : ℕ) → i ≤ n → lt_z (sub_ℕ i (suc k)) (pos n) ≡ true
steps_below n i k h = go (ltb i (suc k)) refl
  where
    go : (t : Bool) → ltb i (suc k) ≡ t → lt_z (cond t (negsuc (suc k - suc i)) (pos (i - suc k))) (pos n) ≡ true
    go true e = refl
    go false e = lt-ltb (i - suc k) n (omega (arith, ltb-false i (suc k) e))

-- no number below 0 is above a stop of -1 or more
pub none_below : (b : ℤ) (j : ℕ) → lt_z b (negsuc 0) ≡ false → lt_z b (negsuc j) ≡ false
none_below (pos e) j h = refl
none_below (negsuc e) j h = le-ltb j e (omega (arith, ltb-false 0 e h))

-- from a place of the list down to a stop of at least -1, every place is an element's
walk_loop_down : (f n k : ℕ) (i b : ℤ) → lt_z i (pos n) ≡ true → lt_z b (negsuc 0) ≡ false → walk_places f n i b (negsuc k) ≡ map index_of (loop_down f i b (negsuc k))
unfolding walk_places goes_on element_at loop_down index_of
walk_loop_down zero n k i b g h = refl
walk_loop_down (suc f) n k (negsuc j) b g h = rw (none_below b j h)
walk_loop_down (suc f) n k (pos m) b g h =
    rw (g, walk_loop_down f n k (sub_ℕ m (suc k)) b (steps_below n m k (omega (arith, ltb-true m n g))) h) (go (lt_z b (pos m)) (loop_down f (sub_ℕ m (suc k)) b (negsuc k)))
  where
    go : (t : Bool) (r : List ℤ) → cond t (m ∷ map index_of r) [] ≡ map index_of (cond t (pos m ∷ r) [])
    go true r = refl
    go false r = refl

-- a number brought into -1..h is at least -1
pub at_least : (h : ℕ) (z : ℤ) → lt_z (clamp (negsuc 0) (pos h) z) (negsuc 0) ≡ false
unfolding clamp
at_least h (pos e) = go (ltb h e)
  where
    go : (t : Bool) → lt_z (cond t (pos h) (pos e)) (negsuc 0) ≡ false
    go true = refl
    go false = refl
at_least h (negsuc j) = go (ltb 0 j) refl
  where
    go : (t : Bool) → ltb 0 j ≡ t → lt_z (cond t (negsuc 0) (negsuc j)) (negsuc 0) ≡ false
    go true e = refl
    go false e = e

-- a stop of n is no other than the stop n - 1 for a walk downwards from n - 1 or less, for it takes nothing
stop_down : (f p m k : ℕ) (z : ℤ) → m ≤ p → walk_places f (suc p) (pos m) (clamp (negsuc 0) (pos (suc p)) z) (negsuc k) ≡ map index_of (loop_down f (pos m) (clamp (negsuc 0) (pos p) z) (negsuc k))
unfolding clamp goes_on
stop_down f p m k (negsuc j) h = walk_loop_down f (suc p) k (pos m) (clamp (negsuc 0) (pos p) (negsuc j)) (lt-ltb m (suc p) (omega arith)) (at_least p (negsuc j))
stop_down f p m k (pos e) h = go (ltb p e) refl
  where
    walked : (t : Bool) → p < e → walk_places f (suc p) (pos m) (cond t (pos (suc p)) (pos e)) (negsuc k) ≡ []
    walked true g = walk_none f (suc p) (pos m) (pos (suc p)) (negsuc k) (le-ltb (suc p) m (omega arith))
    walked false g = walk_none f (suc p) (pos m) (pos e) (negsuc k) (le-ltb e m (omega arith))

    go : (t : Bool) → ltb p e ≡ t → walk_places f (suc p) (pos m) (cond (ltb (suc p) e) (pos (suc p)) (pos e)) (negsuc k) ≡ map index_of (loop_down f (pos m) (cond t (pos p) (pos e)) (negsuc k))
    go true g = walked (ltb (suc p) e) (ltb-true p e g) ∙ sym (ap (map index_of) (loop_none f (pos m) (pos p) (negsuc k) (le-ltb p m h)))
    go false g = rw (le-ltb (suc p) e (omega (arith, ltb-false p e g))) (walk_loop_down f (suc p) k (pos m) (pos e) (lt-ltb m (suc p) (omega arith)) refl)

-- n - 1, where there is an element
pub last_place : (p : ℕ) → sub_ℕ (suc p) 1 ≡ pos p
last_place p = rw (le-ltb (suc p) 1 (omega arith)) (ap pos (omega arith))

-- With a negative step the walk from a place of the list is the loop, whatever the stop.
pub same_down : (f n m k : ℕ) (z : ℤ) → m < n → walk_places f n (clamp (pos 0) (pos n) (pos m)) (clamp (negsuc 0) (pos n) z) (negsuc k) ≡ map index_of (loop_down f (bound_down n (pos m)) (bound_down n z) (negsuc k))
same_down f zero m k z h = absurd (omega arith)
same_down f (suc p) m k z h =
    rw (last_place p, ← clamp_minimum (negsuc 0) (pos p) z refl, ← clamp_minimum (negsuc 0) (pos p) (pos m) refl, clamp_kept (pos 0) (suc p) m (le-ltb m 0 zero-le) (omega arith), clamp_kept (negsuc 0) p m refl (omega arith))
    (stop_down f p m k z (omega arith))

-- ---- no elements

-- every number brought into 0..0 is 0, and every number brought into -1..-1 is -1
zero_alone : (y : ℤ) → clamp (pos 0) (pos 0) y ≡ pos 0
unfolding clamp
zero_alone (negsuc j) = refl
zero_alone (pos m) = rw (le-ltb m 0 zero-le) (go (ltb 0 m) refl)
  where
    go : (t : Bool) → ltb 0 m ≡ t → cond t (pos 0) (pos m) ≡ pos 0
    go true e = refl
    go false e = ap pos (omega (arith, ltb-false 0 m e))

pub minus_one_alone : (z : ℤ) → minimum (maximum z (negsuc 0)) (negsuc 0) ≡ negsuc 0
unfolding minimum maximum
minus_one_alone (pos m) = refl
minus_one_alone (negsuc zero) = refl
minus_one_alone (negsuc (suc j)) = rw (lt-ltb 0 (suc j) (omega arith))

-- a walk downwards takes nothing from an empty list
empty_walk_lem : (k : ℕ) (b : ℤ) → walk_places 1 0 (pos 0) b (negsuc k) ≡ []
unfolding walk_places element_at goes_on
empty_walk_lem k b = go (lt_z b (pos 0))
  where
    go : (t : Bool) → ◌≡◌ {A = List ℕ} (cond t [] []) []
    go true = refl
    go false = refl

-- With a negative step neither the walk nor the loop takes anything from an empty list.
pub same_empty : (k : ℕ) (y z : ℤ) → walk_places 1 0 (clamp (pos 0) (pos 0) y) (clamp (negsuc 0) (pos 0) z) (negsuc k) ≡ map index_of (loop_down 1 (bound_down 0 y) (bound_down 0 z) (negsuc k))
unfolding loop_down
same_empty k y z = rw (zero_alone y, minus_one_alone y, minus_one_alone z) (empty_walk_lem k (clamp (negsuc 0) (pos 0) z))
