-- Document 01's selections at the numbers where a slip would show: -(2^53-1), -n-1, -1, 0 and n, for indices, starts, stops and steps.
-- Assumes nothing.
use Prim.Native.Nat.{ℕ, zero, suc, ◌+◌, ◌-◌, ◌≤◌, ◌<◌, zero-le}
use Rattle.std.specs.Prelude.{◌≡◌, refl, List, [], ◌∷◌, ◌++◌, Bool, true, false, cond, ◌&&◌, ltb, ℤ, pos, negsuc, neg_ℤ, ◌+ℤ◌}
use Rattle.std.proofs.Common.{ap, arith, ltb-true, lt-ltb, le-ltb}
use Rattle.std.proofs.Math.Option.{Option, none, some}
use Rattle.std.proofs.Math.IntN.{sub_ℕ}
use Rattle.definition.specs.Bytes.{every}
use Rattle.definition.specs.Limits.{max_int, max_nodes}
use Rattle.definition.specs.Slices.{add_once, element_at, index_places, clamp, slice_step, given_start, given_stop, slice_start, slice_stop, goes_on, walk_places, slice_places}
use Rattle.slices.specs.Walks.{places_from, Turns}
use Rattle.slices.specs.Walking.{Difference, difference, stop_behind, up, down}
use Rattle.slices.specs.Walking.Difference.{under, over}

-- ---- every slice

-- whether a place lies in a list of n
abbrev pub below : ℕ → ℕ → Bool
below n k = ltb k n

-- the element at a place lies in the list
element_below : (n : ℕ) (i : ℤ) (r : List ℕ) → every (below n) r ≡ true → every (below n) (element_at n i ++ r) ≡ true
unfolding element_at
element_below n (pos k) r h = go (ltb k n) refl
  where
    go : (t : Bool) → ltb k n ≡ t → every (below n) (cond t (k ∷ []) [] ++ r) ≡ true
    go true e = rw (e, h)
    go false e = h
element_below n (negsuc k) r h = h

-- all elements on a walk lie in the list
walk_below : (f n : ℕ) (i b s : ℤ) → every (below n) (walk_places f n i b s) ≡ true
unfolding walk_places
walk_below zero n i b s = refl
walk_below (suc f) n i b s = go (goes_on s i b) (element_below n i (walk_places f n (i +ℤ s) b s) (walk_below f n (i +ℤ s) b s))
  where
    go : (t : Bool) → every (below n) (element_at n i ++ walk_places f n (i +ℤ s) b s) ≡ true → every (below n) (cond t (element_at n i ++ walk_places f n (i +ℤ s) b s) []) ≡ true
    go true h = h
    go false h = refl

-- A slice selects only indices below n.
pub slice_below : (n : ℕ) (a b c : Option ℤ) → every (below n) (slice_places n a b c) ≡ true
unfolding slice_places
slice_below n a b c = walk_below (suc n) n (slice_start n a (slice_step c)) (slice_stop n b (slice_step c)) (slice_step c)

-- An index selects only an index below n.
pub index_below : (n : ℕ) (i : ℤ) (k : ℕ) → index_places n i ≡ k ∷ [] → k < n
unfolding index_places
index_below n i k e = ltb-true k n (all (ltb k n) (rw e at (element_below n (add_once n i) [] refl)))
  where
    all : (t : Bool) → t && true ≡ true → t ≡ true
    all true h = refl
    all false h = h

-- ---- n added once

-- a number below -n stays negative; any other negative number becomes a place
under_added : (n k : ℕ) → n ≤ k → add_once n (negsuc k) ≡ negsuc (k - n)
unfolding add_once
under_added n k h = go (sub_ℕ n (suc k)) (difference n (suc k))
  where
    go : (z : ℤ) → Difference n (suc k) z → z ≡ negsuc (k - n)
    go z (under g) = ap negsuc (omega arith)
    go z (over g) = absurd (omega arith)

over_added : (n k : ℕ) → k < n → add_once n (negsuc k) ≡ pos (n - suc k)
unfolding add_once
over_added n k h = go (sub_ℕ n (suc k)) (difference n (suc k))
  where
    go : (z : ℤ) → Difference n (suc k) z → z ≡ pos (n - suc k)
    go z (under g) = absurd (omega arith)
    go z (over g) = refl

-- the least bound that is in range, -(2^53-1)
abbrev pub lowest : ℤ
lowest = neg_ℤ (pos max_int)

-- ---- indices. `negsuc k` is -k-1, so that `negsuc n` is -n-1

-- Every index below -n selects nothing, as -n-1 and -(2^53-1) do.
pub index_under : (n k : ℕ) → n ≤ k → index_places n (negsuc k) ≡ []
unfolding index_places element_at
index_under n k h = rw (under_added n k h)

pub index_lowest : (n : ℕ) → n ≤ max_nodes → index_places n lowest ≡ []
index_lowest n h = index_under n 9007199254740990 (omega arith)

-- -1 is the last element, where there is one.
pub index_last : (n : ℕ) → index_places (suc n) (negsuc 0) ≡ n ∷ []
unfolding index_places element_at
index_last n = rw (over_added (suc n) 0 (omega arith), last) (rw (lt-ltb n (suc n) (omega arith)))
  where
    last : suc n - 1 ≡ n
    last = omega arith

pub index_last_none : index_places 0 (negsuc 0) ≡ []
unfolding index_places element_at add_once
index_last_none = refl

-- 0 is the first element, where there is one.
pub index_first : (n : ℕ) → index_places (suc n) (pos 0) ≡ 0 ∷ []
unfolding index_places element_at add_once
index_first n = rw (lt-ltb 0 (suc n) (omega arith))

pub index_first_none : index_places 0 (pos 0) ≡ []
unfolding index_places element_at add_once
index_first_none = refl

-- n selects nothing.
pub index_end : (n : ℕ) → index_places n (pos n) ≡ []
unfolding index_places element_at add_once
index_end n = rw (le-ltb n n (omega arith))

-- ---- starts, at any step

-- a place of 0..n is left as it is
start_at : (n k : ℕ) → k ≤ n → clamp (pos 0) (pos n) (pos k) ≡ pos k
unfolding clamp
start_at n k h = rw (le-ltb k 0 zero-le, le-ltb n k h)

module _ (n : ℕ) (s : ℤ) where
  -- Every start below -n is 0, as -n-1 and -(2^53-1) are.
  pub start_under : (k : ℕ) → n ≤ k → slice_start n (some (negsuc k)) s ≡ pos 0
  unfolding slice_start given_start clamp
  start_under k h = rw (under_added n k h)

  pub start_lowest : n ≤ max_nodes → slice_start n (some lowest) s ≡ pos 0
  start_lowest h = start_under 9007199254740990 (omega arith)

  -- -1 is n-1, where there is an element, and 0 is 0, and n is n.
  pub start_minus_one : 0 < n → slice_start n (some (negsuc 0)) s ≡ pos (n - 1)
  unfolding slice_start given_start
  start_minus_one h = rw (over_added n 0 h) (start_at n (n - 1) (omega arith))

  pub start_zero : slice_start n (some (pos 0)) s ≡ pos 0
  unfolding slice_start given_start add_once
  start_zero = start_at n 0 zero-le

  pub start_end : slice_start n (some (pos n)) s ≡ pos n
  unfolding slice_start given_start add_once
  start_end = start_at n n (omega arith)

-- ---- stops, at any step

-- what is below 0 is brought to -1, and a place of 0..n is left as it is
stop_negative : (n j : ℕ) → clamp (negsuc 0) (pos n) (negsuc j) ≡ negsuc 0
unfolding clamp
stop_negative n zero = refl
stop_negative n (suc j) = rw (lt-ltb 0 (suc j) (omega arith))

stop_at : (n k : ℕ) → k ≤ n → clamp (negsuc 0) (pos n) (pos k) ≡ pos k
unfolding clamp
stop_at n k h = rw (le-ltb n k h)

module _ (n : ℕ) (s : ℤ) where
  -- Every stop below -n is -1, as -n-1 and -(2^53-1) are.
  pub stop_under : (k : ℕ) → n ≤ k → slice_stop n (some (negsuc k)) s ≡ negsuc 0
  unfolding slice_stop given_stop
  stop_under k h = rw (under_added n k h) (stop_negative n (k - n))

  pub stop_lowest : n ≤ max_nodes → slice_stop n (some lowest) s ≡ negsuc 0
  stop_lowest h = stop_under 9007199254740990 (omega arith)

  -- -1 is n-1, where there is an element, and 0 is 0, and n is n.
  pub stop_minus_one : 0 < n → slice_stop n (some (negsuc 0)) s ≡ pos (n - 1)
  unfolding slice_stop given_stop
  stop_minus_one h = rw (over_added n 0 h) (stop_at n (n - 1) (omega arith))

  pub stop_zero : slice_stop n (some (pos 0)) s ≡ pos 0
  unfolding slice_stop given_stop add_once
  stop_zero = stop_at n 0 zero-le

  pub stop_end : slice_stop n (some (pos n)) s ≡ pos n
  unfolding slice_stop given_stop add_once
  stop_end = stop_at n n (omega arith)

-- ---- steps

-- A step of 0 selects nothing.
pub step_zero : (n : ℕ) (a b : Option ℤ) → slice_places n a b (some (pos 0)) ≡ []
unfolding slice_places slice_step walk_places goes_on
step_zero n a b = refl

-- a number that is not negative is left as it is
place_kept : (n k : ℕ) → add_once n (pos k) ≡ pos k
unfolding add_once
place_kept n k = refl

-- With no bounds given, a step up starts at 0, and a step down at n-1, and they go over the whole list.
whole_up : (n k l : ℕ) → l ≤ suc n → Turns (0 + 1) (suc n) (suc k) l → slice_places n none none (some (pos (suc k))) ≡ places_from false (suc k) 0 l
unfolding slice_places slice_step slice_start slice_stop given_start given_stop add_once
whole_up n k l h t = rw (start_at n 0 zero-le, stop_at n n (omega arith), ← stop_behind n) (up (suc n) n 0 (suc n) k l (omega arith) h t)

whole_down : (n k l : ℕ) → l ≤ suc n → Turns 0 (n + 1) (suc k) l → slice_places (suc n) none none (some (negsuc k)) ≡ places_from true (suc k) n l
unfolding slice_places slice_step slice_start slice_stop given_start given_stop
whole_down n k l h t =
    rw (stop_behind n, place_kept (suc n) n, start_at (suc n) n (omega arith), under_added (suc n) (suc (n + 0)) (omega arith), stop_negative (suc n) (suc (n + 0) - suc n))
    (down (suc (suc n)) (suc n) n 0 k l (omega arith) (omega arith) t)

-- No bounds and no step: every element, in order.
pub slice_whole : (n : ℕ) → slice_places n none none none ≡ places_from false 1 0 n
unfolding slice_places slice_step
slice_whole n = whole_up n 0 n (omega arith) (record { enough = omega arith; needed = λ m e. omega arith })

-- A step of -1: every element, in the order from the last.
pub slice_reversed : (n : ℕ) → slice_places (suc n) none none (some (negsuc 0)) ≡ places_from true 1 n (suc n)
slice_reversed n = whole_down n 0 (suc n) (omega arith) (record { enough = omega arith; needed = λ m e. omega arith })

pub slice_reversed_none : slice_places 0 none none (some (negsuc 0)) ≡ []
unfolding slice_places slice_step slice_start slice_stop given_start given_stop add_once clamp walk_places goes_on element_at
slice_reversed_none = refl

-- one place, where a step leads out of the list
one_place : (from to k : ℕ) → from < to → to ≤ from + suc k → Turns from to (suc k) 1
one_place from to k g h = record { enough = omega arith; needed = λ m e. rw (zeroth m e) (omega arith) }
  where
    zeroth : (m : ℕ) → 1 ≡ suc m → m ≡ 0
    zeroth m e = omega arith

-- A step of -n-1, n elements, or any below it, as -(2^53-1): the last element alone.
pub step_under : (n k : ℕ) → n ≤ k → slice_places (suc n) none none (some (negsuc k)) ≡ n ∷ []
unfolding places_from
step_under n k h = whole_down n k 1 (omega arith) (one_place 0 (n + 1) k (omega arith) (omega arith))

pub step_lowest : (n : ℕ) → suc n ≤ max_nodes → slice_places (suc n) none none (some lowest) ≡ n ∷ []
step_lowest n h = step_under n 9007199254740990 (omega arith)

-- A step of n, n elements, or more: the first element alone.
pub step_end : (n k : ℕ) → n ≤ k → slice_places (suc n) none none (some (pos (suc k))) ≡ 0 ∷ []
unfolding places_from
step_end n k h = whole_up (suc n) k 1 (omega arith) (one_place 1 (suc (suc n)) k (omega arith) (omega arith))
