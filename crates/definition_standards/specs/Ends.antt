-- Document 01's walk over a list of n ends within n + 1 places: the bound on its steps in Slices cuts nothing off. Assumes nothing.
use Rattle.std.specs.Prelude.{ℕ, zero, suc, ◌+◌, ◌≤◌, ◌≡◌, refl, List, [], ◌++◌, Bool, true, false, cond, ltb, ℤ, pos, negsuc}
use Rattle.std.proofs.Common.{zero-le, ap, arith, ltb-true, ltb-false, lt-ltb, le-ltb}
use Rattle.std.proofs.Math.Option.{Option}
use Rattle.std.proofs.Math.IntN.{sub_ℕ}
use Rattle.std.specs.Int.Signed.{lt_z}
use Rattle.definition.specs.Slices.{add_once, clamp, element_at, slice_step, given_start, given_stop, slice_start, slice_stop, goes_on, walk_places, slice_places}
use Rattle.definition_standards.specs.Walks.{steps_below, none_below, at_least}

-- ---- upwards

-- a place of n or more is not below a stop of at most n
stop_passed : (n i : ℕ) (b : ℤ) → n ≤ i → lt_z (pos n) b ≡ false → lt_z (pos i) b ≡ false
stop_passed n i (pos e) h k = le-ltb i e (omega (arith, ltb-false n e k))
stop_passed n i (negsuc e) h k = refl

-- from i, n - i steps are enough, and more add nothing
ends_up : (f g n i k : ℕ) (b : ℤ) → lt_z (pos n) b ≡ false → n ≤ i + f → n ≤ i + g → walk_places f n (pos i) b (pos (suc k)) ≡ walk_places g n (pos i) b (pos (suc k))
unfolding walk_places goes_on
ends_up zero zero n i k b h x y = refl
ends_up zero (suc g) n i k b h x y = rw (stop_passed n i b (omega arith) h) refl
ends_up (suc f) zero n i k b h x y = rw (stop_passed n i b (omega arith) h) refl
ends_up (suc f) (suc g) n i k b h x y = ap (λ (r : List ℕ). cond (lt_z (pos i) b) (element_at n (pos i) ++ r) []) (ends_up f g n (i + suc k) k b h (omega arith) (omega arith))

-- ---- downwards

-- from below f to a stop of -1 or more, f steps are enough, and more add nothing
ends_down : (f g n k : ℕ) (i b : ℤ) → lt_z i (pos f) ≡ true → lt_z i (pos g) ≡ true → lt_z b (negsuc 0) ≡ false → walk_places f n i b (negsuc k) ≡ walk_places g n i b (negsuc k)
unfolding walk_places goes_on
ends_down zero zero n k i b p q h = refl
ends_down zero (suc g) n k (negsuc j) b p q h = rw (none_below b j h) refl
ends_down zero (suc g) n k (pos m) b p q h = absurd (omega (arith, ltb-true m 0 p))
ends_down (suc f) zero n k (negsuc j) b p q h = rw (none_below b j h) refl
ends_down (suc f) zero n k (pos m) b p q h = absurd (omega (arith, ltb-true m 0 q))
ends_down (suc f) (suc g) n k (negsuc j) b p q h = rw (none_below b j h) refl
ends_down (suc f) (suc g) n k (pos m) b p q h =
    ap (λ (r : List ℕ). cond (lt_z b (pos m)) (element_at n (pos m) ++ r) [])
    (ends_down f g n k (sub_ℕ m (suc k)) b (steps_below f m k (omega (arith, ltb-true m (suc f) p))) (steps_below g m k (omega (arith, ltb-true m (suc g) q))) h)

-- ---- where a slice's walk begins and stops

-- a number brought into lo..n is at most n
at_most : (n : ℕ) (lo z : ℤ) → lt_z (pos n) lo ≡ false → lt_z (pos n) (clamp lo (pos n) z) ≡ false
unfolding clamp
at_most n lo z h = by (lt_z z lo)
  where
    inner : (t : Bool) → lt_z (pos n) z ≡ t → lt_z (pos n) (cond t (pos n) z) ≡ false
    inner true e = le-ltb n n (omega arith)
    inner false e = e

    by : (t : Bool) → lt_z (pos n) (cond t lo (cond (lt_z (pos n) z) (pos n) z)) ≡ false
    by true = h
    by false = inner (lt_z (pos n) z) refl

-- so it is below every number above n
below_more : (f n : ℕ) (z : ℤ) → suc n ≤ f → lt_z (pos n) z ≡ false → lt_z z (pos f) ≡ true
below_more f n (pos e) h g = lt-ltb e f (omega (arith, ltb-false n e g))
below_more f n (negsuc e) h g = refl

-- a number brought into 0..n is not below 0
data Place : ℤ → Type 0 where
  place : (i : ℕ) → Place (pos i)

brought_up : (n : ℕ) (z : ℤ) → Place (clamp (pos 0) (pos n) z)
unfolding clamp
brought_up n (negsuc k) = place 0
brought_up n (pos k) = rw (le-ltb k 0 zero-le) (by (ltb n k))
  where
    by : (t : Bool) → Place (cond t (pos n) (pos k))
    by true = place n
    by false = place k

-- a step of 0 walks nowhere
halts : (f n : ℕ) (i b : ℤ) → walk_places f n i b (pos zero) ≡ []
unfolding walk_places goes_on
halts zero n i b = refl
halts (suc f) n i b = refl

-- ---- the walk

-- However many steps are allowed, n + 1 at least, the walk of a slice is the slice's.
pub slice_walk_ends : (f n : ℕ) (a b c : Option ℤ) → suc n ≤ f → walk_places f n (slice_start n a (slice_step c)) (slice_stop n b (slice_step c)) (slice_step c) ≡ slice_places n a b c
unfolding slice_places slice_start slice_stop
slice_walk_ends f n a b c h = by (slice_step c) (add_once n (given_start n a (slice_step c))) (add_once n (given_stop n b (slice_step c)))
  where
    up : (k : ℕ) (y z : ℤ) → Place y → lt_z (pos n) z ≡ false → walk_places f n y z (pos (suc k)) ≡ walk_places (suc n) n y z (pos (suc k))
    up k y z (place i) g = ends_up f (suc n) n i k z g (omega arith) (omega arith)

    by : (s y z : ℤ) → walk_places f n (clamp (pos 0) (pos n) y) (clamp (negsuc 0) (pos n) z) s ≡ walk_places (suc n) n (clamp (pos 0) (pos n) y) (clamp (negsuc 0) (pos n) z) s
    by (pos zero) y z = rw (halts f n (clamp (pos 0) (pos n) y) (clamp (negsuc 0) (pos n) z), halts (suc n) n (clamp (pos 0) (pos n) y) (clamp (negsuc 0) (pos n) z)) refl
    by (pos (suc k)) y z = up k (clamp (pos 0) (pos n) y) (clamp (negsuc 0) (pos n) z) (brought_up n y) (at_most n (negsuc 0) z refl)
    by (negsuc k) y z =
        let i = clamp (pos 0) (pos n) y in
        let l = at_most n (pos 0) y (le-ltb n 0 zero-le) in
        ends_down f (suc n) n k i (clamp (negsuc 0) (pos n) z) (below_more f n i h l) (below_more (suc n) n i (omega arith) l) (at_least n z)
