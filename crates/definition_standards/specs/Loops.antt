-- The RFC's loop over a list of n ends within n turns, and no i of it is below 0: the indices of StandardSlices are its own. Assumes nothing.
use Rattle.std.specs.Prelude.{ℕ, zero, suc, ◌+◌, ◌≤◌, ◌≡◌, refl, List, [], ◌∷◌, map, Bool, true, false, cond, ltb, ℤ, pos, negsuc}
use Rattle.std.proofs.Math.Option.{Option, none, some}
use Rattle.std.proofs.Common.{arith, ltb-true, ltb-false, lt-ltb, le-ltb}
use Rattle.std.proofs.Math.IntN.{sub_ℕ}
use Rattle.std.specs.Int.Signed.{lt_z}
use Rattle.definition.specs.Slices.{clamp}
use Rattle.definition.specs.StandardSlices.{given, start_of, end_of, normalize, bounds_of, loop_up, loop_down, rfc_loop, index_of, rfc_places}
use Rattle.definition_standards.specs.Walks.{bound_up, bound_down, clamp_minimum, Brought, brings, steps_below, none_below, at_least, minus_one_alone, last_place}
use Rattle.definition_standards.specs.Walks.Brought.{brought}

-- upwards from i to e, e - i turns are enough
turns_up : (f g i e k : ℕ) → e ≤ i + f → e ≤ i + g → loop_up f (pos i) (pos e) (pos (suc k)) ≡ map pos (map index_of (loop_up g (pos i) (pos e) (pos (suc k))))
unfolding loop_up index_of
turns_up zero zero i e k a b = refl
turns_up zero (suc g) i e k a b = rw (le-ltb i e (omega arith))
turns_up (suc f) zero i e k a b = rw (le-ltb i e (omega arith))
turns_up (suc f) (suc g) i e k a b = rw (turns_up f g (i + suc k) e k (omega arith) (omega arith)) (go (ltb i e) (loop_up g (pos (i + suc k)) (pos e) (pos (suc k))))
  where
    go : (t : Bool) (r : List ℤ) → cond t (pos i ∷ map pos (map index_of r)) [] ≡ map pos (map index_of (cond t (pos i ∷ r) []))
    go true r = refl
    go false r = refl

-- downwards from below f, f turns are enough, and no i is below 0
turns_down : (f g k : ℕ) (i b : ℤ) → lt_z i (pos f) ≡ true → lt_z i (pos g) ≡ true → lt_z b (negsuc 0) ≡ false → loop_down f i b (negsuc k) ≡ map pos (map index_of (loop_down g i b (negsuc k)))
unfolding loop_down index_of
turns_down zero zero k i b p q h = refl
turns_down zero (suc g) k (negsuc j) b p q h = rw (none_below b j h)
turns_down zero (suc g) k (pos m) b p q h = absurd (omega (arith, ltb-true m 0 p))
turns_down (suc f) zero k (negsuc j) b p q h = rw (none_below b j h)
turns_down (suc f) zero k (pos m) b p q h = absurd (omega (arith, ltb-true m 0 q))
turns_down (suc f) (suc g) k (negsuc j) b p q h = rw (none_below b j h)
turns_down (suc f) (suc g) k (pos m) b p q h =
    rw (turns_down f g k (sub_ℕ m (suc k)) b (steps_below f m k (omega (arith, ltb-true m (suc f) p))) (steps_below g m k (omega (arith, ltb-true m (suc g) q))) h)
    (go (lt_z b (pos m)) (loop_down g (sub_ℕ m (suc k)) b (negsuc k)))
  where
    go : (t : Bool) (r : List ℤ) → cond t (pos m ∷ map pos (map index_of r)) [] ≡ map pos (map index_of (cond t (pos m ∷ r) []))
    go true r = refl
    go false r = refl

-- ---- the loop of a slice

-- with a positive step the bounds lie in 0..n
loop_up_lem : (f n k : ℕ) (y z : ℤ) → n ≤ f → loop_up f (bound_up n y) (bound_up n z) (pos (suc k)) ≡ map pos (map index_of (loop_up (suc n) (bound_up n y) (bound_up n z) (pos (suc k))))
loop_up_lem f n k y z h = go (bound_up n y) (bound_up n z) (brings n y) (brings n z)
  where
    go : (i e : ℤ) → Brought n i → Brought n e → loop_up f i e (pos (suc k)) ≡ map pos (map index_of (loop_up (suc n) i e (pos (suc k))))
    go i e (brought i' a) (brought e' b) = turns_up f (suc n) i' e' k (omega arith) (omega arith)

-- with a negative step they lie in -1..n-1
clamp_below : (f p : ℕ) (z : ℤ) → suc p ≤ f → lt_z (clamp (negsuc 0) (pos p) z) (pos f) ≡ true
unfolding clamp
clamp_below f p (pos e) h = go (ltb p e) refl
  where
    go : (t : Bool) → ltb p e ≡ t → lt_z (cond t (pos p) (pos e)) (pos f) ≡ true
    go true g = lt-ltb p f h
    go false g = lt-ltb e f (omega (arith, ltb-false p e g))
clamp_below f p (negsuc j) h = go (ltb 0 j)
  where
    go : (t : Bool) → lt_z (cond t (negsuc 0) (negsuc j)) (pos f) ≡ true
    go true = refl
    go false = refl

bound_below : (f n : ℕ) (z : ℤ) → n ≤ f → lt_z (bound_down n z) (pos f) ≡ true
bound_below f zero z h = rw (minus_one_alone z)
bound_below f (suc p) z h = rw (last_place p, ← clamp_minimum (negsuc 0) (pos p) z refl) (clamp_below f p z h)

bound_least : (n : ℕ) (z : ℤ) → lt_z (bound_down n z) (negsuc 0) ≡ false
bound_least zero z = rw (minus_one_alone z)
bound_least (suc p) z = rw (last_place p, ← clamp_minimum (negsuc 0) (pos p) z refl) (at_least p z)

-- However many turns the RFC's loop over a list of n is given, n at least, its i's are the indices of rfcPlaces, in their order.
pub rfc_loop_ends : (f n : ℕ) (a b c : Option ℤ) → n ≤ f → rfc_loop f n a b c ≡ map pos (rfc_places n a b c)
unfolding rfc_loop rfc_places bounds_of given
rfc_loop_ends f n a b none h = loop_up_lem f n 0 (normalize (start_of n a (pos 1)) n) (normalize (end_of n b (pos 1)) n) h
rfc_loop_ends f n a b (some (pos zero)) h = refl
rfc_loop_ends f n a b (some (pos (suc k))) h =
    rw (lt-ltb 0 (suc k) (omega arith)) (loop_up_lem f n k (normalize (start_of n a (pos (suc k))) n) (normalize (end_of n b (pos (suc k))) n) h)
rfc_loop_ends f n a b (some (negsuc k)) h =
    let start = normalize (start_of n a (negsuc k)) n in
    let end = normalize (end_of n b (negsuc k)) n in
    turns_down f (suc n) k (bound_down n start) (bound_down n end) (bound_below f n start h) (bound_below (suc n) n start (omega arith)) (bound_least n end)
