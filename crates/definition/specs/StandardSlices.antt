-- Which indices the standard's slice selects from an array of a length, in its order: RFC 9535, section 2.3.4.2.2, said as it says it.
-- Nothing here is taken from this engine's slice, which is in Slices.
use Rattle.std.specs.Prelude.{ℕ, zero, suc, ◌≡◌, refl, List, [], ◌∷◌, map, cond, ℤ, pos, negsuc, neg_ℤ, ◌+ℤ◌, ◌-ℤ◌}
use Rattle.std.proofs.Math.Option.{Option, none, some}
use Rattle.std.specs.Int.Signed.{lt_z, non_neg}

-- "MIN" and "MAX"
unfoldable pub minimum : ℤ → ℤ → ℤ
minimum x y = cond (lt_z y x) y x

unfoldable pub maximum : ℤ → ℤ → ℤ
maximum x y = cond (lt_z x y) y x

-- a parameter of a slice, or its default where it is not given
unfoldable pub given : Option ℤ → ℤ → ℤ
given none z = z
given (some y) z = y

-- the default of step is 1
abbrev pub step_of : Option ℤ → ℤ
step_of c = given c (pos 1)

-- the default of start is 0 for step >= 0, and len - 1 for step < 0
abbrev pub start_of : ℕ → Option ℤ → ℤ → ℤ
start_of len a step = given a (cond (non_neg step) (pos 0) (pos len -ℤ pos 1))

-- the default of end is len for step >= 0, and -len - 1 for step < 0
abbrev pub end_of : ℕ → Option ℤ → ℤ → ℤ
end_of len b step = given b (cond (non_neg step) (pos len) (neg_ℤ (pos len) -ℤ pos 1))

-- "FUNCTION Normalize(i, len): IF i >= 0 THEN RETURN i ELSE RETURN len + i"
unfoldable pub normalize : ℤ → ℕ → ℤ
normalize i len = cond (non_neg i) i (pos len +ℤ i)

-- "n_start = Normalize(start, len)", of a slice with the start a and the step c
abbrev pub normal_start : ℕ → Option ℤ → Option ℤ → ℤ
normal_start len a c = normalize (start_of len a (step_of c)) len

-- "RETURN (lower, upper)"
pub record Bounds : Type 0 where
  pub lower : ℤ
  pub upper : ℤ

-- "FUNCTION Bounds(start, end, step, len): n_start = Normalize(start, len), n_end = Normalize(end, len)
-- IF step >= 0 THEN lower = MIN(MAX(n_start, 0), len), upper = MIN(MAX(n_end, 0), len)
-- ELSE upper = MIN(MAX(n_start, -1), len-1), lower = MIN(MAX(n_end, -1), len-1)"
unfoldable pub bounds_of : ℤ → ℤ → ℤ → ℕ → Bounds
bounds_of start end step len =
    let nStart = normalize start len in
    let nEnd = normalize end len in
    cond (non_neg step)
    (record { lower = minimum (maximum nStart (pos 0)) (pos len); upper = minimum (maximum nEnd (pos 0)) (pos len) })
    (record { upper = minimum (maximum nStart (negsuc 0)) (pos len -ℤ pos 1); lower = minimum (maximum nEnd (negsuc 0)) (pos len -ℤ pos 1) })

-- "WHILE i < upper: SELECT a(i), i = i + step", for at most the given number of turns
unfoldable pub loop_up : ℕ → ℤ → ℤ → ℤ → List ℤ
loop_up zero i upper step = []
loop_up (suc f) i upper step = cond (lt_z i upper) (i ∷ loop_up f (i +ℤ step) upper step) []

-- "WHILE lower < i: SELECT a(i), i = i + step", for at most the given number of turns
unfoldable pub loop_down : ℕ → ℤ → ℤ → ℤ → List ℤ
loop_down zero i lower step = []
loop_down (suc f) i lower step = cond (lt_z lower i) (i ∷ loop_down f (i +ℤ step) lower step) []

-- "IF step > 0 THEN i = lower, WHILE i < upper ..; ELSE IF step < 0 THEN i = upper, WHILE lower < i ..", else no elements:
-- each i of the loop in its order, for at most the given number of turns
unfoldable pub rfc_loop : ℕ → ℕ → Option ℤ → Option ℤ → Option ℤ → List ℤ
rfc_loop f len a b c =
    let step = step_of c in
    let bounds = bounds_of (start_of len a step) (end_of len b step) step len in
    cond (lt_z (pos 0) step) (loop_up f bounds.lower bounds.upper step)
    (cond (lt_z step (pos 0)) (loop_down f bounds.upper bounds.lower step) [])

-- an i as a number of ℕ; no i of a loop is below 0
unfoldable pub index_of : ℤ → ℕ
index_of (pos k) = k
index_of (negsuc k) = zero

-- the indices that the RFC's slice selects, in its order. Crate definition_standards proves that the loop has at most len turns, and that index_of
-- changes no i of it.
unfoldable pub rfc_places : ℕ → Option ℤ → Option ℤ → Option ℤ → List ℕ
rfc_places len a b c = map index_of (rfc_loop (suc len) len a b c)

-- ---- answers that are written down elsewhere

-- the RFC's examples (2.3.4.3) on an array of 7: [1:3], [5:], [1:5:2], [5:1:-2] and [::-1]
pub rfc_examples : (rfc_places 7 (some (pos 1)) (some (pos 3)) none ≡ 1 ∷ 2 ∷ []) × (rfc_places 7 (some (pos 5)) none none ≡ 5 ∷ 6 ∷ []) × (rfc_places 7 (some (pos 1)) (some (pos 5)) (some (pos 2)) ≡ 1 ∷ 3 ∷ []) × (rfc_places 7 (some (pos 5)) (some (pos 1)) (some (negsuc 1)) ≡ 5 ∷ 3 ∷ []) × (rfc_places 7 none none (some (negsuc 0)) ≡ 6 ∷ 5 ∷ 4 ∷ 3 ∷ 2 ∷ 1 ∷ 0 ∷ [])
unfolding rfc_places given bounds_of normalize minimum maximum rfc_loop loop_up loop_down index_of
rfc_examples = (refl, refl, refl, refl, refl)

-- the RFC's answers that document 01 gives beside its own, on an array of 3: [9::-2] selects 2 0, and [-9:-9:-1] selects none
pub other_answers : (rfc_places 3 (some (pos 9)) none (some (negsuc 1)) ≡ 2 ∷ 0 ∷ []) × (rfc_places 3 (some (negsuc 8)) (some (negsuc 8)) (some (negsuc 0)) ≡ [])
unfolding rfc_places given bounds_of normalize minimum maximum rfc_loop loop_up loop_down index_of
other_answers = (refl, refl)
