-- Which elements of a list of n an index and a slice select, over whole numbers.
use Rattle.std.specs.Prelude.{ℕ, zero, suc, List, [], ◌∷◌, ◌++◌, Bool, false, cond, ltb, ℤ, pos, negsuc, neg_ℤ, ◌+ℤ◌, ◌-ℤ◌}
use Rattle.std.proofs.Math.Option.{Option, none, some}
use Rattle.std.specs.Int.Signed.{lt_z}

-- "Negative bounds have n added once", and a negative index has "the length"
unfoldable pub add_once : ℕ → ℤ → ℤ
add_once n (pos k) = pos k
add_once n (negsuc k) = negsuc k +ℤ pos n

-- a place that is no element's selects nothing: "still negative selects nothing", "a place n selects nothing"
unfoldable pub element_at : ℕ → ℤ → List ℕ
element_at n (pos k) = cond (ltb k n) (k ∷ []) []
element_at n (negsuc k) = []

-- the elements that an index selects
unfoldable pub index_places : ℕ → ℤ → List ℕ
index_places n i = element_at n (add_once n i)

-- z brought into lo..hi
unfoldable pub clamp : ℤ → ℤ → ℤ → ℤ
clamp lo hi z = cond (lt_z z lo) lo (cond (lt_z hi z) hi z)

-- "step default 1"
unfoldable pub slice_step : Option ℤ → ℤ
slice_step none = pos 1
slice_step (some z) = z

-- "Default start is 0, or n-1 for a negative step"
unfoldable pub given_start : ℕ → Option ℤ → ℤ → ℤ
given_start n (some z) s = z
given_start n none (pos k) = pos 0
given_start n none (negsuc k) = pos n -ℤ pos 1

-- "default stop n, or -n-1"
unfoldable pub given_stop : ℕ → Option ℤ → ℤ → ℤ
given_stop n (some z) s = z
given_stop n none (pos k) = pos n
given_stop n none (negsuc k) = neg_ℤ (pos n) -ℤ pos 1

-- "Then start is brought into 0..n, stop into -1..n."
unfoldable pub slice_start : ℕ → Option ℤ → ℤ → ℤ
slice_start n a s = clamp (pos 0) (pos n) (add_once n (given_start n a s))

unfoldable pub slice_stop : ℕ → Option ℤ → ℤ → ℤ
slice_stop n b s = clamp (negsuc 0) (pos n) (add_once n (given_stop n b s))

-- "Walk from start while below stop (above, for negative steps)"; step 0 walks nowhere
unfoldable pub goes_on : ℤ → ℤ → ℤ → Bool
goes_on (pos zero) i b = false
goes_on (pos (suc k)) i b = lt_z i b
goes_on (negsuc k) i b = lt_z b i

-- the elements on the walk from i by steps of s; at most the given number of steps is looked at
unfoldable pub walk_places : ℕ → ℕ → ℤ → ℤ → ℤ → List ℕ
walk_places zero n i b s = []
walk_places (suc f) n i b s = cond (goes_on s i b) (element_at n i ++ walk_places f n (i +ℤ s) b s) []

-- the elements that a slice selects, in the order of the walk. It has at most n + 1 places: the crate `definition_standards` (Ends) proves that the bound cuts nothing off.
unfoldable pub slice_places : ℕ → Option ℤ → Option ℤ → Option ℤ → List ℕ
slice_places n a b c =
    let s = slice_step c in
    walk_places (suc n) n (slice_start n a s) (slice_stop n b s) s
