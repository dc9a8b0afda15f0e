-- The table's rule as a test, and a test that passes over a whole table, computed once, as a fact at each entry. Assumes nothing.
use mathlib.Core.Path.{◌≡◌, ◌∙◌, ap, subst, sym}
use mathlib.Core.Bool.{Bool, true, false, ◌&&◌}
use mathlib.Core.List.{List, [], ◌∷◌, ◌++◌}
use Prim.Native.Nat.{ℕ, zero, suc, ◌+◌, ◌-◌, ◌*◌, ◌^◌, ◌<◌}
use native.Mathlib.Nat.{add-zero, zero-add, add-suc, suc-add, le_of_suc-le-suc, not-suc-le-zero}
use lib.Dec.{T, leb, ltb, leb→le, ltb→lt}
use lib.ListN.{length, get_or, length-append, get_or-append}
use lib.Seq.{get_or-append-add}
use native.Mathlib.Omega.{arith}
use lib.Ieee.Fits.{and_l, and_r}
use Rattle.number_fives.specs.Rule.{least, place, Leading}

abbrev both : Bool → Bool → Bool
both true b = b
both false b = false

both_left : (a b : Bool) → T (both a b) → T a
both_left true b t = tt
both_left false b t = t

both_right : (a b : Bool) → T (both a b) → T b
both_right true b t = t
both_right false b t = absurd t

-- the test f passes at each entry of the list and its place, counted from i
abbrev pub every : (ℕ → ℕ → Bool) → ℕ → List ℕ → Bool
every f i [] = true
every f i (x ∷ xs) = both (f i x) (every f (suc i) xs)

from : (f : ℕ → ℕ → Bool) (xs : List ℕ) (i : ℕ) → T (every f i xs) → (k : ℕ) → k < length xs → T (f (i + k) (get_or xs k 0))
from f [] i t k h = absurd (not-suc-le-zero h)
from f (x ∷ xs) i t zero h = subst (λ (m : ℕ). T (f m x)) (sym (add-zero i)) (both_left (f i x) (every f (suc i) xs) t)
from f (x ∷ xs) i t (suc k) h =
    subst (λ (m : ℕ). T (f m (get_or xs k 0))) (suc-add i k ∙ sym (add-suc i k))
    (from f xs (suc i) (both_right (f i x) (every f (suc i) xs) t) k (le_of_suc-le-suc h))

-- the test passes at an entry
at : (f : ℕ → ℕ → Bool) (xs : List ℕ) → T (every f 0 xs) → (k : ℕ) → k < length xs → T (f k (get_or xs k 0))
at f xs t k h = subst (λ (m : ℕ). T (f m (get_or xs k 0))) (zero-add k) (from f xs 0 t k h)

-- ---- the rule

-- the rule as a test
abbrev pub right : ℕ → ℕ → Bool
right i x = leb (x * 2 ^ place i * 5 ^ (least - i)) (5 ^ (i - least) * 2 ^ 863) && ltb (5 ^ (i - least) * 2 ^ 863) (suc x * 2 ^ place i * 5 ^ (least - i)) && leb (2 ^ 63) x

-- An entry that passes the test is the leading bits.
pub leading : (i x : ℕ) → T (right i x) → Leading i x
leading i x t =
    let a = leb (x * 2 ^ place i * 5 ^ (least - i)) (5 ^ (i - least) * 2 ^ 863) in
    let b = ltb (5 ^ (i - least) * 2 ^ 863) (suc x * 2 ^ place i * 5 ^ (least - i)) in
    let c = leb (2 ^ 63) x in
    record { low = leb→le _ _ (and_l a b (and_l (a && b) c t)); high = ltb→lt _ _ (and_r a b (and_l (a && b) c t)); full = leb→le _ _ (and_r (a && b) c t) }

-- So a table that passes the test has the rule at each entry.
ruled : (xs : List ℕ) → T (every right 0 xs) → (i : ℕ) → i < length xs → Leading i (get_or xs i 0)
ruled xs t i h = leading i (get_or xs i 0) (at right xs t i h)

inside : (n m a b k : ℕ) → n ≡ m + (a + b) → k < a → m + k < n
inside n m a b k e h = omega arith

-- And so has each part of it, at the entry k behind what stands before the part.
pub ruled_part : (all before xs behind : List ℕ) → T (every right 0 all) → all ≡ before ++ (xs ++ behind) → (i k : ℕ) → length before + k ≡ i → k < length xs → Leading i (get_or xs k 0)
ruled_part all before xs behind t parts i k e h =
    let n : length all ≡ length before + (length xs + length behind) =
    ap length parts ∙ length-append before (xs ++ behind) ∙ ap (λ (m : ℕ). length before + m) (length-append xs behind) in
    let entry : get_or all (length before + k) 0 ≡ get_or xs k 0 =
    ap (λ (l : List ℕ). get_or l (length before + k) 0) parts ∙ get_or-append-add before (xs ++ behind) k 0 ∙ get_or-append xs behind 0 k h in
    subst (λ (m : ℕ). Leading m (get_or xs k 0)) e
    (subst (λ (y : ℕ). Leading (length before + k) y) entry (ruled all t (length before + k) (inside (length all) (length before) (length xs) (length behind) k n h)))
