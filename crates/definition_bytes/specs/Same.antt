-- Laws of parts of lists and of the test whether two lists of bytes are the same. Assumes nothing.
use Rattle.std.specs.Prelude.{ℕ, suc, ◌+◌, ◌≤◌, ◌≡◌, refl, Bool, true, false, ◌&&◌, List, [], ◌∷◌, eqb, length, drop}
use Rattle.std.proofs.Common.{arith, ap, eq-eqb, eqb-true, length-drop, length-take-le}
use Rattle.std.proofs.Math.Bool.{and-eq-true_iff}
use Rattle.std.proofs.lemmas.Bool.{false≢true}
use Rattle.definition.specs.Bytes.{part, same_bytes}

-- a part inside a list has the length that it is asked for
pub part_length : (s : List ℕ) (at n : ℕ) → at + n ≤ length s → length (part s at n) ≡ n
part_length s at n h = length-take-le n (drop at s) (rw length-drop (omega arith))

-- a text is the same as itself
pub same_self : (s : List ℕ) → same_bytes s s ≡ true
unfolding same_bytes
same_self [] = refl
same_self (x ∷ s) = rw (eq-eqb x x refl) (same_self s)

-- texts that pass the test are equal
pub same_true : (s t : List ℕ) → same_bytes s t ≡ true → s ≡ t
unfolding same_bytes
same_true [] [] e = refl
same_true [] (y ∷ t) e = absurd (false≢true e)
same_true (x ∷ s) [] e = absurd (false≢true e)
same_true (x ∷ s) (y ∷ t) e =
    let b = (and-eq-true_iff (eqb x y) (same_bytes s t)).0 e in
    rw (eqb-true x y b.0, same_true s t b.1)

-- texts of different lengths differ
pub unlike_length : (s t : List ℕ) → (length s ≡ length t → ⊥) → same_bytes s t ≡ false
unfolding same_bytes
unlike_length [] [] h = absurd (h refl)
unlike_length [] (y ∷ t) h = refl
unlike_length (x ∷ s) [] h = refl
unlike_length (x ∷ s) (y ∷ t) h = go (eqb x y) (unlike_length s t (λ e. h (ap suc e)))
  where
    go : (b : Bool) → same_bytes s t ≡ false → (b && same_bytes s t) ≡ false
    go true e = e
    go false e = refl
