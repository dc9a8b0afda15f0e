-- Whether one of two bytes stands at a place. Assumes nothing.
use mathlib.Core.Path.{◌≡◌, ap}
use mathlib.Core.Bool.{Bool, true, false, ◌||◌}
use mathlib.Core.List.{List, [], ◌∷◌}
use Prim.Native.Nat.{ℕ}
use borrow.Author.Tests.{ne_eqb}
use lib.Dec.{eqb}
use lib.ListN.{drop}
use Rattle.basics.specs.Reads.{StartsNot}
use Rattle.parser_scan.specs.Text.{Is, Has}

-- a text that begins with neither of two bytes
pub neither : (x y : ℕ) (l : List ℕ) → ((r : List ℕ) → l ≡ x ∷ r → ⊥) → ((r : List ℕ) → l ≡ y ∷ r → ⊥) → StartsNot (λ c. eqb c x || eqb c y) l
unfolding StartsNot
neither x y [] f g = tt
neither x y (c ∷ l) f g = rw (ne_eqb c x (λ e. f l (ap (λ (k : ℕ). k ∷ l) e)), ne_eqb c y (λ e. g l (ap (λ (k : ℕ). k ∷ l) e)))

-- where the first does not stand, the second decides
pub has_second : (s : List ℕ) (a x y : ℕ) (b : Bool) → (eqb y x || eqb y y) ≡ true → Is s a x false → Is s a y b → Has (λ c. eqb c x || eqb c y) s a b
has_second s a x y true e f i = (y, i.0, e, i.1)
has_second s a x y false e f i = neither x y (drop a s) f i
