-- A whole number by its sign, true for a minus, and its magnitude: `signed` is the definition's.
use Rattle.std.specs.Prelude.{◌≡◌, refl, Bool, true, false, ℕ, zero, suc, nat_abs}
pub use Rattle.definition.specs.Compare.{signed}

-- Its magnitude is what it was made of.
pub size_of : (s : Bool) (n : ℕ) → nat_abs (signed s n) ≡ n
size_of false n = refl
size_of true zero = refl
size_of true (suc n) = refl
