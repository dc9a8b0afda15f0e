-- A large number as a list of limbs of 32 bits, the lowest first. Assumes nothing.
use Rattle.std.specs.Prelude.{◌≡◌, refl, List, [], ◌∷◌, ℕ, zero, suc, ◌+◌, ◌*◌, ◌^◌, ◌<◌, get_or, replicate}
use Rattle.std.proofs.Common.{arith}

unfoldable pub value : List ℕ → ℕ
value [] = 0
value (x ∷ xs) = x + 2 ^ 32 * value xs

abbrev pub Limbs : List ℕ → Type 0
Limbs xs = (k : ℕ) → get_or xs k 0 < 2 ^ 32

-- Zeros are 0, and limbs.
pub zeros : (n : ℕ) → value (replicate n 0) ≡ 0
unfolding value
zeros zero = refl
zeros (suc n) = let e = zeros n in omega arith

pub zeros_limbs : (n : ℕ) → Limbs (replicate n 0)
zeros_limbs zero k = omega arith
zeros_limbs (suc n) zero = omega arith
zeros_limbs (suc n) (suc k) = zeros_limbs n k
