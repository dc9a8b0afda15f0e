-- A test of two numbers says whether they are the same. Assumes nothing.
use Rattle.std.specs.Prelude.{◌≡◌, refl, Bool, true, false, ℕ, eqb}
use Rattle.std.proofs.Common.{eqb-true}
use Rattle.std.proofs.lemmas.Bool.{eqb-false}
use Rattle.regex_definition.specs.Words.{Told, holds, fails}

pub eqb_told : (a b : ℕ) → Told (a ≡ b) (eqb a b)
eqb_told a b = go (eqb a b) refl
  where
    go : (t : Bool) → eqb a b ≡ t → Told (a ≡ b) t
    go true e = holds (eqb-true a b e)
    go false e = fails (eqb-false a b e)
