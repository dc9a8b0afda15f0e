-- The plans of several forms have exactly the forms' items. Assumes nothing.
use Rattle.std.specs.Prelude.{ℕ, ◌≡◌, refl, List, [], ◌∷◌, ◌++◌, map}
use Rattle.std.proofs.Common.{ap₂}
use Rattle.definition.specs.Forms.{Query}
use Rattle.definition.specs.Plans.{plan_of}
use Rattle.tally_laws.specs.Forms.{items_of_all}
use Rattle.tally_laws.proofs.Meets.{plan_items}
use Rattle.tally_laws.specs.Series.{kinds_of_all}

-- the kinds of the plans of several forms are the forms' items
pub forms_items : (qs : List Query) → kinds_of_all (map plan_of qs) ≡ items_of_all qs
unfolding kinds_of_all items_of_all
forms_items [] = refl
forms_items (q ∷ qs) = ap₂ (λ (a b : List ℕ). a ++ b) (plan_items q) (forms_items qs)
