-- `regex_places::run` meets its contract.
use Rattle.regex_places.proofs.Leads.{placed, first_only, first_in}
use native.Mathlib.Omega.{arith}
use Rattle.regex_places.proofs.run.Goals as goal

pub returns : goal.returns
returns c = placed _ _ _ _ (first_in 1024 (omega arith)) (λ j h i. first_only 1024 j (omega (arith, c.requires)) i) c.reach.ensures
