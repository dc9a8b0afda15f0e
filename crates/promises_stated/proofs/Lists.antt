-- What a run or a selection over an accepted table leaves in the lent list is of the kind that `Listed` has. Assumes nothing.
use Rattle.std.specs.Prelude.{ℕ, ◌-◌, ◌≡◌, Bool, leb}
use Rattle.std.proofs.Math.Path.{refl}
use Rattle.std.proofs.Math.Bool.{true, false}
use mathlib.Core.List.{List}
use borrow.Author.Tests.{leb-true, leb-false}
use Rattle.std.proofs.Math.ListN.{length}
use Rattle.definition.specs.Outcomes.{refuse_run, place_from}
use Rattle.promises_stated.specs.Promises.{Listed, beyond}
use Rattle.promises_stated.specs.Lists.{placed}

module _ (ns L : List ℕ) (at : ℕ) where
  from : (b : Bool) → leb at (length L) ≡ b → Listed ns L at (place_from b ns L at)
  unfolding place_from refuse_run
  from true e = placed ns L at (leb (length ns) (length L - at)) (leb-true at (length L) e) refl
  from false e = beyond (leb-false at (length L) e)

  pub placed_listed : Listed ns L at (place_from (leb at (length L)) ns L at)
  placed_listed = from (leb at (length L)) refl
