-- Both parts of a conjunction of tests, and what a test with two answers comes to. Assumes nothing.
use Rattle.std.specs.Prelude.{◌≡◌, refl, Bool, true, false, cond, not, ◌&&◌}
use Rattle.std.proofs.Common.{sym, ◌∙◌, true≢false}
use Rattle.std.proofs.lemmas.Bool.{false≢true}

-- a test and one that always holds
pub and_true : (a : Bool) → (a && true) ≡ a
and_true true = refl
and_true false = refl
