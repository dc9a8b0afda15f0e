-- `behind_literal` meets its contract: each test that it passes says a part.
use mathlib.Core.Path.{refl, sym, ◌∙◌}
use borrow.Author.Tests.{not-false}
use Rattle.eval_filters.specs.Tests.{literal_kind_lem}
use Rattle.eval_filters.specs.Atoms.{size_fits, sized}
use native.Mathlib.Omega.{arith}
use mathlib.Core.Path.{ap}
use mathlib.Core.Bool.{not}
use Rattle.eval_filters.proofs.atoms.behind_literal.Goals as goal

pub overflow_add-w : goal.overflow_add-w
overflow_add-w c = omega (arith, c.requires.few, c.requires.inside, c.requires.near, size_fits _ _ c.literal_size.ensures)

pub overflow_add-w-2 : goal.overflow_add-w-2
overflow_add-w-2 c = omega (arith, c.requires.few, c.requires.inside, c.requires.near, size_fits _ _ c.literal_size.ensures)

pub returns : goal.returns
returns c =
    let k = literal_kind_lem _ (sym c.is_literal.ensures ∙ not-false _ (ap not c.if-not-is_literal.false)) in
    record { low = k.0; high = k.1; more = c.if-e-z.false; w = _; past = sized _ _ _ c.literal_size.ensures; inside = omega (arith, c.if-e-w.false); compare_is = c.if-plan-w-ne-COMPARE.false; op_is = refl; next_is = refl }
