-- `turns::text_of` meets its contract: nothing is found, a node that has no text, or its text.
use mathlib.Core.Path.{refl}
use native.Mathlib.Omega.{arith}
use Rattle.eval_rows.specs.Calls.{text_near}
use Rattle.eval_rows.specs.Turns.{text_lost, text_other, text_spot, text_found}
use Rattle.eval_rows.proofs.turns.text_of.Goals as goal

pub overflow_add-g : goal.overflow_add-g
overflow_add-g c = omega (arith, text_near c.requires)

pub follow-r-requires : goal.follow-r-requires
follow-r-requires c = record { ask_reach = c.requires.reach; leads = c.requires.path }

pub returns-in_default : goal.returns-in_default
returns-in_default c = text_lost c.requires c.follow-r.ensures c.in_default.is

pub returns-then-kind-ne-KIND_TEXT : goal.returns-then-kind-ne-KIND_TEXT
returns-then-kind-ne-KIND_TEXT c = text_other c.requires c.follow-r.ensures c.in-Ok.is (λ e. c.if-kind-ne-KIND_TEXT.true (omega arith))

pub overflow_add-result : goal.overflow_add-result
overflow_add-result c = omega (arith, text_spot c.requires c.follow-r.ensures c.in-Ok.is (omega arith) _ _ c.text_start-start.ensures c.text_length-size.ensures, c.requires.reach.given.tab.size.short)

pub slice_bounds-result-end : goal.slice_bounds-result-end
slice_bounds-result-end c = omega (arith, text_spot c.requires c.follow-r.ensures c.in-Ok.is (omega arith) _ _ c.text_start-start.ensures c.text_length-size.ensures)

pub returns : goal.returns
returns c = text_found c.requires c.follow-r.ensures c.in-Ok.is (omega arith) _ _ c.text_start-start.ensures c.text_length-size.ensures _ refl
