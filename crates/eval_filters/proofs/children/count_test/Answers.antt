-- `count_test` meets its contract.
use Rattle.eval_filters.specs.Tests.{short_none}
use Rattle.eval_filters.specs.Children.{counting_asked, counting_counted, counting_done}
use borrow.Author.Tests.{not-false}
use native.Mathlib.Omega.{arith}
use mathlib.Core.Path.{ap, refl}
use mathlib.Core.Bool.{not}
use Rattle.eval_filters.proofs.children.count_test.Goals as goal

pub counts_children-requires : goal.counts_children-requires
counts_children-requires c = counting_asked c.requires.ask_short c.requires.ask_counting

pub returns-then-not-counts_children : goal.returns-then-not-counts_children
returns-then-not-counts_children c = short_none _ _ _ _ _ _ _ _ _

pub child_count-n-requires : goal.child_count-n-requires
child_count-n-requires c = c.requires.ask_counting.reach.node_in

pub overflow_add-c : goal.overflow_add-c
overflow_add-c c = let z = counting_asked c.requires.ask_short c.requires.ask_counting in omega (arith, z.behind, z.few)

pub count_against-requires : goal.count_against-requires
count_against-requires c = let t = not-false _ (ap not c.if-not-counts_children.false) in counting_counted c.requires.ask_short c.requires.ask_counting (c.counts_children.ensures.star t) (c.counts_children.ensures.count t) _ c.child_count-n.ensures

pub returns : goal.returns
returns c = let t = not-false _ (ap not c.if-not-counts_children.false) in counting_done c.requires.ask_short c.requires.ask_counting (c.counts_children.ensures.star t) (c.counts_children.ensures.count t) _ c.child_count-n.ensures _ c.count_against.ensures
