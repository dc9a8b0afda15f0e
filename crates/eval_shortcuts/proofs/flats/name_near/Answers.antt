-- `name_near` meets its contract: the member at the place that is looked at is the one that the name selects.
use native.Mathlib.Omega.{arith}
use mathlib.Core.Bool.{false≢true}
use mathlib.Core.Path.{refl}
use Rattle.eval_laws.specs.Items.{selector_in}
use Rattle.eval_items.specs.LeafLaws.{name_asked}
use Rattle.eval_filters.specs.Atoms.{name_inside, name_near}
use Rattle.eval_shortcuts.specs.FlatLaws.{only_name}
use Rattle.eval_shortcuts.proofs.flats.name_near.Goals as goal

pub bounds-plan-p : goal.bounds-plan-p
bounds-plan-p c = selector_in _ _ _ c.requires.k c.requires.x c.requires.at

pub returns-then-plan-p-ne-NAME : goal.returns-then-plan-p-ne-NAME
returns-then-plan-p-ne-NAME c = λ e. absurd (false≢true e)

pub overflow_add-p : goal.overflow_add-p
overflow_add-p c = omega (arith, (name_asked (only_name c.requires c.if-plan-p-ne-NAME.false)).stands.bound)

pub word16-start-requires : goal.word16-start-requires
word16-start-requires c = omega (arith, (name_asked (only_name c.requires c.if-plan-p-ne-NAME.false)).stands.bound)

pub overflow_add-p-2 : goal.overflow_add-p-2
overflow_add-p-2 c = omega (arith, (name_asked (only_name c.requires c.if-plan-p-ne-NAME.false)).stands.bound)

pub word16-size-requires : goal.word16-size-requires
word16-size-requires c = omega (arith, (name_asked (only_name c.requires c.if-plan-p-ne-NAME.false)).stands.bound)

pub is_near-requires : goal.is_near-requires
is_near-requires c = record { accepted = (c.requires.tab, c.requires.node_in); n_in_bounds = name_inside (only_name c.requires c.if-plan-p-ne-NAME.false) c.word16-start.ensures.is c.word16-size.ensures.is }

pub returns : goal.returns
returns c = λ e. name_near (only_name c.requires c.if-plan-p-ne-NAME.false) c.word16-start.ensures.is c.word16-size.ensures.is (c.is_near.ensures e) _ refl
