-- `eval_shortcuts::flats::is_flat` meets its contract: without children there is no list or map among them, nor where all are passed.
use mathlib.Core.Path.{sym, ◌∙◌}
use native.Mathlib.Omega.{arith}
use borrow.Author.Tests.{eqb-true}
use Rattle.eval_laws.specs.Ranges.{range_of_lem, range_in}
use Rattle.eval_shortcuts.specs.FlatLaws.{bare_empty, bare_passed}
use Rattle.eval_shortcuts.proofs.flats.is_flat.Goals as goal

pub returns-then-n-eq0 : goal.returns-then-n-eq0
returns-then-n-eq0 c = λ u. bare_empty _ _ (sym c.child_count-n.ensures ∙ c.if-n-eq0.true)

pub next_container-i-requires : goal.next_container-i-requires
next_container-i-requires c =
    let r = range_of_lem _ _ c.requires.tab _ c.requires.node_in _ _ c.first_child-first.ensures c.child_count-n.ensures in
    record { range = λ u. range_in _ _ c.requires.tab _ c.requires.node_in _ _ r (omega arith) }

pub returns : goal.returns
returns c = λ u. bare_passed _ _ _ _ (range_of_lem _ _ c.requires.tab _ c.requires.node_in _ _ c.first_child-first.ensures c.child_count-n.ensures) (omega arith) _ c.next_container-i.ensures (eqb-true _ _ u)
