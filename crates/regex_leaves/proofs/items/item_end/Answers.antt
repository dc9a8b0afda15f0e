-- `regex_leaves::items::item_end` meets its contract.
use borrow.Author.Tests.{not-true, not-false}
use Rattle.regex_leaves.proofs.OfItems.{end_alone, end_last, end_next, end_none}
use mathlib.Core.Path.{ap, sym, ◌∙◌}
use mathlib.Core.Bool.{not}
use Rattle.regex_leaves.proofs.items.item_end.Goals as goal
use Rattle.regex_leaves.proofs.items.item_end.Goals.{then-not-is-via-then-not-is, then-not-is-via-else-not-is+then-is}

pub returns-then-not-is : goal.returns-then-not-is
returns-then-not-is c =
    elim c.then-not-is.branch [
      | then-not-is-via-then-not-is w ↦ end_alone _ _ _ c.requires (sym c.is.ensures.told ∙ not-true c.is.result (ap not w.if-not-is.true))
      | then-not-is-via-else-not-is+then-is w ↦ end_last _ _ _ c.requires (sym c.is.ensures.told ∙ not-false c.is.result (ap not w.if-not-is.false)) (sym w.is-else-not-is.ensures.told ∙ w.if-is.true)
    ]

pub returns-in_err-b : goal.returns-in_err-b
returns-in_err-b c = rw c.from_residual.ensures (end_none _ _ _ (sym c.is.ensures.told ∙ not-false c.is.result (ap not c.if-not-is.false)) (sym c.is-else-not-is.ensures.told ∙ c.if-is.false) c.in_err-b.ensures)

pub returns : goal.returns
returns c = end_next _ _ _ (sym c.is.ensures.told ∙ not-false c.is.result (ap not c.if-not-is.false)) (sym c.is-else-not-is.ensures.told ∙ c.if-is.false) c.in_ok-b.ensures
