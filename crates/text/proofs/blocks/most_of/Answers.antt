-- `text::blocks::most_of` meets its contract.
use mathlib.Core.Path.{sym}
use Rattle.text.proofs.Lengths.{top_wide, top_any, top_none}
use Rattle.text.proofs.blocks.most_of.Goals as goal

pub returns-then-kind-eq5 : goal.returns-then-kind-eq5
returns-then-kind-eq5 c = sym (top_wide _ c.if-kind-eq5.true)

pub returns-then-kind-eq6 : goal.returns-then-kind-eq6
returns-then-kind-eq6 c = sym (top_any _ c.if-kind-eq6.true)

pub returns : goal.returns
returns c = sym (top_none _ c.if-kind-eq5.false c.if-kind-eq6.false)
