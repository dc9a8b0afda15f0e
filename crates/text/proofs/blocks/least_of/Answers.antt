-- `text::blocks::least_of` meets its contract.
use mathlib.Core.Path.{sym}
use Rattle.text.proofs.Lengths.{least_two, least_three, least_four, least_wide}
use Rattle.text.proofs.blocks.least_of.Goals as goal

pub returns-then-kind-eq2 : goal.returns-then-kind-eq2
returns-then-kind-eq2 c = sym (least_two _ c.if-kind-eq2.true)

pub returns-then-kind-eq3 : goal.returns-then-kind-eq3
returns-then-kind-eq3 c = sym (least_three _ c.if-kind-eq3.true)

pub returns-then-kind-eq4 : goal.returns-then-kind-eq4
returns-then-kind-eq4 c = sym (least_four _ c.if-kind-eq4.true)

pub returns : goal.returns
returns c = sym (least_wide _ c.if-kind-eq2.false c.if-kind-eq3.false c.if-kind-eq4.false)
