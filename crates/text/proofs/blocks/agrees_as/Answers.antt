-- `text::blocks::agrees_as` meets its contract: one case for each kind.
use native.Mathlib.Omega.{arith}
use mathlib.Core.Path.{ap, ◌∙◌}
use mathlib.Core.Bool.{Bool, ◌||◌}
use lib.Dec.{leb}
use Rattle.text.specs.Placed.{is_asked_plain}
use Rattle.text.proofs.Lengths.{agrees_two, agrees_three, agrees_four, agrees_wide, agrees_any}
use Rattle.text.proofs.blocks.agrees_as.Goals as goal

pub returns-then-kind-eq2 : goal.returns-then-kind-eq2
returns-then-kind-eq2 c = λ z. agrees_two c.if-kind-eq2.true (c.agreed.ensures z ∙ c.above.ensures 0x80 (omega arith))

pub returns-then-kind-eq3 : goal.returns-then-kind-eq3
returns-then-kind-eq3 c = λ z. agrees_three c.if-kind-eq3.true (c.agreed-then-kind-eq3.ensures z ∙ c.above-then-kind-eq3.ensures 0x80 (omega arith) ∙ c.greater.ensures 0xE0)

pub returns-then-kind-eq4 : goal.returns-then-kind-eq4
returns-then-kind-eq4 c =
    λ z.
    let both = c.greater-then-kind-eq4-2.ensures 0xF0 ∙ ap (λ (y : Bool). y || leb 0xF0 c.args.a) (c.greater-then-kind-eq4.ensures 0xF0) in
    agrees_four c.if-kind-eq4.true (c.agreed-then-kind-eq4.ensures z ∙ c.above-then-kind-eq4.ensures 0x80 (omega arith) ∙ both)

pub returns-then-kind-eq5 : goal.returns-then-kind-eq5
returns-then-kind-eq5 c =
    λ z.
    let two = c.greater-two.ensures 0xC0 ∙ ap (λ (y : Bool). leb 0xC0 c.args.c || y) (c.above-2.ensures 0xC0 (omega arith)) in
    agrees_wide c.if-kind-eq5.true (c.agreed-then-kind-eq5.ensures z ∙ c.above-then-kind-eq5.ensures 0x80 (omega arith) ∙ two)

pub returns : goal.returns
returns c =
    λ z.
    let two = c.greater-two.ensures 0xC0 ∙ ap (λ (y : Bool). leb 0xC0 c.args.c || y) (c.above-2.ensures 0xC0 (omega arith)) in
    let first = ap (λ (y : Bool). is_asked_plain c.args.b c.args.c || y) (c.above-3.ensures 0xC0 (omega arith)) in
    let all = c.greater-2.ensures 0xC0 ∙ ap (λ (y : Bool). y || leb 0xC0 c.above-3.result) two ∙ first in
    agrees_any c.if-kind-eq2.false c.if-kind-eq3.false c.if-kind-eq4.false c.if-kind-eq5.false (c.agreed-2.ensures z ∙ c.above-4.ensures 0x80 (omega arith) ∙ all)
