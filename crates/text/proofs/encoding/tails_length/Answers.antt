-- `text::encoding::tails_length` meets its contract, byte by byte.
use mathlib.Core.Path.{refl, sym, ◌∙◌}
use native.Mathlib.Omega.{arith}
use Rattle.text.proofs.States.{second_wrong, third_wrong, two_right, three_right, four_by}
use Rattle.text.proofs.encoding.tails_length.Goals as goal

pub returns-then-not-in_range : goal.returns-then-not-in_range
returns-then-not-in_range c =
    let e = sym c.in_range.ensures ∙ c.if-not-in_range.true in
    sym (second_wrong c.args.s.now c.args.at c.args.lo c.args.hi c.args.more e)

pub returns-then-more-eq0 : goal.returns-then-more-eq0
returns-then-more-eq0 c = sym (two_right c.args.s.now c.args.at c.args.lo c.args.hi c.args.more c.if-more-eq0.true (sym c.in_range.ensures ∙ c.if-not-in_range.false))

pub returns-then-not-in_range-2 : goal.returns-then-not-in_range-2
returns-then-not-in_range-2 c =
    let e = sym c.in_range-2.ensures ∙ c.if-not-in_range-2.true in
    sym (third_wrong c.args.s.now c.args.at c.args.lo c.args.hi c.args.more c.if-more-eq0.false e)

pub returns-then-more-eq1 : goal.returns-then-more-eq1
returns-then-more-eq1 c =
    sym
    (three_right c.args.s.now c.args.at c.args.lo c.args.hi c.args.more c.if-more-eq1.true
    (sym c.in_range.ensures ∙ c.if-not-in_range.false)
    (sym c.in_range-2.ensures ∙ c.if-not-in_range-2.false))

pub returns-then-in_range : goal.returns-then-in_range
returns-then-in_range c =
    let s = (sym c.in_range.ensures ∙ c.if-not-in_range.false) in
    let t = (sym c.in_range-2.ensures ∙ c.if-not-in_range-2.false) in
    sym
    (four_by c.args.s.now c.args.at c.args.lo c.args.hi c.args.more (omega arith) s t
    ∙ rw (sym c.in_range-3.ensures ∙ c.if-in_range.true) refl)

pub returns-else-in_range : goal.returns-else-in_range
returns-else-in_range c =
    let s = (sym c.in_range.ensures ∙ c.if-not-in_range.false) in
    let t = (sym c.in_range-2.ensures ∙ c.if-not-in_range-2.false) in
    sym
    (four_by c.args.s.now c.args.at c.args.lo c.args.hi c.args.more (omega arith) s t
    ∙ rw (sym c.in_range-3.ensures ∙ c.if-in_range.false) refl)
