-- `text::brackets::counted` meets its contract. The loop's invariant: the count is at most 32, and from the place and the count on the rest is too deep
-- if and only if the whole text is.
use native.Mathlib.Omega.{arith}
use mathlib.Core.Path.{refl, sym, ◌∙◌}
use Rattle.definition.specs.Brackets.{too_deep}
use Rattle.text.specs.Places.{place_of}
use Rattle.text.proofs.Counts.{deep_now, deep_never, deep_on}
use Rattle.text.proofs.brackets.counted.Goals as goal

pub loop-i-init : goal.loop-i-init
unfolding too_deep
loop-i-init c = (omega arith, refl)

pub returns-then-s-i : goal.returns-then-s-i
returns-then-s-i c = sym (c.loop-i.invariant.1 ∙ deep_never c.args.s.now c.loop-i.i (place_of c.loop-i.p) c.loop-i.n (omega arith) (omega arith))

pub returns-then-n-gt-MAX_BRACKETS : goal.returns-then-n-gt-MAX_BRACKETS
returns-then-n-gt-MAX_BRACKETS c =
    let d = deep_on c.args.s.now c.loop-i.i (place_of c.loop-i.p) c.loop-i.n (omega arith) (omega arith) in
    sym (c.loop-i.invariant.1 ∙ d ∙ deep_now _ _ _ (rw c.count_after-n.ensures at c.if-n-gt-MAX_BRACKETS.true))

pub loop-i-preserved : goal.loop-i-preserved
loop-i-preserved c = (omega arith, c.loop-i.invariant.1 ∙ deep_on c.args.s.now c.loop-i.i (place_of c.loop-i.p) c.loop-i.n (omega arith) (omega arith) ∙ rw (c.place_after-p.ensures, c.count_after-n.ensures) refl)

pub returns : goal.returns
returns c = sym (c.loop-i.invariant.1 ∙ deep_never c.args.s.now c.loop-i.i (place_of c.loop-i.p) c.loop-i.n (omega arith) (omega arith))
