-- `text::encoding::chars_pass` meets its contract. The loop's invariant: what is left is UTF-8 if and only if the whole text is.
-- The measure is what is left.
use native.Mathlib.Omega.{arith}
use mathlib.Core.Path.{refl, sym, ◌∙◌}
use Prim.Native.Nat.{◌+◌, ◌≤◌}
use lib.ListN.{length}
use Rattle.text.proofs.States.{step_wrong, step_on, step_in, step_end}
use Rattle.text.proofs.encoding.chars_pass.Goals as goal

-- the next place is in the text
next : (c : goal.Else-n-eq0) → c.loop-i.i + c.step_length-n.result ≤ length c.args.s.now
next c = step_in c.args.s.now c.loop-i.i c.step_length-n.result (omega arith) c.step_length-n.ensures

pub loop-i-init : goal.loop-i-init
loop-i-init c = (omega arith, refl)

pub returns-then-n-eq0 : goal.returns-then-n-eq0
returns-then-n-eq0 c = sym (c.loop-i.invariant.1 ∙ step_wrong c.args.s.now c.loop-i.i c.step_length-n.result (omega arith) c.step_length-n.ensures c.if-n-eq0.true)

pub overflow_add-i : goal.overflow_add-i
overflow_add-i c = let p = next c in omega arith

pub loop-i-smaller : goal.loop-i-smaller
loop-i-smaller c =
    let p = next c in
    omega arith

pub loop-i-preserved : goal.loop-i-preserved
loop-i-preserved c = (next c, c.loop-i.invariant.1 ∙ step_on c.args.s.now c.loop-i.i c.step_length-n.result (omega arith) c.step_length-n.ensures c.if-n-eq0.false)

pub returns : goal.returns
returns c = sym (c.loop-i.invariant.1 ∙ step_end c.args.s.now c.loop-i.i c.loop-i-test.false)
