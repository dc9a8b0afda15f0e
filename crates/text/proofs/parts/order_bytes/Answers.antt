-- `text::parts::order_bytes` meets its contract. The loop's invariant: what is left of the two texts stands as the whole texts do.
use native.Mathlib.Omega.{arith}
use mathlib.Core.Path.{sym, ap, ◌∙◌}
use Rattle.text.specs.Orders.{answer}
use Rattle.text.proofs.Orders.{order_on, order_decides, order_same, order_lengths}
use Rattle.text.proofs.parts.order_bytes.Goals as goal

pub loop-i-init : goal.loop-i-init
loop-i-init c = c.same_front-i.ensures.rest

pub returns-then-is_ne : goal.returns-then-is_ne
returns-then-is_ne c =
    order_decides c.args.a.now c.args.b.now c.loop-i.i (omega (arith, c.min-i-end.ensures)) (omega (arith, c.min-i-end.ensures)) c.cmp-found.result c.cmp-found.ensures (sym c.is_ne.ensures ∙ c.if-is_ne.true)
    ∙ sym (ap answer c.loop-i.invariant)

pub loop-i-preserved : goal.loop-i-preserved
loop-i-preserved c =
    c.loop-i.invariant ∙ order_on c.args.a.now c.args.b.now c.loop-i.i (omega (arith, c.min-i-end.ensures)) (omega (arith, c.min-i-end.ensures))
    (order_same c.args.a.now c.args.b.now c.loop-i.i c.cmp-found.result c.cmp-found.ensures (sym c.is_ne.ensures ∙ c.if-is_ne.false))

pub returns : goal.returns
returns c =
    order_lengths c.args.a.now c.args.b.now c.loop-i.i (omega (arith, c.min-i-end.ensures)) c.cmp.result c.cmp.ensures
    ∙ sym (ap answer c.loop-i.invariant)
