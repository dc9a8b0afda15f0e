-- `text::placed::passes_last` meets its contract: what is left is among the bytes that are tested.
use native.Mathlib.Omega.{arith}
use Prim.Native.Nat.{◌-◌}
use mathlib.Core.Path.{sym, ◌∙◌}
use lib.ListN.{length}
use Rattle.text.proofs.Along.{placed_part, on_some}
use Rattle.text.proofs.placed.passes_last.Goals as goal

pub returns-then-ascii_most : goal.returns-then-ascii_most
returns-then-ascii_most c = λ _. placed_part c.args.s.now c.args.i (length c.args.s.now - 3) (c.ascii_most.ensures c.if-ascii_most.true) (omega (arith, c.requires.0, c.requires.2)) (omega (arith, c.requires.0))

pub returns : goal.returns
returns c =
    λ z.
    placed_part c.args.s.now c.args.i (length c.args.s.now - 3) (on_some c.passes_block.result _ c.passes_block.ensures (sym c.is_some.ensures ∙ z)) (omega (arith, c.requires.0, c.requires.1, c.requires.2)) (omega (arith, c.requires.0, c.requires.1, c.requires.2))
