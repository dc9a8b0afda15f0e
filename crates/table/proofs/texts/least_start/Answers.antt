-- The least start among the maps before the one that is looked at.
use native.Mathlib.Omega.{arith}
use mathlib.Core.Path.{◌≡◌, ap, ◌∙◌}
use Prim.Native.Nat.{◌-◌, ◌≤◌}
use Rattle.table_laws.specs.Starts.{least_start}
use Rattle.table.proofs.Checks.{start_none}
use borrow.Author.Rules.{rules}
use Rattle.table.proofs.texts.least_start.Goals as goal

pub loop-map-init : goal.loop-map-init
loop-map-init c = (start_none c.args.table.now c.args.node, omega arith)

pub lesser_start-least-requires : goal.lesser_start-least-requires
lesser_start-least-requires c = (omega arith, c.loop-map.invariant.0)

pub loop-map-preserved : goal.loop-map-preserved
loop-map-preserved c = (c.lesser_start-least.ensures, omega arith)

pub returns : goal.returns
returns c = c.loop-map.invariant.0 ∙ ap (least_start c.args.table.now c.args.node) (omega (arith, c.loop-map.invariant.1))
