-- The range that a right record writes is the range of its children.
use native.Mathlib.Omega.{arith}
use borrow.Author.Tests.{ltb-true, ltb-false}
use mathlib.Core.Bool.{false≢true}
use Prim.Native.Nat.{◌+◌}
use Rattle.table_laws.specs.Records.{written_range, range_written}
use borrow.Author.Rules.{rules}
use Rattle.table.proofs.structure.is_child.Goals as goal

pub returns-then-node-from : goal.returns-then-node-from
returns-then-node-from c = (λ z. absurd (false≢true z), λ z g. let w = (range_written c.args.table.now c.args.node c.args.parent c.requires.1 g).0 in omega arith)

pub returns : goal.returns
returns c = (
  λ z. let l = ltb-true c.args.node (c.low_word-from.result + c.child_count.result) z in written_range c.args.table.now c.args.node c.args.parent c.requires.1 (omega arith) (omega arith),
  λ z g. let l = ltb-false c.args.node (c.low_word-from.result + c.child_count.result) z in let w = (range_written c.args.table.now c.args.node c.args.parent c.requires.1 g).1 in omega arith,
)
