-- The byte that is read is the field of one byte.
use native.Mathlib.Omega.{arith}
use Rattle.table_laws.specs.Fields.{byte_field}
use borrow.Author.Rules.{rules}
use Rattle.table.proofs.records.depth.Goals as goal

pub returns : goal.returns
returns c = byte_field c.args.table.now c.args.node 1 _ (omega arith) (omega arith)
