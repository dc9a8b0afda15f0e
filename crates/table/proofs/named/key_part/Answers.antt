-- The part that is taken is the one that the record names.
use native.Mathlib.Omega.{arith}
use Prim.Native.Nat.{◌+◌}
use mathlib.Core.Path.{refl}
use Rattle.table_laws.specs.Keys.{key_span}
use borrow.Author.Rules.{rules}
use Rattle.table.proofs.named.key_part.Goals as goal

pub returns : goal.returns
returns c = record { bytes = key_span c.args.table.now c.args.text.now c.args.node c.key_start-start.result (c.key_start-start.result + c.key_length.result) (omega arith) (omega arith); place = record { block = refl; byte = omega (arith, c.key_start-start.ensures) } }
