-- The part that is taken is the one that the record names.
use native.Mathlib.Omega.{arith}
use Prim.Native.Nat.{◌+◌}
use mathlib.Core.Path.{refl}
use Rattle.table_laws.specs.Keys.{text_span}
use borrow.Author.Rules.{rules}
use Rattle.table.proofs.named.text_part.Goals as goal

pub returns : goal.returns
returns c = record { bytes = text_span c.args.table.now c.args.text.now c.args.node c.low_word-start.result (c.low_word-start.result + c.high_word.result) (omega arith) (omega arith); place = record { block = refl; byte = omega (arith, c.low_word-start.ensures) } }
