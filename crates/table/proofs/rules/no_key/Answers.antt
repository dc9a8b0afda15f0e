-- Both numbers are 0 exactly if their sum is.
use native.Mathlib.Omega.{arith}
use mathlib.Core.Path.{sym, ◌∙◌}
use borrow.Author.Rules.{rules}
use Rattle.table.proofs.Under.{no_key_sum}
use Rattle.table.proofs.rules.no_key.Goals as goal

pub returns : goal.returns
returns c = no_key_sum c.args.table.now c.args.node _ _ c.key_start-start.ensures c.key_length-size.ensures
