-- `literal_expr` meets its contract: the literal becomes the last value, and the code goes on behind it.
use native.Mathlib.Omega.{arith}
use Rattle.eval_items.specs.OpLaws.{literal_asked, literal_past, done_literal}
use Rattle.eval_items.proofs.leaves.literal_expr.Goals as goal

pub literal-v-requires : goal.literal-v-requires
literal-v-requires c = literal_asked c.requires (omega arith) (omega arith)

pub past_literal-z-requires : goal.past_literal-z-requires
past_literal-z-requires c = literal_past c.requires (omega arith) (omega arith)

pub returns : goal.returns
returns c = done_literal c.requires (omega arith) (omega arith) _ c.literal-v.ensures _ c.past_literal-z.ensures
