-- `parser_items::pooled` meets its contract: the five bytes are stored one run behind the other.
--
use mathlib.Core.Path.{◌∙◌}
use native.Mathlib.Omega.{arith}
use lib.ListN.{length-set}
use Rattle.parser_items.proofs.Stores.{pooled_put}
use Rattle.parser_items.proofs.pooled.Goals as goal

pub put16-requires : goal.put16-requires
put16-requires c = rw length-set (omega (arith, c.requires.room))

pub put16-requires-2 : goal.put16-requires-2
put16-requires-2 c = rw (c.put16.auto.d, length-set) (omega (arith, c.requires.room))

pub shape_of-plan : goal.shape_of-plan
shape_of-plan c = c.put16-2.auto.d ∙ c.put16.auto.d ∙ simp length-set

pub returns : goal.returns
returns c = pooled_put c.args.plan.now c.args.st c.args.kind c.args.n c.put16.ensures c.put16-2.ensures
