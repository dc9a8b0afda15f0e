-- `is_named` meets its contract: the key is read and compared.
use Rattle.eval_values.specs.Members.{key_same}
use Rattle.eval_values.proofs.members.is_named.Goals as goal

pub returns : goal.returns
returns c = key_same c.args.table.now c.args.text.now _ c.args.node _ _ _ c.key_start-start.ensures c.key_length-size.ensures c.same_part.ensures
