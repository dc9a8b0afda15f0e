-- `regex_rooms::reads::put_before` meets its contract.
use Rattle.basics.specs.Stores.{wrote_length}
use Rattle.regex_rooms.proofs.Laws.{seven}
use mathlib.Core.Path.{◌∙◌}
use lib.ListN.{length-set}
use native.Mathlib.Omega.{arith}
use Rattle.regex_rooms.proofs.reads.put_before.Goals as goal

pub put_anything-requires : goal.put_anything-requires
put_anything-requires c = simp length-set (omega (arith, c.requires))

pub shape_of-code : goal.shape_of-code
shape_of-code c = let l = wrote_length c.put_anything.ensures in simp length-set (l ∙ length-set c.args.code.now 0 2)

pub returns : goal.returns
returns c = seven c.put_anything.ensures
