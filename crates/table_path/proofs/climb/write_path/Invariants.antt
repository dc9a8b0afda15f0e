-- The steps behind the node that is reached are put.
use native.Mathlib.Omega.{arith}
use borrow.Author.Rules.{rules}
use mathlib.Core.Path.{◌∙◌}
use lib.ListN.{length-set}
use Rattle.table_path.proofs.Steps.{above_earlier}
use Rattle.table_path.proofs.Climbs.{Climbed, child_of, climb_start, climb_room, climb_to, root_room, climb_end}
use Rattle.table_path.proofs.climb.write_path.Given as goal

abbrev pub invariant-loop-n : goal.invariant-loop-n
invariant-loop-n l = Climbed l.table l.text l.node l.initial.room l.size l.room l.end l.n

abbrev pub decreases-loop-n : goal.decreases-loop-n
decreases-loop-n l = l.n
