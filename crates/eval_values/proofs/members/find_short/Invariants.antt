-- `eval_values::members::find_short` meets its contract, as get_by_key does: the ends of a name say whether it is the member's.
use mathlib.Core.Path.{◌≡◌}
use Rattle.table_laws.specs.Nodes.{kids}
use Rattle.definition.specs.Values.{lookup}
use Rattle.definition.specs.Bytes.{part}
use Prim.Native.Nat.{◌+◌, ◌-◌}
use Rattle.eval_values.proofs.members.find_short.Given as goal

abbrev pub invariant-loop-i : goal.invariant-loop-i
invariant-loop-i l = lookup (part l.s l.a l.n) (kids l.table l.text (l.first + l.i) (l.count - l.i)) ≡ lookup (part l.s l.a l.n) (kids l.table l.text l.first l.count)
