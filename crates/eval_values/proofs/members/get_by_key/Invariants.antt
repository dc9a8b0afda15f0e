-- `get_by_key` meets its contract: the members that are left give the whole search.
use Prim.Native.Nat.{◌+◌, ◌-◌}
use mathlib.Core.Path.{◌≡◌}
use Rattle.definition.specs.Bytes.{part}
use Rattle.definition.specs.Values.{lookup}
use Rattle.table_laws.specs.Nodes.{kids}
use Rattle.eval_values.proofs.members.get_by_key.Given as goal

abbrev pub invariant-loop-i : goal.invariant-loop-i
invariant-loop-i l = lookup (part l.s l.a l.n) (kids l.table l.text (l.first + l.i) (l.count - l.i)) ≡ lookup (part l.s l.a l.n) (kids l.table l.text l.first l.count)
