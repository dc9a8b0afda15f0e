-- `joined::test_at` meets its contract.
use native.Mathlib.Omega.{arith}
use Rattle.eval_filters.specs.Values.{test_short}
use Rattle.eval_rows.specs.Calls.{left_asked}
use Rattle.eval_shortcuts.proofs.joined.test_at.Goals as goal

pub read_atom-t-requires : goal.read_atom-t-requires
read_atom-t-requires c = let a = left_asked c.requires in record { few = a.few; inside = a.inside; near = omega (arith, a.few, a.inside, a.more) }

pub holds_next-b-requires : goal.holds_next-b-requires
holds_next-b-requires c = let t = c.read_atom-t.ensures c.if-t-eq0.false in record { ask_short = test_short c.requires (omega (arith, t.current)); atom_at = t }
