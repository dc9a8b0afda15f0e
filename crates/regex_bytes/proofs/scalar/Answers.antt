-- `regex_bytes::scalar` meets its contract.
use Rattle.regex_bytes.proofs.OfBytes.{one_none, one_some}
use mathlib.Core.Path.{sym, ◌∙◌}
use Rattle.regex_bytes.proofs.scalar.Goals as goal

pub returns-then-is_tail : goal.returns-then-is_tail
returns-then-is_tail c = one_none c.args.s.now _ c.args.i c.args.n c.requires.0 (sym c.is_tail.ensures ∙ c.if-is_tail.true)

pub returns : goal.returns
returns c = one_some c.args.s.now _ c.args.i c.args.n c.requires.0 (sym c.is_tail.ensures ∙ c.if-is_tail.false) _ c.point.ensures
