-- `text::parts::same_bytes` meets its contract.
use mathlib.Core.Path.{sym}
use Rattle.definition_bytes.specs.Same.{unlike_length}
use Rattle.text.proofs.parts.same_bytes.Goals as goal

pub returns-then-a-b : goal.returns-then-a-b
returns-then-a-b c = sym (unlike_length c.args.a.now c.args.b.now c.if-a-b.true)
