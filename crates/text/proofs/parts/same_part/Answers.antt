-- `text::parts::same_part` meets its contract.
use mathlib.Core.Path.{refl, ◌∙◌}
use Rattle.text.proofs.Numbers.{part_lent}
use Rattle.text.proofs.parts.same_part.Goals as goal

pub returns : goal.returns
returns c = c.same_bytes.ensures ∙ rw (part_lent c.args.s.now c.args.a c.args.n, part_lent c.args.t.now c.args.b c.args.m) refl
