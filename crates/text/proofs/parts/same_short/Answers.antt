-- `text::parts::same_short` meets its contract: std's test decides at most one byte.
use mathlib.Core.Path.{◌∙◌}
use Rattle.text.proofs.Same.{pointwise-same}
use Rattle.text.proofs.parts.same_short.Goals as goal

pub returns-then-a-lt2 : goal.returns-then-a-lt2
returns-then-a-lt2 c = c.eq.ensures ∙ pointwise-same c.args.a.now c.args.b.now
