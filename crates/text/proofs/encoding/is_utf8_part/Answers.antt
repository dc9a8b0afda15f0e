-- `text::encoding::is_utf8_part` meets its contract.
use mathlib.Core.Path.{ap, ◌∙◌}
use Rattle.definition.specs.Utf8.{is_utf8}
use Rattle.text.proofs.Numbers.{part_lent}
use Rattle.text.proofs.encoding.is_utf8_part.Goals as goal

pub returns : goal.returns
returns c = c.is_utf8.ensures ∙ ap is_utf8 (part_lent c.args.s.now c.args.from c.args.n)
