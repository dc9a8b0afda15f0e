-- `regex_reader::classes::dash_end` meets its contract.
use Rattle.regex_reader.proofs.OfClasses.{end_some}
use mathlib.Core.Path.{sym, ◌∙◌}
use Rattle.regex_reader.proofs.classes.dash_end.Goals as goal

pub returns-then-is : goal.returns-then-is
returns-then-is c = end_some _ _ (sym c.is.ensures.told ∙ c.if-is.true) c.is-then-is.ensures
