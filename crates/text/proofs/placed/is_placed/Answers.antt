-- `text::placed::is_placed` meets its contract: the two tests have one answer, and the byte is within its bounds.
use mathlib.Core.Path.{sym, ◌∙◌}
use mathlib.Core.Bool.{and-eq-true_iff}
use Rattle.text.proofs.placed.is_placed.Goals as goal

pub returns : goal.returns
returns c =
    λ z.
    let t = (and-eq-true_iff c.agrees.result c.is_bounded.result).0 z in
    record { agrees = sym c.is_tail.ensures ∙ c.agrees.ensures t.0 ∙ c.is_asked.ensures; bounded = c.is_bounded.ensures t.1 }
