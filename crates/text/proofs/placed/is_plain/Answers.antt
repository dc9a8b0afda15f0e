-- `text::placed::is_plain` meets its contract: the two tests have one answer, and there are no bounds.
use mathlib.Core.Path.{sym, ◌∙◌}
use mathlib.Core.Bool.{and-eq-true_iff}
use Rattle.text.proofs.placed.is_plain.Goals as goal

pub returns : goal.returns
returns c =
    λ z.
    let t = (and-eq-true_iff c.agrees.result c.is_unbound.result).0 z in
    record { agrees = sym c.is_tail.ensures ∙ c.agrees.ensures t.0 ∙ c.is_asked_plain.ensures; unbound = c.is_unbound.ensures t.1 }
