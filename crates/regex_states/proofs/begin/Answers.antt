-- `regex_states::begin` meets its contract.
use Rattle.regex_states.proofs.Writes.{begun}
use Rattle.regex_states.proofs.begin.Goals as goal
use Rattle.regex_states.proofs.begin.Goals.{then-told, else-told}
use mathlib.Core.Path.{◌≡◌, ◌∙◌}
use mathlib.Core.Bool.{◌&&◌}

pub returns : goal.returns
returns c =
    let both : c.if-told.seal ≡ (c.has_empty-told.result && c.open_ended-grows.result) =
    elim c.if-told.branch [ then-told w ↦ rw w.if-told.true w.seal-is | else-told w ↦ rw w.if-told.false (w.seal-is ∙ w.if-told.false) ] in
    begun c.requires.fact_1.0 c.requires.fact_1.1 c.requires.fact_2 c.requires.fact_3 c.has_empty-told.ensures c.open_ended-grows.ensures c.all_low-alike.ensures c.blank.ensures c.blank-2.ensures both c.seal.ensures c.head.ensures
