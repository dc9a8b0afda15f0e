-- `regex_places::add` meets its contract.
use Rattle.regex_places.specs.Places.Adds.{was, new}
use Rattle.regex_places.proofs.add.Goals as goal
use Rattle.regex_places.proofs.add.Goals.{then-v-ne1-via-then-v-ne1, then-v-ne1-via-else-v-ne1+then-set-i-eq1}

pub returns-then-v-ne1 : goal.returns-then-v-ne1
returns-then-v-ne1 c = elim c.then-v-ne1.branch [ then-v-ne1-via-then-v-ne1 w ↦ was (λ e. absurd (w.if-v-ne1.true e)) | then-v-ne1-via-else-v-ne1+then-set-i-eq1 w ↦ was (λ e. w.if-set-i-eq1.true) ]

pub returns : goal.returns
returns c = new c.if-v-ne1.false
