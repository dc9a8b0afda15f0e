-- What document 01 reports for each answer of select, and what the lent list holds. Assumes nothing: these are definitions.
use Rattle.std.specs.Prelude.{List, ℕ, Result, Ok, Err}
use Rattle.definition.specs.Outcomes.{RunOutcome, refuse_run}
use Rattle.compile.specs.Outcomes.{number_of}
use Rattle.run.specs.Outcomes.{ran}
use Rattle.select.specs.declared.SelectRefusal.{SelectRefusal}
use Rattle.select.specs.declared.SelectRefusal.TheVariants.{Query, Run}

unfoldable pub selected : Result ℕ SelectRefusal → List ℕ → RunOutcome
selected (Ok n) L = ran (Ok n) L
selected (Err (Query w)) L = refuse_run (number_of w) 0 L
selected (Err (Run r)) L = ran (Err r) L
