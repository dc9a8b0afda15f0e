-- The numbers that an exported function hands out, and what the lent places hold afterwards, as the definition's outcome.
use Rattle.std.specs.Prelude.{ℕ, ◌≡◌, cond, List, eqb}
use Rattle.definition.specs.TableOutcomes.{TableOutcome}
use Rattle.definition.specs.Paths.{PathOutcome}
use Rattle.definition.specs.Outcomes.{CompileOutcome, RunOutcome}

abbrev pub told : ℕ → ℕ → TableOutcome
told n i = record { refusal = n; node = i }

-- A part of the text is handed out by its start and its length: those that the record names, or 0 and 0 with a refusal.
pub record Placed (refusal at n start len : ℕ) : Type 0 where
  pub starts : start ≡ cond (eqb refusal 0) at 0
  pub long : len ≡ cond (eqb refusal 0) n 0

abbrev pub addressed : ℕ → ℕ → ℕ → List ℕ → PathOutcome
addressed n l i B = record { refusal = n; size = l; node = i; room = B }

abbrev pub compiled : ℕ → ℕ → ℕ → List ℕ → List ℕ → CompileOutcome
compiled n p l P L = record { refusal = n; plan_length = p; pool_length = l; plan_room = P; pool_room = L }

abbrev pub ran_to : ℕ → ℕ → ℕ → List ℕ → RunOutcome
ran_to n k i L = record { refusal = n; count = k; node = i; places = L }
