-- What document 01 reports for each answer of this crate's operations.
use Rattle.std.specs.Prelude.{ℕ, List, Result, Ok, Err}
use Rattle.std.proofs.Math.Option.{Option, none, some}
use Rattle.definition.specs.TableOutcomes.{TableOutcome, PartOutcome}
use Rattle.table.specs.declared.TableRefusal.{TableRefusal}
use Rattle.table.specs.declared.TableRefusal.TheVariants.{WrongSize, WrongNode, WrongText}

-- The two checks and the pair: 9, 10 and 17, with 0 for none; "answer carries the least such node", and "number fields that a row doesn't name are 0"
unfoldable pub reported : Result (Unit {0}) TableRefusal → TableOutcome
reported (Ok _) = record { refusal = 0; node = 0 }
reported (Err WrongSize) = record { refusal = 9; node = 0 }
reported (Err (WrongNode i)) = record { refusal = 10; node = i }
reported (Err (WrongText i)) = record { refusal = 17; node = i }

-- what a pass over the nodes finds: the least that is not right
unfoldable pub found : Result (Unit {0}) ℕ → Option ℕ
found (Ok _) = none
found (Err i) = some i

-- the part that is returned, and what the lent number holds
abbrev pub answered : List ℕ → ℕ → PartOutcome
answered s n = record { part = s; number = n }
