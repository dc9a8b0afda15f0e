-- The answer of compile as the definition's outcome: the number and the values of each case. Assumes nothing: these are definitions.
use Rattle.std.specs.Prelude.{◌≡◌, List, ℕ, ◌<◌, Result, Ok, Err}
use Rattle.definition.specs.Outcomes.{CompileOutcome}
use Rattle.compile.specs.declared.CompileRefusal.{CompileRefusal}
use Rattle.compile.specs.declared.CompileRefusal.TheVariants.{Query, SmallRoom}
use Rattle.compile.specs.declared.Lengths.{Lengths}
use Rattle.compile.specs.declared.Refusal.{Refusal}
use Rattle.compile.specs.declared.Refusal.TheVariants.{TooLong, NotUtf8, TooDeep, Malformed, Mistyped, UnknownFunction, BeyondRange}

-- "Refusal numbers": those of a query
abbrev pub number_of : Refusal → ℕ
number_of TooLong = 1
number_of NotUtf8 = 2
number_of TooDeep = 3
number_of Malformed = 4
number_of Mistyped = 5
number_of UnknownFunction = 6
number_of BeyondRange = 8

-- a number that the table gives to none of a query's refusals, 0, or to one: 1 to 8, of which 7 is given to none
abbrev pub QueryNumber : ℕ → Type 0
QueryNumber n = (n < 9) × (n ≡ 7 → ⊥)

-- the number of what a step refuses by, 0 for none
abbrev pub number_or_zero : {T : Type 0} → Result T Refusal → ℕ
number_or_zero (Ok x) = 0
number_or_zero (Err w) = number_of w

-- the outcome that an answer and what both rooms hold afterwards are; "Number fields that a row doesn't name are 0"
abbrev pub outcome : Result Lengths CompileRefusal → List ℕ → List ℕ → CompileOutcome
outcome (Ok n) P L = record { refusal = 0; plan_length = n.plan; pool_length = n.pool; plan_room = P; pool_room = L }
outcome (Err (Query w)) P L = record { refusal = number_of w; plan_length = 0; pool_length = 0; plan_room = P; pool_room = L }
outcome (Err (SmallRoom n)) P L = record { refusal = 12; plan_length = n.plan; pool_length = n.pool; plan_room = P; pool_room = L }
