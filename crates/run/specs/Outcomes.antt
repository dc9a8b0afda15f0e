-- What document 01 reports for each answer of a run, and what the lent list holds. Assumes nothing: these are definitions.
use Rattle.std.specs.Prelude.{ℕ, ◌≡◌, List, leb, length, Result, Ok, Err}
use Rattle.definition.specs.Forms.{Query}
use Rattle.definition.specs.Tables.{check_table, tree}
use Rattle.definition.specs.Tables.Checked.{accepted}
use Rattle.definition.specs.Evaluation.{selected}
use Rattle.definition.specs.Outcomes.{Translates, RunOutcome, place_from, run_by}
use Rattle.definition.specs.Outcomes.Reading.{form}
use Rattle.table.specs.declared.TableRefusal.TheVariants.{WrongSize, WrongNode, WrongText}
use Rattle.run.specs.declared.RunRefusal.{RunRefusal}
use Rattle.run.specs.declared.RunRefusal.TheVariants.{WrongPlan, Table, WrongStart, NoRoom}

-- "Run: 11, 9, 10, 14, 13", with 17 behind 10, and 0 for none; "Number fields that a row doesn't name are 0"
unfoldable pub ran : Result ℕ RunRefusal → List ℕ → RunOutcome
ran (Ok n) L = record { refusal = 0; count = n; node = 0; places = L }
ran (Err WrongPlan) L = record { refusal = 11; count = 0; node = 0; places = L }
ran (Err (Table WrongSize)) L = record { refusal = 9; count = 0; node = 0; places = L }
ran (Err (Table (WrongNode i))) L = record { refusal = 10; count = 0; node = i; places = L }
ran (Err (Table (WrongText i))) L = record { refusal = 17; count = 0; node = i; places = L }
ran (Err WrongStart) L = record { refusal = 14; count = 0; node = 0; places = L }
ran (Err NoRoom) L = record { refusal = 13; count = 0; node = 0; places = L }

-- the plan and the pool are the translation of some query form
pub record Planned (plan pool : List ℕ) : Type 0 where
  pub q : Query
  pub translates : Translates q plan pool

-- the outcome of a run is that of every query form whose translation they are
abbrev pub RunsForm : List ℕ → List ℕ → List ℕ → List ℕ → List ℕ → ℕ → RunOutcome → Type 0
RunsForm plan pool T X L at o = (q : Query) → Translates q plan pool → o ≡ run_by (form q) T X L at

-- the same behind the check of the table
pub record AskPlacing (plan pool T X : List ℕ) : Type 0 where
  pub planned : Planned plan pool
  pub table : check_table T X ≡ accepted

abbrev pub DonePlacing : List ℕ → List ℕ → List ℕ → List ℕ → List ℕ → ℕ → RunOutcome → Type 0
DonePlacing plan pool T X L at o = (q : Query) → Translates q plan pool → o ≡ place_from (leb at (length L)) (selected q (tree T X)) L at
