-- What the numbers of an answer are: with what the lent places hold they are the definition's outcome. Assumes nothing: these are definitions.
use Rattle.std.specs.Prelude.{◌≡◌, List, ℕ, Result}
use Rattle.compile.specs.Outcomes.{outcome, number_of}
use Rattle.compile.specs.declared.CompileRefusal.{CompileRefusal}
use Rattle.compile.specs.declared.Lengths.{Lengths}
use Rattle.run.specs.Outcomes.{ran}
use Rattle.run.specs.declared.RunRefusal.{RunRefusal}
use Rattle.run.specs.declared.RunRefusal.TheVariants.{WrongPlan, Table, WrongStart, NoRoom}
use Rattle.select.specs.Selections.{selected}
use Rattle.select.specs.declared.SelectRefusal.{SelectRefusal}
use Rattle.select.specs.declared.SelectRefusal.TheVariants.{Query, Run}
use Rattle.table.specs.Outcomes.{reported}
use Rattle.table.specs.declared.TableRefusal.{TableRefusal}
use Rattle.table.specs.declared.TableRefusal.TheVariants.{WrongSize, WrongNode, WrongText}
use Rattle.table_path.specs.Outcomes.{told}
use Rattle.table_path.specs.declared.PathRefusal.{PathRefusal}
use Rattle.table_path.specs.declared.PathRefusal.TheVariants.{Table as ByTable, NoNode, SmallRoom}
use Rattle.refusals.specs.declared.CompileNumbers.{CompileNumbers}
use Rattle.refusals.specs.declared.RunNumbers.{RunNumbers}
use Rattle.refusals.specs.declared.CheckNumbers.{CheckNumbers}
use Rattle.refusals.specs.declared.PathNumbers.{PathNumbers}

-- "Refusal numbers": those of a table, and the node that a refusal names
abbrev pub number_of_table : TableRefusal → ℕ
number_of_table WrongSize = 9
number_of_table (WrongNode i) = 10
number_of_table (WrongText i) = 17

abbrev pub node_of_table : TableRefusal → ℕ
node_of_table WrongSize = 0
node_of_table (WrongNode i) = i
node_of_table (WrongText i) = i

-- the same of a run
abbrev pub number_of_run : RunRefusal → ℕ
number_of_run WrongPlan = 11
number_of_run (Table wrong) = number_of_table wrong
number_of_run WrongStart = 14
number_of_run NoRoom = 13

abbrev pub node_of_run : RunRefusal → ℕ
node_of_run WrongPlan = 0
node_of_run (Table wrong) = node_of_table wrong
node_of_run WrongStart = 0
node_of_run NoRoom = 0

-- of a selection
abbrev pub number_of_select : SelectRefusal → ℕ
number_of_select (Query wrong) = number_of wrong
number_of_select (Run wrong) = number_of_run wrong

abbrev pub node_of_select : SelectRefusal → ℕ
node_of_select (Query wrong) = 0
node_of_select (Run wrong) = node_of_run wrong

-- and of a path, with the length that it names
abbrev pub number_of_path : PathRefusal → ℕ
number_of_path (ByTable wrong) = number_of_table wrong
number_of_path NoNode = 15
number_of_path (SmallRoom n) = 16

abbrev pub size_of_path : PathRefusal → ℕ
size_of_path (ByTable wrong) = 0
size_of_path NoNode = 0
size_of_path (SmallRoom n) = n

abbrev pub node_of_path : PathRefusal → ℕ
node_of_path (ByTable wrong) = node_of_table wrong
node_of_path NoNode = 0
node_of_path (SmallRoom n) = 0

abbrev pub CompileTells : Result Lengths CompileRefusal → CompileNumbers → Type 0
CompileTells a r = (P L : List ℕ) → record { refusal = r.refusal; plan_length = r.plan; pool_length = r.pool; plan_room = P; pool_room = L } ≡ outcome a P L

abbrev pub RunTells : Result ℕ RunRefusal → RunNumbers → Type 0
RunTells a r = (L : List ℕ) → record { refusal = r.refusal; count = r.count; node = r.node; places = L } ≡ ran a L

abbrev pub SelectTells : Result ℕ SelectRefusal → RunNumbers → Type 0
SelectTells a r = (L : List ℕ) → record { refusal = r.refusal; count = r.count; node = r.node; places = L } ≡ selected a L

abbrev pub CheckTells : Result (Unit {0}) TableRefusal → CheckNumbers → Type 0
CheckTells a r = record { refusal = r.refusal; node = r.node } ≡ reported a

abbrev pub PathTells : Result ℕ PathRefusal → PathNumbers → Type 0
PathTells a r = (B : List ℕ) → record { refusal = r.refusal; size = r.size; node = r.node; room = B } ≡ told a B
