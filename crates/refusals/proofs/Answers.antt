-- The number and the node of each refusal are those that its outcome reports. Assumes nothing.
use Rattle.std.specs.Prelude.{◌≡◌, refl, List, ℕ, Err}
use Rattle.run.specs.Outcomes.{ran}
use Rattle.run.specs.declared.RunRefusal.{RunRefusal}
use Rattle.run.specs.declared.RunRefusal.TheVariants.{WrongPlan, Table as ByTable, WrongStart, NoRoom}
use Rattle.table.specs.Outcomes.{reported}
use Rattle.table.specs.declared.TableRefusal.{TableRefusal}
use Rattle.table.specs.declared.TableRefusal.TheVariants.{WrongSize, WrongNode, WrongText}
use Rattle.table_path.specs.Outcomes.{told}
use Rattle.table_path.specs.declared.PathRefusal.{PathRefusal}
use Rattle.table_path.specs.declared.PathRefusal.TheVariants.{Table, NoNode, SmallRoom}
use Rattle.select.specs.Selections.{selected}
use Rattle.select.specs.declared.SelectRefusal.{SelectRefusal}
use Rattle.select.specs.declared.SelectRefusal.TheVariants.{Query, Run}
use Rattle.definition.specs.Outcomes.{refuse_run}
use Rattle.refusals.specs.Numbers.{number_of_table, node_of_table, number_of_run, node_of_run, number_of_select, node_of_select, number_of_path, size_of_path, node_of_path}

pub check_tells : (r : TableRefusal) → record { refusal = number_of_table r; node = node_of_table r } ≡ reported (Err r)
unfolding reported
check_tells WrongSize = refl
check_tells (WrongNode i) = refl
check_tells (WrongText i) = refl

pub path_tells : (r : PathRefusal) (B : List ℕ) → record { refusal = number_of_path r; size = size_of_path r; node = node_of_path r; room = B } ≡ told (Err r) B
unfolding told
path_tells (Table WrongSize) B = refl
path_tells (Table (WrongNode i)) B = refl
path_tells (Table (WrongText i)) B = refl
path_tells NoNode B = refl
path_tells (SmallRoom n) B = refl

pub run_tells : (r : RunRefusal) (L : List ℕ) → record { refusal = number_of_run r; count = 0; node = node_of_run r; places = L } ≡ ran (Err r) L
unfolding ran
run_tells WrongPlan L = refl
run_tells (ByTable WrongSize) L = refl
run_tells (ByTable (WrongNode i)) L = refl
run_tells (ByTable (WrongText i)) L = refl
run_tells WrongStart L = refl
run_tells NoRoom L = refl

pub select_tells : (r : SelectRefusal) (L : List ℕ) → record { refusal = number_of_select r; count = 0; node = node_of_select r; places = L } ≡ selected (Err r) L
unfolding selected refuse_run
select_tells (Query w) L = refl
select_tells (Run r) L = run_tells r L
