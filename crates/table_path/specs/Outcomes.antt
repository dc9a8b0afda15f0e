-- What document 02 reports for each answer of path of a node. Assumes nothing: these are definitions.
use Rattle.std.specs.Prelude.{ℕ, ◌≡◌, List, ltb, Result, Ok, Err}
use Rattle.definition.specs.Tables.{node_count}
use Rattle.definition.specs.Tables.Checked.{accepted}
use Rattle.definition.specs.Paths.{PathOutcome, path_of, path_by}
use Rattle.table.specs.declared.TableRefusal.TheVariants.{WrongSize, WrongNode, WrongText}
use Rattle.table_path.specs.declared.PathRefusal.{PathRefusal}
use Rattle.table_path.specs.declared.PathRefusal.TheVariants.{Table, NoNode, SmallRoom}

-- the outcome that an answer is, with what the room holds afterwards
unfoldable pub told : Result ℕ PathRefusal → List ℕ → PathOutcome
told (Ok n) B = record { refusal = 0; size = n; node = 0; room = B }
told (Err (Table WrongSize)) B = record { refusal = 9; size = 0; node = 0; room = B }
told (Err (Table (WrongNode i))) B = record { refusal = 10; size = 0; node = i; room = B }
told (Err (Table (WrongText i))) B = record { refusal = 17; size = 0; node = i; room = B }
told (Err NoNode) B = record { refusal = 15; size = 0; node = 0; room = B }
told (Err (SmallRoom n)) B = record { refusal = 16; size = n; node = 0; room = B }

-- the same over an accepted table
abbrev pub ToldIn : List ℕ → List ℕ → ℕ → List ℕ → Result ℕ PathRefusal → List ℕ → Type 0
ToldIn T X i B₀ r B = told r B ≡ path_by accepted (ltb i (node_count T)) (path_of T X i) B₀
