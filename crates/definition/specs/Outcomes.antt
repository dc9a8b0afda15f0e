-- The outcomes of compile, run and plan check: for an input, the answer's numbers and what every lent place holds afterwards.
-- Whether some form spells a plan is not computed here. So these outcomes are relations between inputs and outcomes.
-- That two outcomes of one input coincide is proved where the reader and the plan check are.
use Rattle.std.specs.Prelude.{ℕ, ◌≤◌, ◌≡◌, List, Bool, true, false, ◌&&◌, leb, length}
use Rattle.std.proofs.lemmas.List.Edits.{sets}
use Rattle.definition.specs.Limits.{max_plan}
use Rattle.definition.specs.Forms.{Query}
use Rattle.definition.specs.QueryForms.{is_form}
use Rattle.definition.specs.Plans.{plan_of, pool_of}
-- what run shares with select, under the names of this module too
pub use Rattle.definition.specs.Selecting.{Reading, refused, form, Reads, too_early, no_tree, has_tree, RunOutcome, Selects}
unfoldable pub use Rattle.definition.specs.Selecting.{early, judge, refuse_run, place, place_from, run_table, run_by}

-- ---- from a plan and a pool to their form

-- the plan and the pool are the translation of the form, and neither is over 65,535 bytes
pub record Translates (q : Query) (plan pool : List ℕ) : Type 0 where
  pub is_query : is_form q ≡ true
  pub is_plan : plan_of q ≡ plan
  pub is_pool : pool_of q ≡ pool
  pub plan_fits : length plan ≤ max_plan
  pub pool_fits : length pool ≤ max_plan

pub data Spells (plan pool : List ℕ) : Reading → Type 0 where
  spelled : (q : Query) → Translates q plan pool → Spells plan pool (form q)
  not_spelled : ((q : Query) → Translates q plan pool → ⊥) → Spells plan pool (refused 11)

unfoldable pub refusal_of : Reading → ℕ
refusal_of (refused n) = n
refusal_of (form q) = 0

-- ---- compile

-- the refusal, 0 for none; the two lengths; what the lent plan and pool rooms hold afterwards
pub record CompileOutcome : Type 0 where
  pub refusal : ℕ
  pub plan_length : ℕ
  pub pool_length : ℕ
  pub plan_room : List ℕ
  pub pool_room : List ℕ

-- 12: "plan or pool room too small; answer carries both lengths needed"
unfoldable pub write : Bool → List ℕ → List ℕ → List ℕ → List ℕ → CompileOutcome
write true plan pool P L = record { refusal = 0; plan_length = length plan; pool_length = length pool; plan_room = sets P 0 plan; pool_room = sets L 0 pool }
write false plan pool P L = record { refusal = 12; plan_length = length plan; pool_length = length pool; plan_room = P; pool_room = L }

unfoldable pub compile_by : Reading → List ℕ → List ℕ → CompileOutcome
compile_by (refused n) P L = record { refusal = n; plan_length = 0; pool_length = 0; plan_room = P; pool_room = L }
compile_by (form q) P L = write (leb (length (plan_of q)) (length P) && leb (length (pool_of q)) (length L)) (plan_of q) (pool_of q) P L

-- "Compile: 1, 2, 3, 4 by grammar, then the first of 4, 5, 6 in the Rust's walk, then 7, 8, 12."
pub record Compiles (s P L : List ℕ) (o : CompileOutcome) : Type 0 where
  pub reading : Reading
  pub reads : Reads s reading
  pub is : o ≡ compile_by reading P L

-- ---- run and plan check

-- "Run: 11, 9, 10, 14, 13", with 17 behind 10 (document 02, W6).
pub record Runs (plan pool T X L : List ℕ) (at : ℕ) (o : RunOutcome) : Type 0 where
  pub reading : Reading
  pub reads : Spells plan pool reading
  pub is : o ≡ run_by reading T X L at

-- "Plan check: 11."
pub record ChecksPlan (plan pool : List ℕ) (n : ℕ) : Type 0 where
  pub reading : Reading
  pub reads : Spells plan pool reading
  pub is : n ≡ refusal_of reading

-- "All that compiles keeps to it": what compiles is a query form, and its plan and pool are within 65,535 bytes, so plan check and run take them.
-- This is a statement about the definitions above; the crate `compile_forms` proves it.
abbrev pub CompiledKeeps : Type 0
CompiledKeeps = (s : List ℕ) (q : Query) → Reads s (form q) → Translates q (plan_of q) (pool_of q)
