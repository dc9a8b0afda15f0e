-- The theorems, continued: those that rest on other theorems of this crate, under the numbers of specs/Demands.antt, which says how to read them.
use Rattle.std.specs.Prelude.{ℕ, ◌*◌, ◌≤◌, ◌<◌, ◌↔◌, ◌≡◌, refl, List, length}
use Rattle.definition.specs.Limits.{max_query, max_plan}
use Rattle.definition.specs.Forms.{Query}
use Rattle.definition.specs.Tables.{node_count, check_table, tree}
use Rattle.definition.specs.Tables.Checked.{accepted}
use Rattle.definition.specs.TableOutcomes.{TableOutcome, PartOutcome}
use Rattle.definition.specs.Paths.{PathOutcome, path_of}
use Rattle.definition.specs.Evaluation.{selected}
use Rattle.definition.specs.Outcomes.{Reading, Reads, Spells, CompileOutcome, Compiles, RunOutcome, Runs, Selects, ChecksPlan}
use Rattle.definition.specs.Outcomes.Reading.{form}
use Rattle.definition_examples.specs.Rows.{starred_rows}
use Rattle.promises_stated.specs.Promises.{ReadsOnly, CompilesOnly, SelectsOnly, RunsOnly, ChecksTableOnly, TextOnly, KeyOnly, PathOnly, CompileCase, Listed, RunCase, alone, plan_in, pool_in, PlanWritten, Stored, AllServed, AllAnswer, plan_bytes}
use Rattle.promises_stated.specs.Refusals.{First, NoText, NoKey, compile_rules, select_rules, run_rules, table_rules, part_rules, path_rules}
use Rattle.promises_stated.specs.Firsts.{exactly}
use Rattle.promises_stated.proofs.Exactly.{compile_first, select_first, run_first, table_check_first, text_of_first, key_of_first}
use Rattle.promises_stated.proofs.Cases.{compile_cases, select_cases, run_cases}
use Rattle.promises_stated.proofs.Written.{written, written_only, enough}
use Rattle.promises_stated.proofs.Rooms.{no_twelve, never_twelve}
use Rattle.promises_stated.proofs.Running.{written_lists}
use Rattle.promises_stated.proofs.Stored.{stored}
use Rattle.promises_stated.specs.Served.{serving_plan, serving_pool, versions}
use Rattle.promises_stated.proofs.Served.{served}
use Rattle.promises_stated.proofs.Selected.{starred_answers}
use Rattle.promises_stated.specs.Matching.{never_first}
use Rattle.promises_stated.proofs.Paths.{path_first, path_compiles, path_runs, path_selected}

-- ---- 1. Each operation has one outcome for each input. Its contract says so: two outcomes that are allowed beside the one answered coincide.

-- CompileCase, RunCase and PathCase list the answers, each with its condition and with what every lent byte and place holds
pub compile_answers : {s P R : List ℕ} {c : CompileOutcome} → Compiles s P R c → (x : Reading) × Reads s x × CompileCase P R x c
compile_answers = compile_cases

pub select_answers : {s T X L : List ℕ} {at : ℕ} {o : RunOutcome} → Selects s T X L at o → (x : Reading) × Reads s x × RunCase T X L at x o
select_answers = select_cases

pub run_answers : {plan pool T X L : List ℕ} {at : ℕ} {o : RunOutcome} → Runs plan pool T X L at o → (x : Reading) × Spells plan pool x × RunCase T X L at x o
run_answers = run_cases

-- Exactly when: each operation answers n if and only if n is the first number of its order whose condition holds, or n is 0 and no condition holds.
-- specs/Refusals.antt has a condition for each row of document 01's table, and the orders.
pub compile_exactly : {s P R : List ℕ} {c : CompileOutcome} → CompilesOnly s P R c → (n : ℕ) → (c.refusal ≡ n) ↔ First (compile_rules s P R) n
compile_exactly {s} {P} {R} k = exactly (compile_rules s P R) (compile_first k)

pub select_exactly : {s T X L : List ℕ} {at : ℕ} {o : RunOutcome} → SelectsOnly s T X L at o → (n : ℕ) → (o.refusal ≡ n) ↔ First (select_rules s T X L at) n
select_exactly {s} {T} {X} {L} {at} k = exactly (select_rules s T X L at) (select_first k)

pub run_exactly : {plan pool T X L : List ℕ} {at : ℕ} {o : RunOutcome} → RunsOnly plan pool T X L at o → (n : ℕ) → (o.refusal ≡ n) ↔ First (run_rules plan pool T X L at) n
run_exactly {plan} {pool} {T} {X} {L} {at} k = exactly (run_rules plan pool T X L at) (run_first k.is)

pub table_check_exactly : (T X : List ℕ) {o : TableOutcome} → ChecksTableOnly T X o → (n : ℕ) → (o.refusal ≡ n) ↔ First (table_rules T X) n
table_check_exactly T X k = exactly (table_rules T X) (table_check_first T X k)

pub text_exactly : (T X : List ℕ) (i : ℕ) {o : PartOutcome} → TextOnly T X i o → (n : ℕ) → (o.number ≡ n) ↔ First (part_rules (NoText T i) T X) n
text_exactly T X i k = exactly (part_rules (NoText T i) T X) (text_of_first T X i k)

pub key_exactly : (T X : List ℕ) (i : ℕ) {o : PartOutcome} → KeyOnly T X i o → (n : ℕ) → (o.number ≡ n) ↔ First (part_rules (NoKey T i) T X) n
key_exactly T X i k = exactly (part_rules (NoKey T i) T X) (key_of_first T X i k)

pub path_exactly : (T X : List ℕ) (i : ℕ) (B : List ℕ) {o : PathOutcome} → PathOnly T X i B o → (n : ℕ) → (o.refusal ≡ n) ↔ First (path_rules T X i B) n
path_exactly T X i B k = exactly (path_rules T X i B) (path_first T X i B k)

-- 7 is given by no operation (document 02, W4): "7 is no longer met by any input". The two that gave it:
pub compile_never_seven : {s P R : List ℕ} {c : CompileOutcome} → CompilesOnly s P R c → c.refusal ≡ 7 → ⊥
compile_never_seven {s} {P} {R} k e = never_first (compile_rules s P R) 7 refl ((compile_exactly k 7).0 e)

pub select_never_seven : {s T X L : List ℕ} {at : ℕ} {o : RunOutcome} → SelectsOnly s T X L at o → o.refusal ≡ 7 → ⊥
select_never_seven {s} {T} {X} {L} {at} k e = never_first (select_rules s T X L at) 7 refl ((select_exactly k 7).0 e)

-- and a run
pub run_never_seven : {plan pool T X L : List ℕ} {at : ℕ} {o : RunOutcome} → RunsOnly plan pool T X L at o → o.refusal ≡ 7 → ⊥
run_never_seven {plan} {pool} {T} {X} {L} {at} k e = never_first (run_rules plan pool T X L at) 7 refl ((run_exactly k 7).0 e)

-- ---- 2. What compile writes runs as the definition says, on every accepted table, from every position of every list; and select answers the same.

-- compile that succeeds wrote the plan and the pool of the query's form into the first bytes of its rooms, and nothing behind them
pub compile_writes : {s P R : List ℕ} {c : CompileOutcome} → Compiles s P R c → c.refusal ≡ 0 → PlanWritten s P R c
compile_writes = written

-- and the query has no other reading
pub compile_settles : {s P R : List ℕ} {c : CompileOutcome} → CompilesOnly s P R c → c.refusal ≡ 0 → (w : PlanWritten s P R c) → ReadsOnly s (form w.query)
compile_settles = written_only

-- rooms of 65,535 bytes are enough for every query that has a form
pub rooms_enough : {s P R : List ℕ} {c : CompileOutcome} (q : Query) → Reads s (form q) → CompilesOnly s P R c → max_plan ≤ length P → max_plan ≤ length R → c.refusal ≡ 0
rooms_enough = enough

-- and so are rooms of 13 bytes for each byte of the query, and of one for the pool (`plan_room_lem` and `pool_room_lem` in specs/Demands.antt)
pub rooms_by_length : {s P R : List ℕ} {c : CompileOutcome} → CompilesOnly s P R c → plan_bytes * length s ≤ length P → length s ≤ length R → c.refusal ≡ 12 → ⊥
rooms_by_length = no_twelve

-- and rooms of 53,248 and 4,096 bytes are never too small, whatever the query
pub rooms_for_all : {s P R : List ℕ} {c : CompileOutcome} → CompilesOnly s P R c → plan_bytes * max_query ≤ length P → max_query ≤ length R → c.refusal ≡ 12 → ⊥
rooms_for_all = never_twelve

-- a run of what compile wrote lists the nodes that the query selects from the table's tree; Listed says where, and what 13 and 14 leave
pub written_runs : {s P R : List ℕ} {c : CompileOutcome} (w : PlanWritten s P R c) (T X L : List ℕ) (at : ℕ) {o : RunOutcome}
    → check_table T X ≡ accepted → Runs (plan_in c) (pool_in c) T X L at o → Listed (selected w.query (tree T X)) L at o
written_runs w T X L at = written_lists w T X L at

-- ---- 3. One plan serves before and after any value changes kind: for any two accepted tables, the runs of one plan give each table's list.

pub one_plan_serves : {s P R : List ℕ} {c : CompileOutcome} (w : PlanWritten s P R c) (T X T' X' L L' : List ℕ) (at at' : ℕ) {o o' : RunOutcome}
    → check_table T X ≡ accepted → check_table T' X' ≡ accepted → Runs (plan_in c) (pool_in c) T X L at o → Runs (plan_in c) (pool_in c) T' X' L' at' o'
    → Listed (selected w.query (tree T X)) L at o × Listed (selected w.query (tree T' X')) L' at' o'
one_plan_serves w T X T' X' L L' at at' h h' r r' = (written_runs w T X L at h r, written_runs w T' X' L' at' h' r')

-- for one, the plan of `$.a[?@ >= 20]` on five tables whose values differ in kind
pub one_plan_served : AllServed serving_plan serving_pool versions
one_plan_served = served

-- ---- 4. Plan bytes from elsewhere are refused by 11, with the list as it was, or they spell exactly one query form and run as that form. Stored says which, by what plan check answers.

pub stored_plans : {plan pool : List ℕ} {n : ℕ} → ChecksPlan plan pool n → Stored plan pool n
stored_plans = stored

-- ---- 5. Document 01's starred sample rows: what select answers for each, and what running its compiled plan answers.
-- One of them is a plan (W12), which plan check accepts and run answers; its query is refused by 5 (`retired` in specs/Refused.antt).

pub starred_rows_lem : AllAnswer starred_rows
starred_rows_lem = starred_answers

-- ---- 8. Normalized Paths (W2). `path_of T X i` (definition/specs/Paths.antt) is the path of node i, by ranges of children and RFC 9535's words.

-- a path of at most 4,096 bytes, compiled into rooms of 65,535 bytes and run, selects that node alone, in every list with a place from the start position on
pub path_selects : (T X : List ℕ) → check_table T X ≡ accepted → (i : ℕ) → i < node_count T → length (path_of T X i) ≤ max_query
    → {P R : List ℕ} {c : CompileOutcome} → CompilesOnly (path_of T X i) P R c → max_plan ≤ length P → max_plan ≤ length R
    → (c.refusal ≡ 0) × ((L : List ℕ) (at : ℕ) (o : RunOutcome) → at < length L → Runs (plan_in c) (pool_in c) T X L at o → o ≡ alone i L at)
path_selects T X h i l m k a b = let z = path_compiles T X h i l m k a b in (z, λ L at o p r. path_runs T X h i l m k z p r)

-- and so does select of it
pub path_select : (T X : List ℕ) → check_table T X ≡ accepted → (i : ℕ) → i < node_count T → length (path_of T X i) ≤ max_query
    → {L : List ℕ} {at : ℕ} {o : RunOutcome} → at < length L → SelectsOnly (path_of T X i) T X L at o → o ≡ alone i L at
path_select T X h i l m p k = path_selected T X h i l m p k
