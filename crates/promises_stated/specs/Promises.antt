-- The types that the promises use, each with a sentence. The contracts of the crate `promises` and the theorems of Demands.antt are made of these, and no lemma stands here.
-- What they are made of in turn stands in the crate `definition` and, for tally, in `tally_laws`: the RFC's grammar and document 01's rules, with no code of ours.
--   s             the bytes of a query                 P, R   the rooms lent to compile for the plan and for the pool, before
--   plan, pool    the bytes of a plan and of a pool    T, X   the bytes of a table and of its text
--   L, at         the lent list before, and the start position; B the room lent for a path, before; c, o, n: what an operation answers, with all that its lent rooms and places hold afterwards
-- Assumes nothing: these are definitions.
use Rattle.std.specs.Prelude.{ℕ, ◌+◌, ◌-◌, ◌≤◌, ◌<◌, ◌≡◌, List, [], ◌∷◌, ◌++◌, map, length, take, drop, get_or, replicate}
use Rattle.definition.specs.Forms.{Query}
use Rattle.definition.specs.Plans.{plan_of, pool_of}
use Rattle.definition.specs.Tables.{node_count, low_word, key_start, check_table, tree}
use Rattle.definition.specs.Tables.Checked.{accepted, sized, wrong_at, text_at}
use Rattle.definition.specs.TableOutcomes.{TableOutcome, PartOutcome, records_outcome, texts_outcome, table_outcome, text_outcome, key_outcome}
use Rattle.definition.specs.Paths.{PathOutcome, path_of, path_outcome}
use Rattle.definition.specs.Evaluation.{selected}
use Rattle.definition.specs.Outcomes.{Reading, Reads, Translates, CompileOutcome, Compiles, RunOutcome, Runs, Selects, ChecksPlan, run_by}
use Rattle.definition.specs.Outcomes.Reading.{refused, form}
use Rattle.definition_examples.specs.Texts.{bytes, hex}
use Rattle.definition_examples.specs.Sample.{sample_table, sample_text}
use Rattle.definition_examples.specs.Rows.{Row, row, plan_row}
use Rattle.table_laws.specs.Places.{Begins, part_start}
use Rattle.tally_laws.specs.Items.{occurrences}
use Rattle.tally_laws.specs.Forms.{items_of_all}
use Rattle.tally_laws.specs.Tallies.{TallyOutcome, Tallies, all_kinds}
use Rattle.tally_laws.specs.Series.{sum_of}

-- ---- what the operations promise

-- One outcome: o is an outcome that F allows, and F allows no other.
pub record Settled {A : Type 0} (F : A → Type 0) (o : A) : Type 0 where
  pub is : F o
  pub only : (o' : A) → F o' → o' ≡ o

-- what a query's bytes come to, a refusal or a query form, and nothing else
abbrev pub ReadsOnly : List ℕ → Reading → Type 0
ReadsOnly s = Settled (Reads s)

-- compile: its answer, and what both rooms hold afterwards
abbrev pub CompilesOnly : List ℕ → List ℕ → List ℕ → CompileOutcome → Type 0
CompilesOnly s P R = Settled (Compiles s P R)

-- select: its answer, and what the list holds afterwards
abbrev pub SelectsOnly : List ℕ → List ℕ → List ℕ → List ℕ → ℕ → RunOutcome → Type 0
SelectsOnly s T X L at = Settled (Selects s T X L at)

-- run: its answer, and what the list holds afterwards
abbrev pub RunsOnly : List ℕ → List ℕ → List ℕ → List ℕ → List ℕ → ℕ → RunOutcome → Type 0
RunsOnly plan pool T X L at = Settled (Runs plan pool T X L at)

-- plan check: 11, or 0
abbrev pub ChecksPlanOnly : List ℕ → List ℕ → ℕ → Type 0
ChecksPlanOnly plan pool = Settled (ChecksPlan plan pool)

-- tally: its answer, and what the counts C and the number of plans m are afterwards
abbrev pub TalliesOnly : List ℕ → List ℕ → List ℕ → ℕ → TallyOutcome → Type 0
TalliesOnly plan pool C m = Settled (Tallies plan pool C m)

-- the check of the records, that of the texts and keys, the pair of them, text of a node and key of a node: the definition computes the one outcome
abbrev pub ChecksRecordsOnly : List ℕ → List ℕ → TableOutcome → Type 0
ChecksRecordsOnly T X o = o ≡ records_outcome T X

abbrev pub ChecksTextsOnly : List ℕ → List ℕ → TableOutcome → Type 0
ChecksTextsOnly T X o = o ≡ texts_outcome T X

abbrev pub ChecksTableOnly : List ℕ → List ℕ → TableOutcome → Type 0
ChecksTableOnly T X o = o ≡ table_outcome T X

abbrev pub TextOnly : List ℕ → List ℕ → ℕ → PartOutcome → Type 0
TextOnly T X i o = o ≡ text_outcome T X i

abbrev pub KeyOnly : List ℕ → List ℕ → ℕ → PartOutcome → Type 0
KeyOnly T X i o = o ≡ key_outcome T X i

-- path of a node: its answer, and what the room B holds afterwards
abbrev pub PathOnly : List ℕ → List ℕ → ℕ → List ℕ → PathOutcome → Type 0
PathOnly T X i B o = o ≡ path_outcome T X i B

-- which part of the lent text comes with the number n: t and p are where in memory the text and the part begin, a block and a byte of it
abbrev pub TextBegins : List ℕ → ℕ → ℕ → ℕ × ℕ → ℕ × ℕ → Type 0
TextBegins T i n t p = Begins p t (part_start n (low_word T i))

abbrev pub KeyBegins : List ℕ → ℕ → ℕ → ℕ × ℕ → ℕ × ℕ → Type 0
KeyBegins T i n t p = Begins p t (part_start n (key_start T i))

-- ---- the answers, case by case

-- Compile, for what the query reads as: the answer, and what the rooms hold afterwards.
pub data CompileCase (P R : List ℕ) : Reading → CompileOutcome → Type 0 where
  -- the query is refused, and no byte changes
  refuses : (n : ℕ) → CompileCase P R (refused n) (record { refusal = n; plan_length = 0; pool_length = 0; plan_room = P; pool_room = R })
  -- 12: the plan's room or the pool's is too small; the answer carries both lengths needed, and no byte changes
  small_plan : (q : Query) → length P < length (plan_of q)
      → CompileCase P R (form q) (record { refusal = 12; plan_length = length (plan_of q); pool_length = length (pool_of q); plan_room = P; pool_room = R })
  small_pool : (q : Query) → length R < length (pool_of q)
      → CompileCase P R (form q) (record { refusal = 12; plan_length = length (plan_of q); pool_length = length (pool_of q); plan_room = P; pool_room = R })
  -- the plan and the pool stand in the first bytes of the rooms, and no byte behind them changes
  writes : (q : Query) → length (plan_of q) ≤ length P → length (pool_of q) ≤ length R
      → CompileCase P R (form q)
      (record { refusal = 0; plan_length = length (plan_of q); pool_length = length (pool_of q); plan_room = plan_of q ++ drop (length (plan_of q)) P; pool_room = pool_of q ++ drop (length (pool_of q)) R })

-- A run or a selection over an accepted table, for the nodes ns that are selected: what the list holds afterwards.
pub data Listed (ns L : List ℕ) (at : ℕ) : RunOutcome → Type 0 where
  -- the nodes fit: they stand from the start position on, and no other place changes
  listed : at + length ns ≤ length L
      → Listed ns L at (record { refusal = 0; count = length ns; node = 0; places = take at L ++ ns ++ drop (at + length ns) L })
  -- 13: the first nodes fill every place from the start position on
  filled : at ≤ length L → length L < at + length ns
      → Listed ns L at (record { refusal = 13; count = 0; node = 0; places = take at L ++ take (length L - at) ns })
  -- 14: no place changes
  beyond : length L < at → Listed ns L at (record { refusal = 14; count = 0; node = 0; places = L })

-- Run and select, for what the plan and the pool spell or what the query reads as: the answer, and what the list holds afterwards.
pub data RunCase (T X L : List ℕ) (at : ℕ) : Reading → RunOutcome → Type 0 where
  -- the plan is refused by 11, or the query by its number, and no place changes
  refuses : (n : ℕ) → RunCase T X L at (refused n) (record { refusal = n; count = 0; node = 0; places = L })
  -- 9, 10 and 17: the table is refused, by its size, at its least wrong record or at its least wrong text or key
  wrong_size_lem : (q : Query) → check_table T X ≡ sized → RunCase T X L at (form q) (record { refusal = 9; count = 0; node = 0; places = L })
  wrong_node : (q : Query) (i : ℕ) → check_table T X ≡ wrong_at i → RunCase T X L at (form q) (record { refusal = 10; count = 0; node = i; places = L })
  wrong_text : (q : Query) (i : ℕ) → check_table T X ≡ text_at i → RunCase T X L at (form q) (record { refusal = 17; count = 0; node = i; places = L })
  -- the table is accepted: the nodes are in the list, or 14 or 13
  lists : (q : Query) {o : RunOutcome} → check_table T X ≡ accepted → Listed (selected q (tree T X)) L at o → RunCase T X L at (form q) o

-- Path of a node: the answer, and what the room B holds afterwards.
pub data PathCase (T X : List ℕ) (i : ℕ) (B : List ℕ) : PathOutcome → Type 0 where
  -- 9, 10 and 17: the table is refused
  wrong_size_lem : check_table T X ≡ sized → PathCase T X i B (record { refusal = 9; size = 0; node = 0; room = B })
  wrong_node : (j : ℕ) → check_table T X ≡ wrong_at j → PathCase T X i B (record { refusal = 10; size = 0; node = j; room = B })
  wrong_text : (j : ℕ) → check_table T X ≡ text_at j → PathCase T X i B (record { refusal = 17; size = 0; node = j; room = B })
  -- 15: there is no such node
  no_node : check_table T X ≡ accepted → node_count T ≤ i → PathCase T X i B (record { refusal = 15; size = 0; node = 0; room = B })
  -- 16: the room is too small; the answer carries the length needed, and no byte changes
  small_room : check_table T X ≡ accepted → i < node_count T → length B < length (path_of T X i) → PathCase T X i B (record { refusal = 16; size = length (path_of T X i); node = 0; room = B })
  -- the path stands in the first bytes of the room, and no byte behind it changes
  writes : check_table T X ≡ accepted → i < node_count T → length (path_of T X i) ≤ length B
      → PathCase T X i B (record { refusal = 0; size = length (path_of T X i); node = 0; room = path_of T X i ++ drop (length (path_of T X i)) B })

-- A run or a selection that found the node i alone: it stands at the start position, and no other place changes.
abbrev pub alone : ℕ → List ℕ → ℕ → RunOutcome
alone i L at = record { refusal = 0; count = 1; node = 0; places = take at L ++ (i ∷ []) ++ drop (at + 1) L }

-- ---- what compile writes

-- the plan and the pool that an answer leaves in the rooms: as many first bytes as it says
abbrev pub plan_in : CompileOutcome → List ℕ
plan_in c = take c.plan_length c.plan_room

abbrev pub pool_in : CompileOutcome → List ℕ
pool_in c = take c.pool_length c.pool_room

-- They are the plan and the pool of the form q, and the bytes behind them are as before.
pub record Holds (q : Query) (P R : List ℕ) (c : CompileOutcome) : Type 0 where
  pub plan : plan_in c ≡ plan_of q
  pub pool : pool_in c ≡ pool_of q
  pub behind_plan : drop c.plan_length c.plan_room ≡ drop c.plan_length P
  pub behind_pool : drop c.pool_length c.pool_room ≡ drop c.pool_length R

-- The query has a form, and its plan and its pool were written.
pub record PlanWritten (s P R : List ℕ) (c : CompileOutcome) : Type 0 where
  pub query : Query
  pub reads : Reads s (form query)
  pub holds : Holds query P R c

-- At most so many bytes of plan are written for each byte of a query, and one of pool.
abbrev pub plan_bytes : ℕ
plan_bytes = 13

-- ---- plan bytes from anywhere

-- The two ways that a plan and a pool can go, with the refusal that plan check answers.
pub data Stored (plan pool : List ℕ) : ℕ → Type 0 where
  -- plan check refuses, no form translates to them, and every run is refused with no place changed
  refuses : ((q : Query) → Translates q plan pool → ⊥)
      → ((T X L : List ℕ) (at : ℕ) (o : RunOutcome) → Runs plan pool T X L at o → o ≡ record { refusal = 11; count = 0; node = 0; places = L })
      → Stored plan pool 11
  -- plan check accepts, one form translates to them and no other, and every run is what the definition gives for the form
  spells : (q : Query) → Translates q plan pool → ((p : Query) → Translates p plan pool → p ≡ q)
      → ((T X L : List ℕ) (at : ℕ) (o : RunOutcome) → Runs plan pool T X L at o → o ≡ run_by (form q) T X L at)
      → Stored plan pool 0

-- A table over the sample's text, and the nodes that a plan selects from it.
pub record Version : Type 0 where
  pub table : List ℕ
  pub nodes : List ℕ

-- what every run of a plan on a version leaves in every list
abbrev pub Serves : List ℕ → List ℕ → Version → Type 0
Serves plan pool v = (L : List ℕ) (at : ℕ) (o : RunOutcome) → Runs plan pool v.table sample_text L at o → Listed v.nodes L at o

-- one plan on all of them
abbrev pub AllServed : List ℕ → List ℕ → List Version → Type 0
AllServed plan pool [] = Unit {0}
AllServed plan pool (v ∷ vs) = Serves plan pool v × AllServed plan pool vs

-- ---- sample rows

-- A row's query s and nodes ns on a table T with the text X, for every list and start position.
pub record Answers (s T X ns : List ℕ) : Type 0 where
  -- select has an outcome that lists the nodes
  pub some : (L : List ℕ) (at : ℕ) → (o : RunOutcome) × Selects s T X L at o × Listed ns L at o
  -- and it is what select answers
  pub select : (L : List ℕ) (at : ℕ) (o : RunOutcome) → SelectsOnly s T X L at o → Listed ns L at o
  -- what compile wrote, where it succeeds, runs so too
  pub run : (P R : List ℕ) (c : CompileOutcome) → CompilesOnly s P R c → c.refusal ≡ 0 → (L : List ℕ) (at : ℕ) (o : RunOutcome)
      → Runs (plan_in c) (pool_in c) T X L at o → Listed ns L at o

-- A row that is a plan and a pool, with nodes ns on a table T with the text X, for every list and start position.
pub record PlanAnswers (plan pool T X ns : List ℕ) : Type 0 where
  -- plan check accepts them
  pub check : (n : ℕ) → ChecksPlan plan pool n → n ≡ 0
  -- run has an outcome that lists the nodes
  pub some : (L : List ℕ) (at : ℕ) → (o : RunOutcome) × Runs plan pool T X L at o × Listed ns L at o
  -- and it is what run answers
  pub run : (L : List ℕ) (at : ℕ) (o : RunOutcome) → Runs plan pool T X L at o → Listed ns L at o

abbrev pub RowAnswers : Row → Type 0
RowAnswers (row q ns) = Answers (bytes q) sample_table sample_text ns
RowAnswers (plan_row plan pool q ns) = PlanAnswers (hex plan) (bytes pool) sample_table sample_text ns

-- every row of a table of rows, on the sample table
abbrev pub AllAnswer : List Row → Type 0
AllAnswer [] = Unit {0}
AllAnswer (r ∷ rs) = RowAnswers r × AllAnswer rs

-- ---- what plans consist of (W14)

-- A call of tally that changed nothing: the counts are C and the number of plans m, as before.
pub record Unchanged (C : List ℕ) (m : ℕ) (o : TallyOutcome) : Type 0 where
  pub counts : o.counts ≡ C
  pub plans : o.plans ≡ m

-- The counts C and the number m after a series of calls of tally that began with all counts 0: those on the plans ps were answered by 0, and the others by a refusal.
pub data Taken : List ℕ → ℕ → List (List ℕ) → Type 0 where
  start : Taken (replicate all_kinds 0) 0 []
  taken : {C plan pool : List ℕ} {m : ℕ} {ps : List (List ℕ)} {o : TallyOutcome} → Taken C m ps → Tallies plan pool C m o → o.refusal ≡ 0
      → Taken o.counts o.plans (ps ++ plan ∷ [])
  passed : {C plan pool : List ℕ} {m : ℕ} {ps : List (List ℕ)} {o : TallyOutcome} → Taken C m ps → Tallies plan pool C m o → (o.refusal ≡ 0 → ⊥)
      → Taken o.counts o.plans ps

-- What they then hold: the plans taken are those of some forms, m is how many, each count is the number of occurrences of its kind among the forms' items, and the counts add up to these items.
pub record Counted (C : List ℕ) (m : ℕ) (ps : List (List ℕ)) : Type 0 where
  pub forms : List Query
  pub plans_of : map plan_of forms ≡ ps
  pub plans : m ≡ length ps
  pub each : (k : ℕ) → k < all_kinds → get_or C k 0 ≡ occurrences k (items_of_all forms)
  pub all : sum_of C ≡ length (items_of_all forms)
