-- The theorems: what is proved of the product as a whole, for a reader who is no prover. Every statement below is proved.
-- Those that rest on other theorems of this crate stand in proofs/Demands.antt, under the same numbers: 3, 4 and 5 whole, and parts of 1, 2 and 8.
-- `A → B → C` says that C holds wherever A and B do, `A × B` that both hold, `A ⊎ B` that one of them does, `(x : A) × B` that some x is such that B, `A ↔ B` that each follows from the other.
-- What the letters and the types are stands in Promises.antt, and when each operation refuses in Refusals.antt. The contracts of the crate `promises`, on which the linked
-- library stands, say of each operation's answer:
--   compile        CompilesOnly s P R c               check_plan     ChecksPlanOnly plan pool n
--   select         SelectsOnly s T X L at o           check_records  ChecksRecordsOnly T X o
--   run            RunsOnly plan pool T X L at o      check_texts    ChecksTextsOnly T X o
--   tally          TalliesOnly plan pool C m o        check_table    ChecksTableOnly T X o: the pair
--   path_of_node   PathOnly T X i B o                 text_of_node   TextOnly T X i o, and TextBegins: which part of the text it is
--                                                     key_of_node    KeyOnly T X i o, and KeyBegins
-- where C are the counts before and m is the number of plans.
-- None of them requires anything, so they hold for all input. Each operation also ends on all input: the toolchain's logic is one of total correctness (its guide DESIGN,
-- "Termination": a triple holds only of code that ends, and a loop or a cycle of calls is shown to end by a measure), so a function that is proved ends wherever its `requires` holds.
-- That is proved of its run in the logic, and not of the compiled binary (the guide says so too).
use Rattle.std.specs.Prelude.{ℕ, ◌*◌, ◌≤◌, ◌<◌, ◌↔◌, ◌≡◌, refl, List, [], ◌∷◌, true, ℤ, length, take, replicate}
use Rattle.std.proofs.Common.{sym, ap, ◌∙◌}
use Rattle.std.proofs.Math.Option.{Option, none}
use Rattle.regex_definition.specs.Regexp.{Regexp, Describes}
use Rattle.regex_definition.specs.Scope.{Scope, part, widen, Part}
use Rattle.definition.specs.Values.{Json}
use Rattle.definition.specs.Forms.{Query, Argument}
use Rattle.definition.specs.Forms.Test.{regex}
use Rattle.definition.specs.Plans.{plan_of, pool_of}
use Rattle.definition.specs.Slices.{slice_places}
use Rattle.definition.specs.StandardSlices.{rfc_places}
use Rattle.definition.specs.Tables.{node_count, record_right, text_right, check_records, check_texts, and_then, check_table}
use Rattle.definition.specs.Tables.Checked.{accepted, wrong_at, text_at}
use Rattle.definition.specs.TableOutcomes.{TableOutcome, PartOutcome}
use Rattle.definition.specs.Paths.{PathOutcome, path_of}
use Rattle.definition.specs.Evaluation.{selected, eval_test, eval_argument}
use Rattle.definition.specs.Outcomes.{Reads, CompileOutcome, RunOutcome, Runs, ChecksPlan, run_by}
use Rattle.definition.specs.Outcomes.Reading.{form}
use Rattle.definition_standards.specs.Slices.{Standard, slices_standard}
use Rattle.definition_standards.proofs.Slices.{no_start_standard}
use Rattle.table_laws.specs.Joined.{node_right}
use Rattle.table_laws.specs.Pair.{both_accept, accept_both}
use Rattle.table_laws.specs.Places.{begins_one}
use Rattle.table_path_laws.specs.Normalized.{Normalized}
use Rattle.table_path_laws.specs.Normalized as addresses
use Rattle.table_path_laws.specs.Unlike as unlike
use Rattle.plan_laws.specs.One.{checks_one, runs_one}
use Rattle.tally_laws.specs.Items.{kinds_of}
use Rattle.tally_laws.specs.Forms.{items_of}
use Rattle.tally_laws.specs.Tallies.{TallyOutcome, Tallies, tally_by, with_plan, all_kinds}
use Rattle.tally_laws.proofs.Meets.{plan_items}
use Rattle.tally_laws.specs.Taken.{occurring, example, example_counts}
use Rattle.promises_stated.specs.Promises.{Settled, SelectsOnly, ChecksPlanOnly, TalliesOnly, ChecksRecordsOnly, ChecksTextsOnly, ChecksTableOnly, TextOnly, TextBegins, KeyOnly, KeyBegins, PathOnly, PathCase, plan_in, pool_in, PlanWritten, Unchanged, Taken, Counted, plan_bytes}
use Rattle.promises_stated.specs.Refusals.{First, WrongSize, LeastWrong, plan_rules, record_rules, text_rules, tally_rules}
use Rattle.promises_stated.specs.Firsts.{exactly}
use Rattle.promises_stated.specs.Checks.{wrong_why, text_why, records_least, texts_least, accepted_joined, texts_joined}
use Rattle.promises_stated.specs.Exactly.{plan_check_first, records_check_first, texts_check_first, tally_first}
use Rattle.promises_stated.specs.Rooms.{plan_within, pool_within, ten_slices, ten_slices_form, ten_slices_lem}
use Rattle.promises_stated.specs.Running.{runs_iff, written_passes, written_selects}
use Rattle.promises_stated.specs.Series.{leaves, series}
use Rattle.promises_stated.specs.Matching.{Matches, In, asking, Asked, test_matches, asking_selects, any_part}
use Rattle.promises_stated.specs.Paths.{path_case, case_written}

-- ---- 1. Each operation has one outcome for each input. Its contract says so: two outcomes that are allowed beside the one answered coincide.

pub one_outcome : {A : Type 0} {F : A → Type 0} {c o o' : A} → Settled F c → F o → F o' → o ≡ o'
one_outcome {o = o} {o' = o'} k a b = k.only o a ∙ sym (k.only o' b)

-- Of the operations whose outcome no reader of queries settles, no contract is needed for it.
pub one_run : {plan pool T X L : List ℕ} {at : ℕ} {o o' : RunOutcome} → Runs plan pool T X L at o → Runs plan pool T X L at o' → o ≡ o'
one_run = runs_one

pub one_plan_check : {plan pool : List ℕ} {m n : ℕ} → ChecksPlan plan pool m → ChecksPlan plan pool n → m ≡ n
one_plan_check = checks_one

pub one_tally : {plan pool C : List ℕ} {m : ℕ} {o o' : TallyOutcome} → Tallies plan pool C m o → Tallies plan pool C m o' → o ≡ o'
one_tally {plan} {C = C} {m = m} a b = a.is ∙ ap (λ (z : ℕ). tally_by z plan C m) (checks_one a.checks b.checks) ∙ sym b.is

pub one_records_check : (T X : List ℕ) {o o' : TableOutcome} → ChecksRecordsOnly T X o → ChecksRecordsOnly T X o' → o ≡ o'
one_records_check T X a b = a ∙ sym b

pub one_texts_check : (T X : List ℕ) {o o' : TableOutcome} → ChecksTextsOnly T X o → ChecksTextsOnly T X o' → o ≡ o'
one_texts_check T X a b = a ∙ sym b

pub one_table_check : (T X : List ℕ) {o o' : TableOutcome} → ChecksTableOnly T X o → ChecksTableOnly T X o' → o ≡ o'
one_table_check T X a b = a ∙ sym b

pub one_text : (T X : List ℕ) (i : ℕ) {o o' : PartOutcome} → TextOnly T X i o → TextOnly T X i o' → o ≡ o'
one_text T X i a b = a ∙ sym b

pub one_key : (T X : List ℕ) (i : ℕ) {o o' : PartOutcome} → KeyOnly T X i o → KeyOnly T X i o' → o ≡ o'
one_key T X i a b = a ∙ sym b

pub one_path : (T X : List ℕ) (i : ℕ) (B : List ℕ) {o o' : PathOutcome} → PathOnly T X i B o → PathOnly T X i B o' → o ≡ o'
one_path T X i B a b = a ∙ sym b

-- and the part is one: its bytes are the outcome's, and it begins at one place
pub one_text_place : (T : List ℕ) (i n : ℕ) {t p p' : ℕ × ℕ} → TextBegins T i n t p → TextBegins T i n t p' → p ≡ p'
one_text_place T i n = begins_one

pub one_key_place : (T : List ℕ) (i n : ℕ) {t p p' : ℕ × ℕ} → KeyBegins T i n t p → KeyBegins T i n t p' → p ≡ p'
one_key_place T i n = begins_one

-- PathCase lists the answers of path of a node, each with its condition and with what every lent byte holds; those of compile, select and run: proofs/Demands.antt
pub path_answers : (T X : List ℕ) (i : ℕ) (B : List ℕ) {o : PathOutcome} → PathOnly T X i B o → PathCase T X i B o
path_answers T X i B k = path_case T X i B k

-- Exactly when: each operation answers n if and only if n is the first number of its order whose condition holds, or n is 0 and no condition holds.
-- Refusals.antt has a condition for each row of document 01's table, and the orders. The other operations: proofs/Demands.antt.
pub plan_check_exactly : {plan pool : List ℕ} {m : ℕ} → ChecksPlanOnly plan pool m → (n : ℕ) → (m ≡ n) ↔ First (plan_rules plan pool) n
plan_check_exactly {plan} {pool} k = exactly (plan_rules plan pool) (plan_check_first k.is)

pub records_check_exactly : (T X : List ℕ) {o : TableOutcome} → ChecksRecordsOnly T X o → (n : ℕ) → (o.refusal ≡ n) ↔ First (record_rules T X) n
records_check_exactly T X k = exactly (record_rules T X) (records_check_first T X k)

pub texts_check_exactly : (T X : List ℕ) {o : TableOutcome} → ChecksTextsOnly T X o → (n : ℕ) → (o.refusal ≡ n) ↔ First (text_rules T X) n
texts_check_exactly T X k = exactly (text_rules T X) (texts_check_first T X k)

pub tally_exactly : {plan pool C : List ℕ} {m : ℕ} {o : TallyOutcome} → TalliesOnly plan pool C m o → (n : ℕ) → (o.refusal ≡ n) ↔ First (tally_rules plan pool C m) n
tally_exactly {plan} {pool} {C} {m} k = exactly (tally_rules plan pool C m) (tally_first k.is)

-- the node that comes with 10 is the least at which a rule on records fails, and the node that comes with 17 the least at which a rule on texts and keys fails
pub ten_names_least : (T X : List ℕ) (i : ℕ) → check_table T X ≡ wrong_at i → LeastWrong (record_right T) (node_count T) i
ten_names_least T X i h = (wrong_why T X i h).1

pub seventeen_names_least : (T X : List ℕ) (i : ℕ) → check_table T X ≡ text_at i → LeastWrong (text_right T X) (node_count T) i
seventeen_names_least T X i h = (text_why T X i h).2

-- ---- 2. What compile writes runs as the definition says, on every accepted table, from every position of every list; and select answers the same.

-- a plan has at most 13 bytes for each byte of its query, and a pool one: so rooms of that size are enough too (`rooms_by_length` in proofs/Demands.antt)
pub plan_room_lem : {s : List ℕ} (q : Query) → Reads s (form q) → length (plan_of q) ≤ plan_bytes * length s
plan_room_lem = plan_within

pub pool_room_lem : {s : List ℕ} (q : Query) → Reads s (form q) → length (pool_of q) ≤ length s
pool_room_lem = pool_within

-- 12 for each byte would not do: the query `$[:,:,:,:,:,:,:,:,:,:]`, of 22 bytes, has a plan of 265
pub twelve_too_few : Reads ten_slices (form ten_slices_form) × (12 * length ten_slices < length (plan_of ten_slices_form))
twelve_too_few = ten_slices_lem

-- plan check accepts what compile wrote
pub written_checks : {s P R : List ℕ} {c : CompileOutcome} {n : ℕ} → PlanWritten s P R c → ChecksPlan (plan_in c) (pool_in c) n → n ≡ 0
written_checks w k = written_passes w k

-- select of the query answers what a run of it answers, on every table, the refused ones too
pub select_as_run : {s P R T X L : List ℕ} {at : ℕ} {c : CompileOutcome} {o o' : RunOutcome} → PlanWritten s P R c → SelectsOnly s T X L at o → Runs (plan_in c) (pool_in c) T X L at o' → o ≡ o'
select_as_run w k r = written_selects w k r

-- the outcomes of running a compiled query's plan are what the definition gives for the query, and nothing else
pub plan_runs : {s : List ℕ} (q : Query) → Reads s (form q) → (T X L : List ℕ) (at : ℕ) (o : RunOutcome) → Runs (plan_of q) (pool_of q) T X L at o ↔ (o ≡ run_by (form q) T X L at)
plan_runs = runs_iff

-- ---- 3. One plan serves before and after any value changes kind: for any two accepted tables, the runs of one plan give each table's list: proofs/Demands.antt.

-- ---- 4. Plan bytes from elsewhere are refused by 11, with the list as it was, or they spell exactly one query form and run as that form. Stored says which, by what plan check answers: proofs/Demands.antt.

-- ---- 5. Document 01's starred sample rows: what select answers for each, and what running its compiled plan answers.
-- One of them is a plan (W12), which plan check accepts and run answers; its query is refused by 5 (`retired` in Refused.antt). The theorem: proofs/Demands.antt.

-- ---- 6. What plans consist of (W14).

-- the items that a pass over a plan's bytes meets are the items of its form, to the last byte
pub items_of_plan : (q : Query) → kinds_of (plan_of q) ≡ items_of q
items_of_plan = plan_items

-- after any series of calls of tally, accepted and refused ones mixed, the counts are the occurrences among the items of the plans that were taken: Counted says what each is
pub counts_of_series : {C : List ℕ} {m : ℕ} {ps : List (List ℕ)} → Taken C m ps → Counted C m ps
counts_of_series = series

-- and a refused plan changed nothing
pub refused_changes_nothing : {plan pool C : List ℕ} {m : ℕ} {o : TallyOutcome} → Tallies plan pool C m o → (o.refusal ≡ 0 → ⊥) → Unchanged C m o
refused_changes_nothing k z = leaves k z

-- document 02's example, `$.a[1]` alone: the kinds that occur, each with its count
pub document_example : occurring 0 (with_plan (plan_of example) (replicate all_kinds 0)) ≡ (0x01, 1) ∷ (0x03, 2) ∷ (0x05, 1) ∷ (0x06, 1) ∷ (0x0A, 1) ∷ []
document_example = example_counts

-- ---- 7. Which slices are standard (W1): which select the indices that RFC 9535's slice selects, in its order, from a list of n.
-- `Standard` (definition_standards/specs/Slices.antt) asks that the step is not negative, that the list is empty, or that the normalised start is the number of an element.

pub standard_slices : (n : ℕ) (a b c : Option ℤ) → Standard n a c → slice_places n a b c ≡ rfc_places n a b c
standard_slices = slices_standard

-- a slice with no start is standard on every list
pub startless_standard : (n : ℕ) (c : Option ℤ) → Standard n none c
startless_standard = no_start_standard

-- ---- 8. Normalized Paths (W2). `path_of T X i` (definition/specs/Paths.antt) is the path of node i, by ranges of children and RFC 9535's words.

-- what the operation writes with refusal 0 is the path of a node of an accepted table
pub path_written : (T X : List ℕ) (i : ℕ) (B : List ℕ) {o : PathOutcome} → PathOnly T X i B o → o.refusal ≡ 0 → (check_table T X ≡ accepted) × (i < node_count T) × (take o.size o.room ≡ path_of T X i)
path_written T X i B k z = case_written (path_case T X i B k) z

-- two nodes of a table never share a path, whatever its length
pub paths_differ : (T X : List ℕ) → check_table T X ≡ accepted → (i j : ℕ) → i < node_count T → j < node_count T → path_of T X i ≡ path_of T X j → i ≡ j
paths_differ = unlike.paths_differ

-- a path is a text of section 2.7's grammar that names the steps to its node, and the only one: `Normalized` (table_path_laws/specs/Normalized.antt) has the grammar
pub path_normalized : (T X : List ℕ) → check_table T X ≡ accepted → (i : ℕ) → i < node_count T → Normalized T X i
path_normalized = addresses.path_normalized

-- ---- 9. match and search (W4), in one statement: c is `whole` for match and `part` for search.

-- a test of match or search holds exactly where both arguments are texts and the second is an expression that describes the first, or, for search, some part of it: Matches has it
-- by the textbook relation `Describes` of words and expressions (regex_definition/specs/Regexp.antt), with no matcher
pub match_search : (c : Scope) (a b : Argument) (r n : Json) → (eval_test (regex c a b) r n ≡ true) ↔ Matches c (eval_argument a r n) (eval_argument b r n)
match_search = test_matches

-- so `$[?match(a,b)]` and `$[?search(a,b)]` select exactly the children of the root for which it does, and by 2 a run and a selection list what is selected
pub match_search_selects : (c : Scope) (a b : Argument) (t : Json) (i : ℕ) → In i (selected (asking c a b) t) ↔ Asked c a b t i
match_search_selects = asking_selects

-- the meaning that search widens is that of any part
pub search_any_part : (x : Regexp) (w : List ℕ) → Describes (widen part x) w ↔ Part (Describes x) w
search_any_part = any_part

-- ---- 10. Two checks of a table (W6). `record_right` and `text_right` (definition/specs/Tables.antt) are the rules on records and those on texts and keys, for any bytes of a right size.

-- each check by itself names its least node
pub records_names_least : (T X : List ℕ) {o : TableOutcome} → ChecksRecordsOnly T X o → o.refusal ≡ 10 → LeastWrong (record_right T) (node_count T) o.node
records_names_least T X k z = rw k (records_least T X (rw k at z))

pub texts_names_least : (T X : List ℕ) {o : TableOutcome} → ChecksTextsOnly T X o → o.refusal ≡ 17 → LeastWrong (text_right T X) (node_count T) o.node
texts_names_least T X k z = rw k (texts_least T X (rw k at z))

-- what select, run, text, key and path ask is the first check over all nodes, then the second
pub pair_of_checks : (T X : List ℕ) → check_table T X ≡ and_then (check_records T X) (check_texts T X)
unfolding check_table
pair_of_checks T X = refl

-- so a table is accepted if and only if both accept it
pub pair_accepts : (T X : List ℕ) → (check_table T X ≡ accepted) ↔ ((check_records T X ≡ accepted) × (check_texts T X ≡ accepted))
pair_accepts T X = (both_accept T X, λ w. accept_both T X w.0 w.1)

-- and an accepted pair is what an accepted table was: its size is right, and each node keeps to all rules, those on keys under its parent (`node_right`, table_laws/specs/Joined.antt)
pub accepted_as_before : (T X : List ℕ) → (check_table T X ≡ accepted) ↔ ((WrongSize T X → ⊥) × ((i : ℕ) → i < node_count T → node_right T X i ≡ true))
accepted_as_before = accepted_joined

-- with right records the rules on texts and keys ask at each node what the rules in one ask
pub texts_as_before : (T X : List ℕ) → check_records T X ≡ accepted → (i : ℕ) → i < node_count T → text_right T X i ≡ node_right T X i
texts_as_before = texts_joined
