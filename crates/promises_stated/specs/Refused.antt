-- A small input for each refusal number, and the answer that the promises leave for it; 1, 9 and a run's 11 are in proofs/Refused. Assumes nothing.
use Rattle.std.specs.Prelude.{ℕ, ◌≡◌, refl, List, [], ◌∷◌, replicate}
use Rattle.std.proofs.Common.{arith, sym, ap, inl, inr}
use Rattle.regex_definition.specs.Scope.{whole}
use Rattle.definition.specs.Limits.{max_int}
use Rattle.definition.specs.Lexical.Int.{zero_int, plain_int}
use Rattle.definition.specs.Lexical.Whole.{int_whole}
use Rattle.definition.specs.Lexical.Fraction.{no_fraction}
use Rattle.definition.specs.Lexical.Sign.{no_sign}
use Rattle.definition.specs.Lexical.Exponent.{exponent}
use Rattle.definition.specs.Lexical.Char.{plain}
use Rattle.definition.specs.Lexical.Quote.{single}
use Rattle.definition.specs.Grammar as G
use Rattle.definition.specs.Grammar.{spell}
use Rattle.definition.specs.Grammar.SingularSegments.{no_singular}
use Rattle.definition.specs.Grammar.Singular.{rel_singular}
use Rattle.definition.specs.Grammar.Literal.{number_literal, text_literal}
use Rattle.definition.specs.Grammar.Operator.{eq_operator}
use Rattle.definition.specs.Grammar.Segments.{no_segment, more_segments}
use Rattle.definition.specs.Grammar.Segment.{child_brackets, child_wild}
use Rattle.definition.specs.Grammar.Bracketed.{bracketed}
use Rattle.definition.specs.Grammar.Selectors.{no_selector}
use Rattle.definition.specs.Grammar.Selector.{index_selector, filter_selector}
use Rattle.definition.specs.Grammar.LogicalOr.{logical_or}
use Rattle.definition.specs.Grammar.MoreOr.{no_or}
use Rattle.definition.specs.Grammar.LogicalAnd.{logical_and}
use Rattle.definition.specs.Grammar.MoreAnd.{no_and}
use Rattle.definition.specs.Grammar.Basic.{comparison, test_basic, not_test}
use Rattle.definition.specs.Grammar.Test.{function_test}
use Rattle.definition.specs.Grammar.FilterQuery.{rel_query}
use Rattle.definition.specs.Grammar.Comparable.{literal_comparable, singular_comparable}
use Rattle.definition.specs.Grammar.Function.{function}
use Rattle.definition.specs.Grammar.Arguments.{no_argument, arguments}
use Rattle.definition.specs.Grammar.MoreArguments.{no_more, more_arguments}
use Rattle.definition.specs.Grammar.Argument.{literal_argument, query_argument}
use Rattle.definition.specs.Forms.{Query}
use Rattle.definition.specs.Forms.Start.{root}
use Rattle.definition.specs.Forms.Query.{query}
use Rattle.definition.specs.Forms.Segments.{end, child}
use Rattle.definition.specs.Forms.Selectors.{one}
use Rattle.definition.specs.Forms.Selector.{filter}
use Rattle.definition.specs.Forms.Test.{regex}
use Rattle.definition.specs.Forms.Argument.{literal}
use Rattle.definition.specs.Forms.Literal.{text}
use Rattle.definition.specs.Plans.{plan_of, code_query}
use Rattle.definition.specs.Walk.{walk}
use Rattle.definition.specs.Outcomes.{Reads, Translates, CompileOutcome, RunOutcome, early, judge, compile_by, run_by}
use Rattle.definition.specs.Outcomes.Reading.{refused, form}
use Rattle.definition.specs.Outcomes.Reads.{too_early, no_tree, has_tree}
use Rattle.definition.specs.TableOutcomes.{TableOutcome, PartOutcome}
use Rattle.definition.specs.Paths.{PathOutcome}
use Rattle.definition_examples.specs.Computes.{computes}
use Rattle.definition_examples.specs.Paths.{walked}
use Rattle.definition_examples.specs.Sample.{node}
use Rattle.tally_laws.specs.Tallies.{TallyOutcome}
use Rattle.promises_stated.specs.Promises.{CompilesOnly, RunsOnly, ChecksPlanOnly, ChecksRecordsOnly, ChecksTextsOnly, ChecksTableOnly, TextOnly, KeyOnly, PathOnly, TalliesOnly}
use Rattle.promises_stated.specs.Refusals.{NotTranslated}
use Rattle.promises_stated.specs.Rooms.{no_blank as o}
use Rattle.promises_stated.specs.Running.{runs_as}
use Rattle.promises_stated.specs.Demands.{plan_check_exactly, tally_exactly}

-- ---- queries

-- compile refuses a query by n, whatever rooms are lent
abbrev pub Refuses : List ℕ → ℕ → Type 0
Refuses s n = (P R : List ℕ) (c : CompileOutcome) → CompilesOnly s P R c → c.refusal ≡ n

by_reading : {s : List ℕ} {n : ℕ} → Reads s (refused n) → Refuses s n
unfolding compile_by
by_reading {n = n} r P R c k = sym (ap (λ (o : CompileOutcome). o.refusal) (k.only (compile_by (refused n) P R) (record { reading = refused n; reads = r; is = refl })))

-- the byte FF
pub wrong : Refuses (0xFF ∷ []) 2
unfolding computes
wrong = by_reading (too_early (λ e. omega (arith, e)))

-- 33 opening brackets
pub deep : Refuses (replicate 33 0x5B) 3
unfolding computes
deep = by_reading (too_early (λ e. omega (arith, e)))

-- no bytes at all
none_spells : (t : G.Query) → spell t ≡ [] → ⊥
none_spells t e = let z : ◌≡◌ {A = ℕ} 0 1 = cc in omega (arith, z)

pub empty : Refuses [] 4
unfolding computes
empty = by_reading (no_tree refl none_spells)

-- a query of one filter, `$[?..]`
abbrev filtered : G.Basic → G.Query
filtered b = record { segments = more_segments o (child_brackets (bracketed o (filter_selector o (logical_or (logical_and b no_and) no_or)) no_selector o)) no_segment }

by_tree : (t : G.Query) (n : ℕ) → early (spell t) ≡ 0 → judge (walk t) ≡ refused n → Refuses (spell t) n
by_tree t n h e = by_reading (rw (← e) (has_tree h t refl))

-- $[9007199254740992]
abbrev pub far_index : G.Query
far_index = record { segments = more_segments o (child_brackets (bracketed o (index_selector (plain_int (record { first = 0x39; more = 0x30 ∷ 0x30 ∷ 0x37 ∷ 0x31 ∷ 0x39 ∷ 0x39 ∷ 0x32 ∷ 0x35 ∷ 0x34 ∷ 0x37 ∷ 0x34 ∷ 0x30 ∷ 0x39 ∷ 0x39 ∷ 0x32 ∷ []; is_first = refl; are_more = refl }))) no_selector o)) no_segment }

pub far : Refuses (spell far_index) 4
unfolding computes
far = by_tree far_index 4 refl refl

-- $[?match('a')]
abbrev pub one_argument : G.Query
one_argument = filtered (test_basic (function_test (function (record { first = 0x6D; more = 0x61 ∷ 0x74 ∷ 0x63 ∷ 0x68 ∷ []; is_first = refl; are_more = refl }) o (arguments (literal_argument (text_literal (record { quote = single; chars = plain 0x61 refl ∷ [] }))) no_more) o)))

pub typed : Refuses (spell one_argument) 5
unfolding computes
typed = by_tree one_argument 5 refl refl

-- $[?!count(@.*)], whose plan still runs: one of the starred rows (document 02, W12)
abbrev pub negated_count : G.Query
negated_count = filtered (not_test o (function_test (function (record { first = 0x63; more = 0x6F ∷ 0x75 ∷ 0x6E ∷ 0x74 ∷ []; is_first = refl; are_more = refl }) o (arguments (query_argument (rel_query (more_segments o child_wild no_segment))) no_more) o)))

pub retired : Refuses (spell negated_count) 5
unfolding computes
retired = by_tree negated_count 5 refl refl

-- $[?f()]
abbrev pub no_function : G.Query
no_function = filtered (test_basic (function_test (function (record { first = 0x66; more = []; is_first = refl; are_more = refl }) o no_argument o)))

pub unknown : Refuses (spell no_function) 6
unfolding computes
unknown = by_tree no_function 6 refl refl

-- $[?match('a','b')], which no refusal meets: 7 is given to no input (document 02, W4)
abbrev pub matching : G.Query
matching = filtered (test_basic (function_test (function (record { first = 0x6D; more = 0x61 ∷ 0x74 ∷ 0x63 ∷ 0x68 ∷ []; is_first = refl; are_more = refl }) o (arguments (literal_argument (text_literal (record { quote = single; chars = plain 0x61 refl ∷ [] }))) (more_arguments o o (literal_argument (text_literal (record { quote = single; chars = plain 0x62 refl ∷ [] }))) no_more)) o)))

abbrev pub matching_form : Query
matching_form = query root (child (one (filter (regex whole (literal (text (0x61 ∷ []))) (literal (text (0x62 ∷ [])))))) end)

matching_reads : Reads (spell matching) (form matching_form)
unfolding computes
matching_reads = has_tree refl matching refl

pub matches : (c : CompileOutcome) → CompilesOnly (spell matching) (replicate 19 0) (replicate 2 0) c → c.refusal ≡ 0
unfolding computes
matches c k = sym (ap (λ (o : CompileOutcome). o.refusal) (k.only (compile_by (form matching_form) (replicate 19 0) (replicate 2 0)) (record { reading = form matching_form; reads = matching_reads; is = refl })))

-- $[?@==0e999]
abbrev pub far_power : G.Query
far_power = filtered (comparison (singular_comparable (rel_singular no_singular)) o eq_operator o (literal_comparable (number_literal (record { whole = int_whole zero_int; frac = no_fraction; exp = exponent 0x65 refl no_sign (record { first = 0x39; more = 0x39 ∷ 0x39 ∷ []; is_first = refl; are_more = refl }) }))))

pub beyond : Refuses (spell far_power) 8
unfolding computes
beyond = by_tree far_power 8 refl refl

-- ---- plans, tables and lists

-- `$`, its form, and its plan
abbrev pub dollar : G.Query
dollar = record { segments = no_segment }

abbrev pub root_form : Query
root_form = query root end

abbrev pub root_plan : List ℕ
root_plan = 0x01 ∷ 0x0A ∷ []

dollar_reads : Reads (spell dollar) (form root_form)
unfolding computes
dollar_reads = has_tree refl dollar refl

pub root_translates : Translates root_form root_plan []
unfolding computes
root_translates = record { is_query = refl; is_plan = refl; is_pool = refl; plan_fits = omega arith; pool_fits = omega arith }

-- a table of one null
abbrev pub null_table : List ℕ
null_table = node 0 0 0 0 0 0

-- and one of a kind that there is not
abbrev pub eighth_kind : List ℕ
eighth_kind = node 8 0 0 0 0 0

-- and one of a text of one byte
abbrev pub long_text : List ℕ
long_text = node 5 0 0 0 0 1

-- no plan is empty
pub no_plan : NotTranslated [] []
unfolding plan_of code_query
no_plan (query s q) t = let e = t.is_plan in let z : ◌≡◌ {A = ℕ} 0 1 = cc in omega (arith, z)

-- 10: a kind that there is not, which the check of the texts does not look at
pub kindless : (o : TableOutcome) → ChecksTableOnly eighth_kind [] o → o.refusal ≡ 10
unfolding computes
kindless o k = ap (λ (o : TableOutcome). o.refusal) k

pub kindless_texts : (o : TableOutcome) → ChecksTextsOnly eighth_kind [] o → o.refusal ≡ 0
unfolding computes
kindless_texts o k = ap (λ (o : TableOutcome). o.refusal) k

-- 17: a text of one byte in a text of none, which the check of the records does not look at
pub outside : (o : TableOutcome) → ChecksTableOnly long_text [] o → o.refusal ≡ 17
unfolding computes
outside o k = ap (λ (o : TableOutcome). o.refusal) k

pub outside_records : (o : TableOutcome) → ChecksRecordsOnly long_text [] o → o.refusal ≡ 0
unfolding computes
outside_records o k = ap (λ (o : TableOutcome). o.refusal) k

-- 11: no plan at all
pub unplanned : (n : ℕ) → ChecksPlanOnly [] [] n → n ≡ 11
unplanned n k = (plan_check_exactly k 11).1 (inl (refl, no_plan))

-- 12: `$` needs two bytes of plan
pub roomless : (c : CompileOutcome) → CompilesOnly (spell dollar) (0 ∷ []) [] c → c.refusal ≡ 12
unfolding computes
roomless c k = sym (ap (λ (o : CompileOutcome). o.refusal) (k.only (compile_by (form root_form) (0 ∷ []) []) (record { reading = form root_form; reads = dollar_reads; is = refl })))

-- 13 and 14: a list of one place takes the root at position 0, has no place left at position 1, and no position 2
root_runs : (at : ℕ) (o : RunOutcome) → RunsOnly root_plan [] null_table [] (7 ∷ []) at o → o.refusal ≡ (run_by (form root_form) null_table [] (7 ∷ []) at).refusal
root_runs at o k = ap (λ (x : RunOutcome). x.refusal) (runs_as root_form null_table [] (7 ∷ []) at root_translates k.is)

pub placed : (o : RunOutcome) → RunsOnly root_plan [] null_table [] (7 ∷ []) 0 o → o.refusal ≡ 0
unfolding computes
placed o k = root_runs 0 o k

pub placeless : (o : RunOutcome) → RunsOnly root_plan [] null_table [] (7 ∷ []) 1 o → o.refusal ≡ 13
unfolding computes
placeless o k = root_runs 1 o k

pub startless : (o : RunOutcome) → RunsOnly root_plan [] null_table [] (7 ∷ []) 2 o → o.refusal ≡ 14
unfolding computes
startless o k = root_runs 2 o k

-- 15: null has no text, and the root no key
pub textless : (o : PartOutcome) → TextOnly null_table [] 0 o → o.number ≡ 15
unfolding computes
textless o k = ap (λ (o : PartOutcome). o.number) k

pub keyless : (o : PartOutcome) → KeyOnly null_table [] 0 o → o.number ≡ 15
unfolding computes
keyless o k = ap (λ (o : PartOutcome). o.number) k

-- 16: the root's path has one byte
pub pathless : (o : PathOutcome) → PathOnly null_table [] 0 [] o → o.refusal ≡ 16
unfolding walked
pathless o k = ap (λ (o : PathOutcome). o.refusal) k

-- 21: the number of plans is 2^53-1 already
pub full : (C : List ℕ) (o : TallyOutcome) → TalliesOnly root_plan [] C max_int o → o.refusal ≡ 21
full C o k = (tally_exactly k 21).1 (inr (λ n. n root_form root_translates, inl (refl, inl (omega arith))))
