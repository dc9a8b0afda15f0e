-- Answers, tables and outcomes that a wrong definition would change, as tables of rows, each under one computed test.
use Rattle.std.specs.Prelude.{ℕ, ◌≡◌, refl, List, [], ◌∷◌, Bool, true, ◌&&◌, eqb, replicate}
use Prim.Native.String.{String}
use Rattle.definition.specs.Bytes.{same_bytes}
use Rattle.definition.specs.Forms.{Query}
use Rattle.definition.specs.Forms.Start.{root, current}
use Rattle.definition.specs.Forms.Query.{query}
use Rattle.definition.specs.Forms.Segments.{end, child}
use Rattle.definition.specs.Forms.Selectors.{one}
use Rattle.definition.specs.Forms.Selector.{filter}
use Rattle.definition.specs.Forms.Test.{not_value}
use Rattle.definition.specs.Forms.Argument.{singular}
use Rattle.definition.specs.Forms.Function.{length_of, value_of}
use Rattle.definition.specs.TableOutcomes.{PartOutcome, table_outcome, text_outcome, key_outcome}
use Rattle.definition.specs.Selecting.{RunOutcome, run_by}
use Rattle.definition_examples.specs.Computes.{computes}
use Rattle.definition_examples.specs.Texts.{bytes, hex}
use Rattle.definition_examples.specs.Sample.{node, under, table, changed, sample_table, sample_text}
use Rattle.definition_examples.specs.Gives.{selects, plan_selects, all}
use Rattle.definition_examples.specs.Points.{reads}

-- ---- answers: a query, a table, its text, and the nodes that are selected. A query that has no form answers nothing.
-- A plan stands in the place of the query, with its pool and the form that they translate, where no query has the form.

pub data Answer : Type 0 where
  answer : String → List ℕ → List ℕ → List ℕ → Answer
  plan_answer : String → String → Query → List ℕ → List ℕ → List ℕ → Answer

abbrev pub answered : Answer → Bool
answered (answer q T X ns) = selects q T X ns
answered (plan_answer plan pool q T X ns) = plan_selects plan pool q T X ns

abbrev pub all_answered : List Answer → Bool
all_answered [] = true
all_answered (x ∷ xs) = answered x && all_answered xs

-- the forms that `$[?!value(@)]` and `$[?!length(@)]` had
abbrev not_value_here : Query
not_value_here = query root (child (one (filter (not_value (value_of (query current end))))) end)

abbrev not_length_here : Query
not_length_here = query root (child (one (filter (not_value (length_of (singular (query current end)))))) end)

-- on {"a": [10, 20.0, 30], "b": "é"}
abbrev on_sample : String → List ℕ → Answer
on_sample q ns = answer q sample_table sample_text ns

abbrev pub sample_answers : List Answer
sample_answers =
    on_sample "$.a[::-2]" (5 ∷ 3 ∷ []) ∷
    on_sample "$.a[::0]" [] ∷
    on_sample "$.a[1:-1]" (4 ∷ []) ∷
    on_sample "$.a[-2:]" (4 ∷ 5 ∷ []) ∷
    on_sample "$.a[:2]" (3 ∷ 4 ∷ []) ∷
    on_sample "$.a[2:0:-1]" (5 ∷ 4 ∷ []) ∷
    on_sample "$.a[1:9]" (4 ∷ 5 ∷ []) ∷
    on_sample "$.a[2]" (5 ∷ []) ∷
    on_sample "$.a[3]" [] ∷
    on_sample "$.a[-3]" (3 ∷ []) ∷
    on_sample "$[0]" [] ∷
    on_sample "$[0:1]" [] ∷
    on_sample "$.b[0]" [] ∷
    on_sample "$.a.a" [] ∷
    on_sample "$.a.*" (3 ∷ 4 ∷ 5 ∷ []) ∷
    on_sample "$..b" (2 ∷ []) ∷
    on_sample "$[?@.x!=1]" [] ∷
    on_sample "$[?1!=@.x]" [] ∷
    on_sample "$[?value($['a','a'])==null]" (1 ∷ 2 ∷ []) ∷
    on_sample "$[?value(@.x)==null]" (1 ∷ 2 ∷ []) ∷
    on_sample "$[?@.x==null]" [] ∷
    on_sample "$[?length(@)==3]" (1 ∷ []) ∷
    on_sample "$[?length(@)==1]" (2 ∷ []) ∷
    on_sample "$[?length($)==2]" (1 ∷ 2 ∷ []) ∷
    on_sample "$[?length(@.x)==0]" (1 ∷ 2 ∷ []) ∷
    on_sample "$.a[?length(@)==0]" (3 ∷ 4 ∷ 5 ∷ []) ∷
    on_sample "$[?length('é')==1]" (1 ∷ 2 ∷ []) ∷
    on_sample "$[?length(value(@))==1]" (2 ∷ []) ∷
    on_sample "$[?length(value(@))==3]" (1 ∷ []) ∷
    on_sample "$[?length(value($))==2]" (1 ∷ 2 ∷ []) ∷
    on_sample "$[?length(count(@))==0]" (1 ∷ 2 ∷ []) ∷
    on_sample "$[?count(@['a','a'])==0]" (1 ∷ 2 ∷ []) ∷
    on_sample "$[?count(@.*)==3]" (1 ∷ []) ∷
    on_sample "$[?count($['a','a'])==2]" (1 ∷ 2 ∷ []) ∷
    on_sample "$[?@[?$.b]]" [] ∷
    on_sample "$[?$.a[?$.b]]" (1 ∷ 2 ∷ []) ∷
    on_sample "$[?@[0] && @[1]]" (1 ∷ []) ∷
    on_sample "$[?@[9] || @[1]]" (1 ∷ []) ∷
    on_sample "$[?@[0] && @[9]]" [] ∷
    on_sample "$[?@[9] && @[0]]" [] ∷
    on_sample "$[?null==@.x]" [] ∷
    on_sample "$[?@.x==@.x]" [] ∷
    on_sample "$[?!@[0]]" (2 ∷ []) ∷
    -- match takes the whole text, search any part of it; no text and no expression of the part give false (document 02, W4)
    on_sample "$[?match(@,'.')]" (2 ∷ []) ∷
    on_sample "$[?match(@,'')]" [] ∷
    on_sample "$[?search(@,'')]" (2 ∷ []) ∷
    on_sample "$[?!match(@,'é')]" (1 ∷ []) ∷
    on_sample "$[?match('é',@)]" (2 ∷ []) ∷
    on_sample "$[?match('xéy',@)]" [] ∷
    on_sample "$[?search('xéy',@)]" (2 ∷ []) ∷
    on_sample "$[?search('b','\\\\p{L}|b')]" [] ∷
    on_sample "$[?match('a','(')]" [] ∷
    on_sample "$[?match(@.x,'')]" [] ∷
    on_sample "$[?search(1,'1')]" [] ∷
    on_sample "$[?match('1',1)]" [] ∷
    on_sample "$[?match(value(@.*),'')]" [] ∷
    []

pub sample_answers_hold : all_answered sample_answers ≡ true
unfolding computes
sample_answers_hold = refl

abbrev lengths : List ℕ
lengths = table (node 6 0 0 0 1 6 ∷ node 5 1 0 0 0 7 ∷ node 7 1 0 0 7 1 ∷ node 0 1 0 0 0 0 ∷ node 2 1 0 0 0 0 ∷ node 5 1 0 0 0 0 ∷ node 6 1 0 0 0 0 ∷ under 2 (node 0 2 7 1 0 0) ∷ [])

abbrev pub answers : List Answer
answers =
    -- [7]
    answer "$[1::-1]" (table (node 6 0 0 0 1 1 ∷ node 3 1 0 0 7 0 ∷ [])) [] (1 ∷ []) ∷
    -- [[1]]
    answer "$..[0]" (table (node 6 0 0 0 1 1 ∷ node 6 1 0 0 2 1 ∷ under 1 (node 3 2 0 0 1 0) ∷ [])) [] (1 ∷ 2 ∷ []) ∷
    -- {"a": {"b": 1}, "b": 2}
    answer "$..['b','a']" (table (node 7 0 0 0 1 2 ∷ node 7 1 0 1 3 1 ∷ node 3 1 1 1 2 0 ∷ under 1 (node 3 2 2 1 1 0) ∷ [])) (bytes "abb") (2 ∷ 1 ∷ 3 ∷ []) ∷
    -- [true, null, [true], {}, 1, "x"]
    answer "$[?@<=@]" (table (node 6 0 0 0 1 6 ∷ node 2 1 0 0 0 0 ∷ node 0 1 0 0 0 0 ∷ node 6 1 0 0 7 1 ∷ node 7 1 0 0 0 0 ∷ node 3 1 0 0 1 0 ∷ node 5 1 0 0 0 1 ∷ under 3 (node 2 2 0 0 0 0) ∷ [])) (bytes "x") (2 ∷ 3 ∷ 4 ∷ 5 ∷ 6 ∷ []) ∷
    -- [true, false, 1]
    answer "$[?@!=true]" (table (node 6 0 0 0 1 3 ∷ node 2 1 0 0 0 0 ∷ node 1 1 0 0 0 0 ∷ node 3 1 0 0 1 0 ∷ [])) [] (2 ∷ 3 ∷ []) ∷
    -- [[{"x": 1}], [{"x": 1, "y": 2}]]
    answer "$[?@==$[1]]" (table (node 6 0 0 0 1 2 ∷ node 6 1 0 0 3 1 ∷ node 6 1 0 0 4 1 ∷ under 1 (node 7 2 0 0 5 1) ∷ under 2 (node 7 2 0 0 6 2) ∷ under 3 (node 3 3 0 1 1 0) ∷ under 4 (node 3 3 1 1 1 0) ∷ under 4 (node 3 3 2 1 2 0) ∷ [])) (bytes "xxy") (2 ∷ []) ∷
    -- [{"x": 1, "y": [2.0]}, {"y": [2], "x": 1.0}]
    answer "$[?@==$[1]]" (table (node 6 0 0 0 1 2 ∷ node 7 1 0 0 3 2 ∷ node 7 1 0 0 5 2 ∷ under 1 (node 3 2 0 1 1 0) ∷ under 1 (node 6 2 1 1 7 1) ∷ under 2 (node 6 2 2 1 8 1) ∷ under 2 (node 4 2 3 1 0 0x3FF00000) ∷ under 4 (node 4 3 0 0 0 0x40000000) ∷ under 5 (node 3 3 0 0 2 0) ∷ [])) (bytes "xyyx") (1 ∷ 2 ∷ []) ∷
    -- `!value(@)` on [0, 0.0, -0.0, 1, "", [], {}, null, false, true]
    plan_answer "01 03 01 00 09 05 00 02 0A 1B 18 15 0A" "" not_value_here (table (node 6 0 0 0 1 10 ∷ node 3 1 0 0 0 0 ∷ node 4 1 0 0 0 0 ∷ node 4 1 0 0 0 0x80000000 ∷ node 3 1 0 0 1 0 ∷ node 5 1 0 0 0 0 ∷ node 6 1 0 0 0 0 ∷ node 7 1 0 0 0 0 ∷ node 0 1 0 0 0 0 ∷ node 1 1 0 0 0 0 ∷ node 2 1 0 0 0 0 ∷ [])) [] (1 ∷ 2 ∷ 3 ∷ 5 ∷ 6 ∷ 7 ∷ 8 ∷ 9 ∷ []) ∷
    -- ["a😀é", {"x": null}, null, true, "", []]: W3, texts by scalar values, maps and lists by children, 0 of the others
    answer "$[?length(@)==3]" lengths (bytes "a😀éx") (1 ∷ []) ∷
    answer "$[?length(@)==1]" lengths (bytes "a😀éx") (2 ∷ []) ∷
    answer "$[?length(@)==0]" lengths (bytes "a😀éx") (3 ∷ 4 ∷ 5 ∷ 6 ∷ []) ∷
    answer "$[?length(@.x)==0]" lengths (bytes "a😀éx") (1 ∷ 2 ∷ 3 ∷ 4 ∷ 5 ∷ 6 ∷ []) ∷
    -- `!length(@)` on [[1]]
    plan_answer "01 03 01 00 09 05 00 02 0A 1A 18 15 0A" "" not_length_here (table (node 6 0 0 0 1 1 ∷ node 6 1 0 0 2 1 ∷ under 1 (node 3 2 0 0 1 0) ∷ [])) [] [] ∷
    -- ["a", "b", "ab", 1]
    answer "$[?@<'b']" (table (node 6 0 0 0 1 4 ∷ node 5 1 0 0 0 1 ∷ node 5 1 0 0 1 1 ∷ node 5 1 0 0 2 2 ∷ node 3 1 0 0 1 0 ∷ [])) (bytes "abab") (1 ∷ 3 ∷ []) ∷
    -- [1, 1.5, 2, -1.5]
    answer "$[?@>=1.5]" (table (node 6 0 0 0 1 4 ∷ node 3 1 0 0 1 0 ∷ node 4 1 0 0 0 0x3FF80000 ∷ node 3 1 0 0 2 0 ∷ node 4 1 0 0 0 0xBFF80000 ∷ [])) [] (2 ∷ 3 ∷ []) ∷
    -- "Integer 9007199254740993 is greater than float 9007199254740992": [9007199254740992.0]
    answer "$[?9007199254740993 > @]" (table (node 6 0 0 0 1 1 ∷ node 4 1 0 0 0 0x43400000 ∷ [])) [] (1 ∷ []) ∷
    -- [-1, -2, 3]
    answer "$[?@<-1]" (table (node 6 0 0 0 1 3 ∷ node 3 1 0 0 0xFFFFFFFF 0xFFFFFFFF ∷ node 3 1 0 0 0xFFFFFFFE 0xFFFFFFFF ∷ node 3 1 0 0 3 0 ∷ [])) [] (2 ∷ []) ∷
    answer "$[?@<=-1]" (table (node 6 0 0 0 1 3 ∷ node 3 1 0 0 0xFFFFFFFF 0xFFFFFFFF ∷ node 3 1 0 0 0xFFFFFFFE 0xFFFFFFFF ∷ node 3 1 0 0 3 0 ∷ [])) [] (1 ∷ 2 ∷ []) ∷
    -- [9007199254740992.0]
    answer "$[?@==9007199254740992]" (table (node 6 0 0 0 1 1 ∷ node 4 1 0 0 0 0x43400000 ∷ [])) [] (1 ∷ []) ∷
    -- [true, null, "a", []]
    answer "$[?@<1]" (table (node 6 0 0 0 1 4 ∷ node 2 1 0 0 0 0 ∷ node 0 1 0 0 0 0 ∷ node 5 1 0 0 0 1 ∷ node 6 1 0 0 0 0 ∷ [])) (bytes "a") [] ∷
    answer "$[?@>='a']" (table (node 6 0 0 0 1 4 ∷ node 2 1 0 0 0 0 ∷ node 0 1 0 0 0 0 ∷ node 5 1 0 0 0 1 ∷ node 6 1 0 0 0 0 ∷ [])) (bytes "a") (3 ∷ []) ∷
    -- [{"x": 1}, {"x": 1, "y": 2}]
    answer "$[?@==$[1]]" (table (node 6 0 0 0 1 2 ∷ node 7 1 0 0 3 1 ∷ node 7 1 0 0 4 2 ∷ under 1 (node 3 2 0 1 1 0) ∷ under 2 (node 3 2 0 1 1 0) ∷ under 2 (node 3 2 1 1 2 0) ∷ [])) (bytes "xy") (2 ∷ []) ∷
    -- [{"x": 1}, {"y": 1}]
    answer "$[?@==$[1]]" (table (node 6 0 0 0 1 2 ∷ node 7 1 0 0 3 1 ∷ node 7 1 0 0 4 1 ∷ under 1 (node 3 2 0 1 1 0) ∷ under 2 (node 3 2 1 1 1 0) ∷ [])) (bytes "xy") (2 ∷ []) ∷
    -- [[1], [1, 2]]
    answer "$[?@==$[1]]" (table (node 6 0 0 0 1 2 ∷ node 6 1 0 0 3 1 ∷ node 6 1 0 0 4 2 ∷ under 1 (node 3 2 0 0 1 0) ∷ under 2 (node 3 2 0 0 1 0) ∷ under 2 (node 3 2 0 0 2 0) ∷ [])) [] (2 ∷ []) ∷
    answer "$[?@==$[0]]" (table (node 6 0 0 0 1 2 ∷ node 6 1 0 0 3 1 ∷ node 6 1 0 0 4 2 ∷ under 1 (node 3 2 0 0 1 0) ∷ under 2 (node 3 2 0 0 1 0) ∷ under 2 (node 3 2 0 0 2 0) ∷ [])) [] (1 ∷ []) ∷
    -- [[1], [2]]
    answer "$[?@==$[1]]" (table (node 6 0 0 0 1 2 ∷ node 6 1 0 0 3 1 ∷ node 6 1 0 0 4 1 ∷ under 1 (node 3 2 0 0 1 0) ∷ under 2 (node 3 2 0 0 2 0) ∷ [])) [] (2 ∷ []) ∷
    []

pub answers_hold : all_answered answers ≡ true
unfolding computes
answers_hold = refl

-- ---- tables: a table, its text, the refusal and its node; each of the first is the sample table with one rule broken

pub data Broken : Type 0 where
  broken : List ℕ → List ℕ → ℕ → ℕ → Broken

abbrev pub judged : Broken → Bool
judged (broken T X n i) = eqb (table_outcome T X).refusal n && eqb (table_outcome T X).node i

abbrev pub all_judged : List Broken → Bool
all_judged [] = true
all_judged (x ∷ xs) = judged x && all_judged xs

-- the sample table with another byte b at a place is refused 10 at node n
abbrev wrong : ℕ → ℕ → ℕ → Broken
wrong at b n = broken (changed at b sample_table) sample_text 10 n

-- and 17 where a text or a key is at fault
abbrev wrong_text : ℕ → ℕ → ℕ → Broken
wrong_text at b n = broken (changed at b sample_table) sample_text 17 n

abbrev pub tables : List Broken
tables =
    broken sample_table sample_text 0 0 ∷
    -- a kind above 7
    wrong 72 8 3 ∷
    -- bytes 2 and 3 set
    wrong 2 1 0 ∷
    wrong 3 1 0 ∷
    -- another parent than the node's: a root with one, the node itself, no parent, one too many, and the highest byte set
    wrong 12 1 0 ∷
    wrong 36 1 1 ∷
    wrong 84 0 3 ∷
    wrong 108 2 4 ∷
    wrong 135 1 5 ∷
    -- [[1]] as it was written while bytes 12-15 were zero
    broken (table (node 6 0 0 0 1 1 ∷ node 6 1 0 0 2 1 ∷ node 3 2 0 0 1 0 ∷ [])) [] 10 2 ∷
    -- a depth that is not one more than the parent's
    wrong 97 1 4 ∷
    -- a null with a payload, in its lowest and in its highest byte, and a true with that of a list
    wrong 72 0 3 ∷
    broken (table (node 6 0 0 0 1 1 ∷ node 0 1 0 0 0 0x1000000 ∷ [])) [] 10 1 ∷
    broken (table (node 6 0 0 0 1 1 ∷ node 2 1 0 0 2 1 ∷ node 0 2 0 0 0 0 ∷ [])) [] 10 1 ∷
    -- a float that is not finite
    broken (changed 118 0xF0 (changed 119 0x7F sample_table)) sample_text 10 4 ∷
    -- a text past the end, by its length and by the higher bytes of its start and its length, and one that cuts a character
    wrong_text 68 3 2 ∷
    wrong_text 66 1 2 ∷
    wrong_text 70 1 2 ∷
    wrong_text 68 1 2 ∷
    -- a wrong first child of a list and of a map, a range past the end, an orphan
    wrong 40 2 1 ∷
    wrong 42 1 1 ∷
    wrong 16 2 0 ∷
    wrong 44 4 1 ∷
    wrong 46 1 1 ∷
    wrong 20 6 0 ∷
    wrong 44 2 5 ∷
    -- a list element with a key, by its length and by its start
    wrong 80 1 3 ∷
    wrong 76 1 3 ∷
    -- a key past the end, by its length, the higher bytes of it, and its start
    wrong_text 32 9 1 ∷
    wrong_text 34 1 1 ∷
    wrong_text 30 1 1 ∷
    -- two members of one key
    wrong_text 52 0 2 ∷
    -- a root with a key, and one that is not at depth 0
    wrong 8 1 0 ∷
    wrong 1 1 0 ∷
    -- no record, and part of a record
    broken [] [] 9 0 ∷
    broken (replicate 23 0) [] 9 0 ∷
    -- an empty list with a first child
    broken (node 6 0 0 0 1 0) [] 10 0 ∷
    []

pub tables_hold : all_judged tables ≡ true
unfolding computes
tables_hold = refl

-- ---- texts, keys and lists of places

-- a part and a number
abbrev part : PartOutcome → List ℕ → ℕ → Bool
part x s n = same_bytes x.part s && eqb x.number n

-- a refusal, a count, a node and the places
abbrev outcome : RunOutcome → ℕ → ℕ → ℕ → List ℕ → Bool
outcome x n c i ps = eqb x.refusal n && (eqb x.count c && (eqb x.node i && same_bytes x.places ps))

-- the text of node 2 and the key of node 1 are found; an integer has no text, a list element no key, and there is no node 6; the table is judged before the node
pub parts_hold :
    all
    (part (text_outcome sample_table sample_text 2) (hex "C3 A9") 0 ∷
    part (key_outcome sample_table sample_text 1) (bytes "a") 0 ∷
    part (text_outcome sample_table sample_text 3) [] 15 ∷
    part (key_outcome sample_table sample_text 3) [] 15 ∷
    part (key_outcome sample_table sample_text 0) [] 15 ∷
    part (text_outcome sample_table sample_text 6) [] 15 ∷
    part (key_outcome sample_table sample_text 6) [] 15 ∷
    part (text_outcome [] sample_text 0) [] 9 ∷
    part (key_outcome (changed 8 1 sample_table) sample_text 1) [] 10 ∷
    part (text_outcome (changed 52 0 sample_table) sample_text 9) [] 17 ∷
    part (key_outcome (changed 68 3 sample_table) sample_text 1) [] 17 ∷
    []) ≡ true
unfolding computes
parts_hold = refl

-- what select leaves for `$.*` on a table, with a list and a start position
abbrev run : List ℕ → List ℕ → ℕ → ℕ → ℕ → ℕ → List ℕ → Bool
run T L at n c i ps = reads "$.*" (λ r. outcome (run_by r T sample_text L at) n c i ps)

-- two nodes fit behind the start; one place less is 13 and is filled; a start at the end is 13 and fills nothing; a start beyond it is 14; the table is judged before the list
pub runs_hold :
    all
    (run sample_table (9 ∷ 9 ∷ 9 ∷ 9 ∷ []) 1 0 2 0 (9 ∷ 1 ∷ 2 ∷ 9 ∷ []) ∷
    run sample_table (9 ∷ 9 ∷ 9 ∷ []) 1 0 2 0 (9 ∷ 1 ∷ 2 ∷ []) ∷
    run sample_table (9 ∷ 9 ∷ []) 1 13 0 0 (9 ∷ 1 ∷ []) ∷
    run sample_table (9 ∷ 9 ∷ []) 2 13 0 0 (9 ∷ 9 ∷ []) ∷
    run sample_table (9 ∷ 9 ∷ []) 3 14 0 0 (9 ∷ 9 ∷ []) ∷
    run (changed 40 2 sample_table) (9 ∷ 9 ∷ []) 3 10 0 1 (9 ∷ 9 ∷ []) ∷
    run (changed 52 0 sample_table) (9 ∷ 9 ∷ []) 3 17 0 2 (9 ∷ 9 ∷ []) ∷
    run [] (9 ∷ 9 ∷ []) 3 9 0 0 (9 ∷ 9 ∷ []) ∷
    []) ≡ true
unfolding computes
runs_hold = refl
