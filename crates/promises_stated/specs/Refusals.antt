-- When each operation refuses: a condition for each row of document 01's "Refusal numbers" and for refusals 16, 17 and 21, and each operation's order. The letters are those of Promises.antt.
-- Assumes nothing: these are definitions.
use Rattle.std.specs.Prelude.{ℕ, ◌+◌, ◌%◌, ◌≤◌, ◌<◌, ◌≡◌, ◌⊎◌, List, [], ◌∷◌, ◌++◌, Bool, true, false, length, get_or}
use Rattle.definition.specs.Limits.{max_query, max_int, max_nodes, max_text, record_size}
use Rattle.definition.specs.Utf8.{is_utf8}
use Rattle.definition.specs.Brackets.{too_deep}
use Rattle.definition.specs.Grammar as G
use Rattle.definition.specs.Grammar.{spell}
use Rattle.definition.specs.Forms.{Query}
use Rattle.definition.specs.Walk.{Walked, walk}
use Rattle.definition.specs.Walk.Walked.{walked}
use Rattle.definition.specs.Plans.{plan_of, pool_of}
use Rattle.definition.specs.Tables.{node_count, record_right, text_right, tree}
use Rattle.definition.specs.TableOutcomes.{has_text, has_key}
use Rattle.definition.specs.Paths.{path_of}
use Rattle.definition.specs.Evaluation.{selected}
use Rattle.definition.specs.Outcomes.{Reads, Translates}
use Rattle.definition.specs.Outcomes.Reading.{form}
use Rattle.tally_laws.specs.Items.{kinds_of, occurrences}
use Rattle.tally_laws.specs.Tallies.{all_kinds}

-- ---- the rows

-- 1: "query over 4,096 bytes"
abbrev pub TooLong : List ℕ → Type 0
TooLong s = max_query < length s

-- 2: "query not UTF-8"
abbrev pub NotUtf8 : List ℕ → Type 0
NotUtf8 s = is_utf8 s ≡ false

-- 3: "bracket count passes 32"
abbrev pub TooDeep : List ℕ → Type 0
TooDeep s = too_deep s ≡ true

-- 4: "not in the RFC's grammar"
abbrev pub NotInGrammar : List ℕ → Type 0
NotInGrammar s = (t : G.Query) → spell t ≡ s → ⊥

-- a tree spells the query, and the first that the walk over it finds wrong is refusal n
abbrev pub WalkFinds : List ℕ → ℕ → Type 0
WalkFinds s n = (t : G.Query) × (spell t ≡ s) × (walk t ≡ Walked.refused n)

-- 4: "an index, slice bound or step outside -(2^53-1)..2^53-1"
abbrev pub OutOfRange : List ℕ → Type 0
OutOfRange s = WalkFinds s 4

-- 5: "typing"
abbrev pub Mistyped : List ℕ → Type 0
Mistyped s = WalkFinds s 5

-- 6: "unknown function"
abbrev pub UnknownFunction : List ℕ → Type 0
UnknownFunction s = WalkFinds s 6

-- 7 is met by no input (document 02, W4), and is given to nothing else.

-- 8: a float literal beyond the range that document 02, W7, names: a tree spells the query, and the walk over it meets such a literal
abbrev pub BeyondExact : List ℕ → Type 0
BeyondExact s = (t : G.Query) × (spell t ≡ s) × (q : Query) × (walk t ≡ walked true q)

-- 9: "table empty, not a multiple of 24 bytes, over 65,535 nodes, or text over 16,777,216 bytes"
abbrev pub WrongSize : List ℕ → List ℕ → Type 0
WrongSize T X = (length T ≡ 0) ⊎ (length T % record_size ≡ 0 → ⊥) ⊎ (max_nodes < node_count T) ⊎ (max_text < length X)

-- a test fails at some of n nodes
abbrev pub Wrong : (ℕ → Bool) → ℕ → Type 0
Wrong right n = (i : ℕ) × (i < n) × (right i ≡ false)

-- 10: a rule on records fails, at some node
abbrev pub WrongRecord : List ℕ → Type 0
WrongRecord T = Wrong (record_right T) (node_count T)

-- 17: a rule on texts and keys fails, at some node (document 02, W6)
abbrev pub WrongText : List ℕ → List ℕ → Type 0
WrongText T X = Wrong (text_right T X) (node_count T)

-- "each with its least node": node i, of n
pub record LeastWrong (right : ℕ → Bool) (n i : ℕ) : Type 0 where
  pub inside : i < n
  pub fails : right i ≡ false
  pub below : (k : ℕ) → k < i → right k ≡ true

-- 11: "plan or pool not the translation of a query form, or over 65,535 bytes"
abbrev pub NotTranslated : List ℕ → List ℕ → Type 0
NotTranslated plan pool = (q : Query) → Translates q plan pool → ⊥

-- 12: "plan or pool room too small", for the form that the query has
abbrev pub RoomTooSmall : List ℕ → List ℕ → List ℕ → Type 0
RoomTooSmall s P R = (q : Query) × Reads s (form q) × ((length P < length (plan_of q)) ⊎ (length R < length (pool_of q)))

-- 13: "more nodes selected than places from the start position", by the form that F gives
abbrev pub TooFewPlaces : (Query → Type 0) → List ℕ → List ℕ → List ℕ → ℕ → Type 0
TooFewPlaces F T X L at = (q : Query) × F q × (length L < at + length (selected q (tree T X)))

-- 14: "start position beyond the list's length"
abbrev pub StartBeyond : List ℕ → ℕ → Type 0
StartBeyond L at = length L < at

-- 15: "node number too big, or the node has no such text"
abbrev pub NoText : List ℕ → ℕ → Type 0
NoText T i = has_text T i ≡ false

abbrev pub NoKey : List ℕ → ℕ → Type 0
NoKey T i = has_key T i ≡ false

-- 15 for a path, which every node of an accepted table has
abbrev pub NoNode : List ℕ → ℕ → Type 0
NoNode T i = node_count T ≤ i

-- 16: "path room too small"
abbrev pub PathTooLong : List ℕ → List ℕ → ℕ → List ℕ → Type 0
PathTooLong T X i B = length B < length (path_of T X i)

-- 21: "a count would pass 2^53-1": the number of plans, or the count of some kind
abbrev pub CountPasses : List ℕ → List ℕ → ℕ → Type 0
CountPasses plan C m = (max_int < m + 1) ⊎ ((k : ℕ) × (k < all_kinds) × (max_int < get_or C k 0 + occurrences k (kinds_of plan)))

-- ---- the orders

-- a refusal number, and when it is given
pub record Rule : Type 1 where
  pub number : ℕ
  pub when : Type 0

abbrev pub rule : ℕ → Type 0 → Rule
rule n W = record { number = n; when = W }

-- n is the number of the first rule whose condition holds, where none before it does; or it is 0, and no condition holds.
abbrev pub First : List Rule → ℕ → Type 0
First [] n = n ≡ 0
First (r ∷ rs) n = ((n ≡ r.number) × r.when) ⊎ ((r.when → ⊥) × First rs n)

-- "the first of 4, 5, 6 in the Rust's walk", then 8
abbrev pub walk_rules : List ℕ → List Rule
walk_rules s = rule 4 (OutOfRange s) ∷ rule 5 (Mistyped s) ∷ rule 6 (UnknownFunction s) ∷ rule 8 (BeyondExact s) ∷ []

-- "1, 2, 3, 4 by grammar, then" these
abbrev pub query_rules : List ℕ → List Rule
query_rules s = rule 1 (TooLong s) ∷ rule 2 (NotUtf8 s) ∷ rule 3 (TooDeep s) ∷ rule 4 (NotInGrammar s) ∷ walk_rules s

-- the check of the records, and that of the texts and keys
abbrev pub record_rules : List ℕ → List ℕ → List Rule
record_rules T X = rule 9 (WrongSize T X) ∷ rule 10 (WrongRecord T) ∷ []

abbrev pub text_rules : List ℕ → List ℕ → List Rule
text_rules T X = rule 9 (WrongSize T X) ∷ rule 17 (WrongText T X) ∷ []

-- the pair: "10 before 17"
abbrev pub table_rules : List ℕ → List ℕ → List Rule
table_rules T X = rule 9 (WrongSize T X) ∷ rule 10 (WrongRecord T) ∷ rule 17 (WrongText T X) ∷ []

-- "14, 13", behind the table's
abbrev pub list_rules : (Query → Type 0) → List ℕ → List ℕ → List ℕ → ℕ → List Rule
list_rules F T X L at = table_rules T X ++ rule 14 (StartBeyond L at) ∷ rule 13 (TooFewPlaces F T X L at) ∷ []

-- "Compile: .. then .. 8, 12."
abbrev pub compile_rules : List ℕ → List ℕ → List ℕ → List Rule
compile_rules s P R = query_rules s ++ rule 12 (RoomTooSmall s P R) ∷ []

-- "Select: the same without 12, then 9, 10, 14, 13", with 17 behind 10
abbrev pub select_rules : List ℕ → List ℕ → List ℕ → List ℕ → ℕ → List Rule
select_rules s T X L at = query_rules s ++ list_rules (λ q. Reads s (form q)) T X L at

-- "Plan check: 11."
abbrev pub plan_rules : List ℕ → List ℕ → List Rule
plan_rules plan pool = rule 11 (NotTranslated plan pool) ∷ []

-- "Run: 11, 9, 10, 14, 13", with 17 behind 10
abbrev pub run_rules : List ℕ → List ℕ → List ℕ → List ℕ → List ℕ → ℕ → List Rule
run_rules plan pool T X L at = plan_rules plan pool ++ list_rules (λ q. Translates q plan pool) T X L at

-- "Text and key of a node: 9, 10, 15", with 17 behind 10, where W says that the node has none
abbrev pub part_rules : Type 0 → List ℕ → List ℕ → List Rule
part_rules W T X = table_rules T X ++ rule 15 W ∷ []

-- path of a node: 9, 10, 17, 15, 16
abbrev pub path_rules : List ℕ → List ℕ → ℕ → List ℕ → List Rule
path_rules T X i B = table_rules T X ++ rule 15 (NoNode T i) ∷ rule 16 (PathTooLong T X i B) ∷ []

-- tally: 11, 21
abbrev pub tally_rules : List ℕ → List ℕ → List ℕ → ℕ → List Rule
tally_rules plan pool C m = plan_rules plan pool ++ rule 21 (CountPasses plan C m) ∷ []
