-- Document 01's starred sample rows, from the query's bytes and the table's records to the node numbers, as one table under one theorem (proofs/Rows).
-- "The sample row `$[?!count(@.*)]` becomes a plan row" (document 02, W12): its query is refused, and its plan selects what it selected.
use Rattle.std.specs.Prelude.{ℕ, ◌≡◌, refl, List, [], ◌∷◌, Bool, true, ◌&&◌}
use Prim.Native.String.{String}
use Rattle.definition.specs.Forms.{Query}
use Rattle.definition.specs.Forms.Start.{root, current}
use Rattle.definition.specs.Forms.Query.{query}
use Rattle.definition.specs.Forms.Segments.{end, child}
use Rattle.definition.specs.Forms.Selectors.{one}
use Rattle.definition.specs.Forms.Selector.{wildcard, filter}
use Rattle.definition.specs.Forms.Test.{not_value}
use Rattle.definition.specs.Forms.Function.{count_of}
use Rattle.definition_examples.specs.Computes.{computes}
use Rattle.definition_examples.specs.Texts.{bytes, hex}
use Rattle.definition_examples.specs.Sample.{sample_table, sample_text}
use Rattle.definition_examples.specs.Gives.{Gives, PlanGives, gives, plan_gives, selects, plan_selects}
use Rattle.basics.specs.Bools.{and_left as left, and_right as right}

-- A query and the nodes that it selects from the sample table; or a plan in hexadecimal, its pool as text, the form that they translate, and the nodes.
pub data Row : Type 0 where
  row : String → List ℕ → Row
  plan_row : String → String → Query → List ℕ → Row

abbrev pub RowGives : Row → Type 0
RowGives (row q ns) = Gives (bytes q) sample_table sample_text ns
RowGives (plan_row plan pool q ns) = PlanGives (hex plan) (bytes pool) sample_table sample_text ns

abbrev pub AllGive : List Row → Type 0
AllGive [] = Unit {0}
AllGive (r ∷ rs) = RowGives r × AllGive rs

-- the form that `$[?!count(@.*)]` had
abbrev pub not_count : Query
not_count = query root (child (one (filter (not_value (count_of (query current (child (one wildcard) end)))))) end)

abbrev pub starred_rows : List Row
starred_rows =
    row "$" (0 ∷ []) ∷
    row "$['a'][-1]" (5 ∷ []) ∷
    row "$.a[-4]" [] ∷
    row "$.a[::2]" (3 ∷ 5 ∷ []) ∷
    row "$.a[::-1]" (5 ∷ 4 ∷ 3 ∷ []) ∷
    row "$.a[9::-2]" (4 ∷ []) ∷
    row "$.a[-9:-9:-1]" (3 ∷ []) ∷
    row "$.a[?@ >= 20]" (4 ∷ 5 ∷ []) ∷
    row "$..*" (1 ∷ 2 ∷ 3 ∷ 4 ∷ 5 ∷ []) ∷
    row "$.a[?@.x == $.y]" [] ∷
    plan_row "01 03 01 00 09 09 00 02 03 01 00 08 0A 19 18 15 0A" "" not_count (2 ∷ []) ∷
    row "$[?@[?@ == $[0]]]" (1 ∷ []) ∷
    []

-- the sample rows that are not starred
abbrev pub other_rows : List Row
other_rows =
    -- W3: "The two sample rows with length become 'none'"
    row "$[?length(@) == 0]" [] ∷
    row "$[?length('é') == 2]" [] ∷
    -- "`$['a','a']` is 1 1"
    row "$['a','a']" (1 ∷ 1 ∷ []) ∷
    []

-- ---- the rows, by one computed test

abbrev row_selects : Row → Bool
row_selects (row q ns) = selects q sample_table sample_text ns
row_selects (plan_row plan pool q ns) = plan_selects plan pool q sample_table sample_text ns

abbrev all_select : List Row → Bool
all_select [] = true
all_select (r ∷ rs) = row_selects r && all_select rs

row_gives : (r : Row) → row_selects r ≡ true → RowGives r
row_gives (row q ns) e = gives q sample_table sample_text ns e
row_gives (plan_row plan pool q ns) e = plan_gives plan pool q sample_table sample_text ns e

pub all_give : (rs : List Row) → all_select rs ≡ true → AllGive rs
all_give [] e = tt
all_give (r ∷ rs) e = (row_gives r (left (row_selects r) (all_select rs) e), all_give rs (right (row_selects r) (all_select rs) e))

pub starred_hold : all_select starred_rows ≡ true
unfolding computes
starred_hold = refl

pub others_hold : all_select other_rows ≡ true
unfolding computes
others_hold = refl
