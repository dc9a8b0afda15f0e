-- One plan serves before and after values change kind: the plan of `$.a[?@ >= 20]` and five tables, each under the same computed test (proofs/Served).
use Rattle.std.specs.Prelude.{ℕ, refl, List, [], ◌∷◌, ◌++◌, pos}
use Rattle.std.proofs.Common.{arith}
use Rattle.definition.specs.Forms.{Query}
use Rattle.definition.specs.Forms.Start.{root, current}
use Rattle.definition.specs.Forms.Query.{query}
use Rattle.definition.specs.Forms.Segments.{end, child}
use Rattle.definition.specs.Forms.Selectors.{one}
use Rattle.definition.specs.Forms.Selector.{name, filter}
use Rattle.definition.specs.Forms.Test.{compare}
use Rattle.definition.specs.Forms.Operator.{ge}
use Rattle.definition.specs.Forms.Argument.{literal, singular}
use Rattle.definition.specs.Forms.Literal.{integer}
use Rattle.definition.specs.Outcomes.{Translates}
use Rattle.definition_examples.specs.Sample.{node, under, root as rootMap, list_a, text_b, ten, twenty, thirty, sample_table}
use Rattle.definition_examples.specs.Computes.{computes}
use Rattle.promises_stated.specs.Promises.{Version}

-- ---- the plan

-- the form of `$.a[?@ >= 20]`
abbrev pub at_least_twenty : Query
at_least_twenty = query root (child (one (name (0x61 ∷ []))) (child (one (filter (compare ge (singular (query current end)) (literal (integer (pos 20)))))) end))

abbrev pub serving_plan : List ℕ
serving_plan = 0x01 ∷ 0x03 ∷ 0x01 ∷ 0x00 ∷ 0x05 ∷ 0x00 ∷ 0x00 ∷ 0x01 ∷ 0x00 ∷ 0x03 ∷ 0x01 ∷ 0x00 ∷ 0x09 ∷ 0x0D ∷ 0x00 ∷ 0x02 ∷ 0x0A ∷ 0x10 ∷ 0x14 ∷ 0x00 ∷ 0x00 ∷ 0x00 ∷ 0x00 ∷ 0x00 ∷ 0x00 ∷ 0x00 ∷ 0x14 ∷ 0x05 ∷ 0x0A ∷ []

abbrev pub serving_pool : List ℕ
serving_pool = 0x61 ∷ []

pub serving : Translates at_least_twenty serving_plan serving_pool
unfolding computes
serving = record { is_query = refl; is_plan = refl; is_pool = refl; plan_fits = omega arith; pool_fits = omega arith }

-- ---- the tables

-- node 3 as the float 20.5, node 4 as the text é, node 5 as null
abbrev float_there : List ℕ
float_there = under 1 (node 4 2 0 0 0 0x40348000)

abbrev text_there : List ℕ
text_there = under 1 (node 5 2 0 0 2 2)

abbrev null_there : List ℕ
null_there = under 1 (node 0 2 0 0 0 0)

-- node 1, under the key a, as the integer 40
abbrev integer_there : List ℕ
integer_there = node 3 1 0 1 40 0

abbrev version : List ℕ → List ℕ → Version
version T ns = record { table = T; nodes = ns }

abbrev pub versions : List Version
versions =
    -- {"a":[10,20.0,30],"b":"é"} selects 4 5
    version sample_table (4 ∷ 5 ∷ []) ∷
    -- {"a":[20.5,20.0,30],"b":"é"} selects 3 4 5
    version (rootMap ++ (list_a ++ (text_b ++ (float_there ++ (twenty ++ thirty))))) (3 ∷ 4 ∷ 5 ∷ []) ∷
    -- {"a":[10,"é",30],"b":"é"} selects 5
    version (rootMap ++ (list_a ++ (text_b ++ (ten ++ (text_there ++ thirty))))) (5 ∷ []) ∷
    -- {"a":[10,20.0,null],"b":"é"} selects 4
    version (rootMap ++ (list_a ++ (text_b ++ (ten ++ (twenty ++ null_there))))) (4 ∷ []) ∷
    -- {"a":40,"b":"é"} selects none
    version (rootMap ++ (integer_there ++ text_b)) [] ∷
    []
