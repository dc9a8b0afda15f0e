-- Document 01's further examples, each as a theorem of its own: the compile example, the boundary of indices, exact comparison, and the sample table's tree.
use Rattle.std.specs.Prelude.{ℕ, ◌≡◌, refl, List, [], ◌∷◌, true, pos, length, replicate}
use Rattle.std.proofs.Math.Option.{Option, none, some}
use Rattle.std.specs.Float.{binary64}
use Rattle.std.specs.Float.Ieee.{of_bits}
use Rattle.definition.specs.Lexical.{Blanks}
use Rattle.definition.specs.Lexical.Int.{plain_int}
use Rattle.definition.specs.Grammar as G
use Rattle.definition.specs.Grammar.Segments.{no_segment, more_segments}
use Rattle.definition.specs.Grammar.Segment.{child_brackets, child_name}
use Rattle.definition.specs.Grammar.Bracketed.{bracketed}
use Rattle.definition.specs.Grammar.Selectors.{no_selector}
use Rattle.definition.specs.Grammar.Selector.{index_selector}
use Rattle.definition.specs.Forms.{Query}
use Rattle.definition.specs.Forms.Start.{root}
use Rattle.definition.specs.Forms.Segments.{end, child}
use Rattle.definition.specs.Forms.Selectors.{one}
use Rattle.definition.specs.Forms.Selector.{name, index}
use Rattle.definition.specs.Forms.Operator.{gt}
use Rattle.definition.specs.Values.{descend}
use Rattle.definition.specs.Walk.{walk}
use Rattle.definition.specs.Tables.{tree}
use Rattle.definition.specs.Compare.{Value, compare_values}
use Rattle.definition.specs.Selecting.{Reading, Reads, has_tree, judge}
use Rattle.definition.specs.Selecting.Reading.{form, refused}
use Rattle.definition.specs.Outcomes.{Compiles}
use Rattle.definition_examples.specs.Computes.{computes}
use Rattle.definition_examples.specs.Texts.{codes, bytes, hex}
use Rattle.definition_examples.specs.Trees.{tree_of}
use Rattle.definition_examples.specs.Sample.{sample_table, sample_text}

-- ---- a tree and its form, written out: `$.a[1]`

abbrev no_blank : Blanks
no_blank = record { bytes = []; good = refl }

abbrev tree_example : G.Query
tree_example =
    record {
      segments = more_segments no_blank (child_name (record { first = 0x61; more = []; is_first = refl; are_more = refl }))
          (more_segments no_blank (child_brackets (bracketed no_blank (index_selector (plain_int (record { first = 0x31; more = []; is_first = refl; are_more = refl }))) no_selector no_blank)) no_segment);
    }

abbrev form_example : Query
form_example = Query.query root (child (one (name (bytes "a"))) (child (one (index (pos 1))) end))

pub example_reads : Reads (bytes "$.a[1]") (form form_example)
unfolding computes
example_reads = has_tree refl tree_example refl

-- the reader of the examples finds that tree
pub example_found : tree_of (codes "$.a[1]") ≡ some tree_example
example_found = refl

-- ---- "`$.a[1]` compiles to 01 03 01 00 05 00 00 01 00 03 01 00 06 01 00 00 00 00 00 00 00 0A, pool "a"", here into rooms of just that size

abbrev pub plan_example : List ℕ
plan_example = hex "01 03 01 00 05 00 00 01 00 03 01 00 06 01 00 00 00 00 00 00 00 0A"

pub compile_example : Compiles (bytes "$.a[1]") (replicate 22 0) (0 ∷ []) (record { refusal = 0; plan_length = 22; pool_length = 1; plan_room = plan_example; pool_room = bytes "a" })
unfolding computes
compile_example = record { reading = form form_example; reads = example_reads; is = refl }

-- in larger rooms the rest is left as it was
pub compile_larger : Compiles (bytes "$.a[1]") (replicate 23 7) (7 ∷ 7 ∷ []) (record { refusal = 0; plan_length = 22; pool_length = 1; plan_room = hex "01 03 01 00 05 00 00 01 00 03 01 00 06 01 00 00 00 00 00 00 00 0A 07"; pool_room = hex "61 07" })
unfolding computes
compile_larger = record { reading = form form_example; reads = example_reads; is = refl }

-- one byte less of plan room, or of pool room, is 12, with both lengths, and changes nothing
pub plan_room_example : Compiles (bytes "$.a[1]") (replicate 21 7) (0 ∷ []) (record { refusal = 12; plan_length = 22; pool_length = 1; plan_room = replicate 21 7; pool_room = 0 ∷ [] })
unfolding computes
plan_room_example = record { reading = form form_example; reads = example_reads; is = refl }

pub pool_room_example : Compiles (bytes "$.a[1]") (replicate 22 7) [] (record { refusal = 12; plan_length = 22; pool_length = 1; plan_room = replicate 22 7; pool_room = [] })
unfolding computes
pool_room_example = record { reading = form form_example; reads = example_reads; is = refl }

-- ---- "Index 9007199254740991 passes": what its tree comes to

abbrev comes_to : Option G.Query → Reading
comes_to none = refused 4
comes_to (some t) = judge (walk t)

pub largest_index : comes_to (tree_of (codes "$[9007199254740991]")) ≡ form (Query.query root (child (one (index (pos 9007199254740991))) end))
unfolding computes
largest_index = refl

-- ---- "Integer 9007199254740993 is greater than float 9007199254740992", as values

pub exactly_greater : compare_values gt (Value.integer (pos 9007199254740993)) (Value.float (of_bits binary64 0x4340000000000000)) ≡ true
unfolding computes
exactly_greater = refl

-- the tree of the sample table has 6 nodes
pub six_nodes : length (descend (tree sample_table sample_text)) ≡ 6
unfolding computes
six_nodes = refl
