-- The outcomes of the two checks of a table and of the pair, of text of a node and of key of a node: the answer's numbers, and what the lent number holds afterwards.
-- Each is a function of the input, so it leaves one outcome.
use Rattle.std.specs.Prelude.{ℕ, List, [], Bool, true, false, ◌&&◌, eqb, ltb}
use Rattle.std.proofs.Math.Option.{Option, none, some}
use Rattle.definition.specs.Tables.{Checked, check_records, check_texts, check_table, node_count, kind_at, kind_text, kind_map, key_bytes, text_bytes_at, parent_of}
use Rattle.definition.specs.Tables.Checked.{accepted, sized, wrong_at, text_at}

-- The refusal, 0 for none, and the least node where 10 or 17 names one.
pub record TableOutcome : Type 0 where
  pub refusal : ℕ
  pub node : ℕ

unfoldable pub report_table : Checked → TableOutcome
report_table accepted = record { refusal = 0; node = 0 }
report_table sized = record { refusal = 9; node = 0 }
report_table (wrong_at i) = record { refusal = 10; node = i }
report_table (text_at i) = record { refusal = 17; node = i }

-- document 02, W6: the check of the records, 9, 10; the check of the texts and keys, 9, 17; and the pair, "10 before 17"
unfoldable pub records_outcome : List ℕ → List ℕ → TableOutcome
records_outcome T X = report_table (check_records T X)

unfoldable pub texts_outcome : List ℕ → List ℕ → TableOutcome
texts_outcome T X = report_table (check_texts T X)

unfoldable pub table_outcome : List ℕ → List ℕ → TableOutcome
table_outcome T X = report_table (check_table T X)

-- "Text and key of a node: 9, 10, 15", with 17 behind 10; "they return the part of the lent text that holds it, or an empty part, and set a lent number to 0 or the refusal."
pub record PartOutcome : Type 0 where
  pub part : List ℕ
  pub number : ℕ

unfoldable pub refused_part : ℕ → PartOutcome
refused_part n = record { part = []; number = n }

-- 15: "node number too big, or the node has no such text"
unfoldable pub found_part : Bool → List ℕ → PartOutcome
found_part true s = record { part = s; number = 0 }
found_part false s = refused_part 15

unfoldable pub part_by : Checked → Bool → List ℕ → PartOutcome
part_by accepted b s = found_part b s
part_by sized b s = refused_part 9
part_by (wrong_at i) b s = refused_part 10
part_by (text_at i) b s = refused_part 17

-- the nodes that have a text: those of kind 5
unfoldable pub has_text : List ℕ → ℕ → Bool
has_text T i = ltb i (node_count T) && eqb (kind_at T i) kind_text

-- the nodes that have a key: the members of maps
unfoldable pub is_member : List ℕ → Option ℕ → Bool
is_member T none = false
is_member T (some p) = eqb (kind_at T p) kind_map

unfoldable pub has_key : List ℕ → ℕ → Bool
has_key T i = ltb i (node_count T) && is_member T (parent_of T i)

unfoldable pub text_outcome : List ℕ → List ℕ → ℕ → PartOutcome
text_outcome T X i = part_by (check_table T X) (has_text T i) (text_bytes_at T X i)

unfoldable pub key_outcome : List ℕ → List ℕ → ℕ → PartOutcome
key_outcome T X i = part_by (check_table T X) (has_key T i) (key_bytes T X i)
