-- The table of values: its records, the rules on records and those on texts and keys, the two checks with the least node at which a rule fails, and the tree of values that a table holds.
-- T is the table's bytes, X the text's, i a node number.
use Rattle.std.specs.Prelude.{ℕ, zero, suc, ◌+◌, ◌-◌, ◌*◌, ◌/◌, ◌%◌, List, Bool, true, false, cond, not, ◌&&◌, ◌||◌, eqb, leb, ltb, length}
use Rattle.std.proofs.Math.Option.{Option, none, some}
use Rattle.std.specs.Float.{binary64}
use Rattle.std.specs.Float.Ieee.{of_bits, ones, hid, top}
use Rattle.definition.specs.Limits.{record_size, max_nodes, max_text, max_depth, max_members}
use Rattle.definition.specs.Bytes.{part, number, signed64, same_bytes}
use Rattle.definition.specs.Utf8.{is_utf8}
use Rattle.definition.specs.Values.{Json, Kids}
use Rattle.definition.specs.Values.Json.{null, boolean, integer, float, text, list, map}
use Rattle.definition.specs.Values.Kids.{nil, more}

-- ---- the records: "Records of 24 bytes, little-endian, node 0 the root"

abbrev pub node_count : List ℕ → ℕ
node_count T = length T / record_size

-- the number in the w bytes of record i from byte b on
abbrev pub field : List ℕ → ℕ → ℕ → ℕ → ℕ
field T i b w = number (part T (record_size * i + b) w)

abbrev pub kind_at : List ℕ → ℕ → ℕ
kind_at T i = field T i 0 1

abbrev pub depth_at : List ℕ → ℕ → ℕ
depth_at T i = field T i 1 1

abbrev pub key_start : List ℕ → ℕ → ℕ
key_start T i = field T i 4 4

abbrev pub key_length : List ℕ → ℕ → ℕ
key_length T i = field T i 8 4

-- "Bytes 12-15 of each record now hold the parent's node number, 0 at the root" (document 02, W2)
abbrev pub parent_at : List ℕ → ℕ → ℕ
parent_at T i = field T i 12 4

-- bytes 16-23 as one number, and as two: text start and length, first child and child count
abbrev pub payload : List ℕ → ℕ → ℕ
payload T i = field T i 16 8

abbrev pub low_word : List ℕ → ℕ → ℕ
low_word T i = field T i 16 4

abbrev pub high_word : List ℕ → ℕ → ℕ
high_word T i = field T i 20 4

-- "Byte 0 kind: 0 null, 1 false, 2 true, 3 integer, 4 float, 5 text, 6 list, 7 map."
abbrev pub kind_float : ℕ
kind_float = 4

abbrev pub kind_text : ℕ
kind_text = 5

abbrev pub kind_list : ℕ
kind_list = 6

abbrev pub kind_map : ℕ
kind_map = 7

abbrev pub is_container : List ℕ → ℕ → Bool
is_container T i = eqb (kind_at T i) kind_list || eqb (kind_at T i) kind_map

-- child counts are those of lists and maps
unfoldable pub child_count : List ℕ → ℕ → ℕ
child_count T i = cond (is_container T i) (high_word T i) 0

-- "the child counts of all nodes before i"
unfoldable pub counts_before : List ℕ → ℕ → ℕ
counts_before T zero = 0
counts_before T (suc i) = counts_before T i + child_count T i

-- where the children of node i are due to begin: "1 plus the child counts of all nodes before i". An empty container has none, and its field is 0.
abbrev pub first_child : List ℕ → ℕ → ℕ
first_child T i = 1 + counts_before T i

-- the parts of the text that a key and a text name
abbrev pub key_bytes : List ℕ → List ℕ → ℕ → List ℕ
key_bytes T X i = part X (key_start T i) (key_length T i)

abbrev pub text_bytes_at : List ℕ → List ℕ → ℕ → List ℕ
text_bytes_at T X i = part X (low_word T i) (high_word T i)

-- "Texts and keys lie inside the text and are UTF-8."
unfoldable pub good_part : List ℕ → ℕ → ℕ → Bool
good_part X at n = leb (at + n) (length X) && is_utf8 (part X at n)

-- ---- parents: "Every node but 0 is some earlier node's child"

-- whether node i is in the range of node p's children
unfoldable pub is_child_of : List ℕ → ℕ → ℕ → Bool
is_child_of T p i = leb (first_child T p) i && ltb i (first_child T p + child_count T p)

-- the node below b that has node i as a child
unfoldable pub parent_below : List ℕ → ℕ → ℕ → Option ℕ
parent_below T i zero = none
parent_below T i (suc b) = cond (is_child_of T b i) (some b) (parent_below T i b)

abbrev pub parent_of : List ℕ → ℕ → Option ℕ
parent_of T i = parent_below T i i

-- ---- the rules on records: no text is read

-- "Byte 0 kind", "Byte 1 depth, at most 63. Bytes 2-3 .. zero." Document 02, W2: "Document 01's 'bytes 12-15 zero' goes".
unfoldable pub head_right : List ℕ → ℕ → Bool
head_right T i = leb (kind_at T i) kind_map && (leb (depth_at T i) max_depth && eqb (field T i 2 2) 0)

-- "finite float bits": the exponent's field is not all ones
unfoldable pub is_finite : ℕ → Bool
is_finite b = ltb (b % top binary64 / hid binary64) (ones binary64)

-- "an empty container has first child 0"; otherwise the first child is as said, and the range does not pass the end
unfoldable pub range_right : List ℕ → ℕ → Bool
range_right T i = cond (eqb (high_word T i) 0) (eqb (low_word T i) 0) (eqb (low_word T i) (first_child T i) && leb (low_word T i + high_word T i) (node_count T))

-- "Bytes 16-23: integer in two's complement; finite float bits; text start and length; first child and child count; else zero."
-- "A map has at most 1,024 members". Where a text starts and how long it is, is a rule on texts.
unfoldable pub payload_record : List ℕ → ℕ → Bool
payload_record T i =
    cond (ltb (kind_at T i) 3) (eqb (payload T i) 0)
    (cond (eqb (kind_at T i) 3) true
    (cond (eqb (kind_at T i) kind_float) (is_finite (payload T i))
    (cond (eqb (kind_at T i) kind_text) true
    (cond (eqb (kind_at T i) kind_list) (range_right T i) (range_right T i && leb (high_word T i) max_members)))))

-- "the key of any other node has start and length 0"
unfoldable pub no_key : List ℕ → ℕ → Bool
no_key T i = eqb (key_start T i) 0 && eqb (key_length T i) 0

-- what is asked of a record by the node's parent: its number in bytes 12-15, "Depth is 0 at the root, else the parent's plus 1", and no key where it is no map
unfoldable pub place_record : List ℕ → ℕ → Option ℕ → Bool
place_record T i none = false
place_record T i (some p) = eqb (parent_at T i) p && (eqb (depth_at T i) (depth_at T p + 1) && cond (eqb (kind_at T p) kind_map) true (no_key T i))

unfoldable pub stands_record : List ℕ → ℕ → Bool
stands_record T zero = eqb (parent_at T zero) 0 && (eqb (depth_at T zero) 0 && no_key T zero)
stands_record T (suc i) = place_record T (suc i) (parent_of T (suc i))

-- no rule on records fails at node i
unfoldable pub record_right : List ℕ → ℕ → Bool
record_right T i = head_right T i && (payload_record T i && stands_record T i)

-- ---- the rules on texts and keys, for any records: document 02, W6, "takes each range as its record writes it, as far as the table reaches"

-- the text of a node, if it is one
unfoldable pub text_inside : List ℕ → List ℕ → ℕ → Bool
text_inside T X i = cond (eqb (kind_at T i) kind_text) (good_part X (low_word T i) (high_word T i)) true

-- whether node p is a map whose written range holds node i
unfoldable pub holds : List ℕ → ℕ → ℕ → Bool
holds T p i = eqb (kind_at T p) kind_map && (leb (low_word T p) i && ltb i (low_word T p + high_word T p))

-- whether the key of node i is unlike those of the n nodes from j on
unfoldable pub key_differs : List ℕ → List ℕ → ℕ → ℕ → ℕ → Bool
key_differs T X i j zero = true
key_differs T X i j (suc n) = not (same_bytes (key_bytes T X j) (key_bytes T X i)) && key_differs T X i (suc j) n

-- the key of a member i of map p: inside the text, UTF-8, and unlike the keys of the members before it
unfoldable pub key_right : List ℕ → List ℕ → ℕ → ℕ → Bool
key_right T X p i = good_part X (key_start T i) (key_length T i) && key_differs T X i (low_word T p) (i - low_word T p)

-- the same under each of the first n nodes that holds i, whether it stands before i or behind it
unfoldable pub keys_right : List ℕ → List ℕ → ℕ → ℕ → Bool
keys_right T X i zero = true
keys_right T X i (suc p) = cond (holds T p i) (key_right T X p i) true && keys_right T X i p

-- no rule on texts and keys fails at node i
unfoldable pub text_right : List ℕ → List ℕ → ℕ → Bool
text_right T X i = text_inside T X i && keys_right T X i (node_count T)

-- ---- the checks

-- "each with its least node": the least of the n numbers from i on that fails a test
unfoldable pub least_failing : (ℕ → Bool) → ℕ → ℕ → Option ℕ
least_failing right i zero = none
least_failing right i (suc n) = cond (right i) (least_failing right (suc i) n) (some i)

abbrev pub least_record : List ℕ → Option ℕ
least_record T = least_failing (record_right T) 0 (node_count T)

abbrev pub least_text : List ℕ → List ℕ → Option ℕ
least_text T X = least_failing (text_right T X) 0 (node_count T)

-- refusal 9: "table empty, not a multiple of 24 bytes, over 65,535 nodes, or text over 16,777,216 bytes"
unfoldable pub bad_size : List ℕ → List ℕ → Bool
bad_size T X = eqb (length T) 0 || (not (eqb (length T % record_size) 0) || (ltb max_nodes (node_count T) || ltb max_text (length X)))

-- What a check comes to: all right, refusal 9, "10 for the record rules, 17 for the text rules", each with its node.
pub data Checked : Type 0 where
  accepted : Checked
  sized : Checked
  wrong_at : ℕ → Checked
  text_at : ℕ → Checked

unfoldable pub by_record : Option ℕ → Checked
by_record none = accepted
by_record (some i) = wrong_at i

unfoldable pub by_text : Option ℕ → Checked
by_text none = accepted
by_text (some i) = text_at i

unfoldable pub by_size : Bool → Checked → Checked
by_size true c = sized
by_size false c = c

-- the two operations, each of which can be called alone
unfoldable pub check_records : List ℕ → List ℕ → Checked
check_records T X = by_size (bad_size T X) (by_record (least_record T))

unfoldable pub check_texts : List ℕ → List ℕ → Checked
check_texts T X = by_size (bad_size T X) (by_text (least_text T X))

-- what a check comes to, or what follows it where it accepts
unfoldable pub and_then : Checked → Checked → Checked
and_then accepted c = c
and_then sized c = sized
and_then (wrong_at i) c = wrong_at i
and_then (text_at i) c = text_at i

-- the pair: "the first over all nodes, then the second"
unfoldable pub check_table : List ℕ → List ℕ → Checked
check_table T X = and_then (check_records T X) (check_texts T X)

-- ---- the tree of an accepted table

-- the nodes j, j + 1, .. of a row of n, made by a function
unfoldable pub row : (ℕ → Json) → (ℕ → List ℕ) → ℕ → ℕ → Kids
row node key j zero = nil
row node key j (suc n) = more (key j) (node j) (row node key (suc j) n)

-- the value of node i, from its kind and its children
unfoldable pub value_by : List ℕ → List ℕ → ℕ → Kids → Json
value_by T X i ks =
    cond (eqb (kind_at T i) 0) (null i)
    (cond (eqb (kind_at T i) 1) (boolean i false)
    (cond (eqb (kind_at T i) 2) (boolean i true)
    (cond (eqb (kind_at T i) 3) (integer i (signed64 (payload T i)))
    (cond (eqb (kind_at T i) kind_float) (float i (of_bits binary64 (payload T i)))
    (cond (eqb (kind_at T i) kind_text) (text i (text_bytes_at T X i))
    (cond (eqb (kind_at T i) kind_list) (list i ks) (map i ks)))))))

-- Children are one deeper than their parent, and no depth passes 63: so 64 levels are enough, and in an accepted table the first clause is never met:
-- the crate `definition_laws` (Levels) proves that with more levels the tree is the same, whatever stands in the first clause's place.
unfoldable pub tree_at : ℕ → List ℕ → List ℕ → ℕ → Json
tree_at zero T X i = null i
tree_at (suc f) T X i = value_by T X i (row (tree_at f T X) (key_bytes T X) (first_child T i) (child_count T i))

-- the value of node i of an accepted table, wherever it stands
unfoldable pub node_at : List ℕ → List ℕ → ℕ → Json
node_at T X i = tree_at (suc max_depth - depth_at T i) T X i

unfoldable pub tree : List ℕ → List ℕ → Json
tree T X = node_at T X 0
