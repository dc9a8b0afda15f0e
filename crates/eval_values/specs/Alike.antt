-- The words of equality between nodes and of the six operators. Assumes nothing: these are definitions.
use Rattle.std.specs.Prelude.{ℕ, ◌+◌, ◌≤◌, ◌<◌, ◌≡◌, List, Bool, false, not, ◌&&◌, length}
use Rattle.std.proofs.Math.Option.{Option, none, some}
use Rattle.definition.specs.Values.{Json, lookup}
use Rattle.definition.specs.Forms.{Operator}
use Rattle.definition.specs.Plans.{operator_byte}
use Rattle.definition.specs.Compare.{Value, node_value, same, is_some, same_node, same_elements, same_members, compare_values}
use Rattle.definition.specs.Tables.{node_count, node_at, kind_at, kind_list, kind_map, key_start, key_length, key_bytes}
use Rattle.table_laws.specs.Nodes.{kids_at}

-- whether the values of two nodes are equal
abbrev pub same_at : List ℕ → List ℕ → ℕ → ℕ → Bool
same_at S X i j = same (node_value (node_at S X i)) (node_value (node_at S X j))

-- whether the children of two nodes are, one by one
abbrev pub same_elements_at : List ℕ → List ℕ → ℕ → ℕ → Bool
same_elements_at S X i j = same_elements (kids_at S X i) (kids_at S X j)

-- whether each child of the first has an equal one of its name in the second
abbrev pub same_members_at : List ℕ → List ℕ → ℕ → ℕ → Bool
same_members_at S X i j = same_members (kids_at S X i) (kids_at S X j)

-- whether the member m is found equal under its name
abbrev pub found_same : Json → Option Json → Bool
found_same m none = false
found_same m (some h) = same_node m (node_value h)

abbrev pub member_at : List ℕ → List ℕ → ℕ → ℕ → Bool
member_at S X m j = found_same (node_at S X m) (lookup (key_bytes S X m) (kids_at S X j))

-- `!=`
abbrev pub differ : Value → Value → Bool
differ v w = is_some v && (is_some w && not (same v w))

-- two nodes of the table, lists or maps
pub record Both (S : List ℕ) (i j : ℕ) : Type 0 where
  pub first : i < node_count S
  pub second : j < node_count S
  pub nested_i : kind_list ≤ kind_at S i
  pub nested_j : kind_list ≤ kind_at S j

-- a node with a key inside the text, and a map
pub record AskMember (S X : List ℕ) (m j : ℕ) : Type 0 where
  pub first : m < node_count S
  pub second : j < node_count S
  pub key : key_start S m + key_length S m ≤ length X
  pub map : kind_at S j ≡ kind_map

-- b is what the operator of a byte says of two values
abbrev pub Compares : Value → Value → ℕ → Bool → Type 0
Compares v w op b = (o : Operator) → operator_byte o ≡ op → b ≡ compare_values o v w
