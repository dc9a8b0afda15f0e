-- The words of this crate's contracts. Assumes nothing: these are definitions.
use Rattle.std.specs.Prelude.{ℕ, suc, ◌+◌, ◌-◌, ◌*◌, ◌≤◌, ◌<◌, ◌≡◌, List, Bool, true, false, length, Option, Some, None, Result, Ok, Err}
use Rattle.definition.specs.Limits.{max_nodes, max_members, max_depth}
use Rattle.definition.specs.Tables.{node_count, field, kind_at, depth_at, parent_at, kind_map, high_word, child_count, first_child, range_right, key_start, key_length, key_differs, head_right, text_right}
use Rattle.table_laws.specs.Joined.{payload_right, node_right}
use Rattle.table_laws.specs.Least.{RightBelow}
use Rattle.table.specs.Buckets.{bucket_at}
use Rattle.table.specs.Chains.{HeadsBelow, Chained, Roomy}
use Rattle.table.specs.declared.scan.Cursor.{Cursor}
use Rattle.table.specs.declared.scan.Passed.{Passed}

-- no rule on texts and keys fails at any node below n
abbrev pub TextsBelow : List ℕ → List ℕ → ℕ → Type 0
TextsBelow T X n = (k : ℕ) → k < n → text_right T X k ≡ true

-- the nodes from a place up to an end are nodes of the table, and their keys lie inside the text
pub record KeysInside (T X : List ℕ) (from end : ℕ) : Type 0 where
  pub nodes : end ≤ node_count T
  pub keys : (j : ℕ) → from ≤ j → j < end → key_start T j + key_length T j ≤ length X

-- the members of a map before a node: they are few enough, and their keys lie inside the text
pub record MembersBefore (T X : List ℕ) (from node : ℕ) : Type 0 where
  pub inside : KeysInside T X from node
  pub few : node < from + max_members

-- a member whose key lies inside the text, as those of the members before it do
pub record Joins (T X : List ℕ) (from node : ℕ) : Type 0 where
  pub inside : KeysInside T X from (node + 1)
  pub from_le : from ≤ node
  pub few : node < from + max_members
  pub small : node ≤ max_nodes

-- in a map of so many members a key is compared with each earlier one
abbrev pub few_members : ℕ
few_members = 8

-- a map of more members, whose keys are found by chains
pub record Large (T : List ℕ) (p : ℕ) : Type 0 where
  pub is_map : kind_at T p ≡ kind_map
  pub many : few_members < high_word T p

-- a node behind the root that the counts before it reach, as the table reaches where its children must begin
pub record HasParent (T : List ℕ) (node : ℕ) : Type 0 where
  pub node_in : node < node_count T
  pub first_in : first_child T node ≤ node_count T
  pub reached : node < first_child T node

-- a cursor before node i: an earlier node at or before the parent of i, with the range of its children, its kind and its depth
pub record CursorAt (T : List ℕ) (i : ℕ) (q : Cursor) : Type 0 where
  pub earlier : q.parent < i
  pub from_is : q.from ≡ first_child T q.parent
  pub from_le : q.from ≤ i
  pub end_is : q.end ≡ first_child T (suc q.parent)
  pub kind_is : q.kind ≡ kind_at T q.parent
  pub depth_is : q.depth ≡ depth_at T q.parent

-- a cursor at the parent of i
pub record ParentAt (T : List ℕ) (i : ℕ) (q : Cursor) : Type 0 where
  pub place : CursorAt T i q
  pub end_past : i < q.end

-- a node of the table under a cursor at its parent
pub record Child (T : List ℕ) (i : ℕ) (q : Cursor) : Type 0 where
  pub node_in : i < node_count T
  pub under : ParentAt T i q
  pub small : node_count T ≤ max_nodes

-- bytes 0-3 of a record as one number
pub record Head (T : List ℕ) (i h : ℕ) : Type 0 where
  pub is : h ≡ kind_at T i + depth_at T i * 256 + field T i 2 2 * 65536
  pub kind : kind_at T i < 256
  pub depth : depth_at T i < 256

-- what every child of p has: a right head, its parent's number, and the depth
pub record Under (T : List ℕ) (p i : ℕ) : Type 0 where
  pub head : head_right T i ≡ true
  pub number : parent_at T i ≡ p
  pub deeper : depth_at T i ≡ depth_at T p + 1

-- the cursor r that was found for node i from the cursor q: q itself, or one of which nothing is known
pub record Moved (i : ℕ) (q r : Cursor) : Type 0 where
  pub stays : i < q.end → r ≡ q
  pub anew : q.end ≤ i → r.sure ≡ false

-- the key of each node from one up to another is unlike those before it
abbrev pub Differing : List ℕ → List ℕ → ℕ → ℕ → Type 0
Differing T X from end = (k : ℕ) → from ≤ k → k < end → key_differs T X k from (k - from) ≡ true

-- a cursor as it was, or with the keys under it known to differ
pub data Surely (T X : List ℕ) (q r : Cursor) : Type 0 where
  as_before : r ≡ q → Surely T X q r
  found : r ≡ record { parent = q.parent; from = q.from; end = q.end; kind = q.kind; depth = q.depth; sure = true } → Differing T X q.from q.end → Surely T X q r

-- heads and links before node i, with a cursor at its parent or before: in a large map they hold the chains of the members before i, unless all keys are known to differ
pub record Kept (T X : List ℕ) (i : ℕ) (q : Cursor) (H L : List ℕ) : Type 0 where
  pub heads : HeadsBelow i H
  pub room : Roomy T L
  pub chained : Large T q.parent → q.sure ≡ false → Chained (bucket_at (length H) T X) q.from i H L
  pub surely : q.sure ≡ true → Differing T X q.from q.end

-- the cursor, heads and links before node i, which the cursor's range reaches
pub record Before (T X : List ℕ) (i : ℕ) (q : Cursor) (H L : List ℕ) : Type 0 where
  pub cursor : CursorAt T i q
  pub reach : i ≤ q.end
  pub kept : Kept T X i q H L

-- where the check of a node's children begins: at one of them, before which all nodes are right, with the place where its own children must begin
pub record Begun (T X : List ℕ) (i first : ℕ) (q : Cursor) : Type 0 where
  pub child : Child T i q
  pub first_is : first ≡ first_child T i
  pub right : RightBelow T X i

-- a node behind i that the cursor's range reaches, before which all nodes are right, with the place where its children must begin
pub record Along (T X : List ℕ) (i : ℕ) (q : Cursor) (n first : ℕ) : Type 0 where
  pub later : i < n
  pub reach : n ≤ q.end
  pub right : RightBelow T X n
  pub first_is : first ≡ first_child T n

-- a wrong node of the table, before which all are right
pub record WrongAt (T X : List ℕ) (n : ℕ) : Type 0 where
  pub node_in : n < node_count T
  pub right : RightBelow T X n
  pub wrong : node_right T X n ≡ false

-- what the check of the children under a cursor, from node i on, comes to
abbrev pub PassedBy : List ℕ → List ℕ → ℕ → Cursor → Result Passed ℕ → Type 0
PassedBy T X i q (Ok p) = Along T X i q p.node p.first
PassedBy T X i q (Err n) = WrongAt T X n

-- the root is a list at depth 0, and the table has all its children
pub record RootList (T : List ℕ) : Type 0 where
  pub plain : kind_at T 0 ≡ kind_map → ⊥
  pub depth : depth_at T 0 ≡ 0
  pub inside : first_child T 1 ≤ node_count T

-- a node before which the root is right and, if the root is no map, some of its children that have none themselves
pub record Front (T X : List ℕ) (n : ℕ) : Type 0 where
  pub some : 1 ≤ n
  pub reach : n ≤ first_child T 1
  pub right : RightBelow T X n
  pub first_is : first_child T n ≡ first_child T 1
  pub plain : kind_at T 0 ≡ kind_map → n ≡ 1

-- a node of the table is a child of the list p, whose depth is d and may have children
pub record Listed (T : List ℕ) (p d i : ℕ) : Type 0 where
  pub node_in : i < node_count T
  pub earlier : p < i
  pub above : first_child T p ≤ i
  pub within : i < first_child T (suc p)
  pub plain : kind_at T p ≡ kind_map → ⊥
  pub depth_is : d ≡ depth_at T p
  pub shallow : d < max_depth

-- the nodes from one up to an end are such children, and all before them are right
pub record ListedFrom (T X : List ℕ) (p d from end : ℕ) : Type 0 where
  pub begins : from ≤ end
  pub listed : (i : ℕ) → from ≤ i → i < end → Listed T p d i
  pub right : RightBelow T X from

-- a node from one on up to an end, before which all nodes are right, and up to which from the first one on none has children
pub record Behind (T X : List ℕ) (from end n : ℕ) : Type 0 where
  pub later : from ≤ n
  pub reach : n ≤ end
  pub right : RightBelow T X n
  pub first_is : first_child T n ≡ first_child T from

-- whether a list or a map is right by its range, or has too many children
pub record Bounded (T : List ℕ) (i : ℕ) (b : Bool) : Type 0 where
  pub range : b ≡ true → (X : List ℕ) → payload_right T X i ≡ range_right T i
  pub many : b ≡ false → (X : List ℕ) → payload_right T X i ≡ false

-- what a node is found to be by a rule: where the children of the next node must begin, if the rule holds
abbrev pub NextBy : List ℕ → ℕ → Bool → Option ℕ → Type 0
NextBy T i b None = b ≡ false
NextBy T i b (Some r) = (b ≡ true) × (r ≡ first_child T i + child_count T i)
