-- The nodes of an accepted table: each is made from its kind and the nodes of its range, and the children of a node are the nodes of that range.
-- Assumes nothing.
use Prim.Native.Nat.{ℕ, zero, suc, ◌+◌, ◌-◌, ◌≤◌, ◌<◌}
use Rattle.std.specs.Prelude.{◌≡◌, List, [], ◌∷◌, true, false, length, take, drop}
use Rattle.std.proofs.Math.Path.{refl, ap, subst}
use Rattle.std.proofs.Common.{sym, ◌∙◌}
use Rattle.std.proofs.Math.Option.{Option, none, some}
use Rattle.std.specs.Float.{binary64}
use Rattle.std.specs.Float.Ieee.{of_bits}
use native.Mathlib.Omega.{arith}
use Rattle.definition.specs.Limits.{max_depth}
use Rattle.definition.specs.Bytes.{signed64, same_bytes}
use Rattle.definition.specs.Values.{Json, Kids, id_of, to_list, many, lookup, children, elements, members}
use Rattle.definition.specs.Values.Kids.{nil, more}
use Rattle.definition.specs.Tables.{node_count, kind_at, depth_at, payload, key_bytes, text_bytes_at, kind_float, kind_text, kind_list, kind_map, child_count, first_child, row, value_by, tree_at, node_at}
use Rattle.table_laws.specs.Rights.{count_other}
use Rattle.table_laws.specs.Accepted.{Accepted}

-- the values of c nodes from j on
unfoldable pub nodes : List ℕ → List ℕ → ℕ → ℕ → List Json
nodes T X j zero = []
nodes T X j (suc c) = node_at T X j ∷ nodes T X (j + 1) c

-- the same with their keys
unfoldable pub kids : List ℕ → List ℕ → ℕ → ℕ → Kids
kids T X j c = row (node_at T X) (key_bytes T X) j c

-- the children of a node with their keys
abbrev pub kids_at : List ℕ → List ℕ → ℕ → Kids
kids_at T X i = kids T X (first_child T i) (child_count T i)

-- ---- a value by its kind

module _ (T X : List ℕ) (i : ℕ) (ks : Kids) where
  pub by_null : kind_at T i ≡ 0 → value_by T X i ks ≡ Json.null i
  unfolding value_by
  by_null e = rw e

  pub by_false : kind_at T i ≡ 1 → value_by T X i ks ≡ Json.boolean i false
  unfolding value_by
  by_false e = rw e

  pub by_true : kind_at T i ≡ 2 → value_by T X i ks ≡ Json.boolean i true
  unfolding value_by
  by_true e = rw e

  pub by_integer : kind_at T i ≡ 3 → value_by T X i ks ≡ Json.integer i (signed64 (payload T i))
  unfolding value_by
  by_integer e = rw e

  pub by_float : kind_at T i ≡ kind_float → value_by T X i ks ≡ Json.float i (of_bits binary64 (payload T i))
  unfolding value_by
  by_float e = rw e

  pub by_text_lem : kind_at T i ≡ kind_text → value_by T X i ks ≡ Json.text i (text_bytes_at T X i)
  unfolding value_by
  by_text_lem e = rw e

  pub by_list : kind_at T i ≡ kind_list → value_by T X i ks ≡ Json.list i ks
  unfolding value_by
  by_list e = rw e

  pub by_map : kind_at T i ≡ kind_map → value_by T X i ks ≡ Json.map i ks
  unfolding value_by
  by_map e = rw e

-- the eight kinds
pub data Kind (T : List ℕ) (i : ℕ) : Type 0 where
  null : kind_at T i ≡ 0 → Kind T i
  no : kind_at T i ≡ 1 → Kind T i
  yes : kind_at T i ≡ 2 → Kind T i
  integer : kind_at T i ≡ 3 → Kind T i
  float : kind_at T i ≡ kind_float → Kind T i
  text : kind_at T i ≡ kind_text → Kind T i
  list : kind_at T i ≡ kind_list → Kind T i
  map : kind_at T i ≡ kind_map → Kind T i

kind_by : (T : List ℕ) (i k : ℕ) → kind_at T i ≡ k → k ≤ kind_map → Kind T i
kind_by T i zero e l = null e
kind_by T i (suc zero) e l = no e
kind_by T i (suc (suc zero)) e l = yes e
kind_by T i (suc (suc (suc zero))) e l = integer e
kind_by T i (suc (suc (suc (suc zero)))) e l = float e
kind_by T i (suc (suc (suc (suc (suc zero))))) e l = text e
kind_by T i (suc (suc (suc (suc (suc (suc zero)))))) e l = list e
kind_by T i (suc (suc (suc (suc (suc (suc (suc zero))))))) e l = map e
kind_by T i (suc (suc (suc (suc (suc (suc (suc (suc k)))))))) e l = absurd (omega arith)

-- a node of another kind than list and map has no children
pub count_scalar : (T : List ℕ) (i : ℕ) → kind_at T i ≤ kind_text → child_count T i ≡ 0
count_scalar T i l = count_other T i (omega arith) (omega arith)

-- ---- lists of nodes

pub to_list_lem : (T X : List ℕ) (j c : ℕ) → to_list (kids T X j c) ≡ nodes T X j c
unfolding to_list kids row nodes
to_list_lem T X j zero = refl
to_list_lem T X j (suc c) =
    let s : suc j ≡ j + 1 = omega arith in
    ap (λ (x : ℕ). node_at T X j ∷ to_list (row (node_at T X) (key_bytes T X) x c)) s ∙ ap (λ (l : List Json). node_at T X j ∷ l) (to_list_lem T X (j + 1) c)

pub many_kids : (T X : List ℕ) (j c : ℕ) → many (kids T X j c) ≡ c
unfolding many kids row
many_kids T X j zero = refl
many_kids T X j (suc c) = ap suc (many_kids T X (suc j) c)

pub length_nodes : (T X : List ℕ) (j c : ℕ) → length (nodes T X j c) ≡ c
unfolding nodes
length_nodes T X j zero = refl
length_nodes T X j (suc c) = ap suc (length_nodes T X (j + 1) c)

-- the first node of a range, and the others
pub nodes_more : (T X : List ℕ) (j c : ℕ) → 0 < c → nodes T X j c ≡ node_at T X j ∷ nodes T X (j + 1) (c - 1)
unfolding nodes
nodes_more T X j zero h = absurd (omega arith)
nodes_more T X j (suc c) h = let e : c ≡ suc c - 1 = omega arith in ap (λ (x : ℕ). node_at T X j ∷ nodes T X (j + 1) x) e

pub nodes_none : (T X : List ℕ) (j c : ℕ) → c ≡ 0 → nodes T X j c ≡ []
unfolding nodes
nodes_none T X j zero h = refl
nodes_none T X j (suc c) h = absurd (omega arith)

-- the node at a place of a range
pub nodes_one : (T X : List ℕ) (j c k : ℕ) → k < c → take 1 (drop k (nodes T X j c)) ≡ node_at T X (j + k) ∷ []
unfolding nodes
nodes_one T X j zero k h = absurd (omega arith)
nodes_one T X j (suc c) zero h = let e : j ≡ j + 0 = omega arith in ap (λ (x : ℕ). node_at T X x ∷ []) e
nodes_one T X j (suc c) (suc k) h = let e : j + 1 + k ≡ j + suc k = omega arith in nodes_one T X (j + 1) c k (omega arith) ∙ ap (λ (x : ℕ). node_at T X x ∷ []) e

-- ---- an accepted table

module _ (T X : List ℕ) (tab : Accepted T X) where
  -- a run of nodes that are all one deeper than d
  same_kids : (d j c : ℕ) → d ≤ max_depth → ((k : ℕ) → k < c → depth_at T (j + k) ≡ d + 1) → row (tree_at (max_depth - d) T X) (key_bytes T X) j c ≡ kids T X j c
  unfolding row kids node_at
  same_kids d j zero l h = refl
  same_kids d j (suc c) l h =
      let j0 : j + 0 ≡ j = omega arith in
      let js : (k : ℕ) → j + suc k ≡ suc j + k = λ k. omega arith in
      let h0 : depth_at T j ≡ d + 1 = subst (λ (x : ℕ). depth_at T x ≡ d + 1) j0 (h 0 (omega arith)) in
      let e : max_depth - d ≡ suc max_depth - depth_at T j = omega arith in
      let ih = same_kids d (suc j) c l (λ k kc. subst (λ (x : ℕ). depth_at T x ≡ d + 1) (js k) (h (suc k) (omega arith))) in
      ap (λ (x : Kids). more (key_bytes T X j) (tree_at (max_depth - d) T X j) x) ih
      ∙ ap (λ (x : ℕ). more (key_bytes T X j) (tree_at x T X j) (kids T X (suc j) c)) e

  open_node : (i : ℕ) → depth_at T i ≤ max_depth → node_at T X i ≡ value_by T X i (row (tree_at (max_depth - depth_at T i) T X) (key_bytes T X) (first_child T i) (child_count T i))
  unfolding node_at tree_at
  open_node i low = let e : suc max_depth - depth_at T i ≡ suc (max_depth - depth_at T i) = omega arith in ap (λ (f : ℕ). tree_at f T X i) e

  -- a node is made from its kind and the nodes of its range
  pub unrolled : (i : ℕ) → i < node_count T → node_at T X i ≡ value_by T X i (kids_at T X i)
  unrolled i h = open_node i (tab.depths i h) ∙ ap (value_by T X i) (same_kids (depth_at T i) (first_child T i) (child_count T i) (tab.depths i h) (tab.deeper i h))

  pub kind_of : (i : ℕ) → i < node_count T → Kind T i
  kind_of i h = kind_by T i (kind_at T i) refl (tab.kinds i h)

  children_by : (i : ℕ) → Kind T i → children (value_by T X i (kids_at T X i)) ≡ nodes T X (first_child T i) (child_count T i)
  unfolding children
  children_by i (null e) = rw (by_null T X i (kids_at T X i) e) (sym (nodes_none T X (first_child T i) (child_count T i) (count_scalar T i (omega arith))))
  children_by i (no e) = rw (by_false T X i (kids_at T X i) e) (sym (nodes_none T X (first_child T i) (child_count T i) (count_scalar T i (omega arith))))
  children_by i (yes e) = rw (by_true T X i (kids_at T X i) e) (sym (nodes_none T X (first_child T i) (child_count T i) (count_scalar T i (omega arith))))
  children_by i (integer e) = rw (by_integer T X i (kids_at T X i) e) (sym (nodes_none T X (first_child T i) (child_count T i) (count_scalar T i (omega arith))))
  children_by i (float e) = rw (by_float T X i (kids_at T X i) e) (sym (nodes_none T X (first_child T i) (child_count T i) (count_scalar T i (omega arith))))
  children_by i (text e) = rw (by_text_lem T X i (kids_at T X i) e) (sym (nodes_none T X (first_child T i) (child_count T i) (count_scalar T i (omega arith))))
  children_by i (list e) = rw (by_list T X i (kids_at T X i) e) (to_list_lem T X (first_child T i) (child_count T i))
  children_by i (map e) = rw (by_map T X i (kids_at T X i) e) (to_list_lem T X (first_child T i) (child_count T i))

  -- the children of a node are the nodes of its range
  pub children_nodes : (i : ℕ) → i < node_count T → children (node_at T X i) ≡ nodes T X (first_child T i) (child_count T i)
  children_nodes i h = ap children (unrolled i h) ∙ children_by i (kind_of i h)

  -- every child of a node is a node, one deeper
  pub child_in : (i : ℕ) → i < node_count T → (k : ℕ) → k < child_count T i → (first_child T i + k < node_count T) × (depth_at T (first_child T i + k) ≡ depth_at T i + 1)
  child_in i h k l = let w = tab.inside i h in (omega arith, tab.deeper i h k l)

  -- the elements of a list are those nodes; of another node there are none
  pub elements_list : (i : ℕ) → i < node_count T → kind_at T i ≡ kind_list → elements (node_at T X i) ≡ nodes T X (first_child T i) (child_count T i)
  unfolding elements
  elements_list i h e = ap elements (unrolled i h ∙ by_list T X i (kids_at T X i) e) ∙ to_list_lem T X (first_child T i) (child_count T i)

  elements_by : (i : ℕ) → Kind T i → (kind_at T i ≡ kind_list → ⊥) → elements (value_by T X i (kids_at T X i)) ≡ []
  unfolding elements
  elements_by i (null e) n = rw (by_null T X i (kids_at T X i) e)
  elements_by i (no e) n = rw (by_false T X i (kids_at T X i) e)
  elements_by i (yes e) n = rw (by_true T X i (kids_at T X i) e)
  elements_by i (integer e) n = rw (by_integer T X i (kids_at T X i) e)
  elements_by i (float e) n = rw (by_float T X i (kids_at T X i) e)
  elements_by i (text e) n = rw (by_text_lem T X i (kids_at T X i) e)
  elements_by i (list e) n = absurd (n e)
  elements_by i (map e) n = rw (by_map T X i (kids_at T X i) e)

  pub elements_none : (i : ℕ) → i < node_count T → (kind_at T i ≡ kind_list → ⊥) → elements (node_at T X i) ≡ []
  elements_none i h n = ap elements (unrolled i h) ∙ elements_by i (kind_of i h) n

  -- the members of a map are those nodes with their keys; of another node there are none
  pub members_map : (i : ℕ) → i < node_count T → kind_at T i ≡ kind_map → members (node_at T X i) ≡ kids_at T X i
  unfolding members
  members_map i h e = ap members (unrolled i h ∙ by_map T X i (kids_at T X i) e)

  members_by : (i : ℕ) → Kind T i → (kind_at T i ≡ kind_map → ⊥) → members (value_by T X i (kids_at T X i)) ≡ nil
  unfolding members
  members_by i (null e) n = rw (by_null T X i (kids_at T X i) e)
  members_by i (no e) n = rw (by_false T X i (kids_at T X i) e)
  members_by i (yes e) n = rw (by_true T X i (kids_at T X i) e)
  members_by i (integer e) n = rw (by_integer T X i (kids_at T X i) e)
  members_by i (float e) n = rw (by_float T X i (kids_at T X i) e)
  members_by i (text e) n = rw (by_text_lem T X i (kids_at T X i) e)
  members_by i (list e) n = rw (by_list T X i (kids_at T X i) e)
  members_by i (map e) n = absurd (n e)

  pub members_none : (i : ℕ) → i < node_count T → (kind_at T i ≡ kind_map → ⊥) → members (node_at T X i) ≡ nil
  members_none i h n = ap members (unrolled i h) ∙ members_by i (kind_of i h) n

  id_by : (i : ℕ) → Kind T i → id_of (value_by T X i (kids_at T X i)) ≡ i
  unfolding id_of
  id_by i (null e) = rw (by_null T X i (kids_at T X i) e)
  id_by i (no e) = rw (by_false T X i (kids_at T X i) e)
  id_by i (yes e) = rw (by_true T X i (kids_at T X i) e)
  id_by i (integer e) = rw (by_integer T X i (kids_at T X i) e)
  id_by i (float e) = rw (by_float T X i (kids_at T X i) e)
  id_by i (text e) = rw (by_text_lem T X i (kids_at T X i) e)
  id_by i (list e) = rw (by_list T X i (kids_at T X i) e)
  id_by i (map e) = rw (by_map T X i (kids_at T X i) e)

  -- a node carries its number
  pub id_node : (i : ℕ) → i < node_count T → id_of (node_at T X i) ≡ i
  id_node i h = ap id_of (unrolled i h) ∙ id_by i (kind_of i h)

-- ---- the member of a name

-- whether the first of a range of members has the name k, and where not, the others
pub lookup_first : (T X k : List ℕ) (j c : ℕ) → 0 < c → same_bytes (key_bytes T X j) k ≡ true → lookup k (kids T X j c) ≡ some (node_at T X j)
unfolding lookup kids row
lookup_first T X k j zero h e = absurd (omega arith)
lookup_first T X k j (suc c) h e = rw e

pub lookup_next : (T X k : List ℕ) (j c : ℕ) → 0 < c → same_bytes (key_bytes T X j) k ≡ false → lookup k (kids T X (j + 1) (c - 1)) ≡ lookup k (kids T X j c)
unfolding lookup kids row
lookup_next T X k j zero h e = absurd (omega arith)
lookup_next T X k j (suc c) h e =
    let a : j + 1 ≡ suc j = omega arith in
    let b : suc c - 1 ≡ c = omega arith in
    rw (a, b, e)

pub lookup_none : (T X k : List ℕ) (j c : ℕ) → c ≡ 0 → lookup k (kids T X j c) ≡ none
unfolding lookup kids row
lookup_none T X k j zero h = refl
lookup_none T X k j (suc c) h = absurd (omega arith)
