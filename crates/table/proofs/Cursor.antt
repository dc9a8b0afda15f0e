-- The cursor of the pass moves forward to the parent of a node, and on to the next node. Assumes nothing.
use Prim.Native.Nat.{ℕ, suc, ◌+◌, ◌≤◌, ◌<◌}
use mathlib.Core.Path.{◌≡◌, refl, sym, ap, ◌∙◌}
use mathlib.Core.List.{List}
use mathlib.Core.Bool.{Bool, true, false}
use lib.Dec.{ltb}
use native.Mathlib.Omega.{arith}
use native.Mathlib.Numerals.{add-one}
use borrow.Author.Tests.{ltb-true, ltb-false}
use Rattle.definition.specs.Tables.{node_count, kind_at, depth_at, high_word, kind_map, child_count, counts_before, first_child}
use Rattle.table_laws.specs.Joined.{node_right}
use Rattle.table_laws.specs.Counts.{counts_root, counts_next, counts_monotone}
use Rattle.table_laws.specs.Parents.{InRange}
use Rattle.table_laws.specs.Least.{RightBelow, right_more}
use Rattle.table_laws.specs.Rights.{member_inside, map_members, count_map, right_payload}
use Rattle.definition.specs.Limits.{max_nodes, max_members}
use Rattle.table.specs.declared.scan.Cursor.{Cursor}
use Rattle.table.specs.Words.{Child, KeysInside, MembersBefore, HasParent, CursorAt, ParentAt, Moved}

-- the counts before a node and the node behind it, as the code adds them
step_counts : (T : List ℕ) (p : ℕ) → counts_before T (suc (p + 1)) ≡ counts_before T (suc p) + child_count T (p + 1)
step_counts T p = counts_next T (p + 1) ∙ rw add-one

-- the cursor at a node with a range
abbrev pub ranged : List ℕ → ℕ → ℕ → ℕ → Cursor
ranged T p f e = record { parent = p; from = f; end = e; kind = kind_at T p; depth = depth_at T p; sure = false }

-- a cursor's range with the kind and the depth of its node
pub cursor_ranged : {T : List ℕ} {i : ℕ} {q : Cursor} → CursorAt T i q → CursorAt T i (ranged T q.parent q.from q.end)
cursor_ranged h = record { earlier = h.earlier; from_is = h.from_is; from_le = h.from_le; end_is = h.end_is; kind_is = refl; depth_is = refl }

-- the cursor with the kind and the depth that were read
ranged_read : (T : List ℕ) (i : ℕ) (q : Cursor) → q.kind ≡ kind_at T q.parent → q.depth ≡ depth_at T q.parent → CursorAt T i (ranged T q.parent q.from q.end) → CursorAt T i q
ranged_read T i q k d h = record { earlier = h.earlier; from_is = h.from_is; from_le = h.from_le; end_is = h.end_is; kind_is = k; depth_is = d }

-- a cursor whose range has the node stays
pub parent_stays : {T : List ℕ} {i : ℕ} {q : Cursor} → CursorAt T i q → i < q.end → ParentAt T i q × Moved i q q
parent_stays h e = (record { place = h; end_past = e }, record { stays = λ _. refl; anew = λ l. absurd (omega arith) })

-- another one is found anew: its range has the node, and its kind and depth were read
pub parent_found : {T : List ℕ} {i : ℕ} {q r : Cursor} → r.kind ≡ kind_at T r.parent → r.depth ≡ depth_at T r.parent → r.sure ≡ false
    → CursorAt T i (ranged T r.parent r.from r.end) → i < r.end → q.end ≤ i → ParentAt T i r × Moved i q r
parent_found {T} {i} {r = r} k d z h e l = (record { place = ranged_read T i r k d h; end_past = e }, record { stays = λ m. absurd (omega arith); anew = λ _. z })

-- the cursor's node is a node of the table
pub cursor_inside : {T : List ℕ} {i : ℕ} {q : Cursor} → HasParent T i → CursorAt T i q → q.parent < node_count T
cursor_inside n h = let a = n.node_in in let b = h.earlier in omega arith

module _ {T : List ℕ} {i : ℕ} {q : Cursor} (n : HasParent T i) (h : CursorAt T i q) (e : q.end ≤ i) where
  -- a node whose range ends at or before i is not the last before i, if i has a parent
  pub next_earlier : q.parent + 1 < i
  next_earlier = go (ltb (q.parent + 1) i) refl
    where
      go : (b : Bool) → ltb (q.parent + 1) i ≡ b → q.parent + 1 < i
      go true t = ltb-true (q.parent + 1) i t
      go false t =
          let m = ltb-false (q.parent + 1) i t in
          let a = h.earlier in
          let s : suc q.parent ≡ i = omega arith in
          let z = ap (first_child T) s in
          let g = n.reached in
          let k = h.end_is in
          absurd (omega arith)

  pub next_node : q.parent + 1 < node_count T
  next_node = let a = next_earlier in let b = n.node_in in omega arith

  -- the next range ends where the children of i must begin, or before
  pub next_inside : q.end + child_count T (q.parent + 1) ≤ first_child T i
  next_inside =
      let a = next_earlier in
      let m = counts_monotone T (suc (q.parent + 1)) i (omega arith) in
      let s = step_counts T q.parent in
      let k = h.end_is in
      omega arith

  -- the cursor at the next node
  pub next_cursor : {c : ℕ} → c ≡ child_count T (q.parent + 1) → CursorAt T i (ranged T (q.parent + 1) q.end (q.end + c))
  next_cursor z =
      let s = step_counts T q.parent in
      let k = h.end_is in
      let g : first_child T (suc q.parent) ≡ first_child T (q.parent + 1) = ap (first_child T) (sym (add-one q.parent)) in
      record { earlier = next_earlier; from_is = k ∙ g; from_le = e; end_is = omega arith; kind_is = refl; depth_is = refl }

module _ (T : List ℕ) (i : ℕ) (q : Cursor) (h : ParentAt T i q) where
  -- the parent's range has the node
  pub found_range : InRange T q.parent i
  found_range =
      let a = h.place.from_is in
      let b = h.place.from_le in
      let d = h.place.end_is in
      let e = h.end_past in
      record { above = omega arith; within = omega arith }

  -- the node is asked about as a child of that parent
  pub found_child : i < node_count T → node_count T ≤ max_nodes → Child T i q
  found_child n s = record { node_in = n; under = h; small = s }

  -- the range of a map has as many nodes as the map's record says
  pub found_count : kind_at T q.parent ≡ kind_map → q.from + high_word T q.parent ≡ q.end
  found_count k =
      let a = h.place.from_is in
      let b = h.place.end_is in
      let d = counts_next T q.parent in
      let e = count_map T q.parent k in
      omega arith

  -- the keys of the members of the same map before the node lie inside the text
  pub found_keys : (X : List ℕ) → i < node_count T → RightBelow T X i → kind_at T q.parent ≡ kind_map → KeysInside T X q.from i
  found_keys X n r k = record { nodes = omega arith; keys = λ j a b. member_inside T X q.parent j (r q.parent h.place.earlier) (r j b) (range j a b) k }
    where
      range : (j : ℕ) → q.from ≤ j → j < i → InRange T q.parent j
      range j a b =
          let u = h.place.from_is in
          let v = h.place.end_is in
          let w = h.end_past in
          record { above = omega arith; within = omega arith }

  -- a map has few enough members
  pub found_few : (X : List ℕ) → RightBelow T X i → kind_at T q.parent ≡ kind_map → i < q.from + max_members
  found_few X r k =
      let m = map_members T X q.parent k (right_payload T X q.parent (r q.parent h.place.earlier)) in
      let c = count_map T q.parent k in
      let s = counts_next T q.parent in
      let u = h.place.from_is in
      let v = h.place.end_is in
      let w = h.end_past in
      omega arith

  -- the members of the same map before the node
  pub found_members : (X : List ℕ) → i < node_count T → RightBelow T X i → kind_at T q.parent ≡ kind_map → MembersBefore T X q.from i
  found_members X n r k = record { inside = found_keys X n r k; few = found_few X r k }

  -- the cursor is at or before the parent of the next node
  pub after_node : CursorAt T (i + 1) q
  after_node =
      let u = h.place.earlier in
      let v = h.place.from_le in
      record { earlier = omega arith; from_is = h.place.from_is; from_le = omega arith; end_is = h.place.end_is; kind_is = h.place.kind_is; depth_is = h.place.depth_is }

module _ (T X : List ℕ) where
  -- where the children of the next node must begin
  pub next_first : (i f c : ℕ) → f ≡ first_child T i → c ≡ child_count T i → f + c ≡ first_child T (i + 1)
  next_first i f c a b =
      let s = counts_next T i in
      let g : first_child T (suc i) ≡ first_child T (i + 1) = ap (first_child T) (sym (add-one i)) in
      omega arith

  -- one node more is right, as the code counts
  pub right_next : (i : ℕ) → RightBelow T X i → node_right T X i ≡ true → RightBelow T X (i + 1)
  right_next i r h k l = right_more T X i r h k (omega arith)

-- the cursor at the root, before node 1
pub root_cursor : (T : List ℕ) (c k d : ℕ) → c ≡ child_count T 0 → k ≡ kind_at T 0 → d ≡ depth_at T 0 → CursorAt T 1 (record { parent = 0; from = 1; end = 1 + c; kind = k; depth = d; sure = false })
root_cursor T c k d z u v =
    let a = counts_root T in
    let b = counts_next T 0 in
    record { earlier = omega arith; from_is = omega arith; from_le = omega arith; end_is = omega arith; kind_is = u; depth_is = v }

pub root_first : (T : List ℕ) (c : ℕ) → c ≡ child_count T 0 → 1 + c ≡ first_child T 1
root_first T c z = let a = counts_root T in let b = counts_next T 0 in omega arith

-- the root is the one node below 1
pub root_below : (T X : List ℕ) → node_right T X 0 ≡ true → RightBelow T X 1
root_below T X h = right_more T X 0 (λ k l. absurd (omega arith)) h
