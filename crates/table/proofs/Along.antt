-- The children of one node, one after the other, and what is known behind some of them. Assumes nothing.
use Prim.Native.Nat.{ℕ, suc, ◌+◌, ◌≤◌, ◌<◌}
use mathlib.Core.Path.{◌≡◌, sym, ap, ◌∙◌, subst}
use mathlib.Core.List.{List}
use mathlib.Core.Bool.{true}
use native.Mathlib.Omega.{arith}
use Rattle.definition.specs.Limits.{max_nodes}
use Rattle.definition.specs.Tables.{node_count, kind_at, kind_map, child_count, first_child}
use Rattle.table_laws.specs.Counts.{counts_monotone}
use Rattle.table_laws.specs.Joined.{node_right}
use Rattle.table_laws.specs.Least.{RightBelow}
use Rattle.table_laws.specs.Rights.{first_inside}
use Rattle.table.specs.declared.scan.Cursor.{Cursor}
use Rattle.table.specs.declared.scan.Passed.{Passed}
use Rattle.std.specs.Prelude.{Result, Ok, Err, IfOk}
use Rattle.table.specs.Words.{ParentAt, Child, Kept, Before, Begun, Along, PassedBy}
use Rattle.table.proofs.Cursor.{found_child, next_first, right_next}

module _ (T X : List ℕ) (i f : ℕ) (q : Cursor) (b : Begun T X i f q) where
  -- the table has every node of the range
  end_inside : q.end ≤ node_count T
  end_inside =
      let p = b.child.under.place in
      let e = p.end_is in
      let n = b.child.node_in in
      let m = counts_monotone T (suc q.parent) i p.earlier in
      let z = first_inside T X i b.right (omega arith) in
      omega arith

  -- a later node of the range is a child as well
  pub child_along : (j : ℕ) → i ≤ j → j < q.end → Child T j q
  child_along j l e =
      let p = b.child.under.place in
      let u = p.earlier in
      let v = p.from_le in
      let w = end_inside in
      record {
        node_in = omega arith;
        under = record { place = record { earlier = omega arith; from_is = p.from_is; from_le = omega arith; end_is = p.end_is; kind_is = p.kind_is; depth_is = p.depth_is }; end_past = e };
        small = b.child.small;
      }

  -- a cursor whose range reaches a later node stands before that node
  pub before_along : (n g : ℕ) (H L : List ℕ) → Along T X i q n g → Kept T X n q H L → Before T X n q H L
  before_along n g H L a k =
      let p = b.child.under.place in
      let u = p.earlier in
      let v = p.from_le in
      let l = a.later in
      record { cursor = record { earlier = omega arith; from_is = p.from_is; from_le = omega arith; end_is = p.end_is; kind_is = p.kind_is; depth_is = p.depth_is }; reach = a.reach; kept = k }

-- behind the last child
pub ends_along : {T X : List ℕ} {i f n g : ℕ} {q : Cursor} → Begun T X i f q → n ≡ q.end → RightBelow T X n → g ≡ first_child T n → Along T X i q q.end g
ends_along {T} {X} {i} {f} {n} {g} {q} b e r h =
    let p = b.child.under.end_past in
    record { later = omega arith; reach = omega arith; right = subst (λ (m : ℕ). RightBelow T X m) e r; first_is = h ∙ ap (first_child T) e }

-- the check of a node's children begins at the node whose parent was found
pub begun_at : (T X : List ℕ) (i f : ℕ) (q : Cursor) → ParentAt T i q → i < node_count T → node_count T ≤ max_nodes → f ≡ first_child T i → RightBelow T X i → Begun T X i f q
begun_at T X i f q p n s e r = record { child = found_child T i q p n s; first_is = e; right = r }

-- behind children of a list no more is kept than before them
kept_along : (T X : List ℕ) (i n : ℕ) (q : Cursor) (H L : List ℕ) → (kind_at T q.parent ≡ kind_map → ⊥) → i < n → Kept T X i q H L → Kept T X n q H L
kept_along T X i n q H L m l k = record { heads = record { some = k.heads.some; below = λ b e. let s = k.heads.below b e in omega arith }; room = k.room; chained = λ z _. absurd (m z.is_map); surely = k.surely }

-- the kind that the cursor has is that of the node above
module _ {T X : List ℕ} {i f : ℕ} {q : Cursor} (b : Begun T X i f q) where
  pub above_map : q.kind ≡ kind_map → kind_at T q.parent ≡ kind_map
  above_map e = sym b.child.under.place.kind_is ∙ e

  -- the children of a list were passed, and what is kept stays
  pub list_passed : {H L : List ℕ} (r : Result Passed ℕ) → (q.kind ≡ kind_map → ⊥) → PassedBy T X i q r → Kept T X i q H L → IfOk r (λ p. Kept T X p.node q H L)
  list_passed {H} {L} (Ok p) m a k = kept_along T X i p.node q H L (λ e. m (b.child.under.place.kind_is ∙ e)) a.later k
  list_passed {H} {L} (Err n) m a k = tt

-- the place where the children of the next node must begin lies inside the table
pub next_inside : (T X : List ℕ) (j g c : ℕ) → j < node_count T → g ≡ first_child T j → RightBelow T X j → node_right T X j ≡ true → c ≡ child_count T j → g + c ≤ node_count T
next_inside T X j g c n f r h e =
    let s = next_first T X j g c f e in
    let z = first_inside T X (j + 1) (right_next T X j r h) (omega arith) in
    omega arith
