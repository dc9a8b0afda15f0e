-- What every child of a node has, and what it tells of the joined rule. Assumes nothing.
use Prim.Native.Nat.{ℕ, ◌+◌, ◌*◌, ◌/◌, ◌≤◌, ◌<◌}
use mathlib.Core.Path.{◌≡◌, refl, sym, ap, ◌∙◌}
use mathlib.Core.List.{List}
use mathlib.Core.Bool.{Bool, true, false, ◌&&◌}
use mathlib.Core.Option.{some}
use lib.Dec.{eqb, leb}
use native.Mathlib.Omega.{arith}
use borrow.Author.Tests.{eqb-true, eqb-false, ne_eqb}
use Rattle.basics.specs.Bools.{and_right}
use Rattle.definition.specs.Limits.{max_depth}
use Rattle.definition.specs.Tables.{field, kind_at, depth_at, key_start, key_length, kind_map, head_right, no_key}
use Rattle.table_laws.specs.Bools.{and_true}
use Rattle.table_laws.specs.Joined.{member_right, payload_right, place_right, stands_right, node_right}
use Rattle.table_laws.specs.Parents.{InRange}
use Rattle.table_laws.specs.Rights.{head_all, kind_small, depth_small, key_start_lem, key_length_lem, right_head, right_place, stands_under, place_number, place_deeper, place_member, place_plain}
use Rattle.table.specs.Words.{Head, Under}

module _ (T : List ℕ) (i : ℕ) where
  -- bytes 2-3 of a right head are zero
  head_zeros : head_right T i ≡ true → field T i 2 2 ≡ 0
  unfolding head_right
  head_zeros h = eqb-true (field T i 2 2) 0 (and_right (leb (depth_at T i) max_depth) (eqb (field T i 2 2) 0) (and_right (leb (kind_at T i) kind_map) (leb (depth_at T i) max_depth && eqb (field T i 2 2) 0) h))

  -- there is no key exactly if start and length come to 0
  pub no_key_sum : (a b : ℕ) → a ≡ key_start T i → b ≡ key_length T i → eqb (a + b) 0 ≡ no_key T i
  no_key_sum a b e f = go (eqb (key_start T i) 0) refl
    where
      go : (x : Bool) → eqb (key_start T i) 0 ≡ x → eqb (a + b) 0 ≡ no_key T i
      go true t =
          let z = eqb-true (key_start T i) 0 t in
          let g : a + b ≡ key_length T i = omega arith in
          ap (λ (y : ℕ). eqb y 0) g ∙ sym (key_length_lem T i z)
      go false t =
          let n = eqb-false (key_start T i) 0 t in
          ne_eqb (a + b) 0 (omega arith) ∙ sym (key_start_lem T i n)

  module _ (h d : ℕ) (w : Head T i h) where
    -- bytes 0-3 without the kind are those of a depth alone: the head is right, and has that depth
    pub head_of : d ≤ max_depth → h / 8 ≡ d * 256 / 8 → head_right T i ≡ true
    head_of l e =
        let s = w.is in
        let k = w.kind in
        let m = w.depth in
        head_all T i (omega arith) (omega arith) (omega arith)

    pub depth_of : d ≤ max_depth → h / 8 ≡ d * 256 / 8 → depth_at T i ≡ d
    depth_of l e =
        let s = w.is in
        let k = w.kind in
        let m = w.depth in
        omega arith

    -- a right head of that depth has no other bytes
    pub head_is : head_right T i ≡ true → depth_at T i ≡ d → h / 8 ≡ d * 256 / 8
    head_is r e =
        let s = w.is in
        let k = kind_small T i r in
        let m = depth_small T i r in
        let z = head_zeros r in
        omega arith

module _ (T X : List ℕ) (p i : ℕ) (l : p < i) (r : InRange T p i) where
  -- a right child has what every child has
  pub right_under : node_right T X i ≡ true → Under T p i
  right_under h =
      let s = sym (stands_under T X i p l r) ∙ right_place T X i h in
      record { head = right_head T X i h; number = place_number T X i p s; deeper = place_deeper T X i p s }

  -- a child without it is wrong
  pub wrong_under : (Under T p i → ⊥) → node_right T X i ≡ false
  wrong_under n = go (node_right T X i) refl
    where
      go : (b : Bool) → node_right T X i ≡ b → node_right T X i ≡ false
      go true e = absurd (n (right_under e))
      go false e = e

  -- one with it stands right by its key
  pub under_list : Under T p i → (kind_at T p ≡ kind_map → ⊥) → stands_right T X i ≡ no_key T i
  under_list u k = stands_under T X i p l r ∙ place_plain T X i p u.number u.deeper k

  pub under_map : Under T p i → kind_at T p ≡ kind_map → stands_right T X i ≡ member_right T X p i
  under_map u k = stands_under T X i p l r ∙ place_member T X i p u.number u.deeper k

-- a node whose head and place are right is right by its bytes 16-23
pub right_by_payload : (T X : List ℕ) (i : ℕ) → head_right T i ≡ true → stands_right T X i ≡ true → node_right T X i ≡ payload_right T X i
unfolding node_right
right_by_payload T X i a b = rw (a, b) (and_true (payload_right T X i))
