-- The rules on records: one law for each way in which the pass over records finds them kept or broken. Assumes nothing.
use Prim.Native.Nat.{ℕ, zero, suc, ◌+◌, ◌≤◌, ◌<◌}
use Rattle.std.specs.Prelude.{◌≡◌, Bool, cond, ◌&&◌, eqb, leb}
use Rattle.std.proofs.Math.Path.{refl, sym}
use Rattle.std.proofs.Common.{ap, ◌∙◌, subst, arith}
use mathlib.Core.List.{List, []}
use Rattle.std.proofs.Math.Bool.{true, false}
use Rattle.std.proofs.Math.Option.{Option, none, some}
use borrow.Author.Tests.{eqb-true, eqb-false, eq-eqb, ne_eqb}
use Rattle.definition.specs.Limits.{max_members}
use Rattle.definition.specs.Tables.{node_count, kind_at, depth_at, parent_at, payload, low_word, high_word, kind_float, kind_text, kind_list, kind_map, child_count, first_child, parent_of, head_right, is_finite, range_right, no_key, payload_record, place_record, stands_record, record_right, text_inside}
use Rattle.basics.specs.Bools.{and_left, and_not_left, and_not_right, and_right}
use Rattle.utf8_laws.specs.Bytes.{by_test}
use Rattle.table_laws.specs.Bools.{and_true}
use Rattle.table_laws.specs.Counts.{counts_next}
use Rattle.table_laws.specs.Parents.{InRange, parent_is, parent_found}
use Rattle.table_laws.specs.Joined.{payload_right, stands_right}
use Rattle.table_laws.specs.Rights.{range_first, range_inside, count_list, count_map, count_other, payload_plain, payload_integer, payload_float, payload_list, payload_map, payload_many, payload_few, root_number, root_depth, root_key}
use Rattle.table_laws.specs.Splits.{payload_split}

-- no rule on records fails at any node below n
abbrev pub RecordsBelow : List ℕ → ℕ → Type 0
RecordsBelow T n = (k : ℕ) → k < n → record_right T k ≡ true

module _ (T : List ℕ) (i : ℕ) where
  -- ---- bytes 16-23

  -- where the node is no text, they are right as they are with any text
  no_text : (kind_at T i ≡ kind_text → ⊥) → payload_record T i ≡ payload_right T [] i
  unfolding text_inside
  no_text n =
      let t : text_inside T [] i ≡ true = rw (ne_eqb (kind_at T i) kind_text n) in
      sym (payload_split T [] i ∙ rw t (and_true (payload_record T i)))

  pub record_plain : kind_at T i < 3 → payload_record T i ≡ eqb (payload T i) 0
  record_plain h = no_text (λ e. omega arith) ∙ payload_plain T [] i h

  pub record_float : kind_at T i ≡ kind_float → payload_record T i ≡ is_finite (payload T i)
  record_float h = no_text (λ e. omega arith) ∙ payload_float T [] i h

  pub record_text : kind_at T i ≡ kind_text → payload_record T i ≡ true
  unfolding payload_record
  record_text h = rw h

  -- of an integer and of a text nothing is asked
  pub record_free : 3 ≤ kind_at T i → (kind_at T i ≡ kind_float → ⊥) → kind_at T i < kind_list → payload_record T i ≡ true
  record_free a b d =
      by_test (eqb (kind_at T i) kind_text)
      (λ y. record_text (eqb-true (kind_at T i) kind_text y))
      (λ n. let k = eqb-false (kind_at T i) kind_text n in no_text k ∙ payload_integer T [] i (omega arith))

  pub record_list : kind_at T i ≡ kind_list → payload_record T i ≡ range_right T i
  record_list h = no_text (λ e. omega arith) ∙ payload_list T [] i h

  pub record_many : kind_map ≤ kind_at T i → max_members < high_word T i → payload_record T i ≡ false
  record_many h l = no_text (λ e. omega arith) ∙ payload_many T [] i h l

  pub record_few : kind_map ≤ kind_at T i → high_word T i ≤ max_members → payload_record T i ≡ range_right T i
  record_few h l = no_text (λ e. omega arith) ∙ payload_few T [] i h l

  record_map : kind_at T i ≡ kind_map → payload_record T i ≡ (range_right T i && leb (high_word T i) max_members)
  record_map h = no_text (λ e. omega arith) ∙ payload_map T [] i (omega arith)

  -- ---- ranges

  -- the range of a right map is right
  pub map_range : kind_at T i ≡ kind_map → payload_record T i ≡ true → range_right T i ≡ true
  map_range k h = and_left (range_right T i) (leb (high_word T i) max_members) (sym (record_map k) ∙ h)

  -- a right node that has children is a container whose range is right
  counted : payload_record T i ≡ true → 0 < child_count T i → (range_right T i ≡ true) × (child_count T i ≡ high_word T i)
  counted h c =
      by_test (eqb (kind_at T i) kind_list)
      (λ y. let k = eqb-true (kind_at T i) kind_list y in (sym (record_list k) ∙ h, count_list T i k))
      (λ n. by_test (eqb (kind_at T i) kind_map)
      (λ y. let k = eqb-true (kind_at T i) kind_map y in (map_range k h, count_map T i k))
      (λ m. let z = count_other T i (eqb-false (kind_at T i) kind_list n) (eqb-false (kind_at T i) kind_map m) in absurd (omega arith)))

  -- its children begin where its record says, and the table reaches their end
  pub counted_first : payload_record T i ≡ true → 0 < child_count T i → (low_word T i ≡ first_child T i) × (first_child T i + child_count T i ≤ node_count T)
  counted_first h c =
      let w = counted h c in
      let e = w.1 in
      let z : high_word T i ≡ 0 → ⊥ = λ x. omega arith in
      let f = range_first T i w.0 z in
      let g = range_inside T i w.0 z in
      (f, omega arith)

  -- after a right node the counts still lead to nodes of the table
  pub counts_reach : payload_record T i ≡ true → first_child T i ≤ node_count T → first_child T (suc i) ≤ node_count T
  counts_reach h l =
      by_test (eqb (child_count T i) 0)
      (λ y. omega (arith, counts_next T i, eqb-true (child_count T i) 0 y))
      (λ n. let d = eqb-false (child_count T i) 0 n in let w = counted_first h (omega arith) in omega (arith, counts_next T i, w.1))

  -- ---- the parts of a record

  pub wrong_head : head_right T i ≡ false → record_right T i ≡ false
  unfolding record_right
  wrong_head h = and_not_left (head_right T i) (payload_record T i && stands_record T i) h

  pub wrong_payload : payload_record T i ≡ false → record_right T i ≡ false
  unfolding record_right
  wrong_payload h = and_not_right (head_right T i) (payload_record T i && stands_record T i) (and_not_left (payload_record T i) (stands_record T i) h)

  pub record_by_place : head_right T i ≡ true → payload_record T i ≡ true → record_right T i ≡ stands_record T i
  unfolding record_right
  record_by_place a b = rw (a, b)

  pub record_payload : record_right T i ≡ true → payload_record T i ≡ true
  unfolding record_right
  record_payload h = and_left (payload_record T i) (stands_record T i) (and_right (head_right T i) (payload_record T i && stands_record T i) h)

  pub record_stands : record_right T i ≡ true → stands_record T i ≡ true
  unfolding record_right
  record_stands h = and_right (payload_record T i) (stands_record T i) (and_right (head_right T i) (payload_record T i && stands_record T i) h)

-- ---- the place

module _ (T : List ℕ) (i : ℕ) where
  module _ (p : ℕ) where
    under_depth : Bool
    under_depth = eqb (depth_at T i) (depth_at T p + 1) && cond (eqb (kind_at T p) kind_map) true (no_key T i)

    -- under a parent: its number, the depth, and no key where the parent is no map
    pub placed_parent : (parent_at T i ≡ p → ⊥) → place_record T i (some p) ≡ false
    unfolding place_record
    placed_parent h = rw (ne_eqb (parent_at T i) p h)

    pub placed_depth : (depth_at T i ≡ depth_at T p + 1 → ⊥) → place_record T i (some p) ≡ false
    unfolding place_record under_depth
    placed_depth h = and_not_right (eqb (parent_at T i) p) under_depth (rw (ne_eqb (depth_at T i) (depth_at T p + 1) h))

    pub placed_member : parent_at T i ≡ p → depth_at T i ≡ depth_at T p + 1 → kind_at T p ≡ kind_map → place_record T i (some p) ≡ true
    unfolding place_record
    placed_member n h k = rw (eq-eqb (parent_at T i) p n, eq-eqb (depth_at T i) (depth_at T p + 1) h, eq-eqb (kind_at T p) kind_map k)

    pub placed_plain : parent_at T i ≡ p → depth_at T i ≡ depth_at T p + 1 → (kind_at T p ≡ kind_map → ⊥) → place_record T i (some p) ≡ no_key T i
    unfolding place_record
    placed_plain n h k = rw (eq-eqb (parent_at T i) p n, eq-eqb (depth_at T i) (depth_at T p + 1) h, ne_eqb (kind_at T p) kind_map k)

  -- a node behind the root stands right by its parent
  stands_by : (j : ℕ) → 0 < j → stands_record T j ≡ place_record T j (parent_of T j)
  unfolding stands_record
  stands_by zero l = absurd (omega arith)
  stands_by (suc j) l = refl

  pub stands_under : (p : ℕ) → p < i → InRange T p i → stands_record T i ≡ place_record T i (some p)
  stands_under p l r = stands_by i (omega arith) ∙ ap (place_record T i) (parent_is T p i l r)

  -- a node that is no child of the node that its record names is wrong
  pub stands_unlike : 0 < i → (parent_at T i < i → InRange T (parent_at T i) i → ⊥) → stands_record T i ≡ false
  unfolding place_record
  stands_unlike l n = stands_by i l ∙ by (parent_of T i) refl
    where
      by : (o : Option ℕ) → parent_of T i ≡ o → place_record T i o ≡ false
      by none e = refl
      by (some p) e =
          let w = parent_found T p i e in
          placed_parent p (λ z. n (subst (λ (x : ℕ). x < i) (sym z) w.0) (subst (λ (x : ℕ). InRange T x i) (sym z) w.1))

  -- the children of a right node are those of the range that its record writes
  pub written_range : (p : ℕ) → record_right T p ≡ true → low_word T p ≤ i → i < low_word T p + child_count T p → InRange T p i
  written_range p r a b =
      let w = counted_first T p (record_payload T p r) (omega arith) in
      let f = w.0 in
      let s = counts_next T p in
      record { above = omega arith; within = omega arith }

  pub range_written : (p : ℕ) → record_right T p ≡ true → InRange T p i → (low_word T p ≤ i) × (i < low_word T p + child_count T p)
  range_written p r g =
      let u = g.above in
      let v = g.within in
      let s = counts_next T p in
      let w = counted_first T p (record_payload T p r) (omega arith) in
      let f = w.0 in
      (omega arith, omega arith)

-- ---- the root, of whose key and text only the record is asked

module _ (T : List ℕ) where
  root_as : stands_record T 0 ≡ stands_right T [] 0
  unfolding stands_record stands_right
  root_as = refl

  pub stands_number : (parent_at T 0 ≡ 0 → ⊥) → stands_record T 0 ≡ false
  stands_number h = root_as ∙ root_number T [] h

  pub stands_depth : (depth_at T 0 ≡ 0 → ⊥) → stands_record T 0 ≡ false
  stands_depth h = root_as ∙ root_depth T [] h

  pub stands_key : parent_at T 0 ≡ 0 → depth_at T 0 ≡ 0 → stands_record T 0 ≡ no_key T 0
  stands_key n h = root_as ∙ root_key T [] n h
