-- What an accepted table gives its readers, stated once. Assumes nothing.
use Prim.Native.Nat.{ℕ, zero, suc, ◌+◌, ◌-◌, ◌≤◌, ◌<◌}
use Rattle.std.specs.Prelude.{◌≡◌, List, Bool, not, ◌&&◌, eqb, leb, length}
use Rattle.std.proofs.Math.Path.{refl, subst}
use Rattle.std.proofs.Common.{sym, ap, ◌∙◌}
use Rattle.std.proofs.Math.Bool.{true, false}
use mathlib.Core.Option.{some}
use Rattle.std.proofs.Math.Dec.{ltb}
use native.Mathlib.Omega.{arith}
use borrow.Author.Tests.{ltb-true, ltb-false, eqb-true, eqb-false, not-true}
use Rattle.definition.specs.Limits.{max_depth, max_members}
use Rattle.definition.specs.Bytes.{same_bytes}
use Rattle.definition.specs.Tables.{node_count, kind_at, depth_at, parent_at, key_start, key_length, payload, low_word, high_word, kind_float, kind_text, kind_list, kind_map, child_count, counts_before, first_child, key_bytes, good_part, parent_of, is_finite, range_right, key_differs, check_table}
use Rattle.definition.specs.Tables.Checked.{accepted}
use Rattle.basics.specs.Bools.{and_left, and_right}
use Rattle.table_laws.specs.Counts.{counts_next}
use Rattle.table_laws.specs.Parents.{InRange, parent_is, parent_some}
use Rattle.table_laws.specs.Joined.{place_right, node_right}
use Rattle.table_laws.specs.Least.{RightBelow}
use Rattle.table_laws.specs.Pair.{accepted_right}
use Rattle.table_laws.specs.Sizes.{RightSize, right_size}
use Rattle.table_laws.specs.Rights.{kind_small, depth_small, range_first, count_list, count_map, count_other, payload_float, payload_text, list_range, map_range, map_members, right_head, right_payload, right_place, stands_under, place_deeper, place_number, place_key, member_part, member_differs, root_depth_zero, right_reached, children_later, first_inside}

-- The size is right, and of each node i: the kind and the depth are in range; the children stand behind i and inside the table, where the record says,
-- one deeper than i and with its number; a text is a good part of the text, a float finite; the keys of a map's members are good parts and pairwise different.
pub record Accepted (T X : List ℕ) : Type 0 where
  pub size : RightSize T X
  pub kinds : (i : ℕ) → i < node_count T → kind_at T i ≤ kind_map
  pub depths : (i : ℕ) → i < node_count T → depth_at T i ≤ max_depth
  pub top : depth_at T 0 ≡ 0
  pub later : (i : ℕ) → i < node_count T → i < first_child T i
  pub inside : (i : ℕ) → i < node_count T → first_child T i + child_count T i ≤ node_count T
  pub first : (i : ℕ) → i < node_count T → 0 < child_count T i → low_word T i ≡ first_child T i
  pub deeper : (i : ℕ) → i < node_count T → (k : ℕ) → k < child_count T i → depth_at T (first_child T i + k) ≡ depth_at T i + 1
  pub parents : (i : ℕ) → i < node_count T → (k : ℕ) → k < child_count T i → parent_at T (first_child T i + k) ≡ i
  pub floats : (i : ℕ) → i < node_count T → kind_at T i ≡ kind_float → is_finite (payload T i) ≡ true
  pub texts : (i : ℕ) → i < node_count T → kind_at T i ≡ kind_text → good_part X (low_word T i) (high_word T i) ≡ true
  pub members : (i : ℕ) → i < node_count T → kind_at T i ≡ kind_map → child_count T i ≤ max_members
  pub keys : (i : ℕ) → i < node_count T → kind_at T i ≡ kind_map → (k : ℕ) → k < child_count T i → good_part X (key_start T (first_child T i + k)) (key_length T (first_child T i + k)) ≡ true
  pub apart : (i : ℕ) → i < node_count T → kind_at T i ≡ kind_map → (j k : ℕ) → j < k → k < child_count T i → same_bytes (key_bytes T X (first_child T i + j)) (key_bytes T X (first_child T i + k)) ≡ false

module _ (T X : List ℕ) where
  -- a key that differs from n keys in turn differs from each
  differs_each : (i j n : ℕ) → key_differs T X i j n ≡ true → (m : ℕ) → j ≤ m → m < j + n → same_bytes (key_bytes T X m) (key_bytes T X i) ≡ false
  unfolding key_differs
  differs_each i j zero h m a b = absurd (omega arith)
  differs_each i j (suc n) h m a b = go (ltb j m) refl (differs_each i (suc j) n (and_right (not (same_bytes (key_bytes T X j) (key_bytes T X i))) (key_differs T X i (suc j) n) h) m)
    where
      go : (x : Bool) → ltb j m ≡ x → (suc j ≤ m → m < suc j + n → same_bytes (key_bytes T X m) (key_bytes T X i) ≡ false) → same_bytes (key_bytes T X m) (key_bytes T X i) ≡ false
      go true e ih = ih (ltb-true j m e) (omega arith)
      go false e ih =
          let s = ltb-false j m e in
          let z : j ≡ m = omega arith in
          subst (λ (x : ℕ). same_bytes (key_bytes T X x) (key_bytes T X i) ≡ false) z (not-true (same_bytes (key_bytes T X j) (key_bytes T X i)) (and_left (not (same_bytes (key_bytes T X j) (key_bytes T X i))) (key_differs T X i (suc j) n) h))

  -- the range of a node whose children are counted is right
  counted_range : (i : ℕ) → node_right T X i ≡ true → 0 < child_count T i → (range_right T i ≡ true) × (child_count T i ≡ high_word T i)
  counted_range i h c = go (eqb (kind_at T i) kind_list) refl (eqb (kind_at T i) kind_map) refl
    where
      go : (a : Bool) → eqb (kind_at T i) kind_list ≡ a → (b : Bool) → eqb (kind_at T i) kind_map ≡ b → (range_right T i ≡ true) × (child_count T i ≡ high_word T i)
      go true e b f = let k = eqb-true (kind_at T i) kind_list e in (list_range T X i k (right_payload T X i h), count_list T i k)
      go false e true f = let k = eqb-true (kind_at T i) kind_map f in (map_range T X i k (right_payload T X i h), count_map T i k)
      go false e false f = let z = count_other T i (eqb-false (kind_at T i) kind_list e) (eqb-false (kind_at T i) kind_map f) in absurd (omega arith)

  module _ (size : RightSize T X) (r : RightBelow T X (node_count T)) where
    range_of_lem : (i k : ℕ) → k < child_count T i → InRange T i (first_child T i + k)
    range_of_lem i k l = let s = counts_next T i in record { above = omega arith; within = omega arith }

    inside_of : (i : ℕ) → i < node_count T → first_child T i + child_count T i ≤ node_count T
    inside_of i l =
        let a = first_inside T X (suc i) (λ k m. r k (omega arith)) size.some_node in
        let s = counts_next T i in
        omega arith

    -- the place of the k-th child of node i is right
    place_of : (i : ℕ) → i < node_count T → (k : ℕ) → k < child_count T i → place_right T X (first_child T i + k) (mathlib.Core.Option.some i) ≡ true
    place_of i l k m =
        let j = first_child T i + k in
        let q = inside_of i l in
        let g = range_of_lem i k m in
        sym (stands_under T X j i (children_later T X i j (r i l) g) g) ∙ right_place T X j (r j (omega arith))

    first_of : (i : ℕ) → i < node_count T → 0 < child_count T i → low_word T i ≡ first_child T i
    first_of i l c = let w = counted_range i (r i l) c in let e = w.1 in range_first T i w.0 (omega arith)

    apart_of : (i : ℕ) → i < node_count T → kind_at T i ≡ kind_map → (j k : ℕ) → j < k → k < child_count T i → same_bytes (key_bytes T X (first_child T i + j)) (key_bytes T X (first_child T i + k)) ≡ false
    apart_of i l m j k a b =
        let n = first_child T i + k in
        differs_each n (first_child T i) (n - first_child T i) (member_differs T X n i (place_key T X n i (place_of i l k b) m)) (first_child T i + j) (omega arith) (omega arith)

    members_of : (i : ℕ) → i < node_count T → kind_at T i ≡ kind_map → child_count T i ≤ max_members
    members_of i l m = let c = count_map T i m in let h = map_members T X i m (right_payload T X i (r i l)) in omega arith

    later_of : (i : ℕ) → i < node_count T → i < first_child T i
    later_of i l = let a = right_reached T X i (r i l) in omega arith

    right_all : Accepted T X
    right_all =
        record {
          size = size;
          kinds = λ i l. kind_small T i (right_head T X i (r i l));
          depths = λ i l. depth_small T i (right_head T X i (r i l));
          top = root_depth_zero T X (right_place T X 0 (r 0 size.some_node));
          later = later_of;
          inside = inside_of;
          first = first_of;
          deeper = λ i l k m. place_deeper T X (first_child T i + k) i (place_of i l k m);
          parents = λ i l k m. place_number T X (first_child T i + k) i (place_of i l k m);
          floats = λ i l m. sym (payload_float T X i m) ∙ right_payload T X i (r i l);
          texts = λ i l m. sym (payload_text T X i m) ∙ right_payload T X i (r i l);
          members = members_of;
          keys = λ i l m k b. member_part T X (first_child T i + k) i (place_key T X (first_child T i + k) i (place_of i l k b) m);
          apart = apart_of;
        }

  -- an accepted table
  pub accepted_gives : check_table T X ≡ accepted → Accepted T X
  accepted_gives h = let w = accepted_right T X h in right_all (right_size T X w.0) w.1

-- a table in which the record of every node behind the root names the node's parent
pub record Parented (T : List ℕ) : Type 0 where
  pub parent : (i : ℕ) → 0 < i → i < node_count T → parent_of T i ≡ some (parent_at T i)

-- in an accepted table the parent of a node is the one that bytes 12-15 of its record name
pub parent_written : (T X : List ℕ) → Accepted T X → (i : ℕ) → 0 < i → i < node_count T → parent_of T i ≡ some (parent_at T i)
parent_written T X a i z l =
    let w = a.later i l in
    let q = parent_some T i z (omega arith) in
    let p : ℕ = q.0 in
    let below = q.1 in
    let g = q.2 in
    let u = g.above in
    let v = g.within in
    let c = counts_next T p in
    let is : first_child T p + (i - first_child T p) ≡ i = omega arith in
    let n : parent_at T i ≡ p = subst (λ (x : ℕ). parent_at T x ≡ p) is (a.parents p (omega arith) (i - first_child T p) (omega arith)) in
    parent_is T p i q.1 g ∙ ap some (sym n)

pub accepted_parented : (T X : List ℕ) → Accepted T X → Parented T
accepted_parented T X a = record { parent = parent_written T X a }
