-- The joined rule for a node, one law for each way in which it is kept or fails. Assumes nothing.
use Prim.Native.Nat.{ℕ, zero, suc, ◌+◌, ◌-◌, ◌≤◌, ◌<◌}
use Rattle.std.specs.Prelude.{◌≡◌, List, Bool, true, false, cond, not, ◌&&◌, ◌||◌, eqb, leb, ltb, length}
use Rattle.std.proofs.Math.Path.{refl, ap}
use Rattle.std.proofs.Common.{sym, ◌∙◌, subst, arith}
use Rattle.std.proofs.Math.Option.{Option, none, some}
use borrow.Author.Tests.{leb-true, ltb-true, ltb-false, eqb-true, eqb-false, le-leb, lt-leb, lt-ltb, le-ltb, eq-eqb, ne_eqb}
use Rattle.definition.specs.Limits.{max_depth, max_members}
use Rattle.definition.specs.Bytes.{part}
use Rattle.definition.specs.Utf8.{is_utf8}
use Rattle.definition.specs.Tables.{node_count, field, kind_at, depth_at, parent_at, key_start, key_length, payload, low_word, high_word, kind_float, kind_text, kind_list, kind_map, is_container, child_count, counts_before, first_child, good_part, parent_of, head_right, is_finite, range_right, no_key, key_differs}
use Rattle.basics.specs.Bools.{and_both, and_left, and_not_left, and_not_right, and_right, both_answers}
use Rattle.table_laws.specs.Counts.{counts_root, counts_next}
use Rattle.table_laws.specs.Parents.{InRange, parent_is, parent_none}
use Rattle.table_laws.specs.Joined.{payload_right, member_right, place_right, stands_right, node_right}
use Rattle.table_laws.specs.Least.{RightBelow}

-- a part that passes the end of the text is wrong; one inside is right if it is UTF-8
pub part_past : (X : List ℕ) (at n : ℕ) → length X < at + n → good_part X at n ≡ false
unfolding good_part
part_past X at n h = and_not_left (leb (at + n) (length X)) (is_utf8 (part X at n)) (lt-leb (at + n) (length X) h)

pub part_inside : (X : List ℕ) (at n : ℕ) → at + n ≤ length X → good_part X at n ≡ is_utf8 (part X at n)
unfolding good_part
part_inside X at n h = rw (le-leb (at + n) (length X) h)

-- a good part lies inside the text
pub good_inside : (X : List ℕ) (at n : ℕ) → good_part X at n ≡ true → at + n ≤ length X
unfolding good_part
good_inside X at n h = leb-true (at + n) (length X) (and_left (leb (at + n) (length X)) (is_utf8 (part X at n)) h)

-- a good part is UTF-8
pub good_utf8 : (X : List ℕ) (at n : ℕ) → good_part X at n ≡ true → is_utf8 (part X at n) ≡ true
unfolding good_part
good_utf8 X at n h = and_right (leb (at + n) (length X)) (is_utf8 (part X at n)) h

module _ (T : List ℕ) (i : ℕ) where
  kind_test : Bool
  kind_test = leb (kind_at T i) kind_map

  depth_test : Bool
  depth_test = leb (depth_at T i) max_depth

  zero_tests : Bool
  zero_tests = eqb (field T i 2 2) 0

  -- a record's head is wrong by its kind, by its depth or by bytes 2-3
  pub head_kind : kind_map < kind_at T i → head_right T i ≡ false
  unfolding head_right kind_test depth_test zero_tests
  head_kind h = and_not_left kind_test (depth_test && zero_tests) (lt-leb (kind_at T i) kind_map h)

  pub head_depth : max_depth < depth_at T i → head_right T i ≡ false
  unfolding head_right kind_test depth_test zero_tests
  head_depth h = and_not_right kind_test (depth_test && zero_tests) (and_not_left depth_test zero_tests (lt-leb (depth_at T i) max_depth h))

  pub head_low : (field T i 2 2 ≡ 0 → ⊥) → head_right T i ≡ false
  unfolding head_right kind_test depth_test zero_tests
  head_low h = and_not_right kind_test (depth_test && zero_tests) (and_not_right depth_test zero_tests (ne_eqb (field T i 2 2) 0 h))

  pub head_all : kind_at T i ≤ kind_map → depth_at T i ≤ max_depth → field T i 2 2 ≡ 0 → head_right T i ≡ true
  unfolding head_right
  head_all a b d = rw (le-leb (kind_at T i) kind_map a, le-leb (depth_at T i) max_depth b, eq-eqb (field T i 2 2) 0 d)

  -- a right head has a kind of the document, and a depth that it allows
  pub kind_small : head_right T i ≡ true → kind_at T i ≤ kind_map
  unfolding head_right kind_test depth_test zero_tests
  kind_small h = leb-true (kind_at T i) kind_map (and_left kind_test (depth_test && zero_tests) h)

  pub depth_small : head_right T i ≡ true → depth_at T i ≤ max_depth
  unfolding head_right kind_test depth_test zero_tests
  depth_small h = leb-true (depth_at T i) max_depth (and_left depth_test zero_tests (and_right kind_test (depth_test && zero_tests) h))

  -- an empty container; a wrong first child; a range with the right first child
  pub range_empty : high_word T i ≡ 0 → range_right T i ≡ eqb (low_word T i) 0
  unfolding range_right
  range_empty h = rw (eq-eqb (high_word T i) 0 h)

  pub range_unlike : (high_word T i ≡ 0 → ⊥) → (low_word T i ≡ first_child T i → ⊥) → range_right T i ≡ false
  unfolding range_right
  range_unlike h f = rw (ne_eqb (high_word T i) 0 h, ne_eqb (low_word T i) (first_child T i) f)

  pub range_like : (high_word T i ≡ 0 → ⊥) → low_word T i ≡ first_child T i → range_right T i ≡ leb (low_word T i + high_word T i) (node_count T)
  unfolding range_right
  range_like h f = rw (ne_eqb (high_word T i) 0 h, eq-eqb (low_word T i) (first_child T i) f)

  -- a right range that is not empty begins at the first child, and ends inside the table
  pub range_first : range_right T i ≡ true → (high_word T i ≡ 0 → ⊥) → low_word T i ≡ first_child T i
  unfolding range_right
  range_first h z = eqb-true (low_word T i) (first_child T i) (and_left (eqb (low_word T i) (first_child T i)) (leb (low_word T i + high_word T i) (node_count T)) (rw (ne_eqb (high_word T i) 0 z) at h))

  pub range_inside : range_right T i ≡ true → (high_word T i ≡ 0 → ⊥) → low_word T i + high_word T i ≤ node_count T
  unfolding range_right
  range_inside h z = leb-true (low_word T i + high_word T i) (node_count T) (and_right (eqb (low_word T i) (first_child T i)) (leb (low_word T i + high_word T i) (node_count T)) (rw (ne_eqb (high_word T i) 0 z) at h))

  -- child counts are those of lists and maps
  pub count_list : kind_at T i ≡ kind_list → child_count T i ≡ high_word T i
  unfolding child_count
  count_list h = rw (eq-eqb (kind_at T i) kind_list h)

  pub count_map : kind_at T i ≡ kind_map → child_count T i ≡ high_word T i
  unfolding child_count
  count_map h = rw (ne_eqb (kind_at T i) kind_list (omega arith), eq-eqb (kind_at T i) kind_map h)

  pub count_other : (kind_at T i ≡ kind_list → ⊥) → (kind_at T i ≡ kind_map → ⊥) → child_count T i ≡ 0
  unfolding child_count
  count_other h g = rw (ne_eqb (kind_at T i) kind_list h, ne_eqb (kind_at T i) kind_map g)

  -- a node whose key must be empty, and is not
  pub key_start_lem : (key_start T i ≡ 0 → ⊥) → no_key T i ≡ false
  unfolding no_key
  key_start_lem h = and_not_left (eqb (key_start T i) 0) (eqb (key_length T i) 0) (ne_eqb (key_start T i) 0 h)

  pub key_length_lem : key_start T i ≡ 0 → no_key T i ≡ eqb (key_length T i) 0
  unfolding no_key
  key_length_lem h = rw (eq-eqb (key_start T i) 0 h)

module _ (T X : List ℕ) (i : ℕ) where
  -- bytes 16-23 by the kind
  pub payload_plain : kind_at T i < 3 → payload_right T X i ≡ eqb (payload T i) 0
  unfolding payload_right
  payload_plain h = rw (lt-ltb (kind_at T i) 3 h)

  pub payload_integer : kind_at T i ≡ 3 → payload_right T X i ≡ true
  unfolding payload_right
  payload_integer h = rw (le-ltb (kind_at T i) 3 (omega arith), eq-eqb (kind_at T i) 3 h)

  pub payload_float : kind_at T i ≡ kind_float → payload_right T X i ≡ is_finite (payload T i)
  unfolding payload_right
  payload_float h = rw (le-ltb (kind_at T i) 3 (omega arith), ne_eqb (kind_at T i) 3 (omega arith), eq-eqb (kind_at T i) kind_float h)

  pub payload_text : kind_at T i ≡ kind_text → payload_right T X i ≡ good_part X (low_word T i) (high_word T i)
  unfolding payload_right
  payload_text h = rw (le-ltb (kind_at T i) 3 (omega arith), ne_eqb (kind_at T i) 3 (omega arith), ne_eqb (kind_at T i) kind_float (omega arith), eq-eqb (kind_at T i) kind_text h)

  pub payload_list : kind_at T i ≡ kind_list → payload_right T X i ≡ range_right T i
  unfolding payload_right
  payload_list h = rw (le-ltb (kind_at T i) 3 (omega arith), ne_eqb (kind_at T i) 3 (omega arith), ne_eqb (kind_at T i) kind_float (omega arith), ne_eqb (kind_at T i) kind_text (omega arith), eq-eqb (kind_at T i) kind_list h)

  pub payload_map : kind_map ≤ kind_at T i → payload_right T X i ≡ (range_right T i && leb (high_word T i) max_members)
  unfolding payload_right
  payload_map h = rw (le-ltb (kind_at T i) 3 (omega arith), ne_eqb (kind_at T i) 3 (omega arith), ne_eqb (kind_at T i) kind_float (omega arith), ne_eqb (kind_at T i) kind_text (omega arith), ne_eqb (kind_at T i) kind_list (omega arith))

  -- too many members; few enough
  pub payload_many : kind_map ≤ kind_at T i → max_members < high_word T i → payload_right T X i ≡ false
  payload_many h l = payload_map h ∙ and_not_right (range_right T i) (leb (high_word T i) max_members) (lt-leb (high_word T i) max_members l)

  pub payload_few : kind_map ≤ kind_at T i → high_word T i ≤ max_members → payload_right T X i ≡ range_right T i
  payload_few h l = payload_map h ∙ go (range_right T i)
    where
      go : (b : Bool) → (b && leb (high_word T i) max_members) ≡ b
      go true = le-leb (high_word T i) max_members l
      go false = refl

  -- the range of a right container is right
  pub list_range : kind_at T i ≡ kind_list → payload_right T X i ≡ true → range_right T i ≡ true
  list_range h p = sym (payload_list h) ∙ p

  pub map_range : kind_at T i ≡ kind_map → payload_right T X i ≡ true → range_right T i ≡ true
  map_range h p = and_left (range_right T i) (leb (high_word T i) max_members) (sym (payload_map (omega arith)) ∙ p)

  pub map_members : kind_at T i ≡ kind_map → payload_right T X i ≡ true → high_word T i ≤ max_members
  map_members h p = leb-true (high_word T i) max_members (and_right (range_right T i) (leb (high_word T i) max_members) (sym (payload_map (omega arith)) ∙ p))

  inside_by : (c : ℕ) → child_count T i ≡ c → (c ≡ high_word T i) → range_right T i ≡ true → first_child T i ≤ node_count T → first_child T (suc i) ≤ node_count T
  inside_by c e f r l = go (eqb (high_word T i) 0) refl
    where
      go : (b : Bool) → eqb (high_word T i) 0 ≡ b → first_child T (suc i) ≤ node_count T
      go true z = omega (arith, counts_next T i, eqb-true (high_word T i) 0 z)
      go false z = omega (arith, counts_next T i, range_first T i r (eqb-false (high_word T i) 0 z), range_inside T i r (eqb-false (high_word T i) 0 z))

  -- after a right node the counts still lead to nodes of the table
  pub counts_inside : payload_right T X i ≡ true → first_child T i ≤ node_count T → first_child T (suc i) ≤ node_count T
  counts_inside p l = go (eqb (kind_at T i) kind_list) refl (eqb (kind_at T i) kind_map) refl
    where
      go : (a : Bool) → eqb (kind_at T i) kind_list ≡ a → (b : Bool) → eqb (kind_at T i) kind_map ≡ b → first_child T (suc i) ≤ node_count T
      go true e b f = let k = eqb-true (kind_at T i) kind_list e in inside_by (child_count T i) refl (count_list T i k) (list_range k p) l
      go false e true f = let k = eqb-true (kind_at T i) kind_map f in inside_by (child_count T i) refl (count_map T i k) (map_range k p) l
      go false e false f = omega (arith, counts_next T i, count_other T i (eqb-false (kind_at T i) kind_list e) (eqb-false (kind_at T i) kind_map f))

  -- a node is wrong by its head, by its bytes 16-23 or by its place, and right if all three are
  pub wrong_head : head_right T i ≡ false → node_right T X i ≡ false
  unfolding node_right
  wrong_head h = and_not_left (head_right T i) (payload_right T X i && stands_right T X i) h

  pub wrong_payload : payload_right T X i ≡ false → node_right T X i ≡ false
  unfolding node_right
  wrong_payload h = and_not_right (head_right T i) (payload_right T X i && stands_right T X i) (and_not_left (payload_right T X i) (stands_right T X i) h)

  pub wrong_place : stands_right T X i ≡ false → node_right T X i ≡ false
  unfolding node_right
  wrong_place h = and_not_right (head_right T i) (payload_right T X i && stands_right T X i) (and_not_right (payload_right T X i) (stands_right T X i) h)

  pub all_right : head_right T i ≡ true → payload_right T X i ≡ true → stands_right T X i ≡ true → node_right T X i ≡ true
  unfolding node_right
  all_right a b d = and_both (head_right T i) (payload_right T X i && stands_right T X i) a (and_both (payload_right T X i) (stands_right T X i) b d)

  pub right_by_place : head_right T i ≡ true → payload_right T X i ≡ true → node_right T X i ≡ stands_right T X i
  unfolding node_right
  right_by_place a b = rw (a, b)

  pub right_head : node_right T X i ≡ true → head_right T i ≡ true
  unfolding node_right
  right_head h = and_left (head_right T i) (payload_right T X i && stands_right T X i) h

  pub right_payload : node_right T X i ≡ true → payload_right T X i ≡ true
  unfolding node_right
  right_payload h = and_left (payload_right T X i) (stands_right T X i) (and_right (head_right T i) (payload_right T X i && stands_right T X i) h)

  pub right_place : node_right T X i ≡ true → stands_right T X i ≡ true
  unfolding node_right
  right_place h = and_right (payload_right T X i) (stands_right T X i) (and_right (head_right T i) (payload_right T X i && stands_right T X i) h)

  -- a node behind the root stands right by its parent
  stands_by : (j : ℕ) → 0 < j → stands_right T X j ≡ place_right T X j (parent_of T j)
  unfolding stands_right
  stands_by zero l = absurd (omega arith)
  stands_by (suc j) l = refl

  pub stands_under : (p : ℕ) → p < i → InRange T p i → stands_right T X i ≡ place_right T X i (some p)
  stands_under p l r = stands_by i (omega arith) ∙ ap (place_right T X i) (parent_is T p i l r)

  -- a node behind the root that the counts before it do not reach is wrong
  pub stands_alone : 0 < i → counts_before T i < i → stands_right T X i ≡ false
  unfolding place_right
  stands_alone l h = stands_by i l ∙ ap (place_right T X i) (parent_none T i h)

  module _ (p : ℕ) where
    under_depth : Bool
    under_depth = eqb (depth_at T i) (depth_at T p + 1) && cond (eqb (kind_at T p) kind_map) (member_right T X p i) (no_key T i)

    -- the place under a parent: its number, the depth, and then the key as the parent's kind asks
    pub place_parent : (parent_at T i ≡ p → ⊥) → place_right T X i (some p) ≡ false
    unfolding place_right
    place_parent h = rw (ne_eqb (parent_at T i) p h)

    pub place_depth : (depth_at T i ≡ depth_at T p + 1 → ⊥) → place_right T X i (some p) ≡ false
    unfolding place_right under_depth
    place_depth h = and_not_right (eqb (parent_at T i) p) under_depth (rw (ne_eqb (depth_at T i) (depth_at T p + 1) h))

    pub place_member : parent_at T i ≡ p → depth_at T i ≡ depth_at T p + 1 → kind_at T p ≡ kind_map → place_right T X i (some p) ≡ member_right T X p i
    unfolding place_right
    place_member n h k = rw (eq-eqb (parent_at T i) p n, eq-eqb (depth_at T i) (depth_at T p + 1) h, eq-eqb (kind_at T p) kind_map k)

    pub place_plain : parent_at T i ≡ p → depth_at T i ≡ depth_at T p + 1 → (kind_at T p ≡ kind_map → ⊥) → place_right T X i (some p) ≡ no_key T i
    unfolding place_right
    place_plain n h k = rw (eq-eqb (parent_at T i) p n, eq-eqb (depth_at T i) (depth_at T p + 1) h, ne_eqb (kind_at T p) kind_map k)

    -- what a right place gives
    pub place_number : place_right T X i (some p) ≡ true → parent_at T i ≡ p
    unfolding place_right under_depth
    place_number h = eqb-true (parent_at T i) p (and_left (eqb (parent_at T i) p) under_depth h)

    pub place_deeper : place_right T X i (some p) ≡ true → depth_at T i ≡ depth_at T p + 1
    unfolding place_right under_depth
    place_deeper h = eqb-true (depth_at T i) (depth_at T p + 1) (and_left (eqb (depth_at T i) (depth_at T p + 1)) (cond (eqb (kind_at T p) kind_map) (member_right T X p i) (no_key T i)) (and_right (eqb (parent_at T i) p) under_depth h))

    pub place_key : place_right T X i (some p) ≡ true → kind_at T p ≡ kind_map → member_right T X p i ≡ true
    place_key h k = sym (place_member (place_number h) (place_deeper h) k) ∙ h

    pub member_bad : good_part X (key_start T i) (key_length T i) ≡ false → member_right T X p i ≡ false
    unfolding member_right
    member_bad h = and_not_left (good_part X (key_start T i) (key_length T i)) (key_differs T X i (first_child T p) (i - first_child T p)) h

    pub member_good : good_part X (key_start T i) (key_length T i) ≡ true → member_right T X p i ≡ key_differs T X i (first_child T p) (i - first_child T p)
    unfolding member_right
    member_good h = rw h

    pub member_part : member_right T X p i ≡ true → good_part X (key_start T i) (key_length T i) ≡ true
    unfolding member_right
    member_part h = and_left (good_part X (key_start T i) (key_length T i)) (key_differs T X i (first_child T p) (i - first_child T p)) h

    pub member_differs : member_right T X p i ≡ true → key_differs T X i (first_child T p) (i - first_child T p) ≡ true
    unfolding member_right
    member_differs h = and_right (good_part X (key_start T i) (key_length T i)) (key_differs T X i (first_child T p) (i - first_child T p)) h

-- the root's place
root_tests : List ℕ → Bool
root_tests T = eqb (depth_at T 0) 0 && no_key T 0

pub root_number : (T X : List ℕ) → (parent_at T 0 ≡ 0 → ⊥) → stands_right T X 0 ≡ false
unfolding stands_right root_tests
root_number T X h = and_not_left (eqb (parent_at T 0) 0) (root_tests T) (ne_eqb (parent_at T 0) 0 h)

pub root_depth : (T X : List ℕ) → (depth_at T 0 ≡ 0 → ⊥) → stands_right T X 0 ≡ false
unfolding stands_right root_tests
root_depth T X h = and_not_right (eqb (parent_at T 0) 0) (root_tests T) (and_not_left (eqb (depth_at T 0) 0) (no_key T 0) (ne_eqb (depth_at T 0) 0 h))

pub root_depth_zero : (T X : List ℕ) → stands_right T X 0 ≡ true → depth_at T 0 ≡ 0
unfolding stands_right root_tests
root_depth_zero T X h = eqb-true (depth_at T 0) 0 (and_left (eqb (depth_at T 0) 0) (no_key T 0) (and_right (eqb (parent_at T 0) 0) (root_tests T) h))

pub root_number_zero : (T X : List ℕ) → stands_right T X 0 ≡ true → parent_at T 0 ≡ 0
unfolding stands_right root_tests
root_number_zero T X h = eqb-true (parent_at T 0) 0 (and_left (eqb (parent_at T 0) 0) (root_tests T) h)

pub root_key : (T X : List ℕ) → parent_at T 0 ≡ 0 → depth_at T 0 ≡ 0 → stands_right T X 0 ≡ no_key T 0
unfolding stands_right
root_key T X n h = rw (eq-eqb (parent_at T 0) 0 n, eq-eqb (depth_at T 0) 0 h)

module _ (T X : List ℕ) where
  -- the counts before a right node reach it
  pub right_reached : (k : ℕ) → node_right T X k ≡ true → k ≤ counts_before T k
  right_reached zero h = omega arith
  right_reached (suc k) h = go (ltb (counts_before T (suc k)) (suc k)) refl
    where
      go : (b : Bool) → ltb (counts_before T (suc k)) (suc k) ≡ b → suc k ≤ counts_before T (suc k)
      go true e = absurd (both_answers (stands_right T X (suc k)) (right_place T X (suc k) h) (stands_alone T X (suc k) (omega arith) (ltb-true (counts_before T (suc k)) (suc k) e)))
      go false e = ltb-false (counts_before T (suc k)) (suc k) e

  -- the children of a right node stand behind it
  pub children_later : (p j : ℕ) → node_right T X p ≡ true → InRange T p j → p < j
  children_later p j h r = let a = right_reached p h in let b = r.above in omega arith

  -- the key of a right member of a map is inside the text
  pub member_inside : (p j : ℕ) → node_right T X p ≡ true → node_right T X j ≡ true → InRange T p j → kind_at T p ≡ kind_map → key_start T j + key_length T j ≤ length X
  member_inside p j a b h k =
      let s = right_place T X j b in
      let m = place_key T X j p (sym (stands_under T X j p (children_later p j a h) h) ∙ s) k in
      good_inside X (key_start T j) (key_length T j) (member_part T X j p m)

  -- while all nodes before a node are right, the table reaches where its children must begin
  pub first_inside : (i : ℕ) → RightBelow T X i → 0 < node_count T → first_child T i ≤ node_count T
  first_inside zero r n = let a = counts_root T in omega arith
  first_inside (suc i) r n = counts_inside T X i (right_payload T X i (r i (omega arith))) (first_inside i (λ k l. r k (omega arith)) n)
