-- Equality of nodes, element by element and member by member: what is left to compare gives the whole. Assumes nothing.
use Rattle.std.specs.Prelude.{ℕ, zero, suc, ◌+◌, ◌-◌, ◌*◌, ◌≤◌, ◌<◌, refl, List, Bool as Bits, true, ◌||◌, ◌&&◌, length, ℤ, Float as Floating, Option as Maybe, Some, None}
use Rattle.std.proofs.Math.Path.{◌≡◌, sym, ap}
use Rattle.std.proofs.Common.{◌∙◌, subst, arith, ne_eqb, eq-eqb}
use Rattle.std.proofs.Math.Bool.{false, not}
use Rattle.std.proofs.lemmas.Bool.{false≢true}
use Rattle.std.proofs.Math.Option.{Option, none, some}
use Rattle.definition.specs.Values.{Json, Kids, many, lookup}
use Rattle.definition.specs.Values.Kids.{nil, more}
use Rattle.definition.specs.Tables.{row, node_count, kind_at, kind_list, kind_map, child_count, first_child, node_at, depth_at, key_bytes, key_start, key_length}
use Rattle.definition.specs.Compare.{Value, node_value, same, same_node, same_elements, same_members, list_of, map_of, is_some, less_or_same, less, is_boolean, compare_values}
use Rattle.definition.specs.Forms.{Operator}
use Rattle.definition.specs.Forms.Operator.{eq, ne, lt, le, gt, ge}
use Rattle.definition.specs.Plans.{operator_byte}
use Rattle.table_laws.specs.Accepted.{Accepted}
use Rattle.table_laws.specs.Rights.{good_inside}
use Rattle.table_laws.specs.Nodes.{kids, kids_at, many_kids}
use Rattle.eval_laws.specs.Ranges.{Range, kids_at_lem, child_at}
use Rattle.eval_values.specs.declared.Operand.{Operand}
use Rattle.eval_values.specs.declared.Operand.TheVariants.{Nothing, Null, Bool, Int, Float, Pool, Text, Node}
use Rattle.definition.specs.Bytes.{part}
use Rattle.eval_values.specs.Means.{meaning, Fine, Pair, OfNode, IsNode, height, null_is, is_that, node_in_lem}
use Rattle.eval_values.specs.Ranks.{rank, rank_in, ranked_is, is_rank_equal}
use Rattle.eval_values.specs.Alike.{same_at, same_elements_at, same_members_at, member_at, found_same, differ, Compares, Both}
use Rattle.eval_values.specs.Members.{Members, Looked, Between, member_of}
use Rattle.eval_values.specs.Values.{Nested, nested, nested_value, value_list, value_map, null_means, that_means, rank_means, rank_integer, rank_float, rank_text}

-- a node compares as its value does
pub node_same : (j : Json) (v : Value) → same_node j v ≡ same (node_value j) v
unfolding same_node same node_value
node_same (Json.null i) v = refl
node_same (Json.boolean i b) v = refl
node_same (Json.integer i z) v = refl
node_same (Json.float i x) v = refl
node_same (Json.text i s) v = refl
node_same (Json.list i ks) v = refl
node_same (Json.map i ks) v = refl

-- the first of a range, and the others
kids_more : (S X : List ℕ) (j c : ℕ) → 0 < c → kids S X j c ≡ more (key_bytes S X j) (node_at S X j) (kids S X (j + 1) (c - 1))
unfolding kids row
kids_more S X j zero h = absurd (omega arith)
kids_more S X j (suc c) h =
    let a : suc j ≡ j + 1 = omega arith in
    let b : c ≡ suc c - 1 = omega arith in
    ap (λ (x : ℕ). more (key_bytes S X j) (node_at S X j) (row (node_at S X) (key_bytes S X) x c)) a ∙ ap (λ (x : ℕ). more (key_bytes S X j) (node_at S X j) (row (node_at S X) (key_bytes S X) (j + 1) x)) b

kids_none : (S X : List ℕ) (j c : ℕ) → c ≡ 0 → kids S X j c ≡ nil
unfolding kids row
kids_none S X j zero h = refl
kids_none S X j (suc c) h = absurd (omega arith)

kids_next : (S X : List ℕ) (j c k : ℕ) → k < c → kids S X (j + k) (c - k) ≡ more (key_bytes S X (j + k)) (node_at S X (j + k)) (kids S X (j + (k + 1)) (c - (k + 1)))
kids_next S X j c k h =
    let a : j + k + 1 ≡ j + (k + 1) = omega arith in
    let b : c - k - 1 ≡ c - (k + 1) = omega arith in
    kids_more S X (j + k) (c - k) (omega arith) ∙ ap (λ (x : ℕ). more (key_bytes S X (j + k)) (node_at S X (j + k)) (kids S X x (c - k - 1))) a ∙ ap (λ (x : ℕ). more (key_bytes S X (j + k)) (node_at S X (j + k)) (kids S X (j + (k + 1)) x)) b

pub kids_start : (S X : List ℕ) (j c : ℕ) → kids S X (j + 0) (c - 0) ≡ kids S X j c
kids_start S X j c =
    let a : j + 0 ≡ j = omega arith in
    let b : c - 0 ≡ c = omega arith in
    rw (a, b)

-- ---- elements in turn

module _ (S X : List ℕ) (a b c : ℕ) (Y : Bits) where
  -- what is left to compare
  abbrev Left : ℕ → Bits
  Left k = same_elements (kids S X (a + k) (c - k)) (kids S X (b + k) (c - k))

  elements_open : (k : ℕ) → k < c → same_elements (kids S X (a + k) (c - k)) (kids S X (b + k) (c - k)) ≡ (same_at S X (a + k) (b + k) && same_elements (kids S X (a + (k + 1)) (c - (k + 1))) (kids S X (b + (k + 1)) (c - (k + 1))))
  unfolding same_elements
  elements_open k h =
      ap (λ (z : Kids). same_elements z (kids S X (b + k) (c - k))) (kids_next S X a c k h)
      ∙ ap (same_elements (more (key_bytes S X (a + k)) (node_at S X (a + k)) (kids S X (a + (k + 1)) (c - (k + 1))))) (kids_next S X b c k h)
      ∙ ap (λ (t : Bits). t && same_elements (kids S X (a + (k + 1)) (c - (k + 1))) (kids S X (b + (k + 1)) (c - (k + 1)))) (node_same (node_at S X (a + k)) (node_value (node_at S X (b + k))))

  pub elements_start : same_elements (kids S X (a + 0) (c - 0)) (kids S X (b + 0) (c - 0)) ≡ same_elements (kids S X a c) (kids S X b c)
  elements_start = ap (λ (z : Kids). same_elements z (kids S X (b + 0) (c - 0))) (kids_start S X a c) ∙ ap (same_elements (kids S X a c)) (kids_start S X b c)

  pub elements_step : (k : ℕ) → k < c → (r : Bits) → r ≡ same_at S X (a + k) (b + k) → r ≡ true → same_elements (kids S X (a + k) (c - k)) (kids S X (b + k) (c - k)) ≡ Y
      → same_elements (kids S X (a + (k + 1)) (c - (k + 1))) (kids S X (b + (k + 1)) (c - (k + 1))) ≡ Y
  elements_step k h r e t w = sym (ap (λ (z : Bits). z && same_elements (kids S X (a + (k + 1)) (c - (k + 1))) (kids S X (b + (k + 1)) (c - (k + 1)))) (sym e ∙ t)) ∙ sym (elements_open k h) ∙ w

  pub elements_stop : (k : ℕ) → k < c → (r : Bits) → r ≡ same_at S X (a + k) (b + k) → r ≡ false → same_elements (kids S X (a + k) (c - k)) (kids S X (b + k) (c - k)) ≡ Y → false ≡ Y
  elements_stop k h r e t w = sym (ap (λ (z : Bits). z && same_elements (kids S X (a + (k + 1)) (c - (k + 1))) (kids S X (b + (k + 1)) (c - (k + 1)))) (sym e ∙ t)) ∙ sym (elements_open k h) ∙ w

  pub elements_end : (k : ℕ) → c ≤ k → same_elements (kids S X (a + k) (c - k)) (kids S X (b + k) (c - k)) ≡ Y → true ≡ Y
  unfolding same_elements
  elements_end k h w = sym (ap (λ (z : Kids). same_elements z (kids S X (b + k) (c - k))) (kids_none S X (a + k) (c - k) (omega arith)) ∙ ap (same_elements nil) (kids_none S X (b + k) (c - k) (omega arith))) ∙ w

-- ---- members in turn

member_elim : (m : Json) (o : Option Json) → elim o [ none ↦ false | some h ↦ same_node m (node_value h) ] ≡ found_same m o
member_elim m none = refl
member_elim m (some h) = refl

module _ (S X : List ℕ) (a c : ℕ) (ls : Kids) (Y : Bits) where
  members_open : (k : ℕ) → k < c → same_members (kids S X (a + k) (c - k)) ls ≡ (found_same (node_at S X (a + k)) (lookup (key_bytes S X (a + k)) ls) && same_members (kids S X (a + (k + 1)) (c - (k + 1))) ls)
  unfolding same_members
  members_open k h =
      ap (λ (z : Kids). same_members z ls) (kids_next S X a c k h)
      ∙ ap (λ (t : Bits). t && same_members (kids S X (a + (k + 1)) (c - (k + 1))) ls) (member_elim (node_at S X (a + k)) (lookup (key_bytes S X (a + k)) ls))

  pub members_step : (k : ℕ) → k < c → (r : Bits) → r ≡ found_same (node_at S X (a + k)) (lookup (key_bytes S X (a + k)) ls) → r ≡ true → same_members (kids S X (a + k) (c - k)) ls ≡ Y → same_members (kids S X (a + (k + 1)) (c - (k + 1))) ls ≡ Y
  members_step k h r e t w = sym (ap (λ (z : Bits). z && same_members (kids S X (a + (k + 1)) (c - (k + 1))) ls) (sym e ∙ t)) ∙ sym (members_open k h) ∙ w

  pub members_stop : (k : ℕ) → k < c → (r : Bits) → r ≡ found_same (node_at S X (a + k)) (lookup (key_bytes S X (a + k)) ls) → r ≡ false → same_members (kids S X (a + k) (c - k)) ls ≡ Y → false ≡ Y
  members_stop k h r e t w = sym (ap (λ (z : Bits). z && same_members (kids S X (a + (k + 1)) (c - (k + 1))) ls) (sym e ∙ t)) ∙ sym (members_open k h) ∙ w

  pub members_end : (k : ℕ) → c ≤ k → same_members (kids S X (a + k) (c - k)) ls ≡ Y → true ≡ Y
  unfolding same_members
  members_end k h w = sym (ap (λ (z : Kids). same_members z ls) (kids_none S X (a + k) (c - k) (omega arith))) ∙ w

-- ---- two lists or two maps

elements_long : (ks ls : Kids) → (many ks ≡ many ls → ⊥) → same_elements ks ls ≡ false
unfolding same_elements many
elements_long nil nil n = absurd (n refl)
elements_long nil (more h m ls) n = refl
elements_long (more k j ks) nil n = refl
elements_long (more k j ks) (more h m ls) n = rw (elements_long ks ls (λ e. n (ap suc e))) (and_false (same_node j (node_value m)))
  where
    and_false : (t : Bits) → (t && false) ≡ false
    and_false true = refl
    and_false false = refl

module _ (S X : List ℕ) (tab : Accepted S X) (i j : ℕ) (h : Both S i j) where
  abbrev Ki : Nested S X tab i h.first
  Ki = nested S X tab i h.first h.nested_i

  abbrev Kj : Nested S X tab j h.second
  Kj = nested S X tab j h.second h.nested_j

  pub lists_same : kind_at S i ≡ kind_list → kind_at S j ≡ kind_list → same_elements_at S X i j ≡ same_at S X i j
  unfolding same list_of
  lists_same e f = sym (ap (λ (v : Value). same v (node_value (node_at S X j))) (value_list S X tab i h.first e) ∙ ap (same (Value.list (kids_at S X i))) (value_list S X tab j h.second f))

  pub maps_same : kind_at S i ≡ kind_map → kind_at S j ≡ kind_map → child_count S i ≡ child_count S j → same_members_at S X i j ≡ same_at S X i j
  unfolding same map_of
  maps_same e f n =
      sym (ap (λ (v : Value). same v (node_value (node_at S X j))) (value_map S X tab i h.first e) ∙ ap (same (Value.map (kids_at S X i))) (value_map S X tab j h.second f)
      ∙ ap (λ (t : Bits). t && same_members_at S X i j) (eq-eqb (many (kids_at S X i)) (many (kids_at S X j)) (many_kids S X _ _ ∙ n ∙ sym (many_kids S X _ _))))

  pub kinds_differ : (kind_at S i ≡ kind_at S j → ⊥) → false ≡ same_at S X i j
  unfolding same list_of map_of
  kinds_differ n = go Ki Kj
    where
      go : Nested S X tab i h.first → Nested S X tab j h.second → false ≡ same_at S X i j
      go (Nested.list e) (Nested.list f) = absurd (n (e ∙ sym f))
      go (Nested.list e) (Nested.map f) = sym (ap (λ (v : Value). same v (node_value (node_at S X j))) (value_list S X tab i h.first e) ∙ ap (same (Value.list (kids_at S X i))) (value_map S X tab j h.second f))
      go (Nested.map e) (Nested.list f) = sym (ap (λ (v : Value). same v (node_value (node_at S X j))) (value_map S X tab i h.first e) ∙ ap (same (Value.map (kids_at S X i))) (value_list S X tab j h.second f))
      go (Nested.map e) (Nested.map f) = absurd (n (e ∙ sym f))

  maps_differ : kind_at S i ≡ kind_map → kind_at S j ≡ kind_map → (many (kids_at S X i) ≡ many (kids_at S X j) → ⊥) → false ≡ same_at S X i j
  unfolding same map_of
  maps_differ e f n =
      sym (ap (λ (v : Value). same v (node_value (node_at S X j))) (value_map S X tab i h.first e) ∙ ap (same (Value.map (kids_at S X i))) (value_map S X tab j h.second f)
      ∙ ap (λ (t : Bits). t && same_members_at S X i j) (ne_eqb (many (kids_at S X i)) (many (kids_at S X j)) n))

  counts_apart : (child_count S i ≡ child_count S j → ⊥) → many (kids_at S X i) ≡ many (kids_at S X j) → ⊥
  counts_apart n e = n (sym (many_kids S X _ _) ∙ e ∙ many_kids S X _ _)

  pub counts_differ : kind_at S i ≡ kind_at S j → (child_count S i ≡ child_count S j → ⊥) → false ≡ same_at S X i j
  counts_differ k n = go Ki
    where
      go : Nested S X tab i h.first → false ≡ same_at S X i j
      go (Nested.list e) = sym (elements_long (kids_at S X i) (kids_at S X j) (counts_apart n)) ∙ lists_same e (sym k ∙ e)
      go (Nested.map e) = maps_differ e (sym k ∙ e) (counts_apart n)

  -- a list or a map by its kind
  pub map_else : (kind_at S i ≡ kind_list → ⊥) → kind_at S i ≡ kind_map
  map_else n = go Ki
    where
      go : Nested S X tab i h.first → kind_at S i ≡ kind_map
      go (Nested.list e) = absurd (n e)
      go (Nested.map e) = e

-- ---- the six operators by their bytes

module _ (v w : Value) (op : ℕ) (b : Bits) where
  by_operator : (o : Operator) → operator_byte o ≡ op → (op ≡ 0 → b ≡ compare_values eq v w) → (op ≡ 1 → b ≡ compare_values ne v w) → (op ≡ 2 → b ≡ compare_values lt v w) → (op ≡ 3 → b ≡ compare_values le v w) → (op ≡ 4 → b ≡ compare_values gt v w) → (op ≡ 5 → b ≡ compare_values ge v w) → b ≡ compare_values o v w
  unfolding operator_byte
  by_operator eq e p0 p1 p2 p3 p4 p5 = p0 (sym e)
  by_operator ne e p0 p1 p2 p3 p4 p5 = p1 (sym e)
  by_operator lt e p0 p1 p2 p3 p4 p5 = p2 (sym e)
  by_operator le e p0 p1 p2 p3 p4 p5 = p3 (sym e)
  by_operator gt e p0 p1 p2 p3 p4 p5 = p4 (sym e)
  by_operator ge e p0 p1 p2 p3 p4 p5 = p5 (sym e)

  pub says_eq : op ≡ 0 → b ≡ same v w → Compares v w op b
  unfolding compare_values
  says_eq z t = λ o e. by_operator o e (λ y. t) (λ y. absurd (omega arith)) (λ y. absurd (omega arith)) (λ y. absurd (omega arith)) (λ y. absurd (omega arith)) (λ y. absurd (omega arith))

  pub says_ne : op ≡ 1 → b ≡ differ v w → Compares v w op b
  unfolding compare_values
  says_ne z t = λ o e. by_operator o e (λ y. absurd (omega arith)) (λ y. t) (λ y. absurd (omega arith)) (λ y. absurd (omega arith)) (λ y. absurd (omega arith)) (λ y. absurd (omega arith))

  pub says_lt : op ≡ 2 → b ≡ less v w → Compares v w op b
  unfolding compare_values
  says_lt z t = λ o e. by_operator o e (λ y. absurd (omega arith)) (λ y. absurd (omega arith)) (λ y. t) (λ y. absurd (omega arith)) (λ y. absurd (omega arith)) (λ y. absurd (omega arith))

  pub says_le : op ≡ 3 → b ≡ less_or_same v w → Compares v w op b
  unfolding compare_values
  says_le z t = λ o e. by_operator o e (λ y. absurd (omega arith)) (λ y. absurd (omega arith)) (λ y. absurd (omega arith)) (λ y. t) (λ y. absurd (omega arith)) (λ y. absurd (omega arith))

  pub says_gt : op ≡ 4 → b ≡ less w v → Compares v w op b
  unfolding compare_values
  says_gt z t = λ o e. by_operator o e (λ y. absurd (omega arith)) (λ y. absurd (omega arith)) (λ y. absurd (omega arith)) (λ y. absurd (omega arith)) (λ y. t) (λ y. absurd (omega arith))

  pub says_ge : (op ≡ 0 → ⊥) → (op ≡ 1 → ⊥) → (op ≡ 2 → ⊥) → (op ≡ 3 → ⊥) → (op ≡ 4 → ⊥) → b ≡ less_or_same w v → Compares v w op b
  unfolding compare_values
  says_ge n0 n1 n2 n3 n4 t = λ o e. by_operator o e (λ y. absurd (n0 y)) (λ y. absurd (n1 y)) (λ y. absurd (n2 y)) (λ y. absurd (n3 y)) (λ y. absurd (n4 y)) (λ y. t)

-- the members of a map, for the search by a name
pub members_of : (S X : List ℕ) → Accepted S X → (j : ℕ) → j < node_count S → kind_at S j ≡ kind_map → (b c : ℕ) → Range S j b c → Members S X b c
members_of S X tab j h m b c r = record { nodes = λ k l. (child_at S X tab j h b c r k l).0; keys = λ k l. keys_by k l }
  where
    keys_by : (k : ℕ) → k < c → key_start S (b + k) + key_length S (b + k) ≤ length X
    keys_by k l =
        let e : first_child S j + k ≡ b + k = omega (arith, r.first (omega arith)) in
        let g = good_inside X (key_start S (first_child S j + k)) (key_length S (first_child S j + k)) (tab.keys j h m k (omega (arith, r.count))) in
        subst (λ (z : ℕ). key_start S z + key_length S z ≤ length X) e g

-- ---- the operators that are made of others

module _ (v w : Value) where
  pub order_less : (a : Bits) → a ≡ less v w → a ≡ true → true ≡ less_or_same v w
  unfolding less_or_same
  order_less a e t = sym (ap (λ (z : Bits). z || (same v w && not (is_boolean v))) (sym e ∙ t))

  rest_of : (a : Bits) → a ≡ less v w → a ≡ false → less_or_same v w ≡ (same v w && not (is_boolean v))
  unfolding less_or_same
  rest_of a e t = ap (λ (z : Bits). z || (same v w && not (is_boolean v))) (sym e ∙ t)

  pub order_same : (a b : Bits) → a ≡ less v w → a ≡ false → b ≡ same v w → b ≡ false → false ≡ less_or_same v w
  order_same a b e t f u = sym (rest_of a e t ∙ ap (λ (z : Bits). z && not (is_boolean v)) (sym f ∙ u))

  pub order_else : (a b c : Bits) → a ≡ less v w → a ≡ false → b ≡ same v w → b ≡ true → c ≡ is_boolean v → not c ≡ less_or_same v w
  order_else a b c e t f u g = ap not g ∙ sym (rest_of a e t ∙ ap (λ (z : Bits). z && not (is_boolean v)) (sym f ∙ u))

  pub differ_left : (a : Bits) → a ≡ is_some v → a ≡ false → false ≡ differ v w
  differ_left a e t = sym (ap (λ (z : Bits). z && (is_some w && not (same v w))) (sym e ∙ t))

  pub differ_right : (b : Bits) → b ≡ is_some w → b ≡ false → false ≡ differ v w
  differ_right b e t = sym (ap (λ (z : Bits). is_some v && (z && not (same v w))) (sym e ∙ t) ∙ and_false (is_some v))
    where
      and_false : (z : Bits) → (z && false) ≡ false
      and_false true = refl
      and_false false = refl

  pub differ_both : (a b c : Bits) → a ≡ is_some v → a ≡ true → b ≡ is_some w → b ≡ true → c ≡ same v w → not c ≡ differ v w
  differ_both a b c e t f u g = ap not g ∙ sym (ap (λ (z : Bits). z && (is_some w && not (same v w))) (sym e ∙ t) ∙ ap (λ (z : Bits). z && not (same v w)) (sym f ∙ u))

-- ---- tests that are turned round

pub not_taken : (b : Bits) → not b ≡ true → b ≡ false
not_taken true e = sym e
not_taken false e = refl

pub not_left : (b : Bits) → not b ≡ false → b ≡ true
not_left true e = refl
not_left false e = sym e

-- ---- two operands by the first one's case

module _ (S X L : List ℕ) (tab : Accepted S X) (x y : Operand) (p : Pair S X L x y) where
  pub with_nothing : x ≡ Nothing → false ≡ same (meaning S X L x) (meaning S X L y)
  unfolding same
  with_nothing e = ap (λ (z : Operand). same (meaning S X L z) (meaning S X L y)) (sym e)

  pub with_null : x ≡ Null → (r : Bits) → r ≡ null_is y → r ≡ same (meaning S X L x) (meaning S X L y)
  unfolding same
  with_null e r t = t ∙ null_means S X L tab y p.second ∙ ap (λ (z : Operand). same (meaning S X L z) (meaning S X L y)) (sym e)

  pub with_bool : (b : Bits) → x ≡ Bool b → (r : Bits) → r ≡ is_that b y → r ≡ same (meaning S X L x) (meaning S X L y)
  unfolding same
  with_bool b e r t = t ∙ that_means S X L tab b y p.second ∙ ap (λ (z : Operand). same (meaning S X L z) (meaning S X L y)) (sym e)

  ranked_as : (r : Bits) → r ≡ is_rank_equal (rank_in X L x y) → r ≡ is_rank_equal (rank (meaning S X L x) (meaning S X L y))
  ranked_as r t = t ∙ ap is_rank_equal (rank_means S X L tab x y p)

  pub with_int : (z : ℤ) → x ≡ Int z → (r : Bits) → r ≡ is_rank_equal (rank_in X L x y) → r ≡ same (meaning S X L x) (meaning S X L y)
  with_int z e r t = ranked_as r t ∙ ap (λ (o : Operand). is_rank_equal (rank (meaning S X L o) (meaning S X L y))) e ∙ rank_integer z (meaning S X L y) ∙ ap (λ (o : Operand). same (meaning S X L o) (meaning S X L y)) (sym e)

  pub with_float : (z : Floating) → x ≡ Float z → (r : Bits) → r ≡ is_rank_equal (rank_in X L x y) → r ≡ same (meaning S X L x) (meaning S X L y)
  with_float z e r t = ranked_as r t ∙ ap (λ (o : Operand). is_rank_equal (rank (meaning S X L o) (meaning S X L y))) e ∙ rank_float z (meaning S X L y) ∙ ap (λ (o : Operand). same (meaning S X L o) (meaning S X L y)) (sym e)

  pub with_pool : (a n : ℕ) → x ≡ Pool a n → (r : Bits) → r ≡ is_rank_equal (rank_in X L x y) → r ≡ same (meaning S X L x) (meaning S X L y)
  with_pool a n e r t = ranked_as r t ∙ ap (λ (o : Operand). is_rank_equal (rank (meaning S X L o) (meaning S X L y))) e ∙ rank_text (part L a n) (meaning S X L y) ∙ ap (λ (o : Operand). same (meaning S X L o) (meaning S X L y)) (sym e)

  pub with_text : (a n : ℕ) → x ≡ Text a n → (r : Bits) → r ≡ is_rank_equal (rank_in X L x y) → r ≡ same (meaning S X L x) (meaning S X L y)
  with_text a n e r t = ranked_as r t ∙ ap (λ (o : Operand). is_rank_equal (rank (meaning S X L o) (meaning S X L y))) e ∙ rank_text (part X a n) (meaning S X L y) ∙ ap (λ (o : Operand). same (meaning S X L o) (meaning S X L y)) (sym e)

  -- a number or a text is equal where it ranks so
  pub with_ranked : (q : Bits) → q ≡ ranked_is x → q ≡ true → (r : Bits) → r ≡ is_rank_equal (rank_in X L x y) → r ≡ same (meaning S X L x) (meaning S X L y)
  with_ranked q u v r t = go x refl (sym u ∙ v)
    where
      go : (z : Operand) → x ≡ z → ranked_is z ≡ true → r ≡ same (meaning S X L x) (meaning S X L y)
      go Nothing e w = absurd (false≢true w)
      go Null e w = absurd (false≢true w)
      go (Bool b) e w = absurd (false≢true w)
      go (Int z) e w = with_int z e r t
      go (Float z) e w = with_float z e r t
      go (Pool a n) e w = with_pool a n e r t
      go (Text a n) e w = with_text a n e r t
      go (Node i) e w = absurd (false≢true w)

  -- and any other value is none
  pub not_ranked : (q : Bits) → q ≡ ranked_is x → q ≡ false → (z : Operand) → x ≡ z → ranked_is z ≡ true → ⊥
  not_ranked q u v z e w = false≢true (sym v ∙ u ∙ ap ranked_is e ∙ w)

  node_back : (z : Operand) (j : ℕ) → node_in_lem z ≡ Some j → z ≡ Node j
  node_back Nothing j e = cc
  node_back Null j e = cc
  node_back (Bool b) j e = cc
  node_back (Int z) j e = cc
  node_back (Float z) j e = cc
  node_back (Pool a n) j e = cc
  node_back (Text a n) j e = cc
  node_back (Node i) j e = cc

  -- both are nodes
  pub with_node : (i j : ℕ) → x ≡ Node i → (m : Maybe ℕ) → m ≡ node_in_lem y → m ≡ Some j → Both S i j
  with_node i j e m t u =
      let f = subst (Fine S X L) e p.first in
      let g = subst (Fine S X L) (node_back y j (sym t ∙ u)) p.second in
      record { first = f.0; second = g.0; nested_i = f.1; nested_j = g.1 }

  pub node_node : (i j : ℕ) → x ≡ Node i → (m : Maybe ℕ) → m ≡ node_in_lem y → m ≡ Some j → (r : Bits) → r ≡ same_at S X i j → r ≡ same (meaning S X L x) (meaning S X L y)
  node_node i j e m t u r w = w ∙ ap (λ (o : Operand). same (meaning S X L o) (node_value (node_at S X j))) (sym e) ∙ ap (λ (o : Operand). same (meaning S X L x) (meaning S X L o)) (sym (node_back y j (sym t ∙ u)))

  -- a list or a map is equal to no other value
  none_like : (ks : Kids) (z : Operand) → node_in_lem z ≡ None → (same (Value.list ks) (meaning S X L z) ≡ false) × (same (Value.map ks) (meaning S X L z) ≡ false)
  unfolding same list_of map_of
  none_like ks Nothing e = (refl, refl)
  none_like ks Null e = (refl, refl)
  none_like ks (Bool b) e = (refl, refl)
  none_like ks (Int z) e = (refl, refl)
  none_like ks (Float z) e = (refl, refl)
  none_like ks (Pool a n) e = (refl, refl)
  none_like ks (Text a n) e = (refl, refl)
  none_like ks (Node i) e = let z : ◌≡◌ {A = ℕ} 0 1 = cc in absurd (omega arith)

  pub node_else : (i : ℕ) → x ≡ Node i → (m : Maybe ℕ) → m ≡ node_in_lem y → m ≡ None → false ≡ same (meaning S X L x) (meaning S X L y)
  node_else i e m t u =
      let f = subst (Fine S X L) e p.first in
      sym (ap (λ (o : Operand). same (meaning S X L o) (meaning S X L y)) e
      ∙ nested_value S X tab i f.0 (λ v. same v (meaning S X L y)) false (λ ks. (none_like ks y (sym t ∙ u)).0) (λ ks. (none_like ks y (sym t ∙ u)).1) f.1)

  pub node_height : (i t : ℕ) → x ≡ Node i → height S x ≡ t → 4 * (64 - depth_at S i) + 2 < t
  node_height i t e h = let g : height S x ≡ 4 * (64 - depth_at S i) + 3 = ap (height S) e in omega arith

-- the operand of a node is no higher than the node
height_by : (S : List ℕ) (i : ℕ) (r : Operand) → IsNode i r → height S r ≤ 4 * (64 - depth_at S i) + 3
height_by S i Nothing e = omega arith
height_by S i Null e = omega arith
height_by S i (Bool b) e = omega arith
height_by S i (Int z) e = omega arith
height_by S i (Float z) e = omega arith
height_by S i (Pool a n) e = omega arith
height_by S i (Text a n) e = omega arith
height_by S i (Node m) e = let g : depth_at S m ≡ depth_at S i = ap (depth_at S) e in omega arith

pub child_height : (S X : List ℕ) → Accepted S X → (i m t : ℕ) (r : Operand) → OfNode S X m r → m < node_count S → depth_at S m ≡ depth_at S i + 1 → 4 * (64 - depth_at S i) + 1 ≡ t → height S r < t
child_height S X tab i m t r o h d e = omega (arith, height_by S m r o.itself, tab.depths m h)

-- two nodes as operands
pub of_nodes : (S X L : List ℕ) (i j : ℕ) (x y : Operand) → OfNode S X i x → OfNode S X j y → Pair S X L x y
of_nodes S X L i j x y a b = record { first = a.fine L; second = b.fine L }

pub at_nodes : (S X L : List ℕ) (i j : ℕ) (x y : Operand) → OfNode S X i x → OfNode S X j y → (r : Bits) → r ≡ same (meaning S X L x) (meaning S X L y) → r ≡ same_at S X i j
at_nodes S X L i j x y a b r e = e ∙ ap (λ (v : Value). same v (meaning S X L y)) (a.means L) ∙ ap (same (node_value (node_at S X i))) (b.means L)

-- a member and what its name finds
pub found_node : (S X : List ℕ) (m j b c : ℕ) (k : List ℕ) (o : Maybe ℕ) (h : ℕ) → kids S X b c ≡ kids_at S X j → Looked S X b c k o → o ≡ Some h → k ≡ key_bytes S X m → (r : Bits) → r ≡ same_at S X m h → r ≡ member_at S X m j
found_node S X m j b c k o h e l u q r w =
    w ∙ sym (node_same (node_at S X m) (node_value (node_at S X h)))
    ∙ ap (found_same (node_at S X m)) (ap (member_of S X) (sym u) ∙ sym l.is ∙ ap (λ (z : List ℕ). lookup z (kids S X b c)) q ∙ ap (lookup (key_bytes S X m)) e)

pub found_nothing : (S X : List ℕ) (m j b c : ℕ) (k : List ℕ) (o : Maybe ℕ) → kids S X b c ≡ kids_at S X j → Looked S X b c k o → o ≡ None → k ≡ key_bytes S X m → false ≡ member_at S X m j
found_nothing S X m j b c k o e l u q =
    ap (found_same (node_at S X m)) (ap (member_of S X) (sym u) ∙ sym l.is ∙ ap (λ (z : List ℕ). lookup z (kids S X b c)) q ∙ ap (lookup (key_bytes S X m)) e)

pub found_in : (S X : List ℕ) (b c : ℕ) (k : List ℕ) (o : Maybe ℕ) (h : ℕ) → Looked S X b c k o → o ≡ Some h → (b ≤ h) × (h < b + c)
found_in S X b c k o h l u = subst (Between b c) u l.inside

-- the children that the code compares are those of the nodes
module _ (S X : List ℕ) (tab : Accepted S X) (i j : ℕ) (h : Both S i j) (a b c : ℕ) (p : Range S i a c) where
  pub elements_are : Range S j b c → same_elements (kids S X a c) (kids S X b c) ≡ same_elements_at S X i j
  elements_are q = ap (λ (z : Kids). same_elements z (kids S X b c)) (kids_at_lem S X tab i h.first a c p) ∙ ap (same_elements (kids_at S X i)) (kids_at_lem S X tab j h.second b c q)

pub members_are : (S X : List ℕ) → (tab : Accepted S X) (i j : ℕ) (h : Both S i j) (a c : ℕ) → Range S i a c → same_members (kids S X a c) (kids_at S X j) ≡ same_members_at S X i j
members_are S X tab i j h a c p = ap (λ (z : Kids). same_members z (kids_at S X j)) (kids_at_lem S X tab i h.first a c p)

-- the key of a member lies inside the text, and is read by its start and its length
pub child_key : (S X : List ℕ) → Accepted S X → (i : ℕ) → i < node_count S → kind_at S i ≡ kind_map → (b c : ℕ) → Range S i b c → (k : ℕ) → k < c → key_start S (b + k) + key_length S (b + k) ≤ length X
child_key S X tab i h m b c r k l = (members_of S X tab i h m b c r).keys k l

pub key_read : (S X : List ℕ) (m a n : ℕ) → a ≡ key_start S m → n ≡ key_length S m → part X a n ≡ key_bytes S X m
key_read S X m a n p q = ap (λ (z : ℕ). part X z n) p ∙ ap (λ (z : ℕ). part X (key_start S m) z) q

pub members_start : (S X : List ℕ) (a c : ℕ) (ls : Kids) → same_members (kids S X (a + 0) (c - 0)) ls ≡ same_members (kids S X a c) ls
members_start S X a c ls = ap (λ (z : Kids). same_members z ls) (kids_start S X a c)
