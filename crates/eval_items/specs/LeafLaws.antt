-- Literals, names and indices: from the bytes that are read to what every form there says. Assumes nothing.
use Rattle.std.specs.Prelude.{ℕ, ◌+◌, ◌-◌, ◌≤◌, ◌<◌, ◌^◌, refl, ltb, ℤ, Float as Floating, get_or, take, drop, Option, Some, None}
use Rattle.std.proofs.Math.Path.{◌≡◌, sym, ap, subst}
use Rattle.std.proofs.Common.{◌∙◌}
use mathlib.Core.List.{List, [], ◌∷◌, append-nil}
use Rattle.std.proofs.Math.Bool.{true, false}
use Rattle.std.proofs.Math.Dec.{T}
use Rattle.std.specs.Float.{binary64}
use Rattle.std.specs.Float.Ieee.{of_bits}
use Rattle.std.specs.Float.Ieee.Scale.{finite}
use Rattle.std.proofs.Math.ListN.{length}
use native.Mathlib.Omega.{arith}
use borrow.Author.Tests.{eq-eqb, ne_eqb, ltb-true}
use Rattle.definition.specs.Bytes.{part, number, little_endian, signed64, unsigned64}
use Rattle.definition.specs.Limits.{max_plan, max_nodes}
use Rattle.definition.specs.Literals.{in_range}
use Rattle.definition.specs.Values.{Json, Kids, lookup, elements}
use Rattle.definition.specs.Forms.{Literal, Selector}
use Rattle.definition.specs.Forms.Literal.{null, boolean, integer, float, text}
use Rattle.definition.specs.Forms.Selector.{index}
use Rattle.definition.specs.QueryForms.{literal_right, inside_i64}
use Rattle.definition.specs.Plans.{eight, pooled, code_literal, pool_literal}
use Rattle.definition.specs.Slices.{index_places}
use Rattle.definition.specs.Tables.{node_count, node_at, depth_at, kind_at, kind_list, kind_map, child_count, low_word, is_finite}
use Rattle.definition.specs.Compare.{Value}
use Rattle.definition.specs.Evaluation.{literal_value, eval_selector, pick, found}
use Rattle.definition_bytes.specs.Numbers.{little_endian_length, unsigned_fits}
use Rattle.basics.specs.Bools.{and_left, and_right}
use Rattle.slices.specs.Walks.{place_list}
use Rattle.slices.specs.Laws.{at_means, nothing_means, index_at}
use Rattle.eval_laws.specs.Bytes.{Holds, holds_in, holds_head, holds_tail, number_at, signed_at}
use Rattle.eval_laws.specs.Items.{SelectorAt, pooled_at, Named, is_name, Indexed, is_index}
use Rattle.table_laws.specs.Nodes.{nodes, kids, nodes_one, length_nodes, elements_none, members_map, members_none}
use Rattle.eval_laws.specs.Ranges.{Range, range_of_lem, kids_at_lem, child_at, range_in, elements_at, pick_nothing}
use Rattle.eval_values.specs.Means.{meaning, Fine}
use Rattle.eval_values.specs.Floats.{bits_finite}
use Rattle.eval_values.specs.Same.{members_of}
use Rattle.eval_values.specs.Members.{Looked, Between, member_of, Members}
use Rattle.eval_values.specs.declared.Operand.{Operand}
use Rattle.eval_values.specs.declared.Operand.TheVariants.{Null, Bool, Int, Float, Pool}
use Rattle.eval_items.specs.Leaves.{constant_of, ValueOf, AskValue, member_nodes, AskOne, DoneOne}

-- ---- literals

pub constant_false : (b : ℕ) → b ≡ 0 → Bool false ≡ constant_of b
constant_false b e = rw (eq-eqb b 0 e)

pub constant_true : (b : ℕ) → (b ≡ 0 → ⊥) → b ≡ 1 → Bool true ≡ constant_of b
constant_true b n e = rw (ne_eqb b 0 n, eq-eqb b 1 e)

pub constant_null : (b : ℕ) → (b ≡ 0 → ⊥) → (b ≡ 1 → ⊥) → Null ≡ constant_of b
constant_null b n m = rw (ne_eqb b 0 n, ne_eqb b 1 m)

-- what stands behind the kind of a literal
module _ (P L : List ℕ) (q : ℕ) where
  tail_eight : (x n : ℕ) → n < 256 ^ 8 → Holds P q (x ∷ little_endian 8 n) → (q + 9 ≤ length P) × (number (part P (q + 1) 8) ≡ n)
  tail_eight x n l h =
      let h1 = holds_tail P q x (little_endian 8 n) h in
      let i = holds_in P (q + 1) (little_endian 8 n) h1 in
      let k = little_endian_length 8 n in
      (omega arith, number_at P (q + 1) 8 n [] l (subst (Holds P (q + 1)) (sym (append-nil (little_endian 8 n))) h1))

  -- what the code may read, by the kind
  pub record Room : Type 0 where
    pub two_bytes : q + 2 ≤ length P
    pub of_integer_lem : get_or P q 0 ≡ 0x10 → q + 9 ≤ length P
    pub of_float_lem : get_or P q 0 ≡ 0x11 → (q + 9 ≤ length P) × (is_finite (number (part P (q + 1) 8)) ≡ true)
    pub of_text_lem : get_or P q 0 ≡ 0x12 → q + 5 ≤ length P

  float_small : (b : ℕ) → literal_right (float b) ≡ true → (b < 256 ^ 8) × (is_finite b ≡ true)
  unfolding literal_right
  float_small b r = let l = ltb-true b (2 ^ 64) (and_left (ltb b (2 ^ 64)) (is_finite b) r) in (omega arith, and_right (ltb b (2 ^ 64)) (is_finite b) r)

  integer_small : (z : ℤ) → literal_right (integer z) ≡ true → (unsigned64 z < 256 ^ 8) × (inside_i64 z ≡ true)
  unfolding literal_right
  integer_small z r = (unsigned_fits z r, r)

  text_kind : (s : List ℕ) (k : ℕ) → Holds P q (pooled 0x12 k s) → get_or P q 0 ≡ 0x12
  unfolding pooled
  text_kind s k h = (holds_head P q _ _ h).1

  room_by : (l : Literal) (k : ℕ) → length L ≤ max_plan → Holds P q (code_literal l k) → Holds L k (pool_literal l) → literal_right l ≡ true → Room
  unfolding code_literal pool_literal
  room_by null k few h b r =
      let w = (holds_head P q _ _ h).1 in let i = holds_in P q _ h in
      record { two_bytes = i; of_integer_lem = λ e. absurd (omega arith); of_float_lem = λ e. absurd (omega arith); of_text_lem = λ e. absurd (omega arith) }
  room_by (boolean t) k few h b r =
      let w = (holds_head P q _ _ h).1 in let i = holds_in P q _ h in
      record { two_bytes = i; of_integer_lem = λ e. absurd (omega arith); of_float_lem = λ e. absurd (omega arith); of_text_lem = λ e. absurd (omega arith) }
  room_by (integer z) k few h b r =
      let w = (holds_head P q _ _ h).1 in
      let v = (tail_eight 0x10 (unsigned64 z) (integer_small z r).0 h).0 in
      record { two_bytes = omega arith; of_integer_lem = λ e. v; of_float_lem = λ e. absurd (omega arith); of_text_lem = λ e. absurd (omega arith) }
  room_by (float n) k few h b r =
      let w = (holds_head P q _ _ h).1 in
      let v = tail_eight 0x11 n (float_small n r).0 h in
      let v0 = v.0 in
      record { two_bytes = omega arith; of_integer_lem = λ e. absurd (omega arith); of_float_lem = λ e. (v.0, ap is_finite v.1 ∙ (float_small n r).1); of_text_lem = λ e. absurd (omega arith) }
  room_by (text s) k few h b r =
      let w = text_kind s k h in
      let u = pooled_at P L q k 0x12 s few h b in
      let v = u.bound in
      record { two_bytes = omega arith; of_integer_lem = λ e. absurd (omega arith); of_float_lem = λ e. absurd (omega arith); of_text_lem = λ e. v }

  pub literal_room : AskValue P L q → Room
  literal_room a = room_by a.l a.k a.few a.holds a.pool a.right

  -- ---- an integer, a float, a text, a constant

  pub done_integer : get_or P q 0 ≡ 0x10 → (z : ℤ) → z ≡ signed64 (number (part P (q + 1) 8)) → (l : Literal) (k : ℕ) → Holds P q (code_literal l k) → Holds L k (pool_literal l) → literal_right l ≡ true → ValueOf L (Int z) l
  unfolding code_literal pool_literal literal_value
  done_integer e z w null k h b r = let u = (holds_head P q _ _ h).1 in absurd (omega arith)
  done_integer e z w (boolean t) k h b r = let u = (holds_head P q _ _ h).1 in absurd (omega arith)
  done_integer e z w (integer y) k h b r =
      let h1 = holds_tail P q 0x10 (eight y) h in
      let v = signed_at P (q + 1) y [] (integer_small y r).1 (subst (Holds P (q + 1)) (sym (append-nil (eight y))) h1) in
      record { means = λ S X. ap Value.integer (w ∙ v); fine = λ S X. tt }
  done_integer e z w (float n) k h b r = let u = (holds_head P q _ _ h).1 in absurd (omega arith)
  done_integer e z w (text s) k h b r = let u = text_kind s k h in absurd (omega arith)

  pub done_float : get_or P q 0 ≡ 0x11 → (x : Floating) → x ≡ of_bits binary64 (number (part P (q + 1) 8)) → (l : Literal) (k : ℕ) → Holds P q (code_literal l k) → Holds L k (pool_literal l) → literal_right l ≡ true → ValueOf L (Float x) l
  unfolding code_literal pool_literal literal_value
  done_float e x w null k h b r = let u = (holds_head P q _ _ h).1 in absurd (omega arith)
  done_float e x w (boolean t) k h b r = let u = (holds_head P q _ _ h).1 in absurd (omega arith)
  done_float e x w (integer y) k h b r = let u = (holds_head P q _ _ h).1 in absurd (omega arith)
  done_float e x w (float n) k h b r =
      let f = float_small n r in
      let v = w ∙ ap (of_bits binary64) (tail_eight 0x11 n f.0 h).1 in
      record { means = λ S X. ap Value.float v; fine = λ S X. subst (λ (y : Floating). T (finite y)) (sym v) (bits_finite n f.1) }
  done_float e x w (text s) k h b r = let u = text_kind s k h in absurd (omega arith)

  pub done_text : length L ≤ max_plan → get_or P q 0 ≡ 0x12 → (a n : ℕ) → a ≡ number (part P (q + 1) 2) → n ≡ number (part P (q + 3) 2) → (l : Literal) (k : ℕ) → Holds P q (code_literal l k) → Holds L k (pool_literal l) → literal_right l ≡ true → ValueOf L (Pool a n) l
  unfolding code_literal pool_literal literal_value literal_right
  done_text few e a n u v null k h b r = let w = (holds_head P q _ _ h).1 in absurd (omega arith)
  done_text few e a n u v (boolean t) k h b r = let w = (holds_head P q _ _ h).1 in absurd (omega arith)
  done_text few e a n u v (integer y) k h b r = let w = (holds_head P q _ _ h).1 in absurd (omega arith)
  done_text few e a n u v (float y) k h b r = let w = (holds_head P q _ _ h).1 in absurd (omega arith)
  done_text few e a n u v (text s) k h b r =
      let w = pooled_at P L q k 0x12 s few h b in
      let i = w.inside in
      let ea : a ≡ k = u ∙ w.start in
      let en : n ≡ length s = v ∙ w.size in
      record { means = λ S X. ap (λ (z : ℕ). Value.text (part L z n)) ea ∙ ap (λ (z : ℕ). Value.text (part L k z)) en ∙ ap Value.text w.bytes; fine = λ S X. (omega arith, rw (ea, en, w.bytes) r) }

  pub done_constant : (get_or P q 0 ≡ 0x10 → ⊥) → (get_or P q 0 ≡ 0x11 → ⊥) → (get_or P q 0 ≡ 0x12 → ⊥) → (o : Operand) → o ≡ constant_of (get_or P (q + 1) 0) → (l : Literal) (k : ℕ) → Holds P q (code_literal l k) → Holds L k (pool_literal l) → literal_right l ≡ true → ValueOf L o l
  unfolding code_literal pool_literal literal_value
  done_constant n0 n1 n2 o w null k h b r =
      let v = (holds_head P (q + 1) _ _ (holds_tail P q _ _ h)).1 in
      let e : o ≡ Null = w ∙ ap constant_of v in
      record { means = λ S X. ap (meaning S X L) e; fine = λ S X. subst (Fine S X L) (sym e) tt }
  done_constant n0 n1 n2 o w (boolean true) k h b r =
      let v = (holds_head P (q + 1) _ _ (holds_tail P q _ _ h)).1 in
      let e : o ≡ Bool true = w ∙ ap constant_of v in
      record { means = λ S X. ap (meaning S X L) e; fine = λ S X. subst (Fine S X L) (sym e) tt }
  done_constant n0 n1 n2 o w (boolean false) k h b r =
      let v = (holds_head P (q + 1) _ _ (holds_tail P q _ _ h)).1 in
      let e : o ≡ Bool false = w ∙ ap constant_of v in
      record { means = λ S X. ap (meaning S X L) e; fine = λ S X. subst (Fine S X L) (sym e) tt }
  done_constant n0 n1 n2 o w (integer y) k h b r = absurd (n0 (holds_head P q _ _ h).1)
  done_constant n0 n1 n2 o w (float y) k h b r = absurd (n1 (holds_head P q _ _ h).1)
  done_constant n0 n1 n2 o w (text s) k h b r = absurd (n2 (text_kind s k h))

-- ---- names and indices

found_member : (S X : List ℕ) (r : Option ℕ) → found (member_of S X r) ≡ member_nodes S X r
unfolding found
found_member S X (Some m) = refl
found_member S X None = refl

module _ {P L S X : List ℕ} {p i : ℕ} (a : AskOne P L S X p i 5 5) where
  kind_name : get_or P p 0 ≡ 5
  kind_name = let u = a.kind_low in let v = a.kind_high in omega arith

  name_here : (x : Selector) (k : ℕ) → SelectorAt P L p k x → Named P L p k x
  name_here x k at = is_name P L a.few_p a.few_l p k x at kind_name

  pub name_asked : Named P L p a.k a.x
  name_asked = name_here a.x a.k a.at

  pub name_else : (kind_at S i ≡ kind_map → ⊥) → DoneOne P L S X p i None
  unfolding eval_selector lookup found
  name_else n =
      record {
        selects = λ x k R at.
            let d = name_here x k at in
            ap (λ (y : Selector). eval_selector y R (node_at S X i)) d.made ∙ ap (λ (ks : Kids). found (lookup d.s ks)) (members_none S X a.tab i a.node_in n);
        inside = λ m z. let q : ◌≡◌ {A = ℕ} 0 1 = cc in absurd (omega arith);
        deeper = λ m z. let q : ◌≡◌ {A = ℕ} 0 1 = cc in absurd (omega arith);
        low = λ m z. let q : ◌≡◌ {A = ℕ} 0 1 = cc in absurd (omega arith);
      }

  module _ (m : kind_at S i ≡ kind_map) (j c : ℕ) (ej : j ≡ low_word S i) (ec : c ≡ child_count S i) where
    member_range : Range S i j c
    member_range = range_of_lem S X a.tab i a.node_in j c ej ec

    pub name_members : Members S X j c
    name_members = members_of S X a.tab i a.node_in m j c member_range

    pub name_found : (b n : ℕ) → b ≡ number (part P (p + 1) 2) → n ≡ number (part P (p + 3) 2) → (r : Option ℕ) → Looked S X j c (part L b n) r → DoneOne P L S X p i r
    unfolding eval_selector
    name_found b n u v r l =
        record {
          selects = λ x k R at.
              let d = name_here x k at in
              let w = d.stands in
              let s : part L b n ≡ d.s = ap (λ (z : ℕ). part L z n) (u ∙ w.start) ∙ ap (λ (z : ℕ). part L k z) (v ∙ w.size) ∙ w.bytes in
              ap (λ (y : Selector). eval_selector y R (node_at S X i)) d.made
              ∙ ap (λ (ks : Kids). found (lookup d.s ks)) (members_map S X a.tab i a.node_in m ∙ sym (kids_at_lem S X a.tab i a.node_in j c member_range))
              ∙ ap (λ (z : List ℕ). found (lookup z (kids S X j c))) (sym s)
              ∙ ap found l.is ∙ found_member S X r;
          inside = λ t z. let b = subst (Between j c) z l.inside in let b1 = b.1 in let b0 = b.0 in omega (arith, range_in S X a.tab i a.node_in j c member_range (omega arith));
          deeper = λ t z.
              let b = subst (Between j c) z l.inside in
              let b1 = b.1 in
              let b0 = b.0 in
              let e : j + (t - j) ≡ t = omega arith in
              subst (λ (m : ℕ). depth_at S m ≡ depth_at S i + 1) e (child_at S X a.tab i a.node_in j c member_range (t - j) (omega arith)).1;
          low = λ t z. let b0 = (subst (Between j c) z l.inside).0 in omega arith;
        }

one_pick : (S X : List ℕ) (j c t : ℕ) → t < c → pick (t ∷ []) (nodes S X j c) ≡ node_at S X (j + t) ∷ []
unfolding pick
one_pick S X j c t l = append-nil (take 1 (drop t (nodes S X j c))) ∙ nodes_one S X j c t l

no_pick : (S X : List ℕ) (j c : ℕ) → pick [] (nodes S X j c) ≡ []
unfolding pick
no_pick S X j c = refl

module _ {P L S X : List ℕ} {p i : ℕ} (a : AskOne P L S X p i 6 6) where
  kind_index : get_or P p 0 ≡ 6
  kind_index = let u = a.kind_low in let v = a.kind_high in omega arith

  index_here : (x : Selector) (k : ℕ) → SelectorAt P L p k x → Indexed P p k x
  index_here x k at = is_index P L a.few_p a.few_l p k x at kind_index

  pub index_asked : Indexed P p a.k a.x
  index_asked = index_here a.x a.k a.at

  pub index_inside : in_range (signed64 (number (part P (p + 1) 8))) ≡ true
  index_inside = ap in_range index_asked.value ∙ index_asked.inside

  pub few_children : child_count S i ≤ max_nodes
  few_children = omega (arith, a.tab.inside i a.node_in, a.tab.size.few)

  no_index : (z : ℤ) (R : Json) → (kind_at S i ≡ kind_list → ⊥) → eval_selector (index z) R (node_at S X i) ≡ []
  unfolding eval_selector
  no_index z R n = ap (pick (index_places (length (elements (node_at S X i))) z)) (elements_none S X a.tab i a.node_in n) ∙ pick_nothing (index_places (length (elements (node_at S X i))) z)

  pub index_else : (kind_at S i ≡ kind_list → ⊥) → DoneOne P L S X p i None
  index_else n =
      record {
        selects = λ x k R at. let d = index_here x k at in ap (λ (y : Selector). eval_selector y R (node_at S X i)) d.made ∙ no_index d.z R n;
        inside = λ m z. let q : ◌≡◌ {A = ℕ} 0 1 = cc in absurd (omega arith);
        deeper = λ m z. let q : ◌≡◌ {A = ℕ} 0 1 = cc in absurd (omega arith);
        low = λ m z. let q : ◌≡◌ {A = ℕ} 0 1 = cc in absurd (omega arith);
      }

  module _ (j c : ℕ) (ej : j ≡ low_word S i) (ec : c ≡ child_count S i) (z : ℤ) (o : Option ℕ) (l : place_list o ≡ index_places c z) where
    element_range : Range S i j c
    element_range = range_of_lem S X a.tab i a.node_in j c ej ec

    -- what every index there selects of a list, by the place that it has
    index_pick : (y : ℤ) (R : Json) → kind_at S i ≡ kind_list → eval_selector (index y) R (node_at S X i) ≡ pick (index_places c y) (nodes S X j c)
    unfolding eval_selector
    index_pick y R m =
        let e = elements_at S X a.tab i a.node_in j c element_range m in
        ap (λ (n : ℕ). pick (index_places n y) (elements (node_at S X i))) (ap length e ∙ length_nodes S X j c) ∙ ap (pick (index_places c y)) e

    index_places_lem : kind_at S i ≡ kind_list → z ≡ signed64 (number (part P (p + 1) 8)) → (x : Selector) (k : ℕ) (R : Json) → SelectorAt P L p k x → eval_selector x R (node_at S X i) ≡ pick (place_list o) (nodes S X j c)
    index_places_lem m w x k R at =
        let d = index_here x k at in
        ap (λ (y : Selector). eval_selector y R (node_at S X i)) d.made
        ∙ index_pick d.z R m
        ∙ ap (λ (y : ℤ). pick (index_places c y) (nodes S X j c)) (sym (w ∙ d.value))
        ∙ ap (λ (ks : List ℕ). pick ks (nodes S X j c)) (sym l)

    -- the element that an index selects is a node
    element_in : (t : ℕ) → o ≡ Some t → j + t < node_count S
    element_in t u = (child_at S X a.tab i a.node_in j c element_range t (index_at c z o t l u)).0

    pub index_room : (t : ℕ) → o ≡ Some t → j + t < max_nodes
    index_room t u = omega (arith, element_in t u, a.tab.size.few)

    pub index_found : kind_at S i ≡ kind_list → z ≡ signed64 (number (part P (p + 1) 8)) → (t : ℕ) → o ≡ Some t → DoneOne P L S X p i (Some (j + t))
    index_found m w t u =
        record {
          selects = λ x k R at. index_places_lem m w x k R at ∙ ap (λ (ks : List ℕ). pick ks (nodes S X j c)) (at_means o t u) ∙ one_pick S X j c t (index_at c z o t l u);
          inside = λ k y. let q : j + t ≡ k = cc in let v = element_in t u in omega arith;
          deeper = λ k y. let q : j + t ≡ k = cc in subst (λ (m : ℕ). depth_at S m ≡ depth_at S i + 1) q (child_at S X a.tab i a.node_in j c element_range t (index_at c z o t l u)).1;
          low = λ k y. let q : j + t ≡ k = cc in omega arith;
        }

    pub index_nothing : kind_at S i ≡ kind_list → z ≡ signed64 (number (part P (p + 1) 8)) → o ≡ None → DoneOne P L S X p i None
    index_nothing m w u =
        record {
          selects = λ x k R at. index_places_lem m w x k R at ∙ ap (λ (ks : List ℕ). pick ks (nodes S X j c)) (nothing_means o u) ∙ no_pick S X j c;
          inside = λ k y. let q : ◌≡◌ {A = ℕ} 0 1 = cc in absurd (omega arith);
          deeper = λ k y. let q : ◌≡◌ {A = ℕ} 0 1 = cc in absurd (omega arith);
          low = λ k y. let q : ◌≡◌ {A = ℕ} 0 1 = cc in absurd (omega arith);
        }
