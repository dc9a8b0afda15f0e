-- The steps to a node of an accepted table find that node alone. Assumes nothing.
use Prim.Native.Nat.{ℕ, zero, suc, ◌+◌, ◌-◌, ◌≤◌, ◌<◌}
use Rattle.std.specs.Prelude.{◌≡◌, Bool, true, false, cond, eqb, pos}
use Rattle.std.proofs.Math.Path.{refl, ap}
use Rattle.std.proofs.Common.{sym, ◌∙◌, subst, arith, eqb-true, lt-ltb}
use mathlib.Core.List.{List, [], ◌∷◌}
use Rattle.std.proofs.Math.Option.{Option, none, some}
use Rattle.std.proofs.lemmas.Bool.{eqb-false}
use Rattle.definition.specs.Bytes.{same_bytes}
use Rattle.definition.specs.Values.{Json, lookup}
use Rattle.definition.specs.Tables.{node_count, kind_at, kind_list, kind_map, child_count, first_child, key_bytes, parent_below, node_at, tree}
use Rattle.definition.specs.Slices.{index_places, element_at, add_once}
use Rattle.definition.specs.Forms.Start.{root}
use Rattle.definition.specs.Forms.Query.{query}
use Rattle.definition.specs.Forms.Selector.{name, index}
use Rattle.definition.specs.Evaluation.{flat, pick, found, eval_query, eval_segments, eval_selectors, eval_selector, selected}
use Rattle.table_laws.specs.Counts.{counts_next}
use Rattle.table_laws.specs.Parents.{InRange, parent_is, parent_some}
use Rattle.table_laws.specs.Rights.{count_other}
use Rattle.table_laws.specs.Accepted.{Accepted}
use Rattle.table_laws.specs.Nodes.{kids, nodes_one, length_nodes, elements_list, members_map, id_node, lookup_first, lookup_next}
use Rattle.definition.specs.Paths.{Step, step_at, steps_up, steps_to, step_form, steps_form, form_of}
use Rattle.definition.specs.Paths.Step.{named, placed}
use Rattle.definition_bytes.specs.Same.{same_self}

-- a key that differs from all before it in a range finds its own node
lookup_own : (T X : List ℕ) (j c k : ℕ) → k < c → ((m : ℕ) → m < k → same_bytes (key_bytes T X (j + m)) (key_bytes T X (j + k)) ≡ false)
    → lookup (key_bytes T X (j + k)) (kids T X j c) ≡ some (node_at T X (j + k))
lookup_own T X j c zero l h =
    let e : j + 0 ≡ j = omega arith in
    rw e (lookup_first T X (key_bytes T X j) j c l (same_self (key_bytes T X j)))
lookup_own T X j c (suc k) l h =
    let e : j + 0 ≡ j = omega arith in
    let d : j + 1 + k ≡ j + suc k = omega arith in
    let first : same_bytes (key_bytes T X j) (key_bytes T X (j + suc k)) ≡ false = rw e at (h 0 (omega arith)) in
    let step : (m : ℕ) → m < k → same_bytes (key_bytes T X (j + 1 + m)) (key_bytes T X (j + 1 + k)) ≡ false =
    λ m ml. let f : j + suc m ≡ j + 1 + m = omega arith in subst (λ (x : ℕ). same_bytes (key_bytes T X x) (key_bytes T X (j + 1 + k)) ≡ false) f (subst (λ (x : ℕ). same_bytes (key_bytes T X (j + suc m)) (key_bytes T X x) ≡ false) (sym d) (h (suc m) (omega arith))) in
    let ih = lookup_own T X (j + 1) (c - 1) k (omega arith) step in
    sym (lookup_next T X (key_bytes T X (j + suc k)) j c (omega arith) first)
    ∙ subst (λ (x : ℕ). lookup (key_bytes T X x) (kids T X (j + 1) (c - 1)) ≡ some (node_at T X x)) d ih

-- an index below the length of a list is the place that it selects
pub index_place : (n k : ℕ) → k < n → index_places n (pos k) ≡ k ∷ []
unfolding index_places element_at add_once
index_place n k l = rw (lt-ltb k n l)

module _ (T X : List ℕ) (a : Accepted T X) where
  -- the step to the k-th child of a map finds it
  step_member : (p : ℕ) → p < node_count T → kind_at T p ≡ kind_map → (k : ℕ) → k < child_count T p → (r : Json)
      → eval_selector (name (key_bytes T X (first_child T p + k))) r (node_at T X p) ≡ node_at T X (first_child T p + k) ∷ []
  unfolding eval_selector found
  step_member p l m k c r =
      rw (members_map T X a p l m, lookup_own T X (first_child T p) (child_count T p) k c (λ j jk. a.apart p l m j k jk c))

  -- the step to the k-th child of a list finds it
  step_element : (p : ℕ) → p < node_count T → kind_at T p ≡ kind_list → (k : ℕ) → k < child_count T p → (r : Json)
      → eval_selector (index (pos k)) r (node_at T X p) ≡ node_at T X (first_child T p + k) ∷ []
  unfolding eval_selector pick
  step_element p l m k c r =
      rw (elements_list T X a p l m, length_nodes T X (first_child T p) (child_count T p), index_place (child_count T p) k c, nodes_one T X (first_child T p) (child_count T p) k c)

  -- the step from a node to its child finds it
  step_finds : (p i : ℕ) → p < node_count T → InRange T p i → (r : Json) → eval_selector (step_form (step_at T X p i)) r (node_at T X p) ≡ node_at T X i ∷ []
  unfolding step_form step_at
  step_finds p i l g r = by (eqb (kind_at T p) kind_map) refl
    where
      k : ℕ
      k = i - first_child T p

      below : k < child_count T p
      below = let s = counts_next T p in let u = g.above in let v = g.within in omega arith

      is : first_child T p + k ≡ i
      is = let u = g.above in omega arith

      by : (b : Bool) → eqb (kind_at T p) kind_map ≡ b → eval_selector (step_form (cond b (named (key_bytes T X i)) (placed (i - first_child T p)))) r (node_at T X p) ≡ node_at T X i ∷ []
      by true e = subst (λ (x : ℕ). eval_selector (name (key_bytes T X x)) r (node_at T X p) ≡ node_at T X x ∷ []) is (step_member p l (eqb-true (kind_at T p) kind_map e) k below r)
      by false e =
          let m = eqb-false (kind_at T p) kind_map e in
          let isList : kind_at T p ≡ kind_list = listed m in
          step_element p l isList k below r ∙ ap (λ (x : ℕ). node_at T X x ∷ []) is
        where
          listed : (kind_at T p ≡ kind_map → ⊥) → kind_at T p ≡ kind_list
          listed m = go (eqb (kind_at T p) kind_list) refl
            where
              go : (x : Bool) → eqb (kind_at T p) kind_list ≡ x → kind_at T p ≡ kind_list
              go true f = eqb-true (kind_at T p) kind_list f
              go false f = let z = count_other T p (eqb-false (kind_at T p) kind_list f) m in let w = below in absurd (omega arith)

  -- one step more, in front of the steps behind it
  step_more : (p i : ℕ) → p < node_count T → InRange T p i → (ss : List Step) (r : Json)
      → eval_segments (steps_form (step_at T X p i ∷ ss)) r (node_at T X p ∷ []) ≡ eval_segments (steps_form ss) r (node_at T X i ∷ [])
  unfolding steps_form eval_segments eval_selectors flat
  step_more p i l g ss r = rw (step_finds p i l g r)

  -- the steps to a node, and then those behind it
  steps_up_lem : (f i : ℕ) → i ≤ f → i < node_count T → (ss : List Step) (r : Json)
      → eval_segments (steps_form (steps_up f T X i ss)) r (node_at T X 0 ∷ []) ≡ eval_segments (steps_form ss) r (node_at T X i ∷ [])
  unfolding steps_up parent_below
  steps_up_lem zero zero h l ss r = refl
  steps_up_lem zero (suc i) h l ss r = absurd (omega arith)
  steps_up_lem (suc f) zero h l ss r = refl
  steps_up_lem (suc f) (suc i) h l ss r =
      let w = a.later (suc i) l in
      let q = parent_some T (suc i) (omega arith) (omega arith) in
      let p : ℕ = q.0 in
      let below = q.1 in
      let e = parent_is T p (suc i) q.1 q.2 in
      ap (λ (o : Option ℕ). eval_segments (steps_form (elim o [ none ↦ ss | some y ↦ steps_up f T X y (step_at T X y (suc i) ∷ ss) ])) r (node_at T X 0 ∷ [])) e
      ∙ steps_up_lem f p (omega arith) (omega arith) (step_at T X p (suc i) ∷ ss) r
      ∙ step_more p (suc i) (omega arith) q.2 ss r

  -- the steps to a node find that node alone
  pub steps_find : (i : ℕ) → i < node_count T → selected (form_of T X i) (tree T X) ≡ i ∷ []
  unfolding selected form_of steps_to eval_query eval_segments steps_form tree
  steps_find i l = rw (steps_up_lem i i (omega arith) l [] (node_at T X 0), id_node T X a i l)

-- nodes of one table to which the same steps lead are one node
pub steps_differ : (T X : List ℕ) → Accepted T X → (i j : ℕ) → i < node_count T → j < node_count T → steps_to T X i ≡ steps_to T X j → i ≡ j
unfolding form_of
steps_differ T X a i j l m e =
    let s : selected (form_of T X i) (tree T X) ≡ selected (form_of T X j) (tree T X) = ap (λ (ss : List Step). selected (query root (steps_form ss)) (tree T X)) e in
    let t : i ∷ [] ≡ j ∷ [] = sym (steps_find T X a i l) ∙ s ∙ steps_find T X a j m in
    cc
