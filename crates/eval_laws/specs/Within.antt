-- What a query selects are nodes of the table, each the one that its number says. Assumes nothing.
use Prim.Native.Nat.{ℕ, zero, suc, ◌+◌, ◌*◌, ◌-◌, ◌≤◌, ◌<◌}
use Rattle.std.specs.Prelude.{◌≡◌, refl, Bool, cond, length, take, drop}
use Rattle.std.proofs.Common.{sym, ap, ◌∙◌, subst, arith}
use mathlib.Core.List.{List, [], ◌∷◌, ◌++◌}
use Rattle.std.proofs.Math.Bool.{true, false}
use Rattle.std.proofs.Math.Option.{Option, none, some}
use Rattle.definition.specs.Bytes.{same_bytes}
use Rattle.definition.specs.Values.{Json, Kids, id_of, to_list, lookup, children, elements, members, descend, descend_all}
use Rattle.definition.specs.Values.Kids.{nil, more}
use Rattle.definition.specs.Tables.{node_at, node_count, first_child, child_count}
use Rattle.definition.specs.Slices.{index_places, slice_places}
use Rattle.definition.specs.Forms.{Segments, Selectors, Selector, Test}
use Rattle.definition.specs.Forms.Segments.{end, child, descendant}
use Rattle.definition.specs.Forms.Selectors.{one, and}
use Rattle.definition.specs.Forms.Selector.{name, index, slice, wildcard, filter}
use Rattle.definition.specs.Evaluation.{flat, keep, pick, found, eval_segments, eval_selectors, eval_selector, eval_test}
use Rattle.table_laws.specs.Accepted.{Accepted}
use Rattle.table_laws.specs.Nodes.{nodes, children_nodes, child_in, id_node}

-- j is a node of the table, the one that its number says
pub record In (T X : List ℕ) (j : Json) : Type 0 where
  pub below : id_of j < node_count T
  pub node : j ≡ node_at T X (id_of j)

unfoldable pub AllIn : List ℕ → List ℕ → List Json → Type 0
AllIn T X [] = Unit {0}
AllIn T X (x ∷ xs) = In T X x × AllIn T X xs

module _ (T X : List ℕ) where
  all_append : (xs ys : List Json) → AllIn T X xs → AllIn T X ys → AllIn T X (xs ++ ys)
  unfolding AllIn
  all_append [] ys a b = b
  all_append (x ∷ xs) ys a b = (a.0, all_append xs ys a.1 b)

  all_flat : (f : Json → List Json) → ((x : Json) → In T X x → AllIn T X (f x)) → (xs : List Json) → AllIn T X xs → AllIn T X (flat f xs)
  unfolding AllIn flat
  all_flat f g [] a = tt
  all_flat f g (x ∷ xs) a = all_append (f x) (flat f xs) (g x a.0) (all_flat f g xs a.1)

  keep_by : (x : Json) (b : Bool) (l : List Json) → In T X x → AllIn T X l → AllIn T X (cond b (x ∷ l) l)
  unfolding AllIn
  keep_by x true l a b = (a, b)
  keep_by x false l a b = b

  all_keep : (p : Json → Bool) (xs : List Json) → AllIn T X xs → AllIn T X (keep p xs)
  unfolding AllIn keep
  all_keep p [] a = tt
  all_keep p (x ∷ xs) a = keep_by x (p x) (keep p xs) a.0 (all_keep p xs a.1)

  all_drop : (k : ℕ) (xs : List Json) → AllIn T X xs → AllIn T X (drop k xs)
  unfolding AllIn
  all_drop zero [] a = a
  all_drop zero (x ∷ xs) a = a
  all_drop (suc k) [] a = a
  all_drop (suc k) (x ∷ xs) a = all_drop k xs a.1

  all_take : (k : ℕ) (xs : List Json) → AllIn T X xs → AllIn T X (take k xs)
  unfolding AllIn
  all_take zero [] a = tt
  all_take zero (x ∷ xs) a = tt
  all_take (suc k) [] a = tt
  all_take (suc k) (x ∷ xs) a = (a.0, all_take k xs a.1)

  all_pick : (ks : List ℕ) (xs : List Json) → AllIn T X xs → AllIn T X (pick ks xs)
  unfolding AllIn pick
  all_pick [] xs a = tt
  all_pick (k ∷ ks) xs a = all_append (take 1 (drop k xs)) (pick ks xs) (all_take 1 (drop k xs) (all_drop k xs a)) (all_pick ks xs a)

  found_cond : (b : Bool) (x : Json) (m : Option Json) → In T X x → AllIn T X (found m) → AllIn T X (found (cond b (some x) m))
  unfolding AllIn found
  found_cond true x m a b = (a, tt)
  found_cond false x m a b = b

  all_lookup : (k : List ℕ) (ks : Kids) → AllIn T X (to_list ks) → AllIn T X (found (lookup k ks))
  unfolding AllIn to_list lookup found
  all_lookup k nil a = tt
  all_lookup k (more h j ks) a = found_cond (same_bytes h k) j (lookup k ks) a.0 (all_lookup k ks a.1)

  all_members : (k : List ℕ) (x : Json) → AllIn T X (children x) → AllIn T X (found (lookup k (members x)))
  unfolding children members lookup found AllIn
  all_members k (Json.null i) a = tt
  all_members k (Json.boolean i b) a = tt
  all_members k (Json.integer i z) a = tt
  all_members k (Json.float i x) a = tt
  all_members k (Json.text i s) a = tt
  all_members k (Json.list i ks) a = tt
  all_members k (Json.map i ks) a = all_lookup k ks a

  all_elements : (x : Json) → AllIn T X (children x) → AllIn T X (elements x)
  unfolding children elements AllIn
  all_elements (Json.null i) a = tt
  all_elements (Json.boolean i b) a = tt
  all_elements (Json.integer i z) a = tt
  all_elements (Json.float i x) a = tt
  all_elements (Json.text i s) a = tt
  all_elements (Json.list i ks) a = a
  all_elements (Json.map i ks) a = tt

  module _ (tab : Accepted T X) where
    pub node_in : (i : ℕ) → i < node_count T → In T X (node_at T X i)
    node_in i h = record { below = rw (id_node T X tab i h) h; node = ap (node_at T X) (sym (id_node T X tab i h)) }

    all_nodes : (j c : ℕ) → ((k : ℕ) → k < c → j + k < node_count T) → AllIn T X (nodes T X j c)
    unfolding AllIn nodes
    all_nodes j zero h = tt
    all_nodes j (suc c) h =
        let h0 = h 0 (omega arith) in
        (node_in j (omega arith), all_nodes (j + 1) c (λ k l. let w = h (k + 1) (omega arith) in omega arith))

    all_children : (x : Json) → In T X x → AllIn T X (children x)
    all_children x a = rw a.node (rw (children_nodes T X tab (id_of x) a.below) (all_nodes (first_child T (id_of x)) (child_count T (id_of x)) (λ k l. (child_in T X tab (id_of x) a.below k l).0)))

    mutual
      unfolding AllIn children to_list descend

      all_descend : (x : Json) → In T X x → AllIn T X (descend x)
      all_descend (Json.null i) a = (a, tt)
      all_descend (Json.boolean i b) a = (a, tt)
      all_descend (Json.integer i z) a = (a, tt)
      all_descend (Json.float i x) a = (a, tt)
      all_descend (Json.text i s) a = (a, tt)
      all_descend (Json.list i ks) a = (a, all_below_lem ks (all_children (Json.list i ks) a))
      all_descend (Json.map i ks) a = (a, all_below_lem ks (all_children (Json.map i ks) a))

      all_below_lem : (ks : Kids) → AllIn T X (to_list ks) → AllIn T X (descend_all ks)
      all_below_lem nil a = tt
      all_below_lem (more k x ks) a = all_append (descend x) (descend_all ks) (all_descend x a.0) (all_below_lem ks a.1)

    all_selector : (s : Selector) (r x : Json) → In T X x → AllIn T X (eval_selector s r x)
    unfolding eval_selector
    all_selector (name k) r x a = all_members k x (all_children x a)
    all_selector (index z) r x a = all_pick (index_places (length (elements x)) z) (elements x) (all_elements x (all_children x a))
    all_selector (slice b e c) r x a = all_pick (slice_places (length (elements x)) b e c) (elements x) (all_elements x (all_children x a))
    all_selector wildcard r x a = all_children x a
    all_selector (filter t) r x a = all_keep (λ k. eval_test t r k) (children x) (all_children x a)

    all_selectors : (ss : Selectors) (r x : Json) → In T X x → AllIn T X (eval_selectors ss r x)
    unfolding eval_selectors
    all_selectors (one s) r x a = all_selector s r x a
    all_selectors (and s ss) r x a = all_append (eval_selector s r x) (eval_selectors ss r x) (all_selector s r x a) (all_selectors ss r x a)

    -- every node that segments select from nodes of the table is a node of the table
    pub all_segments : (q : Segments) (r : Json) (xs : List Json) → AllIn T X xs → AllIn T X (eval_segments q r xs)
    unfolding eval_segments
    all_segments end r xs a = a
    all_segments (child ss q) r xs a = all_segments q r (flat (λ n. eval_selectors ss r n) xs) (all_flat (λ n. eval_selectors ss r n) (λ x b. all_selectors ss r x b) xs a)
    all_segments (descendant ss q) r xs a = all_segments q r (flat (λ n. flat (λ m. eval_selectors ss r m) (descend n)) xs) (all_flat (λ n. flat (λ m. eval_selectors ss r m) (descend n)) (λ x b. all_flat (λ m. eval_selectors ss r m) (λ y d. all_selectors ss r y d) (descend x) (all_descend x b)) xs a)
