-- What each selector gives of a node, by the range of children that the code finds. Assumes nothing.
use Prim.Native.Nat.{ℕ, zero, suc, ◌+◌, ◌*◌, ◌-◌, ◌≤◌, ◌<◌}
use Rattle.std.specs.Prelude.{◌≡◌, refl, Bool, true, false, cond, length, take, drop, ℤ}
use Rattle.std.proofs.Math.Path.{sym, ap}
use Rattle.std.proofs.Common.{◌∙◌, subst, arith}
use mathlib.Core.List.{List, [], ◌∷◌, ◌++◌, append-nil}
use Rattle.std.proofs.Math.Option.{Option, none, some}
use Rattle.definition.specs.Values.{Json, Kids, lookup, children, elements, members}
use Rattle.definition.specs.Values.Kids.{nil, more}
use Rattle.definition.specs.Tables.{row, node_at, node_count, kind_at, kind_list, kind_map, low_word, first_child, child_count, depth_at}
use Rattle.definition.specs.Slices.{index_places, slice_places}
use Rattle.definition.specs.Forms.{Segments, Selectors, Selector, Test}
use Rattle.definition.specs.Forms.Selector.{name, index, slice, wildcard, filter}
use Rattle.definition.specs.Evaluation.{flat, keep, pick, found, eval_selectors, eval_selector, eval_test}
use Rattle.table_laws.specs.Accepted.{Accepted}
use Rattle.eval_laws.specs.States.{State, st}
use Rattle.table_laws.specs.Nodes.{nodes, kids, kids_at, nodes_none, nodes_one, length_nodes, children_nodes, child_in, elements_list, elements_none, members_map, members_none, lookup_none}
use Rattle.eval_laws.specs.Emits.{go, go_nil, go_append, go_full}
use Rattle.eval_laws.specs.Steps.{span, below, span_below}

-- j and c are where the children of node i begin and how many they are; where there are none, j is anything
pub record Range (T : List ℕ) (i j c : ℕ) : Type 0 where
  pub count : c ≡ child_count T i
  pub first : 0 < c → j ≡ first_child T i

-- the record of a node says its range
pub range_of_lem : (T X : List ℕ) → Accepted T X → (i : ℕ) → i < node_count T → (j c : ℕ) → j ≡ low_word T i → c ≡ child_count T i → Range T i j c
range_of_lem T X tab i h j c a b = record { count = b; first = λ l. a ∙ tab.first i h (omega arith) }

-- a loop over a slice's places: nothing is picked from no nodes
pub pick_nothing : (ks : List ℕ) → pick ks [] ≡ []
unfolding pick
pick_nothing [] = refl
pick_nothing (zero ∷ ks) = pick_nothing ks
pick_nothing (suc k ∷ ks) = pick_nothing ks

module _ (T X : List ℕ) (f : Segments) (R : Json) (j c : ℕ) where
  -- what is emitted for the nodes at some places of a range
  unfoldable pub picked : List ℕ → State → State
  picked ks s = go f R (pick ks (nodes T X j c)) s

  -- one place, and then the others
  pub picked_step : (k : ℕ) (ks : List ℕ) (s s' Y : State) → k < c → s' ≡ go f R (node_at T X (j + k) ∷ []) s → picked (k ∷ ks) s ≡ Y → picked ks s' ≡ Y
  unfolding picked pick
  picked_step k ks s s' Y l d w =
      ap (go f R (pick ks (nodes T X j c))) d
      ∙ sym (go_append f R (node_at T X (j + k) ∷ []) (pick ks (nodes T X j c)) s)
      ∙ ap (λ (x : List Json). go f R (x ++ pick ks (nodes T X j c)) s) (sym (nodes_one T X j c k l))
      ∙ w

  pub picked_end : (s Y : State) → picked [] s ≡ Y → s ≡ Y
  unfolding picked pick
  picked_end s Y w = sym (go_nil f R s) ∙ w

  pub picked_full : (ks : List ℕ) (m : ℕ) (l : List ℕ) (a : ℕ) (Y : State) → m < a → a ≤ m + 1 → length l ≤ m + 1 → picked ks (st m l a) ≡ Y → st m l a ≡ Y
  unfolding picked
  picked_full ks m l a Y u v w e = sym (go_full f R (pick ks (nodes T X j c)) (st m l a) (omega arith) w) ∙ e

module _ (T X : List ℕ) (tab : Accepted T X) (i : ℕ) (h : i < node_count T) (j c : ℕ) (r : Range T i j c) where
  nodes_by : (n : ℕ) → c ≡ n → nodes T X j c ≡ nodes T X (first_child T i) c
  nodes_by zero e = nodes_none T X j c e ∙ sym (nodes_none T X (first_child T i) c e)
  nodes_by (suc n) e = ap (λ (x : ℕ). nodes T X x c) (r.first (omega arith))

  nodes_at : nodes T X j c ≡ nodes T X (first_child T i) (child_count T i)
  nodes_at = nodes_by c refl ∙ ap (λ (x : ℕ). nodes T X (first_child T i) x) r.count

  kids_by : (n : ℕ) → c ≡ n → kids T X j c ≡ kids T X (first_child T i) c
  unfolding kids row
  kids_by zero e = rw e
  kids_by (suc n) e = ap (λ (x : ℕ). kids T X x c) (r.first (omega arith))

  pub kids_at_lem : kids T X j c ≡ kids_at T X i
  kids_at_lem = kids_by c refl ∙ ap (λ (x : ℕ). kids T X (first_child T i) x) r.count

  pub children_at : children (node_at T X i) ≡ nodes T X j c
  children_at = children_nodes T X tab i h ∙ sym nodes_at

  -- a child is a node, one deeper
  pub child_at : (k : ℕ) → k < c → (j + k < node_count T) × (depth_at T (j + k) ≡ depth_at T i + 1)
  child_at k l =
      let w = child_in T X tab i h k (omega (arith, r.count)) in
      let e : first_child T i + k ≡ j + k = omega (arith, r.first (omega arith)) in
      subst (λ (x : ℕ). (x < node_count T) × (depth_at T x ≡ depth_at T i + 1)) e w

  pub range_in : 0 < c → j + c ≤ node_count T
  range_in l = omega (arith, tab.inside i h, r.first l, r.count)

  pub elements_at : kind_at T i ≡ kind_list → elements (node_at T X i) ≡ nodes T X j c
  elements_at e = elements_list T X tab i h e ∙ sym nodes_at

  many_elements : kind_at T i ≡ kind_list → length (elements (node_at T X i)) ≡ c
  many_elements e = ap length (elements_at e) ∙ length_nodes T X j c

  module _ (f : Segments) (R : Json) (s : State) where
    pub select_wildcard : (x : Selector) → x ≡ wildcard → go f R (nodes T X j c) s ≡ go f R (eval_selector x R (node_at T X i)) s
    unfolding eval_selector
    select_wildcard x e = rw e (ap (λ (l : List Json). go f R l s) (sym children_at))

    pub select_filter : (x : Selector) (t : Test) → x ≡ filter t → go f R (keep (λ k. eval_test t R k) (nodes T X j c)) s ≡ go f R (eval_selector x R (node_at T X i)) s
    unfolding eval_selector
    select_filter x t e = rw e (ap (λ (l : List Json). go f R (keep (λ k. eval_test t R k) l) s) (sym children_at))

    -- an index: the element at its place, or none
    index_pick : (z : ℤ) → kind_at T i ≡ kind_list → eval_selector (index z) R (node_at T X i) ≡ pick (index_places c z) (nodes T X j c)
    unfolding eval_selector
    index_pick z e = ap (λ (n : ℕ). pick (index_places n z) (elements (node_at T X i))) (many_elements e) ∙ ap (pick (index_places c z)) (elements_at e)

    pub select_index : (x : Selector) (z : ℤ) (k : ℕ) → x ≡ index z → kind_at T i ≡ kind_list → k < c → index_places c z ≡ k ∷ [] → (s' : State) → s' ≡ go f R (node_at T X (j + k) ∷ []) s → s' ≡ go f R (eval_selector x R (node_at T X i)) s
    unfolding pick
    select_index x z k e m l p s' d =
        d ∙ ap (λ (w : List Json). go f R w s) (sym (append-nil (node_at T X (j + k) ∷ [])) ∙ ap (λ (w : List Json). w ++ []) (sym (nodes_one T X j c k l)) ∙ ap (λ (w : List ℕ). pick w (nodes T X j c)) (sym p) ∙ sym (index_pick z m))
        ∙ ap (λ (y : Selector). go f R (eval_selector y R (node_at T X i)) s) (sym e)

    pub select_no_index : (x : Selector) (z : ℤ) → x ≡ index z → kind_at T i ≡ kind_list → index_places c z ≡ [] → s ≡ go f R (eval_selector x R (node_at T X i)) s
    unfolding pick
    select_no_index x z e m p =
        sym (go_nil f R s) ∙ ap (λ (w : List Json). go f R w s) (ap (λ (w : List ℕ). pick w (nodes T X j c)) (sym p) ∙ sym (index_pick z m))
        ∙ ap (λ (y : Selector). go f R (eval_selector y R (node_at T X i)) s) (sym e)

    -- a slice: the elements at its places
    pub select_slice : (x : Selector) (a b d : Option ℤ) → x ≡ slice a b d → kind_at T i ≡ kind_list → (ks : List ℕ) → ks ≡ slice_places c a b d → picked T X f R j c ks s ≡ go f R (eval_selector x R (node_at T X i)) s
    unfolding eval_selector picked
    select_slice x a b d e m ks p =
        ap (λ (w : List ℕ). go f R (pick w (nodes T X j c)) s) p
        ∙ sym (ap (λ (w : List Json). go f R w s) (ap (λ (n : ℕ). pick (slice_places n a b d) (elements (node_at T X i))) (many_elements m) ∙ ap (pick (slice_places c a b d)) (elements_at m)))
        ∙ ap (λ (y : Selector). go f R (eval_selector y R (node_at T X i)) s) (sym e)

    -- neither selects anything of another node than a list
    pub select_index_else : (x : Selector) (z : ℤ) → x ≡ index z → (kind_at T i ≡ kind_list → ⊥) → s ≡ go f R (eval_selector x R (node_at T X i)) s
    unfolding eval_selector
    select_index_else x z e n = rw e (sym (ap (λ (w : List Json). go f R (pick (index_places (length (elements (node_at T X i))) z) w) s) (elements_none T X tab i h n) ∙ ap (λ (w : List Json). go f R w s) (pick_nothing (index_places (length (elements (node_at T X i))) z)) ∙ go_nil f R s))

    pub select_slice_else : (x : Selector) (a b d : Option ℤ) → x ≡ slice a b d → (kind_at T i ≡ kind_list → ⊥) → s ≡ go f R (eval_selector x R (node_at T X i)) s
    unfolding eval_selector
    select_slice_else x a b d e n = rw e (sym (ap (λ (w : List Json). go f R (pick (slice_places (length (elements (node_at T X i))) a b d) w) s) (elements_none T X tab i h n) ∙ ap (λ (w : List Json). go f R w s) (pick_nothing (slice_places (length (elements (node_at T X i))) a b d)) ∙ go_nil f R s))

    -- a name: the member of that name, or none
    pub select_name : (x : Selector) (k : List ℕ) (m : ℕ) → x ≡ name k → kind_at T i ≡ kind_map → lookup k (kids T X j c) ≡ some (node_at T X m) → (s' : State) → s' ≡ go f R (node_at T X m ∷ []) s → s' ≡ go f R (eval_selector x R (node_at T X i)) s
    unfolding eval_selector found
    select_name x k m e u p s' d =
        d ∙ ap (λ (o : Option Json). go f R (found o) s) (sym p ∙ ap (lookup k) (kids_at_lem ∙ sym (members_map T X tab i h u)))
        ∙ ap (λ (y : Selector). go f R (eval_selector y R (node_at T X i)) s) (sym e)

    pub select_no_name : (x : Selector) (k : List ℕ) → x ≡ name k → kind_at T i ≡ kind_map → lookup k (kids T X j c) ≡ none → s ≡ go f R (eval_selector x R (node_at T X i)) s
    unfolding eval_selector found
    select_no_name x k e u p =
        sym (go_nil f R s) ∙ ap (λ (o : Option Json). go f R (found o) s) (sym p ∙ ap (lookup k) (kids_at_lem ∙ sym (members_map T X tab i h u)))
        ∙ ap (λ (y : Selector). go f R (eval_selector y R (node_at T X i)) s) (sym e)

    pub select_name_else : (x : Selector) (k : List ℕ) → x ≡ name k → (kind_at T i ≡ kind_map → ⊥) → s ≡ go f R (eval_selector x R (node_at T X i)) s
    unfolding eval_selector found lookup
    select_name_else x k e n = rw e (sym (ap (λ (ks : Kids). go f R (found (lookup k ks)) s) (members_none T X tab i h n) ∙ go_nil f R s))

    -- a node and all below it
    pub descent_done : (ss : Selectors) (s' : State) → s' ≡ go f R (eval_selectors ss R (node_at T X i)) s → span f R (below ss R) T X j c s' ≡ go f R (below ss R (node_at T X i)) s
    unfolding span
    descent_done ss s' e = ap (span f R (below ss R) T X j c) e ∙ ap (λ (l : List Json). go f R (flat (below ss R) l) (go f R (eval_selectors ss R (node_at T X i)) s)) nodes_at ∙ span_below f ss R T X tab i h s
