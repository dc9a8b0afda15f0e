-- The steps of evaluation's loops, over plain variables: what is left to do gives the whole. Assumes nothing.
use Rattle.std.specs.Prelude.{ℕ, zero, suc, ◌+◌, ◌*◌, ◌-◌, ◌≤◌, ◌<◌, ◌≡◌, refl, Bool, true, false, cond, length, take, drop, ℤ}
use Rattle.std.proofs.Math.Path.{sym, ap}
use Rattle.std.proofs.Common.{◌∙◌, subst}
use mathlib.Core.List.{List, [], ◌∷◌, ◌++◌, append-nil, append_assoc}
use Rattle.std.proofs.Math.Option.{Option, none, some}
use native.Mathlib.Omega.{arith}
use Rattle.definition.specs.Values.{Json, Kids, lookup, children, elements, members, descend}
use Rattle.definition.specs.Values.Kids.{nil, more}
use Rattle.definition.specs.Tables.{node_at, node_count, kind_at, kind_list, kind_map, first_child, child_count, depth_at}
use Rattle.definition.specs.Slices.{index_places, slice_places}
use Rattle.definition.specs.Forms.{Segments, Selectors, Selector, Test}
use Rattle.definition.specs.Forms.Segments.{end, child, descendant}
use Rattle.definition.specs.Forms.Selectors.{one, and}
use Rattle.definition.specs.Forms.Selector.{name, index, slice, wildcard, filter}
use Rattle.definition.specs.Evaluation.{flat, keep, pick, found, eval_segments, eval_selectors, eval_selector, eval_test}
use Rattle.table_laws.specs.Accepted.{Accepted}
use Rattle.eval_laws.specs.States.{State, st, push}
use Rattle.eval_laws.specs.Segments.{flat_append, flat_flat, segments_child, segments_descendant, descend_children}
use Rattle.table_laws.specs.Nodes.{nodes, kids, kids_at, nodes_more, nodes_none, nodes_one, length_nodes, children_nodes, child_in, elements_list, elements_none, members_map, members_none, lookup_none}
use Rattle.eval_laws.specs.Emits.{go, go_nil, go_append, go_full, go_bound, go_length, go_end}

-- what is emitted for the nodes that h gives of each of c nodes from j on
unfoldable pub span : Segments → Json → (Json → List Json) → List ℕ → List ℕ → ℕ → ℕ → State → State
span f R h T X j c s = go f R (flat h (nodes T X j c)) s

module _ (f : Segments) (R : Json) (h : Json → List Json) (T X : List ℕ) where
  pub span_start : (j c : ℕ) (s : State) → span f R h T X (j + 0) (c - 0) s ≡ span f R h T X j c s
  span_start j c s =
      let a : j + 0 ≡ j = omega arith in
      let b : c - 0 ≡ c = omega arith in
      rw (a, b)

  span_step : (j c i : ℕ) (s s' : State) → i < c → s' ≡ go f R (h (node_at T X (j + i))) s
      → span f R h T X (j + (i + 1)) (c - (i + 1)) s' ≡ span f R h T X (j + i) (c - i) s
  unfolding span flat
  span_step j c i s s' l e =
      let l0 : 0 < c - i = omega arith in
      let a : j + (i + 1) ≡ j + i + 1 = omega arith in
      let b : c - (i + 1) ≡ c - i - 1 = omega arith in
      ap (λ (x : State). go f R (flat h (nodes T X (j + (i + 1)) (c - (i + 1)))) x) e
      ∙ ap (λ (x : ℕ). go f R (flat h (nodes T X x (c - (i + 1)))) (go f R (h (node_at T X (j + i))) s)) a
      ∙ ap (λ (x : ℕ). go f R (flat h (nodes T X (j + i + 1) x)) (go f R (h (node_at T X (j + i))) s)) b
      ∙ sym (go_append f R (h (node_at T X (j + i))) (flat h (nodes T X (j + i + 1) (c - i - 1))) s)
      ∙ ap (λ (x : List Json). go f R (flat h x) s) (sym (nodes_more T X (j + i) (c - i) l0))

  span_end : (j c i : ℕ) (s : State) → c ≤ i → span f R h T X (j + i) (c - i) s ≡ s
  unfolding span flat
  span_end j c i s l = ap (λ (x : List Json). go f R (flat h x) s) (nodes_none T X (j + i) (c - i) (omega arith)) ∙ go_nil f R s

  span_full : (j c : ℕ) (s : State) → s.next ≡ s.cap + 1 → length s.places ≤ s.cap + 1 → span f R h T X j c s ≡ s
  unfolding span
  span_full j c s e w = go_full f R (flat h (nodes T X j c)) s e w

  -- a loop over children: the three ways in which what is left to do becomes all that was to do
  pub full_done : (j c m : ℕ) (l : List ℕ) (a : ℕ) (Y : State) → m < a → a ≤ m + 1 → length l ≤ m + 1 → span f R h T X j c (st m l a) ≡ Y → st m l a ≡ Y
  full_done j c m l a Y u v w e = sym (span_full j c (st m l a) (omega arith) w) ∙ e

  pub end_done : (j c i : ℕ) (s Y : State) → c ≤ i → span f R h T X (j + i) (c - i) s ≡ Y → s ≡ Y
  end_done j c i s Y u e = sym (span_end j c i s u) ∙ e

  pub step_done : (j c i : ℕ) (s s' Y : State) → i < c → s' ≡ go f R (h (node_at T X (j + i))) s → span f R h T X (j + i) (c - i) s ≡ Y
      → span f R h T X (j + (i + 1)) (c - (i + 1)) s' ≡ Y
  step_done j c i s s' Y u d e = span_step j c i s s' u d ∙ e

-- ---- the three ways to go over children: each, those that a test keeps, all below each

abbrev pub one_of : Json → List Json
one_of n = n ∷ []

abbrev pub kept : Test → Json → Json → List Json
kept t R n = cond (eval_test t R n) (n ∷ []) []

abbrev pub below : Selectors → Json → Json → List Json
below ss R n = flat (λ m. eval_selectors ss R m) (descend n)

flat_one : (xs : List Json) → flat one_of xs ≡ xs
unfolding flat
flat_one [] = refl
flat_one (x ∷ xs) = ap (λ (l : List Json). x ∷ l) (flat_one xs)

keep_cond : (x : Json) (b : Bool) (l m : List Json) → l ≡ m → cond b (x ∷ []) [] ++ l ≡ cond b (x ∷ m) m
keep_cond x true l m e = ap (λ (k : List Json). x ∷ k) e
keep_cond x false l m e = e

flat_kept : (t : Test) (R : Json) (xs : List Json) → flat (kept t R) xs ≡ keep (λ k. eval_test t R k) xs
unfolding flat keep
flat_kept t R [] = refl
flat_kept t R (x ∷ xs) = keep_cond x (eval_test t R x) (flat (kept t R) xs) (keep (λ k. eval_test t R k) xs) (flat_kept t R xs)

pub span_one : (f : Segments) (R : Json) (T X : List ℕ) (j c : ℕ) (s : State) → span f R one_of T X j c s ≡ go f R (nodes T X j c) s
unfolding span
span_one f R T X j c s = ap (λ (l : List Json). go f R l s) (flat_one (nodes T X j c))

pub span_kept : (f : Segments) (t : Test) (R : Json) (T X : List ℕ) (j c : ℕ) (s : State) → span f R (kept t R) T X j c s ≡ go f R (keep (λ k. eval_test t R k) (nodes T X j c)) s
unfolding span
span_kept f t R T X j c s = ap (λ (l : List Json). go f R l s) (flat_kept t R (nodes T X j c))

-- the node itself, and then all below each of its children
pub span_below : (f : Segments) (ss : Selectors) (R : Json) (T X : List ℕ) → Accepted T X → (i : ℕ) → i < node_count T → (s : State)
    → span f R (below ss R) T X (first_child T i) (child_count T i) (go f R (eval_selectors ss R (node_at T X i)) s) ≡ go f R (below ss R (node_at T X i)) s
unfolding span flat
span_below f ss R T X tab i h s =
    ap (λ (x : List Json). go f R (flat (below ss R) x) (go f R (eval_selectors ss R (node_at T X i)) s)) (sym (children_nodes T X tab i h))
    ∙ sym (go_append f R (eval_selectors ss R (node_at T X i)) (flat (below ss R) (children (node_at T X i))) s)
    ∙ ap (λ (x : List Json). go f R (eval_selectors ss R (node_at T X i) ++ x) s) (sym (flat_flat descend (λ m. eval_selectors ss R m) (children (node_at T X i))))
    ∙ ap (λ (x : List Json). go f R (flat (λ m. eval_selectors ss R m) x) s) (sym (descend_children (node_at T X i)))

pub kept_in : (f : Segments) (t : Test) (R N : Json) (s s' : State) → eval_test t R N ≡ true → s' ≡ go f R (N ∷ []) s → s' ≡ go f R (kept t R N) s
kept_in f t R N s s' e d = rw e d

pub kept_out : (f : Segments) (t : Test) (R N : Json) (s : State) → eval_test t R N ≡ false → s ≡ go f R (kept t R N) s
kept_out f t R N s e = rw e (sym (go_nil f R s))

-- ---- what a call leaves is a state again

pub done_bound : (f : Segments) (R : Json) (ns : List Json) (m : ℕ) (l l' : List ℕ) (a r : ℕ) → st m l' r ≡ go f R ns (st m l a) → a ≤ m + 1 → r ≤ m + 1
done_bound f R ns m l l' a r e h = let x = ap (λ (s : State). s.next) e in omega (arith, go_bound f R ns (st m l a) h)

pub done_length : (f : Segments) (R : Json) (ns : List Json) (m : ℕ) (l l' : List ℕ) (a r : ℕ) → st m l' r ≡ go f R ns (st m l a) → length l' ≡ length l
done_length f R ns m l l' a r e = ap (λ (s : State). length s.places) e ∙ go_length f R ns (st m l a)

-- ---- segments from one node

pub segment_child : (ss : Selectors) (q f : Segments) (R N : Json) (s : State) → f ≡ child ss q → go q R (eval_selectors ss R N) s ≡ go f R (N ∷ []) s
unfolding go
segment_child ss q f R N s e = rw e (rw segments_child)

pub segment_descendant : (ss : Selectors) (q f : Segments) (R N : Json) (s : State) → f ≡ descendant ss q → go q R (below ss R N) s ≡ go f R (N ∷ []) s
unfolding go
segment_descendant ss q f R N s e = rw e (rw segments_descendant)

pub segment_end : (T X : List ℕ) → Accepted T X → (f : Segments) (R : Json) (i : ℕ) → i < node_count T → (s : State) → f ≡ end → push i s ≡ go f R (node_at T X i ∷ []) s
segment_end T X tab f R i h s e = rw e (sym (go_end T X tab R i h s))

-- ---- selectors of a segment in turn

pub selectors_last : (f : Segments) (R N : Json) (rs : Selectors) (x : Selector) (s s' Y : State) → rs ≡ one x → s' ≡ go f R (eval_selector x R N) s
    → go f R (eval_selectors rs R N) s ≡ Y → s' ≡ Y
unfolding eval_selectors
selectors_last f R N rs x s s' Y e d w = d ∙ subst (λ (z : Selectors). go f R (eval_selectors z R N) s ≡ Y) e w

pub selectors_step : (f : Segments) (R N : Json) (rs others : Selectors) (x : Selector) (s s' Y : State) → rs ≡ and x others → s' ≡ go f R (eval_selector x R N) s
    → go f R (eval_selectors rs R N) s ≡ Y → go f R (eval_selectors others R N) s' ≡ Y
unfolding eval_selectors
selectors_step f R N rs others x s s' Y e d w =
    ap (go f R (eval_selectors others R N)) d ∙ sym (go_append f R (eval_selector x R N) (eval_selectors others R N) s) ∙ subst (λ (z : Selectors). go f R (eval_selectors z R N) s ≡ Y) e w

pub selectors_full : (f : Segments) (R N : Json) (rs : Selectors) (m : ℕ) (l : List ℕ) (a : ℕ) (Y : State) → m < a → a ≤ m + 1 → length l ≤ m + 1 → go f R (eval_selectors rs R N) (st m l a) ≡ Y → st m l a ≡ Y
selectors_full f R N rs m l a Y u v w e = sym (go_full f R (eval_selectors rs R N) (st m l a) (omega arith) w) ∙ e
