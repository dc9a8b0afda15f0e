-- The nodes of a range in turn, over plain variables: a step, the end, past the cap; the nodes' own numbers; what has nothing below it. Assumes nothing.
use Prim.Native.Nat.{ℕ, zero, suc, ◌+◌, ◌-◌, ◌≤◌, ◌<◌}
use Rattle.std.specs.Prelude.{◌≡◌, refl, length}
use Rattle.std.proofs.Math.Path.{sym, ap}
use Rattle.std.proofs.Common.{◌∙◌, subst}
use mathlib.Core.List.{List, [], ◌∷◌, ◌++◌}
use native.Mathlib.Omega.{arith}
use Rattle.definition.specs.Values.{Json, Kids, lookup, children, elements, descend}
use Rattle.definition.specs.Slices.{index_places, slice_places}
use Rattle.definition.specs.Forms.{Segments, Selectors, Selector}
use Rattle.definition.specs.Forms.Segments.{end}
use Rattle.definition.specs.Forms.Selectors.{one, and}
use Rattle.definition.specs.Forms.Selector.{name, index, slice, wildcard, filter}
use Rattle.definition.specs.Tables.{node_count, node_at, kind_at, kind_list, first_child, child_count}
use Rattle.definition.specs.Evaluation.{flat, keep, pick, found, eval_selectors, eval_selector, eval_test}
use Rattle.table_laws.specs.Accepted.{Accepted}
use Rattle.eval_laws.specs.States.{State, st, push, emit}
use Rattle.table_laws.specs.Nodes.{count_scalar, nodes_none, children_nodes, elements_none, members_none}
use Rattle.eval_laws.specs.Segments.{descend_children}
use Rattle.eval_laws.specs.Emits.{go, go_nil, go_full, go_end}
use Rattle.eval_laws.specs.Ranges.{pick_nothing}
use Rattle.eval_laws.specs.Steps.{one_of, below, step_done, end_done, full_done}
use Rattle.eval_front.specs.Visits.{over, goes, numbers_from}

-- ---- the three ways in which what is left to do is what was to do

module _ (f : Segments) (R : Json) (h : Json → List Json) (S X : List ℕ) where
  pub over_step : (i e : ℕ) (s s' : State) → i < e → s' ≡ go f R (h (node_at S X i)) s → over f R h S X (i + 1) e s' ≡ over f R h S X i e s
  over_step i e s s' l d =
      let z : i ≡ 0 + i = omega arith in
      step_done f R h S X 0 e i s s' (over f R h S X i e s) l (subst (λ (x : ℕ). s' ≡ go f R (h (node_at S X x)) s) z d) refl

  pub over_end : (i e : ℕ) (s : State) → e ≤ i → over f R h S X i e s ≡ s
  over_end i e s l = sym (end_done f R h S X 0 e i s (over f R h S X i e s) l refl)

  pub over_full : (i e m : ℕ) (l : List ℕ) (a : ℕ) → m < a → a ≤ m + 1 → length l ≤ m + 1 → over f R h S X i e (st m l a) ≡ st m l a
  over_full i e m l a u v w = sym (full_done f R h S X (0 + i) (e - i) m l a (over f R h S X i e (st m l a)) u v w refl)

-- the same of some nodes in turn
pub goes_full : (f : Segments) (R : Json) (S X ns : List ℕ) (m : ℕ) (l : List ℕ) (a : ℕ) → m < a → a ≤ m + 1 → length l ≤ m + 1 → goes f R S X ns (st m l a) ≡ st m l a
unfolding goes
goes_full f R S X [] m l a u v w = refl
goes_full f R S X (n ∷ ns) m l a u v w = ap (goes f R S X ns) (go_full f R (node_at S X n ∷ []) (st m l a) (omega arith) w) ∙ goes_full f R S X ns m l a u v w

-- ---- at the end of a query the numbers of the nodes are emitted

module _ (R : Json) (S X : List ℕ) (tab : Accepted S X) where
  numbers_by : (c i e : ℕ) → e - i ≡ c → (i < e → e ≤ node_count S) → (s : State) → over end R one_of S X i e s ≡ emit (numbers_from i c) s
  unfolding numbers_from emit
  numbers_by zero i e z g s = over_end end R one_of S X i e s (omega arith)
  numbers_by (suc c) i e z g s =
      let l : i < e = omega arith in
      let b = g l in
      sym (over_step end R one_of S X i e s (push i s) l (sym (go_end S X tab R i (omega arith) s))) ∙ numbers_by c (i + 1) e (omega arith) (λ u. b) (push i s)

  pub over_numbers : (i e : ℕ) (s : State) → (i < e → e ≤ node_count S) → over end R one_of S X i e s ≡ emit (numbers_from i (e - i)) s
  over_numbers i e s g = numbers_by (e - i) i e refl g s

-- ---- a value that is neither list nor map has nothing below it

module _ (S X : List ℕ) (tab : Accepted S X) (m : ℕ) (h : m < node_count S) (k : kind_at S m < kind_list) (R : Json) where
  no_children : children (node_at S X m) ≡ []
  no_children = children_nodes S X tab m h ∙ nodes_none S X (first_child S m) (child_count S m) (count_scalar S m (omega arith))

  no_elements : elements (node_at S X m) ≡ []
  no_elements = elements_none S X tab m h (λ e. omega arith)

  selector_none : (x : Selector) → eval_selector x R (node_at S X m) ≡ []
  unfolding eval_selector found lookup keep
  selector_none (name s) = ap (λ (ks : Kids). found (lookup s ks)) (members_none S X tab m h (λ e. omega arith))
  selector_none (index z) = ap (pick (index_places (length (elements (node_at S X m))) z)) no_elements ∙ pick_nothing (index_places (length (elements (node_at S X m))) z)
  selector_none (slice a b c) = ap (pick (slice_places (length (elements (node_at S X m))) a b c)) no_elements ∙ pick_nothing (slice_places (length (elements (node_at S X m))) a b c)
  selector_none wildcard = no_children
  selector_none (filter t) = ap (keep (λ n. eval_test t R n)) no_children

  selectors_none : (ss : Selectors) → eval_selectors ss R (node_at S X m) ≡ []
  unfolding eval_selectors
  selectors_none (one x) = selector_none x
  selectors_none (and x ss) = ap (λ (l : List Json). l ++ eval_selectors ss R (node_at S X m)) (selector_none x) ∙ selectors_none ss

  pub below_none : (ss : Selectors) → below ss R (node_at S X m) ≡ []
  unfolding flat
  below_none ss =
      ap (flat (λ n. eval_selectors ss R n)) (descend_children (node_at S X m) ∙ ap (λ (l : List Json). node_at S X m ∷ flat descend l) no_children)
      ∙ ap (λ (l : List Json). l ++ []) (selectors_none ss)

-- such nodes are passed
module _ (f : Segments) (R : Json) (ss : Selectors) (S X : List ℕ) (tab : Accepted S X) where
  passed_by : (n i r e : ℕ) (s : State) → i + n ≡ r → r ≤ e → (i < e → e ≤ node_count S) → ((m : ℕ) → i ≤ m → m < r → kind_at S m < kind_list) → over f R (below ss R) S X r e s ≡ over f R (below ss R) S X i e s
  passed_by zero i r e s z b g p = let y : r ≡ i = omega arith in ap (λ (x : ℕ). over f R (below ss R) S X x e s) y
  passed_by (suc n) i r e s z b g p =
      let l : i < e = omega arith in
      let c = g l in
      let none = below_none S X tab i (omega arith) (p i (omega arith) (omega arith)) R ss in
      passed_by n (i + 1) r e s (omega arith) b (λ u. c) (λ m u v. p m (omega arith) v)
      ∙ over_step f R (below ss R) S X i e s s l (sym (ap (λ (ns : List Json). go f R ns s) none ∙ go_nil f R s))

  pub over_passed : (i r e : ℕ) (s : State) → i ≤ r → r ≤ e → (i < e → e ≤ node_count S) → ((m : ℕ) → i ≤ m → m < r → kind_at S m < kind_list) → over f R (below ss R) S X r e s ≡ over f R (below ss R) S X i e s
  over_passed i r e s a b g p = passed_by (r - i) i r e s (omega arith) b g p
