-- Ranges of nodes: what a wildcard selects, and what is below a node, child by child. Assumes nothing.
use Rattle.std.specs.Prelude.{ℕ, ◌+◌, ◌-◌, ◌≤◌, ◌<◌, ◌≡◌, refl, List, get_or}
use Rattle.std.proofs.Common.{sym, ap, ◌∙◌, arith}
use Rattle.definition.specs.Values.{Json}
use Rattle.definition.specs.Forms.{Segments, Selectors, Selector}
use Rattle.definition.specs.Tables.{node_count, node_at}
use Rattle.definition.specs.Evaluation.{eval_selectors, eval_selector}
use Rattle.table_laws.specs.Accepted.{Accepted}
use Rattle.eval_laws.specs.States.{State}
use Rattle.eval_laws.specs.Emits.{go}
use Rattle.eval_laws.specs.Steps.{span, one_of, below, span_one}
use Rattle.eval_laws.specs.Ranges.{Range, range_in, select_wildcard, descent_done}
use Rattle.eval_laws.specs.Items.{SelectorAt, is_wildcard}
use Rattle.eval_front.specs.Visits.{over, cap_limit, DoneContainer}
use Rattle.eval_front.specs.Overs.{over_end, over_passed}

-- the next of len places is to be set
pub record Room (len at cap : ℕ) : Type 0 where
  pub room : at ≤ cap + 1
  pub wide : len ≤ cap + 1
  pub small : cap < cap_limit

pub over_range : (f : Segments) (R : Json) (h : Json → List Json) (S X : List ℕ) (i n : ℕ) (s : State) → over f R h S X i (i + n) s ≡ span f R h S X i n s
over_range f R h S X i n s =
    let a : 0 + i ≡ i = omega arith in
    let b : i + n - i ≡ n = omega arith in
    ap (λ (x : ℕ). span f R h S X x (i + n - i) s) a ∙ ap (λ (x : ℕ). span f R h S X i x s) b

-- a wildcard selects the range of children
pub wildcard_range : (P L S X : List ℕ) (tab : Accepted S X) (node p i n : ℕ) (h : node < node_count S) → Range S node i n → get_or P p 0 ≡ 8 → (x : Selector) (q : Segments) (k : ℕ) → SelectorAt P L p k x → (R : Json) (s : State)
    → over q R one_of S X i (i + n) s ≡ go q R (eval_selector x R (node_at S X node)) s
wildcard_range P L S X tab node p i n h r e x q k a R s =
    over_range q R one_of S X i n s ∙ span_one q R S X i n s ∙ select_wildcard S X tab node h i n r q R s x (is_wildcard P p k x a.holds e).0

-- the children of a node from the first list or map on
module _ (S X : List ℕ) (tab : Accepted S X) (node : ℕ) (l : node < node_count S) (first n : ℕ) (r : Range S node first n) where
  pub below_all : (ss : Selectors) (q : Segments) (R : Json) (s : State) → over q R (below ss R) S X first (first + n) (go q R (eval_selectors ss R (node_at S X node)) s) ≡ go q R (below ss R (node_at S X node)) s
  below_all ss q R s = over_range q R (below ss R) S X first n _ ∙ descent_done S X tab node l first n r q R s ss _ refl

  pub below_from : (i : ℕ) → DoneContainer S first (first + n) i → (ss : Selectors) (q : Segments) (R : Json) (s : State) → over q R (below ss R) S X i (first + n) (go q R (eval_selectors ss R (node_at S X node)) s) ≡ go q R (below ss R (node_at S X node)) s
  below_from i c ss q R s = over_passed q R ss S X tab first i (first + n) _ c.low (c.high (omega arith)) (λ u. range_in S X tab node l first n r (omega arith)) c.passed ∙ below_all ss q R s

  -- no child is a list or a map
  pub below_passed : (i : ℕ) → DoneContainer S first (first + n) i → i ≡ first + n → (ss : Selectors) (q : Segments) (R : Json) (s : State) → go q R (eval_selectors ss R (node_at S X node)) s ≡ go q R (below ss R (node_at S X node)) s
  below_passed i c e ss q R s = sym (over_end q R (below ss R) S X i (first + n) _ (omega arith)) ∙ below_from i c ss q R s
