-- A child segment of one selector, told by its first four bytes: what is asked of the selector, and that what it gives is what the segment gives. P is the plan, L
-- the pool, S the table, X the text; v is what is lent. Assumes nothing.
use Rattle.std.specs.Prelude.{ℕ, ◌+◌, ◌*◌, ◌≤◌, ◌<◌, ◌≡◌, List, length, get_or}
use Rattle.std.proofs.Common.{arith}
use Rattle.std.specs.Borrow.{MutBor}
use Rattle.definition.specs.Limits.{max_plan}
use Rattle.definition.specs.Forms.Selectors.{one}
use Rattle.definition.specs.Plans.{code_selector}
use Rattle.definition.specs.Evaluation.{eval_selectors}
use Rattle.text.specs.Words.{Word}
use Rattle.eval_laws.specs.Steps.{segment_child}
use Rattle.eval_laws.specs.Items.{parts, is_wildcard, is_slice, is_filter}
use Rattle.eval_front.specs.Visits.{Query, Head}
use Rattle.eval_front.specs.Fronts.{Single, single}
use Rattle.eval_front.specs.Heads.{head_read}
use Rattle.eval_front.specs.Stands.{segments_at}
use Rattle.eval_asks.specs.declared.Lent.{Lent}
use Rattle.eval_asks.specs.declared.State.{State as Numbers}
use Rattle.eval_asks.specs.Lent.{plan_of, pool_of}
use Rattle.eval_asks.specs.Asks.{AskEnter, Entered, Steady, AskSelector, DoneSelector, Selects}
use Rattle.eval_asks.specs.Steady.{gives_as}

-- four bytes at least are there where a segment stands
pub query_bound : {P L : List ℕ} {pc : ℕ} → length P ≤ max_plan → (x : Query P L pc) → (get_or P pc 0 ≡ 0x0A → ⊥) → pc + 4 ≤ length P
query_bound {P} {L} {pc} few x n = omega (arith, (parts P L few pc x.k x.f x.at n).bound)

module _ {v : Lent} {node pc : ℕ} {s : Numbers} {l : List ℕ} (a : AskEnter v node pc s l) where
  pub enter_bound : pc + 4 ≤ length (plan_of v)
  enter_bound = query_bound a.asked.given.few_p a.segment.query a.going

  pub enter_head : {n : ℕ} (kind : ℕ) → ((k : ℕ) → get_or (plan_of v) k 0 < 256) → Word 4 (plan_of v) pc n → n ≡ 0x103 + 16777216 * kind → Head (plan_of v) pc kind
  enter_head kind b w e = head_read kind b enter_bound w.is e

  module _ {kind : ℕ} (h : Head (plan_of v) pc kind) where
    pub alone_at : (x : Query (plan_of v) (pool_of v) pc) → Single (plan_of v) (pool_of v) pc x.k x.f
    alone_at x = single a.asked.given.few_p h x.at

    -- where each selector of the kind ends
    abbrev pub Ends : ℕ → Type 0
    Ends rest = (x : Query (plan_of v) (pool_of v) pc) → rest ≡ pc + 3 + length (code_selector (alone_at x).x x.k)

    module _ {rest : ℕ} (e : Ends rest) where
      selects_at : (x : Query (plan_of v) (pool_of v) pc) → Selects (plan_of v) (pool_of v) (pc + 3) rest
      selects_at x =
          let y = alone_at x in
          let z = e x in
          record { x = y.x; q = y.behind; k = x.k; k' = y.j'; stands = record { selector = y.here; place = omega arith; after = segments_at rest z y.after } }

      pub enter_selector : AskSelector v node (pc + 3) rest
      enter_selector = record { node_in = a.segment.node_in; selects = selects_at a.segment.query }

      pub enter_done : {l₀ : MutBor (List ℕ)} {s' : Numbers} {l' : MutBor (List ℕ)} → Steady s l₀ s' l' → DoneSelector v node (pc + 3) rest s l₀.now s' l'.now → Entered v node pc s l₀ s' l'
      unfolding eval_selectors selects_at
      enter_done k d =
          record {
            kept = k;
            gives = gives_as _ d selects_at (λ x R σ. let y = alone_at x in segment_child (one y.x) y.behind x.f _ _ σ y.made);
          }

  module _ (b : (k : ℕ) → get_or (plan_of v) k 0 < 256) {n : ℕ} (w : Word 4 (plan_of v) pc n) where
    pub slice_ends : (e : n ≡ 0x103 + 16777216 * 7) → Ends (enter_head 7 b w e) (pc + 29)
    slice_ends e x =
        let h = enter_head 7 b w e in
        let y = alone_at h x in
        omega (arith, (is_slice (plan_of v) (pool_of v) a.asked.given.few_p a.asked.given.few_l (pc + 3) x.k y.x y.here h.kind_is).long)

    pub wildcard_ends : (e : n ≡ 0x103 + 16777216 * 8) → Ends (enter_head 8 b w e) (pc + 4)
    wildcard_ends e x =
        let h = enter_head 8 b w e in
        let y = alone_at h x in
        omega (arith, (is_wildcard (plan_of v) (pc + 3) x.k y.x y.here.holds h.kind_is).1)

    module _ (e : n ≡ 0x103 + 16777216 * 9) where
      filter_at : (x : Query (plan_of v) (pool_of v) pc) → (pc + 3 + 3 ≤ length (plan_of v)) × ((m : ℕ) → Word 2 (plan_of v) (pc + 3 + 1) m → pc + 3 + 3 + m ≡ pc + 3 + length (code_selector (alone_at (enter_head 9 b w e) x).x x.k))
      filter_at x =
          let h = enter_head 9 b w e in
          let y = alone_at h x in
          let i = h.kind_is in
          let f = is_filter (plan_of v) (pool_of v) a.asked.given.few_p a.asked.given.few_l (pc + 3) x.k y.x y.here (λ z. omega arith) (λ z. omega arith) (λ z. omega arith) (λ z. omega arith) in
          (f.bound, λ m u. let c = f.count in let g = f.long in let j = u.is in omega arith)

      pub filter_fits : pc + 3 + 3 ≤ length (plan_of v)
      filter_fits = (filter_at a.segment.query).0

      pub filter_ends : {m : ℕ} → Word 2 (plan_of v) (pc + 3 + 1) m → Ends (enter_head 9 b w e) (pc + 3 + 3 + m)
      filter_ends {m} u x = (filter_at x).1 m u
