-- From what a function of evaluation has at hand to what the next one asks, and from what that one gives to what was asked; the invariants of the loops, and their
-- turns. P is the plan, L the pool, S the table, X the text; v is what is lent. Assumes nothing.
use Rattle.std.specs.Prelude.{Some, None, Ok, Err, ℕ, ◌+◌, ◌-◌, ◌≤◌, ◌<◌, ◌≡◌, refl, List, get_or}
use Rattle.std.proofs.Common.{sym, ap, ◌∙◌, subst, arith}
use Rattle.std.proofs.Math.ListN.{length}
use Rattle.std.specs.Borrow.{MutBor}
use Rattle.definition.specs.Limits.{max_plan}
use Rattle.definition.specs.Values.{Json}
use Rattle.definition.specs.Forms.{Segments, Selectors}
use Rattle.definition.specs.Forms.Segments.{descendant}
use Rattle.definition.specs.Plans.{pool_selectors, pool_selector}
use Rattle.definition.specs.Tables.{node_count, node_at, depth_at}
use Rattle.table_laws.specs.Accepted.{Accepted}
use Rattle.definition.specs.Evaluation.{eval_selectors}
use Rattle.text.specs.Words.{Word}
use Rattle.eval_laws.specs.States.{State, st, push}
use Rattle.eval_laws.specs.Emits.{go}
use Rattle.eval_laws.specs.Steps.{below, done_bound, segment_child, segment_descendant, segment_end, selectors_last, selectors_step, selectors_full}
use Rattle.eval_laws.specs.Ranges.{Range, child_at}
use Rattle.eval_laws.specs.Items.{SegmentsAt, parts, is_end, segments_in}
use Rattle.eval_items.specs.Ends.{AskSkip, DoneSkip, AskNext as AskPlace, DoneNext as DonePlace}
use Rattle.eval_front.specs.Visits.{Query, node_of, AskPush, AskReach, DoneReach, DoneContainer}
use Rattle.eval_front.specs.Turns.{leads_in}
use Rattle.eval_front.specs.Overs.{over_step, over_end, over_full, over_passed}
use Rattle.eval_front.specs.Stands.{Standing, descendant_byte, standing_of, fore, final, some_alone, standing_in}
use Rattle.eval_front.specs.Spans.{below_all}
use Rattle.eval_front.specs.declared.Reached.{Reached}
use Rattle.eval_asks.specs.declared.Lent.{Lent}
use Rattle.eval_asks.specs.declared.State.{State as Numbers}
use Rattle.eval_asks.specs.Lent.{plan_of, pool_of, table_of, text_of, root_of, cap_of, at_of, with_at}
use Rattle.eval_asks.specs.Asks.{Asked, Steady, Gives, AskSegment, DoneSegment, AskSelectors, DoneSelectors, Parted, AskDescent, DoneDescent, Descends, descent, AskFlats, DoneFlats, AskSelector, DoneSelector}
use Rattle.eval_asks.specs.Steady.{gives_of, gives_none, gives_as, Going, going_start, going_on, going_step, going_end, going_full, going_last}

-- the parts of the segment at pc
abbrev parted_at : {P L : List ℕ} {pc : ℕ} → length P ≤ max_plan → Query P L pc → (get_or P pc 0 ≡ 0x0A → ⊥) → Parted P L pc
parted_at {P} {L} {pc} few x n = record { k = x.k; f = x.f; parts = parts P L few pc x.k x.f x.at n }

-- ---- what a call leaves of the list

module _ {v : Lent} {s : Numbers} {l : List ℕ} {s' : Numbers} {l' : List ℕ} (a : Asked v s l) where
  pub segment_room : {node pc : ℕ} → AskSegment v node pc → DoneSegment v node pc s l s' l' → at_of s' ≤ cap_of s + 1
  segment_room q d = done_bound q.query.f _ _ (cap_of s) l l' (at_of s) (at_of s') (d.emits q.query (root_of s) (cap_of s) refl refl) a.room

  pub descent_room : {node pc : ℕ} → AskDescent v node pc → DoneDescent v node pc s l s' l' → at_of s' ≤ cap_of s + 1
  descent_room q d = done_bound q.descends.q _ _ (cap_of s) l l' (at_of s) (at_of s') (d.emits q.descends (root_of s) (cap_of s) refl refl) a.room

  pub selector_room : {node p rest : ℕ} → AskSelector v node p rest → DoneSelector v node p rest s l s' l' → at_of s' ≤ cap_of s + 1
  selector_room q d = done_bound q.selects.q _ _ (cap_of s) l l' (at_of s) (at_of s') (d.emits q.selects (root_of s) (cap_of s) refl refl) a.room

  pub selectors_room : {node pc : ℕ} → AskSelectors v node pc → DoneSelectors v node pc s l s' l' → at_of s' ≤ cap_of s + 1
  selectors_room q d =
      let x = parted_at a.given.few_p q.query q.going in
      done_bound x.parts.q _ _ (cap_of s) l l' (at_of s) (at_of s') (d.emits x (root_of s) (cap_of s) refl refl) a.room

-- ---- one node with the segments at pc

module _ {v : Lent} {s : Numbers} {l : List ℕ} {node pc : ℕ} (a : Asked v s l) (q : AskSegment v node pc) where
  pub reach_asked : AskReach (plan_of v) (pool_of v) (table_of v) (text_of v) node pc
  reach_asked = record { given = a.given; node_in = q.node_in; query = q.query }

  module _ {r : Reached} (d : DoneReach (plan_of v) (pool_of v) (table_of v) (text_of v) node pc r) where
    pub reached_in : r.pc < length (plan_of v)
    reached_in = let y = d.front q.query.f q.query.k q.query.at in segments_in (plan_of v) (pool_of v) r.pc y.j y.g y.at

    -- it leads nowhere
    pub segment_lost : {m : ℕ} → r.node ≡ Err m → DoneSegment v node pc s l s l
    segment_lost {m} e = gives_none _ s l (λ x R σ. (d.front x.f x.k x.at).lost m e (node_at (table_of v) (text_of v) R) σ)

    -- to another segment
    abbrev onward : Query (plan_of v) (pool_of v) pc → Query (plan_of v) (pool_of v) r.pc
    onward x = let y = d.front x.f x.k x.at in record { f = y.g; k = y.j; at = y.at }

    -- the node to which it leads, or the last that was reached
    pub push_asked : AskPush (length l) (at_of s) (node_of r.node) (cap_of s)
    push_asked = record { room = a.room; wide = a.wide; small = a.small; number = omega (arith, d.node_in, a.given.tab.size.few) }

    module _ (n : get_or (plan_of v) r.pc 0 ≡ 0x0A → ⊥) where
      pub onward_selectors : AskSelectors v (node_of r.node) r.pc
      onward_selectors = record { node_in = d.node_in; query = onward q.query; going = n }

      abbrev descends_at : (get_or (plan_of v) r.pc 0 ≡ 3 → ⊥) → Query (plan_of v) (pool_of v) r.pc → Descends (plan_of v) (pool_of v) r.pc
      descends_at k x =
          let z = (parted_at a.given.few_p x n).parts in
          record { ss = z.ss; q = z.q; k = x.k; at = subst (λ (f : Segments). SegmentsAt (plan_of v) (pool_of v) r.pc x.k f) (z.is_descendant k) x.at }

      pub onward_descent : (get_or (plan_of v) r.pc 0 ≡ 3 → ⊥) → AskDescent v (node_of r.node) r.pc
      onward_descent k = record { node_in = d.node_in; descends = descends_at k (onward q.query) }

    -- to a node
    module _ {m : ℕ} (e : r.node ≡ Ok m) where
      pub push_found : AskPush (length l) (at_of s) m (cap_of s)
      push_found = subst (λ (x : ℕ). AskPush (length l) (at_of s) x (cap_of s)) (ap node_of e) push_asked

      -- at the end of the query
      pub segment_ends : get_or (plan_of v) r.pc 0 ≡ 0x0A → (l' : List ℕ) (n : ℕ) → st (cap_of s) l' n ≡ push m (st (cap_of s) l (at_of s)) → DoneSegment v node pc s l (with_at s n) l'
      segment_ends z l' n p =
          gives_of _ s l (with_at s n) l'
          (λ x. let y = d.front x.f x.k x.at in
          p ∙ segment_end (table_of v) (text_of v) a.given.tab y.g _ m (leads_in d e) _ (is_end (plan_of v) r.pc y.j y.g y.at.holds z) ∙ y.found m e _ _)

      module _ (n : get_or (plan_of v) r.pc 0 ≡ 0x0A → ⊥) where
        pub selectors_found : AskSelectors v m r.pc
        selectors_found = subst (λ (x : ℕ). AskSelectors v x r.pc) (ap node_of e) (onward_selectors n)

        pub segment_child_done : get_or (plan_of v) r.pc 0 ≡ 3 → (s' : Numbers) (l' : List ℕ) → DoneSelectors v m r.pc s l s' l' → DoneSegment v node pc s l s' l'
        segment_child_done k s' l' g =
            gives_as _ g (λ x. parted_at a.given.few_p (onward x) n)
            (λ x R σ. let y = d.front x.f x.k x.at in
            let z = (parted_at a.given.few_p (onward x) n).parts in
            segment_child z.ss z.q y.g _ _ σ (z.is_child k) ∙ y.found m e _ σ)

        pub descent_found : (get_or (plan_of v) r.pc 0 ≡ 3 → ⊥) → AskDescent v m r.pc
        descent_found k = subst (λ (x : ℕ). AskDescent v x r.pc) (ap node_of e) (onward_descent n k)

        pub segment_descent_done : (get_or (plan_of v) r.pc 0 ≡ 3 → ⊥) → (s' : Numbers) (l' : List ℕ) → DoneDescent v m r.pc s l s' l' → DoneSegment v node pc s l s' l'
        segment_descent_done k s' l' g =
            gives_as _ g (λ x. descends_at n k (onward x))
            (λ x R σ. let y = d.front x.f x.k x.at in
            let z = (parted_at a.given.few_p (onward x) n).parts in
            segment_descendant z.ss z.q y.g _ _ σ (z.is_descendant k) ∙ y.found m e _ σ)

-- ---- a descendant segment

pub descent_selectors : {v : Lent} {node pc : ℕ} → AskDescent v node pc → AskSelectors v node pc
descent_selectors {v} {node} {pc} q =
    let x = q.descends in
    record {
      node_in = q.node_in;
      query = record { f = descendant x.ss x.q; k = x.k; at = x.at };
      going = λ z. omega (arith, descendant_byte (plan_of v) (pool_of v) pc x.k x.ss x.q x.at);
    }

-- the query ends behind a node
module _ {v : Lent} {s : Numbers} {l : List ℕ} {m rest : ℕ} (a : Asked v s l) (q : AskSegment v m rest) where
  pub here_push : AskPush (length l) (at_of s) m (cap_of s)
  here_push = record { room = a.room; wide = a.wide; small = a.small; number = omega (arith, q.node_in, a.given.tab.size.few) }

  pub here_ends : get_or (plan_of v) rest 0 ≡ 0x0A → (l' : List ℕ) (n : ℕ) → st (cap_of s) l' n ≡ push m (st (cap_of s) l (at_of s)) → DoneSegment v m rest s l (with_at s n) l'
  here_ends z l' n p =
      gives_of _ s l (with_at s n) l'
      (λ x. p ∙ segment_end (table_of v) (text_of v) a.given.tab x.f _ m q.node_in _ (is_end (plan_of v) rest x.k x.f x.at.holds z))

-- its selectors and what follows them are those of its parts
module _ {P L : List ℕ} {pc : ℕ} (few : length P ≤ max_plan) (x : Descends P L pc) where
  abbrev parted_of : Parted P L pc
  parted_of = record { k = x.k; f = descendant x.ss x.q; parts = parts P L few pc x.k (descendant x.ss x.q) x.at (λ z. omega (arith, descendant_byte P L pc x.k x.ss x.q x.at)) }

  parted_same : (R N : Json) (σ : State) → go parted_of.parts.q R (eval_selectors parted_of.parts.ss R N) σ ≡ go x.q R (eval_selectors x.ss R N) σ
  parted_same R N σ =
      let m : descendant x.ss x.q ≡ descendant parted_of.parts.ss parted_of.parts.q = parted_of.parts.is_descendant (λ b. omega (arith, descendant_byte P L pc x.k x.ss x.q x.at)) in
      let a : parted_of.parts.ss ≡ x.ss = cc in
      let b : parted_of.parts.q ≡ x.q = cc in
      ap (λ (z : Selectors). go parted_of.parts.q R (eval_selectors z R N) σ) a ∙ ap (λ (z : Segments). go z R (eval_selectors x.ss R N) σ) b

-- the nodes of a range that need no call
module _ {v : Lent} {s : Numbers} {l : List ℕ} {i e pc : ℕ} (a : Asked v s l) where
  pub flats_full : AskFlats v i e pc → cap_of s < at_of s → DoneFlats v i e pc s l s l e
  flats_full q f =
      record {
        low = q.upto;
        high = omega arith;
        room = a.room;
        goes = λ x R C r c.
            over_end x.q _ (below x.ss _) (table_of v) (text_of v) e e (st C l (at_of s)) (omega arith)
            ∙ sym (over_full x.q _ (below x.ss _) (table_of v) (text_of v) i e C l (at_of s) (omega (arith, c)) (omega (arith, c, a.room)) (omega (arith, c, a.wide)));
      }

  -- those before the next list or map select nothing
  module _ (q : AskFlats v i e pc) {j : ℕ} (c : DoneContainer (table_of v) i e j) where
    pub flats_asked : AskFlats v j e pc
    flats_asked = record { upto = c.high q.upto; range = λ h. q.range (omega (arith, c.low)); descends = q.descends }

    pub flats_done : {s' : Numbers} {l' : List ℕ} {r : ℕ} → DoneFlats v j e pc s l s' l' r → DoneFlats v i e pc s l s' l' r
    flats_done d =
        record {
          low = omega (arith, c.low, d.low);
          high = d.high;
          room = d.room;
          goes = λ x R C r k. d.goes x R C r k ∙ over_passed x.q _ x.ss (table_of v) (text_of v) a.given.tab i j e _ c.low (c.high q.upto) q.range c.passed;
        }

    pub flats_scalars : DoneFlats v i e pc s l s l j
    flats_scalars = flats_done (record { low = omega arith; high = c.high q.upto; room = a.room; goes = λ x R C r k. refl })

-- the children that are left
pub record InDescent (v : Lent) (pc e j₀ : ℕ) (s₀ : Numbers) (l₀ : MutBor (List ℕ)) (s : Numbers) (l : MutBor (List ℕ)) (j : ℕ) : Type 0 where
  pub low : j₀ ≤ j
  pub high : j ≤ e
  pub going : Going (descent v pc j₀ e) (descent v pc j e) s₀ l₀ s l

module _ {v : Lent} {pc e j₀ : ℕ} {s₀ : Numbers} {l₀ : MutBor (List ℕ)} {s : Numbers} {l : MutBor (List ℕ)} {j : ℕ} (t : InDescent v pc e j₀ s₀ l₀ s l j) where
  -- one child's descent, and those behind it that need no call
  pub descent_again : {s₁ s₂ : Numbers} {l₁ l₂ : MutBor (List ℕ)} {r : ℕ} → j < e → Steady s l s₁ l₁ → at_of s₁ ≤ cap_of s + 1 → DoneDescent v j pc s l.now s₁ l₁.now
      → Steady s₁ l₁ s₂ l₂ → DoneFlats v (j + 1) e pc s₁ l₁.now s₂ l₂.now r → InDescent v pc e j₀ s₀ l₀ s₂ l₂ r
  descent_again {r = r} h k b d k₂ f =
      let c = f.low in
      record {
        low = omega (arith, t.low);
        high = f.high;
        going = going_on
            (going_step t.going (descent v pc (j + 1) e) k b d (λ x. x) (λ x R σ σ' y. over_step x.q _ (below x.ss _) (table_of v) (text_of v) j e σ σ' h y))
            (descent v pc r e) k₂ f.room (λ x R C y z. f.goes x R C y z);
      }

  pub descent_ended : e ≤ j → Gives (Descends (plan_of v) (pool_of v) pc) (descent v pc j₀ e) s₀ l₀.now s l.now
  descent_ended h = going_end t.going (λ x R σ. over_end x.q _ (below x.ss _) (table_of v) (text_of v) j e σ h)

-- the node, and then all below each of its children
module _ {v : Lent} {node pc first n : ℕ} {s s₁ s₂ : Numbers} {l₀ l₁ l₂ : MutBor (List ℕ)} {j : ℕ} (a : Asked v s l₀.now) (q : AskDescent v node pc) (g : Range (table_of v) node first n) where
  pub descent_done : (s₃ : Numbers) (l₃ : List ℕ) → DoneSelectors v node pc s l₀.now s₁ l₁.now → Steady s l₀ s₁ l₁ → DoneFlats v first (first + n) pc s₁ l₁.now s₂ l₂.now j → Steady s₁ l₁ s₂ l₂
      → Gives (Descends (plan_of v) (pool_of v) pc) (descent v pc j (first + n)) s₂ l₂.now s₃ l₃ → DoneDescent v node pc s l₀.now s₃ l₃
  descent_done s₃ l₃ d k f k₂ h =
      record {
        emits = λ x R C r c.
            h.emits x R C (k₂.root ∙ k.root ∙ r) (k₂.cap ∙ k.cap ∙ c)
            ∙ f.goes x R C (k.root ∙ r) (k.cap ∙ c)
            ∙ ap (descent v pc first (first + n) x R) (d.emits (parted_of a.given.few_p x) R C r c ∙ parted_same a.given.few_p x _ _ _)
            ∙ below_all (table_of v) (text_of v) a.given.tab node q.node_in first n g x.ss x.q _ _;
      }

-- ---- the selectors of a segment

-- the selectors that are left of each segment that stands there
pub record InSelectors (v : Lent) (node pc rest : ℕ) (s₀ : Numbers) (l₀ : MutBor (List ℕ)) (s : Numbers) (l : MutBor (List ℕ)) (m p : ℕ) : Type 0 where
  pub later : pc + 3 ≤ p
  pub left : Parted (plan_of v) (pool_of v) pc → Selectors
  pub k : Parted (plan_of v) (pool_of v) pc → ℕ
  pub stands : (x : Parted (plan_of v) (pool_of v) pc) → Standing (plan_of v) (pool_of v) p m rest (left x) x.parts.q (k x) (x.k + length (pool_selectors x.parts.ss))
  pub going : Going (λ x R. go x.parts.q (node_at (table_of v) (text_of v) R) (eval_selectors x.parts.ss (node_at (table_of v) (text_of v) R) (node_at (table_of v) (text_of v) node)))
      (λ x R. go x.parts.q (node_at (table_of v) (text_of v) R) (eval_selectors (left x) (node_at (table_of v) (text_of v) R) (node_at (table_of v) (text_of v) node))) s₀ l₀ s l

module _ {v : Lent} {node pc : ℕ} {s₀ : Numbers} (l₀ : MutBor (List ℕ)) (a : Asked v s₀ l₀.now) (q : AskSelectors v node pc) where
  -- some segment that stands there
  abbrev asked_parts : Parted (plan_of v) (pool_of v) pc
  asked_parts = parted_at a.given.few_p q.query q.going

  pub parts_bound : pc + 3 < length (plan_of v)
  parts_bound = asked_parts.parts.bound

  pub parts_skip : {m : ℕ} → Word 2 (plan_of v) (pc + 1) m → AskSkip (plan_of v) (pc + 3) m
  parts_skip w = let x = asked_parts.parts in record { few = a.given.few_p; ss = x.ss; k = q.query.k; holds = x.selectors.holds; number = sym x.count ∙ sym w.is }

  pub selectors_start : (m rest : ℕ) → Word 2 (plan_of v) (pc + 1) m → DoneSkip (plan_of v) (pc + 3) m rest → InSelectors v node pc rest s₀ l₀ s₀ l₀ m (pc + 3)
  selectors_start m rest w d = record { later = omega arith; left = λ x. x.parts.ss; k = λ x. x.k; stands = λ x. standing_of x.parts m rest w d; going = going_start _ s₀ l₀ a }

  module _ {rest : ℕ} {s : Numbers} {l : MutBor (List ℕ)} {m p : ℕ} (t : InSelectors v node pc rest s₀ l₀ s l m p) where
    pub selectors_asked : AskSelector v node p rest
    selectors_asked =
        let x = asked_parts in
        let y = some_alone (t.stands x) in
        record { node_in = q.node_in; selects = record { x = y.x; q = x.parts.q; k = t.k x; k' = _; stands = y.alone } }

    -- its end can be found
    pub selectors_next : AskPlace (plan_of v) p
    selectors_next = let y = some_alone (t.stands asked_parts) in record { few = a.given.few_p; s = y.x; k = t.k asked_parts; holds = y.alone.selector.holds }

    pub selectors_in : (p < rest) × (rest < length (plan_of v))
    selectors_in = standing_in (t.stands asked_parts)

    -- one of several is done
    module _ (h : 1 < m) {s' : Numbers} {l' : MutBor (List ℕ)} (k : Steady s l s' l') (b : at_of s' ≤ cap_of s + 1) (d : DoneSelector v node p rest s l.now s' l'.now) where
      others : Parted (plan_of v) (pool_of v) pc → Selectors
      others x = (fore (t.stands x) h).others

      fewer : Going (λ x R. go x.parts.q (node_at (table_of v) (text_of v) R) (eval_selectors x.parts.ss (node_at (table_of v) (text_of v) R) (node_at (table_of v) (text_of v) node)))
          (λ x R. go x.parts.q (node_at (table_of v) (text_of v) R) (eval_selectors (others x) (node_at (table_of v) (text_of v) R) (node_at (table_of v) (text_of v) node))) s₀ l₀ s' l'
      unfolding others
      fewer =
          going_step t.going _ k b d (λ x. let y = fore (t.stands x) h in record { x = y.x; q = x.parts.q; k = t.k x; k' = _; stands = y.alone })
          (λ x R σ σ' e. selectors_step x.parts.q _ _ (t.left x) (others x) (fore (t.stands x) h).x σ σ' _ (fore (t.stands x) h).made e refl)

      pub selectors_passed : cap_of s' < at_of s' → DoneSelectors v node pc s₀ l₀.now s' l'.now
      selectors_passed f = going_full fewer a f (λ x R c n j u w z. sym (selectors_full x.parts.q _ _ (others x) c n j _ u w z refl))

      pub selectors_again : (p' : ℕ) → DonePlace (plan_of v) p p' → InSelectors v node pc rest s₀ l₀ s' l' (m - 1) p'
      unfolding others
      selectors_again p' w =
          let y = fore (t.stands asked_parts) h in
          let e = w y.x (t.k asked_parts) y.alone.selector.holds in
          record {
            later = omega (arith, t.later);
            left = others;
            k = λ x. t.k x + length (pool_selector (fore (t.stands x) h).x);
            stands = λ x. (fore (t.stands x) h).then p' w;
            going = fewer;
          }

    -- the last is done
    pub selectors_done : m ≤ 1 → {s' : Numbers} {l' : List ℕ} → DoneSelector v node p rest s l.now s' l' → DoneSelectors v node pc s₀ l₀.now s' l'
    selectors_done h d =
        going_last t.going d (λ x. let y = final (t.stands x) h in record { x = y.x; q = x.parts.q; k = t.k x; k' = _; stands = y.alone })
        (λ x R σ. let y = final (t.stands x) h in selectors_last x.parts.q _ _ (t.left x) y.x σ _ _ y.made refl refl)

-- a child of a node, between the first and the last, is in the table, and one deeper
pub child_of : {S X : List ℕ} {node first n j₀ j : ℕ} → Accepted S X → node < node_count S → Range S node first n → first ≤ j₀ → j₀ ≤ j → j < first + n → (j < node_count S) × (depth_at S j ≡ depth_at S node + 1)
child_of {S} {X} {node} {first} {n} {j₀} {j} tab h g a b c =
    let e : first + (j - first) ≡ j = omega arith in
    subst (λ (m : ℕ). (m < node_count S) × (depth_at S m ≡ depth_at S node + 1)) e (child_at S X tab node h first n g (j - first) (omega arith))
