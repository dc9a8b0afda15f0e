-- The selectors by their kinds: from what `apply_selector` has at hand to what each function asks, and from what that gives to what was asked; the invariants of the
-- loops over places, children and kept children, and their turns. P is the plan, L the pool, S the table, X the text; v is what is lent. Assumes nothing.
use Rattle.std.specs.Prelude.{ℕ, zero, suc, ◌+◌, ◌-◌, ◌≤◌, ◌<◌, ◌≡◌, refl, List, [], ◌∷◌, Bool as Bits, true, false, eqb, length, get_or, max, Option, Some, None}
use Rattle.std.proofs.Common.{sym, ap, ◌∙◌, subst, eqb-true, arith}
use Rattle.std.proofs.lemmas.Bool.{eqb-false}
use Rattle.std.specs.Borrow.{MutBor}
use Rattle.definition.specs.Limits.{max_nodes}
use Rattle.definition.specs.Forms.{Segments, Test}
use Rattle.definition.specs.Tables.{node_count, node_at, child_count, low_word}
use Rattle.definition.specs.Evaluation.{eval_test}
use Rattle.text.specs.Words.{Word}
use Rattle.slices.specs.Walks.{Inside, walked}
use Rattle.slices.specs.Laws.{inside_at, inside_more}
use Rattle.slices.specs.declared.Walk.{Walk}
use Rattle.eval_laws.specs.States.{State, st, emit}
use Rattle.eval_laws.specs.Emits.{go}
use Rattle.eval_laws.specs.Steps.{kept, one_of, kept_in, kept_out, span_kept}
use Rattle.eval_laws.specs.Ranges.{Range, range_of_lem, range_in, select_filter}
use Rattle.eval_laws.specs.Items.{SegmentsAt, Filtered, Sliced, is_end, is_slice, is_filter}
use Rattle.eval_items.specs.Leaves.{AskOne, DoneOne, AskWalk, DoneWalk}
use Rattle.eval_front.specs.Visits.{Query, AskNumbers, AskWalked, AskPlaced, DonePlaced, Further, numbers_from, over, goes}
use Rattle.eval_front.specs.Overs.{over_step, over_end, over_full, over_numbers, goes_full}
use Rattle.eval_front.specs.Fronts.{never}
use Rattle.eval_front.specs.Places.{goes_places, goes_step, goes_end}
use Rattle.eval_front.specs.Stands.{kind_low, kind_high, alone_in, one_found, one_absent, slice_asked, slice_done, filter_end}
use Rattle.eval_front.specs.Spans.{over_range, wildcard_range}
use Rattle.eval_filters.specs.Kept.{Tested, AskTest, DoneTest, tested_of}
use Rattle.eval_asks.specs.declared.Lent.{Lent}
use Rattle.eval_asks.specs.declared.State.{State as Numbers}
use Rattle.eval_asks.specs.Lent.{plan_of, pool_of, table_of, text_of, root_of, cap_of, at_of, with_at}
use Rattle.eval_asks.specs.Asks.{Asked, Steady, Gives, AskEnter, AskSegment, DoneSegment, AskSelector, DoneSelector, Selects, selection, DoneKeep, AskEach, DoneEach, each, AskNext, DoneNext}
use Rattle.eval_asks.specs.Steady.{steady_refl, gives_of, gives_none, gives_as, Going, going_asked, going_on, going_step, going_end, going_full, going_last}

-- ---- forms

-- the test from p up to z, and the query at rest
pub record Keeps (P L : List ℕ) (p z rest : ℕ) : Type 0 where
  pub t : Test
  pub k : ℕ
  pub q : Segments
  pub k' : ℕ
  pub tested : Tested P L p z t k
  pub after : SegmentsAt P L rest k' q

-- what is emitted for the nodes from j up to e for which the test holds
abbrev pub keeping : (v : Lent) → (p z rest j e : ℕ) → Keeps (plan_of v) (pool_of v) p z rest → ℕ → State → State
keeping v p z rest j e x R = over x.q (node_at (table_of v) (text_of v) R) (kept x.t (node_at (table_of v) (text_of v) R)) (table_of v) (text_of v) j e

-- what is emitted for the nodes that are the places of a walk
abbrev pub placing : (v : Lent) → (rest : ℕ) → Walk → Query (plan_of v) (pool_of v) rest → ℕ → State → State
placing v rest w x R = goes x.f (node_at (table_of v) (text_of v) R) (table_of v) (text_of v) (walked w)

-- ---- a name or an index

module _ {v : Lent} {s : Numbers} {l : List ℕ} {node p rest : ℕ} (a : Asked v s l) (q : AskSelector v node p rest) where
  abbrev S : List ℕ
  S = table_of v

  abbrev X : List ℕ
  X = text_of v

  pub one_asked : get_or (plan_of v) p 0 ≤ 6 → AskOne (plan_of v) (pool_of v) (table_of v) (text_of v) p node 5 6
  one_asked h =
      record {
        few_p = a.given.few_p;
        few_l = a.given.few_l;
        tab = a.given.tab;
        node_in = q.node_in;
        x = q.selects.x;
        k = q.selects.k;
        at = q.selects.stands.selector;
        kind_low = kind_low q.selects.stands;
        kind_high = h;
      }

  -- the query behind the selector
  abbrev behind : Selects (plan_of v) (pool_of v) p rest → Query (plan_of v) (pool_of v) rest
  behind x = record { f = x.q; k = x.k'; at = x.stands.after }

  pub rest_in : (p < rest) × (rest < length (plan_of v))
  rest_in = alone_in q.selects.stands

  module _ {r : Option ℕ} (d : DoneOne (plan_of v) (pool_of v) (table_of v) (text_of v) p node r) where
    pub selector_absent : r ≡ None → DoneSelector v node p rest s l s l
    selector_absent e = gives_none _ s l (λ x R σ. one_absent S X x.x _ _ x.q r σ e (d.selects x.x x.k _ x.stands.selector))

    pub found_asked : (m : ℕ) → r ≡ Some m → AskSegment v m rest
    found_asked m e = record { node_in = d.inside m e; query = behind q.selects }

    pub selector_found : (m : ℕ) → r ≡ Some m → {s' : Numbers} {l' : List ℕ} → DoneSegment v m rest s l s' l' → DoneSelector v node p rest s l s' l'
    selector_found m e g = gives_as _ g behind (λ x R σ. one_found S X x.x _ _ x.q r m σ _ e (d.selects x.x x.k _ x.stands.selector) refl)

  -- ---- a wildcard

  module _ {i n : ℕ} (g : Range (table_of v) node i n) where
    pub each_asked : AskEach v i (i + n) rest
    each_asked = record { range = λ h. range_in S X a.given.tab node q.node_in i n g (omega arith); query = behind q.selects }

    pub wildcard_done : get_or (plan_of v) p 0 ≡ 8 → {s' : Numbers} {l' : List ℕ} → DoneEach v i (i + n) rest s l s' l' → DoneSelector v node p rest s l s' l'
    wildcard_done e d = gives_as _ d behind (λ x R σ. wildcard_range (plan_of v) (pool_of v) S X a.given.tab node p i n q.node_in g e x.x x.q x.k x.stands.selector _ σ)

  -- ---- a slice

  module _ (k : get_or (plan_of v) p 0 ≡ 7) where
    sliced : (x : Selects (plan_of v) (pool_of v) p rest) → Sliced (plan_of v) p x.k x.x
    sliced x = is_slice (plan_of v) (pool_of v) a.given.few_p a.given.few_l p x.k x.x x.stands.selector k

    pub slice_walk : AskWalk (plan_of v) (table_of v) p node
    slice_walk = slice_asked a.given.tab q.node_in (sliced q.selects)

    module _ {from : ℕ} (e : from ≡ low_word (table_of v) node) {w : Walk} (d : DoneWalk (plan_of v) (table_of v) p node w) where
      from_range : Range (table_of v) node from (child_count (table_of v) node)
      from_range = range_of_lem S X a.given.tab node q.node_in from (child_count S node) e refl

      from_in : 0 < child_count (table_of v) node → from + child_count (table_of v) node ≤ node_count (table_of v)
      from_in = range_in S X a.given.tab node q.node_in from (child_count S node) from_range

      pub placed_asked : AskPlaced (table_of v) from w
      placed_asked = record { few = a.given.tab.size.few; c = child_count S node; inside = d.inside; range = from_in }

      module _ {u : Walk} (f : DonePlaced (table_of v) from w u) where
        pub placed_in : Inside (node_count (table_of v)) u
        placed_in = f.inside (child_count S node) d.inside from_in

        pub walked_asked : AskWalked (length l) u (at_of s) (cap_of s)
        walked_asked = record { room = a.room; wide = a.wide; small = a.small; inside = inside_more (node_count S) max_nodes u a.given.tab.size.few placed_in }

        places_same : (x : Selects (plan_of v) (pool_of v) p rest) (R : ℕ) (σ : State) → goes x.q (node_at S X R) S X (walked u) σ ≡ selection v node p rest x R σ
        places_same x R σ = f.picks (child_count S node) d.inside X x.q _ σ ∙ slice_done a.given.tab q.node_in from_range (sliced x) w d x.q _ σ

        pub slice_ended : get_or (plan_of v) rest 0 ≡ 0x0A → (l' : List ℕ) (n : ℕ) → st (cap_of s) l' n ≡ emit (walked u) (st (cap_of s) l (at_of s)) → DoneSelector v node p rest s l (with_at s n) l'
        slice_ended z l' n m =
            gives_of _ s l (with_at s n) l'
            (λ x. m ∙ goes_places x.q _ S X a.given.tab (is_end (plan_of v) rest x.k' x.q x.stands.after.holds z) u _ placed_in ∙ places_same x (root_of s) _)

        pub slice_done_all : {s' : Numbers} {l' : List ℕ} → Gives (Query (plan_of v) (pool_of v) rest) (placing v rest u) s l s' l' → DoneSelector v node p rest s l s' l'
        slice_done_all g = gives_as _ g behind places_same

  -- ---- a filter

  module _ (k : get_or (plan_of v) p 0 ≡ 9) where
    pub filtered : (x : Selects (plan_of v) (pool_of v) p rest) → Filtered (plan_of v) (pool_of v) p x.k x.x
    filtered x =
        is_filter (plan_of v) (pool_of v) a.given.few_p a.given.few_l p x.k x.x x.stands.selector (λ z. omega arith) (λ z. omega arith) (λ z. omega arith) (λ z. omega arith)

    pub filter_bound : p + 3 ≤ length (plan_of v)
    filter_bound = (filtered q.selects).bound

    module _ {n : ℕ} (w : Word 2 (plan_of v) (p + 1) n) where
      pub filter_inside : p + 3 + n ≤ rest
      filter_inside = filter_end q.selects.stands (filtered q.selects) n w

      pub tests : (x : Selects (plan_of v) (pool_of v) p rest) → Tested (plan_of v) (pool_of v) (p + 3) (p + 3 + n) (filtered x).t x.k
      tests x = tested_of (filtered x) n w

      pub test_asked : AskTest (plan_of v) (pool_of v) (p + 3) (p + 3 + n)
      test_asked = record { t = (filtered q.selects).t; k = q.selects.k; stands = tests q.selects }

      pub rest_asked : Query (plan_of v) (pool_of v) rest
      rest_asked = behind q.selects

      module _ {i c : ℕ} (e : i ≡ low_word (table_of v) node) (m : c ≡ child_count (table_of v) node) where
        kept_range : Range (table_of v) node i c
        kept_range = range_of_lem S X a.given.tab node q.node_in i c e m

        pub kept_in_table : i < i + c → i + c ≤ node_count (table_of v)
        kept_in_table h = range_in S X a.given.tab node q.node_in i c kept_range (omega arith)

        -- the children that the filter keeps are what it selects
        pub kept_same : (x : Selects (plan_of v) (pool_of v) p rest) (R : ℕ) (σ : State) → over x.q (node_at S X R) (kept (filtered x).t (node_at S X R)) S X i (i + c) σ ≡ selection v node p rest x R σ
        kept_same x R σ =
            over_range x.q _ (kept (filtered x).t _) S X i c σ ∙ span_kept x.q (filtered x).t _ S X i c σ
            ∙ select_filter S X a.given.tab node q.node_in i c kept_range x.q _ σ x.x (filtered x).t (filtered x).made

        pub next_asked : (j : ℕ) → i ≤ j → AskNext v (root_of s) j (i + c) (p + 3) (p + 3 + n)
        next_asked j h = record { given = a.given; root_in = a.root_in; range = λ y. kept_in_table (omega arith); test = test_asked }

        pub filter_done : {s' : Numbers} {l' : List ℕ} → Gives (Keeps (plan_of v) (pool_of v) (p + 3) (p + 3 + n) rest) (keeping v (p + 3) (p + 3 + n) rest i (i + c)) s l s' l' → DoneSelector v node p rest s l s' l'
        filter_done g = gives_as _ g (λ x. record { t = (filtered x).t; k = x.k; q = x.q; k' = x.k'; tested = tests x; after = x.stands.after }) kept_same

-- ---- the children of a range

pub record InEach (v : Lent) (i e rest : ℕ) (s₀ : Numbers) (l₀ : MutBor (List ℕ)) (s : Numbers) (l : MutBor (List ℕ)) (j : ℕ) : Type 0 where
  pub low : i ≤ j
  pub going : Going (each v rest i e) (each v rest j e) s₀ l₀ s l

module _ {v : Lent} {i e rest : ℕ} where
  pub each_ended : {s : Numbers} {l : List ℕ} → Asked v s l → AskEach v i e rest → get_or (plan_of v) rest 0 ≡ 0x0A → (l' : List ℕ) (n : ℕ) → st (cap_of s) l' n ≡ emit (numbers_from i (e - i)) (st (cap_of s) l (at_of s)) → DoneEach v i e rest s l (with_at s n) l'
  each_ended {s} {l} a q z l' n m =
      gives_of _ s l (with_at s n) l'
      (λ x. m ∙ sym (over_numbers _ (table_of v) (text_of v) a.given.tab i e _ q.range)
      ∙ ap (λ (f : Segments). over f _ one_of (table_of v) (text_of v) i e (st (cap_of s) l (at_of s))) (sym (is_end (plan_of v) rest x.k x.f x.at.holds z)))

  pub each_none : {s : Numbers} {l : List ℕ} → Asked v s l → e ≤ i → DoneEach v i e rest s l s l
  each_none {s} {l} a h = gives_none _ s l (λ x R σ. sym (over_end x.f _ one_of (table_of v) (text_of v) i e σ h))

  pub numbers_asked : {s : Numbers} {l : List ℕ} → Asked v s l → AskEach v i e rest → i < e → AskNumbers (length l) e (at_of s) (cap_of s)
  numbers_asked a q h = record { room = a.room; wide = a.wide; small = a.small; few = omega (arith, q.range h, a.given.tab.size.few) }

  module _ {s₀ : Numbers} {l₀ : MutBor (List ℕ)} {s : Numbers} {l : MutBor (List ℕ)} {j : ℕ} (t : InEach v i e rest s₀ l₀ s l j) where
    pub each_again : j < e → {s' : Numbers} {l' : MutBor (List ℕ)} → Steady s l s' l' → at_of s' ≤ cap_of s + 1 → DoneSegment v j rest s l.now s' l'.now → InEach v i e rest s₀ l₀ s' l' (j + 1)
    each_again h k b d =
        record {
          low = omega (arith, t.low);
          going = going_step t.going (each v rest (j + 1) e) k b d (λ x. x) (λ x R σ σ' y. over_step x.f _ one_of (table_of v) (text_of v) j e σ σ' h y);
        }

    -- the next node with the segments at rest
    pub each_enters : Asked v s₀ l₀.now → AskEach v i e rest → (get_or (plan_of v) rest 0 ≡ 0x0A → ⊥) → j < e → AskEnter v j rest s l.now
    each_enters a q n h = record { asked = going_asked t.going a; segment = record { node_in = omega (arith, q.range (omega (arith, t.low))); query = q.query }; going = n }

    pub each_full : Asked v s₀ l₀.now → cap_of s < at_of s → DoneEach v i e rest s₀ l₀.now s l.now
    each_full a f = going_full t.going a f (λ x R m k c u w z. over_full x.f _ one_of (table_of v) (text_of v) j e m k c u w z)

    pub each_end : e ≤ j → DoneEach v i e rest s₀ l₀.now s l.now
    each_end h = going_end t.going (λ x R σ. over_end x.f _ one_of (table_of v) (text_of v) j e σ h)

-- ---- the places of a slice

pub record InPlaces (v : Lent) (rest : ℕ) (w₀ : Walk) (s₀ : Numbers) (l₀ : MutBor (List ℕ)) (s : Numbers) (l : MutBor (List ℕ)) (w : Walk) : Type 0 where
  pub inside : Inside (node_count (table_of v)) w
  pub going : Going (placing v rest w₀) (placing v rest w) s₀ l₀ s l

module _ {v : Lent} {rest : ℕ} {w₀ : Walk} {s₀ : Numbers} {l₀ : MutBor (List ℕ)} {s : Numbers} {l : MutBor (List ℕ)} {w : Walk} (t : InPlaces v rest w₀ s₀ l₀ s l w) where
  pub place_in : 0 < w.left → w.at < node_count (table_of v)
  place_in h = inside_at (node_count (table_of v)) w t.inside h

  pub place_near : node_count (table_of v) ≤ max_nodes → Inside max_nodes w
  place_near h = inside_more (node_count (table_of v)) max_nodes w h t.inside

  pub places_again : {s' : Numbers} {l' : MutBor (List ℕ)} {w' : Walk} → Steady s l s' l' → at_of s' ≤ cap_of s + 1 → DoneSegment v w.at rest s l.now s' l'.now → Further w w' → InPlaces v rest w₀ s₀ l₀ s' l' w'
  places_again {w' = w'} k b d f =
      record {
        inside = f.next.inside (node_count (table_of v)) t.inside;
        going = going_step t.going (placing v rest w') k b d (λ x. x) (λ x R σ σ' y. goes_step x.f _ (table_of v) (text_of v) w w' σ σ' f.next y);
      }

  pub places_full : Asked v s₀ l₀.now → cap_of s < at_of s → Gives (Query (plan_of v) (pool_of v) rest) (placing v rest w₀) s₀ l₀.now s l.now
  places_full a f = going_full t.going a f (λ x R m k c u y z. goes_full x.f _ (table_of v) (text_of v) (walked w) m k c u y z)

  pub places_end : w.left ≤ 0 → Gives (Query (plan_of v) (pool_of v) rest) (placing v rest w₀) s₀ l₀.now s l.now
  places_end h = going_end t.going (λ x R σ. sym (goes_end x.f _ (table_of v) (text_of v) w σ h))

-- ---- the children that a test keeps

-- the nodes for which the test fails are passed
module _ {v : Lent} {root j e p z r : ℕ} {call : Bits} (d : DoneNext v root j e p z r call) (rest : ℕ) (x : Keeps (plan_of v) (pool_of v) p z rest) (σ : State) where
  passed_by : r ≤ e → (o b : ℕ) → b + o ≡ r → j ≤ b → keeping v p z rest r e x root σ ≡ keeping v p z rest b e x root σ
  passed_by h zero b u y = let n : r ≡ b = omega arith in ap (λ (m : ℕ). keeping v p z rest m e x root σ) n
  passed_by h (suc o) b u y =
      passed_by h o (b + 1) (omega arith) (omega arith)
      ∙ over_step x.q _ (kept x.t _) (table_of v) (text_of v) b e σ σ (omega arith) (kept_out x.q x.t _ _ σ (d.passed x.t x.k x.tested b y (omega arith)))

  pub passed : r ≤ e → keeping v p z rest r e x root σ ≡ keeping v p z rest j e x root σ
  passed h = let y = d.low in passed_by h (r - j) j (omega arith) (omega arith)

-- node j is the next for which it holds or that meets a call, or e
pub record InFilter (v : Lent) (i e p z rest : ℕ) (s₀ : Numbers) (l₀ : MutBor (List ℕ)) (s : Numbers) (l : MutBor (List ℕ)) (j : ℕ) (call : Bits) : Type 0 where
  pub low : i ≤ j
  pub high : j ≤ e
  pub holds : call ≡ false → j < e → (x : Keeps (plan_of v) (pool_of v) p z rest) → eval_test x.t (node_at (table_of v) (text_of v) (root_of s₀)) (node_at (table_of v) (text_of v) j) ≡ true
  pub going : Going (keeping v p z rest i e) (keeping v p z rest j e) s₀ l₀ s l

pub filter_start : {v : Lent} {i e p z j : ℕ} {call : Bits} (rest : ℕ) (s : Numbers) (l : MutBor (List ℕ)) → Asked v s l.now → i ≤ e → DoneNext v (root_of s) i e p z j call → InFilter v i e p z rest s l s l j call
filter_start {v} {i} {e} {p} {z} {j} rest s l a h d =
    record {
      low = d.low;
      high = d.high h;
      holds = λ n y x. d.holds n y x.t x.k x.tested;
      going = record { kept = steady_refl s l; room = a.room; again = λ x R C r c. subst (λ (R : ℕ). keeping v p z rest j e x R (st C l.now (at_of s)) ≡ keeping v p z rest i e x R (st C l.now (at_of s))) r (passed d rest x _ (d.high h)) };
    }

module _ {v : Lent} {i e p z rest : ℕ} {s₀ : Numbers} {l₀ : MutBor (List ℕ)} {s : Numbers} {l : MutBor (List ℕ)} {j : ℕ} {call : Bits} (t : InFilter v i e p z rest s₀ l₀ s l j call) where
  pub filter_end_all : e ≤ j → Gives (Keeps (plan_of v) (pool_of v) p z rest) (keeping v p z rest i e) s₀ l₀.now s l.now
  filter_end_all h = going_end t.going (λ x R σ. over_end x.q _ (kept x.t _) (table_of v) (text_of v) j e σ h)

  -- those that are left
  pub filter_left : {s' : Numbers} {l' : List ℕ} → Gives (Keeps (plan_of v) (pool_of v) p z rest) (keeping v p z rest j e) s l.now s' l' → Gives (Keeps (plan_of v) (pool_of v) p z rest) (keeping v p z rest i e) s₀ l₀.now s' l'
  filter_left d = going_last t.going d (λ x. x) (λ x R σ. refl)

  module _ (n : call ≡ false) (h : j < e) {s' : Numbers} {l' : MutBor (List ℕ)} (k : Steady s l s' l') (b : at_of s' ≤ cap_of s + 1) (d : DoneSegment v j rest s l.now s' l'.now) where
    kept_one : (x : Keeps (plan_of v) (pool_of v) p z rest) (R : ℕ) → root_of s ≡ R → (σ σ' : State) → σ' ≡ go x.q (node_at (table_of v) (text_of v) R) (node_at (table_of v) (text_of v) j ∷ []) σ → keeping v p z rest (j + 1) e x R σ' ≡ keeping v p z rest j e x R σ
    kept_one x R r σ σ' y =
        over_step x.q _ (kept x.t _) (table_of v) (text_of v) j e σ σ' h
        (kept_in x.q x.t _ _ σ σ' (subst (λ (R : ℕ). eval_test x.t (node_at (table_of v) (text_of v) R) (node_at (table_of v) (text_of v) j) ≡ true) (sym t.going.kept.root ∙ r) (t.holds n h x)) y)

    behind_one : Going (keeping v p z rest i e) (keeping v p z rest (j + 1) e) s₀ l₀ s' l'
    behind_one =
        going_on t.going (keeping v p z rest (j + 1) e) k b
        (λ x R C r c. kept_one x R r _ _ (d.emits (record { f = x.q; k = x.k'; at = x.after }) R C r c))

    pub filter_full : Asked v s₀ l₀.now → cap_of s' < at_of s' → Gives (Keeps (plan_of v) (pool_of v) p z rest) (keeping v p z rest i e) s₀ l₀.now s' l'.now
    filter_full a f = going_full behind_one a f (λ x R m n c u w y. over_full x.q _ (kept x.t _) (table_of v) (text_of v) (j + 1) e m n c u w y)

    pub filter_again : {r : ℕ} {call' : Bits} → DoneNext v (root_of s') (j + 1) e p z r call' → InFilter v i e p z rest s₀ l₀ s' l' r call'
    filter_again {r} f =
        let g = f.low in
        let m : root_of s' ≡ root_of s₀ = k.root ∙ t.going.kept.root in
        record {
          low = omega (arith, t.low);
          high = f.high (omega arith);
          holds = λ o y x. subst (λ (R : ℕ). eval_test x.t (node_at (table_of v) (text_of v) R) (node_at (table_of v) (text_of v) r) ≡ true) m (f.holds o y x.t x.k x.tested);
          going = going_on behind_one (keeping v p z rest r e) (steady_refl s' l') (omega (arith, k.cap, b))
              (λ x R C u c. subst (λ (R : ℕ). keeping v p z rest r e x R (st C l'.now (at_of s')) ≡ keeping v p z rest (j + 1) e x R (st C l'.now (at_of s'))) u (passed f rest x _ (f.high (omega arith))));
        }

-- ---- the first node for which a test holds

pub record InNext (v : Lent) (root i e p z j : ℕ) : Type 0 where
  pub low : i ≤ j
  pub high : i ≤ e → j ≤ e
  pub passed : (t : Test) (k : ℕ) → Tested (plan_of v) (pool_of v) p z t k → (m : ℕ) → i ≤ m → m < j → eval_test t (node_at (table_of v) (text_of v) root) (node_at (table_of v) (text_of v) m) ≡ false

module _ {v : Lent} {root i e p z j : ℕ} (t : InNext v root i e p z j) where
  pub next_found : {b call : Bits} → (call ≡ false → DoneTest (plan_of v) (pool_of v) (table_of v) (text_of v) root j p z b) → b ≡ true → DoneNext v root i e p z j call
  next_found d b = record { low = t.low; high = t.high; passed = t.passed; holds = λ n h x k y. sym (d n x k y) ∙ b }

  pub next_none : {call : Bits} → e ≤ j → DoneNext v root i e p z j call
  next_none h = record { low = t.low; high = t.high; passed = t.passed; holds = λ n y. absurd (omega arith) }

  -- the same, said of the range's end, or of i where that is behind it
  pub next_end : {call : Bits} → e ≤ j → {n : ℕ} → n ≡ max i e → DoneNext v root i e p z n call
  next_end h o = record { low = omega arith; high = λ y. omega arith; passed = λ x k y m u w. t.passed x k y m u (omega (arith, t.low)); holds = λ y w. absurd (omega arith) }

  pub next_again : {b : Bits} → j < e → DoneTest (plan_of v) (pool_of v) (table_of v) (text_of v) root j p z b → b ≡ false → InNext v root i e p z (j + 1)
  next_again h d b =
      record {
        low = omega (arith, t.low);
        high = λ y. omega arith;
        passed = λ x k y m u w. by x k y m u w (eqb m j) refl;
      }
    where
      by : (x : Test) (k : ℕ) → Tested (plan_of v) (pool_of v) p z x k → (m : ℕ) → i ≤ m → m < j + 1 → (c : Bits) → eqb m j ≡ c → eval_test x (node_at (table_of v) (text_of v) root) (node_at (table_of v) (text_of v) m) ≡ false
      by x k y m u w true f = ap (λ (n : ℕ). eval_test x (node_at (table_of v) (text_of v) root) (node_at (table_of v) (text_of v) n)) (eqb-true m j f) ∙ sym (d x k y) ∙ b
      by x k y m u w false f = let n = eqb-false m j f in t.passed x k y m u (omega arith)

-- ---- a filter that is read once, or is not

pub kept_none : (v : Lent) (node p rest : ℕ) (s : Numbers) (l : List ℕ) → DoneKeep v node p rest s l s l false
kept_none v node p rest s l = record { done = λ u. absurd (never u); numbers = λ u. refl; list = λ u. refl }

pub kept_done : (v : Lent) (node p rest : ℕ) (s : Numbers) (l : List ℕ) (s' : Numbers) (l' : List ℕ) → DoneSelector v node p rest s l s' l' → DoneKeep v node p rest s l s' l' true
kept_done v node p rest s l s' l' d = record { done = λ u. d; numbers = λ u. absurd (never (sym u)); list = λ u. absurd (never (sym u)) }

-- where it is not, what follows is done from the same numbers and the same list
pub kept_after : {v : Lent} {node p rest : ℕ} {s : Numbers} {l : List ℕ} {s' : Numbers} {l' : List ℕ} {s'' : Numbers} {l'' : List ℕ} {r : Bits} → DoneKeep v node p rest s l s' l' r → r ≡ false → DoneSelector v node p rest s' l' s'' l'' → DoneSelector v node p rest s l s'' l''
kept_after {v} {node} {p} {rest} {s} {l} {l' = l'} {s'' = s''} {l'' = l''} k e d =
    subst (λ (x : List ℕ). Gives (Selects (plan_of v) (pool_of v) p rest) (selection v node p rest) s x s'' l'') (k.list e)
    (subst (λ (x : Numbers). Gives (Selects (plan_of v) (pool_of v) p rest) (selection v node p rest) x l' s'' l'') (k.numbers e) d)

pub kept_room : {v : Lent} {node p rest : ℕ} {s : Numbers} {l : List ℕ} {s' : Numbers} {l' : List ℕ} {r : Bits} → Asked v s l → DoneKeep v node p rest s l s' l' r → r ≡ false → at_of s' ≤ cap_of s + 1
kept_room {s = s} a k e = subst (λ (x : Numbers). at_of x ≤ cap_of s + 1) (sym (k.numbers e)) a.room

-- a selector that is none of the others is a filter
pub kind_filter : {v : Lent} {s : Numbers} {l : List ℕ} {node p rest : ℕ} → Asked v s l → AskSelector v node p rest → 6 < get_or (plan_of v) p 0 → (get_or (plan_of v) p 0 ≡ 7 → ⊥) → (get_or (plan_of v) p 0 ≡ 8 → ⊥) → get_or (plan_of v) p 0 ≡ 9
kind_filter a q h u w = omega (arith, kind_high q.selects.stands)

-- the node that `$` stands for stays
pub next_later : {v : Lent} {i e p z : ℕ} {s s' : Numbers} {l l' : MutBor (List ℕ)} → Steady s l s' l' → AskNext v (root_of s) i e p z → AskNext v (root_of s') i e p z
next_later k a = let r = k.root in record { given = a.given; root_in = omega (arith, a.root_in); range = a.range; test = a.test }
