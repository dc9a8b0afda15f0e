-- Nodes without lists and maps among their children, under a descendant segment of one selector that ends its query: what is selected of them, one after the
-- other. Assumes nothing.
use Rattle.std.specs.Prelude.{ℕ, ◌+◌, ◌-◌, ◌≤◌, ◌<◌, ◌≡◌, refl, List, Bool as Bits, true, false, length, get_or, eqb, Option, Some, None}
use Rattle.std.proofs.Common.{sym, ap, ◌∙◌, arith, eqb-true}
use Rattle.definition.specs.Limits.{max_plan, max_nodes}
use Rattle.definition.specs.Values.{Json}
use Rattle.definition.specs.Forms.{Segments, Selectors, Selector}
use Rattle.definition.specs.Forms.Segments.{end, descendant}
use Rattle.definition.specs.Forms.Selectors.{one}
use Rattle.definition.specs.Plans.{pool_selectors}
use Rattle.definition.specs.Tables.{node_count, node_at, first_child, child_count}
use Rattle.definition.specs.Evaluation.{eval_selectors, eval_selector}
use Rattle.table_laws.specs.Accepted.{Accepted}
use Rattle.text.specs.Words.{Word}
use Rattle.eval_laws.specs.States.{State, st, push, emit}
use Rattle.eval_laws.specs.Emits.{go, go_end}
use Rattle.eval_laws.specs.Steps.{one_of, below}
use Rattle.eval_laws.specs.Ranges.{Range, range_in}
use Rattle.eval_laws.specs.Items.{SegmentsAt, SelectorAt, Parts, parts, Last, last, segments_in, is_end}
use Rattle.eval_items.specs.Ends.{AskNext, DoneNext}
use Rattle.eval_items.specs.Leaves.{AskOne, DoneOne}
use Rattle.eval_front.specs.Visits.{over, numbers_from, DoneContainer}
use Rattle.eval_front.specs.Overs.{over_step, over_end, over_full, over_numbers, over_passed}
use Rattle.eval_front.specs.Places.{push_bound, emit_room}
use Rattle.eval_front.specs.Fronts.{never}
use Rattle.eval_shortcuts.specs.declared.straight.Passed.{Passed}
use Rattle.eval_front.specs.Stands.{descendant_byte, segments_at, selector_least, one_found, one_absent}
use Rattle.eval_front.specs.Spans.{wildcard_range, below_passed}
use Rattle.eval_shortcuts.specs.Flats.{Bare, AskSelected, DoneSelected, Passes, DoneFlats, InFlats, Lone, DonePlain, DoneStart}

-- ---- a node with nothing below its children

pub bare_empty : (S : List ℕ) (node : ℕ) → child_count S node ≡ 0 → Bare S node
bare_empty S node e m u v = absurd (omega arith)

-- all its children are passed
pub bare_passed : (S : List ℕ) (node first n : ℕ) → Range S node first n → 0 < n → (i : ℕ) → DoneContainer S first (first + n) i → i ≡ first + n → Bare S node
bare_passed S node first n r l i c e m u v = let a = r.first l in let b = r.count in c.passed m (omega arith) (omega arith)

-- all that selectors select of it and below it they select of the node itself
pub bare_below : (S X : List ℕ) (tab : Accepted S X) (node : ℕ) → node < node_count S → Bare S node → (ss : Selectors) (q : Segments) (R : Json) (s : State) → go q R (eval_selectors ss R (node_at S X node)) s ≡ go q R (below ss R (node_at S X node)) s
bare_below S X tab node l b =
    let j = first_child S node in
    let n = child_count S node in
    below_passed S X tab node l j n (record { count = refl; first = λ u. refl }) (j + n) (record { low = omega arith; high = λ u. omega arith; passed = b }) refl

-- ---- what is selected of a node

module _ {P L S X : List ℕ} {node p len at cap : ℕ} (z : AskSelected P L S X node p len at cap) (l : List ℕ) where
  -- what is not a wildcard is a name or an index
  pub selected_one : (get_or P p 0 ≡ 8 → ⊥) → AskOne P L S X p node 5 6
  selected_one n =
      let y = z.plain in
      let g = z.given in
      record { few_p = g.few_p; few_l = g.few_l; tab = g.tab; node_in = z.node_in; x = y.x; k = y.k; at = y.at; kind_low = selector_least P L p y.k y.x y.at; kind_high = let m = y.most in let w = y.whole in omega arith }

  pub selected_absent : (r : Option ℕ) → DoneOne P L S X p node r → r ≡ None → DoneSelected P L S X node p cap l at l at
  selected_absent r d e = record { room = z.list.room; goes = λ x k a R. one_absent S X x R (node_at S X node) end r (st cap l at) e (d.selects x k R a) }

  pub selected_found : (r : Option ℕ) (m : ℕ) → DoneOne P L S X p node r → r ≡ Some m → (l' : List ℕ) (b : ℕ) → st cap l' b ≡ push m (st cap l at) → DoneSelected P L S X node p cap l at l' b
  selected_found r m d e l' b h =
      record {
        room = push_bound cap l l' at b m h;
        goes = λ x k a R. one_found S X x R (node_at S X node) end r m (st cap l at) (st cap l' b) e (d.selects x k R a) (h ∙ sym (go_end S X z.given.tab R m (d.inside m e) (st cap l at)));
      }

  module _ (i n : ℕ) (r : Range S node i n) (w : get_or P p 0 ≡ 8) where
    wildcard_goes : (x : Selector) (k : ℕ) → SelectorAt P L p k x → (R : Json) → over end R one_of S X i (i + n) (st cap l at) ≡ go end R (eval_selector x R (node_at S X node)) (st cap l at)
    wildcard_goes x k a R = wildcard_range P L S X z.given.tab node p i n z.node_in r w x end k a R (st cap l at)

    pub selected_none : n ≡ 0 → DoneSelected P L S X node p cap l at l at
    selected_none e = record { room = z.list.room; goes = λ x k a R. sym (over_end end R one_of S X i (i + n) (st cap l at) (omega arith)) ∙ wildcard_goes x k a R }

    pub selected_all : (l' : List ℕ) (b : ℕ) → st cap l' b ≡ emit (numbers_from i (i + n - i)) (st cap l at) → DoneSelected P L S X node p cap l at l' b
    selected_all l' b h =
        record {
          room = emit_room cap l l' at b _ h z.list.room;
          goes = λ x k a R. h ∙ sym (over_numbers R S X z.given.tab i (i + n) (st cap l at) (λ u. range_in S X z.given.tab node z.node_in i n r (omega arith))) ∙ wildcard_goes x k a R;
        }

-- ---- the nodes of a range in turn

pub passes_none : (i e cap : ℕ) (l : List ℕ) (at : ℕ) → at ≤ cap + 1 → Passes i e cap l l (record { i = i; at = at })
passes_none i e cap l at b = record { low = omega arith; high = λ u. absurd (omega arith); room = b; still = λ u. refl }

pub flats_none : (P L S X : List ℕ) (i e p cap : ℕ) (l : List ℕ) (at : ℕ) → at ≤ cap + 1 → DoneFlats P L S X i e p cap l at l (record { i = i; at = at })
flats_none P L S X i e p cap l at b = record { passes = passes_none i e cap l at b; again = λ x k a R. refl }

module _ {P L S X : List ℕ} {i e p cap : ℕ} {l₀ : List ℕ} {a₀ : ℕ} {l : List ℕ} {a j : ℕ} (t : InFlats P L S X i e p cap l₀ a₀ l a j) (h : j < e) where
  low : i ≤ j
  low = t.done.passes.low

  pub flats_full : cap < a → length l₀ ≤ cap + 1 → DoneFlats P L S X i e p cap l₀ a₀ l (record { i = e; at = a })
  flats_full u w =
      let b = t.done.passes.room in
      record {
        passes = record { low = omega (arith, low); high = λ v. omega arith; room = b; still = λ v. absurd (omega (arith, low)) };
        again = λ x k s R. over_end end R (below (one x) R) S X e e (st cap l a) (omega arith) ∙ sym (over_full end R (below (one x) R) S X j e cap l a u b (omega (arith, t.same))) ∙ t.done.again x k s R;
      }

  pub flats_step : (tab : Accepted S X) → e ≤ node_count S → Bare S j → (l' : List ℕ) (b : ℕ) → length l' ≡ length l → DoneSelected P L S X j p cap l a l' b → (n : ℕ) → DoneContainer S (j + 1) e n → InFlats P L S X i e p cap l₀ a₀ l' b n
  unfolding eval_selectors
  flats_step tab into s l' b m d n c =
      let u = c.low in
      let v = c.high (omega arith) in
      record {
        same = m ∙ t.same;
        done =
            record {
              passes = record { low = omega (arith, low); high = λ w. v; room = d.room; still = λ w. absurd (omega (arith, low)) };
              again = λ x k y R.
                  over_passed end R (one x) S X tab (j + 1) n e (st cap l' b) u v (λ w. into) c.passed
                  ∙ over_step end R (below (one x) R) S X j e (st cap l a) (st cap l' b) h (d.goes x k y R ∙ bare_below S X tab j (omega arith) s (one x) end R (st cap l a))
                  ∙ t.done.again x k y R;
            };
      }

-- ---- the last segment

pub not_plain : (P : List ℕ) (pc : ℕ) → DonePlain P pc false
not_plain P pc = record { most = λ u. absurd (never u); whole = λ u. absurd (never u); lone = λ u. absurd (never u) }

module _ (P L : List ℕ) (few : length P ≤ max_plan) (pc : ℕ) (ss : Selectors) (q : Segments) (k : ℕ) (at : SegmentsAt P L pc k (descendant ss q)) where
  pub below_parts : Parts P L pc k (descendant ss q)
  below_parts = parts P L few pc k (descendant ss q) at (λ z. omega (arith, descendant_byte P L pc k ss q at))

  module _ (n : ℕ) (w : Word 2 P (pc + 1) n) (e : n ≡ 1) where
    lone_last : Last P L (pc + 3) k below_parts.ss
    lone_last = let c = below_parts.count in last P L (pc + 3) k below_parts.ss below_parts.selectors (omega (arith, w.is))

    pub lone_next : AskNext P (pc + 3)
    lone_next = record { few = few; s = lone_last.s; k = k; holds = lone_last.here.holds }

    module _ (rest : ℕ) (d : DoneNext P (pc + 3) rest) where
      lone_after : SegmentsAt P L rest (k + length (pool_selectors below_parts.ss)) below_parts.q
      lone_after = segments_at rest (d lone_last.s k lone_last.here.holds ∙ ap (λ (m : ℕ). pc + 3 + m) (sym lone_last.long)) below_parts.after

      pub lone_rest : rest < length P
      lone_rest = segments_in P L rest _ below_parts.q lone_after

      pub lone_of : get_or P rest 0 ≡ 0x0A → Lone P L (pc + 3) k ss q
      lone_of z =
          let m : descendant ss q ≡ descendant below_parts.ss below_parts.q = below_parts.is_descendant (λ b. omega (arith, descendant_byte P L pc k ss q at)) in
          let a : ss ≡ below_parts.ss = cc in
          let b : q ≡ below_parts.q = cc in
          record { x = lone_last.s; made = a ∙ lone_last.made; at = lone_last.here; ended = b ∙ is_end P rest _ below_parts.q lone_after.holds z }

pub plain_of : {P : List ℕ} (pc : ℕ) → length P ≤ max_plan → (n : ℕ) → Word 2 P (pc + 1) n → n ≡ 1 → (rest : ℕ) → DoneNext P (pc + 3) rest → get_or P (pc + 3) 0 ≤ 8 → (get_or P (pc + 3) 0 ≡ 7 → ⊥) → DonePlain P pc (eqb (get_or P rest 0) 0x0A)
plain_of {P} pc few n w e rest d m h = record { most = λ u. m; whole = λ u. h; lone = λ u L ss q k a. lone_of P L few pc ss q k a n w e rest d (eqb-true (get_or P rest 0) 0x0A u) }

-- what has one selector and nothing behind it is done as that selector
as_lone : (S X : List ℕ) (R : Json) (ss : Selectors) (q : Segments) (x : Selector) → ss ≡ one x → q ≡ end → (i j e : ℕ) (s s' : State) → over end R (below (one x) R) S X i e s ≡ over end R (below (one x) R) S X j e s'
    → over q R (below ss R) S X i e s ≡ over q R (below ss R) S X j e s'
as_lone S X R ss q x m n i j e s s' h = rw (m, n) h

module _ {P L S X : List ℕ} {i e pc cap : ℕ} {l : List ℕ} {at : ℕ} where
  pub start_none : at ≤ cap + 1 → DoneStart P L S X i e pc cap l at l (record { i = i; at = at })
  start_none b = record { passes = passes_none i e cap l at b; again = λ ss q k a R. refl }

  pub start_flats : {b : Bits} {l' : List ℕ} {r : Passed} → DonePlain P pc b → b ≡ true → DoneFlats P L S X i e (pc + 3) cap l at l' r → DoneStart P L S X i e pc cap l at l' r
  start_flats d t f = record { passes = f.passes; again = λ ss q k a R. let y = d.lone t L ss q k a in as_lone S X R ss q y.x y.made y.ended _ i e _ (st cap l at) (f.again y.x k y.at R) }

-- ---- a name or an index whose kind was read

pub only_name : {P L S X : List ℕ} {p node : ℕ} → AskOne P L S X p node 5 6 → get_or P p 0 ≡ 5 → AskOne P L S X p node 5 5
only_name a e = record { few_p = a.few_p; few_l = a.few_l; tab = a.tab; node_in = a.node_in; x = a.x; k = a.k; at = a.at; kind_low = a.kind_low; kind_high = omega arith }

pub selected_in : {P L S X : List ℕ} {p node m : ℕ} → AskOne P L S X p node 5 6 → DoneOne P L S X p node (Some m) → m < max_nodes
selected_in {m = m} a o = omega (arith, o.inside m refl, a.tab.size.few)

-- the same node by a number that was read
pub selected_as : {P L S X : List ℕ} {p node : ℕ} (near j k : ℕ) → j ≡ k → DoneOne P L S X p node (Some (k + near)) → DoneOne P L S X p node (Some (j + near))
selected_as near j k e o = rw e o
