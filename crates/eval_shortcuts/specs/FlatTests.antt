-- A descendant segment whose one selector is a filter that is one test of a member: the test is false for every node that is not a map, so that of nodes without
-- lists and maps among their children nothing is selected, and they are passed. P is the plan, L the pool, S the table, X the text. Assumes nothing.
use Rattle.std.specs.Prelude.{ℕ, zero, suc, ◌+◌, ◌-◌, ◌≤◌, ◌<◌, ◌≡◌, List, Bool as Bits, true, false, eqb, ltb, length, get_or}
use Rattle.std.proofs.Math.Path.{refl, sym}
use Rattle.std.proofs.Common.{ap, ◌∙◌, subst, arith, eqb-true, ltb-true, ltb-false}
use Rattle.std.proofs.lemmas.Bool.{eqb-false}
use Rattle.definition.specs.Bytes.{number, part}
use Rattle.definition.specs.Limits.{max_plan}
use Rattle.definition.specs.Values.{Json}
use Rattle.definition.specs.Forms.{Segments, Selectors, Test}
use Rattle.definition.specs.Forms.Segments.{descendant}
use Rattle.definition.specs.Forms.Selectors.{one}
use Rattle.definition.specs.Forms.Selector.{filter}
use Rattle.definition.specs.Tables.{node_count, node_at, kind_at, kind_list, first_child, child_count}
use Rattle.definition.specs.Evaluation.{eval_selectors, eval_test}
use Rattle.table_laws.specs.Accepted.{Accepted}
use Rattle.text.specs.Words.{Word}
use Rattle.eval_laws.specs.Bytes.{holds_in}
use Rattle.eval_laws.specs.States.{State, st}
use Rattle.eval_laws.specs.Emits.{go}
use Rattle.table_laws.specs.Nodes.{count_scalar}
use Rattle.eval_laws.specs.Steps.{below, kept, kept_out, span_kept}
use Rattle.eval_laws.specs.Ranges.{Range, range_in, select_filter}
use Rattle.eval_laws.specs.Items.{SegmentsAt, Parts, last, is_filter}
use Rattle.eval_front.specs.Visits.{Given, over, DoneContainer}
use Rattle.eval_front.specs.Overs.{over_step, over_end}
use Rattle.eval_front.specs.Fronts.{never}
use Rattle.eval_filters.specs.Kept.{Tested}
use Rattle.eval_filters.specs.Atoms.{AskCode, DoneAtom}
use Rattle.eval_filters.specs.Scalars.{scalar_false}
use Rattle.eval_filters.specs.declared.atoms.Atom.{Atom}
use Rattle.eval_front.specs.Stands.{descendant_byte}
use Rattle.eval_front.specs.Spans.{over_range}
use Rattle.eval_shortcuts.specs.Flats.{Bare, AskMember, MemberAt, DoneMember, DoneSkipped, DoneStart}
use Rattle.eval_shortcuts.specs.FlatLaws.{bare_empty, bare_below, below_parts}

-- ---- the filter

pub not_member : (P : List ℕ) (pc : ℕ) → DoneMember P pc false
not_member P pc u = absurd (never u)

-- the selectors ss are one filter, and its test stands behind its size
pub record Sole (P L : List ℕ) (pc k : ℕ) (ss : Selectors) : Type 0 where
  pub x : Test
  pub made : ss ≡ one (filter x)
  pub bound : pc + 3 + 3 ≤ length P
  pub tested : Tested P L (pc + 3 + 3) (pc + 3 + 3 + number (part P (pc + 3 + 1) 2)) x k

pub sole : {P L : List ℕ} → length P ≤ max_plan → length L ≤ max_plan → (pc : ℕ) (ss : Selectors) (q : Segments) (k : ℕ) → SegmentsAt P L pc k (descendant ss q) → number (part P (pc + 1) 2) ≡ 1 → get_or P (pc + 3) 0 ≡ 9 → Sole P L pc k ss
sole {P} {L} few few_l pc ss q k at n f =
    let y = below_parts P L few pc ss q k at in
    let c = y.count in
    let l = last P L (pc + 3) k y.ss y.selectors (omega arith) in
    let g = is_filter P L few few_l (pc + 3) k l.s l.here (λ z. omega arith) (λ z. omega arith) (λ z. omega arith) (λ z. omega arith) in
    let m : descendant ss q ≡ descendant y.ss y.q = y.is_descendant (λ b. omega (arith, descendant_byte P L pc k ss q at)) in
    let a : ss ≡ y.ss = cc in
    record { x = g.t; made = a ∙ l.made ∙ ap one g.made; bound = g.bound; tested = record { test = g.test; place = ap (λ (z : ℕ). pc + 3 + 3 + z) g.count } }

-- what may be read, test by test
module _ {P : List ℕ} {pc : ℕ} (a : AskMember P pc) where
  pub member_parts : Parts P a.L pc a.k (descendant a.ss a.q)
  member_parts = below_parts P a.L a.few pc a.ss a.q a.k a.at

  module _ (n : ℕ) (w : Word 2 P (pc + 1) n) (e : n ≡ 1) (f : get_or P (pc + 3) 0 ≡ 9) where
    member_alone : number (part P (pc + 1) 2) ≡ 1
    member_alone = sym w.is ∙ e

    member_sole : Sole P a.L pc a.k a.ss
    member_sole = sole a.few a.few_l pc a.ss a.q a.k a.at member_alone f

    pub member_bound : pc + 3 + 3 ≤ length P
    member_bound = member_sole.bound

    module _ (c : ℕ) (v : Word 2 P (pc + 3 + 1) c) (m : pc + 3 + 3 < pc + 3 + 3 + c) where
      pub member_atom : AskCode P (pc + 3 + 3) (pc + 3 + 3 + c)
      member_atom =
          let y = member_sole.tested in
          let b = member_bound in
          let f = a.few in
          record { few = f; inside = omega (arith, holds_in P (pc + 3 + 3) _ y.test.holds, y.place, v.is); near = omega arith }

      pub member_of : (t : Atom) → DoneAtom P (pc + 3 + 3) (pc + 3 + 3 + c) t → (t.form ≡ 0 → ⊥) → DoneMember P pc (eqb t.next (pc + 3 + 3 + c))
      member_of t d i u = record { alone = member_alone; filter_is = f; z = pc + 3 + 3 + c; size = ap (λ (z : ℕ). pc + 3 + 3 + z) v.is; more = m; t = t; test = d i; whole = eqb-true t.next (pc + 3 + 3 + c) u }

-- ---- nodes with nothing below their children

-- nodes for which the test is false
none_kept : (S X : List ℕ) (q : Segments) (R : Json) (x : Test) (s : State) (c i e : ℕ) → e - i ≡ c → ((m : ℕ) → i ≤ m → m < e → eval_test x R (node_at S X m) ≡ false) → over q R (kept x R) S X i e s ≡ s
none_kept S X q R x s zero i e z p = over_end q R (kept x R) S X i e s (omega arith)
none_kept S X q R x s (suc c) i e z p =
    let l : i < e = omega arith in
    sym (over_step q R (kept x R) S X i e s s l (kept_out q x R (node_at S X i) s (p i (omega arith) l))) ∙ none_kept S X q R x s c (i + 1) e (omega arith) (λ m u v. p m (omega arith) v)

-- x is a test that is false for all that is neither a list nor a map
module _ (S X : List ℕ) (tab : Accepted S X) (q : Segments) (R : Json) (x : Test) (f : (m : ℕ) → m < node_count S → kind_at S m < kind_list → eval_test x R (node_at S X m) ≡ false) where
  bare_none : (node : ℕ) → node < node_count S → Bare S node → (s : State) → s ≡ go q R (below (one (filter x)) R (node_at S X node)) s
  unfolding eval_selectors
  bare_none node l b s =
      let j = first_child S node in
      let n = child_count S node in
      let r : Range S node j n = record { count = refl; first = λ u. refl } in
      sym (none_kept S X q R x s n j (j + n) (omega arith) (λ m u v. f m (omega (arith, range_in S X tab node l j n r (omega arith))) (b m u v)))
      ∙ over_range q R (kept x R) S X j n s
      ∙ span_kept q x R S X j n s
      ∙ select_filter S X tab node l j n r q R s (filter x) x refl
      ∙ bare_below S X tab node l b (one (filter x)) q R s

  bare_by : (n i r e : ℕ) (s : State) → i + n ≡ r → r ≤ e → (i < e → e ≤ node_count S) → ((m : ℕ) → i ≤ m → m < r → Bare S m) → over q R (below (one (filter x)) R) S X r e s ≡ over q R (below (one (filter x)) R) S X i e s
  bare_by zero i r e s z b g p = let y : r ≡ i = omega arith in ap (λ (j : ℕ). over q R (below (one (filter x)) R) S X j e s) y
  bare_by (suc n) i r e s z b g p =
      let l : i < e = omega arith in
      let c = g l in
      bare_by n (i + 1) r e s (omega arith) b (λ u. c) (λ m u v. p m (omega arith) v) ∙ over_step q R (below (one (filter x)) R) S X i e s s l (bare_none i (omega arith) (p i (omega arith) (omega arith)) s)

-- the loop that passes them
pub skipped_none : (S : List ℕ) (i e : ℕ) → DoneSkipped S i e i
skipped_none S i e = record { low = omega arith; high = λ u. u; bare = λ m u v. absurd (omega arith) }

pub skipped_step : {S : List ℕ} {i e j : ℕ} → DoneSkipped S i e j → j < e → Bare S j → (n : ℕ) → DoneContainer S (j + 1) e n → DoneSkipped S i e n
skipped_step {S} {i} {e} {j} d l b n c =
    let u = d.low in
    let v = c.low in
    record { low = omega arith; high = λ w. c.high (omega arith); bare = λ m y z. by m y z (ltb m j) refl (eqb m j) refl }
  where
    by : (m : ℕ) → i ≤ m → m < n → (x : Bits) → ltb m j ≡ x → (w : Bits) → eqb m j ≡ w → Bare S m
    by m y z true g w k = d.bare m y (ltb-true m j g)
    by m y z false g true k = let h : j ≡ m = sym (eqb-true m j k) in subst (Bare S) h b
    by m y z false g false k = let h = eqb-false m j k in let o = c.passed m (omega (arith, ltb-false m j g)) z in bare_empty S m (count_scalar S m (omega arith))

-- ---- the segment

-- what has one filter is done as that filter
as_sole : (S X : List ℕ) (R : Json) (ss : Selectors) (q : Segments) (x : Test) → ss ≡ one (filter x) → (i j e : ℕ) (s : State) → over q R (below (one (filter x)) R) S X i e s ≡ over q R (below (one (filter x)) R) S X j e s
    → over q R (below ss R) S X i e s ≡ over q R (below ss R) S X j e s
as_sole S X R ss q x m i j e s h = rw m h

pub start_skipped : {P L S X : List ℕ} {i e pc cap : ℕ} {l : List ℕ} {at r : ℕ} → Given P L S X → at ≤ cap + 1 → i < e → e ≤ node_count S → MemberAt P pc → DoneSkipped S i e r → DoneStart P L S X i e pc cap l at l (record { i = r; at = at })
start_skipped {P} {L} {S} {X} {i} {e} {pc} {cap} {l} {at} {r} g room h into w d =
    let v = d.low in
    let z : r ≤ e = d.high (omega arith) in
    record {
      passes = record { low = v; high = λ u. z; room = room; still = λ u. refl };
      again = λ ss q k a R.
          let y = sole g.few_p g.few_l pc ss q k a w.alone w.filter_is in
          let t : Tested P L (pc + 3 + 3) w.z y.x k = subst (λ (x : ℕ). Tested P L (pc + 3 + 3) x y.x k) (sym w.size) y.tested in
          as_sole S X R ss q y.x y.made r i e (st cap l at)
          (bare_by S X g.tab q R y.x (λ m b c. scalar_false g b (λ u. absurd (omega arith)) w.test w.more w.whole R y.x k t) (r - i) i r e (st cap l at) (omega arith) z (λ u. into) d.bare);
    }
