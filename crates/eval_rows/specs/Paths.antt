-- Names and indices that lead to the end of a query: what stands in the plan, what the functions ask and give, and the turns of their loops. P is the plan, L the
-- pool, S the table, X the text. Assumes nothing.
use Rattle.std.specs.Prelude.{ℕ, ◌+◌, ◌≤◌, ◌<◌, ◌≡◌, List, length, get_or, Option, Some, None, Ok, Err}
use Rattle.std.specs.Result.{is_ok}
use Rattle.std.proofs.Common.{sym, ap, ◌∙◌, subst, arith}
use Rattle.definition.specs.Limits.{max_plan}
use Rattle.definition.specs.Forms.{Segments}
use Rattle.definition.specs.Plans.{code_segments}
use Rattle.eval_laws.specs.Items.{SegmentsAt, parts, segments_in, end_long}
use Rattle.eval_items.specs.Ends.{AskNext, DoneNext}
use Rattle.eval_items.specs.Leaves.{AskOne, DoneOne}
use Rattle.eval_front.specs.Visits.{Query, Given, Head, AskReach, DoneReach}
use Rattle.eval_front.specs.Loops.{InReach}
use Rattle.eval_front.specs.Fronts.{never, Single, single, along_start, one_asked, reach_next, done_lost, done_found}
use Rattle.eval_front.specs.declared.Reached.{Reached}

-- names and indices lead from c to the end of the query at e
pub data Leads (P : List ℕ) (e : ℕ) : ℕ → Type 0 where
  stop : (c : ℕ) → c ≡ e → get_or P c 0 ≡ 0x0A → Leads P e c
  step : (c c' kind : ℕ) → 5 ≤ kind → kind ≤ 6 → Head P c kind → c < c' → DoneNext P (c + 3) c' → Leads P e c' → Leads P e c

pub leads_end : {P : List ℕ} {e c : ℕ} → Leads P e c → get_or P e 0 ≡ 0x0A
leads_end {P} (stop c i h) = subst (λ (x : ℕ). get_or P x 0 ≡ 0x0A) i h
leads_end (step c c' kind l u d h n r) = leads_end r

pub leads_low : {P : List ℕ} {e c : ℕ} → Leads P e c → c ≤ e
leads_low (stop c i h) = omega arith
leads_low (step c c' kind l u d h n r) = omega (arith, leads_low r)

-- the query that stands there ends behind e
pub leads_past : {P L : List ℕ} {e c : ℕ} → length P ≤ max_plan → Leads P e c → {k : ℕ} {f : Segments} → SegmentsAt P L c k f → e + 1 ≡ c + length (code_segments f k)
leads_past {P} few (stop c i h) {k} {f} a = let n = end_long P c k f a.holds h in omega arith
leads_past {P} {L} {e} few (step c c' kind l u d h n r) {k} {f} a =
    let y = single few d a in
    let p = n y.x k y.here.holds in
    let b : SegmentsAt P L c' y.j' y.behind = subst (λ (x : ℕ). SegmentsAt P L x y.j' y.behind) (sym p) y.after in
    let m = leads_past few r b in
    let w = y.long in
    omega arith

-- the segment at c, where c is not the end
pub record Onward (P : List ℕ) (e c : ℕ) : Type 0 where
  pub kind : ℕ
  pub low : 5 ≤ kind
  pub high : kind ≤ 6
  pub head : Head P c kind
  pub next : ℕ
  pub later : c < next
  pub past : DoneNext P (c + 3) next
  pub leads : Leads P e next

pub leads_onward : {P : List ℕ} {e c : ℕ} → Leads P e c → c < e → Onward P e c
leads_onward (stop c i h) l = absurd (omega arith)
leads_onward (step c c' kind l u d h n r) m = record { kind = kind; low = l; high = u; head = d; next = c'; later = h; past = n; leads = r }

-- ---- a query is read

pub record AskPath (P : List ℕ) (pc : ℕ) : Type 0 where
  pub few : length P ≤ max_plan
  pub L : List ℕ
  pub query : Query P L pc

pub path_in : {P : List ℕ} {pc : ℕ} → AskPath P pc → pc < length P
path_in {P} {pc} a = segments_in P a.L pc a.query.k a.query.f a.query.at

-- four bytes at least stand where it does not end
pub path_bound : {P : List ℕ} {pc : ℕ} → AskPath P pc → (get_or P pc 0 ≡ 0x0A → ⊥) → pc + 4 ≤ length P
path_bound {P} {pc} a n = omega (arith, (parts P a.L a.few pc a.query.k a.query.f a.query.at n).bound)

-- what leads from q on leads from pc on
pub record InPath (P : List ℕ) (pc q : ℕ) : Type 0 where
  pub ask : AskPath P q
  pub leads : (e : ℕ) → Leads P e q → Leads P e pc

-- a name or an index further
pub path_next : {P : List ℕ} {pc q : ℕ} (i : InPath P pc q) (kind : ℕ) → 5 ≤ kind → kind ≤ 6 → Head P q kind → (q' : ℕ) → q < q' → DoneNext P (q + 3) q' → InPath P pc q'
path_next {P} {pc} {q} i kind l u d q' h n =
    let a = i.ask in
    let y = single a.few d a.query.at in
    let p = n y.x a.query.k y.here.holds in
    record {
      ask = record { few = a.few; L = a.L; query = record { f = y.behind; k = y.j'; at = subst (λ (x : ℕ). SegmentsAt P a.L x y.j' y.behind) (sym p) y.after } };
      leads = λ e r. i.leads e (step q q' kind l u d h n r);
    }

-- ---- it is followed

pub record DoneFollow (P L S X : List ℕ) (node pc e : ℕ) (r : Reached) : Type 0 where
  pub reach : DoneReach P L S X node pc r
  pub ends : (m : ℕ) → r.node ≡ Ok m → r.pc ≡ e

pub record InFollow (P L S X : List ℕ) (node pc e m q : ℕ) : Type 0 where
  pub reach : InReach P L S X node pc m q
  pub leads : Leads P e q

pub follow_start : {P L S X : List ℕ} {node pc e : ℕ} → AskReach P L S X node pc → Leads P e pc → InFollow P L S X node pc e node pc
follow_start a r = record { reach = record { node_in = a.node_in; deeper = omega arith; later = omega arith; query = a.query; front = λ f k at. along_start at }; leads = r }

module _ {P L S X : List ℕ} {node pc e m q : ℕ} (z : Given P L S X) (i : InFollow P L S X node pc e m q) where
  pub follow_in : q < length P
  follow_in = segments_in P L q i.reach.query.k i.reach.query.f i.reach.query.at

  pub follow_end : e ≤ q → DoneFollow P L S X node pc e (record { node = Ok m; pc = q })
  follow_end h =
      let l = leads_low i.leads in
      record { reach = done_found i.reach; ends = λ n u. omega arith }

  module _ (h : q < e) where
    here : Onward P e q
    here = leads_onward i.leads h

    alone : Single P L q i.reach.query.k i.reach.query.f
    alone = single z.few_p here.head i.reach.query.at

    pub follow_one : AskOne P L S X (q + 3) m 5 6
    follow_one =
        let a = one_asked z i.reach here.head in
        let k = here.head.kind_is in
        record { few_p = a.few_p; few_l = a.few_l; tab = a.tab; node_in = a.node_in; x = a.x; k = a.k; at = a.at; kind_low = omega (arith, here.low); kind_high = omega (arith, here.high) }

    pub follow_next : AskNext P (q + 3)
    follow_next = record { few = z.few_p; s = alone.x; k = i.reach.query.k; holds = alone.here.holds }

    pub follow_lost : (r : Option ℕ) → DoneOne P L S X (q + 3) m r → r ≡ None → DoneFollow P L S X node pc e (record { node = Err m; pc = q })
    follow_lost r o a = record { reach = done_lost z i.reach here.head r o a; ends = λ n u. absurd (never (ap is_ok u)) }

    -- both say where the next segment stands
    same_next : (q' : ℕ) → DoneNext P (q + 3) q' → q' ≡ here.next
    same_next q' n = let y = alone in n y.x i.reach.query.k y.here.holds ∙ sym (here.past y.x i.reach.query.k y.here.holds)

    pub follow_later : (q' : ℕ) → DoneNext P (q + 3) q' → q < q'
    follow_later q' n = omega (arith, same_next q' n, here.later)

    pub follow_again : (r : Option ℕ) → DoneOne P L S X (q + 3) m r → (n : ℕ) → r ≡ Some n → (q' : ℕ) → DoneNext P (q + 3) q' → InFollow P L S X node pc e n q'
    follow_again r o n a q' v =
        record { reach = reach_next z i.reach here.head r o n a q' v; leads = subst (Leads P e) (sym (same_next q' v)) here.leads }
