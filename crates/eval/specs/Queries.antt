-- A query in a filter's code: where it begins, that evaluation from there is what is asked for, and what the registers hold behind it. Assumes nothing.
use Rattle.std.specs.Prelude.{Ok, ℕ, ◌+◌, ◌≤◌, ◌<◌, ◌≡◌, refl, List, [], ◌∷◌, Bool as Bits, length, get_or}
use Rattle.std.proofs.Common.{ap, ◌∙◌, subst, arith}
use Rattle.definition.specs.Limits.{max_int}
use Rattle.definition.specs.Values.{Json}
use Rattle.definition.specs.Forms.{Segments}
use Rattle.definition.specs.Tables.{node_count, node_at}
use Rattle.definition.specs.Evaluation.{eval_segments}
use Rattle.table_laws.specs.Accepted.{Accepted}
use Rattle.eval_laws.specs.States.{State, st, emit}
use Rattle.eval_laws.specs.Segments.{ids}
use Rattle.eval_laws.specs.Emits.{go}
use Rattle.eval_laws.specs.Items.{SegmentsAt}
use Rattle.eval_laws.specs.Operations.{ask_of}
use Rattle.eval_laws.specs.Founds.{Found, cap_most, found_at}
use Rattle.eval_laws.specs.Todos.{QueryAt, todo_in, at_query}
use Rattle.eval_values.specs.Means.{meaning}
use Rattle.eval_items.specs.Leaves.{Doing, begins_at, cap_for}
use Rattle.eval_items.specs.declared.Regs.{Regs}
use Rattle.eval_front.specs.Visits.{DoneReach}
use Rattle.eval_front.specs.declared.Reached.{Reached}
use Rattle.eval_filters.specs.Queries.{Past, begins_root, begins_node}
use Rattle.eval_asks.specs.Asks.{AskQuery, DoneQuery, DoneAnswer}

-- ---- the cap of a query

pub cap_small : (cap m : ℕ) → cap ≡ cap_for m → cap + 1 ≤ max_int
cap_small cap m e = let w = cap_most (ask_of m) in omega arith

-- ---- the query that stands there

module _ (P L S X : List ℕ) (root node : ℕ) (s : Regs) (from : ℕ) (b : from ≡ begins_at (get_or P s.q 0) root node) where
  query_here : (e : ℕ) (want : Bits) → Doing P L S X s e (node_at S X root) (node_at S X node) want → s.q < e → get_or P s.q 0 ≤ 2
      → QueryAt P L s.q e (node_at S X root) (node_at S X node) s.acc (meaning S X L s.x) (meaning S X L s.y) want (node_at S X from)
  query_here e want t m low =
      at_query P L s.q e (node_at S X root) (node_at S X node) s.acc (meaning S X L s.x) (meaning S X L s.y) want t m low (node_at S X from)
      (λ z. ap (node_at S X) (b ∙ begins_root _ root node z)) (λ z. ap (node_at S X) (b ∙ begins_node _ root node z))

  -- what the answer to what is asked of the query leaves
  pub query_done : (a : AskQuery P L S X root node s) (mode z n first : ℕ) (r : Regs) → Past P L (s.q + 1) z → mode ≡ get_or P z 0 → DoneAnswer S X s mode z n first r
      → ((f : Segments) (k : ℕ) → SegmentsAt P L (s.q + 1) k f → Found S X (eval_segments f (node_at S X from) (node_at S X from ∷ [])) (cap_for mode) n first)
      → DoneQuery P L S X root node s r
  query_done a mode z n first r p m d f =
      record {
        pair = d.pair L a.pair.second;
        further = d.further;
        goes = λ e want t u.
            let y = query_here e want t u a.kind in
            d.goes P L e (node_at S X root) (node_at S X node) want (node_at S X from) y (p y.f y.k y.at) m (f y.f y.k y.at);
      }

-- some query stands there, and behind it a byte
pub record Here (P L : List ℕ) (q : ℕ) : Type 0 where
  pub inside : q < length P
  pub f : Segments
  pub k : ℕ
  pub at : SegmentsAt P L (q + 1) k f
  pub ends : (z : ℕ) → Past P L (q + 1) z → (q < z) × (z < length P)

pub here : {P L S X : List ℕ} {root node : ℕ} {s : Regs} → AskQuery P L S X root node s → Here P L s.q
here {P} {L} {S} {X} {root} {node} {s} a =
    let y = query_here P L S X root node s (begins_at (get_or P s.q 0) root node) refl a.e a.want a.todo a.more a.kind in
    let b = y.bound in
    record {
      inside = todo_in P L s.q a.e _ _ s.acc _ _ a.want a.todo a.more;
      f = y.f;
      k = y.k;
      at = y.at;
      ends = λ z p. let e = p y.f y.k y.at in (omega arith, omega arith);
    }

-- what evaluation finds with one place
pub nested_found : (P L S X : List ℕ) → Accepted S X → (from pc mode cap : ℕ) → from < node_count S → cap ≡ cap_for mode → (l : List ℕ) (n : ℕ)
    → ((f : Segments) (k : ℕ) → SegmentsAt P L pc k f → st cap l n ≡ go f (node_at S X from) (node_at S X from ∷ []) (st cap (0 ∷ []) 0))
    → (f : Segments) (k : ℕ) → SegmentsAt P L pc k f → Found S X (eval_segments f (node_at S X from) (node_at S X from ∷ [])) (cap_for mode) n (get_or l 0 0)
nested_found P L S X tab from pc mode cap h e l n d f k a =
    subst (λ (c : ℕ). Found S X (eval_segments f (node_at S X from) (node_at S X from ∷ [])) c n (get_or l 0 0)) e (found_at S X tab from h f cap l n (d f k a))

-- its one place holds a node's number, or 0 still
head_by : (S : List ℕ) (js : List Json) (cap n : ℕ) (l : List ℕ) → 0 < node_count S → (0 < length js → get_or l 0 0 < node_count S) → st cap l n ≡ emit (ids js) (st cap (0 ∷ []) 0) → get_or l 0 0 < node_count S
unfolding emit
head_by S [] cap n l h g e = rw (ap (λ (s : State). s.places) e) h
head_by S (x ∷ xs) cap n l h g e = g (omega arith)

pub nested_head : (S X : List ℕ) → Accepted S X → (from cap : ℕ) → from < node_count S → (l : List ℕ) (n : ℕ) (f : Segments) → st cap l n ≡ go f (node_at S X from) (node_at S X from ∷ []) (st cap (0 ∷ []) 0) → get_or l 0 0 < node_count S
unfolding go
nested_head S X tab from cap h l n f e =
    let y = found_at S X tab from h f cap l n e in
    let m = y.number in
    head_by S (eval_segments f (node_at S X from) (node_at S X from ∷ [])) cap n l (omega arith) (λ v. y.inside (omega arith)) e

-- ---- where the names and indices at its front lead

module _ (P L S X : List ℕ) (tab : Accepted S X) (from q : ℕ) (h : from < node_count S) (r : Reached) (d : DoneReach P L S X from (q + 1) r) where
  -- to where evaluation begins
  pub walk_found : {m : ℕ} → r.node ≡ Ok m → (cap : ℕ) (l : List ℕ) (n : ℕ) → ((g : Segments) (j : ℕ) → SegmentsAt P L r.pc j g → st cap l n ≡ go g (node_at S X from) (node_at S X m ∷ []) (st cap (0 ∷ []) 0))
      → (f : Segments) (k : ℕ) → SegmentsAt P L (q + 1) k f → st cap l n ≡ go f (node_at S X from) (node_at S X from ∷ []) (st cap (0 ∷ []) 0)
  walk_found {m} e cap l n w f k a = let y = d.front f k a in w y.g y.j y.at ∙ y.found m e (node_at S X from) _
