-- Where evaluation begins: the names and indices at the front of a query, and what follows them. P is the plan, L the pool, S the table, X the text. Assumes
-- nothing.
use Rattle.std.specs.Prelude.{Ok, Err, ℕ, ◌<◌, ◌≡◌, List, length, get_or}
use Rattle.std.proofs.Common.{ap, ◌∙◌, subst, arith}
use Rattle.definition.specs.Tables.{node_at}
use Rattle.eval_laws.specs.States.{st, push}
use Rattle.eval_laws.specs.Steps.{segment_end}
use Rattle.eval_laws.specs.Items.{is_end, segments_in}
use Rattle.eval_front.specs.Visits.{node_of, AskPush, AskReach, DoneReach}
use Rattle.eval_front.specs.Turns.{leads_in}
use Rattle.eval_front.specs.declared.Reached.{Reached}
use Rattle.eval_asks.specs.Asks.{Begins, AskSegments, DoneSegments}

-- ---- the front of a query

pub front_asked : {P L S X : List ℕ} {root node len at cap pc : ℕ} → Begins P L S X root node len at cap → AskSegments P L pc → AskReach P L S X node pc
front_asked a q = record { given = record { few_p = a.few_p; few_l = a.few_l; tab = a.tab }; node_in = a.node_in; query = record { f = q.f; k = q.k; at = q.at } }

module _ {P L S X : List ℕ} {root node len at cap pc : ℕ} (a : Begins P L S X root node len at cap) (q : AskSegments P L pc) {v : Reached} (d : DoneReach P L S X node pc v) where
  -- it leads nowhere
  pub front_lost : {m : ℕ} → v.node ≡ Err m → (l : List ℕ) → DoneSegments cap P L S X root node pc l at l at
  front_lost {m} e l f k b = (d.front f k b).lost m e (node_at S X root) (st cap l at)

  -- where it leads, what follows selects
  pub front_on : {m : ℕ} → v.node ≡ Ok m → (l l' : List ℕ) (r : ℕ) → DoneSegments cap P L S X root m v.pc l at l' r → DoneSegments cap P L S X root node pc l at l' r
  front_on {m} e l l' r y f k b = let w = d.front f k b in y w.g w.j w.at ∙ w.found m e (node_at S X root) (st cap l at)

  -- nothing follows
  pub front_end : {m : ℕ} → v.node ≡ Ok m → get_or P v.pc 0 ≡ 0x0A → (l l' : List ℕ) (r : ℕ) → st cap l' r ≡ push m (st cap l at) → DoneSegments cap P L S X root node pc l at l' r
  front_end {m} e n l l' r p = front_on e l l' r (λ f k b. p ∙ segment_end S X a.tab f (node_at S X root) m (leads_in d e) (st cap l at) (is_end P v.pc k f b.holds n))

  pub front_in : v.pc < length P
  front_in = let w = d.front q.f q.k q.at in segments_in P L v.pc w.j w.g w.at

  -- the node to which it leads, or the last that was reached
  pub front_push : AskPush len at (node_of v.node) cap
  front_push = record { room = a.room; wide = a.wide; small = a.small; number = omega (arith, d.node_in, a.tab.size.few) }

  pub front_found : {m : ℕ} → v.node ≡ Ok m → AskPush len at m cap
  front_found e = subst (λ (x : ℕ). AskPush len at x cap) (ap node_of e) front_push
