-- One node with a query, and the turns of the loops over the nodes of a range and over the places of a slice. Assumes nothing.
use Rattle.std.specs.Prelude.{ℕ, ◌+◌, ◌≤◌, ◌<◌, ◌≡◌, refl, List, length, get_or, Ok, Err}
use Rattle.std.proofs.Common.{ap, ◌∙◌, subst}
use Rattle.definition.specs.Tables.{node_count, depth_at}
use Rattle.table_laws.specs.Accepted.{Accepted}
use Rattle.eval_laws.specs.States.{st, push}
use Rattle.eval_laws.specs.Steps.{segment_end}
use Rattle.eval_laws.specs.Items.{segments_in, is_end}
use Rattle.eval_front.specs.declared.Reached.{Reached}
use Rattle.eval_front.specs.Visits.{Query, node_of, DoneReach, Emitted, Stopped}
use Rattle.eval_front.specs.Places.{push_bound}

-- ---- one node

module _ {P L S X : List ℕ} {node rest : ℕ} {r : Reached} (d : DoneReach P L S X node rest r) where
  -- some query stands where the front of a query leads
  pub reached_in : Query P L rest → r.pc < length P
  reached_in q = let w = d.front q.f q.k q.at in segments_in P L r.pc w.j w.g w.at

  -- the node to which it leads
  module _ {m : ℕ} (e : r.node ≡ Ok m) where
    pub leads_in : m < node_count S
    leads_in = subst (λ (x : ℕ). x < node_count S) (ap node_of e) d.node_in

    pub leads_deeper : depth_at S node ≤ depth_at S m
    leads_deeper = subst (λ (x : ℕ). depth_at S node ≤ depth_at S x) (ap node_of e) d.deeper

  pub visit_more : {m : ℕ} → r.node ≡ Ok m → (get_or P r.pc 0 ≡ 0x0A → ⊥) → {l : List ℕ} → Stopped P L S X node rest l l (record { node = m; pc = r.pc })
  visit_more {m} e n =
      record {
        places = refl;
        paused =
            record {
              node_in = leads_in e;
              deeper = leads_deeper e;
              later = d.later;
              going = n;
              onward = λ f k a. let w = d.front f k a in record { g = w.g; j = w.j; at = w.at; same = w.found m e };
            };
      }

  module _ (cap : ℕ) (l : List ℕ) (at : ℕ) where
    pub visit_lost : {m : ℕ} → r.node ≡ Err m → at ≤ cap + 1 → Emitted P L S X node rest cap l at l at
    visit_lost {m} e h = record { room = h; ended = λ f k a R. (d.front f k a).lost m e R (st cap l at) }

    module _ {m : ℕ} (e : r.node ≡ Ok m) where
      pub visit_end : Accepted S X → get_or P r.pc 0 ≡ 0x0A → (l' : List ℕ) (at' : ℕ) → st cap l' at' ≡ push m (st cap l at) → Emitted P L S X node rest cap l at l' at'
      visit_end tab n l' at' p =
          record {
            room = push_bound cap l l' at at' m p;
            ended = λ f k a R.
                let w = d.front f k a in
                p ∙ segment_end S X tab w.g R m (leads_in e) (st cap l at) (is_end P r.pc w.j w.g w.at.holds n) ∙ w.found m e R (st cap l at);
          }
