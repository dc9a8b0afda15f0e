-- A range of nodes with names and indices behind it: what is asked and given, the invariant of the loop over the nodes, and its turns. Each answer holds for every form
-- whose code stands there. P is the plan, L the pool, S the table, X the text. Assumes nothing.
use Rattle.std.specs.Prelude.{ℕ, ◌+◌, ◌≤◌, ◌<◌, ◌≡◌, refl, List, length}
use Rattle.std.proofs.Common.{ap, ◌∙◌, arith}
use Rattle.definition.specs.Values.{Json}
use Rattle.definition.specs.Forms.{Segments}
use Rattle.definition.specs.Tables.{node_count}
use Rattle.eval_laws.specs.States.{st}
use Rattle.eval_laws.specs.Steps.{one_of}
use Rattle.eval_laws.specs.Items.{SegmentsAt}
use Rattle.eval_front.specs.Visits.{Given, Query, AskVisit, Emitted, Stopped, over}
use Rattle.eval_front.specs.Overs.{over_step}
use Rattle.eval_front.specs.Spans.{Room}
use Rattle.eval_front.specs.declared.More.{More}
use Rattle.eval_shortcuts.specs.declared.straight.Passed.{Passed}

pub record AskAlong (P L S X : List ℕ) (i e rest len at cap : ℕ) : Type 0 where
  pub given : Given P L S X
  pub range : i < e → e ≤ node_count S
  pub query : Query P L rest
  pub list : Room len at cap

-- the nodes from j on are left, and those before it are done
pub record InAlong (P L S X : List ℕ) (i e rest cap : ℕ) (l₀ : List ℕ) (a₀ : ℕ) (l : List ℕ) (a j : ℕ) : Type 0 where
  pub low : i ≤ j
  pub high : i ≤ e → j ≤ e
  pub same : length l ≡ length l₀
  pub room : a ≤ cap + 1
  pub again : (f : Segments) (k : ℕ) → SegmentsAt P L rest k f → (R : Json) → over f R one_of S X j e (st cap l a) ≡ over f R one_of S X i e (st cap l₀ a₀)

pub record DoneAlong (P L S X : List ℕ) (i e rest cap : ℕ) (l : List ℕ) (at : ℕ) (l' : List ℕ) (r : Passed) : Type 0 where
  pub low : i ≤ r.i
  pub high : i ≤ e → r.i ≤ e
  pub room : r.at ≤ cap + 1
  pub again : (f : Segments) (k : ℕ) → SegmentsAt P L rest k f → (R : Json) → over f R one_of S X r.i e (st cap l' r.at) ≡ over f R one_of S X i e (st cap l at)

pub along_start : (P L S X : List ℕ) (i e rest cap : ℕ) (l : List ℕ) (a : ℕ) → a ≤ cap + 1 → InAlong P L S X i e rest cap l a l a i
along_start P L S X i e rest cap l a h = record { low = omega arith; high = λ u. u; same = refl; room = h; again = λ f k q R. refl }

module _ {P L S X : List ℕ} {i e rest cap : ℕ} {l₀ : List ℕ} {a₀ : ℕ} {l : List ℕ} {a j : ℕ} (t : InAlong P L S X i e rest cap l₀ a₀ l a j) where
  pub along_done : DoneAlong P L S X i e rest cap l₀ a₀ l (record { i = j; at = a })
  along_done = record { low = t.low; high = t.high; room = t.room; again = t.again }

  pub along_visit : {at : ℕ} → AskAlong P L S X i e rest (length l₀) at cap → j < e → AskVisit P L S X j rest (length l) a cap
  along_visit s h =
      let b = t.low in
      record { given = s.given; node_in = omega (arith, s.range (omega arith)); query = s.query; room = t.room; wide = omega (arith, t.same, s.list.wide); small = s.list.small }

  module _ {l' : List ℕ} (h : j < e) where
    -- a node that needs more is left
    pub along_stop : {m : More} → Stopped P L S X j rest l l' m → DoneAlong P L S X i e rest cap l₀ a₀ l' (record { i = j; at = a })
    along_stop d =
        record {
          low = t.low;
          high = t.high;
          room = t.room;
          again = λ f k q R. ap (λ (x : List ℕ). over f R one_of S X j e (st cap x a)) d.places ∙ t.again f k q R;
        }

    pub along_next : {a' : ℕ} → Emitted P L S X j rest cap l a l' a' → length l' ≡ length l → InAlong P L S X i e rest cap l₀ a₀ l' a' (j + 1)
    along_next {a'} d w =
        record {
          low = omega (arith, t.low);
          high = λ u. omega arith;
          same = w ∙ t.same;
          room = d.room;
          again = λ f k q R. over_step f R one_of S X j e (st cap l a) (st cap l' a') h (d.ended f k q R) ∙ t.again f k q R;
        }
