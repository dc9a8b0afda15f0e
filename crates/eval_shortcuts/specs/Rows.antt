-- From what evaluation asks of the nodes of a range with a filter to what `eval_rows` asks, and back. v is what is lent. Assumes nothing.
use Rattle.std.specs.Prelude.{Some, None, ℕ, ◌≤◌, ◌<◌, ◌≡◌, refl, List, false, length}
use Rattle.std.proofs.Common.{◌∙◌, subst, arith}
use Rattle.eval_laws.specs.States.{st}
use Rattle.eval_laws.specs.Steps.{kept}
use Rattle.eval_front.specs.Fronts.{never}
use Rattle.eval_front.specs.Overs.{over_end}
use Rattle.eval_filters.specs.Keeps.{AskTail, TailAt, tail_asked}
use Rattle.eval_filters.specs.Queries.{Within}
use Rattle.eval_rows.specs.Calls.{AskCall, left_asked}
use Rattle.eval_filters.specs.Turns.{turn_left}
use Rattle.eval_rows.specs.Rows.{AskRows as AskFilter, DoneRows as DoneFilter}
use Rattle.eval_rows.specs.Columns.{AskPass, AskFill}
use Rattle.eval_shortcuts.specs.Joined.{joined_start, joined_turn}
use Rattle.eval_rows.specs.declared.rows.Passed.{Passed}
use Rattle.eval_asks.specs.declared.Lent.{Lent}
use Rattle.eval_asks.specs.declared.State.{State as Numbers}
use Rattle.eval_asks.specs.Lent.{plan_of, pool_of, table_of, text_of, root_of, cap_of, at_of, with_at}
use Rattle.eval_asks.specs.Asks.{Asked}
use Rattle.eval_asks.specs.Kinds.{Keeps, keeping}
use Rattle.eval_asks.specs.Rows.{AskRows, DoneRows, AskCells}

module _ {v : Lent} {i e p z rest : ℕ} {s : Numbers} {l : List ℕ} (a : Asked v s l) where
  pub rows_none : DoneRows v i e p z rest s l s l i
  rows_none = record { low = omega arith; high = λ h. h; room = a.room; goes = λ x R C r c. refl }

  module _ (q : AskRows v i e p z rest) where
    -- the code is that of a test, so that a query in front of it is one
    pub rows_call : p < z → AskCall (plan_of v) p z
    rows_call h =
        let g = a.given in
        let w : Within (plan_of v) (pool_of v) (table_of v) (text_of v) (root_of s) (root_of s) = record { few_p = g.few_p; few_l = g.few_l; tab = g.tab; root_in = a.root_in; node_in = a.root_in } in
        left_asked (turn_left (joined_turn w q.test (joined_start w) h))

    pub rows_tail : AskTail (plan_of v) rest
    rows_tail = tail_asked a.given.few_p q.query

    pub rows_filter : {t : ℕ} → TailAt (plan_of v) rest t → t ≤ 1 → AskFilter (plan_of v) (pool_of v) (table_of v) (text_of v) (record { root = root_of s; e = e; p = p; z = z; tail = t; rest = rest; cap = cap_of s; cells = false }) i (length l) (at_of s)
    rows_filter w h =
        record {
          kept = record { given = a.given; root_in = a.root_in; range = q.range; query = q.query; room = a.room; wide = a.wide; small = a.small };
          test = q.test;
          tail = w;
          low = h;
        }

    pub rows_asked : {t : ℕ} → TailAt (plan_of v) rest t → t ≤ 1 → AskPass (plan_of v) (pool_of v) (table_of v) (text_of v) (record { root = root_of s; e = e; p = p; z = z; tail = t; rest = rest; cap = cap_of s; cells = false }) i l (at_of s)
    rows_asked w h = record { given = a.given; root_in = a.root_in; range = q.range; test = q.test; rows = λ u. rows_filter w h; cells = λ u. absurd (never u) }

    module _ {t : ℕ} {l' : List ℕ} {r : Passed} (d : DoneFilter (plan_of v) (pool_of v) (table_of v) (text_of v) (record { root = root_of s; e = e; p = p; z = z; tail = t; rest = rest; cap = cap_of s; cells = false }) i l (at_of s) l' r) where
      at_root : (k : ℕ) → ((x : Keeps (plan_of v) (pool_of v) p z rest) → keeping v p z rest k e x (root_of s) (st (cap_of s) l' r.at) ≡ keeping v p z rest i e x (root_of s) (st (cap_of s) l (at_of s)))
          → (x : Keeps (plan_of v) (pool_of v) p z rest) (R C : ℕ) → root_of s ≡ R → cap_of s ≡ C → keeping v p z rest k e x R (st C l' r.at) ≡ keeping v p z rest i e x R (st C l (at_of s))
      at_root k g x R C u c =
          subst (λ (R : ℕ). keeping v p z rest k e x R (st C l' r.at) ≡ keeping v p z rest i e x R (st C l (at_of s))) u
          (subst (λ (C : ℕ). keeping v p z rest k e x (root_of s) (st C l' r.at) ≡ keeping v p z rest i e x (root_of s) (st C l (at_of s))) c
          (g x))

      pub rows_left : {n : ℕ} → r.q ≡ Some n → DoneRows v i e p z rest s l (with_at s r.at) l' r.i
      rows_left {n} m =
          record {
            low = d.going.low;
            high = λ u. omega (arith, d.inside n m);
            room = omega (arith, d.going.room);
            goes = at_root r.i (λ x. d.going.again x.t x.k x.q x.k' x.tested x.after);
          }

      pub rows_all : i ≤ e → r.q ≡ None → DoneRows v i e p z rest s l (with_at s r.at) l' e
      rows_all h m =
          record {
            low = h;
            high = λ u. omega arith;
            room = omega (arith, (d.whole m).room);
            goes = at_root e (λ x. over_end x.q _ (kept x.t _) (table_of v) (text_of v) e e _ (omega arith) ∙ (d.whole m).ended x.t x.k x.q x.k' x.tested x.after);
          }

-- ---- the cells of those from i up to e

pub cells_asked : {v : Lent} {root i e p z : ℕ} {l : List ℕ} → AskCells v root i e p z l → AskFill (plan_of v) (pool_of v) (table_of v) (text_of v) root i e p z
cells_asked a = let n = a.next in record { given = n.given; root_in = n.root_in; upto = a.upto; range = n.range; test = n.test }
