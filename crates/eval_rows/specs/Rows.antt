-- The nodes of a range with a filter: the answer for a node, and the loop over all of them. P is the plan, L the pool, S the table, X the text. Assumes nothing.
use Rattle.std.specs.Prelude.{Some, None, ℕ, ◌+◌, ◌≤◌, ◌<◌, ◌≡◌, refl, List, Bool as Bits, true, length, max}
use Rattle.std.proofs.lemmas.Option.{none-some, same_Some}
use Rattle.std.proofs.Common.{sym, ◌∙◌, subst, arith}
use Rattle.definition.specs.Tables.{node_at}
use Rattle.eval_laws.specs.Todos.{todo_to}
use Rattle.eval_laws.specs.States.{st}
use Rattle.eval_laws.specs.Steps.{kept}
use Rattle.eval_front.specs.Overs.{over_end}
use Rattle.eval_asks.specs.Cells.{answer_of, place_of, left_ended}
use Rattle.eval_filters.specs.Queries.{Within}
use Rattle.eval_filters.specs.Kept.{AskTest, AskKept, InKept, kept_full, kept_end}
use Rattle.eval_filters.specs.Keeps.{TailAt, DoneRange}
use Rattle.eval_filters.specs.Tests.{Left, AskRest}
use Rattle.eval_filters.specs.Turns.{AskTurn, DoneTurn}
use Rattle.eval_filters.specs.Values.{AskLeft}
use Rattle.eval_filters.specs.declared.Told.{Told}
use Rattle.eval_rows.specs.declared.rows.Filter.{Filter}
use Rattle.eval_rows.specs.declared.rows.Answer.{Answer}
use Rattle.eval_rows.specs.declared.rows.Passed.{Passed}

-- ---- how far the filter is told of a node with a cell

pub record DoneAnswer (P L S X : List ℕ) (root node c z : ℕ) (r : Answer) : Type 0 where
  pub later : place_of c ≤ z → place_of c ≤ r.q
  pub near : place_of c ≤ z → r.q ≤ z
  pub goes : (want : Bits) → Left P L (place_of c) z (node_at S X root) (node_at S X node) (answer_of c) want → Left P L r.q z (node_at S X root) (node_at S X node) r.acc want

-- what is left of the code gives what was wanted
pub record InAsked (P L S X : List ℕ) (root node z c : ℕ) (acc : Bits) (q : ℕ) : Type 0 where
  pub later : place_of c ≤ q
  pub goes : (want : Bits) → Left P L (place_of c) z (node_at S X root) (node_at S X node) (answer_of c) want → Left P L q z (node_at S X root) (node_at S X node) acc want

module _ {P L S X : List ℕ} {root node z c : ℕ} {acc : Bits} {q : ℕ} (a : acc ≡ answer_of c) (e : q ≡ place_of c) where
  pub asked_start : InAsked P L S X root node z c acc q
  asked_start = record { later = omega arith; goes = λ want d. todo_to P L (place_of c) q z _ _ _ _ _ _ _ _ want e a refl refl d }

  -- a cell that is not at the place that is asked
  pub answer_left : DoneAnswer P L S X root node c z (record { acc = acc; q = q })
  answer_left = record { later = λ h. omega arith; near = λ h. omega arith; goes = asked_start.goes }

module _ {P L S X : List ℕ} {root node z c : ℕ} {acc : Bits} {q : ℕ} (w : Within P L S X root node) (a : AskRest P L S X root node (answer_of c) (place_of c) z) (i : InAsked P L S X root node z c acc q) where
  pub asked_turn : q < z → AskTurn P L S X root node acc q z
  asked_turn h = record { within = w; want = _; todo = i.goes a.want a.todo; more = h }

  pub asked_further : {r : Told} → q < z → DoneTurn P L S X root node acc q z r → r.some ≡ true → InAsked P L S X root node z c r.acc r.q
  asked_further h d s = record { later = omega (arith, i.later, d.further s); goes = λ want t. d.goes s want (i.goes want t) }

  pub answer_none : q < z → DoneAnswer P L S X root node c z (record { acc = acc; q = q })
  answer_none h = record { later = λ n. i.later; near = λ n. omega arith; goes = i.goes }

  pub answer_told : z ≤ q → DoneAnswer P L S X root node c z (record { acc = acc; q = z })
  answer_told h = record { later = λ n. n; near = λ n. omega arith; goes = λ want t. left_ended h (i.goes want t) }

-- ---- all nodes in turn

pub record AskRows (P L S X : List ℕ) (f : Filter) (i len at : ℕ) : Type 0 where
  pub kept : AskKept P L S X f.root i f.e f.rest len at f.cap
  pub test : AskTest P L f.p f.z
  pub tail : TailAt P f.rest f.tail
  pub low : f.tail ≤ 1

-- those before r.i are done, and all of them where none is left
pub record DoneRows (P L S X : List ℕ) (f : Filter) (i : ℕ) (l : List ℕ) (at : ℕ) (l' : List ℕ) (r : Passed) : Type 0 where
  pub going : InKept P L S X f.root i f.e f.p f.z f.rest f.cap l at l' r.at r.i
  pub whole : r.q ≡ None → DoneRange P L S X f.root i f.e f.p f.z f.rest f.cap l at l' r.at
  pub inside : (q : ℕ) → r.q ≡ Some q → r.i < f.e
  pub stuck : (q : ℕ) → r.q ≡ Some q → AskLeft P L S X f.root r.i q f.z

-- where the nodes end, nothing is left to do from any later number on
pub past_end : {P L S X : List ℕ} {root i e p z rest cap : ℕ} {l₀ : List ℕ} {a₀ : ℕ} {l : List ℕ} {a j : ℕ} → InKept P L S X root i e p z rest cap l₀ a₀ l a j → e ≤ j → (n : ℕ) → n ≡ max i e → InKept P L S X root i e p z rest cap l₀ a₀ l a n
past_end {S = S} {X = X} {root = root} {e = e} {cap = cap} {l = l} {a = a} {j = j} t h n m =
    record {
      low = omega arith;
      same = t.same;
      room = t.room;
      again = λ x k f k' b c.
          over_end f (node_at S X root) (kept x (node_at S X root)) S X n e (st cap l a) (omega arith)
          ∙ sym (over_end f (node_at S X root) (kept x (node_at S X root)) S X j e (st cap l a) h)
          ∙ t.again x k f k' b c;
    }

module _ {P L S X : List ℕ} {f : Filter} {i : ℕ} {l₀ : List ℕ} {a₀ : ℕ} {l : List ℕ} {a j : ℕ} (t : InKept P L S X f.root i f.e f.p f.z f.rest f.cap l₀ a₀ l a j) where
  rows_done : {n : ℕ} → InKept P L S X f.root i f.e f.p f.z f.rest f.cap l₀ a₀ l a n → DoneRange P L S X f.root i f.e f.p f.z f.rest f.cap l₀ a₀ l a → DoneRows P L S X f i l₀ a₀ l (record { i = n; at = a; q = None })
  rows_done g d = record { going = g; whole = λ u. d; inside = λ q u. absurd (none-some q u); stuck = λ q u. absurd (none-some q u) }

  pub rows_full : f.cap < a → length l₀ ≤ f.cap + 1 → DoneRows P L S X f i l₀ a₀ l (record { i = j; at = a; q = None })
  rows_full h w = rows_done t (kept_full t h w)

  pub rows_end : f.e ≤ j → {n : ℕ} → n ≡ max i f.e → DoneRows P L S X f i l₀ a₀ l (record { i = n; at = a; q = None })
  rows_end h {n} m = rows_done (past_end t h n m) (kept_end t h)

  pub rows_stuck : (q : ℕ) → j < f.e → AskLeft P L S X f.root j q f.z → DoneRows P L S X f i l₀ a₀ l (record { i = j; at = a; q = Some q })
  rows_stuck q h s =
      record {
        going = t;
        whole = λ u. absurd (none-some q (sym u));
        inside = λ n u. h;
        stuck = λ n u. subst (λ (x : ℕ). AskLeft P L S X f.root j x f.z) (same_Some q n u) s;
      }

  -- one of them
  pub rows_within : {len at : ℕ} → AskRows P L S X f i len at → j < f.e → Within P L S X f.root j
  rows_within s h =
      let k = s.kept in
      let b = t.low in
      record { few_p = k.given.few_p; few_l = k.given.few_l; tab = k.given.tab; root_in = k.root_in; node_in = omega (arith, k.range (omega arith)) }

  -- the nodes that are left
  pub rows_later : {at : ℕ} → AskRows P L S X f i (length l₀) at → AskRows P L S X f j (length l) a
  rows_later s =
      let b = t.low in
      let k = s.kept in
      record {
        kept = record { given = k.given; root_in = k.root_in; range = λ h. k.range (omega arith); query = k.query; room = t.room; wide = omega (arith, t.same, k.wide); small = k.small };
        test = s.test;
        tail = s.tail;
        low = s.low;
      }

  pub rows_then : {l' : List ℕ} {r : Passed} → DoneRows P L S X f j l a l' r → DoneRows P L S X f i l₀ a₀ l' r
  rows_then d =
      let g = d.going in
      record {
        going = record { low = omega (arith, t.low, g.low); same = g.same ∙ t.same; room = g.room; again = λ x k s k' b c. g.again x k s k' b c ∙ t.again x k s k' b c };
        whole = λ u. let w = d.whole u in record { room = w.room; ended = λ x k s k' b c. w.ended x k s k' b c ∙ t.again x k s k' b c };
        inside = d.inside;
        stuck = d.stuck;
      }
