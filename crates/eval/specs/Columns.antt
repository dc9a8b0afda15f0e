-- The nodes of a range whose test is told in cells, some at a time: the invariant of the loop over them, and its turns. v is what is lent. Assumes nothing.
use Rattle.std.specs.Prelude.{ℕ, ◌+◌, ◌-◌, ◌≤◌, ◌<◌, ◌≡◌, refl, List, Bool as Bits, true, false, ltb, length, get_or, set}
use Rattle.std.proofs.Common.{sym, ◌∙◌, subst, arith, ltb-true, ltb-false}
use Rattle.std.specs.Borrow.{MutBor}
use Rattle.definition.specs.Forms.{Test}
use Rattle.definition.specs.Tables.{node_at}
use Rattle.definition.specs.Evaluation.{eval_test}
use Rattle.eval_laws.specs.States.{st}
use Rattle.eval_laws.specs.Steps.{kept}
use Rattle.eval_laws.specs.Todos.{todo_to}
use Rattle.eval_front.specs.Fronts.{never}
use Rattle.eval_front.specs.Overs.{over_end, over_full}
use Rattle.eval_filters.specs.Queries.{Within}
use Rattle.eval_filters.specs.Keeps.{test_code}
use Rattle.eval_filters.specs.Kept.{Tested, AskTest, DoneTest}
use Rattle.eval_filters.specs.Tests.{AskRest, DoneRest}
use Rattle.eval_asks.specs.declared.Lent.{Lent}
use Rattle.eval_asks.specs.declared.State.{State as Numbers}
use Rattle.eval_asks.specs.Lent.{plan_of, pool_of, table_of, text_of, root_of, cap_of, at_of}
use Rattle.eval_asks.specs.Asks.{Asked, Steady, DoneSegment, AskNext, DoneNext}
use Rattle.eval_asks.specs.Steady.{steady_refl, gives_none, Going, going_start, going_asked, going_on, going_end, going_full}
use Rattle.eval_asks.specs.Kinds.{keeping, passed, InNext, InFilter, filter_again}
use Rattle.eval_asks.specs.Cells.{answer_of, place_of, InCell, Column, Laid, cell_next, column_start, column_set}
use Rattle.eval_asks.specs.Rows.{AskRows, DoneKept}
use Rattle.eval.specs.Loops.{DoneSaid}
use Rattle.eval.specs.declared.Said.{Said}

-- node j is the next; the cells from b up to k are known
pub record InCells (v : Lent) (i e p z rest : ℕ) (s₀ : Numbers) (l₀ : MutBor (List ℕ)) (s : Numbers) (l : MutBor (List ℕ)) (b k j : ℕ) (c : List ℕ) : Type 0 where
  pub low : i ≤ j
  pub from : b ≤ j
  pub high : k ≤ e
  pub wide : length c ≡ 256
  pub column : Column (plan_of v) (pool_of v) (table_of v) (text_of v) (root_of s₀) b k p z c
  pub going : Going (keeping v p z rest i e) (keeping v p z rest j e) s₀ l₀ s l

-- no node is passed
pub none_passed : {v : Lent} {j e p z : ℕ} (root : ℕ) → DoneNext v root j e p z j true
none_passed root = record { low = omega arith; high = λ y. y; passed = λ x y o m u w. absurd (omega arith); holds = λ u. absurd (never (sym u)) }

-- the next node meets a call
pub next_met : {v : Lent} {root i e p z j : ℕ} → InNext v root i e p z j → DoneNext v root i e p z j true
next_met t = record { low = t.low; high = t.high; passed = t.passed; holds = λ u. absurd (never (sym u)) }

-- none is left
pub kept_none : (v : Lent) {j e p z rest : ℕ} {s : Numbers} {l : List ℕ} → e ≤ j → DoneKept v j e p z rest s l s l
kept_none v {j} {e} {s = s} {l = l} h = gives_none _ s l (λ x R σ. sym (over_end x.q _ (kept x.t _) (table_of v) (text_of v) j e σ h))

-- an answer and a place that are a cell's
module _ {P L S X : List ℕ} {root node p z c : ℕ} (i : InCell P L S X root node p z c) {acc : Bits} {q : ℕ} (a : acc ≡ answer_of c) (b : q ≡ place_of c) where
  pub rest_here : AskTest P L p z → AskRest P L S X root node acc q z
  rest_here t = record { want = _; todo = todo_to P L (place_of c) q z _ _ _ _ _ _ _ _ _ b a refl refl (i.again t.t t.k t.stands) }

  pub goes_here : {r : Bits} → DoneRest P L S X root node acc q z r → DoneTest P L S X root node p z r
  goes_here d t k o = d _ (todo_to P L (place_of c) q z _ _ _ _ _ _ _ _ _ b a refl refl (i.again t k o))

-- no cells yet
pub cells_first : {v : Lent} {j e p z : ℕ} (rest : ℕ) (s : Numbers) (l : MutBor (List ℕ)) {c : List ℕ} → Asked v s l.now → j < e → length c ≡ 256 → InCells v j e p z rest s l s l j j j c
cells_first {v} {j} {e} {p} {z} rest s l a h w =
    record {
      low = omega arith;
      from = omega arith;
      high = omega arith;
      wide = w;
      column = record { long = omega arith; all = λ m b c. absurd (omega arith) };
      going = going_start (keeping v p z rest j e) s l a;
    }

module _ {v : Lent} {i e p z rest : ℕ} {s₀ : Numbers} {l₀ : MutBor (List ℕ)} {s : Numbers} {l : MutBor (List ℕ)} {b k j : ℕ} {c : List ℕ} (t : InCells v i e p z rest s₀ l₀ s l b k j c) where
  -- the next cells
  pub cells_next : Asked v s₀ l₀.now → {o : ℕ} → AskRows v o e p z rest → o ≤ i → {r : ℕ} → r ≤ e → AskNext v (root_of s) j r p z
  cells_next a q f n = let g = going_asked t.going a in let m = t.low in record { given = g.given; root_in = g.root_in; range = λ h. omega (arith, q.range (omega arith)); test = q.test }

  pub cells_filled : {r : ℕ} {c' : List ℕ} → r ≤ e → Column (plan_of v) (pool_of v) (table_of v) (text_of v) (root_of s) j r p z c' → length c' ≡ length c → InCells v i e p z rest s₀ l₀ s l j r j c'
  cells_filled {r} {c'} n d w =
      record {
        low = t.low;
        from = omega arith;
        high = n;
        wide = w ∙ t.wide;
        column = subst (λ (m : ℕ). Column (plan_of v) (pool_of v) (table_of v) (text_of v) m j r p z c') t.going.kept.root d;
        going = t.going;
      }

  -- the cell of node j
  pub cell_within : j < k → j - b < length c
  cell_within h = let n = t.from in let m = t.column.long in omega arith

  pub cell_here : j < k → InCell (plan_of v) (pool_of v) (table_of v) (text_of v) (root_of s) j p z (get_or c (j - b) 0)
  cell_here h = subst (λ (m : ℕ). InCell (plan_of v) (pool_of v) (table_of v) (text_of v) m j p z (get_or c (j - b) 0)) (sym t.going.kept.root) (t.column.all j t.from h)

  pub cells_full : Asked v s₀ l₀.now → cap_of s < at_of s → DoneKept v i e p z rest s₀ l₀.now s l.now
  cells_full a f = going_full t.going a f (λ x R m n y u w o. over_full x.q _ (kept x.t _) (table_of v) (text_of v) j e m n y u w o)

  pub cells_end : e ≤ j → DoneKept v i e p z rest s₀ l₀.now s l.now
  cells_end h = going_end t.going (λ x R σ. over_end x.q _ (kept x.t _) (table_of v) (text_of v) j e σ h)

  module _ (h : j < e) {r : Bits} (d : DoneTest (plan_of v) (pool_of v) (table_of v) (text_of v) (root_of s) j p z r) where
    at_one : (n : r ≡ false) (m : ℕ) → j ≤ m → m < j + 1 → (x : Test) (y : ℕ) → Tested (plan_of v) (pool_of v) p z x y → eval_test x (node_at (table_of v) (text_of v) (root_of s)) (node_at (table_of v) (text_of v) m) ≡ false
    at_one n m u w x y o = let e : j ≡ m = omega arith in subst (λ (m : ℕ). eval_test x (node_at (table_of v) (text_of v) (root_of s)) (node_at (table_of v) (text_of v) m) ≡ false) e (sym (d x y o) ∙ n)

    next_one : r ≡ false → DoneNext v (root_of s) j e p z (j + 1) true
    next_one n = record { low = omega arith; high = λ y. omega arith; passed = λ x y o m u w. at_one n m u w x y o; holds = λ u. absurd (never (sym u)) }

    -- the test fails
    pub cells_out : r ≡ false → InCells v i e p z rest s₀ l₀ s l b k (j + 1) c
    cells_out n =
        record {
          low = omega (arith, t.low);
          from = omega (arith, t.from);
          high = t.high;
          wide = t.wide;
          column = t.column;
          going = going_on t.going (keeping v p z rest (j + 1) e) (steady_refl s l) (omega (arith, t.going.kept.cap, t.going.room))
              (λ x R C u o. subst (λ (R : ℕ). keeping v p z rest (j + 1) e x R (st C l.now (at_of s)) ≡ keeping v p z rest j e x R (st C l.now (at_of s))) u (passed (next_one n) rest x _ (omega arith)));
        }

    -- it holds
    in_filter_lem : r ≡ true → InFilter v i e p z rest s₀ l₀ s l j false
    in_filter_lem n =
        record {
          low = t.low;
          high = omega arith;
          holds = λ u y x. subst (λ (R : ℕ). eval_test x.t (node_at (table_of v) (text_of v) R) (node_at (table_of v) (text_of v) j) ≡ true) t.going.kept.root (sym (d x.t x.k x.tested) ∙ n);
          going = t.going;
        }

    pub cells_in : r ≡ true → {s' : Numbers} {l' : MutBor (List ℕ)} → Steady s l s' l' → at_of s' ≤ cap_of s + 1 → DoneSegment v j rest s l.now s' l'.now → InCells v i e p z rest s₀ l₀ s' l' b k (j + 1) c
    cells_in n g m o =
        record {
          low = omega (arith, t.low);
          from = omega (arith, t.from);
          high = t.high;
          wide = t.wide;
          column = t.column;
          going = (filter_again (in_filter_lem n) refl h g m o (none_passed _)).going;
        }

-- ---- the cells of some nodes, told further

-- from a place to a later one
pub later_less : {q z r : ℕ} → (r < z → q + 1 ≤ r) → q < z → z - r < z - q
later_less {q} {z} {r} d h = go (ltb r z) refl
  where
    go : (b : Bits) → ltb r z ≡ b → z - r < z - q
    go true e = let m = d (ltb-true r z e) in omega arith
    go false e = let m = ltb-false r z e in omega arith

-- the code lies in the plan
pub code_near : {v : Lent} {root i e p z : ℕ} → AskNext v root i e p z → (p ≤ z) × (z < 65536)
code_near a =
    let c = test_code a.given.few_p a.test in
    let q = a.test.stands.place in
    (omega arith, omega (arith, c.inside, a.given.few_p))

pub tell_start : {v : Lent} {root i e p z : ℕ} {l : List ℕ} → AskNext v root i e p z → e - i ≤ length l → Laid (e - i) p l → Column (plan_of v) (pool_of v) (table_of v) (text_of v) root i e p z l
tell_start a n g = let c = code_near a in column_start a.test (omega (arith, c.0, c.1)) n g

module _ {v : Lent} {root i e p z : ℕ} (a : AskNext v root i e p z) {l : List ℕ} (o : Column (plan_of v) (pool_of v) (table_of v) (text_of v) root i e p z l) {j : ℕ} (b : i ≤ j) (h : j < e) where
  pub turn_within : Within (plan_of v) (pool_of v) (table_of v) (text_of v) root j
  turn_within = record { few_p = a.given.few_p; few_l = a.given.few_l; tab = a.given.tab; root_in = a.root_in; node_in = omega (arith, a.range (omega arith)) }

  pub turn_place : j - i < length l
  turn_place = let n = o.long in omega arith

  module _ {acc : Bits} {q : ℕ} (u : acc ≡ answer_of (get_or l (j - i) 0)) (w : q ≡ place_of (get_or l (j - i) 0)) where
    pub turn_asked : AskRest (plan_of v) (pool_of v) (table_of v) (text_of v) root j acc q z
    turn_asked = rest_here (o.all j b h) u w a.test

    pub turn_set : {stop : Bits} {r : Said} → DoneSaid (plan_of v) (pool_of v) (table_of v) (text_of v) root j acc q z stop r → (c : ℕ) → (answer_of c ≡ r.acc) × (place_of c ≡ r.q) → Column (plan_of v) (pool_of v) (table_of v) (text_of v) root i e p z (set l (j - i) c)
    turn_set d c y =
        let n = o.all j b h in
        let m = n.near in
        column_set o j c b h (cell_next n y (omega (arith, d.later (omega arith))) d.near (λ want t. d.goes want (todo_to (plan_of v) (pool_of v) _ q z _ _ _ _ _ _ _ _ _ w u refl refl t)))
