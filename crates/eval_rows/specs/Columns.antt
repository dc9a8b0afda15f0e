-- The nodes of a range with a filter: those that it keeps are pushed, or each has a cell that says how far it is told. P is the plan, L the pool, S the table, X the
-- text. Assumes nothing.
use Rattle.std.specs.Prelude.{Some, None, ℕ, ◌+◌, ◌-◌, ◌≤◌, ◌<◌, ◌≡◌, refl, ◌⊎◌, List, Bool as Bits, true, false, ltb, length, get_or, set, max}
use Rattle.std.proofs.Common.{sym, ◌∙◌, subst, inl, inr, length-set, arith, ltb-true, ltb-false}
use Rattle.definition.specs.Limits.{max_plan}
use Rattle.definition.specs.Tables.{node_count}
use Rattle.eval_front.specs.Fronts.{never}
use Rattle.eval_front.specs.Visits.{Given}
use Rattle.eval_filters.specs.Queries.{Within}
use Rattle.eval_filters.specs.Kept.{AskTest, DoneTest, InKept, kept_passed, kept_step}
use Rattle.eval_filters.specs.Keeps.{DonePushed, test_code}
use Rattle.eval_filters.specs.Values.{AskLeft}
use Rattle.eval_laws.specs.Todos.{todo_end}
use Rattle.eval_asks.specs.Cells.{answer_of, place_of, InCell, Column, cell_start, cell_next, cell_left, column_set}
use Rattle.eval_rows.specs.declared.rows.Filter.{Filter}
use Rattle.eval_rows.specs.declared.rows.Answer.{Answer}
use Rattle.eval_rows.specs.declared.rows.Passed.{Passed}
use Rattle.eval_rows.specs.Rows.{DoneAnswer, AskRows, DoneRows, rows_full, rows_end, rows_stuck, rows_later, rows_then}

-- ---- what is asked and given

pub record AskPass (P L S X : List ℕ) (f : Filter) (i : ℕ) (l : List ℕ) (at : ℕ) : Type 0 where
  pub given : Given P L S X
  pub root_in : f.root < node_count S
  pub range : i < f.e → f.e ≤ node_count S
  pub test : AskTest P L f.p f.z
  pub rows : f.cells ≡ false → AskRows P L S X f i (length l) at
  pub cells : f.cells ≡ true → Column P L S X f.root i f.e f.p f.z l

pub record DonePass (P L S X : List ℕ) (f : Filter) (i : ℕ) (l : List ℕ) (at : ℕ) (l' : List ℕ) (r : Passed) : Type 0 where
  pub rows : f.cells ≡ false → DoneRows P L S X f i l at l' r
  pub cells : f.cells ≡ true → Column P L S X f.root i f.e f.p f.z l'

-- the code of such a filter
pub pass_code : {P L S X : List ℕ} {f : Filter} {i : ℕ} {l : List ℕ} {at : ℕ} → AskPass P L S X f i l at → (f.p ≤ f.z) × (f.z ≤ max_plan)
pass_code {f = f} a =
    let c = test_code a.given.few_p a.test in
    let e = a.test.stands.place in
    (omega arith, omega (arith, c.inside, a.given.few_p))

pub pass_within : {P L S X : List ℕ} {f : Filter} {i : ℕ} {l : List ℕ} {at : ℕ} → AskPass P L S X f i l at → (j : ℕ) → i ≤ j → j < f.e → Within P L S X f.root j
pass_within a j h n = record { few_p = a.given.few_p; few_l = a.given.few_l; tab = a.given.tab; root_in = a.root_in; node_in = omega (arith, a.range (omega arith)) }

-- the cell of a node, or that of one of which nothing is told
pub record DoneStands (b : Bits) (p : ℕ) (l : List ℕ) (k c : ℕ) : Type 0 where
  pub there : b ≡ true → c ≡ get_or l k 0
  pub none : b ≡ false → c ≡ p

pub stands_there : {p : ℕ} {l : List ℕ} {k : ℕ} (b : Bits) → b ≡ true → DoneStands b p l k (get_or l k 0)
stands_there b e = record { there = λ u. refl; none = λ u. absurd (never (sym u ∙ e)) }

pub stands_none : {p : ℕ} {l : List ℕ} {k : ℕ} (b : Bits) → b ≡ false → DoneStands b p l k p
stands_none b e = record { there = λ u. absurd (never (sym e ∙ u)); none = λ u. refl }

-- ---- the loop over them

pub record InPass (P L S X : List ℕ) (b : Bits) (root i e p z rest cap : ℕ) (l₀ : List ℕ) (a₀ : ℕ) (l : List ℕ) (a j : ℕ) : Type 0 where
  pub low : i ≤ j
  pub same : length l ≡ length l₀
  pub rows : b ≡ false → InKept P L S X root i e p z rest cap l₀ a₀ l a j
  pub cells : b ≡ true → Column P L S X root i e p z l

pub pass_start : {P L S X : List ℕ} {f : Filter} {i : ℕ} {l : List ℕ} {at : ℕ} → AskPass P L S X f i l at → InPass P L S X f.cells f.root i f.e f.p f.z f.rest f.cap l at l at i
pass_start a =
    record {
      low = omega arith;
      same = refl;
      rows = λ u. record { low = omega arith; same = refl; room = (a.rows u).kept.room; again = λ t k s k' h g. refl };
      cells = a.cells;
    }

module _ {P L S X : List ℕ} {f : Filter} {i : ℕ} {l₀ : List ℕ} {a₀ : ℕ} {l : List ℕ} {a j : ℕ} (s : AskPass P L S X f i l₀ a₀) (t : InPass P L S X f.cells f.root i f.e f.p f.z f.rest f.cap l₀ a₀ l a j) where
  pub pass_full : f.cap < a → DonePass P L S X f i l₀ a₀ l (record { i = j; at = a; q = None })
  pass_full h = record { rows = λ u. rows_full {f = f} (t.rows u) h (s.rows u).kept.wide; cells = t.cells }

  pub pass_end : f.e ≤ j → {n : ℕ} → n ≡ max i f.e → DonePass P L S X f i l₀ a₀ l (record { i = n; at = a; q = None })
  pass_end h m = record { rows = λ u. rows_end {f = f} (t.rows u) h m; cells = t.cells }

  -- where a node stands, and what is asked of it
  module _ (h : j < f.e) where
    pub place_in : f.cells ≡ true → j - i < length l
    place_in u = let c = (t.cells u).long in let b = t.low in omega arith

    module _ {c : ℕ} (d : DoneStands f.cells f.p l (j - i) c) where
      pub pass_cell : InCell P L S X f.root j f.p f.z c
      pass_cell = go f.cells refl
        where
          go : (b : Bits) → f.cells ≡ b → InCell P L S X f.root j f.p f.z c
          go true u = subst (InCell P L S X f.root j f.p f.z) (sym (d.there u)) ((t.cells u).all j t.low h)
          go false u = let n = pass_code s in subst (InCell P L S X f.root j f.p f.z) (sym (d.none u)) (cell_start s.test (omega (arith, n.0, n.1)))

      module _ {r : Answer} (v : DoneAnswer P L S X f.root j c f.z r) where
        pub answer_near : r.q < 65536
        answer_near = let n = pass_code s in omega (arith, n.1, v.near pass_cell.near)

        -- it has a cell, which is set
        pub pass_set : (c' : ℕ) → (answer_of c' ≡ r.acc) × (place_of c' ≡ r.q) → f.cells ≡ true → InPass P L S X f.cells f.root i f.e f.p f.z f.rest f.cap l₀ a₀ (set l (j - i) c') a (j + 1)
        pass_set c' e u =
            let y = pass_cell in
            record {
              low = omega (arith, t.low);
              same = length-set l (j - i) c' ∙ t.same;
              rows = λ w. absurd (never (sym w ∙ u));
              cells = λ w. column_set (t.cells w) j c' t.low h (cell_next y e (v.later y.near) (v.near y.near) v.goes);
            }

        -- it has none
        module _ (u : f.cells ≡ false) where
          pub pass_stuck : r.q < f.z → DonePass P L S X f i l₀ a₀ l (record { i = j; at = a; q = Some r.q })
          pass_stuck n =
              record {
                rows = λ w. rows_stuck {f = f} (t.rows w) r.q h (record { within = pass_within s j t.low h; acc = r.acc; want = _; todo = v.goes _ (pass_cell.again s.test.t s.test.k s.test.stands); more = n });
                cells = t.cells;
              }

          told_test : f.z ≤ r.q → DoneTest P L S X f.root j f.p f.z r.acc
          told_test n x k b = todo_end _ _ _ _ _ _ _ _ _ _ (v.goes _ (pass_cell.again x k b)) n

          pub pass_out : f.z ≤ r.q → r.acc ≡ false → InPass P L S X f.cells f.root i f.e f.p f.z f.rest f.cap l₀ a₀ l a (j + 1)
          pass_out n m = record { low = omega (arith, t.low); same = t.same; rows = λ w. kept_passed (t.rows w) h (told_test n) m; cells = λ w. absurd (never (sym u ∙ w)) }

          pub pass_in : f.z ≤ r.q → r.acc ≡ true → {l' : List ℕ} {n' : ℕ} → DonePushed P L S X j f.rest f.cap l a l' n' → length l' ≡ length l
              → InPass P L S X f.cells f.root i f.e f.p f.z f.rest f.cap l₀ a₀ l' n' (j + 1)
          pass_in n m d' w = record { low = omega (arith, t.low); same = w ∙ t.same; rows = λ y. kept_step (t.rows y) h (told_test n) m d' w; cells = λ y. absurd (never (sym u ∙ y)) }

-- ---- the nodes behind those that are pushed

module _ {P L S X : List ℕ} {f : Filter} {i : ℕ} {l : List ℕ} {at : ℕ} (s : AskPass P L S X f i l at) (u : f.cells ≡ false) {l' : List ℕ} {r : Passed} (d : DonePass P L S X f i l at l' r) where
  pub pass_left : {q : ℕ} → r.q ≡ Some q → AskLeft P L S X f.root r.i q f.z
  pass_left {q} m = (d.rows u).stuck q m

  pub pass_later : AskPass P L S X f r.i l' r.at
  pass_later =
      let b = (d.rows u).going.low in
      record {
        given = s.given;
        root_in = s.root_in;
        range = λ h. s.range (omega arith);
        test = s.test;
        rows = λ w. rows_later {f = f} (d.rows w).going (s.rows w);
        cells = λ w. absurd (never (sym u ∙ w));
      }

  pub pass_then : {l'' : List ℕ} {r' : Passed} → DonePass P L S X f r.i l' r.at l'' r' → DonePass P L S X f i l at l'' r'
  pass_then e = record { rows = λ w. rows_then {f = f} (d.rows w).going (e.rows w); cells = λ w. absurd (never (sym u ∙ w)) }

-- ---- from one place of the code to the next

-- one of the first n nodes of a column stands at q
pub record Standing (l : List ℕ) (n q : ℕ) : Type 0 where
  pub k : ℕ
  pub inside : k < n
  pub here : place_of (get_or l k 0) ≡ q

abbrev pub DoneLower : ℕ → ℕ → ℕ → ℕ → Type 0
DoneLower from q c r = (r ≡ q) ⊎ ((r ≡ c) × (from ≤ c))

abbrev pub DoneLeast : List ℕ → ℕ → ℕ → ℕ → ℕ → Type 0
DoneLeast l n from z r = r < z → (from ≤ r) × Standing l n r

pub least_lower : {l : List ℕ} {n from z q k c r : ℕ} → DoneLeast l n from z q → k < n → c ≡ place_of (get_or l k 0) → DoneLower from q c r → DoneLeast l n from z r
least_lower {l} {n} {from} {z} d h e (inl u) = subst (DoneLeast l n from z) (sym u) d
least_lower {l} {n} {from} {z} {k = k} d h e (inr (u, v)) = λ g. (omega arith, record { k = k; inside = h; here = sym (u ∙ e) })

-- from a place to a later one
pub least_less : {l : List ℕ} {n q z r : ℕ} → DoneLeast l n (q + 1) z r → q < z → z - r < z - q
least_less {q = q} {z = z} {r = r} d h = go (ltb r z) refl
  where
    go : (b : Bits) → ltb r z ≡ b → z - r < z - q
    go true e = let m = (d (ltb-true r z e)).0 in omega arith
    go false e = let m = ltb-false r z e in omega arith

pub record AskFill (P L S X : List ℕ) (root i e p z : ℕ) : Type 0 where
  pub given : Given P L S X
  pub root_in : root < node_count S
  pub upto : i ≤ e
  pub range : i < e → e ≤ node_count S
  pub test : AskTest P L p z

module _ {P L S X : List ℕ} {root i e p z : ℕ} (a : AskFill P L S X root i e p z) where
  pub fill_code : (p ≤ z) × (z ≤ max_plan)
  fill_code =
      let c = test_code a.given.few_p a.test in
      let q = a.test.stands.place in
      (omega arith, omega (arith, c.inside, a.given.few_p))

  pub fill_asked : {l : List ℕ} → Column P L S X root i e p z l → AskPass P L S X (record { root = root; e = e; p = p; z = z; tail = 0; rest = 0; cap = 0; cells = true }) i l 0
  fill_asked c = record { given = a.given; root_in = a.root_in; range = a.range; test = a.test; rows = λ u. absurd (never (sym u)); cells = λ u. c }

module _ {P L S X : List ℕ} {f : Filter} {i : ℕ} {l : List ℕ} {at : ℕ} (s : AskPass P L S X f i l at) (u : f.cells ≡ true) {q : ℕ} (o : Standing l (f.e - i) q) (h : q < f.z) where
  pub stands_left : AskLeft P L S X f.root (i + o.k) q f.z
  stands_left =
      let b = o.inside in
      let n : i + o.k - i ≡ o.k = omega arith in
      let c = subst (λ (x : ℕ). InCell P L S X f.root (i + o.k) f.p f.z (get_or l x 0)) n ((s.cells u).all (i + o.k) (omega arith) (omega arith)) in
      let e = o.here in
      subst (λ (x : ℕ). AskLeft P L S X f.root (i + o.k) x f.z) o.here (cell_left c s.test (pass_within s (i + o.k) (omega arith) (omega arith)) (omega arith))
