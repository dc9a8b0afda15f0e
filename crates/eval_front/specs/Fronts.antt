-- A segment of one name or index at the front of a query: what it is, and what follows where its node is found and where it is not. Assumes nothing.
use Rattle.std.specs.Prelude.{ℕ, ◌+◌, ◌≤◌, ◌<◌, ◌≡◌, refl, true, false, length, Option, Some, None, Ok, Err}
use Rattle.std.proofs.Math.Path.{sym, ap}
use Rattle.std.proofs.Common.{◌∙◌, subst, arith}
use mathlib.Core.List.{List, [], ◌∷◌}
use Rattle.std.proofs.lemmas.Bool.{false≢true}
use Rattle.std.specs.Result.{is_ok}
use Rattle.definition.specs.Limits.{max_plan}
use Rattle.definition.specs.Values.{Json}
use Rattle.definition.specs.Forms.{Segments, Selectors, Selector}
use Rattle.definition.specs.Forms.Segments.{child}
use Rattle.definition.specs.Forms.Selectors.{one}
use Rattle.definition.specs.Plans.{code_segments, code_selector}
use Rattle.definition.specs.Tables.{node_at}
use Rattle.definition.specs.Evaluation.{eval_selectors, eval_selector}
use Rattle.eval_laws.specs.States.{State}
use Rattle.eval_laws.specs.Emits.{go, go_nil}
use Rattle.eval_laws.specs.Steps.{segment_child}
use Rattle.eval_laws.specs.Items.{SegmentsAt, SelectorAt, parts, last}
use Rattle.eval_items.specs.Ends.{DoneNext}
use Rattle.eval_items.specs.Leaves.{member_nodes, AskOne, DoneOne}
use Rattle.eval_front.specs.Visits.{Given, Head, node_of, Front, DoneReach}
use Rattle.eval_front.specs.Stands.{segments_at}
use Rattle.eval_front.specs.Loops.{Along, InReach}

pub never : false ≡ true → ⊥
never = false≢true

-- the query g at q is a child segment of the selector x alone, and the query behind it
pub record Single (P L : List ℕ) (q j : ℕ) (g : Segments) : Type 0 where
  pub x : Selector
  pub behind : Segments
  pub j' : ℕ
  pub made : g ≡ child (one x) behind
  pub here : SelectorAt P L (q + 3) j x
  pub after : SegmentsAt P L (q + 3 + length (code_selector x j)) j' behind
  pub long : length (code_segments g j) ≡ 3 + length (code_selector x j) + length (code_segments behind j')

pub single : {P L : List ℕ} {q j : ℕ} {g : Segments} {c : ℕ} → length P ≤ max_plan → Head P q c → SegmentsAt P L q j g → Single P L q j g
single {P} {L} {q} {j} {g} few d at =
    let t = d.child in
    let u = d.alone in
    let y = parts P L few q j g at (λ z. omega arith) in
    let n = y.count in
    let w = last P L (q + 3) j y.ss y.selectors (omega arith) in
    let l = w.long in
    let v = y.long in
    record {
      x = w.s;
      behind = y.q;
      j' = _;
      made = y.is_child t ∙ ap (λ (ss : Selectors). child ss y.q) w.made;
      here = w.here;
      after = segments_at (q + 3 + length (code_selector w.s j)) (ap (λ (z : ℕ). q + 3 + z) (sym l)) y.after;
      long = omega arith;
    }

-- ---- what it selects of a node

module _ {P L : List ℕ} {q j : ℕ} {g : Segments} (y : Single P L q j g) (S X : List ℕ) (R N : Json) (s : State) where
  single_some : (r : Option ℕ) (n : ℕ) → r ≡ Some n → eval_selector y.x R N ≡ member_nodes S X r → go y.behind R (node_at S X n ∷ []) s ≡ go g R (N ∷ []) s
  unfolding eval_selectors
  single_some r n e d = ap (λ (l : List Json). go y.behind R l s) (ap (member_nodes S X) (sym e) ∙ sym d) ∙ segment_child (one y.x) y.behind g R N s y.made

  single_none : (r : Option ℕ) → r ≡ None → eval_selector y.x R N ≡ member_nodes S X r → s ≡ go g R (N ∷ []) s
  unfolding eval_selectors
  single_none r e d = sym (go_nil y.behind R s) ∙ ap (λ (l : List Json). go y.behind R l s) (ap (member_nodes S X) (sym e) ∙ sym d) ∙ segment_child (one y.x) y.behind g R N s y.made

-- ---- along such segments

pub along_start : {P L S X : List ℕ} {node pc k : ℕ} {f : Segments} → SegmentsAt P L pc k f → Along P L S X node pc node pc f k
along_start {k = k} {f = f} a = record { g = f; j = k; at = a; ends = refl; same = λ R s. refl }

module _ {P L S X : List ℕ} {node pc m q c : ℕ} (z : Given P L S X) (i : InReach P L S X node pc m q) (d : Head P q c) where
  pub one_asked : AskOne P L S X (q + 3) m c c
  one_asked =
      let y = single z.few_p d i.query.at in
      record {
        few_p = z.few_p;
        few_l = z.few_l;
        tab = z.tab;
        node_in = i.node_in;
        x = y.x;
        k = i.query.k;
        at = y.here;
        kind_low = omega (arith, d.kind_is);
        kind_high = omega (arith, d.kind_is);
      }

  -- there is no such node
  pub reach_lost : (r : Option ℕ) → DoneOne P L S X (q + 3) m r → r ≡ None → (f : Segments) (k : ℕ) → SegmentsAt P L pc k f → Front P L S X node pc (record { node = Err m; pc = q }) f k
  reach_lost r o a f k at =
      let w = i.front f k at in
      let y = single z.few_p d w.at in
      record {
        g = w.g;
        j = w.j;
        at = w.at;
        ends = w.ends;
        found = λ n u. absurd (never (ap is_ok u));
        lost = λ n u R s. single_none y S X R (node_at S X m) s r a (o.selects y.x w.j R y.here) ∙ w.same R s;
      }

  pub done_lost : (r : Option ℕ) → DoneOne P L S X (q + 3) m r → r ≡ None → DoneReach P L S X node pc (record { node = Err m; pc = q })
  done_lost r o a = record { node_in = i.node_in; deeper = i.deeper; later = i.later; front = reach_lost r o a }

  -- there is one
  module _ (r : Option ℕ) (o : DoneOne P L S X (q + 3) m r) (n : ℕ) (a : r ≡ Some n) (q' : ℕ) (v : DoneNext P (q + 3) q') where
    along_next : (f : Segments) (k : ℕ) → Along P L S X node pc m q f k → Along P L S X node pc n q' f k
    along_next f k w =
        let y = single z.few_p d w.at in
        let p = v y.x w.j y.here.holds in
        let l = y.long in
        let u = w.ends in
        record {
          g = y.behind;
          j = y.j';
          at = segments_at q' p y.after;
          ends = omega arith;
          same = λ R s. single_some y S X R (node_at S X m) s r n a (o.selects y.x w.j R y.here) ∙ w.same R s;
        }

    pub reach_next : InReach P L S X node pc n q'
    reach_next =
        let y = single z.few_p d i.query.at in
        let p = v y.x i.query.k y.here.holds in
        let h = o.deeper n a in
        record {
          node_in = o.inside n a;
          deeper = omega (arith, i.deeper);
          later = omega (arith, i.later);
          query = record { f = y.behind; k = y.j'; at = segments_at q' p y.after };
          front = λ f k at. along_next f k (i.front f k at);
        }

-- where another item stands
pub reach_found : {P L S X : List ℕ} {node pc m q : ℕ} → InReach P L S X node pc m q → (f : Segments) (k : ℕ) → SegmentsAt P L pc k f → Front P L S X node pc (record { node = Ok m; pc = q }) f k
reach_found {P} {L} {S} {X} {node} {pc} {m} {q} i f k at =
    let w = i.front f k at in
    record {
      g = w.g;
      j = w.j;
      at = w.at;
      ends = w.ends;
      found = λ n u R s. subst (λ (x : ℕ). go w.g R (node_at S X x ∷ []) s ≡ go f R (node_at S X node ∷ []) s) (ap node_of u) (w.same R s);
      lost = λ n u. absurd (never (sym (ap is_ok u)));
    }

pub done_found : {P L S X : List ℕ} {node pc m q : ℕ} → InReach P L S X node pc m q → DoneReach P L S X node pc (record { node = Ok m; pc = q })
done_found i = record { node_in = i.node_in; deeper = i.deeper; later = i.later; front = reach_found i }
