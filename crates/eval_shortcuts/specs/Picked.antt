-- A child segment of several names and indices, selector by selector on a node and node by node of a range: what is left to do gives the whole. P is the plan, L the pool,
-- S the table, X the text. Assumes nothing.
use Rattle.std.specs.Prelude.{ℕ, ◌+◌, ◌*◌, ◌-◌, ◌≤◌, ◌<◌, ◌≡◌, refl, List, [], ◌∷◌, Bool as Bits, true, false, leb, length, get_or, Option, Some, None, Ok, Err}
use Rattle.std.proofs.Math.Path.{sym, ap}
use Rattle.std.proofs.Common.{◌∙◌, subst, arith, leb-true, leb-false}
use Rattle.definition.specs.Bytes.{number, part}
use Rattle.definition.specs.Values.{Json}
use Rattle.definition.specs.Forms.{Segments, Selectors, Selector, many_selectors}
use Rattle.definition.specs.Forms.Segments.{end}
use Rattle.definition.specs.Plans.{code_selector, pool_selector}
use Rattle.definition.specs.Tables.{node_at, kind_at, kind_map}
use Rattle.definition.specs.Evaluation.{eval_selectors}
use Rattle.table_laws.specs.Accepted.{Accepted}
use Rattle.eval_laws.specs.States.{State, st, push}
use Rattle.eval_laws.specs.Emits.{go, go_end}
use Rattle.eval_laws.specs.Steps.{one_of, segment_child, selectors_last, selectors_step}
use Rattle.eval_laws.specs.Items.{SegmentsAt, SelectorsAt, SelectorAt, Parts, parts, front, last, many_some, is_end}
use Rattle.eval_items.specs.Leaves.{AskOne, DoneOne}
use Rattle.eval_items.specs.LeafLaws.{name_else, index_else}
use Rattle.eval_front.specs.Visits.{AskReach, DoneReach}
use Rattle.eval_front.specs.Turns.{leads_in}
use Rattle.eval_front.specs.Stands.{one_found, one_absent, segments_at}
use Rattle.eval_front.specs.Overs.{over_step}
use Rattle.eval_front.specs.Spans.{Room}
use Rattle.eval_front.specs.declared.Reached.{Reached}
use Rattle.eval_shortcuts.specs.Alongs.{AskAlong, InAlong}
use Rattle.eval_shortcuts.specs.Picks.{Ones, Ends, Picks, Many, DonePut, AskPick, DonePick, Opened, ones_less, ones_upto, one_long, many_ends}

-- ---- one name or index

module _ {P L S X : List ℕ} {p node cap : ℕ} {l : List ℕ} {at : ℕ} where
  pub put_found : Accepted S X → {l' : List ℕ} {f : Option ℕ} {r m : ℕ} → DoneOne P L S X p node f → f ≡ Some m → st cap l' r ≡ push m (st cap l at) → DonePut P L S X p node cap l at l' r
  unfolding push
  put_found tab {l'} {f} {r} {m} d v e =
      let n = ap (λ (s : State). s.next) e in
      record {
        room = omega arith;
        puts = λ x k a R. one_found S X x R (node_at S X node) end f m (st cap l at) (st cap l' r) v (d.selects x k R a) (e ∙ sym (go_end S X tab R m (d.inside m v) (st cap l at)));
      }

  pub put_none : {f : Option ℕ} → DoneOne P L S X p node f → f ≡ None → at ≤ cap + 1 → DonePut P L S X p node cap l at l at
  put_none {f} d v h = record { room = h; puts = λ x k a R. one_absent S X x R (node_at S X node) end f (st cap l at) v (d.selects x k R a) }

-- ---- several of them on a node

-- the first of some selectors
record Foremost (P L : List ℕ) (q k : ℕ) : Type 0 where
  x : Selector
  here : SelectorAt P L q k x

foremost : (P L : List ℕ) (q k : ℕ) (rs : Selectors) → SelectorsAt P L q k rs → Foremost P L q k
foremost P L q k rs a = by (leb (many_selectors rs) 1) refl
  where
    by : (b : Bits) → leb (many_selectors rs) 1 ≡ b → Foremost P L q k
    by true e = let y = last P L q k rs a (leb-true _ 1 e) in record { x = y.s; here = y.here }
    by false e = let y = front P L q k rs a (leb-false _ 1 e) in record { x = y.s; here = y.here }

-- c of the selectors are left at q
pub record Still (P L S X : List ℕ) (node cap : ℕ) (ss : Selectors) (l₀ : List ℕ) (a₀ : ℕ) (l : List ℕ) (a q c : ℕ) : Type 0 where
  pub rs : Selectors
  pub k : ℕ
  pub at : SelectorsAt P L q k rs
  pub many : many_selectors rs ≡ c
  pub same : (R : Json) → go end R (eval_selectors rs R (node_at S X node)) (st cap l a) ≡ go end R (eval_selectors ss R (node_at S X node)) (st cap l₀ a₀)

-- m of n selectors are done
pub record InPick (P L S X : List ℕ) (node p n cap : ℕ) (l₀ : List ℕ) (a₀ : ℕ) (l : List ℕ) (a q m : ℕ) : Type 0 where
  pub upto : m ≤ n
  pub ends : Ends P q (n - m)
  pub same : length l ≡ length l₀
  pub room : a ≤ cap + 1
  pub left : (y : Many P L p n) → m < n → Still P L S X node cap y.ss l₀ a₀ l a q (n - m)
  pub done : (y : Many P L p n) → n ≤ m → (R : Json) → st cap l a ≡ go end R (eval_selectors y.ss R (node_at S X node)) (st cap l₀ a₀)

module _ {P L S X : List ℕ} {node p n cap : ℕ} {l₀ : List ℕ} {a₀ : ℕ} (s : AskPick P L S X node p n (length l₀) a₀ cap) where
  pub pick_start : InPick P L S X node p n cap l₀ a₀ l₀ a₀ p 0
  pick_start =
      let e : n ≡ n - 0 = omega arith in
      record {
        upto = omega arith;
        ends = subst (Ends P p) e s.ends;
        same = refl;
        room = s.list.room;
        left = λ y h. record { rs = y.ss; k = y.k; at = y.at; many = y.number ∙ e; same = λ R. refl };
        done = λ y h R. absurd (omega (arith, many_some y.ss, y.number));
      }

  module _ {l : List ℕ} {a q m : ℕ} (t : InPick P L S X node p n cap l₀ a₀ l a q m) where
    pub pick_done : n ≤ m → DonePick P L S X node p n cap l₀ a₀ l a
    pick_done h = record { room = t.room; gives = λ y R. t.done y h R }

    pub pick_room : Room (length l) a cap
    pick_room = let e = t.same in record { room = t.room; wide = omega (arith, s.list.wide); small = s.list.small }

    module _ (h : m < n) where
      opened : Opened P q (n - m) t.ends.z
      opened = ones_less P q (n - m) t.ends.z (omega arith) t.ends.ones

      pub pick_low : 5 ≤ get_or P q 0
      pick_low = opened.low

      pub pick_high : get_or P q 0 ≤ 6
      pick_high = opened.high

      pub pick_bound : q + (4 * get_or P q 0 - 15) < length P
      pick_bound = omega (arith, ones_upto P _ _ _ opened.others, t.ends.inside)

      still : Still P L S X node cap s.many.ss l₀ a₀ l a q (n - m)
      still = t.left s.many h

      pub pick_one : (kind : ℕ) → get_or P q 0 ≡ kind → AskOne P L S X q node kind kind
      pick_one kind e =
          let x = foremost P L q still.k still.rs still.at in
          record { few_p = s.given.few_p; few_l = s.given.few_l; tab = s.given.tab; node_in = s.node_in; x = x.x; k = still.k; at = x.here; kind_low = omega arith; kind_high = omega arith }

      -- what a selector of the other kind selects: an index of a map, and a name of what is no map
      pub pick_index : kind_at S node ≡ kind_map → get_or P q 0 ≡ 6 → DonePut P L S X q node cap l a l a
      pick_index e i = put_none (index_else (pick_one 6 i) (λ u. omega (arith, u, e))) refl t.room

      pub pick_name : (kind_at S node ≡ kind_map → ⊥) → get_or P q 0 ≡ 5 → DonePut P L S X q node cap l a l a
      pick_name e i = put_none (name_else (pick_one 5 i) e) refl t.room

      module _ {l' : List ℕ} {a' q' : ℕ} (d : DonePut P L S X q node cap l a l' a') (w : length l' ≡ length l) (e : q' ≡ q + (4 * get_or P q 0 - 15)) where
        long : (k : ℕ) (x : Selector) → SelectorAt P L q k x → q + length (code_selector x k) ≡ q'
        long k x b = omega (arith, one_long P L s.given.few_p s.given.few_l q k x b pick_low pick_high)

        next_left : (y : Many P L p n) → m + 1 < n → Still P L S X node cap y.ss l₀ a₀ l' a' q' (n - (m + 1))
        next_left y g =
            let u = t.left y h in
            let v = u.many in
            let f = front P L q u.k u.rs u.at (omega arith) in
            record {
              rs = f.others;
              k = u.k + length (pool_selector f.s);
              at = subst (λ (i : ℕ). SelectorsAt P L i (u.k + length (pool_selector f.s)) f.others) (long u.k f.s f.here) f.there;
              many = omega (arith, f.fewer);
              same = λ R. selectors_step end R (node_at S X node) u.rs f.others f.s (st cap l a) (st cap l' a') _ f.made (d.puts f.s u.k f.here R) (u.same R);
            }

        next_done : (y : Many P L p n) → n ≤ m + 1 → (R : Json) → st cap l' a' ≡ go end R (eval_selectors y.ss R (node_at S X node)) (st cap l₀ a₀)
        next_done y g R =
            let u = t.left y h in
            let v = u.many in
            let f = last P L q u.k u.rs u.at (omega arith) in
            selectors_last end R (node_at S X node) u.rs f.s (st cap l a) (st cap l' a') _ f.made (d.puts f.s u.k f.here R) (u.same R)

        pub pick_next : InPick P L S X node p n cap l₀ a₀ l' a' q' (m + 1)
        pick_next =
            let c : n - m - 1 ≡ n - (m + 1) = omega arith in
            record {
              upto = omega arith;
              ends = record { z = t.ends.z; ones = subst (λ (i : ℕ). Ones P q' i t.ends.z) c (subst (λ (i : ℕ). Ones P i (n - m - 1) t.ends.z) (sym e) opened.others); inside = t.ends.inside; ended = t.ends.ended };
              same = w ∙ t.same;
              room = d.room;
              left = next_left;
              done = next_done;
            }

-- ---- the nodes of a range

module _ {P L S X : List ℕ} {i e rest cap : ℕ} {l₀ : List ℕ} {a₀ : ℕ} (s : AskAlong P L S X i e rest (length l₀) a₀ cap) {pc : ℕ} (y : Picks P pc) {l : List ℕ} {a j : ℕ} (t : InAlong P L S X i e rest cap l₀ a₀ l a j) (h : j < e) where
  pub picked_reach : AskReach P L S X j rest
  picked_reach = let b = t.low in record { given = s.given; node_in = omega (arith, s.range (omega arith)); query = s.query }

  -- a node with the query that stands at rest, told for every form of it
  picked_step : {l' : List ℕ} {a' : ℕ} → length l' ≡ length l → a' ≤ cap + 1 → ((f : Segments) (k : ℕ) → SegmentsAt P L rest k f → (R : Json) → st cap l' a' ≡ go f R (node_at S X j ∷ []) (st cap l a)) → InAlong P L S X i e rest cap l₀ a₀ l' a' (j + 1)
  picked_step {l'} {a'} w b d =
      record { low = omega (arith, t.low); high = λ u. omega arith; same = w ∙ t.same; room = b; again = λ f k q R. over_step f R one_of S X j e (st cap l a) (st cap l' a') h (d f k q R) ∙ t.again f k q R }

  module _ {r : Reached} (d : DoneReach P L S X j rest r) where
    -- there is no such node
    pub picked_lost : {m : ℕ} → r.node ≡ Err m → InAlong P L S X i e rest cap l₀ a₀ l a (j + 1)
    picked_lost {m} o = picked_step refl t.room (λ f k q R. (d.front f k q).lost m o R (st cap l a))

    module _ {m : ℕ} (o : r.node ≡ Ok m) (v : r.pc ≡ pc) {n : ℕ} (c : n ≡ number (part P (pc + 1) 2)) where
      segment : (f : Segments) (k : ℕ) (q : SegmentsAt P L rest k f) → Parts P L pc (d.front f k q).j (d.front f k q).g
      segment f k q = parts P L s.given.few_p pc (d.front f k q).j (d.front f k q).g (segments_at pc (sym v) (d.front f k q).at) (λ z. omega (arith, z, y.child))

      several : (f : Segments) (k : ℕ) (q : SegmentsAt P L rest k f) → Many P L (pc + 3) n
      several f k q = let x = segment f k q in record { ss = x.ss; k = (d.front f k q).j; at = x.selectors; number = sym x.count ∙ sym c }

      ending : Ends P (pc + 3) n
      ending = subst (Ends P (pc + 3)) (sym c) y.ends

      pub picked_asked : AskPick P L S X m (pc + 3) n (length l) a cap
      picked_asked =
          let w = t.same in
          record {
            given = s.given;
            node_in = leads_in d o;
            many = several s.query.f s.query.k s.query.at;
            ends = ending;
            list = record { room = t.room; wide = omega (arith, s.list.wide); small = s.list.small };
          }

      -- the query ends behind the segment
      nothing_more : (f : Segments) (k : ℕ) (q : SegmentsAt P L rest k f) → (segment f k q).q ≡ end
      nothing_more f k q =
          let x = segment f k q in
          let w = many_ends P L s.given.few_p s.given.few_l n (pc + 3) ending.z ending.ones (d.front f k q).j x.ss x.selectors (sym x.count ∙ sym c) in
          is_end P _ _ x.q x.after.holds (ap (λ (b : ℕ). get_or P b 0) w ∙ ending.ended)

      pub picked_next : {l' : List ℕ} {a' : ℕ} → length l' ≡ length l → DonePick P L S X m (pc + 3) n cap l a l' a' → InAlong P L S X i e rest cap l₀ a₀ l' a' (j + 1)
      unfolding several
      picked_next {l'} {a'} w g =
          picked_step w g.room
          (λ f k q R.
          let x = segment f k q in
          g.gives (several f k q) R
          ∙ ap (λ (z : Segments). go z R (eval_selectors x.ss R (node_at S X m)) (st cap l a)) (sym (nothing_more f k q))
          ∙ segment_child x.ss x.q (d.front f k q).g R (node_at S X m) (st cap l a) (x.is_child y.child)
          ∙ (d.front f k q).found m o R (st cap l a))
