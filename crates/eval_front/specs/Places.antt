-- The places of a slice as nodes: one after the other, and from a range of children to the table. Numbers from a place on. Assumes nothing.
use Prim.Native.Nat.{ℕ, zero, suc, ◌+◌, ◌-◌, ◌≤◌, ◌<◌}
use Rattle.std.specs.Prelude.{◌≡◌, Bool as Bits, ltb}
use Rattle.std.proofs.Math.Path.{refl, ap}
use Rattle.std.proofs.Common.{sym, ◌∙◌, subst, ltb-true, ltb-false}
use mathlib.Core.List.{List, [], ◌∷◌, head-eq_of_cons-eq, tail-eq_of_cons-eq}
use Rattle.std.proofs.Math.Bool.{true, false}
use native.Mathlib.Omega.{arith}
use Rattle.definition.specs.Limits.{max_nodes}
use Rattle.definition.specs.Values.{Json}
use Rattle.definition.specs.Forms.{Segments}
use Rattle.definition.specs.Forms.Segments.{end}
use Rattle.definition.specs.Tables.{node_count, node_at, kind_at, kind_list}
use Rattle.table_laws.specs.Accepted.{Accepted}
use Rattle.slices.specs.Walks.{moved, places_from, walked, Within, Inside, Next}
use Rattle.slices.specs.Laws.{within_at, within_next, step_down, step_up, inside_at}
use Rattle.slices.specs.declared.Walk.{Walk}
use Rattle.eval_laws.specs.States.{State, st, push, emit, emit_bound}
use Rattle.eval_laws.specs.Emits.{go}
use Rattle.eval_laws.specs.Steps.{segment_end}
use Rattle.eval_laws.specs.Ranges.{picked, picked_step, picked_end}
use Rattle.eval_front.specs.Loops.{InPassed}
use Rattle.eval_front.specs.Visits.{numbers_from, goes, Further, AskPlaced, DonePlaced}

-- ---- numbers

pub numbers_step : (j e : ℕ) (s s' : State) → j < e → s' ≡ push j s → emit (numbers_from (j + 1) (e - (j + 1))) s' ≡ emit (numbers_from j (e - j)) s
unfolding numbers_from emit
numbers_step j e s s' l d =
    let z : e - j ≡ suc (e - (j + 1)) = omega arith in
    ap (emit (numbers_from (j + 1) (e - (j + 1)))) d ∙ ap (λ (c : ℕ). emit (numbers_from j c) s) (sym z)

pub numbers_end : (j e : ℕ) (s : State) → e ≤ j → s ≡ emit (numbers_from j (e - j)) s
unfolding numbers_from emit
numbers_end j e s l = let z : 0 ≡ e - j = omega arith in ap (λ (c : ℕ). emit (numbers_from j c) s) z

pub push_bound : (m : ℕ) (l l' : List ℕ) (a r x : ℕ) → st m l' r ≡ push x (st m l a) → r ≤ m + 1
unfolding push
push_bound m l l' a r x e = let n = ap (λ (s : State). s.next) e in omega arith

pub emit_room : (m : ℕ) (l l' : List ℕ) (a r : ℕ) (xs : List ℕ) → st m l' r ≡ emit xs (st m l a) → a ≤ m + 1 → r ≤ m + 1
emit_room m l l' a r xs e h = let n = ap (λ (s : State). s.next) e in omega (arith, emit_bound xs (st m l a) h)

-- the places of a walk: the first, and none
pub walked_step : (w w' : Walk) (s s' : State) → Next w w' → s' ≡ push w.at s → emit (walked w') s' ≡ emit (walked w) s
unfolding emit
walked_step w w' s s' n d = ap (emit (walked w')) d ∙ ap (λ (ks : List ℕ). emit ks s) (sym n.places)

pub walked_end : (w : Walk) (s : State) → w.left ≤ 0 → s ≡ emit (walked w) s
unfolding emit walked places_from
walked_end w s l = let z : w.left ≡ 0 = omega arith in rw z

-- ---- a walk without its first place

steady : (w n : Walk) (c : ℕ) → n.left ≡ c → Next w n → Next w (record { at = n.at; left = n.left; step = w.step; down = w.down })
unfolding walked places_from Within
steady w n zero e d =
    let f : w.left ≡ suc zero = omega (arith, d.fewer) in
    record { places = rw (f, e); inside = λ k h. record { within = rw e tt }; fewer = d.fewer }
steady w n (suc l) e d =
    let f : w.left ≡ suc (suc l) = omega (arith, d.fewer) in
    let p : walked w ≡ w.at ∷ walked n = d.places in
    let q : places_from w.down w.step w.at (suc (suc l)) ≡ w.at ∷ places_from n.down n.step n.at (suc l) = rw (f, e) at p in
    let m : moved w.down w.step w.at ≡ n.at = head-eq_of_cons-eq (tail-eq_of_cons-eq q) in
    record {
      places = rw (f, e) (ap (λ (x : ℕ). w.at ∷ places_from w.down w.step x (suc l)) m);
      inside = λ k h. record { within = rw e (subst (λ (x : ℕ). Within k w.down w.step x (suc l)) m (within_next k w.down w.step w.at (suc l) (rw f at h.within))) };
      fewer = d.fewer;
    }

pub further_next : (w n : Walk) → Inside max_nodes w → Next w n → (n.left ≡ 0 → ⊥) → Further w (record { at = n.at; left = n.left; step = w.step; down = w.down })
further_next w n i d z = record { next = steady w n n.left refl d; near = omega (arith, inside_at max_nodes n (d.inside max_nodes i) (omega arith)); steady = refl; way = refl }

none_walked : (w : Walk) → w.left ≡ 0 → walked w ≡ []
unfolding walked places_from
none_walked w e = rw e

none_inside : (n : ℕ) (w : Walk) → w.left ≡ 0 → Inside n w
unfolding Within
none_inside n w e = record { within = rw e tt }

pub further_last : (w n : Walk) → Next w n → n.left ≡ 0 → Further w (record { at = 0; left = n.left; step = w.step; down = w.down })
further_last w n d e =
    record {
      next = record { places = d.places ∙ ap (λ (ks : List ℕ). w.at ∷ ks) (none_walked n e ∙ sym (none_walked (record { at = 0; left = n.left; step = w.step; down = w.down }) e)); inside = λ m i. none_inside m (record { at = 0; left = n.left; step = w.step; down = w.down }) e; fewer = d.fewer };
      near = omega arith;
      steady = refl;
      way = refl;
    }

-- ---- nodes in turn

pub goes_step : (f : Segments) (R : Json) (S X : List ℕ) (w w' : Walk) (s s' : State) → Next w w' → s' ≡ go f R (node_at S X w.at ∷ []) s → goes f R S X (walked w') s' ≡ goes f R S X (walked w) s
unfolding goes
goes_step f R S X w w' s s' n d = ap (goes f R S X (walked w')) d ∙ ap (λ (ks : List ℕ). goes f R S X ks s) (sym n.places)

pub goes_end : (f : Segments) (R : Json) (S X : List ℕ) (w : Walk) (s : State) → w.left ≤ 0 → s ≡ goes f R S X (walked w) s
unfolding goes walked places_from
goes_end f R S X w s l = let z : w.left ≡ 0 = omega arith in rw z

-- at the end of a query the places themselves are emitted
module _ (f : Segments) (R : Json) (S X : List ℕ) (tab : Accepted S X) (e : f ≡ end) where
  emit_by : (down : Bits) (step l at : ℕ) (s : State) → Within (node_count S) down step at l → emit (places_from down step at l) s ≡ goes f R S X (places_from down step at l) s
  unfolding emit goes places_from
  emit_by down step zero at s w = refl
  emit_by down step (suc l) at s w =
      emit_by down step l (moved down step at) (push at s) (within_next (node_count S) down step at l w)
      ∙ ap (goes f R S X (places_from down step (moved down step at) l)) (segment_end S X tab f R at (within_at (node_count S) down step at l w) s e)

  pub goes_places : (w : Walk) (s : State) → Inside (node_count S) w → emit (walked w) s ≡ goes f R S X (walked w) s
  unfolding walked
  goes_places w s i = emit_by w.down w.step w.left w.at s i.within

-- ---- the places of a range as nodes

lower : (first at step : ℕ) → step ≤ at → moved true step (first + at) ≡ first + moved true step at
unfolding moved
lower first at step l = omega arith

higher : (first at step : ℕ) → moved false step (first + at) ≡ first + moved false step at
unfolding moved
higher first at step = omega arith

-- a step further in the range is a step further in the table
shift : (first c : ℕ) (down : Bits) (step at l : ℕ) → Within c down step at (suc l) → places_from down step (moved down step (first + at)) l ≡ places_from down step (first + moved down step at) l
unfolding places_from
shift first c down step at zero w = refl
shift first c true step at (suc l) w = ap (λ (x : ℕ). places_from true step x (suc l)) (lower first at step (step_down c step at l w))
shift first c false step at (suc l) w = ap (λ (x : ℕ). places_from false step x (suc l)) (higher first at step)

module _ (first c : ℕ) (down : Bits) (step : ℕ) where
  picks_by : (S X : List ℕ) (f : Segments) (R : Json) (l at : ℕ) (s : State) → Within c down step at l → goes f R S X (places_from down step (first + at) l) s ≡ picked S X f R first c (places_from down step at l) s
  unfolding goes places_from
  picks_by S X f R zero at s w = picked_end S X f R first c s (picked S X f R first c [] s) refl
  picks_by S X f R (suc l) at s w =
      let s' = go f R (node_at S X (first + at) ∷ []) s in
      ap (λ (ks : List ℕ). goes f R S X ks s') (shift first c down step at l w)
      ∙ picks_by S X f R l (moved down step at) s' (within_next c down step at l w)
      ∙ picked_step S X f R first c at (places_from down step (moved down step at) l) s s' (picked S X f R first c (places_from down step at (suc l)) s) (within_at c down step at l w) refl refl

module _ {S : List ℕ} {first : ℕ} (w : Walk) (a : AskPlaced S first w) where
  placed_by : (r : Walk) → walked r ≡ places_from w.down w.step (first + w.at) w.left → r.left ≡ w.left → r.down ≡ w.down → r.step ≤ max_nodes → r.at ≤ max_nodes
      → ((c : ℕ) → Inside c w → (0 < c → first + c ≤ node_count S) → Inside (node_count S) r) → DonePlaced S first w r
  unfolding walked
  placed_by r e l d t u i =
      record {
        left = l;
        way = d;
        near = t;
        here = u;
        inside = i;
        picks = λ c h X f R s. ap (λ (ks : List ℕ). goes f R S X ks s) e ∙ picks_by first c w.down w.step S X f R w.left w.at s h.within;
      }

  pub place_bound : 0 < w.left → first + w.at < node_count S
  place_bound l = let b = inside_at a.c w a.inside l in let g = a.range (omega arith) in omega arith

  pub placed_none : w.left ≡ 0 → DonePlaced S first w (record { at = 0; left = w.left; step = 0; down = w.down })
  unfolding walked places_from Within
  placed_none e = placed_by (record { at = 0; left = w.left; step = 0; down = w.down }) (rw e) refl refl (omega arith) (omega arith) (λ c i g. record { within = rw e tt })

  one_within : (n x : ℕ) (down : Bits) → x < n → Within n down 0 x 1
  unfolding Within
  one_within n x true l = (l, omega arith)
  one_within n x false l = omega arith

  pub placed_one : w.left ≡ 1 → DonePlaced S first w (record { at = first + w.at; left = w.left; step = 0; down = w.down })
  unfolding walked places_from
  placed_one e =
      let b = place_bound (omega arith) in
      placed_by (record { at = first + w.at; left = w.left; step = 0; down = w.down }) (rw e) refl refl (omega arith) (omega (arith, a.few))
      (λ c i g. let h = inside_at c w i (omega arith) in let k = g (omega arith) in record { within = rw e (one_within (node_count S) (first + w.at) w.down (omega arith)) })

  many_within : (n c : ℕ) (down : Bits) (step at l : ℕ) → first + c ≤ n → Within c down step at l → Within n down step (first + at) l
  unfolding Within
  many_within n c down step at zero g h = tt
  many_within n c true step at (suc l) g h = let h0 = h.0 in let h1 = h.1 in (omega arith, omega arith)
  many_within n c false step at (suc l) g h = omega arith

  step_small : (c : ℕ) (down : Bits) (step at l : ℕ) → 1 < l → Within c down step at l → step ≤ c
  step_small c down step at zero p h = absurd (omega arith)
  step_small c down step at (suc zero) p h = absurd (omega arith)
  step_small c true step at (suc (suc l)) p h = omega (arith, step_down c step at l h, within_at c true step at (suc l) h)
  step_small c false step at (suc (suc l)) p h = omega (arith, step_up c step at l h)

  pub placed_many : (w.left ≡ 0 → ⊥) → (w.left ≡ 1 → ⊥) → DonePlaced S first w (record { at = first + w.at; left = w.left; step = w.step; down = w.down })
  unfolding walked
  placed_many n0 n1 =
      let p : 1 < w.left = omega arith in
      let b = place_bound (omega arith) in
      let t = inside_at a.c w a.inside (omega arith) in
      let g = a.range (omega arith) in
      placed_by (record { at = first + w.at; left = w.left; step = w.step; down = w.down }) refl refl refl
      (omega (arith, a.few, step_small a.c w.down w.step w.at w.left p a.inside.within)) (omega (arith, a.few))
      (λ c i k. let h = inside_at c w i (omega arith) in record { within = many_within (node_count S) c w.down w.step w.at w.left (k (omega arith)) i.within })

-- ---- one more node that is neither list nor map

pub passed_next : (S : List ℕ) (i e j : ℕ) → InPassed S i e j → j < e → kind_at S j < kind_list → InPassed S i e (j + 1)
passed_next S i e j p l k = record { low = omega (arith, p.low); high = λ u. omega arith; passed = λ m a b. by m a b (ltb m j) refl }
  where
    by : (m : ℕ) → i ≤ m → m < j + 1 → (t : Bits) → ltb m j ≡ t → kind_at S m < kind_list
    by m a b true e = p.passed m a (ltb-true m j e)
    by m a b false e = let n = ltb-false m j e in let z : j ≡ m = omega arith in subst (λ (x : ℕ). kind_at S x < kind_list) z k
