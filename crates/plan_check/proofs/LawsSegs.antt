-- The laws of the reader of segments. Assumes nothing.
use Prim.Native.Nat.{ℕ, zero, suc, max, ◌+◌, ◌-◌, ◌*◌, ◌≤◌, ◌<◌}
use native.Mathlib.Nat.{le-max_right, max-le, zero-max, mul_assoc}
use native.Mathlib.Omega.{arith}
use mathlib.Core.Path.{◌≡◌, refl, sym, ap, ◌∙◌}
use mathlib.Core.List.{List, ◌∷◌, ◌++◌}
use mathlib.Core.Bool.{Bool, true, false, cond, ◌&&◌}
use borrow.Author.Tests.{eqb-true, eq-eqb, ne_eqb}
use lib.Dec.{eqb}
use lib.ListN.{length, drop, get_or, length-append, length-drop}
use Rattle.definition.specs.Limits.{max_plan}
use Rattle.definition.specs.Forms.{Segments, Selectors, many_selectors, is_singular_selector, is_singular_selectors, is_singular_segments}
use Rattle.definition.specs.Forms.Segments.{end, child, descendant}
use Rattle.definition.specs.Forms.Selectors.{one, and}
use Rattle.definition.specs.QueryForms.{selectors_right, nesting_segments}
use Rattle.definition.specs.Plans.{two, pool_selectors, pool_segments}
use Rattle.basics.specs.Bools.{and_left, and_right, both_true}
use Rattle.basics.specs.Lists.{differ, same_tail}
use Rattle.plan_laws.specs.Lists.{number_same}
use Rattle.plan_laws.specs.Parts.{Spelt, plan_rest, pool_rest, move}
use Rattle.plan_laws.specs.Queries.{selectors_part, segments_part, sort_segments, segment, segment_kind, InSegment, into_segment, from_segment, many_fits, into_end, from_end, many_long, many_same}
use Rattle.plan_laws.specs.One.{tests_once}
use Rattle.text.specs.Words.{Word}
use Rattle.plan_items.specs.Readings.{Kind, Asks, Read, NoPart, Post, next, stop}
use Rattle.plan_items.specs.declared.Got.{Got}
use Rattle.std.specs.Prelude.{Option, Some, None}
use Rattle.plan_items.proofs.Words.{word_at, kind_is, kind_at, kind_in_at, kind_not}
use Rattle.plan_check.specs.Loops.{counted, last_sort, segments_from, single_sort}
use Rattle.plan_check.proofs.Steps.{Maps, maps, low_of}

-- ---- sorts

sort_product : (a b : Bool) → cond (a && b) 1 0 ≡ cond a 1 0 * cond b 1 0
sort_product true true = omega arith
sort_product true false = omega arith
sort_product false b = omega arith

-- segments are singular if the first is, and the others are
pub sort_segment : (d : Bool) (ss : Selectors) (q : Segments) → sort_segments (segment d ss q) ≡ single_sort (segment_kind d) (many_selectors ss) (last_sort ss) * sort_segments q
unfolding is_singular_segments is_singular_selectors many_selectors
sort_segment true (one s) q = sort_product (is_singular_selector s) (is_singular_segments q)
sort_segment true (and s ss) q = rw (ne_eqb (suc (many_selectors ss)) 1 (λ e. let a = (many_long ss 0).0 in omega arith)) (omega arith)
sort_segment false ss q = omega arith

-- the same in the words of the code
sort_step : (σ σ' k n s : ℕ) (d : Bool) (ss : Selectors) (q : Segments) → σ' ≡ σ * single_sort k n s → k ≡ segment_kind d → s ≡ last_sort ss → many_selectors ss ≡ n → σ' * sort_segments q ≡ σ * sort_segments (segment d ss q)
sort_step σ σ' k n s d ss q a b c e = rw (a, b, c, sort_segment d ss q, e) (mul_assoc σ (single_sort (segment_kind d) n (last_sort ss)) (sort_segments q))

pub sort_low : (q : Segments) → sort_segments q ≤ 1
sort_low q = go (is_singular_segments q)
  where
    go : (b : Bool) → cond b 1 0 ≤ 1
    go true = omega arith
    go false = omega arith

pub last_low : (ss : Selectors) → last_sort ss ≤ 1
last_low (one s) = go (is_singular_selector s)
  where
    go : (b : Bool) → cond b 1 0 ≤ 1
    go true = omega arith
    go false = omega arith
last_low (and s ss) = last_low ss

pub single_low : (b k n s : ℕ) → b ≤ 1 → s ≤ 1 → b * single_sort k n s ≤ 1
single_low zero k n s hb hs = omega arith
single_low (suc zero) k n s hb hs = go (eqb k 0x03) (eqb n 1)
  where
    go : (x y : Bool) → 1 * cond x (cond y s 0) 0 ≤ 1
    go true true = omega arith
    go true false = omega arith
    go false y = omega arith
single_low (suc (suc b)) k n s hb hs = absurd (omega arith)

-- ---- segments behind others

pub into_run : (h σ : ℕ) {room p : ℕ} {s l r m : List ℕ} {q : Segments} → Spelt (segments_from h σ) room s l p q r m → Spelt segments_part room s l p q r m
into_run h σ {room = room} {q = q} u =
    let a = le-max_right h (nesting_segments q) in
    let b : max h (nesting_segments q) ≤ room = u.low in
    record { plan = u.plan; pool = u.pool; right = u.right; low = omega arith; may = refl }

pub from_run : (h σ : ℕ) {room p : ℕ} {s l r m : List ℕ} {q : Segments} → h ≤ room → Spelt segments_part room s l p q r m → Spelt (segments_from h σ) room s l p q r m
from_run h σ a u = record { plan = u.plan; pool = u.pool; right = u.right; low = max-le a u.low; may = refl }

-- n selectors are selectors, n of them
into_exact : (n : ℕ) {room p : ℕ} {s l r m : List ℕ} {x : Selectors} → Spelt (counted n) room s l p x r m → (many_selectors x ≡ n) × Spelt selectors_part room s l p x r m
into_exact n {x = x} u = (
  eqb-true (many_selectors x) n (and_left (eqb (many_selectors x) n) (selectors_right x) u.right),
  record { plan = u.plan; pool = u.pool; right = and_right (eqb (many_selectors x) n) (selectors_right x) u.right; low = u.low; may = refl },
)

from_exact : (n : ℕ) {room p : ℕ} {s l r m : List ℕ} {x : Selectors} → many_selectors x ≡ n → Spelt selectors_part room s l p x r m → Spelt (counted n) room s l p x r m
from_exact n {x = x} e u = record { plan = u.plan; pool = u.pool; right = both_true (eq-eqb (many_selectors x) n e) u.right; low = u.low; may = refl }

-- selectors of one number are spelled in one way
many_once : {room room' p : ℕ} {s l r r' m m' : List ℕ} (x x' : Selectors) → many_selectors x ≡ many_selectors x' → length s < suc max_plan → length l ≤ max_plan → Spelt selectors_part room s l p x r m → Spelt selectors_part room' s l p x' r' m' → x ≡ x'
many_once = many_same {n = max_plan} (omega arith) tests_once

-- a segment that is spelled, by its kind
data SegmentsOf (room : ℕ) (s l : List ℕ) (p : ℕ) (r m : List ℕ) : Type 0 where
  of_end : s ≡ 0x0A ∷ r → l ≡ m → SegmentsOf room s l p r m
  of_segment : (d : Bool) (ss : Selectors) (q : Segments) → InSegment d room s l p ss q r m → SegmentsOf room s l p r m

segments_of_lem : {room p : ℕ} {s l r m : List ℕ} (q : Segments) → Spelt segments_part room s l p q r m → SegmentsOf room s l p r m
segments_of_lem end u = of_end (into_end u).0 (into_end u).1
segments_of_lem (child ss q) u = of_segment true ss q (into_segment true u)
segments_of_lem (descendant ss q) u = of_segment false ss q (into_segment false u)

-- one kind only stands at a place
kind_same : (d d' : Bool) {s t t' : List ℕ} → s ≡ segment_kind d ∷ t → s ≡ segment_kind d' ∷ t' → d ≡ d'
kind_same true true e f = refl
kind_same true false e f = absurd (differ 0x03 0x04 refl e f)
kind_same false true e f = absurd (differ 0x04 0x03 refl e f)
kind_same false false e f = refl

kind_no_end : (d : Bool) → segment_kind d ≡ 0x0A → ⊥
kind_no_end true e = omega arith
kind_no_end false e = omega arith

module _ {S L : List ℕ} {at p room k : ℕ} (h σ : ℕ) (w : Asks S L at p room) (low : h ≤ room) (e : Kind S at k) where
  pub run_end : k ≡ 0x0A → Post (segments_from h σ) room S L at p (Some (record { at = at + 1; p = p; h = h; sort = σ }))
  unfolding pool_segments nesting_segments is_singular_segments
  run_end f = next {g = record { at = at + 1; p = p; h = h; sort = σ }} (record {
    form = end;
    spelt = from_run h σ low (from_end (kind_at e f) refl);
    from = omega arith;
    to = kind_in_at e f;
    grown = omega arith;
    held = w.pool;
    nest = omega arith;
    sort = omega arith;
  })

  pub run_none : (k ≡ 0x0A → ⊥) → (k ≡ 0x03 → ⊥) → (k ≡ 0x04 → ⊥) → NoPart (segments_from h σ) room S L at p
  run_none a b c = record { none = λ q r m u. go (segments_of_lem q (into_run h σ u)) }
    where
      go : {r m : List ℕ} → SegmentsOf room (drop at S) (drop p L) p r m → ⊥
      go (of_end f g) = kind_not e 0x0A a f
      go (of_segment true ss q v) = kind_not e 0x03 b v.is
      go (of_segment false ss q v) = kind_not e 0x04 c v.is

  module _ (a : k ≡ 0x0A → ⊥) where
    pub run_short : length S - at < 3 → NoPart (segments_from h σ) room S L at p
    run_short f = record { none = λ q r m u. go (segments_of_lem q (into_run h σ u)) }
      where
        go : {r m : List ℕ} → SegmentsOf room (drop at S) (drop p L) p r m → ⊥
        go (of_end g i) = kind_not e 0x0A a g
        go (of_segment d ss q v) = let b = (many_fits d v).0 in let c = length-drop at S in omega arith

    module _ (bytes : (i : ℕ) → get_or S i 0 < 256) (long : 3 ≤ length S - at) {n : ℕ} (wn : Word 2 S (at + 1) n) (d : Bool) (ek : k ≡ segment_kind d) where
      -- the segment that stands there
      run_here : (d' : Bool) {ss : Selectors} {q : Segments} {r m : List ℕ} (v : InSegment d' room (drop at S) (drop p L) p ss q r m) → (many_selectors ss ≡ n) × (drop (at + 3) S ≡ v.start) × (d ≡ d')
      run_here d' {ss} v =
          let j = many_fits d' v in
          let c = length-drop at S in
          let b = w.small in
          let x : drop at S ≡ segment_kind d ∷ drop (at + 1) S = kind_is e (kind_some d ek) ∙ ap (λ o. o ∷ drop (at + 1) S) ek in
          let y : at + 1 + 2 ≡ at + 3 = omega arith in
          let z = number_same 2 n (many_selectors ss) wn.fits (omega arith) (word_at bytes (omega arith) wn ∙ ap (λ o. two n ++ drop o S) y) (same_tail x v.is) in
          (sym z.0, z.1, kind_same d d' x v.is)
        where
          kind_some : {k : ℕ} (d : Bool) → k ≡ segment_kind d → 1 ≤ k
          kind_some true f = omega arith
          kind_some false f = omega arith

      pub run_zero : n ≡ 0 → NoPart (segments_from h σ) room S L at p
      run_zero z = record { none = λ q r m u. go (segments_of_lem q (into_run h σ u)) }
        where
          go : {r m : List ℕ} → SegmentsOf room (drop at S) (drop p L) p r m → ⊥
          go (of_end g i) = kind_not e 0x0A a g
          go (of_segment d' ss q v) = let b = (run_here d' v).0 in let c = (many_long ss 0).0 in omega arith

      pub run_stop : NoPart (counted n) room S L (at + 3) p → NoPart (segments_from h σ) room S L at p
      run_stop x = record { none = λ q r m u. go (segments_of_lem q (into_run h σ u)) }
        where
          go : {r m : List ℕ} → SegmentsOf room (drop at S) (drop p L) p r m → ⊥
          go (of_end g i) = kind_not e 0x0A a g
          go (of_segment d' ss q v) =
              let b = run_here d' v in
              x.none ss v.plan v.pool (from_exact n b.0 (move v.first (sym b.1) refl refl))

      pub run_next : {g : Got} {h' σ' : ℕ} → h' ≡ max h g.h → σ' ≡ σ * single_sort k n g.sort → Read (counted n) room S L (at + 3) p g → Maps (segments_from h' σ') (segments_from h σ) room S L at p g.at g.p
      unfolding pool_segments nesting_segments
      run_next {g} {h'} {σ'} eh es rd = record { make = λ q. segment d ss₀ q; there = there; back = λ q r m u. back (segments_of_lem q (into_run h σ u)); pool = λ q _. pool d q; nest = λ q _. nest d q; sort = λ q _. sort q; from = let b = rd.from in omega arith }
        where
          ss₀ : Selectors
          ss₀ = rd.form

          exact : (many_selectors ss₀ ≡ n) × Spelt selectors_part room (drop (at + 3) S) (drop p L) p ss₀ (drop g.at S) (drop g.p L)
          exact = into_exact n rd.spelt

          kind_some : {k : ℕ} (d : Bool) → k ≡ segment_kind d → 1 ≤ k
          kind_some true f = omega arith
          kind_some false f = omega arith

          here : drop at S ≡ segment_kind d ∷ (two (many_selectors ss₀) ++ drop (at + 3) S)
          here =
              let y : at + 1 + 2 ≡ at + 3 = omega arith in
              kind_is e (kind_some d ek) ∙ ap (λ o. o ∷ drop (at + 1) S) ek ∙ ap (λ o. segment_kind d ∷ o) (word_at bytes (omega arith) wn ∙ ap (λ o. two n ++ drop o S) y ∙ ap (λ o. two o ++ drop (at + 3) S) (sym exact.0))

          there : (q : Segments) (r m : List ℕ) → Spelt (segments_from h' σ') room (drop g.at S) (drop g.p L) g.p q r m → Spelt (segments_from h σ) room (drop at S) (drop p L) p (segment d ss₀ q) r m
          there q r m u = from_run h σ low (from_segment d (record { start = drop (at + 3) S; plan = drop g.at S; pool = drop g.p L; is = here; first = exact.1; rest = move (into_run h' σ' u) refl refl rd.grown }))

          back : {r m : List ℕ} → SegmentsOf room (drop at S) (drop p L) p r m → (q : Segments) × Spelt (segments_from h' σ') room (drop g.at S) (drop g.p L) g.p q r m
          back (of_end f i) = absurd (kind_not e 0x0A a f)
          back (of_segment d' ss q v) =
              let b = run_here d' v in
              let z = w.small in
              let y = length-drop (at + 3) S in
              let f = w.few in
              let f' = length-drop p L in
              let c = many_once ss₀ ss (exact.0 ∙ sym b.0) (omega arith) (omega arith) exact.1 (move v.first (sym b.1) refl refl) in
              let u = move v.first (sym b.1) refl refl in
              let place : p + length (pool_selectors ss) ≡ g.p = ap (λ o. p + length (pool_selectors o)) (sym c) ∙ sym rd.grown in
              (q, from_run h' σ' (rw eh (max-le low (low_of rd))) (move v.rest (sym (plan_rest exact.1 u c)) (sym (pool_rest exact.1 u c)) place))

          pool : (d : Bool) (q : Segments) → g.p + length (pool_segments q) ≡ p + length (pool_segments (segment d ss₀ q))
          pool true q = let a = rd.grown in let b = length-append (pool_selectors ss₀) (pool_segments q) in omega arith
          pool false q = let a = rd.grown in let b = length-append (pool_selectors ss₀) (pool_segments q) in omega arith

          nest : (d : Bool) (q : Segments) → max h' (nesting_segments q) ≡ max h (nesting_segments (segment d ss₀ q))
          nest true q = let a = rd.nest in omega arith
          nest false q = let a = rd.nest in omega arith

          sort : (q : Segments) → σ' * sort_segments q ≡ σ * sort_segments (segment d ss₀ q)
          sort q = sort_step σ σ' k n g.sort d ss₀ q es ek rd.sort exact.0

-- ---- the loop: what is right from here on is right from the start

pub record GoSegs (S L : List ℕ) (room at₀ p₀ at p h σ : ℕ) : Type 0 where
  pub on : (r : Option Got) → Post (segments_from h σ) room S L at p r → Post segments_part room S L at₀ p₀ r
  pub start : Asks S L at p room
  pub low : h ≤ room
  pub bit : σ ≤ 1
  pub from : at₀ ≤ at

-- the kind of a segment
abbrev pub SegmentKind : ℕ → Type 0
SegmentKind k = (d : Bool) × (k ≡ segment_kind d)

pub segs_start : {S L : List ℕ} {room at p : ℕ} → Asks S L at p room → GoSegs S L room at p at p 0 1
segs_start w = record { on = λ r x. maps same x; start = w; low = omega arith; bit = omega arith; from = omega arith }
  where
    same : {S L : List ℕ} {room at p : ℕ} → Maps (segments_from 0 1) segments_part room S L at p at p
    same = record { make = λ x. x; there = λ x r m u. into_run 0 1 u; back = λ y r m u. (y, from_run 0 1 (omega arith) u); pool = λ x _. refl; nest = λ x _. zero-max (nesting_segments x); sort = λ x _. omega arith; from = omega arith }

module _ {S L : List ℕ} {room at₀ p₀ at p h σ k : ℕ} (i : GoSegs S L room at₀ p₀ at p h σ) (e : Kind S at k) where
  pub segs_end : k ≡ 0x0A → Post segments_part room S L at₀ p₀ (Some (record { at = at + 1; p = p; h = h; sort = σ }))
  segs_end f = i.on _ (run_end h σ i.start i.low e f)

  pub segs_none : (k ≡ 0x0A → ⊥) → (k ≡ 0x03 → ⊥) → (k ≡ 0x04 → ⊥) → Post segments_part room S L at₀ p₀ None
  segs_none a b c = i.on None (stop (run_none h σ i.start i.low e a b c))

  module _ (a : k ≡ 0x0A → ⊥) where
    pub segs_short : length S - at < 3 → Post segments_part room S L at₀ p₀ None
    segs_short f = i.on None (stop (run_short h σ i.start i.low e a f))

    module _ (bytes : (i : ℕ) → get_or S i 0 < 256) (long : 3 ≤ length S - at) {n : ℕ} (wn : Word 2 S (at + 1) n) (dk : (d : Bool) × (k ≡ segment_kind d)) where
      pub segs_zero : n ≡ 0 → Post segments_part room S L at₀ p₀ None
      segs_zero z = i.on None (stop (run_zero h σ i.start i.low e a bytes long wn dk.0 dk.1 z))

      pub segs_stop : NoPart (counted n) room S L (at + 3) p → Post segments_part room S L at₀ p₀ None
      segs_stop x = i.on None (stop (run_stop h σ i.start i.low e a bytes long wn dk.0 dk.1 x))

      pub segs_more : {g : Got} {h' σ' : ℕ} → h' ≡ max h g.h → σ' ≡ σ * single_sort k n g.sort → Read (counted n) room S L (at + 3) p g → GoSegs S L room at₀ p₀ g.at g.p h' σ'
      segs_more eh es rd =
          let f = i.from in
          let f' = rd.from in
          record {
            on = λ r x. i.on r (maps (run_next h σ i.start i.low e a bytes long wn dk.0 dk.1 eh es rd) x);
            start = record { plan = rd.to; pool = rd.held; small = i.start.small; few = i.start.few; deep = i.start.deep };
            low = rw eh (max-le i.low (low_of rd));
            bit = rw (es, rd.sort) (single_low σ k n (last_sort rd.form) i.bit (last_low rd.form));
            from = omega arith;
          }

-- the sort of selectors that were read
pub sort_of_lem : (n : ℕ) {room at p : ℕ} {S L : List ℕ} {g : Got} → Read (counted n) room S L at p g → g.sort ≤ 1
sort_of_lem n rd = let a = rd.sort in let b = last_low rd.form in omega arith

-- where the selectors begin
pub segs_behind : {S L : List ℕ} {room at₀ p₀ at p h σ : ℕ} → GoSegs S L room at₀ p₀ at p h σ → 3 ≤ length S - at → Asks S L (at + 3) p room
segs_behind i l = record { plan = omega arith; pool = i.start.pool; small = i.start.small; few = i.start.few; deep = i.start.deep }

-- ---- the sort of segments, in the words of the code

pub single_none : (b k n s : ℕ) → b ≡ 0 → 0 ≡ b * single_sort k n s
single_none b k n s e = rw e (omega arith)

pub single_kind : (b k n s : ℕ) → (k ≡ 0x03 → ⊥) → 0 ≡ b * single_sort k n s
single_kind b k n s e = rw (ne_eqb k 0x03 e) (omega arith)

pub single_many : (b k n s : ℕ) → k ≡ 0x03 → (n ≡ 1 → ⊥) → 0 ≡ b * single_sort k n s
single_many b k n s e f = rw (eq-eqb k 0x03 e, ne_eqb n 1 f) (omega arith)

pub single_one : (b k n s : ℕ) → b ≤ 1 → (b ≡ 0 → ⊥) → k ≡ 0x03 → n ≡ 1 → s ≡ b * single_sort k n s
single_one b k n s l z e f = let i : b ≡ 1 = omega arith in rw (eq-eqb k 0x03 e, eq-eqb n 1 f, i) (omega arith)
