-- The laws of the readers of selectors: one, a test behind its length, and the n of a segment. Assumes nothing.
use Prim.Native.Nat.{ℕ, suc, max, ◌+◌, ◌-◌, ◌≤◌, ◌<◌}
use native.Mathlib.Nat.{le-max_right, max-le, zero-max}
use native.Mathlib.Omega.{arith}
use mathlib.Core.Path.{◌≡◌, refl, sym, ap, ◌∙◌}
use mathlib.Core.List.{List, [], ◌∷◌, ◌++◌, append_assoc, append-nil}
use borrow.Author.Tests.{eqb-true, eq-eqb}
use lib.Dec.{eqb}
use lib.IntN.{ℤ}
use lib.ListN.{length, take, drop, get_or, length-append, length-drop}
use lib.Seq.{take_at}
use Rattle.definition.specs.Bytes.{part}
use Rattle.definition.specs.Literals.{in_range}
use Rattle.definition.specs.Forms.{Selector, Selectors, Test, many_selectors, is_singular_selector}
use Rattle.definition.specs.Forms.Selectors.{one, and}
use Rattle.definition.specs.Forms.Selector.{name, index, slice, wildcard, filter}
use Rattle.definition.specs.QueryForms.{selectors_right, nesting_selector, nesting_selectors}
use Rattle.definition.specs.Plans.{two, pool_selector, pool_selectors, code_test}
use Rattle.definition_bytes.specs.Same.{part_length}
use Rattle.basics.specs.Bools.{and_left, and_right, both_true}
use Rattle.basics.specs.Lists.{differ, same_tail}
use Rattle.plan_laws.specs.Lists.{number_same}
use Rattle.plan_laws.specs.Parts.{Spelt, move}
use Rattle.plan_laws.specs.Leaves.{texts, integers, slices, Bounds}
use Rattle.plan_laws.specs.Queries.{nil_is, test_part, framed_part, InFrame, into_frame, frame_left, selector_part, SelectorOf, of_name, of_index, of_slice, of_wildcard, of_filter, selector_of, selector_from, selectors_part, into_one, from_one, into_and, from_and}
use Rattle.text.specs.Words.{Word}
use Rattle.text.proofs.Same.{part_rest}
use Rattle.plan_items.specs.Readings.{Kind, Asks, Within, Read, NoPart, Post, next, stop, AnyRoom, AnyPool}
use Rattle.plan_items.specs.declared.Got.{Got}
use Rattle.std.specs.Prelude.{Option, Some, None}
use Rattle.plan_items.proofs.Words.{word_at, kind_at, kind_in_at, kind_not}
use Rattle.plan_items.proofs.Called.{Behind, behind}
use Rattle.plan_check.specs.Loops.{counted, counted_from}
use Rattle.plan_check.proofs.Steps.{Short, short_of, once_selector, read_same, behind_same, Maps, maps, asks_on, low_of, max_three}

-- ---- one selector

module _ {room at p : ℕ} {S L : List ℕ} where
  name_selector_lem : drop at S ≡ 0x05 ∷ drop (at + 1) S → Behind (texts 1) selector_part room S L at p
  unfolding pool_selector nesting_selector is_singular_selector
  name_selector_lem f = record { make = name; there = λ x r m u. selector_from (of_name x f u); back = λ y r m u. go (selector_of y u); pool = λ x. refl; nest = λ x. refl; sort = λ x. refl }
    where
      go : {y : Selector} {r m : List ℕ} → SelectorOf room (drop at S) (drop p L) p r m y → (x : List ℕ) × Spelt (texts 1) room (drop (at + 1) S) (drop p L) p x r m
      go (of_name z e v) = (z, move v (same_tail e f) refl refl)
      go (of_index z e v) = absurd (differ 0x06 0x05 refl e f)
      go (of_slice z e v) = absurd (differ 0x07 0x05 refl e f)
      go (of_wildcard e v) = absurd (differ 0x08 0x05 refl e f)
      go (of_filter z e v) = absurd (differ 0x09 0x05 refl e f)

  index_selector_lem : drop at S ≡ 0x06 ∷ drop (at + 1) S → Behind (integers in_range 1) selector_part room S L at p
  unfolding pool_selector nesting_selector is_singular_selector
  index_selector_lem f = record { make = index; there = λ x r m u. selector_from (of_index x f u); back = λ y r m u. go (selector_of y u); pool = λ x. refl; nest = λ x. refl; sort = λ x. refl }
    where
      go : {y : Selector} {r m : List ℕ} → SelectorOf room (drop at S) (drop p L) p r m y → (x : ℤ) × Spelt (integers in_range 1) room (drop (at + 1) S) (drop p L) p x r m
      go (of_name z e v) = absurd (differ 0x05 0x06 refl e f)
      go (of_index z e v) = (z, move v (same_tail e f) refl refl)
      go (of_slice z e v) = absurd (differ 0x07 0x06 refl e f)
      go (of_wildcard e v) = absurd (differ 0x08 0x06 refl e f)
      go (of_filter z e v) = absurd (differ 0x09 0x06 refl e f)

  slice_selector_lem : drop at S ≡ 0x07 ∷ drop (at + 1) S → Behind slices selector_part room S L at p
  unfolding pool_selector nesting_selector is_singular_selector
  slice_selector_lem f = record { make = λ x. slice x.start x.stop x.step; there = λ x r m u. selector_from (of_slice x f u); back = λ y r m u. go (selector_of y u); pool = λ x. refl; nest = λ x. refl; sort = λ x. refl }
    where
      go : {y : Selector} {r m : List ℕ} → SelectorOf room (drop at S) (drop p L) p r m y → (x : Bounds) × Spelt slices room (drop (at + 1) S) (drop p L) p x r m
      go (of_name z e v) = absurd (differ 0x05 0x07 refl e f)
      go (of_index z e v) = absurd (differ 0x06 0x07 refl e f)
      go (of_slice z e v) = (z, move v (same_tail e f) refl refl)
      go (of_wildcard e v) = absurd (differ 0x08 0x07 refl e f)
      go (of_filter z e v) = absurd (differ 0x09 0x07 refl e f)

  filter_selector_lem : drop at S ≡ 0x09 ∷ drop (at + 1) S → Behind framed_part selector_part room S L at p
  unfolding pool_selector nesting_selector is_singular_selector
  filter_selector_lem f = record { make = filter; there = λ x r m u. selector_from (of_filter x f u); back = λ y r m u. go (selector_of y u); pool = λ x. refl; nest = λ x. refl; sort = λ x. refl }
    where
      go : {y : Selector} {r m : List ℕ} → SelectorOf room (drop at S) (drop p L) p r m y → (x : Test) × Spelt framed_part room (drop (at + 1) S) (drop p L) p x r m
      go (of_name z e v) = absurd (differ 0x05 0x09 refl e f)
      go (of_index z e v) = absurd (differ 0x06 0x09 refl e f)
      go (of_slice z e v) = absurd (differ 0x07 0x09 refl e f)
      go (of_wildcard e v) = absurd (differ 0x08 0x09 refl e f)
      go (of_filter z e v) = (z, move v (same_tail e f) refl refl)

  -- no selector begins otherwise
  no_selector_lem : {k : ℕ} → Kind S at k → (k ≡ 0x05 → ⊥) → (k ≡ 0x06 → ⊥) → (k ≡ 0x07 → ⊥) → (k ≡ 0x08 → ⊥) → (k ≡ 0x09 → ⊥) → NoPart selector_part room S L at p
  no_selector_lem {k} e a b c d i = record { none = λ y r m u. go (selector_of y u) }
    where
      go : {y : Selector} {r m : List ℕ} → SelectorOf room (drop at S) (drop p L) p r m y → ⊥
      go (of_name z f v) = kind_not e 0x05 a f
      go (of_index z f v) = kind_not e 0x06 b f
      go (of_slice z f v) = kind_not e 0x07 c f
      go (of_wildcard f v) = kind_not e 0x08 d f
      go (of_filter z f v) = kind_not e 0x09 i f

module _ {S L : List ℕ} {at p room k : ℕ} {r : Option Got} (w : Asks S L at p room) (e : Kind S at k) where
  pub sel_name : k ≡ 0x05 → AnyRoom (texts 1) S L (at + 1) p r → Post selector_part room S L at p r
  sel_name f a = behind (name_selector_lem (kind_at e f)) (a.any room)

  pub sel_index : k ≡ 0x06 → AnyPool (integers in_range 1) S (at + 1) p r → Post selector_part room S L at p r
  sel_index f a = behind (index_selector_lem (kind_at e f)) (a.any L room w.pool)

  pub sel_slice : k ≡ 0x07 → AnyPool slices S (at + 1) p r → Post selector_part room S L at p r
  sel_slice f a = behind (slice_selector_lem (kind_at e f)) (a.any L room w.pool)

  pub sel_filter : k ≡ 0x09 → Post framed_part room S L (at + 1) p r → Post selector_part room S L at p r
  sel_filter f a = behind (filter_selector_lem (kind_at e f)) a

module _ {S L : List ℕ} {at p room k : ℕ} (w : Asks S L at p room) (e : Kind S at k) where
  -- what the readers behind the kind ask
  pub sel_start : {j : ℕ} → k ≡ suc j → Asks S L (at + 1) p room
  sel_start f = record { plan = kind_in_at e f; pool = w.pool; small = w.small; few = w.few; deep = w.deep }

  pub sel_within : {j : ℕ} → k ≡ suc j → Within S L (at + 1) p
  sel_within f = record { plan = kind_in_at e f; pool = w.pool; few = w.few }

module _ {S L : List ℕ} {at p room k : ℕ} (w : Asks S L at p room) (e : Kind S at k) where
  pub sel_wildcard : k ≡ 0x08 → Post selector_part room S L at p (Some (record { at = at + 1; p = p; h = 0; sort = 0 }))
  unfolding pool_selector nesting_selector is_singular_selector
  sel_wildcard f = next {g = record { at = at + 1; p = p; h = 0; sort = 0 }} (record {
    form = wildcard;
    spelt = selector_from (of_wildcard (kind_at e f) refl);
    from = omega arith;
    to = kind_in_at e f;
    grown = omega arith;
    held = w.pool;
    nest = refl;
    sort = refl;
  })

  pub sel_none : (k ≡ 0x05 → ⊥) → (k ≡ 0x06 → ⊥) → (k ≡ 0x07 → ⊥) → (k ≡ 0x08 → ⊥) → (k ≡ 0x09 → ⊥) → Post selector_part room S L at p None
  sel_none a b c d i = stop (no_selector_lem e a b c d i)

-- ---- a test behind its length

module _ {S L : List ℕ} {at p room : ℕ} (w : Asks S L at p room) where
  pub framed_short : length S - at < 2 → Post framed_part room S L at p None
  framed_short h = stop (record { none = λ t r m u. let a = frame_left (into_frame u) in let b = length-drop at S in omega arith })

  pub framed_flat : room ≡ 0 → Post framed_part room S L at p None
  framed_flat h = stop (record { none = λ t r m u. let a = (into_frame u).below in omega arith })

  module _ (bytes : (i : ℕ) → get_or S i 0 < 256) (h : 2 ≤ length S - at) {n : ℕ} (wn : Word 2 S at n) where
    -- the code that stands behind the length
    framed_here : {t : Test} {r m : List ℕ} (f : InFrame room (drop at S) (drop p L) p t r m) → (n ≡ length f.inside) × (drop (at + 2) S ≡ f.inside ++ r)
    framed_here f =
        let a = frame_left f in
        let b = length-drop at S in
        let c = w.small in
        number_same 2 n (length f.inside) wn.fits (omega arith) (word_at bytes (omega arith) wn) f.is

    pub framed_long : length S - (at + 2) < n → Post framed_part room S L at p None
    framed_long l = stop (record {
      none = λ t r m u.
          let f = into_frame u in
          let a = frame_left f in
          let b = length-drop at S in
          let c = (framed_here f).0 in
          omega arith;
    })

    module _ (l : n ≤ length S - (at + 2)) where
      -- the part that is lent
      lent : part S (at + 2) (at + 2 + n - (at + 2)) ≡ part S (at + 2) n
      lent = let e : at + 2 + n - (at + 2) ≡ n = omega arith in ap (part S (at + 2)) e

      -- it is as long as was said
      pub lent_long : length (part S (at + 2) (at + 2 + n - (at + 2))) ≡ n
      lent_long = ap length lent ∙ part_length S (at + 2) n (omega arith)

      pub framed_start : {d : ℕ} → d ≡ room - 1 → Asks (part S (at + 2) (at + 2 + n - (at + 2))) L 0 p d
      framed_start e =
          let a = lent_long in
          let b = w.small in
          let c = w.deep in
          record { plan = omega arith; pool = w.pool; small = omega arith; few = w.few; deep = omega arith }

      pub framed_none : {d : ℕ} → d ≡ room - 1 → NoPart test_part d (part S (at + 2) (at + 2 + n - (at + 2))) L 0 p → Post framed_part room S L at p None
      framed_none e x = stop (record {
        none = λ t r m u.
            let f = into_frame u in
            let a = framed_here f in
            let b : part S (at + 2) n ≡ f.inside = ap (take n) a.1 ∙ take_at f.inside r n (sym a.0) in
            let v = f.test in
            x.none t [] m (record { plan = lent ∙ b ∙ v.plan; pool = v.pool; right = v.right; low = let z = v.low in omega arith; may = refl });
      })

      pub framed_found : {d : ℕ} {g : Got} → d ≡ room - 1 → (room ≡ 0 → ⊥) → Read test_part d (part S (at + 2) (at + 2 + n - (at + 2))) L 0 p g → Post framed_part room S L at p (Some (record { at = at + 2 + n; p = g.p; h = g.h + 1; sort = 0 }))
      framed_found {g = g} e z rd =
          let t = rd.form in
          let c = code_test t p in
          let i : drop g.at (part S (at + 2) (at + 2 + n - (at + 2))) ≡ [] = nil_is _ rd.spelt.may in
          let q : part S (at + 2) n ≡ c = sym lent ∙ rd.spelt.plan ∙ ap (λ o. c ++ o) i ∙ append-nil c in
          let k : n ≡ length c = sym (part_length S (at + 2) n (omega arith)) ∙ ap length q in
          let low = rd.spelt.low in
          let nst = rd.nest in
          next {g = record { at = at + 2 + n; p = g.p; h = g.h + 1; sort = 0 }} (record {
            form = t;
            spelt = record {
              plan = word_at bytes (omega arith) wn ∙ ap (λ o. two n ++ o) (sym (part_rest S (at + 2) n) ∙ ap (λ o. o ++ drop (at + 2 + n) S) q) ∙ ap (λ o. two o ++ (c ++ drop (at + 2 + n) S)) k ∙ sym (append_assoc (two (length c)) c (drop (at + 2 + n) S));
              pool = rd.spelt.pool;
              right = rd.spelt.right;
              low = omega arith;
              may = refl;
            };
            from = omega arith;
            to = omega arith;
            grown = rd.grown;
            held = rd.held;
            nest = omega arith;
            sort = refl;
          })

-- ---- the selectors of a segment

-- n selectors are selectors, n of them
pub into_counted : (h n : ℕ) {room p : ℕ} {s l r m : List ℕ} {x : Selectors} → Spelt (counted_from h n) room s l p x r m → (many_selectors x ≡ n) × Spelt selectors_part room s l p x r m
into_counted h n {room} {x = x} u =
    let a = le-max_right h (nesting_selectors x) in
    let b : max h (nesting_selectors x) ≤ room = u.low in (
      eqb-true (many_selectors x) n (and_left (eqb (many_selectors x) n) (selectors_right x) u.right),
      record { plan = u.plan; pool = u.pool; right = and_right (eqb (many_selectors x) n) (selectors_right x) u.right; low = omega arith; may = refl },
    )

pub from_counted : {room p : ℕ} {s l r m : List ℕ} {x : Selectors} (h n : ℕ) → h ≤ room → many_selectors x ≡ n → Spelt selectors_part room s l p x r m → Spelt (counted_from h n) room s l p x r m
from_counted {x = x} h n a e u = record { plan = u.plan; pool = u.pool; right = both_true (eq-eqb (many_selectors x) n e) u.right; low = max-le a u.low; may = refl }

module _ {S L : List ℕ} {room at p : ℕ} (w : Short S L) {g : Got} (h : ℕ) (low : h ≤ room) (rd : Read selector_part room S L at p g) where
  pub counted_last : Post (counted_from h 1) room S L at p (Some (record { at = g.at; p = g.p; h = max h g.h; sort = g.sort }))
  unfolding many_selectors pool_selectors nesting_selectors
  counted_last = next {g = record { at = g.at; p = g.p; h = max h g.h; sort = g.sort }} (record {
    form = one rd.form;
    spelt = from_counted h 1 low refl (from_one rd.spelt);
    from = rd.from;
    to = rd.to;
    grown = rd.grown;
    held = rd.held;
    nest = ap (max h) rd.nest;
    sort = rd.sort;
  })

  -- one more, and then the rest
  pub counted_next : (n k : ℕ) → n ≡ suc k → 1 ≤ k → Maps (counted_from (max h g.h) k) (counted_from h n) room S L at p g.at g.p
  unfolding many_selectors pool_selectors nesting_selectors
  counted_next n k en lk = record { make = λ x. and rd.form x; there = there; back = back; pool = λ x _. pool x; nest = λ x _. nest x; sort = λ x _. refl; from = rd.from }
    where
      there : (x : Selectors) (r m : List ℕ) → Spelt (counted_from (max h g.h) k) room (drop g.at S) (drop g.p L) g.p x r m → Spelt (counted_from h n) room (drop at S) (drop p L) p (and rd.form x) r m
      there x r m u =
          let v = into_counted (max h g.h) k u in
          from_counted h n low (ap suc v.0 ∙ sym en) (from_and (record { plan = drop g.at S; pool = drop g.p L; first = rd.spelt; rest = move v.1 refl refl rd.grown }))

      go : (y : Selectors) (r m : List ℕ) → many_selectors y ≡ n → Spelt selectors_part room (drop at S) (drop p L) p y r m → (x : Selectors) × Spelt (counted_from (max h g.h) k) room (drop g.at S) (drop g.p L) g.p x r m
      go (one s) r m e v = absurd (omega arith)
      go (and s ss) r m e v =
          let i = into_and v in
          let j = read_same once_selector w rd i.first in
          let d = low_of rd in
          let f : many_selectors ss ≡ k = omega arith in
          (ss, from_counted (max h g.h) k (max-le low d) f (behind_same j i.rest))

      back : (y : Selectors) (r m : List ℕ) → Spelt (counted_from h n) room (drop at S) (drop p L) p y r m → (x : Selectors) × Spelt (counted_from (max h g.h) k) room (drop g.at S) (drop g.p L) g.p x r m
      back y r m u = go y r m (into_counted h n u).0 (into_counted h n u).1

      pool : (x : Selectors) → g.p + length (pool_selectors x) ≡ p + length (pool_selectors (and rd.form x))
      pool x = let a = rd.grown in let b = length-append (pool_selector rd.form) (pool_selectors x) in omega arith

      nest : (x : Selectors) → max (max h g.h) (nesting_selectors x) ≡ max h (nesting_selectors (and rd.form x))
      nest x = max_three h g.h (nesting_selectors x) ∙ ap (λ y. max h (max y (nesting_selectors x))) rd.nest

-- where no selector stands, no n of them do
pub counted_none : {S L : List ℕ} {room at p : ℕ} (h n : ℕ) → NoPart selector_part room S L at p → NoPart (counted_from h n) room S L at p
counted_none {S} {L} {room} {at} {p} h n x = record { none = λ y r m u. go y r m (into_counted h n u).1 }
  where
    go : (y : Selectors) (r m : List ℕ) → Spelt selectors_part room (drop at S) (drop p L) p y r m → ⊥
    go (one s) r m v = x.none s r m (into_one v)
    go (and s ss) r m v = let i = into_and v in x.none s i.plan i.pool i.first

-- ---- the loop: what is right from here on is right from the start

pub record GoSels (S L : List ℕ) (room n at₀ p₀ at p h left : ℕ) : Type 0 where
  pub on : (r : Option Got) → Post (counted_from h left) room S L at p r → Post (counted n) room S L at₀ p₀ r
  pub start : Asks S L at p room
  pub low : h ≤ room
  pub some : 1 ≤ left
  pub from : at₀ ≤ at

pub sels_start : {S L : List ℕ} {room n at p : ℕ} → Asks S L at p room → 1 ≤ n → GoSels S L room n at p at p 0 n
sels_start {n = n} w f = record { on = λ r x. maps (same n) x; start = w; low = omega arith; some = f; from = omega arith }
  where
    same : (n : ℕ) {S L : List ℕ} {room at p : ℕ} → Maps (counted_from 0 n) (counted n) room S L at p at p
    same n = record { make = λ x. x; there = λ x r m u. (record { plan = u.plan; pool = u.pool; right = u.right; low = (rw zero-max at u.low); may = refl }); back = λ y r m u. (y, record { plan = u.plan; pool = u.pool; right = u.right; low = rw zero-max u.low; may = refl }); pool = λ x _. refl; nest = λ x _. zero-max (nesting_selectors x); sort = λ x _. refl; from = omega arith }

module _ {S L : List ℕ} {room n at₀ p₀ at p h left : ℕ} (i : GoSels S L room n at₀ p₀ at p h left) where
  pub sels_none : NoPart selector_part room S L at p → Post (counted n) room S L at₀ p₀ None
  sels_none x = i.on None (stop (counted_none h left x))

  module _ {g : Got} (rd : Read selector_part room S L at p g) {h' : ℕ} (eh : h' ≡ max h g.h) where
    pub sels_last : left ≡ 1 → Post (counted n) room S L at₀ p₀ (Some (record { at = g.at; p = g.p; h = h'; sort = g.sort }))
    sels_last e = i.on _ (rw (e, eh) (counted_last (short_of i.start) h i.low rd))

    pub sels_more : (left ≡ 1 → ⊥) → GoSels S L room n at₀ p₀ g.at g.p h' (left - 1)
    sels_more e =
        let s = i.some in
        let f = i.from in
        let f' = rd.from in
        record {
          on = λ r x. i.on r (maps (counted_next (short_of i.start) h i.low rd left (left - 1) (omega arith) (omega arith)) (rw eh at x));
          start = asks_on i.start rd;
          low = rw eh (max-le i.low (low_of rd));
          some = omega arith;
          from = omega arith;
        }
