-- Where the selectors of a segment stand, and what each kind of selector comes to. Assumes nothing.
use Rattle.std.specs.Prelude.{ℕ, ◌+◌, ◌-◌, ◌≤◌, ◌<◌, ◌≡◌, refl, List, [], ◌∷◌, Bool as Bits, true, false, eqb, leb, length, get_or, Option, Some, None}
use Rattle.std.proofs.Common.{sym, ap, ◌∙◌, arith, eqb-true, leb-true, leb-false}
use Rattle.std.proofs.lemmas.Bool.{eqb-false}
use Rattle.definition.specs.Values.{Json}
use Rattle.definition.specs.Forms.{Segments, Selectors, Selector, many_selectors}
use Rattle.definition.specs.Forms.Segments.{descendant}
use Rattle.definition.specs.Forms.Selectors.{one, and}
use Rattle.definition.specs.Forms.Selector.{name, index, slice, wildcard, filter}
use Rattle.definition.specs.Plans.{code_segments, code_selectors, code_selector, pool_selectors, pool_selector}
use Rattle.definition.specs.Tables.{node_count, node_at, kind_at, kind_list, child_count}
use Rattle.definition.specs.Evaluation.{eval_selector}
use Rattle.table_laws.specs.Accepted.{Accepted}
use Rattle.slices.specs.Walks.{walked}
use Rattle.slices.specs.declared.Walk.{Walk}
use Rattle.text.specs.Words.{Word}
use Rattle.eval_laws.specs.Bytes.{holds_head}
use Rattle.eval_laws.specs.States.{State}
use Rattle.eval_laws.specs.Emits.{go, go_nil}
use Rattle.eval_laws.specs.Ranges.{Range, picked, picked_end, select_slice, select_slice_else}
use Rattle.eval_laws.specs.Items.{SegmentsAt, SelectorsAt, SelectorAt, Parts, last, front, Sliced, Filtered, segments_in, selector_some, many_small, many_some, selector_kind, kind_of_selector}
use Rattle.eval_items.specs.Ends.{DoneSkip, DoneNext}
use Rattle.eval_items.specs.Leaves.{member_nodes, AskWalk, DoneWalk}

-- ---- where selectors and their rest stand

-- the n selectors at p, and the segments at rest behind them
pub record Standing (P L : List ℕ) (p n rest : ℕ) (ss : Selectors) (q : Segments) (k k' : ℕ) : Type 0 where
  pub selectors : SelectorsAt P L p k ss
  pub number : many_selectors ss ≡ n
  pub place : p + length (code_selectors ss k) ≡ rest
  pub after : SegmentsAt P L rest k' q

-- one selector
pub record Alone (P L : List ℕ) (p rest : ℕ) (x : Selector) (q : Segments) (k k' : ℕ) : Type 0 where
  pub selector : SelectorAt P L p k x
  pub place : p + length (code_selector x k) ≤ rest
  pub after : SegmentsAt P L rest k' q

-- the first byte of a descendant segment
pub descendant_byte : (P L : List ℕ) (p k : ℕ) (ss : Selectors) (q : Segments) → SegmentsAt P L p k (descendant ss q) → get_or P p 0 ≡ 4
unfolding code_segments
descendant_byte P L p k ss q a = (holds_head P p _ _ a.holds).1

-- ---- the selectors of a segment

-- the same segments at the same place
pub segments_at : {P L : List ℕ} {p k : ℕ} {f : Segments} (p' : ℕ) → p' ≡ p → SegmentsAt P L p k f → SegmentsAt P L p' k f
segments_at p' e a = rw e a

selectors_at : {P L : List ℕ} {p k : ℕ} {ss : Selectors} (p' : ℕ) → p' ≡ p → SelectorsAt P L p k ss → SelectorsAt P L p' k ss
selectors_at p' e a = rw e a

-- the count that is read, and the place that is found behind them
pub standing_of : {P L : List ℕ} {pc k : ℕ} {f : Segments} (x : Parts P L pc k f) (n rest : ℕ) → Word 2 P (pc + 1) n → DoneSkip P (pc + 3) n rest
    → Standing P L (pc + 3) n rest x.ss x.q k (k + length (pool_selectors x.ss))
standing_of {pc = pc} {k = k} x n rest w d =
    let e : many_selectors x.ss ≡ n = sym x.count ∙ sym w.is in
    let r : rest ≡ pc + 3 + length (code_selectors x.ss k) = d x.ss k x.selectors.holds e in
    record { selectors = x.selectors; number = e; place = sym r; after = segments_at rest r x.after }

-- one of several selectors, and the others behind it
pub record Fore (P L : List ℕ) (p n rest : ℕ) (ss : Selectors) (q : Segments) (k k' : ℕ) : Type 0 where
  pub x : Selector
  pub others : Selectors
  pub made : ss ≡ and x others
  pub alone : Alone P L p rest x q k k'
  pub some : 0 < length (code_selector x k)
  pub then : (p' : ℕ) → DoneNext P p p' → Standing P L p' (n - 1) rest others q (k + length (pool_selector x)) k'

pub fore : {P L : List ℕ} {p n rest : ℕ} {ss : Selectors} {q : Segments} {k k' : ℕ} → Standing P L p n rest ss q k k' → 1 < n → Fore P L p n rest ss q k k'
fore {P = P} {L = L} {p = p} {n = n} {ss = ss} {k = k} a l =
    let w = a.number in
    let y = front P L p k ss a.selectors (omega arith) in
    let g = y.long in
    let v = y.fewer in
    let u = a.place in
    record {
      x = y.s;
      others = y.others;
      made = y.made;
      alone = record { selector = y.here; place = omega arith; after = a.after };
      some = selector_some y.s k;
      then = λ p' d. let e = d y.s k y.here.holds in record { selectors = selectors_at p' e y.there; number = omega arith; place = omega arith; after = a.after };
    }

-- the last selector
pub record Final (P L : List ℕ) (p rest : ℕ) (ss : Selectors) (q : Segments) (k k' : ℕ) : Type 0 where
  pub x : Selector
  pub made : ss ≡ one x
  pub alone : Alone P L p rest x q k k'

pub final : {P L : List ℕ} {p n rest : ℕ} {ss : Selectors} {q : Segments} {k k' : ℕ} → Standing P L p n rest ss q k k' → n ≤ 1 → Final P L p rest ss q k k'
final {P = P} {L = L} {p = p} {ss = ss} {k = k} a l =
    let w = a.number in
    let y = last P L p k ss a.selectors (omega arith) in
    let g = y.long in
    let u = a.place in
    record { x = y.s; made = y.made; alone = record { selector = y.here; place = omega arith; after = a.after } }

-- the first selector, whether it is the last or not
pub record Foremost (P L : List ℕ) (p rest : ℕ) (q : Segments) (k k' : ℕ) : Type 0 where
  pub x : Selector
  pub alone : Alone P L p rest x q k k'

pub some_alone : {P L : List ℕ} {p n rest : ℕ} {ss : Selectors} {q : Segments} {k k' : ℕ} → Standing P L p n rest ss q k k' → Foremost P L p rest q k k'
some_alone {P} {L} {p} {n} {rest} {ss} {q} {k} {k'} a = by (leb n 1) refl
  where
    by : (b : Bits) → leb n 1 ≡ b → Foremost P L p rest q k k'
    by true e = let y = final a (leb-true n 1 e) in record { x = y.x; alone = y.alone }
    by false e = let y = fore a (leb-false n 1 e) in record { x = y.x; alone = y.alone }

-- all stands in the plan
pub standing_in : {P L : List ℕ} {p n rest : ℕ} {ss : Selectors} {q : Segments} {k k' : ℕ} → Standing P L p n rest ss q k k' → (p < rest) × (rest < length P)
standing_in {P = P} {L = L} {rest = rest} {ss = ss} {q = q} {k = k} {k' = k'} a =
    let u = a.place in
    (omega (arith, many_small ss k, many_some ss), segments_in P L rest k' q a.after)

pub alone_in : {P L : List ℕ} {p rest : ℕ} {x : Selector} {q : Segments} {k k' : ℕ} → Alone P L p rest x q k k' → (p < rest) × (rest < length P)
alone_in {P = P} {L = L} {rest = rest} {x = x} {q = q} {k = k} {k' = k'} a =
    let u = a.place in
    (omega (arith, selector_some x k), segments_in P L rest k' q a.after)

-- ---- one selector by its kind

selector_low : (x : Selector) → 5 ≤ selector_kind x
unfolding selector_kind
selector_low (name s) = omega arith
selector_low (index z) = omega arith
selector_low (slice a b c) = omega arith
selector_low wildcard = omega arith
selector_low (filter t) = omega arith

pub selector_least : (P L : List ℕ) (p k : ℕ) (x : Selector) → SelectorAt P L p k x → 5 ≤ get_or P p 0
selector_least P L p k x a = omega (arith, kind_of_selector P p k x a.holds, selector_low x)

pub kind_low : {P L : List ℕ} {p rest : ℕ} {x : Selector} {q : Segments} {k k' : ℕ} → Alone P L p rest x q k k' → 5 ≤ get_or P p 0
kind_low {P = P} {L = L} {p = p} {x = x} {k = k} a = selector_least P L p k x a.selector

selector_high : (x : Selector) → selector_kind x ≤ 9
unfolding selector_kind
selector_high (name s) = omega arith
selector_high (index z) = omega arith
selector_high (slice a b c) = omega arith
selector_high wildcard = omega arith
selector_high (filter t) = omega arith

pub kind_high : {P L : List ℕ} {p rest : ℕ} {x : Selector} {q : Segments} {k k' : ℕ} → Alone P L p rest x q k k' → get_or P p 0 ≤ 9
kind_high {P = P} {p = p} {x = x} {k = k} a = omega (arith, kind_of_selector P p k x a.selector.holds, selector_high x)

-- a name or an index: the node that is found, or none
pub one_found : (S X : List ℕ) (x : Selector) (R N : Json) (q : Segments) (r : Option ℕ) (m : ℕ) (s s' : State) → r ≡ Some m → eval_selector x R N ≡ member_nodes S X r → s' ≡ go q R (node_at S X m ∷ []) s → s' ≡ go q R (eval_selector x R N) s
one_found S X x R N q r m s s' e d h = h ∙ ap (λ (l : List Json). go q R l s) (ap (member_nodes S X) (sym e) ∙ sym d)

pub one_absent : (S X : List ℕ) (x : Selector) (R N : Json) (q : Segments) (r : Option ℕ) (s : State) → r ≡ None → eval_selector x R N ≡ member_nodes S X r → s ≡ go q R (eval_selector x R N) s
one_absent S X x R N q r s e d = sym (go_nil q R s) ∙ ap (λ (l : List Json). go q R l s) (ap (member_nodes S X) (sym e) ∙ sym d)

-- a slice: the elements at its places; of another node than a list there are none
pub slice_asked : {P S X : List ℕ} {p k node : ℕ} {x : Selector} → Accepted S X → node < node_count S → Sliced P p k x → AskWalk P S p node
slice_asked {node = node} tab h y = record { node_in = h; ask = record { few = omega (arith, tab.inside node h, tab.size.few); a = y.a; b = y.b; c = y.c; holds = y.holds; right = y.right } }

pub slice_done : {P S X : List ℕ} {p k node first : ℕ} {x : Selector} (tab : Accepted S X) (h : node < node_count S) → Range S node first (child_count S node) → Sliced P p k x → (w : Walk) → DoneWalk P S p node w
    → (q : Segments) (R : Json) (s : State) → picked S X q R first (child_count S node) (walked w) s ≡ go q R (eval_selector x R (node_at S X node)) s
slice_done {P} {S} {X} {p} {k} {node} {first} {x} tab h r y w d q R s = go_by (eqb (kind_at S node) kind_list) refl
  where
    go_by : (b : Bits) → eqb (kind_at S node) kind_list ≡ b → picked S X q R first (child_count S node) (walked w) s ≡ go q R (eval_selector x R (node_at S X node)) s
    go_by true e =
        let m = eqb-true (kind_at S node) kind_list e in
        select_slice S X tab node h first (child_count S node) r q R s x y.a y.b y.c y.made m (walked w) (d.of_list m y.a y.b y.c y.holds y.right).places
    go_by false e =
        let n = eqb-false (kind_at S node) kind_list e in
        ap (λ (ks : List ℕ). picked S X q R first (child_count S node) ks s) (d.of_other n)
        ∙ sym (picked_end S X q R first (child_count S node) s (picked S X q R first (child_count S node) [] s) refl)
        ∙ select_slice_else S X tab node h first (child_count S node) r q R s x y.a y.b y.c y.made n

pub filter_end : {P L : List ℕ} {p rest k k' : ℕ} {x : Selector} {q : Segments} → Alone P L p rest x q k k' → (y : Filtered P L p k x) (n : ℕ) → Word 2 P (p + 1) n → p + 3 + n ≤ rest
filter_end a y n w = let e = w.is in let d = y.count in let l = y.long in let u = a.place in omega arith
