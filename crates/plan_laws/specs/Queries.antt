-- The parts of a plan that a query is made of: selectors, segments and queries, and a filter's code behind its length.
-- Where the tests of shorter plans are spelled in one way, so are these.
use Rattle.std.specs.Prelude.{ℕ, suc, max, ◌+◌, ◌-◌, ◌≤◌, ◌<◌, ◌≡◌, refl, List, [], ◌∷◌, ◌++◌, Bool, true, false, cond, ℤ}
use Rattle.std.proofs.Math.Nat.{le-max_left, le-max_right, max-le}
use native.Mathlib.Omega.{arith}
use Rattle.std.proofs.Common.{sym, ◌∙◌, append_assoc, append-nil, length-append}
use Rattle.std.proofs.Math.Path.{ap}
use Rattle.std.proofs.lemmas.Bool.{false≢true}
use Rattle.std.proofs.Math.ListN.{length}
use Rattle.definition.specs.Limits.{max_plan}
use Rattle.definition.specs.Literals.{in_range}
use Rattle.definition.specs.Forms.{Query, Segments, Selectors, Selector, Test, Start, many_selectors, is_singular_selector, is_singular_segments, is_singular}
use Rattle.definition.specs.Forms.Start.{root, current}
use Rattle.definition.specs.Forms.Query.{query}
use Rattle.definition.specs.Forms.Segments.{end, child, descendant}
use Rattle.definition.specs.Forms.Selectors.{one, and}
use Rattle.definition.specs.Forms.Selector.{name, index, slice, wildcard, filter}
use Rattle.definition.specs.QueryForms.{query_right, segments_right, selectors_right, selector_right, test_right, nesting, nesting_segments, nesting_selectors, nesting_selector, nesting_test}
use Rattle.definition.specs.Plans.{two, pooled, code_slice, start_kind, pool_query, pool_segments, pool_selectors, pool_selector, pool_test, code_query, code_segments, code_selectors, code_selector, code_test}
use Rattle.definition_bytes.specs.Numbers.{little_endian_length, range_inside}
use Rattle.basics.specs.Bools.{and_left, and_right, both_true}
use Rattle.basics.specs.Lists.{differ, same_tail}
use Rattle.plan_laws.specs.Lists.{append_same, number_same}
use Rattle.plan_laws.specs.Parts.{Part, Spelt, Unique, plan_left, pool_left, plan_rest, pool_rest, move, kind_same}
use Rattle.plan_laws.specs.Leaves.{texts, integers, slices, Bounds, unique_texts, unique_integers, unique_slices, append_three}

-- ---- tests, and a test behind the length of its code

-- whether nothing follows
abbrev pub is_nil : List ℕ → Bool
is_nil [] = true
is_nil (c ∷ s) = false

pub nil_is : (s : List ℕ) → is_nil s ≡ true → s ≡ []
nil_is [] h = refl
nil_is (c ∷ s) h = absurd (false≢true h)

-- a test fills its place to the end
abbrev pub test_part : Part Test
test_part = record { code = code_test; pool = pool_test; right = test_right; nest = nesting_test; sort = λ t. 0; may = is_nil }

abbrev pub framed_part : Part Test
framed_part = record { code = λ t p. two (length (code_test t p)) ++ code_test t p; pool = pool_test; right = test_right; nest = λ t. suc (nesting_test t); sort = λ t. 0; may = λ r. true }

-- what stands behind the length: the code of the test, and what follows it
pub record InFrame (room : ℕ) (s l : List ℕ) (p : ℕ) (t : Test) (r m : List ℕ) : Type 0 where
  pub inside : List ℕ
  pub is : s ≡ two (length inside) ++ (inside ++ r)
  pub test : Spelt test_part (room - 1) inside l p t [] m
  pub below : 1 ≤ room

pub into_frame : {room p : ℕ} {s l r m : List ℕ} {t : Test} → Spelt framed_part room s l p t r m → InFrame room s l p t r m
into_frame {p = p} {r = r} {t = t} u = record {
  inside = code_test t p;
  is = u.plan ∙ append_assoc (two (length (code_test t p))) (code_test t p) r;
  test = record { plan = sym (append-nil (code_test t p)); pool = u.pool; right = u.right; low = let z = u.low in omega arith; may = refl };
  below = let z = u.low in omega arith;
}

pub frame_left : {room p : ℕ} {s l r m : List ℕ} {t : Test} (f : InFrame room s l p t r m) → length s ≡ 2 + (length f.inside + length r)
frame_left {s = s} {r = r} f =
    ap length f.is ∙ rw (length-append (two (length f.inside)) (f.inside ++ r), length-append f.inside r, little_endian_length 2 (length f.inside))

module _ {n : ℕ} (fits : n ≤ max_plan) (tests : Unique test_part n) where
  frame_same : {room room' p : ℕ} {s l r r' m m' : List ℕ} {t t' : Test} → length s < suc n → length l ≤ max_plan → InFrame room s l p t r m → InFrame room' s l p t' r' m' → t ≡ t'
  frame_same {r = r} {r' = r'} {t = t} {t' = t'} a b u v =
      let y = frame_left u in
      let z = frame_left v in
      let h = number_same 2 (length u.inside) (length v.inside) (omega arith) (omega arith) u.is v.is in
      let g = append_same u.inside v.inside r r' h.0 h.1 in
      tests.same t t' (omega arith) b u.test (move v.test (sym g.0) refl refl)

  pub unique_framed : Unique framed_part (suc n)
  unique_framed = record { same = λ x x' a b u v. frame_same a b (into_frame u) (into_frame v) }

-- ---- one selector

abbrev pub sort_selector : Selector → ℕ
sort_selector s = cond (is_singular_selector s) 1 0

abbrev pub selector_part : Part Selector
selector_part = record { code = code_selector; pool = pool_selector; right = selector_right; nest = nesting_selector; sort = sort_selector; may = λ r. true }

-- a selector, by the kind of its item
pub data SelectorOf (room : ℕ) (s l : List ℕ) (p : ℕ) (r m : List ℕ) : Selector → Type 0 where
  of_name : {s₁ : List ℕ} (t : List ℕ) → s ≡ 0x05 ∷ s₁ → Spelt (texts 1) room s₁ l p t r m → SelectorOf room s l p r m (name t)
  of_index : {s₁ : List ℕ} (z : ℤ) → s ≡ 0x06 ∷ s₁ → Spelt (integers in_range 1) room s₁ l p z r m → SelectorOf room s l p r m (index z)
  of_slice : {s₁ : List ℕ} (b : Bounds) → s ≡ 0x07 ∷ s₁ → Spelt slices room s₁ l p b r m → SelectorOf room s l p r m (slice b.start b.stop b.step)
  of_wildcard : s ≡ 0x08 ∷ r → l ≡ m → SelectorOf room s l p r m wildcard
  of_filter : {s₁ : List ℕ} (t : Test) → s ≡ 0x09 ∷ s₁ → Spelt framed_part room s₁ l p t r m → SelectorOf room s l p r m (filter t)

pub selector_of : {room p : ℕ} {s l r m : List ℕ} (x : Selector) → Spelt selector_part room s l p x r m → SelectorOf room s l p r m x
unfolding code_selector pool_selector selector_right nesting_selector pooled code_slice
selector_of (name t) u = of_name t u.plan (record { plan = refl; pool = u.pool; right = u.right; low = u.low; may = refl })
selector_of (index z) u = of_index z u.plan (record { plan = refl; pool = u.pool; right = u.right; low = u.low; may = refl })
selector_of (slice a b c) u = of_slice (record { start = a; stop = b; step = c }) u.plan (record { plan = refl; pool = u.pool; right = u.right; low = u.low; may = refl })
selector_of wildcard u = of_wildcard u.plan u.pool
selector_of (filter t) u = of_filter t u.plan (record { plan = refl; pool = u.pool; right = u.right; low = u.low; may = refl })

-- and back
pub selector_from : {room p : ℕ} {s l r m : List ℕ} {x : Selector} → SelectorOf room s l p r m x → Spelt selector_part room s l p x r m
unfolding code_selector pool_selector selector_right nesting_selector pooled code_slice
selector_from (of_name t e u) = record { plan = e ∙ ap (λ c. 0x05 ∷ c) u.plan; pool = u.pool; right = u.right; low = u.low; may = refl }
selector_from (of_index z e u) = record { plan = e ∙ ap (λ c. 0x06 ∷ c) u.plan; pool = u.pool; right = u.right; low = u.low; may = refl }
selector_from (of_slice b e u) = record { plan = e ∙ ap (λ c. 0x07 ∷ c) u.plan; pool = u.pool; right = u.right; low = u.low; may = refl }
selector_from (of_wildcard e f) = record { plan = e; pool = f; right = refl; low = omega arith; may = refl }
selector_from (of_filter t e u) = record { plan = e ∙ ap (λ c. 0x09 ∷ c) u.plan; pool = u.pool; right = u.right; low = u.low; may = refl }

module _ {n : ℕ} (fits : n ≤ max_plan) (tests : Unique test_part n) where
  kind_framed : {room room' p : ℕ} {s s₁ s₁' l r r' m m' : List ℕ} {t t' : Test} → length s < suc n → length l ≤ max_plan → s ≡ 0x09 ∷ s₁ → s ≡ 0x09 ∷ s₁' → Spelt framed_part room s₁ l p t r m → Spelt framed_part room' s₁' l p t' r' m' → t ≡ t'
  kind_framed {s = s} {s₁ = s₁} {t = t} {t' = t'} a b e f u v =
      let z : length s ≡ suc (length s₁) = ap length e in
      (unique_framed fits tests).same t t' (omega arith) b u (move v (same_tail f e) refl refl)

  selector_same : {room room' p : ℕ} {s l r r' m m' : List ℕ} {x x' : Selector} → length s < suc n → length l ≤ max_plan → SelectorOf room s l p r m x → SelectorOf room' s l p r' m' x' → x ≡ x'
  selector_same a b (of_name z e u) (of_name z' e' u') = ap name (kind_same (unique_texts 1 n) a b e e' u u')
  selector_same a b (of_name z e u) (of_index z' e' u') = absurd (differ 0x05 0x06 refl e e')
  selector_same a b (of_name z e u) (of_slice z' e' u') = absurd (differ 0x05 0x07 refl e e')
  selector_same a b (of_name z e u) (of_wildcard e' u') = absurd (differ 0x05 0x08 refl e e')
  selector_same a b (of_name z e u) (of_filter z' e' u') = absurd (differ 0x05 0x09 refl e e')
  selector_same a b (of_index z e u) (of_name z' e' u') = absurd (differ 0x06 0x05 refl e e')
  selector_same a b (of_index z e u) (of_index z' e' u') = ap index (kind_same (unique_integers in_range range_inside 1 n) a b e e' u u')
  selector_same a b (of_index z e u) (of_slice z' e' u') = absurd (differ 0x06 0x07 refl e e')
  selector_same a b (of_index z e u) (of_wildcard e' u') = absurd (differ 0x06 0x08 refl e e')
  selector_same a b (of_index z e u) (of_filter z' e' u') = absurd (differ 0x06 0x09 refl e e')
  selector_same a b (of_slice z e u) (of_name z' e' u') = absurd (differ 0x07 0x05 refl e e')
  selector_same a b (of_slice z e u) (of_index z' e' u') = absurd (differ 0x07 0x06 refl e e')
  selector_same a b (of_slice z e u) (of_slice z' e' u') = ap (λ (y : Bounds). slice y.start y.stop y.step) (kind_same (unique_slices n) a b e e' u u')
  selector_same a b (of_slice z e u) (of_wildcard e' u') = absurd (differ 0x07 0x08 refl e e')
  selector_same a b (of_slice z e u) (of_filter z' e' u') = absurd (differ 0x07 0x09 refl e e')
  selector_same a b (of_wildcard e u) (of_name z' e' u') = absurd (differ 0x08 0x05 refl e e')
  selector_same a b (of_wildcard e u) (of_index z' e' u') = absurd (differ 0x08 0x06 refl e e')
  selector_same a b (of_wildcard e u) (of_slice z' e' u') = absurd (differ 0x08 0x07 refl e e')
  selector_same a b (of_wildcard e u) (of_wildcard e' u') = refl
  selector_same a b (of_wildcard e u) (of_filter z' e' u') = absurd (differ 0x08 0x09 refl e e')
  selector_same a b (of_filter z e u) (of_name z' e' u') = absurd (differ 0x09 0x05 refl e e')
  selector_same a b (of_filter z e u) (of_index z' e' u') = absurd (differ 0x09 0x06 refl e e')
  selector_same a b (of_filter z e u) (of_slice z' e' u') = absurd (differ 0x09 0x07 refl e e')
  selector_same a b (of_filter z e u) (of_wildcard e' u') = absurd (differ 0x09 0x08 refl e e')
  selector_same a b (of_filter z e u) (of_filter z' e' u') = ap filter (kind_framed a b e e' u u')

  pub unique_selector : Unique selector_part (suc n)
  unique_selector = record { same = λ x x' a b u v. selector_same a b (selector_of x u) (selector_of x' v) }

-- a selector's code has a byte at least
pub selector_long : (x : Selector) (p : ℕ) → 1 ≤ length (code_selector x p)
unfolding code_selector pooled code_slice
selector_long (name t) p = omega arith
selector_long (index z) p = omega arith
selector_long (slice a b c) p = omega arith
selector_long wildcard p = omega arith
selector_long (filter t) p = omega arith

-- ---- the selectors of a segment

abbrev pub selectors_part : Part Selectors
selectors_part = record { code = code_selectors; pool = pool_selectors; right = selectors_right; nest = nesting_selectors; sort = λ ss. 0; may = λ r. true }

-- one selector, or a selector and more
pub record InAnd (room : ℕ) (s l : List ℕ) (p : ℕ) (x : Selector) (xs : Selectors) (r m : List ℕ) : Type 0 where
  pub plan : List ℕ
  pub pool : List ℕ
  pub first : Spelt selector_part room s l p x plan pool
  pub rest : Spelt selectors_part room plan pool (p + length (pool_selector x)) xs r m

pub into_one : {room p : ℕ} {s l r m : List ℕ} {x : Selector} → Spelt selectors_part room s l p (one x) r m → Spelt selector_part room s l p x r m
unfolding code_selectors pool_selectors selectors_right nesting_selectors
into_one u = record { plan = u.plan; pool = u.pool; right = u.right; low = u.low; may = refl }

pub from_one : {room p : ℕ} {s l r m : List ℕ} {x : Selector} → Spelt selector_part room s l p x r m → Spelt selectors_part room s l p (one x) r m
unfolding code_selectors pool_selectors selectors_right nesting_selectors
from_one u = record { plan = u.plan; pool = u.pool; right = u.right; low = u.low; may = refl }

pub into_and : {room p : ℕ} {s l r m : List ℕ} {x : Selector} {xs : Selectors} → Spelt selectors_part room s l p (and x xs) r m → InAnd room s l p x xs r m
unfolding code_selectors pool_selectors selectors_right nesting_selectors
into_and {room} {p} {r = r} {m = m} {x = x} {xs = xs} u =
    let q = p + length (pool_selector x) in
    let a = le-max_left (nesting_selector x) (nesting_selectors xs) in
    let b = le-max_right (nesting_selector x) (nesting_selectors xs) in
    let c : max (nesting_selector x) (nesting_selectors xs) ≤ room = u.low in
    record {
      plan = code_selectors xs q ++ r;
      pool = pool_selectors xs ++ m;
      first = record { plan = u.plan ∙ append_assoc (code_selector x p) (code_selectors xs q) r; pool = u.pool ∙ append_assoc (pool_selector x) (pool_selectors xs) m; right = and_left (selector_right x) (selectors_right xs) u.right; low = omega arith; may = refl };
      rest = record { plan = refl; pool = refl; right = and_right (selector_right x) (selectors_right xs) u.right; low = omega arith; may = refl };
    }

pub from_and : {room p : ℕ} {s l r m : List ℕ} {x : Selector} {xs : Selectors} → InAnd room s l p x xs r m → Spelt selectors_part room s l p (and x xs) r m
unfolding code_selectors pool_selectors selectors_right nesting_selectors
from_and {room} {p} {r = r} {m = m} {x = x} {xs = xs} h =
    let q = p + length (pool_selector x) in
    record {
      plan = h.first.plan ∙ ap (λ c. code_selector x p ++ c) h.rest.plan ∙ sym (append_assoc (code_selector x p) (code_selectors xs q) r);
      pool = h.first.pool ∙ ap (λ c. pool_selector x ++ c) h.rest.pool ∙ sym (append_assoc (pool_selector x) (pool_selectors xs) m);
      right = both_true h.first.right h.rest.right;
      low = max-le h.first.low h.rest.low;
      may = refl;
    }

pub many_long : (x : Selectors) (p : ℕ) → (1 ≤ many_selectors x) × (many_selectors x ≤ length (code_selectors x p))
unfolding many_selectors code_selectors
many_long (one x) p = (omega arith, selector_long x p)
many_long (and x xs) p =
    let h = many_long xs (p + length (pool_selector x)) in
    let g = selector_long x p in
    (omega arith, rw length-append (omega arith))

module _ {n : ℕ} (fits : n ≤ max_plan) (tests : Unique test_part n) where
  pub many_same : {room room' p : ℕ} {s l r r' m m' : List ℕ} (x x' : Selectors) → many_selectors x ≡ many_selectors x' → length s < suc n → length l ≤ max_plan → Spelt selectors_part room s l p x r m → Spelt selectors_part room' s l p x' r' m' → x ≡ x'
  unfolding many_selectors
  many_same (one x) (one x') e a b u v = ap one ((unique_selector fits tests).same x x' a b (into_one u) (into_one v))
  many_same {p = p} (one x) (and x' xs') e a b u v = absurd (let z = (many_long xs' p).0 in omega arith)
  many_same {p = p} (and x xs) (one x') e a b u v = absurd (let z = (many_long xs p).0 in omega arith)
  many_same {p = p} (and x xs) (and x' xs') e a b u v =
      let h = into_and u in
      let k = into_and v in
      let f = (unique_selector fits tests).same x x' a b h.first k.first in
      let c = plan_left h.first in
      let d = pool_left h.first in
      let e' : many_selectors xs ≡ many_selectors xs' = omega arith in
      let g = many_same {p = p + length (pool_selector x)} xs xs' e' (omega arith) (omega arith) h.rest (move k.rest (sym (plan_rest h.first k.first f)) (sym (pool_rest h.first k.first f)) (ap (λ y. p + length (pool_selector y)) (sym f))) in
      cc (f, g)

-- ---- segments

abbrev pub sort_segments : Segments → ℕ
sort_segments q = cond (is_singular_segments q) 1 0

abbrev pub segments_part : Part Segments
segments_part = record { code = code_segments; pool = pool_segments; right = segments_right; nest = nesting_segments; sort = sort_segments; may = λ r. true }

-- "03 child, 04 descendant"
abbrev pub segment : Bool → Selectors → Segments → Segments
segment true ss q = child ss q
segment false ss q = descendant ss q

abbrev pub segment_kind : Bool → ℕ
segment_kind true = 0x03
segment_kind false = 0x04

pub record InSegment (d : Bool) (room : ℕ) (s l : List ℕ) (p : ℕ) (ss : Selectors) (q : Segments) (r m : List ℕ) : Type 0 where
  pub start : List ℕ
  pub plan : List ℕ
  pub pool : List ℕ
  pub is : s ≡ segment_kind d ∷ (two (many_selectors ss) ++ start)
  pub first : Spelt selectors_part room start l p ss plan pool
  pub rest : Spelt segments_part room plan pool (p + length (pool_selectors ss)) q r m

pub into_segment : (d : Bool) {room p : ℕ} {s l r m : List ℕ} {ss : Selectors} {q : Segments} → Spelt segments_part room s l p (segment d ss q) r m → InSegment d room s l p ss q r m
unfolding code_segments pool_segments segments_right nesting_segments
into_segment true {room} {p} {r = r} {m = m} {ss = ss} {q = q} u =
    let p' = p + length (pool_selectors ss) in
    let a = le-max_left (nesting_selectors ss) (nesting_segments q) in
    let b = le-max_right (nesting_selectors ss) (nesting_segments q) in
    let c : max (nesting_selectors ss) (nesting_segments q) ≤ room = u.low in
    record {
      start = code_selectors ss p ++ (code_segments q p' ++ r);
      plan = code_segments q p' ++ r;
      pool = pool_segments q ++ m;
      is = u.plan ∙ ap (λ c. 0x03 ∷ c) (append_three (two (many_selectors ss)) (code_selectors ss p) (code_segments q p') r);
      first = record { plan = refl; pool = u.pool ∙ append_assoc (pool_selectors ss) (pool_segments q) m; right = and_left (selectors_right ss) (segments_right q) u.right; low = omega arith; may = refl };
      rest = record { plan = refl; pool = refl; right = and_right (selectors_right ss) (segments_right q) u.right; low = omega arith; may = refl };
    }
into_segment false {room} {p} {r = r} {m = m} {ss = ss} {q = q} u =
    let p' = p + length (pool_selectors ss) in
    let a = le-max_left (nesting_selectors ss) (nesting_segments q) in
    let b = le-max_right (nesting_selectors ss) (nesting_segments q) in
    let c : max (nesting_selectors ss) (nesting_segments q) ≤ room = u.low in
    record {
      start = code_selectors ss p ++ (code_segments q p' ++ r);
      plan = code_segments q p' ++ r;
      pool = pool_segments q ++ m;
      is = u.plan ∙ ap (λ c. 0x04 ∷ c) (append_three (two (many_selectors ss)) (code_selectors ss p) (code_segments q p') r);
      first = record { plan = refl; pool = u.pool ∙ append_assoc (pool_selectors ss) (pool_segments q) m; right = and_left (selectors_right ss) (segments_right q) u.right; low = omega arith; may = refl };
      rest = record { plan = refl; pool = refl; right = and_right (selectors_right ss) (segments_right q) u.right; low = omega arith; may = refl };
    }

pub from_segment : (d : Bool) {room p : ℕ} {s l r m : List ℕ} {ss : Selectors} {q : Segments} → InSegment d room s l p ss q r m → Spelt segments_part room s l p (segment d ss q) r m
unfolding code_segments pool_segments segments_right nesting_segments
from_segment true {room} {p} {r = r} {m = m} {ss = ss} {q = q} h =
    let p' = p + length (pool_selectors ss) in
    record {
      plan = h.is ∙ ap (λ c. 0x03 ∷ (two (many_selectors ss) ++ c)) (h.first.plan ∙ ap (λ c. code_selectors ss p ++ c) h.rest.plan) ∙ ap (λ c. 0x03 ∷ c) (sym (append_three (two (many_selectors ss)) (code_selectors ss p) (code_segments q p') r));
      pool = h.first.pool ∙ ap (λ c. pool_selectors ss ++ c) h.rest.pool ∙ sym (append_assoc (pool_selectors ss) (pool_segments q) m);
      right = both_true h.first.right h.rest.right;
      low = max-le h.first.low h.rest.low;
      may = refl;
    }
from_segment false {room} {p} {r = r} {m = m} {ss = ss} {q = q} h =
    let p' = p + length (pool_selectors ss) in
    record {
      plan = h.is ∙ ap (λ c. 0x04 ∷ (two (many_selectors ss) ++ c)) (h.first.plan ∙ ap (λ c. code_selectors ss p ++ c) h.rest.plan) ∙ ap (λ c. 0x04 ∷ c) (sym (append_three (two (many_selectors ss)) (code_selectors ss p) (code_segments q p') r));
      pool = h.first.pool ∙ ap (λ c. pool_selectors ss ++ c) h.rest.pool ∙ sym (append_assoc (pool_selectors ss) (pool_segments q) m);
      right = both_true h.first.right h.rest.right;
      low = max-le h.first.low h.rest.low;
      may = refl;
    }

-- how many selectors a segment has fits two bytes, if the plan is short enough
pub many_fits : (d : Bool) {room p : ℕ} {s l r m : List ℕ} {ss : Selectors} {q : Segments} (h : InSegment d room s l p ss q r m) → (3 + length h.start ≡ length s) × (many_selectors ss ≤ length h.start)
many_fits d {p = p} {s = s} {ss = ss} h =
    let a = (many_long ss p).1 in
    let b = plan_left h.first in
    let c : length s ≡ suc (length (two (many_selectors ss) ++ h.start)) = ap length h.is in
    let e = length-append (two (many_selectors ss)) h.start in
    let f = little_endian_length 2 (many_selectors ss) in
    (omega arith, omega arith)

-- what an end is
pub into_end : {room p : ℕ} {s l r m : List ℕ} → Spelt segments_part room s l p end r m → (s ≡ 0x0A ∷ r) × (l ≡ m)
unfolding code_segments pool_segments
into_end u = (u.plan, u.pool)

pub from_end : {room p : ℕ} {s l r m : List ℕ} → s ≡ 0x0A ∷ r → l ≡ m → Spelt segments_part room s l p end r m
unfolding code_segments pool_segments segments_right nesting_segments
from_end e f = record { plan = e; pool = f; right = refl; low = omega arith; may = refl }

module _ {n : ℕ} (fits : n ≤ max_plan) (tests : Unique test_part n) where
  -- the selectors of two segments that are spelled in one place
  pub selectors_same : (d d' : Bool) {room room' p : ℕ} {s l r r' m m' : List ℕ} {ss ss' : Selectors} {q q' : Segments} → length s < suc n → length l ≤ max_plan → (h : InSegment d room s l p ss q r m) → (k : InSegment d' room' s l p ss' q' r' m') →
      (ss ≡ ss') × (h.start ≡ k.start)
  selectors_same d d' {ss = ss} {ss' = ss'} a b h k =
      let x = many_fits d h in
      let y = many_fits d' k in
      let g = number_same 2 (many_selectors ss) (many_selectors ss') (omega arith) (omega arith) refl (same_tail h.is k.is) in
      (many_same fits tests ss ss' g.0 (omega arith) b h.first (move k.first (sym g.1) refl refl), g.1)

  segments_same : {room room' p : ℕ} {s l r r' m m' : List ℕ} (x x' : Segments) → length s < suc n → length l ≤ max_plan → Spelt segments_part room s l p x r m → Spelt segments_part room' s l p x' r' m' → x ≡ x'
  segments_same end end a b u v = refl
  segments_same end (child ss' q') a b u v = absurd (differ 0x0A 0x03 refl (into_end u).0 (into_segment true v).is)
  segments_same (child ss q) end a b u v = absurd (differ 0x03 0x0A refl (into_segment true u).is (into_end v).0)
  segments_same end (descendant ss' q') a b u v = absurd (differ 0x0A 0x04 refl (into_end u).0 (into_segment false v).is)
  segments_same (descendant ss q) end a b u v = absurd (differ 0x04 0x0A refl (into_segment false u).is (into_end v).0)
  segments_same (child ss q) (descendant ss' q') a b u v = absurd (differ 0x03 0x04 refl (into_segment true u).is (into_segment false v).is)
  segments_same (descendant ss q) (child ss' q') a b u v = absurd (differ 0x04 0x03 refl (into_segment false u).is (into_segment true v).is)
  segments_same {p = p} (child ss q) (child ss' q') a b u v =
      let h = into_segment true u in
      let k = into_segment true v in
      let e = selectors_same true true a b h k in
      let w = move k.first (sym e.1) refl refl in
      let x = many_fits true h in
      let y = plan_left h.first in
      let z = pool_left h.first in
      let f = segments_same {p = p + length (pool_selectors ss)} q q' (omega arith) (omega arith) h.rest (move k.rest (sym (plan_rest h.first w e.0)) (sym (pool_rest h.first w e.0)) (ap (λ o. p + length (pool_selectors o)) (sym e.0))) in
      cc (e.0, f)
  segments_same {p = p} (descendant ss q) (descendant ss' q') a b u v =
      let h = into_segment false u in
      let k = into_segment false v in
      let e = selectors_same false false a b h k in
      let w = move k.first (sym e.1) refl refl in
      let x = many_fits false h in
      let y = plan_left h.first in
      let z = pool_left h.first in
      let f = segments_same {p = p + length (pool_selectors ss)} q q' (omega arith) (omega arith) h.rest (move k.rest (sym (plan_rest h.first w e.0)) (sym (pool_rest h.first w e.0)) (ap (λ o. p + length (pool_selectors o)) (sym e.0))) in
      cc (e.0, f)

  pub unique_segments : Unique segments_part (suc n)
  unique_segments = record { same = segments_same }

-- ---- queries

abbrev pub query_part : Part Query
query_part = record { code = code_query; pool = pool_query; right = query_right; nest = nesting; sort = λ q. cond (is_singular q) 1 0; may = λ r. true }

pub record InQuery (room : ℕ) (s l : List ℕ) (p : ℕ) (b : Start) (q : Segments) (r m : List ℕ) : Type 0 where
  pub start : List ℕ
  pub is : s ≡ start_kind b ∷ start
  pub rest : Spelt segments_part room start l p q r m

pub into_query : {room p : ℕ} {s l r m : List ℕ} {b : Start} {q : Segments} → Spelt query_part room s l p (query b q) r m → InQuery room s l p b q r m
unfolding code_query pool_query query_right nesting
into_query {p = p} {r = r} {q = q} u = record { start = code_segments q p ++ r; is = u.plan; rest = record { plan = refl; pool = u.pool; right = u.right; low = u.low; may = refl } }

pub from_query : {room p : ℕ} {s l r m : List ℕ} {b : Start} {q : Segments} → InQuery room s l p b q r m → Spelt query_part room s l p (query b q) r m
unfolding code_query pool_query query_right nesting
from_query {b = b} h = record { plan = h.is ∙ ap (λ c. start_kind b ∷ c) h.rest.plan; pool = h.rest.pool; right = h.rest.right; low = h.rest.low; may = refl }

-- a query begins with 01 or 02
pub start_same : (b c : Start) → start_kind b ≡ start_kind c → b ≡ c
unfolding start_kind
start_same root root e = refl
start_same root current e = absurd (omega arith)
start_same current root e = absurd (omega arith)
start_same current current e = refl

pub start_low : (b : Start) → (1 ≤ start_kind b) × (start_kind b ≤ 2)
unfolding start_kind
start_low root = (omega arith, omega arith)
start_low current = (omega arith, omega arith)

module _ {n : ℕ} (fits : n ≤ max_plan) (tests : Unique test_part n) where
  query_same : {room room' p : ℕ} {s l r r' m m' : List ℕ} (x x' : Query) → length s < suc n → length l ≤ max_plan → Spelt query_part room s l p x r m → Spelt query_part room' s l p x' r' m' → x ≡ x'
  query_same {s = s} (query b q) (query b' q') a f u v =
      let h = into_query u in
      let k = into_query v in
      let e : start_kind b ≡ start_kind b' = let y = h.is in let z = k.is in cc in
      let c = ap length h.is in
      let g = (unique_segments fits tests).same q q' (omega arith) f h.rest (move k.rest (same_tail k.is h.is) refl refl) in
      cc (start_same b b' e, g)

  pub unique_query : Unique query_part (suc n)
  unique_query = record { same = query_same }
