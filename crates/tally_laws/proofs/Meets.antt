-- The pass over the bytes of a form's plan meets the form's items, in their order, and ends at the plan's last byte. Assumes nothing.
use Rattle.std.specs.Prelude.{ℕ, ◌+◌, ◌≡◌, refl, List, [], ◌∷◌, ◌++◌, length}
use Rattle.std.proofs.Common.{sym, ap, ◌∙◌, append-nil}
use Rattle.definition.specs.Bytes.{little_endian, unsigned64}
use Rattle.definition.specs.Forms.{Query, Segments, Selectors, Selector, Test, Argument, Function, many_selectors}
use Rattle.definition.specs.Forms.Query.{query}
use Rattle.definition.specs.Forms.Segments.{end, child, descendant}
use Rattle.definition.specs.Forms.Selectors.{one, and}
use Rattle.definition.specs.Forms.Selector.{name, index, slice, wildcard, filter}
use Rattle.definition.specs.Forms.Test.{exists, compare, regex, not, not_value, both, either}
use Rattle.definition.specs.Forms.Argument.{literal, singular, value}
use Rattle.definition.specs.Forms.Function.{count_of, length_of, value_of}
use Rattle.definition.specs.Plans.{operator_byte, scope_kind, framed, plan_of, pool_selector, pool_selectors, pool_argument, pool_test, code_query, code_segments, code_selectors, code_selector, code_test, code_argument, code_function}
use Rattle.tally_laws.specs.Items.{body_length, kinds_of}
use Rattle.tally_laws.specs.Forms.{start_item, scope_item, items_of, segments_items, selectors_items, selector_items, test_items, argument_items, function_items}
use Rattle.tally_laws.specs.Meets.{no_item, with_two, with_eight, with_four, with_one, with_none, with_slice, literal_meets, joins, ends, frames, start_meets, scope_meets}

-- ---- the law, part by part: the pass over what is written for a part meets the part's items, and goes on behind it

mutual
  unfolding code_query code_segments code_selectors code_selector code_test code_argument code_function items_of segments_items selectors_items selector_items test_items argument_items function_items body_length little_endian

  pub query_meets : (q : Query) (p : ℕ) (r : List ℕ) → kinds_of (code_query q p ++ r) ≡ items_of q ++ kinds_of r
  query_meets (query s q) p r = start_meets s (code_segments q p ++ r) ∙ ap (λ (l : List ℕ). start_item s ∷ l) (segments_meets q p r)

  segments_meets : (q : Segments) (p : ℕ) (r : List ℕ) → kinds_of (code_segments q p ++ r) ≡ segments_items q ++ kinds_of r
  segments_meets end p r = with_none 0x0A r refl
  segments_meets (child ss q) p r =
      let c = code_segments q (p + length (pool_selectors ss)) in
      with_two 0x03 (many_selectors ss) ((code_selectors ss p ++ c) ++ r) refl
      ∙ ap (λ (l : List ℕ). 0x03 ∷ l) (joins (code_selectors ss p) c r (selectors_items ss) (segments_items q) (selectors_meets ss p (c ++ r)) (segments_meets q (p + length (pool_selectors ss)) r))
  segments_meets (descendant ss q) p r =
      let c = code_segments q (p + length (pool_selectors ss)) in
      with_two 0x04 (many_selectors ss) ((code_selectors ss p ++ c) ++ r) refl
      ∙ ap (λ (l : List ℕ). 0x04 ∷ l) (joins (code_selectors ss p) c r (selectors_items ss) (segments_items q) (selectors_meets ss p (c ++ r)) (segments_meets q (p + length (pool_selectors ss)) r))

  selectors_meets : (ss : Selectors) (p : ℕ) (r : List ℕ) → kinds_of (code_selectors ss p ++ r) ≡ selectors_items ss ++ kinds_of r
  selectors_meets (one s) p r = selector_meets s p r
  selectors_meets (and s ss) p r =
      let c = code_selectors ss (p + length (pool_selector s)) in
      joins (code_selector s p) c r (selector_items s) (selectors_items ss) (selector_meets s p (c ++ r)) (selectors_meets ss (p + length (pool_selector s)) r)

  selector_meets : (s : Selector) (p : ℕ) (r : List ℕ) → kinds_of (code_selector s p ++ r) ≡ selector_items s ++ kinds_of r
  selector_meets (name s) p r = with_four 0x05 p s r refl
  selector_meets (index z) p r = with_eight 0x06 (unsigned64 z) r refl
  selector_meets (slice a b c) p r = with_slice a b c r
  selector_meets wildcard p r = with_none 0x08 r refl
  selector_meets (filter t) p r = frames 0x09 (code_test t p) r (test_items t) refl (test_meets t p r)

  test_meets : (t : Test) (p : ℕ) (r : List ℕ) → kinds_of (code_test t p ++ r) ≡ test_items t ++ kinds_of r
  test_meets (exists q) p r = ends (code_query q p) r (items_of q) 0x18 refl (λ s. query_meets q p s)
  test_meets (compare o a b) p r =
      let m = p + length (pool_argument a) in
      let z : List ℕ = 0x14 ∷ operator_byte o ∷ [] in
      joins (code_argument a p) (code_argument b m ++ z) r (argument_items a) (argument_items b ++ 0x14 ∷ []) (argument_meets a p ((code_argument b m ++ z) ++ r))
      (joins (code_argument b m) z r (argument_items b) (0x14 ∷ []) (argument_meets b m (z ++ r)) (with_one 0x14 (operator_byte o) r refl))
  test_meets (regex c a b) p r =
      let m = p + length (pool_argument a) in
      let z : List ℕ = scope_kind c ∷ [] in
      joins (code_argument a p) (code_argument b m ++ z) r (argument_items a) (argument_items b ++ scope_item c ∷ []) (argument_meets a p ((code_argument b m ++ z) ++ r))
      (joins (code_argument b m) z r (argument_items b) (scope_item c ∷ []) (argument_meets b m (z ++ r)) (scope_meets c r))
  test_meets (not t) p r = ends (code_test t p) r (test_items t) 0x15 refl (λ s. test_meets t p s)
  test_meets (not_value f) p r =
      joins (code_function f p) (0x18 ∷ 0x15 ∷ []) r (function_items f) (0x18 ∷ 0x15 ∷ []) (function_meets f p (0x18 ∷ 0x15 ∷ r))
      (with_none 0x18 (0x15 ∷ r) refl ∙ ap (λ (l : List ℕ). 0x18 ∷ l) (with_none 0x15 r refl))
  test_meets (both a b) p r =
      let m = p + length (pool_test a) in
      joins (code_test a p) (framed 0x16 (code_test b m)) r (test_items a) (0x16 ∷ test_items b) (test_meets a p (framed 0x16 (code_test b m) ++ r)) (frames 0x16 (code_test b m) r (test_items b) refl (test_meets b m r))
  test_meets (either a b) p r =
      let m = p + length (pool_test a) in
      joins (code_test a p) (framed 0x17 (code_test b m)) r (test_items a) (0x17 ∷ test_items b) (test_meets a p (framed 0x17 (code_test b m) ++ r)) (frames 0x17 (code_test b m) r (test_items b) refl (test_meets b m r))

  argument_meets : (a : Argument) (p : ℕ) (r : List ℕ) → kinds_of (code_argument a p ++ r) ≡ argument_items a ++ kinds_of r
  argument_meets (literal l) p r = literal_meets l p r
  argument_meets (singular q) p r = query_meets q p r
  argument_meets (value f) p r = function_meets f p r

  function_meets : (f : Function) (p : ℕ) (r : List ℕ) → kinds_of (code_function f p ++ r) ≡ function_items f ++ kinds_of r
  function_meets (count_of q) p r = ends (code_query q p) r (items_of q) 0x19 refl (λ s. query_meets q p s)
  function_meets (length_of a) p r = ends (code_argument a p) r (argument_items a) 0x1A refl (λ s. argument_meets a p s)
  function_meets (value_of q) p r = ends (code_query q p) r (items_of q) 0x1B refl (λ s. query_meets q p s)

-- The pass over the plan of a form meets exactly the form's items, in their order, and ends at the plan's last byte.
pub plan_items : (q : Query) → kinds_of (plan_of q) ≡ items_of q
unfolding plan_of
plan_items q =
    ap kinds_of (sym (append-nil (code_query q 0))) ∙ query_meets q 0 [] ∙ ap (λ (l : List ℕ). items_of q ++ l) no_item ∙ append-nil (items_of q)
