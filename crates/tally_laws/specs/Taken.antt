-- The items of query forms are bytes, and document 02's example. That the plans of forms have these items is in proofs/Meets and proofs/Taken. Assumes nothing.
use Rattle.std.specs.Prelude.{ℕ, suc, ◌<◌, ◌≡◌, refl, cond, List, [], ◌∷◌, ◌++◌, eqb, pos, replicate}
use Rattle.std.proofs.Common.{arith}
use Rattle.regex_definition.specs.Scope.{Scope, whole, part}
use Rattle.definition.specs.Forms.{Literal, Start, Query, Segments, Selectors, Selector, Test, Argument, Function, many_selectors}
use Rattle.definition.specs.Forms.Literal.{null, boolean, integer, float, text}
use Rattle.definition.specs.Forms.Start.{root, current}
use Rattle.definition.specs.Forms.Query.{query}
use Rattle.definition.specs.Forms.Segments.{end, child, descendant}
use Rattle.definition.specs.Forms.Selectors.{one, and}
use Rattle.definition.specs.Forms.Selector.{name, index, slice, wildcard, filter}
use Rattle.definition.specs.Forms.Test.{exists, compare, regex, not, not_value, both, either}
use Rattle.definition.specs.Forms.Argument.{literal, singular, value}
use Rattle.definition.specs.Forms.Function.{count_of, length_of, value_of}
use Rattle.definition.specs.Bytes.{little_endian}
use Rattle.definition.specs.Plans.{pooled, start_kind, plan_of, pool_selectors, pool_selector, code_query, code_segments, code_selectors, code_selector}
use Rattle.tally_laws.specs.Items.{body_length, kinds_within, kinds_of, occurrences}
use Rattle.tally_laws.specs.Forms.{start_item, literal_item, scope_item, items_of, segments_items, selectors_items, selector_items, test_items, argument_items, function_items, items_of_all}
use Rattle.tally_laws.specs.Tallies.{tabulate_from, with_plan, all_kinds}
use Rattle.tally_laws.specs.Series.{Bytes, bytes_append}

-- ---- the items are bytes

one_byte : (x : ℕ) → x < 256 → Bytes (x ∷ [])
unfolding Bytes
one_byte x h = (h, tt)

before : (x : ℕ) (l : List ℕ) → x < 256 → Bytes l → Bytes (x ∷ l)
unfolding Bytes
before x l h k = (h, k)

-- one item behind some
behind : (a : List ℕ) (x : ℕ) → x < 256 → Bytes a → Bytes (a ++ x ∷ [])
behind a x h k = bytes_append a (x ∷ []) k (one_byte x h)

start_byte : (s : Start) → start_item s < 256
unfolding start_item
start_byte root = omega arith
start_byte current = omega arith

literal_byte : (l : Literal) → literal_item l < 256
unfolding literal_item
literal_byte null = omega arith
literal_byte (boolean b) = omega arith
literal_byte (integer z) = omega arith
literal_byte (float b) = omega arith
literal_byte (text s) = omega arith

scope_byte : (c : Scope) → scope_item c < 256
unfolding scope_item
scope_byte whole = omega arith
scope_byte part = omega arith

mutual
  unfolding items_of segments_items selectors_items selector_items test_items argument_items function_items

  pub query_bytes : (q : Query) → Bytes (items_of q)
  query_bytes (query s q) = before (start_item s) (segments_items q) (start_byte s) (segments_bytes q)

  segments_bytes : (q : Segments) → Bytes (segments_items q)
  segments_bytes end = one_byte 0x0A (omega arith)
  segments_bytes (child ss q) = before 0x03 (selectors_items ss ++ segments_items q) (omega arith) (bytes_append (selectors_items ss) (segments_items q) (selectors_bytes ss) (segments_bytes q))
  segments_bytes (descendant ss q) = before 0x04 (selectors_items ss ++ segments_items q) (omega arith) (bytes_append (selectors_items ss) (segments_items q) (selectors_bytes ss) (segments_bytes q))

  selectors_bytes : (ss : Selectors) → Bytes (selectors_items ss)
  selectors_bytes (one s) = selector_bytes s
  selectors_bytes (and s ss) = bytes_append (selector_items s) (selectors_items ss) (selector_bytes s) (selectors_bytes ss)

  selector_bytes : (s : Selector) → Bytes (selector_items s)
  selector_bytes (name s) = one_byte 0x05 (omega arith)
  selector_bytes (index z) = one_byte 0x06 (omega arith)
  selector_bytes (slice a b c) = one_byte 0x07 (omega arith)
  selector_bytes wildcard = one_byte 0x08 (omega arith)
  selector_bytes (filter t) = before 0x09 (test_items t) (omega arith) (test_bytes t)

  test_bytes : (t : Test) → Bytes (test_items t)
  test_bytes (exists q) = behind (items_of q) 0x18 (omega arith) (query_bytes q)
  test_bytes (compare o a b) = bytes_append (argument_items a) (argument_items b ++ 0x14 ∷ []) (argument_bytes a) (behind (argument_items b) 0x14 (omega arith) (argument_bytes b))
  test_bytes (regex c a b) = bytes_append (argument_items a) (argument_items b ++ scope_item c ∷ []) (argument_bytes a) (behind (argument_items b) (scope_item c) (scope_byte c) (argument_bytes b))
  test_bytes (not t) = behind (test_items t) 0x15 (omega arith) (test_bytes t)
  test_bytes (not_value f) = bytes_append (function_items f) (0x18 ∷ 0x15 ∷ []) (function_bytes_lem f) (before 0x18 (0x15 ∷ []) (omega arith) (one_byte 0x15 (omega arith)))
  test_bytes (both a b) = bytes_append (test_items a) (0x16 ∷ test_items b) (test_bytes a) (before 0x16 (test_items b) (omega arith) (test_bytes b))
  test_bytes (either a b) = bytes_append (test_items a) (0x17 ∷ test_items b) (test_bytes a) (before 0x17 (test_items b) (omega arith) (test_bytes b))

  argument_bytes : (a : Argument) → Bytes (argument_items a)
  argument_bytes (literal l) = one_byte (literal_item l) (literal_byte l)
  argument_bytes (singular q) = query_bytes q
  argument_bytes (value f) = function_bytes_lem f

  function_bytes_lem : (f : Function) → Bytes (function_items f)
  function_bytes_lem (count_of q) = behind (items_of q) 0x19 (omega arith) (query_bytes q)
  function_bytes_lem (length_of a) = behind (argument_items a) 0x1A (omega arith) (argument_bytes a)
  function_bytes_lem (value_of q) = behind (items_of q) 0x1B (omega arith) (query_bytes q)

pub forms_bytes : (qs : List Query) → Bytes (items_of_all qs)
unfolding items_of_all Bytes
forms_bytes [] = tt
forms_bytes (q ∷ qs) = bytes_append (items_of q) (items_of_all qs) (query_bytes q) (forms_bytes qs)

-- ---- document 02's example: "For the line `$.a[1]` alone it prints `01 1`, `03 2`, `05 1`, `06 1`, `0A 1`, `plans 1`."

-- the kinds that occur from i on, ascending, each with its count
unfoldable pub occurring : ℕ → List ℕ → List (ℕ × ℕ)
occurring i [] = []
occurring i (n ∷ C) = cond (eqb n 0) (occurring (suc i) C) ((i, n) ∷ occurring (suc i) C)

abbrev pub example : Query
example = query root (child (one (name (0x61 ∷ []))) (child (one (index (pos 1))) end))

pub example_items : kinds_of (plan_of example) ≡ 0x01 ∷ 0x03 ∷ 0x05 ∷ 0x03 ∷ 0x06 ∷ 0x0A ∷ []
unfolding plan_of code_query code_segments code_selectors code_selector pooled start_kind many_selectors pool_selectors pool_selector little_endian kinds_within body_length
example_items = refl

pub example_counts : occurring 0 (with_plan (plan_of example) (replicate all_kinds 0)) ≡ (0x01, 1) ∷ (0x03, 2) ∷ (0x05, 1) ∷ (0x06, 1) ∷ (0x0A, 1) ∷ []
unfolding plan_of code_query code_segments code_selectors code_selector pooled start_kind many_selectors pool_selectors pool_selector little_endian kinds_within body_length occurrences tabulate_from occurring
example_counts = refl
