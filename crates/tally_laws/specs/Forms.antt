-- The items of a query form, by the form alone: the kind of each, in the order in which a plan has them. Document 01, "Plan items": "Filter code is postfix".
use Rattle.std.specs.Prelude.{ℕ, List, [], ◌∷◌, ◌++◌}
use Rattle.regex_definition.specs.Scope.{Scope, whole, part}
use Rattle.definition.specs.Forms.{Literal, Start, Query, Segments, Selectors, Selector, Test, Argument, Function}
use Rattle.definition.specs.Forms.Literal.{null, boolean, integer, float, text}
use Rattle.definition.specs.Forms.Start.{root, current}
use Rattle.definition.specs.Forms.Query.{query}
use Rattle.definition.specs.Forms.Segments.{end, child, descendant}
use Rattle.definition.specs.Forms.Selectors.{one, and}
use Rattle.definition.specs.Forms.Selector.{name, index, slice, wildcard, filter}
use Rattle.definition.specs.Forms.Test.{exists, compare, regex, not, not_value, both, either}
use Rattle.definition.specs.Forms.Argument.{literal, singular, value}
use Rattle.definition.specs.Forms.Function.{count_of, length_of, value_of}

-- 01 root, 02 current
unfoldable pub start_item : Start → ℕ
start_item root = 0x01
start_item current = 0x02

-- 10 integer, 11 float, 12 text, 13 constant
unfoldable pub literal_item : Literal → ℕ
literal_item null = 0x13
literal_item (boolean b) = 0x13
literal_item (integer z) = 0x10
literal_item (float b) = 0x11
literal_item (text s) = 0x12

-- 1C match, 1D search
unfoldable pub scope_item : Scope → ℕ
scope_item whole = 0x1C
scope_item part = 0x1D

unfoldable mutual
  pub items_of : Query → List ℕ
  items_of (query s q) = start_item s ∷ segments_items q

  -- 03 child, 04 descendant, 0A end
  pub segments_items : Segments → List ℕ
  segments_items end = 0x0A ∷ []
  segments_items (child ss q) = 0x03 ∷ (selectors_items ss ++ segments_items q)
  segments_items (descendant ss q) = 0x04 ∷ (selectors_items ss ++ segments_items q)

  pub selectors_items : Selectors → List ℕ
  selectors_items (one s) = selector_items s
  selectors_items (and s ss) = selector_items s ++ selectors_items ss

  -- 05 name, 06 index, 07 slice, 08 wildcard, 09 filter
  pub selector_items : Selector → List ℕ
  selector_items (name s) = 0x05 ∷ []
  selector_items (index z) = 0x06 ∷ []
  selector_items (slice a b c) = 0x07 ∷ []
  selector_items wildcard = 0x08 ∷ []
  selector_items (filter t) = 0x09 ∷ test_items t

  -- 14 compare, 15 not, 16 and, 17 or, 18 test
  pub test_items : Test → List ℕ
  test_items (exists q) = items_of q ++ 0x18 ∷ []
  test_items (compare o a b) = argument_items a ++ (argument_items b ++ 0x14 ∷ [])
  test_items (regex c a b) = argument_items a ++ (argument_items b ++ scope_item c ∷ [])
  test_items (not t) = test_items t ++ 0x15 ∷ []
  test_items (not_value f) = function_items f ++ 0x18 ∷ 0x15 ∷ []
  test_items (both a b) = test_items a ++ 0x16 ∷ test_items b
  test_items (either a b) = test_items a ++ 0x17 ∷ test_items b

  pub argument_items : Argument → List ℕ
  argument_items (literal l) = literal_item l ∷ []
  argument_items (singular q) = items_of q
  argument_items (value f) = function_items f

  -- 19 count, 1A length, 1B value
  pub function_items : Function → List ℕ
  function_items (count_of q) = items_of q ++ 0x19 ∷ []
  function_items (length_of a) = argument_items a ++ 0x1A ∷ []
  function_items (value_of q) = items_of q ++ 0x1B ∷ []

-- the items of several forms, one behind the other
unfoldable pub items_of_all : List Query → List ℕ
items_of_all [] = []
items_of_all (q ∷ qs) = items_of q ++ items_of_all qs
