-- Which forms are query forms: those that a plan may spell (document 01, "Plan items", the last paragraph).
-- "The forms that a plan may spell stay wider than the queries we accept": they have `!` before a value function (document 02, W12). All that compiles keeps to them.
use Rattle.std.specs.Prelude.{ℕ, suc, max, ◌^◌, Bool, true, false, ◌&&◌, leb, ltb, ℤ, pos, negsuc}
use Rattle.std.proofs.Math.Option.{Option, none, some}
use Rattle.definition.specs.Limits.{max_nesting}
use Rattle.definition.specs.Utf8.{is_utf8}
use Rattle.definition.specs.Literals.{in_range}
use Rattle.definition.specs.Tables.{is_finite}
use Rattle.definition.specs.Forms.{Literal, Query, Segments, Selectors, Selector, Test, Argument, Function, is_singular}
use Rattle.definition.specs.Forms.Literal.{null, boolean, integer, float, text}
use Rattle.definition.specs.Forms.Start.{root, current}
use Rattle.definition.specs.Forms.Query.{query}
use Rattle.definition.specs.Forms.Segments.{end, child, descendant}
use Rattle.definition.specs.Forms.Selectors.{one, and}
use Rattle.definition.specs.Forms.Selector.{name, index, slice, wildcard, filter}
use Rattle.definition.specs.Forms.Test.{exists, compare, regex, not, not_value, both, either}
use Rattle.definition.specs.Forms.Argument.{literal, singular, value}
use Rattle.definition.specs.Forms.Function.{count_of, length_of, value_of}

-- an integer inside i64, from -2^63 up to 2^63-1
unfoldable pub inside_i64 : ℤ → Bool
inside_i64 (pos n) = ltb n (2 ^ 63)
inside_i64 (negsuc n) = ltb n (2 ^ 63)

-- "finite floats and UTF-8 texts"
unfoldable pub literal_right : Literal → Bool
literal_right null = true
literal_right (boolean b) = true
literal_right (integer z) = inside_i64 z
literal_right (float b) = ltb b (2 ^ 64) && is_finite b
literal_right (text s) = is_utf8 s

-- "indices, bounds and steps in refusal 4's range"
unfoldable pub bound_right : Option ℤ → Bool
bound_right none = true
bound_right (some z) = in_range z

unfoldable mutual
  pub query_right : Query → Bool
  query_right (query s q) = segments_right q

  pub segments_right : Segments → Bool
  segments_right end = true
  segments_right (child ss q) = selectors_right ss && segments_right q
  segments_right (descendant ss q) = selectors_right ss && segments_right q

  pub selectors_right : Selectors → Bool
  selectors_right (one s) = selector_right s
  selectors_right (and s ss) = selector_right s && selectors_right ss

  pub selector_right : Selector → Bool
  selector_right (name s) = is_utf8 s
  selector_right (index z) = in_range z
  selector_right (slice a b c) = bound_right a && (bound_right b && bound_right c)
  selector_right wildcard = true
  selector_right (filter t) = test_right t

  pub test_right : Test → Bool
  test_right (exists q) = query_right q
  test_right (compare o a b) = argument_right a && argument_right b
  test_right (regex s a b) = argument_right a && argument_right b
  test_right (not t) = test_right t
  test_right (not_value f) = function_right f
  test_right (both a b) = test_right a && test_right b
  test_right (either a b) = test_right a && test_right b

  pub argument_right : Argument → Bool
  argument_right (literal l) = literal_right l
  argument_right (singular q) = is_singular q && query_right q
  argument_right (value f) = function_right f

  pub function_right : Function → Bool
  function_right (count_of q) = query_right q
  function_right (length_of a) = argument_right a
  function_right (value_of q) = query_right q

-- how many "filters, functions, nots and right operands of 16 or 17" stand around the item that has the most around it; a left operand adds nothing
unfoldable mutual
  pub nesting : Query → ℕ
  nesting (query s q) = nesting_segments q

  pub nesting_segments : Segments → ℕ
  nesting_segments end = 0
  nesting_segments (child ss q) = max (nesting_selectors ss) (nesting_segments q)
  nesting_segments (descendant ss q) = max (nesting_selectors ss) (nesting_segments q)

  pub nesting_selectors : Selectors → ℕ
  nesting_selectors (one s) = nesting_selector s
  nesting_selectors (and s ss) = max (nesting_selector s) (nesting_selectors ss)

  pub nesting_selector : Selector → ℕ
  nesting_selector (name s) = 0
  nesting_selector (index z) = 0
  nesting_selector (slice a b c) = 0
  nesting_selector wildcard = 0
  nesting_selector (filter t) = suc (nesting_test t)

  pub nesting_test : Test → ℕ
  nesting_test (exists q) = nesting q
  nesting_test (compare o a b) = max (nesting_argument a) (nesting_argument b)
  nesting_test (regex s a b) = suc (max (nesting_argument a) (nesting_argument b))
  nesting_test (not t) = suc (nesting_test t)
  nesting_test (not_value f) = suc (nesting_function f)
  nesting_test (both a b) = max (nesting_test a) (suc (nesting_test b))
  nesting_test (either a b) = max (nesting_test a) (suc (nesting_test b))

  pub nesting_argument : Argument → ℕ
  nesting_argument (literal l) = 0
  nesting_argument (singular q) = nesting q
  nesting_argument (value f) = nesting_function f

  pub nesting_function : Function → ℕ
  nesting_function (count_of q) = suc (nesting q)
  nesting_function (length_of a) = suc (nesting_argument a)
  nesting_function (value_of q) = suc (nesting q)

-- a whole query begins at `$`
unfoldable pub starts_at_root : Query → Bool
starts_at_root (query root q) = true
starts_at_root (query current q) = false

-- "A query form is a tree that the RFC's grammar (parentheses aside) and the typing rules allow, with indices, bounds and steps in refusal 4's range,
-- finite floats and UTF-8 texts, and no item inside more than 128 filters, functions, nots and right operands of 16 or 17 together."
-- The crate `definition_laws` (Reached) proves that every query form is the form of some tree of the grammar, as far as number literals can write its floats.
unfoldable pub is_form : Query → Bool
is_form q = starts_at_root q && (query_right q && leb (nesting q) max_nesting)
