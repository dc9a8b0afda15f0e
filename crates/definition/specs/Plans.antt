-- The translation of a query form to its plan and its pool, as document 01's table "Plan items" has it.
use Rattle.std.specs.Prelude.{ℕ, ◌+◌, List, [], ◌∷◌, ◌++◌, cond, ℤ, length}
use Rattle.std.proofs.Math.Option.{Option, none, some}
use Rattle.regex_definition.specs.Scope.{Scope, whole, part}
use Rattle.definition.specs.Bytes.{little_endian, unsigned64}
use Rattle.definition.specs.Forms.{Literal, Operator, Start, Query, Segments, Selectors, Selector, Test, Argument, Function, many_selectors}
use Rattle.definition.specs.Forms.Operator.{eq, ne, lt, le, gt, ge}
use Rattle.definition.specs.Forms.Literal.{null, boolean, integer, float, text}
use Rattle.definition.specs.Forms.Start.{root, current}
use Rattle.definition.specs.Forms.Query.{query}
use Rattle.definition.specs.Forms.Segments.{end, child, descendant}
use Rattle.definition.specs.Forms.Selectors.{one, and}
use Rattle.definition.specs.Forms.Selector.{name, index, slice, wildcard, filter}
use Rattle.definition.specs.Forms.Test.{exists, compare, regex, not, not_value, both, either}
use Rattle.definition.specs.Forms.Argument.{literal, singular, value}
use Rattle.definition.specs.Forms.Function.{count_of, length_of, value_of}

-- ---- the pool: "names and texts unescaped, end to end in item order"

unfoldable pub pool_literal : Literal → List ℕ
pool_literal null = []
pool_literal (boolean b) = []
pool_literal (integer z) = []
pool_literal (float b) = []
pool_literal (text s) = s

unfoldable mutual
  pub pool_query : Query → List ℕ
  pool_query (query s q) = pool_segments q

  pub pool_segments : Segments → List ℕ
  pool_segments end = []
  pool_segments (child ss q) = pool_selectors ss ++ pool_segments q
  pool_segments (descendant ss q) = pool_selectors ss ++ pool_segments q

  pub pool_selectors : Selectors → List ℕ
  pool_selectors (one s) = pool_selector s
  pool_selectors (and s ss) = pool_selector s ++ pool_selectors ss

  pub pool_selector : Selector → List ℕ
  pool_selector (name s) = s
  pool_selector (index z) = []
  pool_selector (slice a b c) = []
  pool_selector wildcard = []
  pool_selector (filter t) = pool_test t

  pub pool_test : Test → List ℕ
  pool_test (exists q) = pool_query q
  pool_test (compare o a b) = pool_argument a ++ pool_argument b
  pool_test (regex s a b) = pool_argument a ++ pool_argument b
  pool_test (not t) = pool_test t
  pool_test (not_value f) = pool_function f
  pool_test (both a b) = pool_test a ++ pool_test b
  pool_test (either a b) = pool_test a ++ pool_test b

  pub pool_argument : Argument → List ℕ
  pool_argument (literal l) = pool_literal l
  pool_argument (singular q) = pool_query q
  pool_argument (value f) = pool_function f

  pub pool_function : Function → List ℕ
  pool_function (count_of q) = pool_query q
  pool_function (length_of a) = pool_argument a
  pool_function (value_of q) = pool_query q

-- ---- items

-- a length or a count in 2 bytes, a number in 8
abbrev pub two : ℕ → List ℕ
two n = little_endian 2 n

abbrev pub eight : ℤ → List ℕ
eight z = little_endian 8 (unsigned64 z)

-- 05 name, 12 text: "pool start 2, length 2"
unfoldable pub pooled : ℕ → ℕ → List ℕ → List ℕ
pooled kind p s = kind ∷ (two p ++ two (length s))

unfoldable pub start_kind : Start → ℕ
start_kind root = 0x01
start_kind current = 0x02

-- "0-5 for == != < <= > >="
unfoldable pub operator_byte : Operator → ℕ
operator_byte eq = 0
operator_byte ne = 1
operator_byte lt = 2
operator_byte le = 3
operator_byte gt = 4
operator_byte ge = 5

-- document 02, W4: "Plan kinds 1C match, 1D search, no body"
unfoldable pub scope_kind : Scope → ℕ
scope_kind whole = 0x1C
scope_kind part = 0x1D

-- "1 (bits 0, 1, 2: start, stop, step given), three of 8, absent ones 0"
unfoldable pub given : Option ℤ → ℕ → ℕ
given none b = 0
given (some z) b = b

unfoldable pub eight_of : Option ℤ → List ℕ
eight_of none = little_endian 8 0
eight_of (some z) = eight z

unfoldable pub code_slice : Option ℤ → Option ℤ → Option ℤ → List ℕ
code_slice a b c = 0x07 ∷ (given a 1 + given b 2 + given c 4) ∷ (eight_of a ++ (eight_of b ++ eight_of c))

-- "13 constant: 1 byte: 0 false, 1 true, 2 null"
unfoldable pub code_literal : Literal → ℕ → List ℕ
code_literal null p = 0x13 ∷ 2 ∷ []
code_literal (boolean b) p = 0x13 ∷ cond b 1 0 ∷ []
code_literal (integer z) p = 0x10 ∷ eight z
code_literal (float b) p = 0x11 ∷ little_endian 8 b
code_literal (text s) p = pooled 0x12 p s

-- a kind, the length of some code in 2 bytes, and that code
abbrev pub framed : ℕ → List ℕ → List ℕ
framed kind c = kind ∷ (two (length c) ++ c)

-- ---- the plan: "Filter code is postfix". p is where the pool stands when the part begins.

unfoldable mutual
  pub code_query : Query → ℕ → List ℕ
  code_query (query s q) p = start_kind s ∷ code_segments q p

  pub code_segments : Segments → ℕ → List ℕ
  code_segments end p = 0x0A ∷ []
  code_segments (child ss q) p = 0x03 ∷ (two (many_selectors ss) ++ (code_selectors ss p ++ code_segments q (p + length (pool_selectors ss))))
  code_segments (descendant ss q) p = 0x04 ∷ (two (many_selectors ss) ++ (code_selectors ss p ++ code_segments q (p + length (pool_selectors ss))))

  pub code_selectors : Selectors → ℕ → List ℕ
  code_selectors (one s) p = code_selector s p
  code_selectors (and s ss) p = code_selector s p ++ code_selectors ss (p + length (pool_selector s))

  pub code_selector : Selector → ℕ → List ℕ
  code_selector (name s) p = pooled 0x05 p s
  code_selector (index z) p = 0x06 ∷ eight z
  code_selector (slice a b c) p = code_slice a b c
  code_selector wildcard p = 0x08 ∷ []
  code_selector (filter t) p = framed 0x09 (code_test t p)

  -- "a test of a query or value function ends in 18, before any 15"
  pub code_test : Test → ℕ → List ℕ
  code_test (exists q) p = code_query q p ++ 0x18 ∷ []
  code_test (compare o a b) p = code_argument a p ++ (code_argument b (p + length (pool_argument a)) ++ 0x14 ∷ operator_byte o ∷ [])
  code_test (regex s a b) p = code_argument a p ++ (code_argument b (p + length (pool_argument a)) ++ scope_kind s ∷ [])
  code_test (not t) p = code_test t p ++ 0x15 ∷ []
  code_test (not_value f) p = code_function f p ++ 0x18 ∷ 0x15 ∷ []
  code_test (both a b) p = code_test a p ++ framed 0x16 (code_test b (p + length (pool_test a)))
  code_test (either a b) p = code_test a p ++ framed 0x17 (code_test b (p + length (pool_test a)))

  pub code_argument : Argument → ℕ → List ℕ
  code_argument (literal l) p = code_literal l p
  code_argument (singular q) p = code_query q p
  code_argument (value f) p = code_function f p

  pub code_function : Function → ℕ → List ℕ
  code_function (count_of q) p = code_query q p ++ 0x19 ∷ []
  code_function (length_of a) p = code_argument a p ++ 0x1A ∷ []
  code_function (value_of q) p = code_query q p ++ 0x1B ∷ []

-- "One plan and one pool translate each."
unfoldable pub plan_of : Query → List ℕ
plan_of q = code_query q 0

unfoldable pub pool_of : Query → List ℕ
pool_of q = pool_query q
