-- What is written for each tree of the grammar, whether or not it is well typed. For a tree that the walk takes, this is the translation of its form (Agrees.antt).
use Rattle.std.specs.Prelude.{ℕ, suc, ◌+◌, List, [], ◌∷◌, ◌++◌, Bool, true, false, cond, ℤ, pos, length}
use Rattle.definition.specs.Bytes.{little_endian}
use Rattle.definition.specs.Lexical.{Int, Bound, Step, Slice, name_bytes, function_bytes}
use Rattle.definition.specs.Lexical.Bound.{no_bound, bound}
use Rattle.definition.specs.Lexical.Step.{no_step, colon, step}
use Rattle.definition.specs.Literals.{text_bytes, int_value, in_range, Numeral, numeral}
use Rattle.definition.specs.Grammar as G
use Rattle.definition.specs.Grammar.SingularSegment.{name_segment, dot_segment, index_segment}
use Rattle.definition.specs.Grammar.SingularSegments.{no_singular, more_singular}
use Rattle.definition.specs.Grammar.Singular.{rel_singular, abs_singular}
use Rattle.definition.specs.Grammar.Literal.{number_literal, text_literal, true_literal, false_literal, null_literal}
use Rattle.definition.specs.Grammar.Segments.{no_segment, more_segments}
use Rattle.definition.specs.Grammar.Segment.{child_brackets, child_wild, child_name, descendant_brackets, descendant_wild, descendant_name}
use Rattle.definition.specs.Grammar.Bracketed.{bracketed}
use Rattle.definition.specs.Grammar.Selectors.{no_selector, more_selectors}
use Rattle.definition.specs.Grammar.Selector.{name_selector, wildcard_selector, slice_selector, index_selector, filter_selector}
use Rattle.definition.specs.Grammar.LogicalOr.{logical_or}
use Rattle.definition.specs.Grammar.MoreOr.{no_or, more_or}
use Rattle.definition.specs.Grammar.LogicalAnd.{logical_and}
use Rattle.definition.specs.Grammar.MoreAnd.{no_and, more_and}
use Rattle.definition.specs.Grammar.Basic.{paren_basic, not_paren, comparison, test_basic, not_test}
use Rattle.definition.specs.Grammar.Paren.{paren}
use Rattle.definition.specs.Grammar.Test.{query_test, function_test}
use Rattle.definition.specs.Grammar.FilterQuery.{rel_query, abs_query}
use Rattle.definition.specs.Grammar.Comparable.{literal_comparable, singular_comparable, function_comparable}
use Rattle.definition.specs.Grammar.Function.{function}
use Rattle.definition.specs.Grammar.Arguments.{no_argument, arguments}
use Rattle.definition.specs.Grammar.MoreArguments.{no_more, more_arguments}
use Rattle.definition.specs.Grammar.Argument.{literal_argument, query_argument, logical_argument, function_argument}
use Rattle.definition.specs.Walk.{Named, named, operator_form}
use Rattle.definition.specs.Walk.Named.{count, value_name, match, search, unknown}
use Rattle.definition.specs.Plans.{eight, operator_byte}
use Rattle.compile_writes.specs.Effects.{Writer, first, skip, bytes, pooling, mark, verdict, seq, frame, counted}
use Rattle.compile_writes.specs.Sorts.{Sort, sort_or_lem, sort_and_lem, sort_basic, sort_paren, sort_test, sort_comparable, sorts_of, value_verdict, compared_verdict, call_verdict}
use Rattle.compile_writes.specs.Sorts.Sort.{literal_sort, singular_sort, nodes_sort, value_sort, logical_sort}

-- ---- whole numbers: one that is out of range is written as 0 and marked

unfoldable pub kept_int : Int → ℤ
kept_int i = cond (in_range (int_value i)) (int_value i) (pos 0)

unfoldable pub verdict_int : Int → ℕ
verdict_int i = cond (in_range (int_value i)) 0 4

unfoldable pub write_index : Int → Writer
write_index i = seq (bytes (0x06 ∷ eight (kept_int i))) (verdict (verdict_int i))

unfoldable pub bound_bit : Bound → ℕ → ℕ
bound_bit no_bound b = 0
bound_bit (bound i s) b = b

unfoldable pub bound_bytes : Bound → List ℕ
bound_bytes no_bound = little_endian 8 0
bound_bytes (bound i s) = eight (kept_int i)

unfoldable pub bound_verdict : Bound → ℕ
bound_verdict no_bound = 0
bound_verdict (bound i s) = verdict_int i

unfoldable pub step_bit : Step → ℕ
step_bit no_step = 0
step_bit colon = 0
step_bit (step b i) = 4

unfoldable pub step_bytes : Step → List ℕ
step_bytes no_step = little_endian 8 0
step_bytes colon = little_endian 8 0
step_bytes (step b i) = eight (kept_int i)

unfoldable pub step_verdict : Step → ℕ
step_verdict no_step = 0
step_verdict colon = 0
step_verdict (step b i) = verdict_int i

unfoldable pub write_slice : Slice → Writer
write_slice s =
    seq (bytes (0x07 ∷ (bound_bit s.start 1 + bound_bit s.stop 2 + step_bit s.by) ∷ (bound_bytes s.start ++ (bound_bytes s.stop ++ step_bytes s.by))))
    (verdict (first (bound_verdict s.start) (first (bound_verdict s.stop) (step_verdict s.by))))

-- ---- literals

unfoldable pub write_numeral : Numeral → Writer
write_numeral (Numeral.integer z) = bytes (0x10 ∷ eight z)
write_numeral (Numeral.float b) = bytes (0x11 ∷ little_endian 8 b)
write_numeral Numeral.beyond = seq (bytes (0x13 ∷ 2 ∷ [])) (mark (record { verdict = 0; beyond = true }))

unfoldable pub write_literal : G.Literal → Writer
write_literal (number_literal n) = write_numeral (numeral n)
write_literal (text_literal t) = pooling 0x12 (text_bytes t)
write_literal true_literal = bytes (0x13 ∷ 1 ∷ [])
write_literal false_literal = bytes (0x13 ∷ 0 ∷ [])
write_literal null_literal = bytes (0x13 ∷ 2 ∷ [])

-- ---- singular queries

unfoldable pub write_singular_segment : G.SingularSegment → Writer
write_singular_segment (name_segment t) = counted 0x03 1 (pooling 0x05 (text_bytes t))
write_singular_segment (dot_segment n) = counted 0x03 1 (pooling 0x05 (name_bytes n))
write_singular_segment (index_segment i) = counted 0x03 1 (write_index i)

unfoldable pub write_singular_segments : G.SingularSegments → Writer
write_singular_segments no_singular = skip
write_singular_segments (more_singular b x xs) = seq (write_singular_segment x) (write_singular_segments xs)

-- a query: its start, its segments and its end
unfoldable pub write_from : ℕ → Writer → Writer
write_from start f = seq (bytes (start ∷ [])) (seq f (bytes (0x0A ∷ [])))

unfoldable pub write_singular : G.Singular → Writer
write_singular (rel_singular xs) = write_from 0x02 (write_singular_segments xs)
write_singular (abs_singular xs) = write_from 0x01 (write_singular_segments xs)

-- ---- what an expression needs to stand as a test, and to be negated

unfoldable pub test_tail : Sort → List ℕ
test_tail literal_sort = []
test_tail singular_sort = 0x18 ∷ []
test_tail nodes_sort = 0x18 ∷ []
test_tail value_sort = 0x18 ∷ 0x15 ∷ 0x15 ∷ []
test_tail logical_sort = []

unfoldable pub not_tail : Sort → List ℕ
not_tail literal_sort = 0x15 ∷ []
not_tail singular_sort = 0x18 ∷ 0x15 ∷ []
not_tail nodes_sort = 0x18 ∷ 0x15 ∷ []
not_tail value_sort = 0x18 ∷ 0x15 ∷ []
not_tail logical_sort = 0x15 ∷ []

-- What stands behind an expression of the given sort that stands behind `!`: the verdict on it, for a value function may not be negated, and its tail.
abbrev pub write_not : Sort → Writer
write_not s = seq (verdict (compared_verdict true s)) (bytes (not_tail s))

-- the item of a call, behind its arguments
unfoldable pub call_bytes : Named → List ℕ
call_bytes count = 0x19 ∷ []
call_bytes Named.length = 0x1A ∷ []
call_bytes value_name = 0x1B ∷ []
call_bytes match = 0x1C ∷ []
call_bytes search = 0x1D ∷ []
call_bytes unknown = []

unfoldable pub count_more : G.Selectors → ℕ
count_more no_selector = 0
count_more (more_selectors b c x xs) = suc (count_more xs)

unfoldable pub count_bracketed : G.Bracketed → ℕ
count_bracketed (bracketed b x xs c) = suc (count_more xs)

-- ---- the trees that nest

unfoldable mutual
  pub write_segments : G.Segments → Writer
  write_segments no_segment = skip
  write_segments (more_segments b x xs) = seq (write_segment x) (write_segments xs)

  pub write_segment : G.Segment → Writer
  write_segment (child_brackets x) = counted 0x03 (count_bracketed x) (write_bracketed x)
  write_segment child_wild = counted 0x03 1 (bytes (0x08 ∷ []))
  write_segment (child_name n) = counted 0x03 1 (pooling 0x05 (name_bytes n))
  write_segment (descendant_brackets x) = counted 0x04 (count_bracketed x) (write_bracketed x)
  write_segment descendant_wild = counted 0x04 1 (bytes (0x08 ∷ []))
  write_segment (descendant_name n) = counted 0x04 1 (pooling 0x05 (name_bytes n))

  pub write_bracketed : G.Bracketed → Writer
  write_bracketed (bracketed b x xs c) = seq (write_selector x) (write_selectors xs)

  pub write_selectors : G.Selectors → Writer
  write_selectors no_selector = skip
  write_selectors (more_selectors b c x xs) = seq (write_selector x) (write_selectors xs)

  pub write_selector : G.Selector → Writer
  write_selector (name_selector t) = pooling 0x05 (text_bytes t)
  write_selector wildcard_selector = bytes (0x08 ∷ [])
  write_selector (slice_selector s) = write_slice s
  write_selector (index_selector i) = write_index i
  write_selector (filter_selector b e) = frame 0x09 (seq (write_or_lem e true) (bytes (test_tail (sort_or_lem e))))

  -- a says whether a value function may not stand alone
  pub write_or_lem : G.LogicalOr → Bool → Writer
  write_or_lem (logical_or x xs) a = seq (write_and_lem x a) (write_more_or xs (sort_and_lem x) a)

  -- s is the sort of what stands before
  pub write_more_or : G.MoreOr → Sort → Bool → Writer
  write_more_or no_or s a = skip
  write_more_or (more_or b c x xs) s a =
      seq (bytes (test_tail s)) (seq (frame 0x17 (seq (write_and_lem x a) (bytes (test_tail (sort_and_lem x))))) (write_more_or xs logical_sort a))

  pub write_and_lem : G.LogicalAnd → Bool → Writer
  write_and_lem (logical_and x xs) a = seq (write_basic x) (seq (verdict (compared_verdict a (sort_basic x))) (write_more_and xs (sort_basic x) a))

  pub write_more_and : G.MoreAnd → Sort → Bool → Writer
  write_more_and no_and s a = skip
  write_more_and (more_and b c x xs) s a =
      seq (bytes (test_tail s))
      (seq (frame 0x16 (seq (write_basic x) (bytes (test_tail (sort_basic x)))))
      (seq (verdict (compared_verdict a (sort_basic x))) (write_more_and xs logical_sort a)))

  pub write_basic : G.Basic → Writer
  write_basic (paren_basic p) = write_paren p
  write_basic (not_paren b p) = seq (write_paren p) (write_not (sort_paren p))
  write_basic (comparison x b o c y) =
      seq (write_comparable x)
      (seq (write_comparable y)
      (seq (verdict (first (value_verdict (sort_comparable x)) (value_verdict (sort_comparable y)))) (bytes (0x14 ∷ operator_byte (operator_form o) ∷ []))))
  write_basic (test_basic t) = write_test t
  write_basic (not_test b t) = seq (write_test t) (write_not (sort_test t))

  pub write_paren : G.Paren → Writer
  write_paren (paren b e c) = write_or_lem e true

  pub write_test : G.Test → Writer
  write_test (query_test q) = write_filter_query q
  write_test (function_test f) = write_function f

  pub write_filter_query : G.FilterQuery → Writer
  write_filter_query (rel_query xs) = write_from 0x02 (write_segments xs)
  write_filter_query (abs_query xs) = write_from 0x01 (write_segments xs)

  pub write_comparable : G.Comparable → Writer
  write_comparable (literal_comparable l) = write_literal l
  write_comparable (singular_comparable q) = write_singular q
  write_comparable (function_comparable f) = write_function f

  pub write_function : G.Function → Writer
  write_function (function n b xs c) =
      seq (write_arguments xs)
      (seq (verdict (call_verdict (named (function_bytes n)) (sorts_of xs))) (bytes (call_bytes (named (function_bytes n)))))

  pub write_arguments : G.Arguments → Writer
  write_arguments no_argument = skip
  write_arguments (arguments x xs) = seq (write_argument x) (write_more_arguments xs)

  pub write_more_arguments : G.MoreArguments → Writer
  write_more_arguments no_more = skip
  write_more_arguments (more_arguments b c x xs) = seq (write_argument x) (write_more_arguments xs)

  -- straight in an argument a value function may stand alone
  pub write_argument : G.Argument → Writer
  write_argument (literal_argument l) = write_literal l
  write_argument (query_argument q) = write_filter_query q
  write_argument (logical_argument e) = write_or_lem e false
  write_argument (function_argument f) = write_function f

unfoldable pub write_query : G.Query → Writer
write_query q = write_from 0x01 (write_segments q.segments)
