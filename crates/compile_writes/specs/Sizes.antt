-- How much is written: never more pool than the spelling has bytes, and at most 13 bytes of plan for each byte of the spelling. Every verdict is 0, 4, 5 or 6.
use Rattle.std.specs.Prelude.{ℕ, ◌+◌, ◌*◌, ◌≤◌, ◌≡◌, List, [], ◌∷◌, ◌++◌, Bool, true, false, cond, length}
use Rattle.std.proofs.Common.{arith, length-append}
use Rattle.definition.specs.Lexical.{Int, Bound, Step, Slice, Text, spell_int, spell_slice, Blanks, spell_blanks, spell_text, name_bytes, function_bytes}
use Rattle.definition.specs.Lexical.Bound.{no_bound, bound}
use Rattle.definition.specs.Lexical.Step.{no_step, colon, step}
use Rattle.definition.specs.Literals.{text_bytes, int_value, in_range, Numeral, numeral}
use Rattle.definition.specs.Grammar as G
use Rattle.definition.specs.Grammar.{spell_singular_segment, spell_singular_segments, spell_singular, spell_literal, spell_operator, spell_segments, spell_segment, spell_bracketed, spell_selectors, spell_selector, spell_logical_or, spell_more_or, spell_logical_and, spell_more_and, spell_basic, spell_paren, spell_test, spell_filter_query, spell_comparable, spell_function, spell_arguments, spell_more_arguments, spell_argument, spell}
use Rattle.definition.specs.Grammar.SingularSegment.{name_segment, dot_segment, index_segment}
use Rattle.definition.specs.Grammar.SingularSegments.{no_singular, more_singular}
use Rattle.definition.specs.Grammar.Singular.{rel_singular, abs_singular}
use Rattle.definition.specs.Grammar.Literal.{number_literal, text_literal, true_literal, false_literal, null_literal}
use Rattle.definition.specs.Grammar.Segments.{no_segment, more_segments}
use Rattle.definition.specs.Grammar.Segment.{child_brackets, child_wild, child_name, descendant_brackets, descendant_wild, descendant_name}
use Rattle.definition.specs.Grammar.Bracketed.{bracketed}
use Rattle.definition.specs.Grammar.Selectors.{no_selector, more_selectors}
use Rattle.definition.specs.Grammar.Selector.{name_selector, wildcard_selector, slice_selector, index_selector, filter_selector}
use Rattle.definition.specs.Grammar.LogicalOr.{logical_or}
use Rattle.definition.specs.Grammar.MoreOr.{no_or, more_or}
use Rattle.definition.specs.Grammar.LogicalAnd.{logical_and}
use Rattle.definition.specs.Grammar.MoreAnd.{no_and, more_and}
use Rattle.definition.specs.Grammar.Basic.{paren_basic, not_paren, comparison, test_basic, not_test}
use Rattle.definition.specs.Grammar.Paren.{paren}
use Rattle.definition.specs.Grammar.Test.{query_test, function_test}
use Rattle.definition.specs.Grammar.FilterQuery.{rel_query, abs_query}
use Rattle.definition.specs.Grammar.Comparable.{literal_comparable, singular_comparable, function_comparable}
use Rattle.definition.specs.Grammar.Function.{function}
use Rattle.definition.specs.Grammar.Arguments.{no_argument, arguments}
use Rattle.definition.specs.Grammar.MoreArguments.{no_more, more_arguments}
use Rattle.definition.specs.Grammar.Argument.{literal_argument, query_argument, logical_argument, function_argument}
use Rattle.definition.specs.Walk.{Named, named, operator_form}
use Rattle.definition.specs.Walk.Named.{count, value_name, match, search, unknown}
use Rattle.definition.specs.Plans.{pooled, eight, operator_byte}
use Rattle.definition_bytes.specs.Numbers.{little_endian_length}
use Rattle.compile_writes.specs.Effects.{Writer, Marks, first, join_marks, join, skip, bytes, pooling, mark, verdict, seq, frame, counted}
use Rattle.compile_writes.specs.Sorts.{Sort, sort_or_lem, sort_and_lem, sort_basic, sort_paren, sort_test, sort_comparable, sorts_of, value_verdict, nodes_verdict, compared_verdict, one_verdict, two_verdict, call_verdict}
use Rattle.compile_writes.specs.Sorts.Sort.{literal_sort, singular_sort, nodes_sort, value_sort, logical_sort}
use Rattle.compile_writes.specs.Writes.{kept_int, verdict_int, bound_bytes, bound_verdict, step_bytes, step_verdict, write_index, write_slice, write_numeral, write_literal, write_singular_segment, write_singular_segments, write_singular, write_from, test_tail, not_tail, write_not, call_bytes, count_bracketed, write_segments, write_segment, write_bracketed, write_selectors, write_selector, write_or_lem, write_more_or, write_and_lem, write_more_and, write_basic, write_paren, write_test, write_filter_query, write_comparable, write_function, write_arguments, write_more_arguments, write_argument, write_query}
use Rattle.compile_writes.specs.Spellings.{text_shrinks, int_spends, number_spends, slice_spends, operator_spends}

-- ---- verdicts

-- 0 for none, or one of the refusals 4, 5 and 6
pub data IsVerdict : ℕ → Type 0 where
  no_verdict : IsVerdict 0
  four : IsVerdict 4
  five : IsVerdict 5
  six : IsVerdict 6

first_verdict : {a b : ℕ} → IsVerdict a → IsVerdict b → IsVerdict (first a b)
first_verdict no_verdict k = k
first_verdict four k = four
first_verdict five k = five
first_verdict six k = six

-- ---- sizes of writers

-- What a writer brings about against a spelling s with the bytes r behind it: 13 bytes of plan for each byte of the spelling, with `spare` left and `over` too many.
pub record Sized (spare over : ℕ) (f : Writer) (r s : List ℕ) : Type 0 where
  pub pool : (p : ℕ) → length (f p).pool + length r ≤ length s
  pub plan : (p : ℕ) → length (f p).plan + spare + 13 * length r ≤ 13 * length s + over
  pub known : (p : ℕ) → IsVerdict (f p).marks.verdict

-- one after the other: what is spare and what is over add up
seq_sized : {a b c d : ℕ} {f g : Writer} {r m s : List ℕ} → Sized a b f m s → Sized c d g r m → Sized (a + c) (b + d) (seq f g) r s
unfolding seq join join_marks
seq_sized {f} {g} h k =
    record {
      pool = λ p. simp length-append (omega (arith, h.pool p, k.pool (p + length (f p).pool)));
      plan = λ p. simp length-append (omega (arith, h.plan p, k.plan (p + length (f p).pool)));
      known = λ p. first_verdict (h.known p) (k.known (p + length (f p).pool));
    }

-- nothing, and marks, take nothing
skip_sized : {r : List ℕ} → Sized 0 0 skip r r
unfolding skip
skip_sized = record { pool = λ p. omega arith; plan = λ p. omega arith; known = λ p. no_verdict }

mark_sized : {r : List ℕ} (m : Marks) → IsVerdict m.verdict → Sized 0 0 (mark m) r r
unfolding mark
mark_sized m v = record { pool = λ p. omega arith; plan = λ p. omega arith; known = λ p. v }

-- bytes of the plan that no byte of the spelling pays for
bytes_sized : {r : List ℕ} (t : List ℕ) (n : ℕ) → length t ≤ n → Sized 0 n (bytes t) r r
unfolding bytes
bytes_sized t n h = record { pool = λ p. omega arith; plan = λ p. omega arith; known = λ p. no_verdict }

-- a name or a text, spelled by no less than its bytes
pooling_sized : {r : List ℕ} (kind : ℕ) (t : List ℕ) → Sized 0 5 (pooling kind t) r (t ++ r)
unfolding pooling pooled
pooling_sized kind t =
    record {
      pool = λ p. simp length-append (omega arith);
      plan = λ p. simp (length-append, little_endian_length) (omega arith);
      known = λ p. no_verdict;
    }

-- a kind and a length, or a count, are three bytes
frame_sized : {a b : ℕ} {f : Writer} {r s : List ℕ} (kind : ℕ) → Sized a b f r s → Sized a (b + 3) (frame kind f) r s
unfolding frame
frame_sized kind h =
    record {
      pool = h.pool;
      plan = λ p. simp (length-append, little_endian_length) (omega (arith, h.plan p));
      known = h.known;
    }

counted_sized : {a b : ℕ} {f : Writer} {r s : List ℕ} (kind n : ℕ) → Sized a b f r s → Sized a (b + 3) (counted kind n f) r s
unfolding counted
counted_sized kind n h =
    record {
      pool = h.pool;
      plan = λ p. simp (length-append, little_endian_length) (omega (arith, h.plan p));
      known = h.known;
    }

verdict_sized : {r : List ℕ} {n : ℕ} → IsVerdict n → Sized 0 0 (verdict n) r r
verdict_sized v = mark_sized _ v

-- n bytes more in the spelling, before or behind, pay for 13 * n bytes
around : {a b c d : ℕ} {f : Writer} {r s q t : List ℕ} (n : ℕ) → Sized a b f r s → length s + length q + n ≤ length t + length r → c + b ≤ a + d + 13 * n → Sized c d f q t
around n h longer enough =
    record {
      pool = λ p. omega (arith, h.pool p);
      plan = λ p. omega (arith, h.plan p);
      known = h.known;
    }

-- the same with the same bytes behind
loosen : {a b c d : ℕ} {f : Writer} {r s t : List ℕ} (n : ℕ) → Sized a b f r s → length s + n ≤ length t → c + b ≤ a + d + 13 * n → Sized c d f r t
loosen n h longer enough = around n h (omega arith) enough

-- a query's start and end are two bytes
from_sized : {a b : ℕ} {f : Writer} {r s : List ℕ} (start : ℕ) → Sized a b f r s → Sized a (b + 2) (write_from start f) r s
unfolding write_from
from_sized {a} {b} start h = loosen 0 (seq_sized (bytes_sized (start ∷ []) 1 (omega arith)) (seq_sized h (bytes_sized (0x0A ∷ []) 1 (omega arith)))) (omega arith) (omega arith)

-- ---- the leaves

-- the verdicts of whole numbers, bounds and steps
int_verdict : (i : Int) → IsVerdict (verdict_int i)
unfolding verdict_int
int_verdict i = go (in_range (int_value i))
  where
    go : (b : Bool) → IsVerdict (cond b 0 4)
    go true = no_verdict
    go false = four

-- an index is written in 9 bytes
pub sized_index : (i : Int) (r : List ℕ) → Sized 0 0 (write_index i) r (spell_int i r)
unfolding write_index
sized_index i r =
    loosen 1 (seq_sized (bytes_sized (0x06 ∷ eight (kept_int i)) 9 (simp little_endian_length (omega arith))) (verdict_sized (int_verdict i))) (int_spends i r) (omega arith)

bound_verdict_lem : (b : Bound) → IsVerdict (bound_verdict b)
unfolding bound_verdict
bound_verdict_lem no_bound = no_verdict
bound_verdict_lem (bound i s) = int_verdict i

step_verdict_lem : (s : Step) → IsVerdict (step_verdict s)
unfolding step_verdict
step_verdict_lem no_step = no_verdict
step_verdict_lem colon = no_verdict
step_verdict_lem (step b i) = int_verdict i

-- a bound and a step are written in 8
bound_length : (b : Bound) → length (bound_bytes b) ≡ 8
unfolding bound_bytes
bound_length no_bound = little_endian_length 8 0
bound_length (bound i s) = little_endian_length 8 _

step_length_lem : (s : Step) → length (step_bytes s) ≡ 8
unfolding step_bytes
step_length_lem no_step = little_endian_length 8 0
step_length_lem colon = little_endian_length 8 0
step_length_lem (step b i) = little_endian_length 8 _

-- a slice may be one byte, and is written in 26
pub sized_slice : (s : Slice) (r : List ℕ) → Sized 0 13 (write_slice s) r (spell_slice s r)
unfolding write_slice
sized_slice s r =
    loosen 1
    (seq_sized
    (bytes_sized _ 26 (simp (length-append, bound_length, step_length_lem) (omega arith)))
    (verdict_sized (first_verdict (bound_verdict_lem s.start) (first_verdict (bound_verdict_lem s.stop) (step_verdict_lem s.by)))))
    (slice_spends s r) (omega arith)

-- a quoted text has two bytes besides
text_sized : (kind : ℕ) (t : Text) (r : List ℕ) → Sized 21 0 (pooling kind (text_bytes t)) r (spell_text t r)
text_sized kind t r = loosen 2 (pooling_sized kind (text_bytes t)) (text_shrinks t r) (omega arith)

numeral_sized : (n : Numeral) {r : List ℕ} → Sized 0 9 (write_numeral n) r r
unfolding write_numeral
numeral_sized (Numeral.integer z) = bytes_sized _ 9 (simp little_endian_length (omega arith))
numeral_sized (Numeral.float b) = bytes_sized _ 9 (simp little_endian_length (omega arith))
numeral_sized Numeral.beyond = seq_sized (bytes_sized _ 9 (omega arith)) (mark_sized _ no_verdict)

-- a literal is written in 9 bytes at most and spelled by one at least, which leaves room for a tail
pub sized_literal : (l : G.Literal) (r : List ℕ) → Sized 3 0 (write_literal l) r (spell_literal l r)
unfolding write_literal
sized_literal (number_literal n) r = loosen 1 (numeral_sized (numeral n)) (number_spends n r) (omega arith)
sized_literal (text_literal t) r = loosen 0 (text_sized 0x12 t r) (omega arith) (omega arith)
sized_literal true_literal r = loosen 4 (bytes_sized _ 2 (omega arith)) (omega arith) (omega arith)
sized_literal false_literal r = loosen 5 (bytes_sized _ 2 (omega arith)) (omega arith) (omega arith)
sized_literal null_literal r = loosen 4 (bytes_sized _ 2 (omega arith)) (omega arith) (omega arith)

pub sized_singular_segment : (x : G.SingularSegment) (r : List ℕ) → Sized 0 0 (write_singular_segment x) r (spell_singular_segment x r)
unfolding write_singular_segment
sized_singular_segment (name_segment t) r = around 2 (counted_sized 0x03 1 (text_sized 0x05 t (0x5D ∷ r))) (omega arith) (omega arith)
sized_singular_segment (dot_segment n) r = loosen 1 (counted_sized 0x03 1 (pooling_sized 0x05 (name_bytes n))) (omega arith) (omega arith)
sized_singular_segment (index_segment i) r = around 2 (counted_sized 0x03 1 (sized_index i (0x5D ∷ r))) (omega arith) (omega arith)

-- blanks before a spelling
blanks_sized : {a c : ℕ} {f : Writer} {r s : List ℕ} (b : Blanks) → Sized a c f r s → Sized a c f r (spell_blanks b s)
blanks_sized {s} b h = loosen 0 h (simp length-append (omega arith)) (omega arith)

pub sized_singular_segments : (xs : G.SingularSegments) (r : List ℕ) → Sized 0 0 (write_singular_segments xs) r (spell_singular_segments xs r)
unfolding write_singular_segments
sized_singular_segments no_singular r = skip_sized
sized_singular_segments (more_singular b x xs) r = blanks_sized b (seq_sized (sized_singular_segment x (spell_singular_segments xs r)) (sized_singular_segments xs r))

pub sized_singular : (q : G.Singular) (r : List ℕ) → Sized 3 0 (write_singular q) r (spell_singular q r)
unfolding write_singular
sized_singular (rel_singular xs) r = loosen 1 (from_sized 0x02 (sized_singular_segments xs r)) (omega arith) (omega arith)
sized_singular (abs_singular xs) r = loosen 1 (from_sized 0x01 (sized_singular_segments xs r)) (omega arith) (omega arith)

-- ---- the trees that nest

-- the tails are short
pub test_tail_lem : (s : Sort) → length (test_tail s) ≤ 3
unfolding test_tail
test_tail_lem literal_sort = omega arith
test_tail_lem singular_sort = omega arith
test_tail_lem nodes_sort = omega arith
test_tail_lem value_sort = omega arith
test_tail_lem logical_sort = omega arith

not_tail_lem : (s : Sort) → length (not_tail s) ≤ 2
unfolding not_tail
not_tail_lem literal_sort = omega arith
not_tail_lem singular_sort = omega arith
not_tail_lem nodes_sort = omega arith
not_tail_lem value_sort = omega arith
not_tail_lem logical_sort = omega arith

call_bytes_lem : (n : Named) → length (call_bytes n) ≤ 1
unfolding call_bytes
call_bytes_lem count = omega arith
call_bytes_lem Named.length = omega arith
call_bytes_lem value_name = omega arith
call_bytes_lem match = omega arith
call_bytes_lem search = omega arith
call_bytes_lem unknown = omega arith

-- the verdicts of sorts and calls
value_verdict_lem : (s : Sort) → IsVerdict (value_verdict s)
unfolding value_verdict
value_verdict_lem literal_sort = no_verdict
value_verdict_lem singular_sort = no_verdict
value_verdict_lem nodes_sort = five
value_verdict_lem value_sort = no_verdict
value_verdict_lem logical_sort = five

nodes_verdict_lem : (s : Sort) → IsVerdict (nodes_verdict s)
unfolding nodes_verdict
nodes_verdict_lem literal_sort = five
nodes_verdict_lem singular_sort = no_verdict
nodes_verdict_lem nodes_sort = no_verdict
nodes_verdict_lem value_sort = five
nodes_verdict_lem logical_sort = five

compared_verdict_lem : (a : Bool) (s : Sort) → IsVerdict (compared_verdict a s)
unfolding compared_verdict
compared_verdict_lem false s = no_verdict
compared_verdict_lem true literal_sort = no_verdict
compared_verdict_lem true singular_sort = no_verdict
compared_verdict_lem true nodes_sort = no_verdict
compared_verdict_lem true value_sort = five
compared_verdict_lem true logical_sort = no_verdict

one_verdict_lem : (f : Sort → ℕ) → ((s : Sort) → IsVerdict (f s)) → (ss : List Sort) → IsVerdict (one_verdict f ss)
unfolding one_verdict
one_verdict_lem f h [] = five
one_verdict_lem f h (s ∷ []) = h s
one_verdict_lem f h (s ∷ t ∷ ss) = five

two_verdict_lem : (ss : List Sort) → IsVerdict (two_verdict ss)
unfolding two_verdict
two_verdict_lem [] = five
two_verdict_lem (s ∷ []) = five
two_verdict_lem (s ∷ t ∷ []) = first_verdict (value_verdict_lem s) (value_verdict_lem t)
two_verdict_lem (s ∷ t ∷ u ∷ ss) = five

call_verdict_lem : (n : Named) (ss : List Sort) → IsVerdict (call_verdict n ss)
unfolding call_verdict
call_verdict_lem count ss = one_verdict_lem nodes_verdict nodes_verdict_lem ss
call_verdict_lem Named.length ss = one_verdict_lem value_verdict value_verdict_lem ss
call_verdict_lem value_name ss = one_verdict_lem nodes_verdict nodes_verdict_lem ss
call_verdict_lem match ss = two_verdict_lem ss
call_verdict_lem search ss = two_verdict_lem ss
call_verdict_lem unknown ss = six

-- what stands behind an expression that is negated
sized_not : {r : List ℕ} (s : Sort) → Sized 0 2 (write_not s) r r
sized_not s = seq_sized (verdict_sized (compared_verdict_lem true s)) (bytes_sized (not_tail s) 2 (not_tail_lem s))

-- an operator before a spelling pays for its item
operator_sized : {f : Writer} {r s : List ℕ} (b : Blanks) (o : G.Operator) (c : Blanks) → Sized 3 0 f r s → Sized 16 0 f r (spell_blanks b (spell_operator o (spell_blanks c s)))
operator_sized {s} b o c h =
    loosen 1 h (omega (arith, length-append b.bytes (spell_operator o (spell_blanks c s)), operator_spends o (spell_blanks c s), length-append c.bytes s)) (omega arith)

mutual
  unfolding write_segments write_segment write_bracketed write_selectors write_selector write_or_lem write_more_or write_and_lem write_more_and write_basic write_paren write_test write_filter_query write_comparable write_function write_arguments write_more_arguments write_argument

  pub sized_segments : (xs : G.Segments) (r : List ℕ) → Sized 0 0 (write_segments xs) r (spell_segments xs r)
  sized_segments no_segment r = skip_sized
  sized_segments (more_segments b x xs) r = blanks_sized b (seq_sized (sized_segment x (spell_segments xs r)) (sized_segments xs r))

  pub sized_segment : (x : G.Segment) (r : List ℕ) → Sized 0 0 (write_segment x) r (spell_segment x r)
  sized_segment (child_brackets x) r = loosen 0 (counted_sized 0x03 (count_bracketed x) (sized_bracketed x r)) (omega arith) (omega arith)
  sized_segment child_wild r = loosen 2 (counted_sized 0x03 1 (bytes_sized (0x08 ∷ []) 1 (omega arith))) (omega arith) (omega arith)
  sized_segment (child_name n) r = loosen 1 (counted_sized 0x03 1 (pooling_sized 0x05 (name_bytes n))) (omega arith) (omega arith)
  sized_segment (descendant_brackets x) r = loosen 2 (counted_sized 0x04 (count_bracketed x) (sized_bracketed x r)) (omega arith) (omega arith)
  sized_segment descendant_wild r = loosen 3 (counted_sized 0x04 1 (bytes_sized (0x08 ∷ []) 1 (omega arith))) (omega arith) (omega arith)
  sized_segment (descendant_name n) r = loosen 2 (counted_sized 0x04 1 (pooling_sized 0x05 (name_bytes n))) (omega arith) (omega arith)

  -- the count of the segment before it is paid for here
  pub sized_bracketed : (x : G.Bracketed) (r : List ℕ) → Sized 3 0 (write_bracketed x) r (spell_bracketed x r)
  sized_bracketed (bracketed b x xs c) r =
      let z : List ℕ = spell_blanks c (0x5D ∷ r) in
      around 2 (seq_sized (sized_selector x (spell_selectors xs z)) (sized_selectors xs z)) (simp length-append (omega arith)) (omega arith)

  pub sized_selectors : (xs : G.Selectors) (r : List ℕ) → Sized 0 0 (write_selectors xs) r (spell_selectors xs r)
  sized_selectors no_selector r = skip_sized
  sized_selectors (more_selectors b c x xs) r =
      loosen 1 (seq_sized (sized_selector x (spell_selectors xs r)) (sized_selectors xs r)) (simp length-append (omega arith)) (omega arith)

  pub sized_selector : (x : G.Selector) (r : List ℕ) → Sized 0 13 (write_selector x) r (spell_selector x r)
  sized_selector (name_selector t) r = loosen 0 (text_sized 0x05 t r) (omega arith) (omega arith)
  sized_selector wildcard_selector r = loosen 1 (bytes_sized (0x08 ∷ []) 1 (omega arith)) (omega arith) (omega arith)
  sized_selector (slice_selector s) r = sized_slice s r
  sized_selector (index_selector i) r = loosen 0 (sized_index i r) (omega arith) (omega arith)
  sized_selector (filter_selector b e) r =
      loosen 1 (frame_sized 0x09 (seq_sized (sized_or e true r) (bytes_sized (test_tail (sort_or_lem e)) 3 (test_tail_lem (sort_or_lem e))))) (simp length-append (omega arith)) (omega arith)

  pub sized_or : (e : G.LogicalOr) (a : Bool) (r : List ℕ) → Sized 3 0 (write_or_lem e a) r (spell_logical_or e r)
  sized_or (logical_or x xs) a r = seq_sized (sized_and x a (spell_more_or xs r)) (sized_more_or xs (sort_and_lem x) a r)

  pub sized_more_or : (xs : G.MoreOr) (s : Sort) (a : Bool) (r : List ℕ) → Sized 0 0 (write_more_or xs s a) r (spell_more_or xs r)
  sized_more_or no_or s a r = skip_sized
  sized_more_or (more_or b c x xs) s a r =
      loosen 2
      (seq_sized (bytes_sized (test_tail s) 3 (test_tail_lem s))
      (seq_sized (frame_sized 0x17 (seq_sized (sized_and x a (spell_more_or xs r)) (bytes_sized (test_tail (sort_and_lem x)) 3 (test_tail_lem (sort_and_lem x))))) (sized_more_or xs logical_sort a r)))
      (simp length-append (omega arith)) (omega arith)

  pub sized_and : (e : G.LogicalAnd) (a : Bool) (r : List ℕ) → Sized 3 0 (write_and_lem e a) r (spell_logical_and e r)
  sized_and (logical_and x xs) a r =
      seq_sized (sized_basic x (spell_more_and xs r)) (seq_sized (verdict_sized (compared_verdict_lem a (sort_basic x))) (sized_more_and xs (sort_basic x) a r))

  pub sized_more_and : (xs : G.MoreAnd) (s : Sort) (a : Bool) (r : List ℕ) → Sized 0 0 (write_more_and xs s a) r (spell_more_and xs r)
  sized_more_and no_and s a r = skip_sized
  sized_more_and (more_and b c x xs) s a r =
      loosen 2
      (seq_sized (bytes_sized (test_tail s) 3 (test_tail_lem s))
      (seq_sized (frame_sized 0x16 (seq_sized (sized_basic x (spell_more_and xs r)) (bytes_sized (test_tail (sort_basic x)) 3 (test_tail_lem (sort_basic x)))))
      (seq_sized (verdict_sized (compared_verdict_lem a (sort_basic x))) (sized_more_and xs logical_sort a r))))
      (simp length-append (omega arith)) (omega arith)

  pub sized_basic : (e : G.Basic) (r : List ℕ) → Sized 3 0 (write_basic e) r (spell_basic e r)
  sized_basic (paren_basic p) r = sized_paren p r
  sized_basic (not_paren b p) r =
      loosen 1 (seq_sized (sized_paren p r) (sized_not (sort_paren p))) (simp length-append (omega arith)) (omega arith)
  sized_basic (comparison x b o c y) r =
      loosen 0
      (seq_sized (sized_comparable x (spell_blanks b (spell_operator o (spell_blanks c (spell_comparable y r)))))
      (seq_sized (operator_sized b o c (sized_comparable y r))
      (seq_sized (verdict_sized (first_verdict (value_verdict_lem (sort_comparable x)) (value_verdict_lem (sort_comparable y)))) (bytes_sized (0x14 ∷ operator_byte (operator_form o) ∷ []) 2 (omega arith)))))
      (omega arith) (omega arith)
  sized_basic (test_basic t) r = sized_test t r
  sized_basic (not_test b t) r =
      loosen 1 (seq_sized (sized_test t r) (sized_not (sort_test t))) (simp length-append (omega arith)) (omega arith)

  pub sized_paren : (e : G.Paren) (r : List ℕ) → Sized 3 0 (write_paren e) r (spell_paren e r)
  sized_paren (paren b e c) r = around 2 (sized_or e true (spell_blanks c (0x29 ∷ r))) (simp length-append (omega arith)) (omega arith)

  pub sized_test : (t : G.Test) (r : List ℕ) → Sized 3 0 (write_test t) r (spell_test t r)
  sized_test (query_test q) r = sized_filter_query q r
  sized_test (function_test f) r = sized_function f r

  pub sized_filter_query : (q : G.FilterQuery) (r : List ℕ) → Sized 3 0 (write_filter_query q) r (spell_filter_query q r)
  sized_filter_query (rel_query xs) r = loosen 1 (from_sized 0x02 (sized_segments xs r)) (omega arith) (omega arith)
  sized_filter_query (abs_query xs) r = loosen 1 (from_sized 0x01 (sized_segments xs r)) (omega arith) (omega arith)

  pub sized_comparable : (x : G.Comparable) (r : List ℕ) → Sized 3 0 (write_comparable x) r (spell_comparable x r)
  sized_comparable (literal_comparable l) r = sized_literal l r
  sized_comparable (singular_comparable q) r = sized_singular q r
  sized_comparable (function_comparable f) r = sized_function f r

  pub sized_function : (f : G.Function) (r : List ℕ) → Sized 3 0 (write_function f) r (spell_function f r)
  sized_function (function n b xs c) r =
      let z : List ℕ = spell_blanks c (0x29 ∷ r) in
      around 2
      (seq_sized (sized_arguments xs z) (seq_sized (verdict_sized (call_verdict_lem (named (function_bytes n)) (sorts_of xs))) (bytes_sized (call_bytes (named (function_bytes n))) 1 (call_bytes_lem (named (function_bytes n))))))
      (simp length-append (omega arith)) (omega arith)

  pub sized_arguments : (xs : G.Arguments) (r : List ℕ) → Sized 0 0 (write_arguments xs) r (spell_arguments xs r)
  sized_arguments no_argument r = skip_sized
  sized_arguments (arguments x xs) r = loosen 0 (seq_sized (sized_argument x (spell_more_arguments xs r)) (sized_more_arguments xs r)) (omega arith) (omega arith)

  pub sized_more_arguments : (xs : G.MoreArguments) (r : List ℕ) → Sized 0 0 (write_more_arguments xs) r (spell_more_arguments xs r)
  sized_more_arguments no_more r = skip_sized
  sized_more_arguments (more_arguments b c x xs) r =
      loosen 1 (seq_sized (sized_argument x (spell_more_arguments xs r)) (sized_more_arguments xs r)) (simp length-append (omega arith)) (omega arith)

  pub sized_argument : (x : G.Argument) (r : List ℕ) → Sized 3 0 (write_argument x) r (spell_argument x r)
  sized_argument (literal_argument l) r = sized_literal l r
  sized_argument (query_argument q) r = sized_filter_query q r
  sized_argument (logical_argument e) r = sized_or e false r
  sized_argument (function_argument f) r = sized_function f r

-- a whole query, `$` included
pub sized_query : (q : G.Query) → Sized 11 0 (write_query q) [] (spell q)
unfolding write_query
sized_query q = loosen 1 (from_sized 0x01 (sized_segments q.segments [])) (omega arith) (omega arith)

pub query_plan_fits : (q : G.Query) (p : ℕ) → length (write_query q p).plan ≤ 13 * length (spell q)
query_plan_fits q p = omega (arith, (sized_query q).plan p)

pub query_pool_fits : (q : G.Query) (p : ℕ) → length (write_query q p).pool ≤ length (spell q)
query_pool_fits q p = omega (arith, (sized_query q).pool p)
