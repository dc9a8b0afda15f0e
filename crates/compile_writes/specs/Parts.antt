-- The writer agrees with the walk in the parts that do not nest: whole numbers, slices, literals, singular queries.
use Rattle.std.specs.Prelude.{ℕ, ◌+◌, ◌≡◌, refl, List, [], ◌∷◌, ◌++◌, Bool, true, false, cond, ℤ, pos, length}
use Rattle.std.proofs.Common.{add-zero, arith, ap, ◌∙◌, append_assoc}
use Rattle.std.proofs.Math.Path.{fun_ext}
use Rattle.std.proofs.Math.Option.{Option, none, some}
use Rattle.definition.specs.Lexical.{Int, Bound, Step, Slice, name_bytes}
use Rattle.definition.specs.Lexical.Bound.{no_bound, bound}
use Rattle.definition.specs.Lexical.Step.{no_step, colon, step}
use Rattle.definition.specs.Literals.{text_bytes, int_value, in_range, Numeral, numeral}
use Rattle.definition.specs.Grammar as G
use Rattle.definition.specs.Grammar.SingularSegment.{name_segment, dot_segment, index_segment}
use Rattle.definition.specs.Grammar.SingularSegments.{no_singular, more_singular}
use Rattle.definition.specs.Grammar.Singular.{rel_singular, abs_singular}
use Rattle.definition.specs.Grammar.Literal.{number_literal, text_literal, true_literal, false_literal, null_literal}
use Rattle.definition.specs.Forms as F
use Rattle.definition.specs.Forms.{is_singular, is_singular_segments, is_singular_selectors, is_singular_selector, many_selectors}
use Rattle.definition.specs.Forms.Literal.{null, boolean, integer, float, text}
use Rattle.definition.specs.Forms.Start.{root, current}
use Rattle.definition.specs.Forms.Query.{query}
use Rattle.definition.specs.Forms.Segments.{end, child}
use Rattle.definition.specs.Forms.Selectors.{one}
use Rattle.definition.specs.Forms.Selector.{name, index, slice}
use Rattle.definition.specs.Plans.{eight, two, given, eight_of, code_slice, start_kind, pool_literal, pool_query, pool_segments, pool_selectors, pool_selector, code_literal, code_query, code_selectors, code_selector}
use Rattle.definition.specs.Walk.{Walked, fine, next, also, walk_int, walk_bound, walk_step, walk_slice, walk_numeral, walk_literal, walk_singular_segment, walk_singular_segments, walk_singular}
use Rattle.definition.specs.Walk.Walked.{refused}
use Rattle.compile_writes.specs.Effects.{Writer, first, join_marks, join, skip, bytes, pooling, mark, verdict, seq, counted}
use Rattle.compile_writes.specs.Writes.{kept_int, verdict_int, write_index, bound_bit, bound_bytes, bound_verdict, step_bit, step_bytes, step_verdict, write_slice, write_numeral, write_literal, write_singular_segment, write_singular_segments, write_from, write_singular}
use Rattle.compile_writes.specs.Laws.{translated, seq_no_verdict}
use Rattle.compile_writes.specs.Agreement.{Agrees, fits, then, mapped, counts, before, behind}
use Rattle.compile_writes.specs.Agreement.Agrees.{refuses, writes}
use Rattle.compile_writes.specs.Codes.{body_segments, body_ends}

-- ---- whole numbers and slices

-- an index, by whether it is in range
index_agrees_by : (b : Bool) (z : ℤ)
    → Agrees code_selector pool_selector (λ s. is_singular_selector s ≡ true) (seq (bytes (0x06 ∷ eight (cond b z (pos 0)))) (verdict (cond b 0 4))) (next (cond b (fine z) (refused 4)) (λ x. fine (index x)))
unfolding next also code_selector pool_selector is_singular_selector seq join join_marks bytes mark translated
index_agrees_by true z = writes (seq_no_verdict (bytes (0x06 ∷ eight z))) refl
index_agrees_by false z = refuses {n = 4} (omega arith) (λ p. refl)

pub index_agrees : (i : Int) → Agrees code_selector pool_selector (λ s. is_singular_selector s ≡ true) (write_index i) (next (walk_int i) (λ x. fine (index x)))
unfolding write_index kept_int verdict_int walk_int
index_agrees i = index_agrees_by (in_range (int_value i)) (int_value i)

-- a bound or a step: its verdict v, its bytes s and its bit
data Bounded (v : ℕ) (s : List ℕ) (n bit : ℕ) : Walked (Option ℤ) → Type 0 where
  outside : v ≡ 4 → Bounded v s n bit (refused 4)
  inside : (o : Option ℤ) → v ≡ 0 → s ≡ eight_of o → bit ≡ given o n → Bounded v s n bit (fine o)

-- a whole number is in range or not
int_bounded_by : (n : ℕ) (b : Bool) (z : ℤ) → Bounded (cond b 0 4) (eight (cond b z (pos 0))) n n (next (cond b (fine z) (refused 4)) (λ x. fine (some x)))
unfolding next also eight_of given
int_bounded_by n true z = inside (some z) refl refl refl
int_bounded_by n false z = outside refl

int_bounded : (n : ℕ) (i : Int) → Bounded (verdict_int i) (eight (kept_int i)) n n (next (walk_int i) (λ x. fine (some x)))
unfolding kept_int verdict_int walk_int
int_bounded n i = int_bounded_by n (in_range (int_value i)) (int_value i)

-- and so is a bound or a step, if there is one
bound_bounded : (n : ℕ) (b : Bound) → Bounded (bound_verdict b) (bound_bytes b) n (bound_bit b n) (walk_bound b)
unfolding bound_verdict bound_bytes bound_bit walk_bound eight_of given
bound_bounded n no_bound = inside none refl refl refl
bound_bounded n (bound i b) = int_bounded n i

step_bounded : (s : Step) → Bounded (step_verdict s) (step_bytes s) 4 (step_bit s) (walk_step s)
unfolding step_verdict step_bytes step_bit walk_step eight_of given
step_bounded no_step = inside none refl refl refl
step_bounded colon = inside none refl refl refl
step_bounded (step b i) = int_bounded 4 i

-- of three the first that is out of range is refused
slice_agrees_by : {v w u : ℕ} {s t r : List ℕ} {i j k : ℕ} {l m n : Walked (Option ℤ)} → Bounded v s 1 i l → Bounded w t 2 j m → Bounded u r 4 k n
    → Agrees code_selector pool_selector (λ x. is_singular_selector x ≡ false)
    (seq (bytes (0x07 ∷ (i + j + k) ∷ (s ++ (t ++ r)))) (verdict (first v (first w u))))
    (next l (λ a. next m (λ b. next n (λ c. fine (slice a b c)))))
unfolding next also code_selector code_slice pool_selector is_singular_selector seq join join_marks bytes mark translated
slice_agrees_by (outside h) y z = refuses {n = 4} (omega arith) (λ p. rw h)
slice_agrees_by (inside a hv hs hi) (outside h) z = refuses {n = 4} (omega arith) (λ p. rw (hv, h))
slice_agrees_by (inside a hv hs hi) (inside b hw ht hj) (outside h) = refuses {n = 4} (omega arith) (λ p. rw (hv, hw, h))
slice_agrees_by (inside a hv hs hi) (inside b hw ht hj) (inside c hu hr hk) = fits (slice a b c) (rw (hv, hw, hu, hs, ht, hr, hi, hj, hk) (seq_no_verdict (bytes (code_slice a b c)))) refl

pub slice_agrees : (s : Slice) → Agrees code_selector pool_selector (λ x. is_singular_selector x ≡ false) (write_slice s) (walk_slice s)
unfolding write_slice walk_slice
slice_agrees s = slice_agrees_by (bound_bounded 1 s.start) (bound_bounded 2 s.stop) (step_bounded s.by)

-- ---- literals

-- a float beyond the exact range is written as null and reported
numeral_agrees : (n : Numeral) → Agrees code_literal pool_literal (λ l. Unit {0}) (write_numeral n) (walk_numeral n)
unfolding write_numeral walk_numeral code_literal pool_literal seq join join_marks bytes mark translated
numeral_agrees (Numeral.integer z) = fits (integer z) refl tt
numeral_agrees (Numeral.float b) = fits (float b) refl tt
numeral_agrees Numeral.beyond = writes {x = null} refl tt

pub literal_agrees : (l : G.Literal) → Agrees code_literal pool_literal (λ x. Unit {0}) (write_literal l) (walk_literal l)
unfolding write_literal walk_literal code_literal pool_literal bytes pooling translated
literal_agrees (number_literal n) = numeral_agrees (numeral n)
literal_agrees (text_literal t) = fits (text (text_bytes t)) refl tt
literal_agrees true_literal = fits (boolean true) refl tt
literal_agrees false_literal = fits (boolean false) refl tt
literal_agrees null_literal = fits null refl tt

-- ---- singular queries

-- a segment of a singular query has one selector, a name or an index
singular_segment_agrees : (x : G.SingularSegment)
    → Agrees (λ s p. 0x03 ∷ (two 1 ++ code_selector s p)) pool_selector (λ s. is_singular_selector s ≡ true) (write_singular_segment x) (walk_singular_segment x)
unfolding write_singular_segment walk_singular_segment code_selector pool_selector is_singular_selector counted pooling translated
singular_segment_agrees (name_segment t) = fits (name (text_bytes t)) refl refl
singular_segment_agrees (dot_segment n) = fits (name (name_bytes n)) refl refl
singular_segment_agrees (index_segment i) = counts 0x03 1 (index_agrees i)

-- a child segment of one selector before segments
one_body : (s : F.Selector) (q : F.Segments) (p : ℕ)
    → (0x03 ∷ (two 1 ++ code_selector s p)) ++ body_segments q (p + length (pool_selector s)) ≡ body_segments (child (one s) q) p
unfolding body_segments code_selectors pool_selectors many_selectors
one_body s q p = ap (λ (l : List ℕ). 0x03 ∷ l) (append_assoc (two 1) (code_selector s p) _)

pub singular_segments_agree : (xs : G.SingularSegments) → Agrees body_segments pool_segments (λ q. is_singular_segments q ≡ true) (write_singular_segments xs) (walk_singular_segments xs)
unfolding write_singular_segments walk_singular_segments body_segments pool_segments pool_selectors is_singular_segments is_singular_selectors skip translated
singular_segments_agree no_singular = fits end refl refl
singular_segments_agree (more_singular b x xs) =
    then _ _ (singular_segment_agrees x) (λ s hs.
    mapped (child (one s)) (before _ _ (singular_segments_agree xs)) (λ q hq. fun_ext (one_body s q)) (λ q hq. refl) (λ q hq. rw (hs, hq)))

-- a query's code is its start, the body of its segments and the end
query_code : (s : F.Start) (q : F.Segments) (p : ℕ) → start_kind s ∷ (body_segments q (p + 0) ++ 0x0A ∷ []) ≡ code_query (query s q) p
unfolding code_query
query_code s q p = ap (λ (l : List ℕ). start_kind s ∷ l) (ap (λ (n : ℕ). body_segments q n ++ 0x0A ∷ []) (add-zero p) ∙ body_ends q p)

-- a query from its start, its segments and its end
pub from_agrees : {f : Writer} {m : Walked F.Segments} {P : F.Segments → Type 0} (s : F.Start) (Q : F.Query → Type 0)
    → Agrees body_segments pool_segments P f m → ((q : F.Segments) → P q → Q (query s q)) → Agrees code_query pool_query Q (write_from (start_kind s) f) (next m (λ q. fine (query s q)))
unfolding write_from bytes translated pool_query
from_agrees s Q h k = mapped (query s) (before (λ p. start_kind s ∷ []) [] (behind (0x0A ∷ []) h)) (λ q hq. fun_ext (query_code s q)) (λ q hq. refl) k

pub singular_agrees : (q : G.Singular) → Agrees code_query pool_query (λ x. is_singular x ≡ true) (write_singular q) (walk_singular q)
unfolding write_singular walk_singular is_singular start_kind
singular_agrees (rel_singular xs) = from_agrees current _ (singular_segments_agree xs) (λ q hq. hq)
singular_agrees (abs_singular xs) = from_agrees root _ (singular_segments_agree xs) (λ q hq. hq)
