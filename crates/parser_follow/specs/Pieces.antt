-- Parts of the nesting rules that a function of the reader reads by itself: how each is spelled, what is written for it, and the number that is told of it.
use Rattle.std.specs.Prelude.{true, false, cond, List, [], ◌∷◌, ℕ, eqb}
use Rattle.definition.specs.Lexical.{Blanks, spell_blanks}
use Rattle.definition.specs.Grammar as G
use Rattle.definition.specs.Grammar.{spell_logical_or, spell_more_or, spell_more_and, spell_paren, spell_test, spell_operator, spell_comparable, spell_literal, spell_filter_query, spell_function, spell_arguments}
use Rattle.definition.specs.Grammar.FilterQuery.{rel_query, abs_query}
use Rattle.definition.specs.Walk.{operator_form}
use Rattle.definition.specs.Plans.{operator_byte}
use Rattle.compile_writes.specs.Effects.{Writer, first, skip, bytes, seq, frame, mark, verdict}
use Rattle.compile_writes.specs.Sorts.{singular_segments, tight_segments, query_sort, named_sort, sort_or_lem, sort_more_or, sort_more_and, sort_paren, sort_test, sort_comparable, sort_function, sorts_of, value_verdict, call_verdict}
use Rattle.compile_writes.specs.Writes.{write_or_lem, write_more_or, write_more_and, write_paren, write_test, write_comparable, write_literal, write_filter_query, write_function, write_arguments, test_tail, write_not, call_bytes}
use Rattle.parser_follow.specs.Numbers.{sort_of, sort_number, name_of, is_comparable}

-- S logical-expr, behind the "?" of a filter-selector
pub record Filter : Type 0 where
  pub blanks : Blanks
  pub test : G.LogicalOr

abbrev pub spell_filter : Filter → List ℕ → List ℕ
spell_filter x r = spell_blanks x.blanks (spell_logical_or x.test r)

abbrev pub write_filter : Filter → Writer
write_filter x = frame 0x09 (seq (write_or_lem x.test true) (bytes (test_tail (sort_or_lem x.test))))

-- S ( paren / filter-query / function-expr ), behind a "!"
pub data Negation : Type 0 where
  paren_negation : Blanks → G.Paren → Negation
  test_negation : Blanks → G.Test → Negation

abbrev pub spell_negation : Negation → List ℕ → List ℕ
spell_negation (paren_negation b p) r = spell_blanks b (spell_paren p r)
spell_negation (test_negation b t) r = spell_blanks b (spell_test t r)

abbrev pub write_negation : Negation → Writer
write_negation (paren_negation b p) = seq (write_paren p) (write_not (sort_paren p))
write_negation (test_negation b t) = seq (write_test t) (write_not (sort_test t))

-- literal / filter-query / function-expr
pub data Operand : Type 0 where
  literal_operand : G.Literal → Operand
  query_operand : G.FilterQuery → Operand
  function_operand : G.Function → Operand

abbrev pub spell_operand : Operand → List ℕ → List ℕ
spell_operand (literal_operand l) r = spell_literal l r
spell_operand (query_operand q) r = spell_filter_query q r
spell_operand (function_operand f) r = spell_function f r

abbrev pub write_operand : Operand → Writer
write_operand (literal_operand l) = write_literal l
write_operand (query_operand q) = write_filter_query q
write_operand (function_operand f) = write_function f

-- 5 for a query that a singular-query spells, otherwise the number of the sort
abbrev pub query_flag : G.Segments → ℕ
query_flag xs = cond (tight_segments xs) 5 (sort_number (query_sort (singular_segments xs)))

abbrev pub filter_query_flag : G.FilterQuery → ℕ
filter_query_flag (rel_query xs) = query_flag xs
filter_query_flag (abs_query xs) = query_flag xs

abbrev pub operand_flag : Operand → ℕ
operand_flag (literal_operand l) = 0
operand_flag (query_operand q) = filter_query_flag q
operand_flag (function_operand f) = sort_number (sort_function f)

-- S comparable, behind a comparison operator
pub record Side : Type 0 where
  pub blanks : Blanks
  pub side : G.Comparable

abbrev pub spell_side : Side → List ℕ → List ℕ
spell_side x r = spell_blanks x.blanks (spell_comparable x.side r)

-- the whole comparison behind its left side, which has the sort number l; o is the operator's byte
abbrev pub write_side : ℕ → ℕ → Side → Writer
write_side l o x =
    seq (write_comparable x.side)
    (seq (verdict (first (value_verdict (sort_of l)) (value_verdict (sort_comparable x.side)))) (bytes (0x14 ∷ o ∷ [])))

-- [ S comparison-op S comparable ], behind an operand: an operand alone is a test, which a literal is not; a query that is compared is a singular-query
pub data Behind : Type 0 where
  alone : Behind
  compared : Blanks → G.Operator → Side → Behind

abbrev pub spell_behind : Behind → List ℕ → List ℕ
spell_behind alone r = r
spell_behind (compared b o x) r = spell_blanks b (spell_operator o (spell_side x r))

abbrev pub write_behind : ℕ → Behind → Writer
write_behind f alone = skip
write_behind f (compared b o x) = write_side (sort_number (sort_of f)) (operator_byte (operator_form o)) x

abbrev pub behind_sort : ℕ → Behind → ℕ
behind_sort f alone = sort_number (sort_of f)
behind_sort f (compared b o x) = 4

-- what may stand behind an operand with the flag f
abbrev pub Allowed : ℕ → Behind → Type 0
Allowed f alone = cond (eqb f 0) ⊥ (Unit {0})
Allowed f (compared b o x) = cond (is_comparable f) (Unit {0}) ⊥

-- S [ arguments ] S ")", behind a function's name and "("
pub record Call : Type 0 where
  pub before : Blanks
  pub arguments : G.Arguments
  pub after : Blanks

abbrev pub spell_call : Call → List ℕ → List ℕ
spell_call x r = spell_blanks x.before (spell_arguments x.arguments (spell_blanks x.after (0x29 ∷ r)))

abbrev pub write_call : ℕ → Call → Writer
write_call n x =
    seq (write_arguments x.arguments)
    (seq (mark (record { verdict = call_verdict (name_of n) (sorts_of x.arguments); beyond = false })) (bytes (call_bytes (name_of n))))

abbrev pub call_sort : ℕ → Call → ℕ
call_sort n x = sort_number (named_sort (name_of n))

-- what may stand behind an operand with the flag f, as one type
pub record BehindOf (f : ℕ) : Type 0 where
  pub tree : Behind
  pub allowed : Allowed f tree

abbrev pub spell_behind_of : (f : ℕ) → BehindOf f → List ℕ → List ℕ
spell_behind_of f x r = spell_behind x.tree r

abbrev pub write_behind_of : (f : ℕ) → BehindOf f → Writer
write_behind_of f x = write_behind f x.tree

abbrev pub behind_of_sort : (f : ℕ) → BehindOf f → ℕ
behind_of_sort f x = behind_sort f x.tree

-- what is left of a logical-expr behind its first operand, straight in an argument
pub record ChainedOf (f : ℕ) : Type 0 where
  pub head : BehindOf f
  pub ands : G.MoreAnd
  pub ors : G.MoreOr

abbrev pub spell_chained_of : (f : ℕ) → ChainedOf f → List ℕ → List ℕ
spell_chained_of f x r = spell_behind_of f x.head (spell_more_and x.ands (spell_more_or x.ors r))

abbrev pub write_chained_of : (f : ℕ) → ChainedOf f → Writer
write_chained_of f x =
    seq (write_behind_of f x.head)
    (seq (write_more_and x.ands (sort_of (behind_of_sort f x.head)) false) (write_more_or x.ors (sort_more_and x.ands (sort_of (behind_of_sort f x.head))) false))

abbrev pub chained_of_sort : (f : ℕ) → ChainedOf f → ℕ
chained_of_sort f x = sort_number (sort_more_or x.ors (sort_more_and x.ands (sort_of (behind_of_sort f x.head))))
