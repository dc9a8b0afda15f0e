-- The numbers by which the reader's functions tell what they read: sorts, singular queries, arguments.
use Rattle.std.specs.Prelude.{Bool, true, false, cond, List, [], ◌∷◌, ℕ, ◌+◌, ◌*◌, ◌-◌, ◌/◌, ◌%◌, ◌≤◌, eqb, leb}
use Rattle.std.proofs.Common.{arith}
use Rattle.definition.specs.Grammar as G
use Rattle.definition.specs.Walk.{Named, operator_form}
use Rattle.definition.specs.Walk.Named.{count, value_name, match, search, unknown}
use Rattle.compile_writes.specs.Effects.{Marks, Writer, counted}
use Rattle.compile_writes.specs.Sorts.{Sort, singular_segments, tight_segments, singular_segment, tight_segment, singular_brackets, tight_brackets, is_plain_selector, call_verdict}
use Rattle.compile_writes.specs.Sorts.Sort.{literal_sort, singular_sort, nodes_sort, value_sort, logical_sort}
use Rattle.compile_writes.specs.Writes.{write_bracketed, count_bracketed}
use Rattle.definition.specs.Plans.{operator_byte}

abbrev pub no_flag : {T : Type 0} → T → ℕ
no_flag t = 0

-- the byte of a comparison-op
abbrev pub operator_number : G.Operator → ℕ
operator_number o = operator_byte (operator_form o)

abbrev pub sort_number : Sort → ℕ
sort_number literal_sort = 0
sort_number singular_sort = 1
sort_number nodes_sort = 2
sort_number value_sort = 3
sort_number logical_sort = 4

-- a sort's number is one of five
pub sort_small : (σ : Sort) → sort_number σ ≤ 4
sort_small literal_sort = omega arith
sort_small singular_sort = omega arith
sort_small nodes_sort = omega arith
sort_small value_sort = omega arith
sort_small logical_sort = omega arith

-- 2 for what a singular-query spells, 1 for what is singular as a form alone, 0 for neither
abbrev pub path_number : Bool → Bool → ℕ
path_number singular tight = cond tight 2 (cond singular 1 0)

abbrev pub segments_flag : G.Segments → ℕ
segments_flag xs = path_number (singular_segments xs) (tight_segments xs)

abbrev pub segment_flag : G.Segment → ℕ
segment_flag x = path_number (singular_segment x) (tight_segment x)

abbrev pub bracketed_flag : G.Bracketed → ℕ
bracketed_flag x = path_number (singular_brackets x) (tight_brackets x)

abbrev pub plain_flag : G.Selector → ℕ
plain_flag x = cond (is_plain_selector x) 1 0

-- the sorts of a function's arguments, as one number: 0 none, 1 + s one, 6 + 5 s + t two, 31 more
abbrev pub one_more_lem : ℕ → ℕ → ℕ
one_more_lem n s = cond (eqb n 0) (1 + s) (cond (leb n 5) (6 + 5 * (n - 1) + s) 31)

unfoldable pub arguments_from : ℕ → List Sort → ℕ
arguments_from n [] = n
arguments_from n (s ∷ ss) = arguments_from (one_more_lem n (sort_number s)) ss

-- the sort with a number; and the sort that a flag of an operand tells, 5 being a query that a singular-query spells
abbrev pub sort_of : ℕ → Sort
sort_of n =
    cond (eqb n 0) literal_sort
    (cond (eqb n 1) singular_sort
    (cond (eqb n 2) nodes_sort
    (cond (eqb n 3) value_sort
    (cond (eqb n 4) logical_sort singular_sort))))

abbrev pub operand_number : Bool → Sort → ℕ
operand_number tight s = cond tight 5 (sort_number s)

-- a flag or a sort that a function tells
pub record Known (f : ℕ) : Type 0 where
  pub small : f ≤ 5

-- a bracketed selection of a segment of a kind, 3 or 4
abbrev pub write_selection : ℕ → G.Bracketed → Writer
write_selection kind x = counted kind (count_bracketed x) (write_bracketed x)

-- what the call of a function is marked with and ends in, by the function's number and its arguments' number
abbrev pub name_of : ℕ → Named
name_of n =
    cond (eqb n 1) count
    (cond (eqb n 2) Named.length
    (cond (eqb n 3) value_name
    (cond (eqb n 4) match
    (cond (eqb n 5) search unknown))))

abbrev pub sorts_from : ℕ → List Sort
sorts_from n =
    cond (eqb n 0) []
    (cond (leb n 5) (sort_of (n - 1) ∷ [])
    (cond (leb n 30) (sort_of ((n - 6) / 5) ∷ sort_of ((n - 6) % 5) ∷ []) (literal_sort ∷ literal_sort ∷ literal_sort ∷ [])))

abbrev pub call_marks : ℕ → ℕ → Marks
call_marks name sorts = record { verdict = call_verdict (name_of name) (sorts_from sorts); beyond = false }

-- whether an operand with a flag may be compared: a literal, a function, or a query that a singular-query spells
abbrev pub is_comparable : ℕ → Bool
is_comparable f = cond (eqb f 1) false (cond (eqb f 2) false true)

-- from 2 tight, 1 singular, 0 neither to the flag of an operand
abbrev pub flag_of_path : ℕ → ℕ
flag_of_path f = cond (eqb f 2) 5 (cond (eqb f 1) 1 2)

abbrev pub brackets_number : ℕ → ℕ → Bool → Bool → ℕ
brackets_number plain n before after = cond (eqb plain 1) (cond (eqb n 0) (cond before (cond after 2 1) 1) 0) 0
