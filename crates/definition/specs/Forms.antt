-- The forms of queries: trees without parentheses, blanks or spellings, over which evaluation is defined.
use Rattle.std.specs.Prelude.{ℕ, suc, List, Bool, true, false, ◌&&◌, ℤ}
use Rattle.std.proofs.Math.Option.{Option}
use Rattle.regex_definition.specs.Scope.{Scope}

-- a literal; a float is given by its bits
pub data Literal : Type 0 where
  null : Literal
  boolean : Bool → Literal
  integer : ℤ → Literal
  float : ℕ → Literal
  text : List ℕ → Literal

-- `==`, `!=`, `<`, `<=`, `>`, `>=`
pub data Operator : Type 0 where
  eq : Operator
  ne : Operator
  lt : Operator
  le : Operator
  gt : Operator
  ge : Operator

-- where a query begins: `$` or `@`
pub data Start : Type 0 where
  root : Start
  current : Start

mutual
  pub data Query : Type 0 where
    query : Start → Segments → Query

  pub data Segments : Type 0 where
    end : Segments
    child : Selectors → Segments → Segments
    descendant : Selectors → Segments → Segments

  -- a segment has one selector or more
  pub data Selectors : Type 0 where
    one : Selector → Selectors
    and : Selector → Selectors → Selectors

  pub data Selector : Type 0 where
    name : List ℕ → Selector
    index : ℤ → Selector
    slice : Option ℤ → Option ℤ → Option ℤ → Selector
    wildcard : Selector
    filter : Test → Selector

  -- A test: some node is found; two values compare; match or search of a text and an expression; `!` before a test; `!` before a value function; `&&`; `||`.
  -- No query has the fifth: the walk refuses it. A stored plan may hold it and "still runs with its old meaning" (document 02, W12).
  pub data Test : Type 0 where
    exists : Query → Test
    compare : Operator → Argument → Argument → Test
    regex : Scope → Argument → Argument → Test
    not : Test → Test
    not_value : Function → Test
    both : Test → Test → Test
    either : Test → Test → Test

  -- what is compared, and what a value parameter takes
  pub data Argument : Type 0 where
    literal : Literal → Argument
    singular : Query → Argument
    value : Function → Argument

  -- "Value parameters take literals, singular queries and value functions; nodes parameters take queries."
  pub data Function : Type 0 where
    count_of : Query → Function
    length_of : Argument → Function
    value_of : Query → Function

-- how many selectors a segment has
unfoldable pub many_selectors : Selectors → ℕ
many_selectors (one s) = 1
many_selectors (and s ss) = suc (many_selectors ss)

-- ---- singular queries: every segment is a child segment with one selector, a name or an index

unfoldable pub is_singular_selector : Selector → Bool
is_singular_selector (name s) = true
is_singular_selector (index z) = true
is_singular_selector (slice a b c) = false
is_singular_selector wildcard = false
is_singular_selector (filter t) = false

unfoldable pub is_singular_selectors : Selectors → Bool
is_singular_selectors (one s) = is_singular_selector s
is_singular_selectors (and s ss) = false

unfoldable pub is_singular_segments : Segments → Bool
is_singular_segments end = true
is_singular_segments (child ss q) = is_singular_selectors ss && is_singular_segments q
is_singular_segments (descendant ss q) = false

unfoldable pub is_singular : Query → Bool
is_singular (query s q) = is_singular_segments q
