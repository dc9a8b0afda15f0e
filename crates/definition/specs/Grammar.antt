-- The grammar of RFC 9535: a tree for each rule that nests, and the bytes that spell it, followed by the bytes r.
-- A text is in the grammar if and only if some `Query` spells it. The trees keep blanks, quotes, escapes, number spellings and parentheses, so nothing of a text is lost.
use Rattle.std.specs.Prelude.{ℕ, List, [], ◌∷◌}
use Rattle.definition.specs.Lexical.{Blanks, Name, FunctionName, Int, Number, Text, Slice, spell_blanks, spell_name, spell_function_name, spell_int, spell_number, spell_text, spell_slice}

-- ---- what does not nest

-- name-segment = "[" name-selector "]" / "." member-name-shorthand; index-segment = "[" index-selector "]"
pub data SingularSegment : Type 0 where
  name_segment : Text → SingularSegment
  dot_segment : Name → SingularSegment
  index_segment : Int → SingularSegment

-- *( S ( name-segment / index-segment ) )
pub data SingularSegments : Type 0 where
  no_singular : SingularSegments
  more_singular : Blanks → SingularSegment → SingularSegments → SingularSegments

-- singular-query = ( "@" / "$" ) *( S ( name-segment / index-segment ) )
pub data Singular : Type 0 where
  rel_singular : SingularSegments → Singular
  abs_singular : SingularSegments → Singular

-- literal = number / string-literal / true / false / null
pub data Literal : Type 0 where
  number_literal : Number → Literal
  text_literal : Text → Literal
  true_literal : Literal
  false_literal : Literal
  null_literal : Literal

-- comparison-op = "==" / "!=" / "<=" / ">=" / "<" / ">"
pub data Operator : Type 0 where
  eq_operator : Operator
  ne_operator : Operator
  lt_operator : Operator
  le_operator : Operator
  gt_operator : Operator
  ge_operator : Operator

-- ---- what nests

mutual
  -- segments = *( S segment )
  pub data Segments : Type 0 where
    no_segment : Segments
    more_segments : Blanks → Segment → Segments → Segments

  -- child-segment = bracketed-selection / "." ( wildcard-selector / member-name-shorthand )
  -- descendant-segment = ".." ( bracketed-selection / wildcard-selector / member-name-shorthand )
  pub data Segment : Type 0 where
    child_brackets : Bracketed → Segment
    child_wild : Segment
    child_name : Name → Segment
    descendant_brackets : Bracketed → Segment
    descendant_wild : Segment
    descendant_name : Name → Segment

  -- bracketed-selection = "[" S selector *( S "," S selector ) S "]"
  pub data Bracketed : Type 0 where
    bracketed : Blanks → Selector → Selectors → Blanks → Bracketed

  -- *( S "," S selector )
  pub data Selectors : Type 0 where
    no_selector : Selectors
    more_selectors : Blanks → Blanks → Selector → Selectors → Selectors

  -- selector = name-selector / wildcard-selector / slice-selector / index-selector / filter-selector; filter-selector = "?" S logical-expr
  pub data Selector : Type 0 where
    name_selector : Text → Selector
    wildcard_selector : Selector
    slice_selector : Slice → Selector
    index_selector : Int → Selector
    filter_selector : Blanks → LogicalOr → Selector

  -- logical-or-expr = logical-and-expr *( S "||" S logical-and-expr )
  pub data LogicalOr : Type 0 where
    logical_or : LogicalAnd → MoreOr → LogicalOr

  pub data MoreOr : Type 0 where
    no_or : MoreOr
    more_or : Blanks → Blanks → LogicalAnd → MoreOr → MoreOr

  -- logical-and-expr = basic-expr *( S "&&" S basic-expr )
  pub data LogicalAnd : Type 0 where
    logical_and : Basic → MoreAnd → LogicalAnd

  pub data MoreAnd : Type 0 where
    no_and : MoreAnd
    more_and : Blanks → Blanks → Basic → MoreAnd → MoreAnd

  -- basic-expr = paren-expr / comparison-expr / test-expr, the first and the last with [ "!" S ] before them
  pub data Basic : Type 0 where
    paren_basic : Paren → Basic
    not_paren : Blanks → Paren → Basic
    comparison : Comparable → Blanks → Operator → Blanks → Comparable → Basic
    test_basic : Test → Basic
    not_test : Blanks → Test → Basic

  -- "(" S logical-expr S ")"
  pub data Paren : Type 0 where
    paren : Blanks → LogicalOr → Blanks → Paren

  -- filter-query / function-expr
  pub data Test : Type 0 where
    query_test : FilterQuery → Test
    function_test : Function → Test

  -- filter-query = rel-query / jsonpath-query; rel-query = "@" segments
  pub data FilterQuery : Type 0 where
    rel_query : Segments → FilterQuery
    abs_query : Segments → FilterQuery

  -- comparable = literal / singular-query / function-expr
  pub data Comparable : Type 0 where
    literal_comparable : Literal → Comparable
    singular_comparable : Singular → Comparable
    function_comparable : Function → Comparable

  -- function-expr = function-name "(" S [ function-argument *( S "," S function-argument ) ] S ")"
  pub data Function : Type 0 where
    function : FunctionName → Blanks → Arguments → Blanks → Function

  pub data Arguments : Type 0 where
    no_argument : Arguments
    arguments : Argument → MoreArguments → Arguments

  pub data MoreArguments : Type 0 where
    no_more : MoreArguments
    more_arguments : Blanks → Blanks → Argument → MoreArguments → MoreArguments

  -- function-argument = literal / filter-query / logical-expr / function-expr
  -- A filter-query and a function-expr are logical expressions too: the crate `definition_laws` (Small) proves that meaning does not depend on which is taken.
  pub data Argument : Type 0 where
    literal_argument : Literal → Argument
    query_argument : FilterQuery → Argument
    logical_argument : LogicalOr → Argument
    function_argument : Function → Argument

-- jsonpath-query = "$" segments
pub record Query : Type 0 where
  pub segments : Segments

-- ---- spelling

abbrev pub spell_singular_segment : SingularSegment → List ℕ → List ℕ
spell_singular_segment (name_segment t) r = 0x5B ∷ spell_text t (0x5D ∷ r)
spell_singular_segment (dot_segment n) r = 0x2E ∷ spell_name n r
spell_singular_segment (index_segment i) r = 0x5B ∷ spell_int i (0x5D ∷ r)

abbrev pub spell_singular_segments : SingularSegments → List ℕ → List ℕ
spell_singular_segments no_singular r = r
spell_singular_segments (more_singular b x xs) r = spell_blanks b (spell_singular_segment x (spell_singular_segments xs r))

abbrev pub spell_singular : Singular → List ℕ → List ℕ
spell_singular (rel_singular xs) r = 0x40 ∷ spell_singular_segments xs r
spell_singular (abs_singular xs) r = 0x24 ∷ spell_singular_segments xs r

abbrev pub spell_literal : Literal → List ℕ → List ℕ
spell_literal (number_literal n) r = spell_number n r
spell_literal (text_literal t) r = spell_text t r
spell_literal true_literal r = 0x74 ∷ 0x72 ∷ 0x75 ∷ 0x65 ∷ r
spell_literal false_literal r = 0x66 ∷ 0x61 ∷ 0x6C ∷ 0x73 ∷ 0x65 ∷ r
spell_literal null_literal r = 0x6E ∷ 0x75 ∷ 0x6C ∷ 0x6C ∷ r

abbrev pub spell_operator : Operator → List ℕ → List ℕ
spell_operator eq_operator r = 0x3D ∷ 0x3D ∷ r
spell_operator ne_operator r = 0x21 ∷ 0x3D ∷ r
spell_operator lt_operator r = 0x3C ∷ r
spell_operator le_operator r = 0x3C ∷ 0x3D ∷ r
spell_operator gt_operator r = 0x3E ∷ r
spell_operator ge_operator r = 0x3E ∷ 0x3D ∷ r

abbrev mutual
  pub spell_segments : Segments → List ℕ → List ℕ
  spell_segments no_segment r = r
  spell_segments (more_segments b x xs) r = spell_blanks b (spell_segment x (spell_segments xs r))

  pub spell_segment : Segment → List ℕ → List ℕ
  spell_segment (child_brackets x) r = spell_bracketed x r
  spell_segment child_wild r = 0x2E ∷ 0x2A ∷ r
  spell_segment (child_name n) r = 0x2E ∷ spell_name n r
  spell_segment (descendant_brackets x) r = 0x2E ∷ 0x2E ∷ spell_bracketed x r
  spell_segment descendant_wild r = 0x2E ∷ 0x2E ∷ 0x2A ∷ r
  spell_segment (descendant_name n) r = 0x2E ∷ 0x2E ∷ spell_name n r

  pub spell_bracketed : Bracketed → List ℕ → List ℕ
  spell_bracketed (bracketed b x xs c) r = 0x5B ∷ spell_blanks b (spell_selector x (spell_selectors xs (spell_blanks c (0x5D ∷ r))))

  pub spell_selectors : Selectors → List ℕ → List ℕ
  spell_selectors no_selector r = r
  spell_selectors (more_selectors b c x xs) r = spell_blanks b (0x2C ∷ spell_blanks c (spell_selector x (spell_selectors xs r)))

  pub spell_selector : Selector → List ℕ → List ℕ
  spell_selector (name_selector t) r = spell_text t r
  spell_selector wildcard_selector r = 0x2A ∷ r
  spell_selector (slice_selector s) r = spell_slice s r
  spell_selector (index_selector i) r = spell_int i r
  spell_selector (filter_selector b e) r = 0x3F ∷ spell_blanks b (spell_logical_or e r)

  pub spell_logical_or : LogicalOr → List ℕ → List ℕ
  spell_logical_or (logical_or x xs) r = spell_logical_and x (spell_more_or xs r)

  pub spell_more_or : MoreOr → List ℕ → List ℕ
  spell_more_or no_or r = r
  spell_more_or (more_or b c x xs) r = spell_blanks b (0x7C ∷ 0x7C ∷ spell_blanks c (spell_logical_and x (spell_more_or xs r)))

  pub spell_logical_and : LogicalAnd → List ℕ → List ℕ
  spell_logical_and (logical_and x xs) r = spell_basic x (spell_more_and xs r)

  pub spell_more_and : MoreAnd → List ℕ → List ℕ
  spell_more_and no_and r = r
  spell_more_and (more_and b c x xs) r = spell_blanks b (0x26 ∷ 0x26 ∷ spell_blanks c (spell_basic x (spell_more_and xs r)))

  pub spell_basic : Basic → List ℕ → List ℕ
  spell_basic (paren_basic p) r = spell_paren p r
  spell_basic (not_paren b p) r = 0x21 ∷ spell_blanks b (spell_paren p r)
  spell_basic (comparison x b o c y) r = spell_comparable x (spell_blanks b (spell_operator o (spell_blanks c (spell_comparable y r))))
  spell_basic (test_basic t) r = spell_test t r
  spell_basic (not_test b t) r = 0x21 ∷ spell_blanks b (spell_test t r)

  pub spell_paren : Paren → List ℕ → List ℕ
  spell_paren (paren b e c) r = 0x28 ∷ spell_blanks b (spell_logical_or e (spell_blanks c (0x29 ∷ r)))

  pub spell_test : Test → List ℕ → List ℕ
  spell_test (query_test q) r = spell_filter_query q r
  spell_test (function_test f) r = spell_function f r

  pub spell_filter_query : FilterQuery → List ℕ → List ℕ
  spell_filter_query (rel_query xs) r = 0x40 ∷ spell_segments xs r
  spell_filter_query (abs_query xs) r = 0x24 ∷ spell_segments xs r

  pub spell_comparable : Comparable → List ℕ → List ℕ
  spell_comparable (literal_comparable l) r = spell_literal l r
  spell_comparable (singular_comparable q) r = spell_singular q r
  spell_comparable (function_comparable f) r = spell_function f r

  pub spell_function : Function → List ℕ → List ℕ
  spell_function (function n b xs c) r = spell_function_name n (0x28 ∷ spell_blanks b (spell_arguments xs (spell_blanks c (0x29 ∷ r))))

  pub spell_arguments : Arguments → List ℕ → List ℕ
  spell_arguments no_argument r = r
  spell_arguments (arguments x xs) r = spell_argument x (spell_more_arguments xs r)

  pub spell_more_arguments : MoreArguments → List ℕ → List ℕ
  spell_more_arguments no_more r = r
  spell_more_arguments (more_arguments b c x xs) r = spell_blanks b (0x2C ∷ spell_blanks c (spell_argument x (spell_more_arguments xs r)))

  pub spell_argument : Argument → List ℕ → List ℕ
  spell_argument (literal_argument l) r = spell_literal l r
  spell_argument (query_argument q) r = spell_filter_query q r
  spell_argument (logical_argument e) r = spell_logical_or e r
  spell_argument (function_argument f) r = spell_function f r

-- the bytes of a query
abbrev pub spell : Query → List ℕ
spell q = 0x24 ∷ spell_segments q.segments []
