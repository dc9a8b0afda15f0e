-- What a query form selects from a tree of values: RFC 9535's evaluation with document 01's "Evaluation", "Kept from the Rust" and "Standard taken", and document 02's W3 and W4.
use Rattle.std.specs.Prelude.{ℕ, min, List, [], ◌∷◌, ◌++◌, map, Bool, true, false, cond, not, ◌&&◌, ◌||◌, eqb, pos, nat_abs, length, take, drop}
use Rattle.std.proofs.Math.Option.{Option, none, some}
use Rattle.std.specs.Float.{binary64}
use Rattle.std.specs.Float.Ieee.{of_bits}
use Rattle.definition.specs.Limits.{max_int}
use Rattle.definition.specs.Utf8.{scalars_of}
use Rattle.definition.specs.Regexps.{regex_values}
use Rattle.definition.specs.Slices.{index_places, slice_places}
use Rattle.definition.specs.Values.{Json, id_of, many, lookup, children, elements, members, descend}
use Rattle.definition.specs.Compare.{Value, node_value, float_fraction, compare_values}
use Rattle.definition.specs.Compare.Value.{nothing}
use Rattle.definition.specs.Forms.{Literal, Query, Segments, Selectors, Selector, Test, Argument, Function}
use Rattle.definition.specs.Forms.Start.{root, current}
use Rattle.definition.specs.Forms.Query.{query}
use Rattle.definition.specs.Forms.Segments.{end, child, descendant}
use Rattle.definition.specs.Forms.Selectors.{one, and}
use Rattle.definition.specs.Forms.Selector.{name, index, slice, wildcard, filter}
use Rattle.definition.specs.Forms.Test.{exists, compare, regex, not_value, both, either}
use Rattle.definition.specs.Forms.Argument.{literal, singular, value}
use Rattle.definition.specs.Forms.Function.{count_of, length_of, value_of}

-- ---- lists of nodes

-- the lists that f gives for each node in turn, end to end
unfoldable pub flat : (Json → List Json) → List Json → List Json
flat f [] = []
flat f (n ∷ ns) = f n ++ flat f ns

-- the nodes that pass a test, in their order
unfoldable pub keep : (Json → Bool) → List Json → List Json
keep p [] = []
keep p (n ∷ ns) = cond (p n) (n ∷ keep p ns) (keep p ns)

-- the nodes at the given places, in the order of the places
unfoldable pub pick : List ℕ → List Json → List Json
pick [] ns = []
pick (k ∷ ks) ns = take 1 (drop k ns) ++ pick ks ns

unfoldable pub found : Option Json → List Json
found none = []
found (some n) = n ∷ []

unfoldable pub is_found : List Json → Bool
is_found [] = false
is_found (n ∷ ns) = true

-- ---- values

-- the value of a singular query: that of its node, if it has one
unfoldable pub first_value : List Json → Value
first_value [] = nothing
first_value (n ∷ ns) = node_value n

-- "value of a list that is not of one node is null"
unfoldable pub only_value : List Json → Value
only_value [] = Value.null
only_value (n ∷ []) = node_value n
only_value (n ∷ m ∷ ns) = Value.null

unfoldable pub literal_value : Literal → Value
literal_value Literal.null = Value.null
literal_value (Literal.boolean b) = Value.boolean b
literal_value (Literal.integer z) = Value.integer z
literal_value (Literal.float b) = Value.float (of_bits binary64 b)
literal_value (Literal.text s) = Value.text s

-- "count stops at 2^53-1"
unfoldable pub count_value : List Json → Value
count_value ns = Value.integer (pos (min (length ns) max_int))

-- W3, and RFC 9535, 2.4.4: "Text is measured in Unicode scalar values, as the RFC has it"; a list or a map gives the number of its children. Without a node it is 0, "as for a value that is no text, list or map".
unfoldable pub length_of_value : Value → ℕ
length_of_value nothing = 0
length_of_value Value.null = 0
length_of_value (Value.boolean b) = 0
length_of_value (Value.integer z) = 0
length_of_value (Value.float x) = 0
length_of_value (Value.text s) = length (scalars_of s)
length_of_value (Value.list ks) = many ks
length_of_value (Value.map ks) = many ks

unfoldable pub length_value : Value → Value
length_value v = Value.integer (pos (length_of_value v))

-- What `!` before a value function asks, which only stored plans hold: "null, empty text, 0, an empty list or map are false; a boolean is itself".
unfoldable pub truth : Value → Bool
truth nothing = false
truth Value.null = false
truth (Value.boolean b) = b
truth (Value.integer z) = not (eqb (nat_abs z) 0)
truth (Value.float x) = not (eqb (nat_abs (float_fraction x).num) 0)
truth (Value.text s) = not (eqb (length s) 0)
truth (Value.list ks) = not (eqb (many ks) 0)
truth (Value.map ks) = not (eqb (many ks) 0)

-- ---- evaluation: r is what `$` means, n the node at hand

unfoldable mutual
  -- Inside a query that begins at `@`, "`$` in a nested filter means the node where that query began".
  pub eval_query : Query → Json → Json → List Json
  eval_query (query root q) r n = eval_segments q r (r ∷ [])
  eval_query (query current q) r n = eval_segments q n (n ∷ [])

  -- "A segment's list is, for each node of the list before, each selector's nodes in written order."
  pub eval_segments : Segments → Json → List Json → List Json
  eval_segments end r ns = ns
  eval_segments (child ss q) r ns = eval_segments q r (flat (λ n. eval_selectors ss r n) ns)
  eval_segments (descendant ss q) r ns = eval_segments q r (flat (λ n. flat (λ m. eval_selectors ss r m) (descend n)) ns)

  pub eval_selectors : Selectors → Json → Json → List Json
  eval_selectors (one s) r n = eval_selector s r n
  eval_selectors (and s ss) r n = eval_selector s r n ++ eval_selectors ss r n

  -- RFC 9535, 2.3: a name at a map, an index and a slice at a list, a wildcard and a filter at both
  pub eval_selector : Selector → Json → Json → List Json
  eval_selector (name k) r n = found (lookup k (members n))
  eval_selector (index z) r n = pick (index_places (length (elements n)) z) (elements n)
  eval_selector (slice a b c) r n = pick (slice_places (length (elements n)) a b c) (elements n)
  eval_selector wildcard r n = children n
  eval_selector (filter t) r n = keep (λ m. eval_test t r m) (children n)

  pub eval_test : Test → Json → Json → Bool
  eval_test (exists q) r n = is_found (eval_query q r n)
  eval_test (compare o a b) r n = compare_values o (eval_argument a r n) (eval_argument b r n)
  eval_test (regex s a b) r n = regex_values s (eval_argument a r n) (eval_argument b r n)
  eval_test (Test.not t) r n = not (eval_test t r n)
  eval_test (not_value f) r n = not (truth (eval_function f r n))
  eval_test (both a b) r n = eval_test a r n && eval_test b r n
  eval_test (either a b) r n = eval_test a r n || eval_test b r n

  pub eval_argument : Argument → Json → Json → Value
  eval_argument (literal l) r n = literal_value l
  eval_argument (singular q) r n = first_value (eval_query q r n)
  eval_argument (value f) r n = eval_function f r n

  -- W3: "A query argument now reads its node"
  pub eval_function : Function → Json → Json → Value
  eval_function (count_of q) r n = count_value (eval_query q r n)
  eval_function (length_of a) r n = length_value (eval_argument a r n)
  eval_function (value_of q) r n = only_value (eval_query q r n)

-- the node numbers that a query selects from a tree
unfoldable pub selected : Query → Json → List ℕ
selected q j = map id_of (eval_query q j j)
