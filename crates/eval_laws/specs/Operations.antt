-- The operations of a filter's code in one table, with what each takes off a stack of values and what it gives; beside it what may be asked of a query; and a form's code as a list of items.
-- Whoever adds an operation or something that is asked of a query begins here. Assumes nothing: these are definitions.
use Rattle.std.specs.Prelude.{ℕ, ◌-◌, ◌≡◌, List, [], ◌∷◌, ◌++◌, Bool, true, false, not, ◌&&◌, ◌||◌, cond, eqb, drop}
use Rattle.regex_definition.specs.Scope.{Scope}
use Rattle.definition.specs.Limits.{max_int}
use Rattle.definition.specs.Values.{Json}
use Rattle.definition.specs.Compare.{Value, compare_values}
use Rattle.definition.specs.Compare.Value.{nothing}
use Rattle.definition.specs.Regexps.{regex_values}
use Rattle.definition.specs.Forms.{Literal, Operator, Query, Test, Argument, Function}
use Rattle.definition.specs.Forms.Literal.{null, boolean, integer, float, text}
use Rattle.definition.specs.Forms.Query.{query}
use Rattle.definition.specs.Forms.Test.{exists, compare, regex, not_value, both, either}
use Rattle.definition.specs.Forms.Argument.{literal, singular, value}
use Rattle.definition.specs.Forms.Function.{count_of, length_of, value_of}
use Rattle.definition.specs.QueryForms.{literal_right, query_right, test_right}
use Rattle.definition.specs.Plans.{start_kind, operator_byte, scope_kind, code_literal, framed, pool_literal, pool_query, pool_test, code_query, code_test}
use Rattle.definition.specs.Evaluation.{is_found, first_value, only_value, literal_value, count_value, length_value, truth, eval_query, eval_test}

-- ---- what is taken and given

-- a value, which goes onto the stack, or the answer of a test
pub data Result : Type 0 where
  a_value : Value → Result
  an_answer : Bool → Result

-- from the answer so far, from the value on top of the stack, or from the two on top, of which the lower one comes first
pub data Does : Type 0 where
  takes_none : (Bool → Result) → Does
  takes_one : (Value → Result) → Does
  takes_two : (Value → Value → Result) → Does

-- ---- the table of operations

pub data Operation : Type 0 where
  length_op : Operation
  truth_op : Operation
  not_op : Operation
  compare_op : Operator → Operation
  regex_op : Scope → Operation

-- the kind, what stands behind it in the plan, and what is taken and given
pub record Line : Type 0 where
  pub kind : ℕ
  pub body : List ℕ
  pub does : Does

abbrev line : ℕ → List ℕ → Does → Line
line k b d = record { kind = k; body = b; does = d }

unfoldable pub table : Operation → Line
table length_op = line 0x1A [] (takes_one (λ y. a_value (length_value y)))
table truth_op = line 0x18 [] (takes_one (λ y. an_answer (truth y)))
table not_op = line 0x15 [] (takes_none (λ a. an_answer (not a)))
table (compare_op o) = line 0x14 (operator_byte o ∷ []) (takes_two (λ x y. an_answer (compare_values o x y)))
table (regex_op s) = line (scope_kind s) [] (takes_two (λ x y. an_answer (regex_values s x y)))

-- what an operation of a kind is
abbrev pub OfKind : ℕ → Operation → Type 0
OfKind k o = cond (eqb k 0x14) ((c : Operator) × (o ≡ compare_op c)) (cond (eqb k 0x15) (o ≡ not_op) (cond (eqb k 0x18) (o ≡ truth_op) (cond (eqb k 0x1A) (o ≡ length_op) ((s : Scope) × (o ≡ regex_op s)))))

-- ---- what is asked of a query

-- whether it finds a node, how many, its value, or the value of its first node
pub data Ask : Type 0 where
  for_test : Ask
  for_count : Ask
  for_value : Ask
  for_first : Ask

-- the bytes behind the query, the cap of its evaluation, which counts one node more than that, and what its nodes give
pub record Asked : Type 0 where
  pub bytes : List ℕ
  pub cap : ℕ
  pub gives : List Json → Result

abbrev ask : List ℕ → ℕ → (List Json → Result) → Asked
ask b c g = record { bytes = b; cap = c; gives = g }

abbrev pub asked : Ask → Asked
asked for_test = ask (0x18 ∷ []) 0 (λ ns. an_answer (is_found ns))
asked for_count = ask (0x19 ∷ []) (max_int - 1) (λ ns. a_value (count_value ns))
asked for_value = ask (0x1B ∷ []) 1 (λ ns. a_value (only_value ns))
asked for_first = ask [] 0 (λ ns. a_value (first_value ns))

-- what the byte behind a query asks: one that asks nothing stands behind a singular query
abbrev pub ask_of : ℕ → Ask
ask_of b = cond (eqb b 0x18) for_test (cond (eqb b 0x19) for_count (cond (eqb b 0x1B) for_value for_first))

-- ---- a filter's code

-- its items: a query with what is asked of it, a literal, a right operand (of `&&` where true, of `||` where false), and an operation
pub data Op : Type 0 where
  query_op : Ask → Query → Op
  literal_op : Literal → Op
  right_op : Bool → Test → Op
  plain_op : Operation → Op

-- the items of a form, and then those behind it
unfoldable mutual
  pub argument_ops : Argument → List Op → List Op
  argument_ops (literal l) K = literal_op l ∷ K
  argument_ops (singular q) K = query_op for_first q ∷ K
  argument_ops (value f) K = function_ops f K

  pub function_ops : Function → List Op → List Op
  function_ops (count_of q) K = query_op for_count q ∷ K
  function_ops (length_of a) K = argument_ops a (plain_op length_op ∷ K)
  function_ops (value_of q) K = query_op for_value q ∷ K

unfoldable pub test_ops : Test → List Op → List Op
test_ops (exists q) K = query_op for_test q ∷ K
test_ops (compare o a b) K = argument_ops a (argument_ops b (plain_op (compare_op o) ∷ K))
test_ops (regex s a b) K = argument_ops a (argument_ops b (plain_op (regex_op s) ∷ K))
test_ops (Test.not t) K = test_ops t (plain_op not_op ∷ K)
test_ops (not_value f) K = function_ops f (plain_op truth_op ∷ plain_op not_op ∷ K)
test_ops (both a b) K = test_ops a (right_op true b ∷ K)
test_ops (either a b) K = test_ops a (right_op false b ∷ K)

-- ---- an item's bytes

unfoldable pub right_kind : Bool → ℕ
right_kind true = 0x16
right_kind false = 0x17

unfoldable pub pool_op : Op → List ℕ
pool_op (query_op m q) = pool_query q
pool_op (literal_op l) = pool_literal l
pool_op (right_op w b) = pool_test b
pool_op (plain_op o) = []

unfoldable pub code_op : Op → ℕ → List ℕ
code_op (query_op m q) k = code_query q k ++ (asked m).bytes
code_op (literal_op l) k = code_literal l k
code_op (right_op w b) k = framed (right_kind w) (code_test b k)
code_op (plain_op o) k = (table o).kind ∷ (table o).body

-- the first byte
unfoldable pub literal_kind : Literal → ℕ
literal_kind null = 0x13
literal_kind (boolean b) = 0x13
literal_kind (integer z) = 0x10
literal_kind (float b) = 0x11
literal_kind (text s) = 0x12

unfoldable pub kind : Op → ℕ
kind (query_op m (query s q)) = start_kind s
kind (literal_op l) = literal_kind l
kind (right_op w b) = right_kind w
kind (plain_op o) = (table o).kind

-- within the limits of a form
unfoldable pub op_right : Op → Bool
op_right (query_op m q) = query_right q
op_right (literal_op l) = literal_right l
op_right (right_op w b) = test_right b
op_right (plain_op o) = true

-- ---- what an item does

unfoldable pub joined : Bool → Bool → Bool → Bool
joined true a b = a && b
joined false a b = a || b

unfoldable pub does : Op → Json → Json → Does
does (query_op m q) R N = takes_none (λ a. (asked m).gives (eval_query q R N))
does (literal_op l) R N = takes_none (λ a. a_value (literal_value l))
does (right_op w b) R N = takes_none (λ a. an_answer (joined w a (eval_test b R N)))
does (plain_op o) R N = (table o).does

-- the answer so far, and the stack
pub record Held : Type 0 where
  pub acc : Bool
  pub stack : List Value

abbrev pub held : Bool → List Value → Held
held a st = record { acc = a; stack = st }

-- how many values are taken, and what is given for an answer and two values, y on top
unfoldable pub takes : Does → ℕ
takes (takes_none f) = 0
takes (takes_one f) = 1
takes (takes_two f) = 2

unfoldable pub result : Does → Bool → Value → Value → Result
result (takes_none f) a x y = f a
result (takes_one f) a x y = f y
result (takes_two f) a x y = f x y

-- the value on top of a stack, and the one under it
unfoldable pub top : List Value → Value
top [] = nothing
top (v ∷ st) = v

unfoldable pub under : List Value → Value
under [] = nothing
under (v ∷ st) = top st

unfoldable pub put : Result → Bool → List Value → Held
put (a_value v) a st = held a (v ∷ st)
put (an_answer b) a st = held b st

unfoldable pub result_by : Does → Held → Result
result_by d s = result d s.acc (under s.stack) (top s.stack)

-- what is held after an operation
unfoldable pub effect : Does → Held → Held
effect d s = put (result_by d s) s.acc (drop (takes d) s.stack)
