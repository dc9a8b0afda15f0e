-- What an operand stands for. T is the table, X the text, L the pool. Assumes nothing: these are definitions.
use Rattle.std.specs.Prelude.{ℕ, ◌+◌, ◌-◌, ◌*◌, ◌≤◌, ◌<◌, ◌≡◌, List, T, length, Bool as Bits, true, false, not, eqb, nat_abs, Option as Maybe, Some, None}
use Rattle.std.specs.Float.Ieee.Scale.{finite}
use Rattle.definition.specs.Bytes.{part}
use Rattle.definition.specs.Utf8.{is_utf8, scalars_of}
use Rattle.std.specs.Bool.{beq}
use Rattle.std.proofs.Math.Option.{Option, none, some}
use Rattle.definition.specs.Compare.{Value, Fraction, node_value, whole_fraction, float_fraction}
use Rattle.definition.specs.Tables.{node_count, node_at, kind_at, kind_list, child_count, depth_at}
use Rattle.eval_values.specs.declared.Operand.{Operand}
use Rattle.eval_values.specs.declared.Operand.TheVariants.{Nothing, Null, Bool, Int, Float, Pool, Text, Node}

abbrev pub meaning : List ℕ → List ℕ → List ℕ → Operand → Value
meaning S X L Nothing = Value.nothing
meaning S X L Null = Value.null
meaning S X L (Bool b) = Value.boolean b
meaning S X L (Int z) = Value.integer z
meaning S X L (Float x) = Value.float x
meaning S X L (Pool a n) = Value.text (part L a n)
meaning S X L (Text a n) = Value.text (part X a n)
meaning S X L (Node i) = node_value (node_at S X i)

-- an operand of the table, text and pool: a float is finite, a text lies inside and is UTF-8, a node is one of the table and a list or a map
abbrev pub Fine : List ℕ → List ℕ → List ℕ → Operand → Type 0
Fine S X L Nothing = Unit {0}
Fine S X L Null = Unit {0}
Fine S X L (Bool b) = Unit {0}
Fine S X L (Int z) = Unit {0}
Fine S X L (Float x) = T (finite x)
Fine S X L (Pool a n) = (a + n ≤ length L) × (is_utf8 (part L a n) ≡ true)
Fine S X L (Text a n) = (a + n ≤ length X) × (is_utf8 (part X a n) ≡ true)
Fine S X L (Node i) = (i < node_count S) × (kind_list ≤ kind_at S i)

-- a node operand is node i
abbrev pub IsNode : ℕ → Operand → Type 0
IsNode i Nothing = Unit {0}
IsNode i Null = Unit {0}
IsNode i (Bool b) = Unit {0}
IsNode i (Int z) = Unit {0}
IsNode i (Float x) = Unit {0}
IsNode i (Pool a n) = Unit {0}
IsNode i (Text a n) = Unit {0}
IsNode i (Node m) = m ≡ i

-- how far equality may go down from an operand: four steps for each level that is left
abbrev pub height : List ℕ → Operand → ℕ
height S Nothing = 0
height S Null = 0
height S (Bool b) = 0
height S (Int z) = 0
height S (Float x) = 0
height S (Pool a n) = 0
height S (Text a n) = 0
height S (Node i) = 4 * (64 - depth_at S i) + 3

-- r is the operand that node i is, whatever the pool
pub record OfNode (S X : List ℕ) (i : ℕ) (r : Operand) : Type 0 where
  pub means : (L : List ℕ) → meaning S X L r ≡ node_value (node_at S X i)
  pub fine : (L : List ℕ) → Fine S X L r
  pub itself : IsNode i r

-- two operands
pub record Pair (S X L : List ℕ) (x y : Operand) : Type 0 where
  pub first : Fine S X L x
  pub second : Fine S X L y

-- ---- parts of that which need no table, or no text

-- a float is finite
abbrev pub Finite : Operand → Type 0
Finite Nothing = Unit {0}
Finite Null = Unit {0}
Finite (Bool b) = Unit {0}
Finite (Int z) = Unit {0}
Finite (Float x) = T (finite x)
Finite (Pool a n) = Unit {0}
Finite (Text a n) = Unit {0}
Finite (Node i) = Unit {0}

-- a text lies inside
abbrev pub Parts : List ℕ → List ℕ → Operand → Type 0
Parts X L Nothing = Unit {0}
Parts X L Null = Unit {0}
Parts X L (Bool b) = Unit {0}
Parts X L (Int z) = Unit {0}
Parts X L (Float x) = Unit {0}
Parts X L (Pool a n) = a + n ≤ length L
Parts X L (Text a n) = a + n ≤ length X
Parts X L (Node i) = Unit {0}

-- two operands that can be ranked
pub record Ranked (X L : List ℕ) (x y : Operand) : Type 0 where
  pub finite_x : Finite x
  pub finite_y : Finite y
  pub parts_x : Parts X L x
  pub parts_y : Parts X L y

-- a float is finite, and a node is one of the table
abbrev pub Inside : List ℕ → Operand → Type 0
Inside S Nothing = Unit {0}
Inside S Null = Unit {0}
Inside S (Bool b) = Unit {0}
Inside S (Int z) = Unit {0}
Inside S (Float x) = T (finite x)
Inside S (Pool a n) = Unit {0}
Inside S (Text a n) = Unit {0}
Inside S (Node i) = i < node_count S

-- ---- what an operand says without the table

abbrev pub number_in : Operand → Option Fraction
number_in Nothing = none
number_in Null = none
number_in (Bool b) = none
number_in (Int z) = some (whole_fraction z)
number_in (Float x) = some (float_fraction x)
number_in (Pool a n) = none
number_in (Text a n) = none
number_in (Node i) = none

abbrev pub text_in : List ℕ → List ℕ → Operand → Option (List ℕ)
text_in X L Nothing = none
text_in X L Null = none
text_in X L (Bool b) = none
text_in X L (Int z) = none
text_in X L (Float x) = none
text_in X L (Pool a n) = some (part L a n)
text_in X L (Text a n) = some (part X a n)
text_in X L (Node i) = none

abbrev pub some_of : Operand → Bits
some_of Nothing = false
some_of Null = true
some_of (Bool b) = true
some_of (Int z) = true
some_of (Float x) = true
some_of (Pool a n) = true
some_of (Text a n) = true
some_of (Node i) = true

abbrev pub boolean_is : Operand → Bits
boolean_is Nothing = false
boolean_is Null = false
boolean_is (Bool b) = true
boolean_is (Int z) = false
boolean_is (Float x) = false
boolean_is (Pool a n) = false
boolean_is (Text a n) = false
boolean_is (Node i) = false

abbrev pub null_is : Operand → Bits
null_is Nothing = false
null_is Null = true
null_is (Bool b) = false
null_is (Int z) = false
null_is (Float x) = false
null_is (Pool a n) = false
null_is (Text a n) = false
null_is (Node i) = false

abbrev pub is_that : Bits → Operand → Bits
is_that b Nothing = false
is_that b Null = false
is_that b (Bool d) = beq b d
is_that b (Int z) = false
is_that b (Float x) = false
is_that b (Pool a n) = false
is_that b (Text a n) = false
is_that b (Node i) = false

abbrev pub node_in_lem : Operand → Maybe ℕ
node_in_lem Nothing = None
node_in_lem Null = None
node_in_lem (Bool d) = None
node_in_lem (Int z) = None
node_in_lem (Float x) = None
node_in_lem (Pool a n) = None
node_in_lem (Text a n) = None
node_in_lem (Node i) = Some i

abbrev pub truth_in : List ℕ → Operand → Bits
truth_in S Nothing = false
truth_in S Null = false
truth_in S (Bool b) = b
truth_in S (Int z) = not (eqb (nat_abs z) 0)
truth_in S (Float x) = not (eqb (nat_abs (float_fraction x).num) 0)
truth_in S (Pool a n) = not (eqb n 0)
truth_in S (Text a n) = not (eqb n 0)
truth_in S (Node i) = not (eqb (child_count S i) 0)

abbrev pub length_in : List ℕ → List ℕ → List ℕ → Operand → ℕ
length_in S X L Nothing = 0
length_in S X L Null = 0
length_in S X L (Bool b) = 0
length_in S X L (Int z) = 0
length_in S X L (Float x) = 0
length_in S X L (Pool a n) = length (scalars_of (part L a n))
length_in S X L (Text a n) = length (scalars_of (part X a n))
length_in S X L (Node i) = child_count S i
