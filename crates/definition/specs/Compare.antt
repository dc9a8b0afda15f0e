-- The values of a filter, their equality and order. Numbers compare as whole numbers, by multiplying fractions out; no arithmetic on floats takes place.
use Prim.Native.Nat.{ℕ, ◌*◌, compare, Ordering}
use Rattle.std.specs.Prelude.{List, Bool, true, false, not, ◌&&◌, ◌||◌, eqb, ℤ, pos, negsuc, neg_ℤ, ◌*ℤ◌, Float}
use Rattle.std.specs.Bool.{beq}
use Rattle.std.proofs.Math.Option.{Option, none, some}
use Rattle.std.proofs.Math.Dec.{compare_is_eq}
use Rattle.std.specs.Float.{nan, inf, fin}
use Rattle.std.specs.Float.Ieee.{up, down}
use Rattle.definition.specs.Bytes.{same_bytes, order_bytes}
use Rattle.definition.specs.Values.{Json, Kids, many, lookup}
use Rattle.definition.specs.Values.Kids.{nil, more}
use Rattle.definition.specs.Forms.{Operator}
use Rattle.definition.specs.Forms.Operator.{eq, ne, lt, le, gt, ge}

-- "A value is null, a boolean, an integer, a float, a text or a node's value", which may also be a list or a map; an empty query has none.
pub data Value : Type 0 where
  nothing : Value
  null : Value
  boolean : Bool → Value
  integer : ℤ → Value
  float : Float → Value
  text : List ℕ → Value
  list : Kids → Value
  map : Kids → Value

unfoldable pub node_value : Json → Value
node_value (Json.null i) = null
node_value (Json.boolean i b) = boolean b
node_value (Json.integer i z) = integer z
node_value (Json.float i x) = float x
node_value (Json.text i s) = text s
node_value (Json.list i ks) = list ks
node_value (Json.map i ks) = map ks

-- ---- numbers: "Numbers compare by exact mathematical value, integer against float too"

-- the number num / den
pub record Fraction : Type 0 where
  pub num : ℤ
  pub den : ℕ

abbrev pub signed : Bool → ℕ → ℤ
signed false n = pos n
signed true n = neg_ℤ (pos n)

-- A finite float is m times two to e, negative where s is true. NaN and the infinities, which no accepted table and no query form holds, are given 0.
abbrev pub float_fraction : Float → Fraction
float_fraction nan = record { num = pos 0; den = 1 }
float_fraction (inf s) = record { num = pos 0; den = 1 }
float_fraction (fin s m e) = record { num = signed s (m * up e); den = down e }

abbrev pub whole_fraction : ℤ → Fraction
whole_fraction z = record { num = z; den = 1 }

-- the order of two whole numbers
abbrev pub order_z : ℤ → ℤ → Ordering
order_z (pos a) (pos b) = compare a b
order_z (pos a) (negsuc b) = Ordering.gt
order_z (negsuc a) (pos b) = Ordering.lt
order_z (negsuc a) (negsuc b) = compare b a

abbrev pub order_fractions : Fraction → Fraction → Ordering
order_fractions a b = order_z (a.num *ℤ pos b.den) (b.num *ℤ pos a.den)

unfoldable pub number_of : Value → Option Fraction
number_of nothing = none
number_of null = none
number_of (boolean b) = none
number_of (integer z) = some (whole_fraction z)
number_of (float x) = some (float_fraction x)
number_of (text s) = none
number_of (list ks) = none
number_of (map ks) = none

-- ---- equality

unfoldable pub same_number : Fraction → Value → Bool
same_number a v = elim (number_of v) [ none ↦ false | some b ↦ compare_is_eq (order_fractions a b) ]

unfoldable pub is_null : Value → Bool
is_null nothing = false
is_null null = true
is_null (boolean b) = false
is_null (integer z) = false
is_null (float x) = false
is_null (text s) = false
is_null (list ks) = false
is_null (map ks) = false

unfoldable pub boolean_of : Value → Option Bool
boolean_of nothing = none
boolean_of null = none
boolean_of (boolean b) = some b
boolean_of (integer z) = none
boolean_of (float x) = none
boolean_of (text s) = none
boolean_of (list ks) = none
boolean_of (map ks) = none

unfoldable pub text_of : Value → Option (List ℕ)
text_of nothing = none
text_of null = none
text_of (boolean b) = none
text_of (integer z) = none
text_of (float x) = none
text_of (text s) = some s
text_of (list ks) = none
text_of (map ks) = none

unfoldable pub list_of : Value → Option Kids
list_of nothing = none
list_of null = none
list_of (boolean b) = none
list_of (integer z) = none
list_of (float x) = none
list_of (text s) = none
list_of (list ks) = some ks
list_of (map ks) = none

unfoldable pub map_of : Value → Option Kids
map_of nothing = none
map_of null = none
map_of (boolean b) = none
map_of (integer z) = none
map_of (float x) = none
map_of (text s) = none
map_of (list ks) = none
map_of (map ks) = some ks

unfoldable pub same_boolean : Bool → Value → Bool
same_boolean b v = elim (boolean_of v) [ none ↦ false | some c ↦ beq b c ]

-- "Texts compare by bytes."
unfoldable pub same_text : List ℕ → Value → Bool
same_text s v = elim (text_of v) [ none ↦ false | some t ↦ same_bytes s t ]

-- "Lists are equal element by element, maps key by key in any order, down to any depth. Other kinds are unequal to each other."
unfoldable mutual
  pub same_node : Json → Value → Bool
  same_node (Json.null i) v = is_null v
  same_node (Json.boolean i b) v = same_boolean b v
  same_node (Json.integer i z) v = same_number (whole_fraction z) v
  same_node (Json.float i x) v = same_number (float_fraction x) v
  same_node (Json.text i s) v = same_text s v
  same_node (Json.list i ks) v = elim (list_of v) [ none ↦ false | some ls ↦ same_elements ks ls ]
  same_node (Json.map i ks) v = elim (map_of v) [ none ↦ false | some ls ↦ eqb (many ks) (many ls) && same_members ks ls ]

  pub same_elements : Kids → Kids → Bool
  same_elements nil nil = true
  same_elements nil (more h m ls) = false
  same_elements (more k j ks) nil = false
  same_elements (more k j ks) (more h m ls) = same_node j (node_value m) && same_elements ks ls

  -- every member of the first map has an equal one of the same name in the second; with equal counts and no name twice, the maps are equal
  pub same_members : Kids → Kids → Bool
  same_members nil ls = true
  same_members (more k j ks) ls = elim (lookup k ls) [ none ↦ false | some m ↦ same_node j (node_value m) ] && same_members ks ls

unfoldable pub same : Value → Value → Bool
same nothing v = false
same null v = is_null v
same (boolean b) v = same_boolean b v
same (integer z) v = same_number (whole_fraction z) v
same (float x) v = same_number (float_fraction x) v
same (text s) v = same_text s v
same (list ks) v = elim (list_of v) [ none ↦ false | some ls ↦ same_elements ks ls ]
same (map ks) v = elim (map_of v) [ none ↦ false | some ls ↦ eqb (many ks) (many ls) && same_members ks ls ]

-- ---- order: "Order exists between two numbers or two texts"

unfoldable pub is_less : Ordering → Bool
is_less Ordering.lt = true
is_less Ordering.eq = false
is_less Ordering.gt = false

unfoldable pub numbers_less : Option Fraction → Option Fraction → Bool
numbers_less none b = false
numbers_less (some a) none = false
numbers_less (some a) (some b) = is_less (order_fractions a b)

unfoldable pub texts_less : Option (List ℕ) → Option (List ℕ) → Bool
texts_less none t = false
texts_less (some s) none = false
texts_less (some s) (some t) = is_less (order_bytes s t)

unfoldable pub less : Value → Value → Bool
less v w = numbers_less (number_of v) (number_of w) || texts_less (text_of v) (text_of w)

-- "`<=` and `>=` also hold between equal values of any kind but booleans"
unfoldable pub is_boolean : Value → Bool
is_boolean v = elim (boolean_of v) [ none ↦ false | some b ↦ true ]

unfoldable pub less_or_same : Value → Value → Bool
less_or_same v w = less v w || (same v w && not (is_boolean v))

-- whether there is a value: "A comparison with an empty query is false"
unfoldable pub is_some : Value → Bool
is_some nothing = false
is_some null = true
is_some (boolean b) = true
is_some (integer z) = true
is_some (float x) = true
is_some (text s) = true
is_some (list ks) = true
is_some (map ks) = true

unfoldable pub compare_values : Operator → Value → Value → Bool
compare_values eq v w = same v w
compare_values ne v w = is_some v && (is_some w && not (same v w))
compare_values lt v w = less v w
compare_values le v w = less_or_same v w
compare_values gt v w = less w v
compare_values ge v w = less_or_same w v
