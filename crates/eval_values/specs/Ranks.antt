-- The order of two values, where there is one. Assumes nothing: these are definitions.
use Rattle.std.specs.Prelude.{◌≡◌, refl, List, Bool as Bits, true, false, Option as Maybe, Some, None}
use Rattle.std.specs.declared.cmp.Ordering.{Ordering as Rank}
use Rattle.std.specs.declared.cmp.Ordering.TheVariants.{Less, Equal, Greater}
use Rattle.text.specs.Orders.{answer}
use Prim.Native.Nat.{ℕ, Ordering}
use Rattle.std.proofs.Math.Option.{Option, none, some}
use Rattle.definition.specs.Bytes.{order_bytes}
use Rattle.definition.specs.Bytes.{part}
use Rattle.definition.specs.Compare.{Value, Fraction, number_of, text_of, order_fractions, whole_fraction, float_fraction}
use Rattle.eval_values.specs.Means.{number_in, text_in}
use Rattle.eval_values.specs.declared.Operand.{Operand}
use Rattle.eval_values.specs.declared.Operand.TheVariants.{Nothing, Null, Bool, Int, Float, Pool, Text, Node}

-- the rank that an order is
abbrev pub ranked : Ordering → Maybe Rank
ranked Ordering.lt = Some Less
ranked Ordering.eq = Some Equal
ranked Ordering.gt = Some Greater

abbrev pub rank_numbers : Option Fraction → Option Fraction → Maybe Rank
rank_numbers none b = None
rank_numbers (some a) none = None
rank_numbers (some a) (some b) = ranked (order_fractions a b)

abbrev pub rank_texts : Option (List ℕ) → Option (List ℕ) → Maybe Rank
rank_texts none t = None
rank_texts (some s) none = None
rank_texts (some s) (some t) = ranked (order_bytes s t)

-- two numbers rank by their value, two texts by their bytes; no other two values rank
unfoldable pub rank : Value → Value → Maybe Rank
rank Value.nothing w = None
rank Value.null w = None
rank (Value.boolean b) w = None
rank (Value.integer z) w = rank_numbers (some (whole_fraction z)) (number_of w)
rank (Value.float x) w = rank_numbers (some (float_fraction x)) (number_of w)
rank (Value.text s) w = rank_texts (some s) (text_of w)
rank (Value.list ks) w = None
rank (Value.map ks) w = None

-- the same of operands, over the text X and the pool L
abbrev pub rank_in : List ℕ → List ℕ → Operand → Operand → Maybe Rank
rank_in X L Nothing y = None
rank_in X L Null y = None
rank_in X L (Bool b) y = None
rank_in X L (Int z) y = rank_numbers (some (whole_fraction z)) (number_in y)
rank_in X L (Float x) y = rank_numbers (some (float_fraction x)) (number_in y)
rank_in X L (Pool a n) y = rank_texts (some (part L a n)) (text_in X L y)
rank_in X L (Text a n) y = rank_texts (some (part X a n)) (text_in X L y)
rank_in X L (Node i) y = None

-- a number or a text
abbrev pub ranked_is : Operand → Bits
ranked_is Nothing = false
ranked_is Null = false
ranked_is (Bool b) = false
ranked_is (Int z) = true
ranked_is (Float x) = true
ranked_is (Pool a n) = true
ranked_is (Text a n) = true
ranked_is (Node i) = false

abbrev pub is_rank_less : Maybe Rank → Bits
is_rank_less None = false
is_rank_less (Some Less) = true
is_rank_less (Some Equal) = false
is_rank_less (Some Greater) = false

abbrev pub is_rank_equal : Maybe Rank → Bits
is_rank_equal None = false
is_rank_equal (Some Less) = false
is_rank_equal (Some Equal) = true
is_rank_equal (Some Greater) = false

-- the rank of two texts, from the answer of the comparison of texts
pub spelled_answer : (o : Ordering) → Some (answer o) ≡ ranked o
spelled_answer Ordering.lt = refl
spelled_answer Ordering.eq = refl
spelled_answer Ordering.gt = refl
