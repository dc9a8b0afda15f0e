-- The answers of a comparison of texts, as the definition has them, and how far two texts may be passed.
use Prim.Native.Nat.{ℕ, ◌≤◌, Ordering}
use Rattle.std.specs.Prelude.{◌≡◌, List, length, drop}
use Rattle.definition.specs.Bytes.{order_bytes}
use Rattle.std.specs.declared.cmp.Ordering.{Ordering as Order}
use Rattle.std.specs.declared.cmp.Ordering.TheVariants.{Less, Equal, Greater}

-- the code's answer for an order
abbrev pub answer : Ordering → Order
answer Ordering.lt = Less
answer Ordering.eq = Equal
answer Ordering.gt = Greater

-- behind their first r bytes two texts stand as they do as a whole
pub record Front (a b : List ℕ) (r : ℕ) : Type 0 where
  pub first : r ≤ length a
  pub second : r ≤ length b
  pub rest : order_bytes a b ≡ order_bytes (drop r a) (drop r b)
