-- What an answer says of two numbers. Assumes nothing.
use Rattle.std.specs.Prelude.{◌≡◌, ℕ, ◌<◌}
use Rattle.std.specs.declared.cmp.Ordering.{Ordering}
use Rattle.std.specs.declared.cmp.Ordering.TheVariants.{Less, Equal, Greater}

abbrev pub Ordered : Ordering → ℕ → ℕ → Type 0
Ordered Less a b = a < b
Ordered Equal a b = a ≡ b
Ordered Greater a b = b < a
