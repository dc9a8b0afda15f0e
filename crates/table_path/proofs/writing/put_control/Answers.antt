-- Two bytes three times.
use Prim.Native.Nat.{ℕ}
use mathlib.Core.Path.{ap₂}
use mathlib.Core.List.{[], ◌∷◌}
use Rattle.table_path.proofs.Puts.{put_before, put_as}
use borrow.Author.Rules.{rules}
use Rattle.table_path.proofs.writing.put_control.Goals as goal

pub returns : goal.returns
returns c = put_as (ap₂ (λ (x y : ℕ). 0x5C ∷ 0x75 ∷ 0x30 ∷ 0x30 ∷ x ∷ y ∷ []) c.hex_digit-high.ensures c.hex_digit-low.ensures) (put_before (put_before c.put_two-digits.ensures c.put_two-zeros.ensures) c.put_two.ensures)
