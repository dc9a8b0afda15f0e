-- `text::encoding::continuing8` meets its contract.
use native.Mathlib.Omega.{arith}
use mathlib.Core.Path.{refl}
use lib.Bits.{and_le_l}
use Rattle.text.proofs.Continuing.{marked_at}
use Rattle.text.proofs.encoding.continuing8.Goals as goal

pub overflow_sub-result : goal.overflow_sub-result
overflow_sub-result c = and_le_l _ _

pub returns : goal.returns
returns c = marked_at _ _ _ (omega arith) (λ i. (c.type_inv.s i).fits) c.word64-w.ensures _ _ refl refl
