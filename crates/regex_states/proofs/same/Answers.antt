-- `regex_states::same` meets its contract.
use mathlib.Core.Path.{◌≡◌, sym}
use Prim.Native.Nat.{◌+◌, ◌*◌}
use native.Mathlib.Omega.{arith}
use lib.ListN.{get_or}
use mathlib.Core.Bool.{false≢true}
use Rattle.regex_states.proofs.Loops.{one_more}
use Rattle.regex_states.proofs.Cells.{cells_is}
use Rattle.regex_states.proofs.same.Goals as goal

pub loop-i-init : goal.loop-i-init
loop-i-init c = λ j h. absurd (omega arith)

pub returns-then-marks-i : goal.returns-then-marks-i
returns-then-marks-i c = λ e. absurd (false≢true e)

pub loop-i-preserved : goal.loop-i-preserved
loop-i-preserved c = one_more (λ j. get_or c.args.sets.now (c.args.k * 128 + j) 0 ≡ get_or c.args.marks.now j 0) _ c.loop-i.invariant (sym c.if-marks-i.false)

pub returns : goal.returns
returns c = λ e. cells_is _ _ _ (λ j h. c.loop-i.invariant j (omega arith))
