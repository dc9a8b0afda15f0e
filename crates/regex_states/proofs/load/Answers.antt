-- `regex_states::load` meets its contract.
use mathlib.Core.Path.{refl, ◌∙◌}
use Prim.Native.Nat.{◌+◌, ◌*◌}
use native.Mathlib.Omega.{arith}
use lib.ListN.{get_or, length-set}
use Rattle.regex_states.proofs.Loops.{load_more, loaded}
use Rattle.regex_states.proofs.load.Goals as goal

pub loop-i-init : goal.loop-i-init
loop-i-init c = (refl, λ j h. absurd (omega arith))

pub overflow_add-marks : goal.overflow_add-marks
overflow_add-marks c = omega (arith, c.loop-i.invariant.0, c.requires)

pub bounds-sets-from : goal.bounds-sets-from
bounds-sets-from c = omega (arith, c.loop-i.invariant.0, c.requires)

pub loop-i-preserved : goal.loop-i-preserved
loop-i-preserved c = let v = get_or c.args.sets.now (c.args.k * 128 + c.loop-i.i) 0 in let h = length-set c.loop-i.marks c.loop-i.i v in (h ∙ c.loop-i.invariant.0, load_more (λ j. get_or c.args.sets.now (c.args.k * 128 + j) 0) c.loop-i.marks c.loop-i.i v (omega (arith, c.loop-i.invariant.0)) refl c.loop-i.invariant.1)

pub returns : goal.returns
returns c = loaded _ _ _ _ _ c.loop-i.invariant.0 (omega arith) c.loop-i.invariant.1
