-- `regex_states::store` meets its contract.
use mathlib.Core.Path.{refl, ◌∙◌}
use Prim.Native.Nat.{◌+◌, ◌*◌}
use native.Mathlib.Omega.{arith}
use lib.ListN.{get_or, length-set}
use Rattle.regex_states.proofs.Loops.{put_more, put_low}
use Rattle.regex_states.proofs.store.Goals as goal

pub loop-i-init : goal.loop-i-init
loop-i-init c = (refl, λ j h. absurd (omega arith), λ j h. refl)

pub overflow_add-sets : goal.overflow_add-sets
overflow_add-sets c = omega (arith, c.loop-i.invariant.0, c.requires)

pub bounds-sets-from : goal.bounds-sets-from
bounds-sets-from c = omega (arith, c.loop-i.invariant.0, c.requires)

pub loop-i-preserved : goal.loop-i-preserved
loop-i-preserved c = (length-set c.loop-i.sets (c.args.k * 128 + c.loop-i.i) (get_or c.args.marks.now c.loop-i.i 0) ∙ c.loop-i.invariant.0, put_more (λ j. get_or c.args.marks.now j 0) c.loop-i.sets (c.args.k * 128) c.loop-i.i (get_or c.args.marks.now c.loop-i.i 0) (omega (arith, c.loop-i.invariant.0, c.requires)) refl c.loop-i.invariant.1, put_low c.loop-i.sets c.args.sets.now (c.args.k * 128) c.loop-i.i (get_or c.args.marks.now c.loop-i.i 0) c.loop-i.invariant.2)

pub returns : goal.returns
returns c = record { long = c.loop-i.invariant.0; marks = λ i h. c.loop-i.invariant.1 i (omega arith); low = c.loop-i.invariant.2 }
