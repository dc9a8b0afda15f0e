-- `regex_states::blank` meets its contract.
use mathlib.Core.Path.{refl, ◌∙◌}
use Prim.Native.Nat.{◌+◌, ◌*◌}
use native.Mathlib.Omega.{arith}
use lib.ListN.{length-set}
use Rattle.regex_states.proofs.Loops.{put_more, put_low}
use Rattle.regex_states.proofs.blank.Goals as goal

pub loop-i-init : goal.loop-i-init
loop-i-init c = (refl, λ j h. absurd (omega arith), λ j h. refl)

pub overflow_add-rows : goal.overflow_add-rows
overflow_add-rows c = omega (arith, c.loop-i.invariant.0, c.requires)

pub bounds-rows-from : goal.bounds-rows-from
bounds-rows-from c = omega (arith, c.loop-i.invariant.0, c.requires)

pub loop-i-preserved : goal.loop-i-preserved
loop-i-preserved c = (length-set c.loop-i.rows (c.args.k * 128 + c.loop-i.i) 0 ∙ c.loop-i.invariant.0, put_more (λ j. 0) c.loop-i.rows (c.args.k * 128) c.loop-i.i 0 (omega (arith, c.loop-i.invariant.0, c.requires)) refl c.loop-i.invariant.1, put_low c.loop-i.rows c.args.rows.now (c.args.k * 128) c.loop-i.i 0 c.loop-i.invariant.2)

pub returns : goal.returns
returns c = record { long = c.loop-i.invariant.0; none = λ i h. c.loop-i.invariant.1 i (omega arith); low = c.loop-i.invariant.2 }
