-- `regex_needed::copy` meets its contract.
use Rattle.regex_needed.proofs.Writing.{written_none, copy_more}
use lib.Seq.{slice_empty}
use mathlib.Core.Path.{◌≡◌}
use native.Mathlib.Omega.{arith}
use Rattle.regex_needed.proofs.copy.Goals as goal

pub loop-i-init : goal.loop-i-init
loop-i-init c = rw (slice_empty c.args.from c.args.code.now) (written_none _ _ c.requires.2)

pub bounds-code-i : goal.bounds-code-i
bounds-code-i c = omega (arith, c.requires.1)

pub put-e-requires : goal.put-e-requires
put-e-requires c = omega (arith, c.loop-i.invariant.goes.most, c.loop-i.invariant.goes.long)

pub loop-i-preserved : goal.loop-i-preserved
loop-i-preserved c = copy_more c.args.code.now c.loop-i.i c.args.from (omega arith) (omega (arith, c.requires.1)) c.loop-i.invariant c.put-e.ensures

pub shape_of-out : goal.shape_of-out
shape_of-out c = c.loop-i.invariant.goes.long

pub returns : goal.returns
returns c = let e : c.loop-i.i ≡ c.args.end = omega (arith, c.requires.0) in rw (← e) c.loop-i.invariant
