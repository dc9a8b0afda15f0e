-- The measures and invariants of the cycle of calls {base, basis, framed, more, oper, segs, sel, sels, side, test}.
use Prim.Native.Nat.{◌+◌, ◌-◌, ◌*◌}
use lib.ListN.{length}
use Rattle.plan_check.proofs.LawsTest.{GoMore}
use Rattle.plan_check.proofs.LawsSegs.{GoSegs}
use Rattle.plan_check.proofs.LawsSel.{GoSels}
use Rattle.plan_check.proofs.+forms.Given as goal

abbrev pub decreases-base : goal.decreases-base
decreases-base l = 8 * length l.plan.now + 3

abbrev pub decreases-basis : goal.decreases-basis
decreases-basis l = 8 * (length l.plan.now - l.at) + 0

abbrev pub decreases-framed : goal.decreases-framed
decreases-framed l = 8 * (length l.plan.now - l.at) + 0

abbrev pub decreases-more : goal.decreases-more
decreases-more l = 8 * (length l.plan.now - l.a.at) + 0

abbrev pub decreases-oper : goal.decreases-oper
decreases-oper l = 8 * (length l.plan.now - l.at) + 1

abbrev pub decreases-segs : goal.decreases-segs
decreases-segs l = 8 * (length l.plan.now - l.from) + 0

abbrev pub decreases-sel : goal.decreases-sel
decreases-sel l = 8 * (length l.plan.now - l.at) + 1

abbrev pub decreases-sels : goal.decreases-sels
decreases-sels l = 8 * (length l.plan.now - l.from) + 2

abbrev pub decreases-side : goal.decreases-side
decreases-side l = 8 * (length l.plan.now - l.a.at) + 2

abbrev pub decreases-test : goal.decreases-test
decreases-test l = 8 * length l.plan.now + 4

abbrev pub invariant-more-loop-at : goal.invariant-more-loop-at
invariant-more-loop-at l = GoMore l.plan l.pool l.room l.initial.at l.initial.p l.initial.h l.at l.p l.h

abbrev pub decreases-more-loop-at : goal.decreases-more-loop-at
decreases-more-loop-at l = length l.plan - l.at

abbrev pub invariant-segs-loop-from : goal.invariant-segs-loop-from
invariant-segs-loop-from l = GoSegs l.plan l.pool l.room l.from l.start l.at l.p l.h l.sort

abbrev pub decreases-segs-loop-from : goal.decreases-segs-loop-from
decreases-segs-loop-from l = length l.plan - l.at

abbrev pub invariant-sels-loop-g : goal.invariant-sels-loop-g
invariant-sels-loop-g l = GoSels l.plan l.pool l.room l.n l.from l.start l.at l.p l.h l.left

abbrev pub decreases-sels-loop-g : goal.decreases-sels-loop-g
decreases-sels-loop-g l = l.left
