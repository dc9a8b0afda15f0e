-- `slices::given_start` meets its contract. The flag decides, and then the sign of the step.
use native.Mathlib.Omega.{arith}
use mir.Syntax.{w64}
use lib.IntN.{pos, negsuc}
use mir.ValLaws.{to_z_pos, to_z-of_z}
use Rattle.slices.proofs.Signs.{sum_fits}
use Rattle.slices.proofs.Bounds.{start_given, start_last, start_first}
use Rattle.slices.proofs.given_start.Goals as goal

pub returns-then-has_start : goal.returns-then-has_start
returns-then-has_start c = rw (to_z-of_z w64 c.args.start c.ranges.start) (start_given c.args.n c.args.has_start c.args.start c.args.step c.if-has_start.true)

pub overflow_sub-result : goal.overflow_sub-result
overflow_sub-result c = rw (to_z_pos w64 c.args.n (omega arith)) (sum_fits (pos c.args.n) (negsuc 0) (omega arith))

pub returns-then-step-lt0 : goal.returns-then-step-lt0
returns-then-step-lt0 c =
    let f = sum_fits (pos c.args.n) (negsuc 0) (omega arith) in
    let s = to_z-of_z w64 c.args.step c.ranges.step in
    rw (to_z_pos w64 c.args.n (omega arith), to_z-of_z w64 _ f)
    (start_last c.args.n c.args.has_start c.args.start c.args.step c.if-has_start.false (rw s at c.if-step-lt0.true))

pub returns : goal.returns
returns c =
    let s = to_z-of_z w64 c.args.step c.ranges.step in
    start_first c.args.n c.args.has_start c.args.start c.args.step c.if-has_start.false (rw s at c.if-step-lt0.false)
