-- `slices::given_stop` meets its contract. The flag decides, and then the sign of the step.
use native.Mathlib.Omega.{arith}
use mir.Syntax.{w64}
use lib.IntN.{pos, negsuc, neg_ℤ, +ℤ_comm}
use mathlib.Core.Path.{◌∙◌}
use mir.ValLaws.{to_z_pos, to_z-of_z}
use Rattle.slices.proofs.Signs.{sum_fits, mag_negated}
use Rattle.slices.proofs.Bounds.{stop_given, stop_before, stop_behind}
use Rattle.slices.proofs.given_stop.Goals as goal

pub returns-then-has_stop : goal.returns-then-has_stop
returns-then-has_stop c = rw (to_z-of_z w64 c.args.stop c.ranges.stop) (stop_given c.args.n c.args.has_stop c.args.stop c.args.step c.if-has_stop.true)

pub overflow_sub-result : goal.overflow_sub-result
overflow_sub-result c = rw (to_z_pos w64 c.args.n (omega arith)) (sum_fits (negsuc 0) (neg_ℤ (pos c.args.n)) (omega (arith, mag_negated c.args.n)))

pub returns-then-step-lt0 : goal.returns-then-step-lt0
returns-then-step-lt0 c =
    let f = sum_fits (negsuc 0) (neg_ℤ (pos c.args.n)) (omega (arith, mag_negated c.args.n)) in
    let s = to_z-of_z w64 c.args.step c.ranges.step in
    rw (to_z_pos w64 c.args.n (omega arith), to_z-of_z w64 _ f)
    (+ℤ_comm (negsuc 0) (neg_ℤ (pos c.args.n))
    ∙ stop_before c.args.n c.args.has_stop c.args.stop c.args.step c.if-has_stop.false (rw s at c.if-step-lt0.true))

pub returns : goal.returns
returns c =
    let s = to_z-of_z w64 c.args.step c.ranges.step in
    rw (to_z_pos w64 c.args.n (omega arith))
    (stop_behind c.args.n c.args.has_stop c.args.stop c.args.step c.if-has_stop.false (rw s at c.if-step-lt0.false))
