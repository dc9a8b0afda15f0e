-- `number_exact::decide` meets its contract: the order of twice the fraction and the middle says which number of steps is nearest.
use Prim.Native.Nat.{◌+◌, ◌*◌}
use native.Mathlib.Omega.{arith}
use Rattle.number_limbs.specs.Limbs.{value, zeros, zeros_limbs}
use Rattle.number_exact.proofs.Middle.{compared, if_less, if_equal, if_greater, Compared}
use Rattle.number_exact.proofs.Sizes.{fits}
use Rattle.number_exact.proofs.decide.Goals as goal

pub scale-requires : goal.scale-requires
scale-requires c = (zeros_limbs 76, zeros 76, omega arith, fits c.args.n 64 c.saturating_sub.result 1075 (omega arith) (omega arith))

pub scale-requires-2 : goal.scale-requires-2
scale-requires-2 c = (zeros_limbs 76, zeros 76, omega arith, fits (c.args.c * 2 + 1) 54 c.saturating_sub-2.result c.args.k (omega arith) (omega arith))

pub returns-in-Less : goal.returns-in-Less
returns-in-Less c =
    let between : Compared c.args.n c.args.i c.args.c c.args.k (value c.scale.new.x) (value c.scale-2.new.x) = compared c.args.n c.args.i c.args.c c.args.k c.saturating_sub.result c.saturating_sub-2.result (value c.scale.new.x) (value c.scale-2.new.x) c.saturating_sub.ensures c.saturating_sub-2.ensures c.scale.ensures.0 c.scale-2.ensures.0 in
    if_less c.args.n c.args.i c.args.c c.args.k c.requires.0 (value c.scale.new.x) (value c.scale-2.new.x) between c.in-Less.ensures

pub returns-in-Equal : goal.returns-in-Equal
returns-in-Equal c =
    let between : Compared c.args.n c.args.i c.args.c c.args.k (value c.scale.new.x) (value c.scale-2.new.x) = compared c.args.n c.args.i c.args.c c.args.k c.saturating_sub.result c.saturating_sub-2.result (value c.scale.new.x) (value c.scale-2.new.x) c.saturating_sub.ensures c.saturating_sub-2.ensures c.scale.ensures.0 c.scale-2.ensures.0 in
    if_equal c.args.n c.args.i c.args.c c.args.k c.requires.0 (value c.scale.new.x) (value c.scale-2.new.x) between c.in-Equal.ensures

pub returns-in-Greater : goal.returns-in-Greater
returns-in-Greater c =
    let between : Compared c.args.n c.args.i c.args.c c.args.k (value c.scale.new.x) (value c.scale-2.new.x) = compared c.args.n c.args.i c.args.c c.args.k c.saturating_sub.result c.saturating_sub-2.result (value c.scale.new.x) (value c.scale-2.new.x) c.saturating_sub.ensures c.saturating_sub-2.ensures c.scale.ensures.0 c.scale-2.ensures.0 in
    if_greater c.args.n c.args.i c.args.c c.args.k c.requires.0 (value c.scale.new.x) (value c.scale-2.new.x) between c.in-Greater.ensures
