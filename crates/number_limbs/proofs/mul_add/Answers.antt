-- `number_limbs::mul_add` meets its contract: each turn multiplies one limb and carries on.
use Prim.Native.Nat.{◌<◌, ◌≤◌}
use native.Mathlib.Omega.{arith}
use lib.ListN.{length}
use Rattle.number_limbs.proofs.Steps.{begin, product, bound, more, finish}
use Rattle.number_limbs.proofs.mul_add.Goals as goal

pub loop-limb-init : goal.loop-limb-init
loop-limb-init c = begin c.args.x.now c.args.m c.args.c c.requires.0 c.requires.2

pub overflow_mul-t : goal.overflow_mul-t
overflow_mul-t c = let p = product _ _ (c.loop-limb.invariant.limbs c.loop-limb.limb-index) c.requires.1 in omega arith

pub overflow_add-t : goal.overflow_add-t
overflow_add-t c =
    let l = c.loop-limb.invariant.len in
    let h : c.loop-limb.limb-index < length c.loop-limb.x = omega arith in
    record { fits = bound _ _ _ _ _ _ c.loop-limb.invariant c.requires.1 h }

pub loop-limb-preserved : goal.loop-limb-preserved
loop-limb-preserved c =
    let l = c.loop-limb.invariant.len in
    let h : c.loop-limb.limb-index < length c.loop-limb.x = omega arith in
    more _ _ _ _ _ _ c.loop-limb.invariant c.requires.1 h

pub returns : goal.returns
returns c =
    let l = c.loop-limb.invariant.len in
    let e : length c.loop-limb.x ≤ c.loop-limb.limb-index = omega arith in
    (finish _ _ _ _ _ _ c.loop-limb.invariant e, c.loop-limb.invariant.limbs, c.loop-limb.invariant.small)
