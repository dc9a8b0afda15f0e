-- `text::encoding::continuing_block` meets its contract. The loop's invariant: the sum is that of the words so far.
use native.Mathlib.Omega.{arith}
use mathlib.Core.Path.{◌≡◌, ap, ◌∙◌}
use Prim.Native.Nat.{ℕ, ◌*◌}
use Rattle.definition.specs.Bytes.{part}
use Rattle.utf8_laws.specs.Scalars.{continuing}
use Rattle.text.proofs.Continuing.{none_so_far, one_more, block_sum}
use Rattle.text.proofs.encoding.continuing_block.Goals as goal

pub loop-i-init : goal.loop-i-init
loop-i-init c = none_so_far c.args.s.now c.args.at

pub loop-i-preserved : goal.loop-i-preserved
loop-i-preserved c = one_more _ _ _ _ _ c.loop-i.invariant c.continuing8-sum.ensures

pub returns : goal.returns
returns c =
    let e : c.loop-i.i ≡ c.args.words = omega arith in
    block_sum c.args.s.now c.args.at c.loop-i.i c.loop-i.sum (omega (arith, c.requires.0)) (omega (arith, c.requires.1)) c.loop-i.invariant ∙ ap (λ (k : ℕ). continuing (part c.args.s.now c.args.at (8 * k))) e
