-- `text::encoding::continuing_few` meets its contract. The loop's invariant: what is counted are the bytes so far.
use native.Mathlib.Omega.{arith}
use mathlib.Core.Path.{◌≡◌, refl, ap, ◌∙◌}
use Prim.Native.Nat.{ℕ, ◌+◌}
use Rattle.definition.specs.Bytes.{part}
use Rattle.definition_bytes.specs.Same.{part_length}
use Rattle.utf8_laws.specs.Scalars.{continuing, continuing_few}
use Rattle.text.proofs.Continuing.{byte_more}
use Rattle.text.proofs.encoding.continuing_few.Goals as goal

-- one byte more
next : (c : goal.After-continues-count) → c.loop-i.count + c.continues-count.result ≡ continuing (part c.args.s.now c.args.at (c.loop-i.i + 1))
next c =
    omega (arith, c.loop-i.invariant, c.continues-count.ensures, byte_more c.args.s.now c.args.at c.loop-i.i (omega arith))

pub loop-i-init : goal.loop-i-init
unfolding continuing
loop-i-init c = refl

pub overflow_add-count : goal.overflow_add-count
overflow_add-count c = omega (arith, next c, continuing_few (part c.args.s.now c.args.at (c.loop-i.i + 1)), part_length c.args.s.now c.args.at (c.loop-i.i + 1) (omega arith))

pub loop-i-preserved : goal.loop-i-preserved
loop-i-preserved c = next c

pub returns : goal.returns
returns c =
    let e : c.loop-i.i ≡ c.args.n = omega arith in
    c.loop-i.invariant ∙ ap (λ (k : ℕ). continuing (part c.args.s.now c.args.at k)) e
