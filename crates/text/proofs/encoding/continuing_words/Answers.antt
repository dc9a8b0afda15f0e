-- `text::encoding::continuing_words` meets its contract. The loop's invariant: what is counted are the words so far.
use native.Mathlib.Omega.{arith}
use mathlib.Core.Path.{◌≡◌, refl}
use Prim.Native.Nat.{◌+◌, ◌*◌}
use Rattle.definition.specs.Bytes.{part}
use Rattle.definition_bytes.specs.Same.{part_length}
use Rattle.utf8_laws.specs.Scalars.{continuing, continuing_few}
use Rattle.text.proofs.Continuing.{blocks_more, blocks_rest}
use Rattle.text.proofs.encoding.continuing_words.Goals as goal

-- one block more
next : (c : goal.After-continuing_block-count) → c.loop-k.count + c.continuing_block-count.result ≡ continuing (part c.args.s.now c.args.at (8 * 31 * (c.loop-k.k + 1)))
next c = omega (arith, c.loop-k.invariant, c.continuing_block-count.ensures, blocks_more c.args.s.now c.args.at c.loop-k.k)

-- the words behind the last block
last : (c : goal.After-continuing_block) → c.loop-k.count + c.continuing_block.result ≡ continuing (part c.args.s.now c.args.at (8 * c.args.words))
last c = omega (arith, c.loop-k.invariant, c.continuing_block.ensures, blocks_rest c.args.s.now c.args.at c.loop-k.k c.args.words (omega arith))

pub loop-k-init : goal.loop-k-init
unfolding continuing
loop-k-init c = refl

pub overflow_add-count : goal.overflow_add-count
overflow_add-count c = omega (arith, next c, continuing_few (part c.args.s.now c.args.at (8 * 31 * (c.loop-k.k + 1))), part_length c.args.s.now c.args.at (8 * 31 * (c.loop-k.k + 1)) (omega arith))

pub loop-k-preserved : goal.loop-k-preserved
loop-k-preserved c = next c

pub overflow_add-result : goal.overflow_add-result
overflow_add-result c = omega (arith, last c, continuing_few (part c.args.s.now c.args.at (8 * c.args.words)), part_length c.args.s.now c.args.at (8 * c.args.words) (omega arith))

pub returns : goal.returns
returns c = last c
