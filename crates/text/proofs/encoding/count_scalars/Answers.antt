-- `text::encoding::count_scalars` meets its contract: every byte that continues no character begins a scalar value.
use native.Mathlib.Omega.{arith}
use Prim.Native.Nat.{◌+◌, ◌-◌, ◌/◌, ◌≤◌}
use mathlib.Core.Path.{◌≡◌}
use lib.ListN.{length}
use Rattle.definition.specs.Bytes.{part}
use Rattle.definition.specs.Utf8.{scalars_of}
use Rattle.text.proofs.Continuing.{scalars_by}
use Rattle.text.proofs.encoding.count_scalars.Goals as goal

-- what was counted, of the part
counted : (c : goal.After-continuing_few-few) → (c.continuing_words-count.result + c.continuing_few-few.result ≤ c.args.n) × (c.args.n - c.continuing_words-count.result - c.continuing_few-few.result ≡ length (scalars_of (part c.args.s.now c.args.from c.args.n)))
counted c =
    scalars_by c.args.s.now c.args.from c.args.n (c.args.n / 8) _ _ (omega arith) (omega arith) c.continuing_words-count.ensures c.continuing_few-few.ensures

pub overflow_mul-whole : goal.overflow_mul-whole
overflow_mul-whole c = omega arith

pub continuing_words-count-requires : goal.continuing_words-count-requires
continuing_words-count-requires c = omega arith

pub overflow_add-from : goal.overflow_add-from
overflow_add-from c = omega arith

pub overflow_sub-n : goal.overflow_sub-n
overflow_sub-n c = omega arith

pub continuing_few-few-requires : goal.continuing_few-few-requires
continuing_few-few-requires c = omega arith

pub overflow_sub-begun : goal.overflow_sub-begun
overflow_sub-begun c = omega (arith, (counted c).0)

pub overflow_sub-result : goal.overflow_sub-result
overflow_sub-result c = omega (arith, (counted c).0)

pub returns : goal.returns
returns c = (counted c).1
