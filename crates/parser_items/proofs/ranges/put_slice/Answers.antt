-- `parser_items::ranges::put_slice` meets its contract: the verdicts are set in order, and then the bytes are put.
--
use mathlib.Core.Path.{◌∙◌}
use Rattle.parser_items.specs.Laws.{marked_of, marked_put, put_put}
use native.Mathlib.Omega.{arith}
use Rattle.parser_items.proofs.Bits.{bit_small}
use Rattle.parser_items.proofs.Stores.{marked_three}
use Rattle.definition_bytes.specs.Numbers.{little_endian_length}
use Rattle.parser_items.proofs.ranges.put_slice.Goals as goal

pub overflow_add-flags : goal.overflow_add-flags
overflow_add-flags c = omega (arith, c.bit.ensures, c.bit-2.ensures, bit_small c.is_some.result 1, bit_small c.is_some-2.result 2)

pub overflow_add-flags-2 : goal.overflow_add-flags-2
overflow_add-flags-2 c = omega (arith, c.bit.ensures, c.bit-2.ensures, c.bit-3.ensures, bit_small c.is_some.result 1, bit_small c.is_some-2.result 2, bit_small c.is_some-3.result 4)

pub eight-g-requires : goal.eight-g-requires
eight-g-requires c = omega (arith, little_endian_length 8 c.bits.result, c.eight-f.ensures.len, c.item-e.ensures.len, c.item-d.ensures.len, c.judged-a.ensures.place.1, c.judged-b.ensures.place.1, c.judged-c.ensures.place.1, c.eight-f.auto.plan, c.item-e.auto.plan, c.item-d.auto.plan, c.requires)

pub eight-requires : goal.eight-requires
eight-requires c = omega (arith, little_endian_length 8 c.bits.result, little_endian_length 8 c.bits-2.result, c.eight-g.ensures.len, c.eight-f.ensures.len, c.item-e.ensures.len, c.item-d.ensures.len, c.judged-a.ensures.place.1, c.judged-b.ensures.place.1, c.judged-c.ensures.place.1, c.eight-g.auto.plan, c.eight-f.auto.plan, c.item-e.auto.plan, c.item-d.auto.plan, c.requires)

pub shape_of-plan : goal.shape_of-plan
shape_of-plan c = c.eight.auto.plan ∙ c.eight-g.auto.plan ∙ c.eight-f.auto.plan ∙ c.item-e.auto.plan ∙ c.item-d.auto.plan

pub returns : goal.returns
returns c =
    marked_put
    (marked_three (marked_of c.judged-a.ensures.place (rw c.verdict.ensures at c.judged-a.ensures.marks)) (marked_of c.judged-b.ensures.place (rw c.verdict-2.ensures at c.judged-b.ensures.marks)) (marked_of c.judged-c.ensures.place (rw c.verdict-3.ensures at c.judged-c.ensures.marks)))
    (put_put c.item-d.ensures (put_put (rw (c.bit.ensures, c.bit-2.ensures, c.bit-3.ensures, c.is_some.ensures, c.is_some-2.ensures, c.is_some-3.ensures) at c.item-e.ensures) (put_put (rw c.bits.ensures at c.eight-f.ensures) (put_put (rw c.bits-2.ensures at c.eight-g.ensures) (rw c.bits-3.ensures at c.eight.ensures)))))
