-- `text::encoding::after_first` meets its contract, range by range.
use native.Mathlib.Omega.{arith}
use mathlib.Core.Path.{sym, ap}
use Rattle.definition.specs.Utf8.{after_first}
use Rattle.utf8_laws.specs.Bytes.{after_one, after_low, after_two, after_high}
use Rattle.text.proofs.States.{after_three_plain, after_four_plain}
use Rattle.text.proofs.encoding.after_first.Goals as goal

pub returns-then-b-lt128 : goal.returns-then-b-lt128
returns-then-b-lt128 c = sym (after_one c.args.b c.if-b-lt128.true)

pub returns-then-b-lt194 : goal.returns-then-b-lt194
returns-then-b-lt194 c = sym (after_low c.args.b (omega arith) (omega arith))

pub returns-then-b-le223 : goal.returns-then-b-le223
returns-then-b-le223 c = sym (after_two c.args.b (omega arith) (omega arith))

pub returns-then-b-eq224 : goal.returns-then-b-eq224
unfolding after_first
returns-then-b-eq224 c = sym (ap after_first c.if-b-eq224.true)

pub returns-then-b-eq237 : goal.returns-then-b-eq237
unfolding after_first
returns-then-b-eq237 c = sym (ap after_first c.if-b-eq237.true)

pub returns-then-b-le239 : goal.returns-then-b-le239
returns-then-b-le239 c = sym (after_three_plain c.args.b (omega arith) (omega arith) c.if-b-eq224.false c.if-b-eq237.false)

pub returns-then-b-eq240 : goal.returns-then-b-eq240
unfolding after_first
returns-then-b-eq240 c = sym (ap after_first c.if-b-eq240.true)

pub returns-then-b-le243 : goal.returns-then-b-le243
returns-then-b-le243 c = sym (after_four_plain c.args.b (omega arith) (omega arith))

pub returns-then-b-eq244 : goal.returns-then-b-eq244
unfolding after_first
returns-then-b-eq244 c = sym (ap after_first c.if-b-eq244.true)

pub returns : goal.returns
returns c = sym (after_high c.args.b (omega arith))
