-- `number_order::compare_i64_num` meets its contract: the two signs say which law of proofs/Mixed.antt decides.
use mathlib.Core.Path.{ap, ◌∙◌, sym, subst}
use lib.Dec.{T}
use Rattle.std.specs.Ordering.{ordering_reverse}
use Rattle.number_order.proofs.Patterns.{plus_pattern, minus_pattern, no_nan}
use Rattle.number_order.proofs.Mixed.{minus_plus, plus_plus, minus_minus, above_float, zero_float}
use Rattle.number_order.proofs.compare_i64_num.Goals as goal

pub float_to_bits-p : goal.float_to_bits-p
float_to_bits-p c = no_nan c.args.b c.requires

pub returns-then-a-lt0 : goal.returns-then-a-lt0
returns-then-a-lt0 c =
    minus_plus _ c.ranges.a _ _ _ c.magnitude-n.ensures c.if-a-lt0.true (plus_pattern _ (subst T (sym c.well_formed.1.0.1) tt) c.requires c.if-p-lt-SIGN.true)

pub order_with_bits-requires : goal.order_with_bits-requires
order_with_bits-requires c = (plus_pattern _ (subst T (sym c.well_formed.1.0.1) tt) c.requires c.if-p-lt-SIGN.true).small

pub returns-then-p-lt-SIGN : goal.returns-then-p-lt-SIGN
returns-then-p-lt-SIGN c =
    c.order_with_bits.ensures
    ∙ plus_plus _ c.ranges.a _ _ _ c.magnitude-n.ensures c.if-a-lt0.false (plus_pattern _ (subst T (sym c.well_formed.1.0.1) tt) c.requires c.if-p-lt-SIGN.true)

pub order_with_bits-requires-then-a-lt0-2 : goal.order_with_bits-requires-then-a-lt0-2
order_with_bits-requires-then-a-lt0-2 c = (minus_pattern _ (subst T (sym c.well_formed.1.0.1) tt) c.requires c.if-p-lt-SIGN.false).small

pub returns-then-a-lt0-2 : goal.returns-then-a-lt0-2
returns-then-a-lt0-2 c =
    c.reverse.ensures
    ∙ ap ordering_reverse c.order_with_bits-then-a-lt0-2.ensures
    ∙ minus_minus _ c.ranges.a _ _ _ c.magnitude-n.ensures c.if-a-lt0-2.true (minus_pattern _ (subst T (sym c.well_formed.1.0.1) tt) c.requires c.if-p-lt-SIGN.false)

pub returns-then-n-gt0 : goal.returns-then-n-gt0
returns-then-n-gt0 c = above_float _ c.ranges.a _ _ _ c.magnitude-n.ensures c.if-a-lt0-2.false c.if-n-gt0.true (minus_pattern _ (subst T (sym c.well_formed.1.0.1) tt) c.requires c.if-p-lt-SIGN.false)

pub order_with_bits-requires-2 : goal.order_with_bits-requires-2
order_with_bits-requires-2 c = (minus_pattern _ (subst T (sym c.well_formed.1.0.1) tt) c.requires c.if-p-lt-SIGN.false).small

pub returns : goal.returns
returns c =
    c.reverse-2.ensures
    ∙ ap ordering_reverse c.order_with_bits-2.ensures
    ∙ zero_float _ c.ranges.a _ _ _ c.magnitude-n.ensures c.if-a-lt0-2.false c.if-n-gt0.false (minus_pattern _ (subst T (sym c.well_formed.1.0.1) tt) c.requires c.if-p-lt-SIGN.false)
