-- `regex_leaves::counts::digits` meets its contract. The loop's invariant: the digits that were passed stand for the number so far.
use borrow.Author.Tests.{not-true, not-false}
use borrow.Author.Rules.{rules}
use Rattle.regex_leaves.proofs.OfCounts.{digit_bounds, passed_none, digits_end, digits_stop, digits_many, passed_more}
use lib.ListN.{get_or, length}
use native.Mathlib.Omega.{arith}
use mathlib.Core.Path.{◌≡◌, sym, ◌∙◌}
use mathlib.Core.Path.{ap}
use mathlib.Core.Bool.{not}
use Rattle.regex_leaves.proofs.counts.digits.Goals as goal

pub loop-i-init : goal.loop-i-init
loop-i-init c = passed_none _ _ c.requires

pub returns-then-not-is_digit : goal.returns-then-not-is_digit
returns-then-not-is_digit c = digits_stop _ _ c.loop-i.invariant c.loop-i-test.true (sym c.is_digit.ensures ∙ not-true c.is_digit.result (ap not c.if-not-is_digit.true))

pub overflow_mul-v : goal.overflow_mul-v
overflow_mul-v c = search (rules, c.loop-i.invariant.small)

pub overflow_sub-v : goal.overflow_sub-v
overflow_sub-v c = let g = (digit_bounds (get_or c.args.s.now c.loop-i.i 0) (sym c.is_digit.ensures ∙ not-false c.is_digit.result (ap not c.if-not-is_digit.false))).0 in search (rules, g)

pub overflow_add-v : goal.overflow_add-v
overflow_add-v c = let h = (digit_bounds (get_or c.args.s.now c.loop-i.i 0) (sym c.is_digit.ensures ∙ not-false c.is_digit.result (ap not c.if-not-is_digit.false))).1 in search (rules, c.loop-i.invariant.small, h)

pub returns-then-v-gt-MAX_REPEAT : goal.returns-then-v-gt-MAX_REPEAT
returns-then-v-gt-MAX_REPEAT c = digits_many _ _ c.loop-i.invariant c.loop-i-test.true (sym c.is_digit.ensures ∙ not-false c.is_digit.result (ap not c.if-not-is_digit.false)) c.if-v-gt-MAX_REPEAT.true

pub loop-i-preserved : goal.loop-i-preserved
loop-i-preserved c = passed_more _ _ c.loop-i.invariant c.loop-i-test.true (sym c.is_digit.ensures ∙ not-false c.is_digit.result (ap not c.if-not-is_digit.false)) c.if-v-gt-MAX_REPEAT.false

pub returns : goal.returns
returns c = let e : length c.args.s.now ≡ c.loop-i.i = omega arith in rw e (digits_end _ _ c.loop-i.invariant (omega arith))
