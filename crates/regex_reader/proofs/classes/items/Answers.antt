-- `regex_reader::classes::items` meets its contract. The loop's invariant: the items that were passed have the ranges that are written.
use Rattle.basics.specs.Stores.{wrote_length}
use borrow.Author.Rules.{Fits-under}
use Rattle.regex_reader.proofs.OfClasses.{item_is, going_none, ranges_close, ranges_dash, ranges_none, going_more}
use borrow.Author.Rules.{rules}
use native.Mathlib.Omega.{arith}
use mathlib.Core.Path.{◌∙◌}
use Rattle.regex_reader.proofs.classes.items.Goals as goal

pub loop-at-init : goal.loop-at-init
loop-at-init c = going_none _ _ _ _ c.requires.0

pub shape_of-code-then-is : goal.shape_of-code-then-is
shape_of-code-then-is c = wrote_length c.loop-at.invariant.buf

pub returns-then-is : goal.returns-then-is
returns-then-is c = ranges_close c.loop-at.invariant c.is.ensures c.if-is.true

pub put_range-requires : goal.put_range-requires
put_range-requires c = let l = wrote_length c.loop-at.invariant.buf in let d = c.dash_end.ensures.inside c.if-dash_end.true in omega (arith, l, d, c.requires.1, c.loop-at.invariant.from)

pub overflow_add-result-then-dash_end : goal.overflow_add-result-then-dash_end
overflow_add-result-then-dash_end c = let h = c.dash_end.ensures.inside c.if-dash_end.true in Fits-under _ _ 4096 (omega (arith, h, c.requires.2)) tt

pub overflow_add-result-then-dash_end-2 : goal.overflow_add-result-then-dash_end-2
overflow_add-result-then-dash_end-2 c = search (rules, c.loop-at.invariant.from, c.loop-at.invariant.to)

pub shape_of-code-then-dash_end : goal.shape_of-code-then-dash_end
shape_of-code-then-dash_end c = wrote_length c.put_range.ensures ∙ wrote_length c.loop-at.invariant.buf

pub returns-then-dash_end : goal.returns-then-dash_end
returns-then-dash_end c = ranges_dash c.loop-at.invariant c.is.ensures c.if-is.false c.dash_end.ensures c.if-dash_end.true c.put_range.ensures

pub shape_of-code-in_err-b : goal.shape_of-code-in_err-b
shape_of-code-in_err-b c = wrote_length c.loop-at.invariant.buf

pub returns-in_err-b : goal.returns-in_err-b
returns-in_err-b c = rw c.from_residual.ensures (ranges_none c.loop-at.invariant c.is.ensures c.if-is.false c.dash_end.ensures c.if-dash_end.false c.in_err-b.ensures)

pub put_range-requires-in-loop-at : goal.put_range-requires-in-loop-at
put_range-requires-in-loop-at c = let l = wrote_length c.loop-at.invariant.buf in let k = item_is c.in_ok-b.ensures in omega (arith, l, k.1, k.2, c.requires.1, c.loop-at.invariant.from)

pub loop-at-smaller : goal.loop-at-smaller
loop-at-smaller c = let k = item_is c.in_ok-b.ensures in omega (arith, k.1, k.2)

pub loop-at-preserved : goal.loop-at-preserved
loop-at-preserved c = going_more c.loop-at.invariant c.is.ensures c.if-is.false c.dash_end.ensures c.if-dash_end.false c.in_ok-b.ensures c.put_range-in-loop-at.ensures
