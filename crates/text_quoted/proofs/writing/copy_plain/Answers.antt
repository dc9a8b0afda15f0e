-- `text_quoted::writing::copy_plain` meets its contract. What is left to copy gives the whole copy.
use mathlib.Core.Path.{◌∙◌, sym, refl}
use borrow.Author.Tests.{not-true, not-false}
use Rattle.text_quoted.proofs.Storing.{copying_start, copying_on, copying_stop, copying_end}
use mathlib.Core.Path.{ap}
use mathlib.Core.Bool.{not}
use Rattle.text_quoted.proofs.writing.copy_plain.Goals as goal

pub returns-then-s-at-eq92 : goal.returns-then-s-at-eq92
returns-then-s-at-eq92 c = copying_stop c.args.s.now c.args.at c.args.out.now c.args.len c.args.out.now c.args.at (copying_start c.args.s.now c.args.at c.args.out.now c.args.len c.requires.0) c.if-at-s.true (rw c.if-s-at-eq92.true refl)

pub loop-i-init : goal.loop-i-init
loop-i-init c = copying_start c.args.s.now c.args.at c.args.out.now c.args.len c.requires.0

pub shape_of-out-then-not-is_plain : goal.shape_of-out-then-not-is_plain
shape_of-out-then-not-is_plain c = c.loop-i.invariant.size

pub returns-then-not-is_plain : goal.returns-then-not-is_plain
returns-then-not-is_plain c = copying_stop c.args.s.now c.args.at c.args.out.now c.args.len c.loop-i.out c.loop-i.i c.loop-i.invariant c.loop-i-test.true (sym c.is_plain.ensures ∙ not-true c.is_plain.result (ap not c.if-not-is_plain.true))

pub loop-i-preserved : goal.loop-i-preserved
loop-i-preserved c = copying_on c.args.s.now c.args.at c.args.out.now c.args.len c.loop-i.out c.loop-i.i c.loop-i.invariant c.loop-i-test.true (sym c.is_plain.ensures ∙ not-false c.is_plain.result (ap not c.if-not-is_plain.false))

pub shape_of-out : goal.shape_of-out
shape_of-out c = c.loop-i.invariant.size

pub returns : goal.returns
returns c = copying_end c.args.s.now c.args.at c.args.out.now c.args.len c.loop-i.out c.loop-i.i c.loop-i.invariant c.loop-i-test.false
