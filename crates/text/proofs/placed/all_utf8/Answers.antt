-- `text::placed::all_utf8` meets its contract: the ends of the text, and the bytes between.
use native.Mathlib.Omega.{arith}
use mathlib.Core.Bool.{false≢true}
use borrow.Author.Tests.{not-false}
use Rattle.text.proofs.Along.{placed_utf8}
use mathlib.Core.Path.{ap}
use mathlib.Core.Bool.{not}
use Rattle.text.proofs.placed.all_utf8.Goals as goal

pub returns-then-s : goal.returns-then-s
returns-then-s c = λ z. absurd (false≢true z)

pub returns-then-not-ends_right : goal.returns-then-not-ends_right
returns-then-not-ends_right c = λ z. absurd (false≢true z)

pub returns-then-s-2 : goal.returns-then-s-2
returns-then-s-2 c = λ z. placed_utf8 c.args.s.now (omega arith) (c.ends_right.ensures (not-false _ (ap not c.if-not-ends_right.false))) (c.each.ensures z)

pub returns-then-s-3 : goal.returns-then-s-3
returns-then-s-3 c = λ z. placed_utf8 c.args.s.now (omega arith) (c.ends_right.ensures (not-false _ (ap not c.if-not-ends_right.false))) (c.each-then-s-3.ensures z)

pub returns : goal.returns
returns c = λ z. placed_utf8 c.args.s.now (omega arith) (c.ends_right.ensures (not-false _ (ap not c.if-not-ends_right.false))) (c.long.ensures z)
