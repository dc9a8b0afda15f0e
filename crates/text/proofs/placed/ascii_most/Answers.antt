-- `text::placed::ascii_most` meets its contract: twice 256 ASCII bytes, one behind the other.
use mathlib.Core.Bool.{false≢true}
use Prim.Native.Nat.{◌+◌}
use borrow.Author.Tests.{not-false}
use Rattle.text.proofs.Along.{placed_join, placed_behind}
use mathlib.Core.Path.{ap}
use mathlib.Core.Bool.{not}
use Rattle.text.proofs.placed.ascii_most.Goals as goal

pub returns-then-not-ascii_256 : goal.returns-then-not-ascii_256
returns-then-not-ascii_256 c = λ z. absurd (false≢true z)

pub returns : goal.returns
returns c = λ z. placed_join c.args.s.now c.args.at (c.args.at + 256) (c.args.at + 512) (c.ascii_256.ensures (not-false _ (ap not c.if-not-ascii_256.false))) (placed_behind c.args.s.now c.args.at 256 256 (c.ascii_256-2.ensures z))
