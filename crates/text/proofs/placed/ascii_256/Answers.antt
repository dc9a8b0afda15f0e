-- `text::placed::ascii_256` meets its contract: four times 64 ASCII bytes, one behind another.
use mathlib.Core.Path.{refl}
use mathlib.Core.Bool.{and-eq-true_iff, false≢true}
use borrow.Author.Tests.{not-false}
use Rattle.text.proofs.Along.{placed_four}
use mathlib.Core.Path.{ap}
use mathlib.Core.Bool.{not}
use Rattle.text.proofs.placed.ascii_256.Goals as goal

pub returns-then-not-ascii_many : goal.returns-then-not-ascii_many
returns-then-not-ascii_many c = λ z. absurd (false≢true z)

pub returns : goal.returns
returns c =
    λ z.
    let t = (and-eq-true_iff _ c.ascii_many-4.result).0 z in
    let u = (and-eq-true_iff c.ascii_many-2.result c.ascii_many-3.result).0 t.0 in
    let first = c.ascii_many.ensures (not-false _ (ap not c.if-not-ascii_many.false)) in
    placed_four c.args.s.now c.args.at 64 128 192 256 refl refl refl first (c.ascii_many-2.ensures u.0) (c.ascii_many-3.ensures u.1) (c.ascii_many-4.ensures t.1)
