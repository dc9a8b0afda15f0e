-- `text::encoding::in_range` meets its contract.
use native.Mathlib.Omega.{arith}
use mathlib.Core.Path.{refl, sym, ◌∙◌}
use borrow.Author.Tests.{le-leb, lt-leb}
use Rattle.text.proofs.States.{tails_at, tails_out}
use Rattle.text.proofs.encoding.in_range.Goals as goal

pub returns-then-s-at : goal.returns-then-s-at
returns-then-s-at c = sym (tails_out c.args.s.now c.args.at c.args.lo c.args.hi 0 c.if-s-at.true)

pub returns-then-b-lo : goal.returns-then-b-lo
returns-then-b-lo c = sym (tails_at c.args.s.now c.args.at c.args.lo c.args.hi (omega arith) ∙ rw (lt-leb _ _ c.if-b-lo.true) refl)

pub returns : goal.returns
returns c = sym (tails_at c.args.s.now c.args.at c.args.lo c.args.hi (omega arith) ∙ rw (le-leb _ _ c.if-b-lo.false) refl)
