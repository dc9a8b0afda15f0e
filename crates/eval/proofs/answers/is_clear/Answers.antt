-- `answers::is_clear` meets its contract.
use mathlib.Core.Path.{sym, ◌∙◌}
use borrow.Author.Tests.{not-true}
use Rattle.eval_front.specs.Fronts.{never}
use Rattle.eval.proofs.answers.is_clear.Goals as goal

pub returns-then-q-p : goal.returns-then-q-p
returns-then-q-p c = λ u. absurd (never u)

pub returns-then-is_some : goal.returns-then-is_some
returns-then-is_some c = λ u. absurd (never u)

pub returns : goal.returns
returns c = λ u. (c.if-q-p.false, (sym c.is_some.ensures ∙ c.if-is_some.false, sym c.is_some-2.ensures ∙ not-true _ u))
