-- `regex_match::missed` meets its contract.
use Rattle.regex_match.proofs.Laws.{missed_short, missed_long}
use mathlib.Core.Bool.{false≢true}
use borrow.Author.Tests.{ltb-true}
use Rattle.regex_match.proofs.missed.Goals as goal

pub returns-then-n-w : goal.returns-then-n-w
returns-then-n-w c = λ e. missed_short _ _ c.measure-w.ensures c.if-n-w.true

pub returns-then-w-ge-NO_BOUND : goal.returns-then-w-ge-NO_BOUND
returns-then-w-ge-NO_BOUND c = λ e. absurd (false≢true e)

pub returns : goal.returns
returns c = λ e. missed_long _ _ c.measure-w.ensures c.if-w-ge-NO_BOUND.false (ltb-true _ _ e)
