-- `regex_match::has_room` meets its contract.
use mathlib.Core.Bool.{false≢true}
use borrow.Author.Tests.{leb-true}
use Rattle.regex_match.proofs.has_room.Goals as goal

pub returns-then-words-gt-MAX_CODE : goal.returns-then-words-gt-MAX_CODE
returns-then-words-gt-MAX_CODE c = λ e. absurd (false≢true e)

pub returns : goal.returns
returns c = λ e. (c.if-words-gt-MAX_CODE.false, leb-true _ _ e)
