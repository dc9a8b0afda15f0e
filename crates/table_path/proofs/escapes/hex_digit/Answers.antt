-- A digit below 10, or a letter.
use mathlib.Core.Path.{sym}
use Rattle.table_path.proofs.Letters.{digit_low, digit_high}
use borrow.Author.Rules.{rules}
use Rattle.table_path.proofs.escapes.hex_digit.Goals as goal

pub returns-then-d-lt10 : goal.returns-then-d-lt10
returns-then-d-lt10 c = sym (digit_low _ c.if-d-lt10.true)

pub returns : goal.returns
returns c = sym (digit_high _ c.if-d-lt10.false)
