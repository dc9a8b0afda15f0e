-- `parser_items::write_keyword` meets its contract: the word is looked for among the three, and its constant is put.
--
use mathlib.Core.Path.{refl}
use Rattle.parser_items.proofs.Words.{word_none, word_done, keyword_some}
use Rattle.parser_items.proofs.write_keyword.Goals as goal

pub returns-in_default : goal.returns-in_default
returns-in_default c = λ L. word_none c.args.st c.requires.word_at (rw c.in_default.is at c.keyword_at.ensures) refl

pub returns : goal.returns
returns c = λ L. word_done c.args.st c.requires.word_at L (rw c.in-Some.is at c.keyword_at.ensures) (keyword_some _) c.requires.s_value c.item-a.ensures (rw c.word_byte.ensures at c.item-b.ensures) (c.moved.ensures.place, (c.moved.ensures.lengths, c.moved.ensures.marks))
