-- A short key, whole words, and words with the last four bytes.
use mathlib.Core.Path.{sym, ap₂, ◌∙◌}
use borrow.Author.Rules.{rules}
use Rattle.table.specs.Buckets.{mixed}
use Rattle.table.proofs.Folds.{hash_few, hash_whole, hash_more}
use Rattle.table.proofs.buckets.hash_of.Goals as goal

pub returns-then-s-lt4 : goal.returns-then-s-lt4
returns-then-s-lt4 c = (c.bytes_hash.ensures.0 ∙ sym (hash_few c.args.s.now c.if-s-lt4.true), c.bytes_hash.ensures.1)

pub returns-then-s-eq0 : goal.returns-then-s-eq0
returns-then-s-eq0 c = (c.words_hash-words.ensures.0 ∙ sym (hash_whole c.args.s.now c.if-s-lt4.false c.if-s-eq0.true), c.words_hash-words.ensures.1)

pub returns : goal.returns
returns c = (c.mix.ensures.0 ∙ ap₂ mixed c.words_hash-words.ensures.0 c.word32.ensures.is ∙ sym (hash_more c.args.s.now c.if-s-lt4.false c.if-s-eq0.false), c.mix.ensures.1)
