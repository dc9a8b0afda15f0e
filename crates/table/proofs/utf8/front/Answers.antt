-- Texts are looked for in a list whose children are not too deep.
use native.Mathlib.Omega.{arith}
use Rattle.table.proofs.Next.{listed_from, behind_none}
use borrow.Author.Rules.{rules}
use Rattle.table.proofs.utf8.front.Goals as goal

pub returns-then-size-lt-SOME : goal.returns-then-size-lt-SOME
returns-then-size-lt-SOME c = behind_none c.args.table.now c.args.text.now c.args.start c.args.above.end (omega arith) c.requires.begun.right

pub returns-then-above-ge-MAX_DEPTH : goal.returns-then-above-ge-MAX_DEPTH
returns-then-above-ge-MAX_DEPTH c = behind_none c.args.table.now c.args.text.now c.args.start c.args.above.end (omega arith) c.requires.begun.right

pub texts-requires : goal.texts-requires
texts-requires c = (listed_from c.args.table.now c.args.text.now c.args.start c.args.begin c.args.above c.requires.begun c.requires.fact c.if-above-ge-MAX_DEPTH.false, c.requires.known)

pub many_texts-requires : goal.many_texts-requires
many_texts-requires c = (listed_from c.args.table.now c.args.text.now c.args.start c.args.begin c.args.above c.requires.begun c.requires.fact c.if-above-ge-MAX_DEPTH.false, c.requires.known)
