-- The kinds whose half is 3 are those of lists and maps.
use native.Mathlib.Omega.{arith}
use mathlib.Core.Path.{sym, ◌∙◌}
use Rattle.table.proofs.Next.{count_half, count_none}
use borrow.Author.Rules.{rules}
use Rattle.table.proofs.utf8.count.Goals as goal

pub returns-then-k : goal.returns-then-k
returns-then-k c = c.high_word-high.ensures ∙ sym (count_half c.args.table.now c.args.node (omega (arith, c.kind-k.ensures, c.if-k.true)))

pub returns : goal.returns
returns c = sym (count_none c.args.table.now c.args.node (λ z. c.if-k.false (omega (arith, c.kind-k.ensures))))
