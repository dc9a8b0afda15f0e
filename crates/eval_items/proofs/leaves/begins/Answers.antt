-- `begins` meets its contract: it is `begins_at` in both cases.
use borrow.Author.Tests.{eq-eqb, ne_eqb}
use Rattle.eval_items.proofs.leaves.begins.Goals as goal

pub returns-then-k-eq-ROOT : goal.returns-then-k-eq-ROOT
returns-then-k-eq-ROOT c = rw (eq-eqb c.args.k 1 c.if-k-eq-ROOT.true)

pub returns : goal.returns
returns c = rw (ne_eqb c.args.k 1 c.if-k-eq-ROOT.false)
