-- `parser_items::verdicts::nodes_verdict` meets its contract: the sorts that are nodes are those of queries.
--
use mathlib.Core.Path.{refl}
use Rattle.parser_items.proofs.Typing.{sort_by}
use native.Mathlib.Omega.{arith}
use Rattle.compile_writes.specs.Sorts.{nodes_verdict}
use Rattle.parser_items.proofs.verdicts.nodes_verdict.Goals as goal

pub returns-then-sort-eq1 : goal.returns-then-sort-eq1
unfolding nodes_verdict
returns-then-sort-eq1 c = rw c.if-sort-eq1.true

pub returns-then-sort-eq2 : goal.returns-then-sort-eq2
unfolding nodes_verdict
returns-then-sort-eq2 c = rw c.if-sort-eq2.true

pub returns-then-sort-eq5 : goal.returns-then-sort-eq5
unfolding nodes_verdict
returns-then-sort-eq5 c = rw c.if-sort-eq5.true

pub returns : goal.returns
unfolding nodes_verdict
returns c = sort_by nodes_verdict 5 c.args.sort (λ e. refl) (λ e. absurd (c.if-sort-eq1.false e)) (λ e. absurd (c.if-sort-eq2.false e)) (λ e. refl) (λ e. refl) (λ e. absurd (omega (arith, c.if-sort-eq5.false, c.requires.small)))
