-- `parser_items::verdicts::compared` meets its contract: the sort is looked at only where that is asked.
--
use mathlib.Core.Path.{refl}
use Rattle.parser_items.proofs.Typing.{sort_by}
use Rattle.compile_writes.specs.Sorts.{compared_verdict}
use mathlib.Core.Bool.{true}
use Rattle.parser_items.proofs.verdicts.compared.Goals as goal

pub returns-then-sort-eq3 : goal.returns-then-sort-eq3
unfolding compared_verdict
returns-then-sort-eq3 c = rw (c.if-asked.true, c.if-sort-eq3.true)

pub returns-else-sort-eq3 : goal.returns-else-sort-eq3
unfolding compared_verdict
returns-else-sort-eq3 c = rw c.if-asked.true (sort_by (compared_verdict true) 0 c.args.sort (λ e. refl) (λ e. refl) (λ e. refl) (λ e. absurd (c.if-sort-eq3.false e)) (λ e. refl) (λ e. refl))

pub returns-else-asked : goal.returns-else-asked
unfolding compared_verdict
returns-else-asked c = rw c.if-asked.false
