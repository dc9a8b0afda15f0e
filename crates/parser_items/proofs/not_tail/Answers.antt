-- `parser_items::not_tail` meets its contract: the verdict on the sort is set, and the tails fall into two groups.
--
use mathlib.Core.Path.{refl}
use mathlib.Core.List.{[], ◌∷◌}
use Rattle.parser_items.specs.Laws.{marked_of, put_put}
use Rattle.parser_items.proofs.Typing.{sort_by, judged_put}
use Rattle.compile_writes.specs.Writes.{not_tail}
use Rattle.parser_items.proofs.not_tail.Goals as goal

pub returns-then-flag-eq0 : goal.returns-then-flag-eq0
unfolding not_tail
returns-then-flag-eq0 c = judged_put c.compared.ensures (rw c.if-flag-eq0.true) (marked_of c.judged-a.ensures.place c.judged-a.ensures.marks) c.item.ensures

pub returns-then-flag-eq4 : goal.returns-then-flag-eq4
unfolding not_tail
returns-then-flag-eq4 c = judged_put c.compared.ensures (rw c.if-flag-eq4.true) (marked_of c.judged-a.ensures.place c.judged-a.ensures.marks) c.item-then-flag-eq4.ensures

pub returns : goal.returns
unfolding not_tail
returns c = judged_put c.compared.ensures (sort_by not_tail (24 ∷ 21 ∷ []) c.args.flag (λ e. absurd (c.if-flag-eq0.false e)) (λ e. refl) (λ e. refl) (λ e. refl) (λ e. absurd (c.if-flag-eq4.false e)) (λ e. refl)) (marked_of c.judged-a.ensures.place c.judged-a.ensures.marks) (put_put c.item-b.ensures c.item-2.ensures)
