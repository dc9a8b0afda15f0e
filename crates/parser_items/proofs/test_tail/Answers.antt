-- `parser_items::test_tail` meets its contract: the sorts fall into three groups.
--
use mathlib.Core.Path.{refl}
use mathlib.Core.List.{[], ◌∷◌}
use Rattle.parser_items.specs.Laws.{put_none, put_put}
use Rattle.parser_items.proofs.Typing.{sort_by}
use Rattle.compile_writes.specs.Writes.{test_tail}
use Rattle.parser_items.proofs.test_tail.Goals as goal

pub returns-then-sort-eq0 : goal.returns-then-sort-eq0
unfolding test_tail
returns-then-sort-eq0 c = rw c.if-sort-eq0.true put_none

pub returns-then-sort-eq4 : goal.returns-then-sort-eq4
unfolding test_tail
returns-then-sort-eq4 c = rw c.if-sort-eq4.true put_none

pub returns-then-sort-eq3 : goal.returns-then-sort-eq3
unfolding test_tail
returns-then-sort-eq3 c = rw c.if-sort-eq3.true (put_put (put_put c.item-a.ensures c.item-b.ensures) c.item.ensures)

pub returns : goal.returns
unfolding test_tail
returns c = rw (← sort_by test_tail (24 ∷ []) c.args.sort (λ e. absurd (c.if-sort-eq0.false e)) (λ e. refl) (λ e. refl) (λ e. absurd (c.if-sort-eq3.false e)) (λ e. absurd (c.if-sort-eq4.false e)) (λ e. refl)) c.item-2.ensures
