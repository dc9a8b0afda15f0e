-- `text::brackets::place_after` meets its contract, place by place.
use mathlib.Core.Path.{refl, sym, ◌∙◌}
use borrow.Author.Tests.{eq-eqb, ne_eqb}
use Rattle.definition.specs.Brackets.{place_after}
use Rattle.text.proofs.brackets.place_after.Goals as goal

pub returns-then-either : goal.returns-then-either
unfolding place_after
returns-then-either c = rw (c.in-Outside.is, sym c.either.ensures ∙ c.if-either.true) refl

pub returns-then-b-q : goal.returns-then-b-q
unfolding place_after
returns-then-b-q c = rw (c.in-Quoted.is, eq-eqb _ _ c.if-b-q.true) refl

pub returns-then-b-eq92 : goal.returns-then-b-eq92
unfolding place_after
returns-then-b-eq92 c = rw (c.in-Quoted.is, ne_eqb _ _ c.if-b-q.false, eq-eqb _ _ c.if-b-eq92.true) refl

pub returns-else-either : goal.returns-else-either
unfolding place_after
returns-else-either c = rw (c.in-Outside.is, sym c.either.ensures ∙ c.if-either.false) refl

pub returns-else-b-eq92 : goal.returns-else-b-eq92
unfolding place_after
returns-else-b-eq92 c = rw (c.in-Quoted.is, ne_eqb _ _ c.if-b-q.false, ne_eqb _ _ c.if-b-eq92.false) refl

pub returns-in-Escaped : goal.returns-in-Escaped
unfolding place_after
returns-in-Escaped c = rw c.in-Escaped.is refl
