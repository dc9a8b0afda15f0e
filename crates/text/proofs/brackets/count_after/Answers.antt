-- `text::brackets::count_after` meets its contract, place by place.
use native.Mathlib.Omega.{arith}
use mathlib.Core.Path.{refl, sym, ◌∙◌}
use native.Mathlib.Numerals.{add-one}
use Rattle.definition.specs.Brackets.{count_after}
use Rattle.text.proofs.brackets.count_after.Goals as goal

pub returns-then-either : goal.returns-then-either
unfolding count_after
returns-then-either c = rw (c.in-Outside.is, sym c.either.ensures ∙ c.if-either.true) (add-one c.args.n)

pub returns-then-n-eq0 : goal.returns-then-n-eq0
unfolding count_after
returns-then-n-eq0 c = rw (c.in-Outside.is, sym c.either.ensures ∙ c.if-either.false, sym c.either-in-Outside.ensures ∙ c.if-either-2.true) (omega arith)

pub returns-else-n-eq0 : goal.returns-else-n-eq0
unfolding count_after
returns-else-n-eq0 c = rw (c.in-Outside.is, sym c.either.ensures ∙ c.if-either.false, sym c.either-in-Outside.ensures ∙ c.if-either-2.true) refl

pub returns-else-either-2 : goal.returns-else-either-2
unfolding count_after
returns-else-either-2 c = rw (c.in-Outside.is, sym c.either.ensures ∙ c.if-either.false, sym c.either-in-Outside.ensures ∙ c.if-either-2.false) refl

pub returns-in-Quoted : goal.returns-in-Quoted
unfolding count_after
returns-in-Quoted c = rw c.in-Quoted.is refl

pub returns-in-Escaped : goal.returns-in-Escaped
unfolding count_after
returns-in-Escaped c = rw c.in-Escaped.is refl
