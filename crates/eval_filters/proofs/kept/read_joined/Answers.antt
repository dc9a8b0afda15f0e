-- `read_joined` meets its contract: each test that it passes says a part.
use mathlib.Core.Path.{refl, sym, ap, ◌∙◌}
use mathlib.Core.Bool.{not}
use borrow.Author.Tests.{not-false}
use Rattle.eval_filters.specs.Keeps.{join_kind_lem}
use native.Mathlib.Omega.{arith}
use Rattle.eval_filters.proofs.kept.read_joined.Goals as goal

pub returns-then-join-eq-NOT : goal.returns-then-join-eq-NOT
returns-then-join-eq-NOT c = record { same = refl; other = λ i. absurd (omega (arith, c.if-join-eq-NOT.true)); negated = λ i. (c.if-join-eq-NOT.true, c.if-q-z.false); joined = λ i. absurd (i.1 c.if-join-eq-NOT.true) }

pub returns : goal.returns
returns c =
    let k = join_kind_lem _ (sym c.is_join.ensures ∙ not-false _ (ap not c.if-not-is_join.false)) in
    let k0 = k.0 in
    record { same = refl; other = λ i. absurd (omega arith); negated = λ i. absurd (c.if-join-eq-NOT.false i); joined = λ o. record { more = c.requires.1; low = k.0; high = k.1; byte = refl; ends = omega (arith, c.if-past_sized-z.false, c.past_sized.ensures); right = c.read_atom-right.ensures c.if-right-eq0.false; next = c.if-right-z.false } }
