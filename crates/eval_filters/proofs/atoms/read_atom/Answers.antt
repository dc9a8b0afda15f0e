-- `read_atom` meets its contract: each test that it passes says a part.
use mathlib.Core.Path.{refl}
use borrow.Author.Tests.{not-false}
use Rattle.eval_filters.specs.Atoms.{form_none, form_says}
use native.Mathlib.Omega.{arith}
use mathlib.Core.Path.{ap}
use mathlib.Core.Bool.{not}
use Rattle.eval_filters.proofs.atoms.read_atom.Goals as goal

pub returns-then-e-q : goal.returns-then-e-q
returns-then-e-q c = λ n. absurd (n c.no_atom.ensures)

pub returns-then-plan-q-ne-CURRENT : goal.returns-then-plan-q-ne-CURRENT
returns-then-plan-q-ne-CURRENT c = λ n. absurd (n c.no_atom-then-plan-q-ne-CURRENT.ensures)

pub returns-then-not-names_member : goal.returns-then-not-names_member
returns-then-not-names_member c = λ n. absurd (n c.no_atom-then-not-names_member.ensures)

pub returns-then-k-eq-TEST : goal.returns-then-k-eq-TEST
returns-then-k-eq-TEST c = λ n. record { current = c.if-plan-q-ne-CURRENT.false; here = c.names_member.ensures (not-false _ (ap not c.if-not-names_member.false)); start_is = c.word16-start.ensures.is; size_is = c.word16-size.ensures.is; has = λ i. (c.if-k-eq-TEST.true, refl); compared = λ i. absurd (i refl); form_is = form_none _ _ _ (omega arith); more = omega (arith, c.if-e-q.false); room = omega (arith, c.if-e-q.false, c.requires.inside) }

pub returns-in_default : goal.returns-in_default
returns-in_default c = λ n. absurd (n c.no_atom-in_default.ensures)

pub returns : goal.returns
returns c =
    λ n.
    record {
      current = c.if-plan-q-ne-CURRENT.false;
      here = c.names_member.ensures (not-false _ (ap not c.if-not-names_member.false));
      start_is = c.word16-start.ensures.is;
      size_is = c.word16-size.ensures.is;
      has = λ i. absurd ((form_says _ _ _ c.form_of.ensures).0 i);
      compared = λ i. c.in-Some.ensures;
      form_is = (form_says _ _ _ c.form_of.ensures).1;
      more = omega (arith, c.if-e-q.false);
      room = omega (arith, c.if-e-q.false, c.requires.inside);
    }
