-- The answers of the cycle of calls {skip}.
use Rattle.regex_code.proofs.Laws.{skip_nothing, skip_empty, skip_class as skip-class-at, skip_then, skip_or, skip_upto, skip_any, skip_other}
use native.Mathlib.Omega.{arith}
use Rattle.regex_code.proofs.+skip.Goals as goal

-- skip
pub returns-then-code-at : goal.returns-then-code-at
returns-then-code-at t c = skip_nothing _ _ c.if-code-at.true

-- skip
pub returns-then-k-eq0 : goal.returns-then-k-eq0
returns-then-k-eq0 t c = skip_empty _ _ c.if-code-at.false c.if-k-eq0.true

-- skip
pub skip_class-requires : goal.skip_class-requires
skip_class-requires t c = omega (arith, c.if-code-at.false)

-- skip
pub returns-then-k-eq1 : goal.returns-then-k-eq1
returns-then-k-eq1 t c = skip-class-at _ _ c.if-code-at.false c.if-k-eq1.true c.skip_class.ensures

-- skip
pub skip-n-requires : goal.skip-n-requires
skip-n-requires t c = (omega (arith, c.decreases, c.if-code-at.false), tt)

-- skip
pub skip-requires : goal.skip-requires
skip-requires t c = (omega (arith, c.decreases, c.if-code-at.false, c.skip-n.ensures.from), tt)

-- skip
pub returns-then-k-eq2 : goal.returns-then-k-eq2
returns-then-k-eq2 t c = skip_then _ _ c.if-code-at.false c.if-k-eq2.true c.skip-n.ensures c.skip.ensures

-- skip
pub skip-n-requires-then-k-eq3 : goal.skip-n-requires-then-k-eq3
skip-n-requires-then-k-eq3 t c = (omega (arith, c.decreases, c.if-code-at.false), tt)

-- skip
pub skip-requires-then-k-eq3 : goal.skip-requires-then-k-eq3
skip-requires-then-k-eq3 t c = (omega (arith, c.decreases, c.if-code-at.false, c.skip-n-then-k-eq3.ensures.from), tt)

-- skip
pub returns-then-k-eq3 : goal.returns-then-k-eq3
returns-then-k-eq3 t c = skip_or _ _ c.if-code-at.false c.if-k-eq3.true c.skip-n-then-k-eq3.ensures c.skip-then-k-eq3.ensures

-- skip
pub skip-requires-then-k-eq4 : goal.skip-requires-then-k-eq4
skip-requires-then-k-eq4 t c = (omega (arith, c.decreases, c.if-code-at.false), tt)

-- skip
pub returns-then-k-eq4 : goal.returns-then-k-eq4
returns-then-k-eq4 t c = skip_upto _ _ c.if-code-at.false c.if-k-eq4.true c.skip-then-k-eq4.ensures

-- skip
pub skip-requires-then-k-eq5 : goal.skip-requires-then-k-eq5
skip-requires-then-k-eq5 t c = (omega (arith, c.decreases, c.if-code-at.false), tt)

-- skip
pub returns-then-k-eq5 : goal.returns-then-k-eq5
returns-then-k-eq5 t c = skip_any _ _ c.if-code-at.false c.if-k-eq5.true c.skip-then-k-eq5.ensures

-- skip
pub returns : goal.returns
returns t c = skip_other _ _ c.if-code-at.false c.if-k-eq0.false c.if-k-eq1.false c.if-k-eq2.false c.if-k-eq3.false c.if-k-eq4.false c.if-k-eq5.false
