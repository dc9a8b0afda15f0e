-- `read_counts` meets its contract: each test that it passes says a part.
use Rattle.eval_front.specs.Heads.{head_of}
use Rattle.eval_filters.specs.Keeps.{counts_at}
use native.Mathlib.Omega.{arith}
use Rattle.eval_filters.proofs.counts.read_counts.Goals as goal

pub returns-in_err-b : goal.returns-in_err-b
returns-in_err-b c = rw c.from_residual.ensures tt

pub returns : goal.returns
returns c = counts_at c.if-plan-p-ne-CURRENT.false (head_of 8 (λ k. (c.type_inv.plan k).fits) (omega (arith, c.if-z-p.false, c.requires.inside)) c.word32.ensures.is c.if-word32-ne-WILDCARD_HEAD.false) c.if-plan-c-ne-END.false c.if-plan-c-ne-COUNT.false c.if-plan-c-ne-INTEGER.false c.in_ok-b.ensures c.if-b-z.false (omega (arith, c.if-z-p.false, c.requires.inside))
