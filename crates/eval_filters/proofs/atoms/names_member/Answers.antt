-- `names_member` meets its contract: each test that it passes says a part.
use borrow.Author.Tests.{eqb-true}
use Rattle.eval_front.specs.Heads.{head_of}
use Rattle.eval_filters.specs.Atoms.{not_name}
use native.Mathlib.Omega.{arith}
use Rattle.eval_filters.proofs.atoms.names_member.Goals as goal

pub returns-then-plan-c : goal.returns-then-plan-c
returns-then-plan-c c = not_name _ _

pub returns-then-word32-ne-NAME_HEAD : goal.returns-then-word32-ne-NAME_HEAD
returns-then-word32-ne-NAME_HEAD c = not_name _ _

pub returns : goal.returns
returns c = λ e. record { head = head_of 5 (λ k. (c.type_inv.plan k).fits) (omega (arith, c.if-plan-c.false)) c.word32.ensures.is c.if-word32-ne-NAME_HEAD.false; end_is = eqb-true _ _ e; bound = omega (arith, c.if-plan-c.false) }
