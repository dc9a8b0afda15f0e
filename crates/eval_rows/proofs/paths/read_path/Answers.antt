-- `paths::read_path` meets its contract: what leads from a segment on leads from the one before it on.
use mathlib.Core.Path.{refl}
use native.Mathlib.Omega.{arith}
use Rattle.eval_front.specs.Heads.{head_read, name_ends, index_ends}
use Rattle.eval_rows.specs.Paths.{path_in, path_bound, path_next}
use Rattle.eval_rows.specs.Paths.Leads.{stop}
use Rattle.eval_rows.proofs.paths.read_path.Goals as goal

pub loop-q-init : goal.loop-q-init
loop-q-init c = record { ask = c.requires; leads = λ e r. r }

pub bounds-plan-q : goal.bounds-plan-q
bounds-plan-q c = path_in c.loop-q.invariant.ask

pub word32-head-requires : goal.word32-head-requires
word32-head-requires c = omega (arith, path_bound c.loop-q.invariant.ask c.loop-q-test.true)

pub overflow_add-q : goal.overflow_add-q
overflow_add-q c = omega (arith, path_in c.loop-q.invariant.ask, c.loop-q.invariant.ask.few)

pub loop-q-smaller-then-head-eq-NAME_HEAD : goal.loop-q-smaller-then-head-eq-NAME_HEAD
loop-q-smaller-then-head-eq-NAME_HEAD c = omega (arith, path_in c.loop-q.invariant.ask, c.loop-q.invariant.ask.few)

pub loop-q-preserved-then-head-eq-NAME_HEAD : goal.loop-q-preserved-then-head-eq-NAME_HEAD
loop-q-preserved-then-head-eq-NAME_HEAD c = let d = head_read 5 (λ k. (c.type_inv.plan k).fits) (path_bound c.loop-q.invariant.ask c.loop-q-test.true) c.word32-head.ensures.is c.if-head-eq-NAME_HEAD.true in path_next c.loop-q.invariant 5 (omega arith) (omega arith) d _ (omega arith) (name_ends c.loop-q.invariant.ask.few d)

pub overflow_add-q-else-head-eq-NAME_HEAD : goal.overflow_add-q-else-head-eq-NAME_HEAD
overflow_add-q-else-head-eq-NAME_HEAD c = omega (arith, path_in c.loop-q.invariant.ask, c.loop-q.invariant.ask.few)

pub loop-q-smaller : goal.loop-q-smaller
loop-q-smaller c = omega (arith, path_in c.loop-q.invariant.ask, c.loop-q.invariant.ask.few)

pub loop-q-preserved : goal.loop-q-preserved
loop-q-preserved c = let d = head_read 6 (λ k. (c.type_inv.plan k).fits) (path_bound c.loop-q.invariant.ask c.loop-q-test.true) c.word32-head.ensures.is c.if-head-ne-INDEX_HEAD.false in path_next c.loop-q.invariant 6 (omega arith) (omega arith) d _ (omega arith) (index_ends c.loop-q.invariant.ask.few d)

pub returns : goal.returns
returns c = c.loop-q.invariant.leads _ (stop _ refl c.loop-q-test.false)
