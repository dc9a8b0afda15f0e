-- `reach` meets its contract: the query from the node that is reached is the query from the first. The first four bytes of a segment say what it is.
--
use native.Mathlib.Omega.{arith}
use Rattle.eval_laws.specs.Items.{segments_in}
use Rattle.eval_front.specs.Fronts.{along_start, one_asked, done_lost, done_found, reach_next}
use Rattle.eval_front.specs.Heads.{head_of, name_read, name_ends, index_ends}
use Rattle.eval_front.proofs.reach.Goals as goal

pub loop-q-init : goal.loop-q-init
loop-q-init c = record { node_in = c.requires.node_in; deeper = omega arith; later = omega arith; query = c.requires.query; front = λ f k at. along_start at }

pub overflow_add-q : goal.overflow_add-q
overflow_add-q c = omega (arith, segments_in _ _ _ c.loop-q.invariant.query.k c.loop-q.invariant.query.f c.loop-q.invariant.query.at, c.requires.given.few_p)

pub named-found-requires : goal.named-found-requires
named-found-requires c =
    let d = head_of 5 (λ k. (c.type_inv.plan k).fits) c.loop-q-test.true c.word32-head.ensures.is c.if-head-eq-NAME_HEAD.true in
    record { ask_one = one_asked c.requires.given c.loop-q.invariant d; start_value = name_read _ c.word16-a.ensures c.word16-n.ensures }

pub returns-in_default : goal.returns-in_default
returns-in_default c =
    let d = head_of 5 (λ k. (c.type_inv.plan k).fits) c.loop-q-test.true c.word32-head.ensures.is c.if-head-eq-NAME_HEAD.true in
    done_lost c.requires.given c.loop-q.invariant d _ c.named-found.ensures c.in_default.is

pub loop-q-preserved-then-head-eq-NAME_HEAD : goal.loop-q-preserved-then-head-eq-NAME_HEAD
loop-q-preserved-then-head-eq-NAME_HEAD c =
    let d = head_of 5 (λ k. (c.type_inv.plan k).fits) c.loop-q-test.true c.word32-head.ensures.is c.if-head-eq-NAME_HEAD.true in
    reach_next c.requires.given c.loop-q.invariant d _ c.named-found.ensures _ c.in-Some.is _ (name_ends c.requires.given.few_p d)

pub returns-then-head-ne-INDEX_HEAD : goal.returns-then-head-ne-INDEX_HEAD
returns-then-head-ne-INDEX_HEAD c = done_found c.loop-q.invariant

pub get_by_index-found-requires : goal.get_by_index-found-requires
get_by_index-found-requires c =
    let d = head_of 6 (λ k. (c.type_inv.plan k).fits) c.loop-q-test.true c.word32-head.ensures.is c.if-head-ne-INDEX_HEAD.false in
    one_asked c.requires.given c.loop-q.invariant d

pub returns-in_default-found : goal.returns-in_default-found
returns-in_default-found c =
    let d = head_of 6 (λ k. (c.type_inv.plan k).fits) c.loop-q-test.true c.word32-head.ensures.is c.if-head-ne-INDEX_HEAD.false in
    done_lost c.requires.given c.loop-q.invariant d _ c.get_by_index-found.ensures c.in_default-found.is

pub loop-q-preserved : goal.loop-q-preserved
loop-q-preserved c =
    let d = head_of 6 (λ k. (c.type_inv.plan k).fits) c.loop-q-test.true c.word32-head.ensures.is c.if-head-ne-INDEX_HEAD.false in
    reach_next c.requires.given c.loop-q.invariant d _ c.get_by_index-found.ensures _ c.in-Some-found.is _ (index_ends c.requires.given.few_p d)

pub returns : goal.returns
returns c = done_found c.loop-q.invariant
