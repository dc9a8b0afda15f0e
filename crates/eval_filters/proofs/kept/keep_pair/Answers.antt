-- `keep_pair` meets its contract. The loop keeps the nodes that are left; a node for which the test fails emits nothing.
use mathlib.Core.Path.{refl}
use borrow.Author.Tests.{not-true, not-false}
use Rattle.eval_filters.specs.Kept.{kept_full, kept_end, kept_passed, kept_step}
use native.Mathlib.Omega.{arith}
use Rattle.eval_filters.proofs.kept.keep_pair.Goals as goal

pub loop-j-init : goal.loop-j-init
loop-j-init c = record { low = omega arith; same = refl; room = c.requires.ask_kept.room; again = λ t k f k' h g. refl }

pub shape_of-list-then-cap-a : goal.shape_of-list-then-cap-a
shape_of-list-then-cap-a c = c.loop-j.invariant.same

pub returns-then-cap-a : goal.returns-then-cap-a
returns-then-cap-a c = kept_full c.loop-j.invariant c.if-cap-a.true c.requires.ask_kept.wide

pub passes-b-requires : goal.passes-b-requires
passes-b-requires c = record { within = record { few_p = c.requires.ask_kept.given.few_p; few_l = c.requires.ask_kept.given.few_l; tab = c.requires.ask_kept.given.tab; root_in = c.requires.ask_kept.root_in; node_in = omega (arith, c.requires.ask_kept.range (omega arith)) }; ask_test = c.requires.ask_test; pair_at = c.requires.pair_at }

pub push_tail-v-requires : goal.push_tail-v-requires
push_tail-v-requires c = record { ask_visit = record { given = c.requires.ask_kept.given; node_in = omega (arith, c.requires.ask_kept.range (omega arith)); query = c.requires.ask_kept.query; room = c.loop-j.invariant.room; wide = omega (arith, c.loop-j.invariant.same, c.requires.ask_kept.wide); small = c.requires.ask_kept.small }; tail_at = c.requires.tail_at }

pub loop-j-preserved-then-not-b : goal.loop-j-preserved-then-not-b
loop-j-preserved-then-not-b c = kept_passed c.loop-j.invariant c.loop-j-test.true c.passes-b.ensures (not-true _ c.if-not-b.true)

pub loop-j-preserved : goal.loop-j-preserved
loop-j-preserved c = kept_step c.loop-j.invariant c.loop-j-test.true c.passes-b.ensures (not-false _ c.if-not-b.false) c.push_tail-v.ensures c.push_tail-v.auto.list

pub shape_of-list : goal.shape_of-list
shape_of-list c = c.loop-j.invariant.same

pub returns : goal.returns
returns c = kept_end c.loop-j.invariant c.loop-j-test.false
