-- `keep_counts` meets its contract. The loop keeps the nodes that are left; a node for which the test fails emits nothing.
use mathlib.Core.Path.{refl}
use Rattle.eval_filters.specs.Kept.{kept_full, kept_end, kept_passed, kept_step}
use Rattle.eval_filters.specs.Keeps.{pushed_end, kept_visit}
use native.Mathlib.Omega.{arith}
use Rattle.eval_filters.proofs.counts.keep_counts.Goals as goal

pub loop-j-init : goal.loop-j-init
loop-j-init c = record { low = omega arith; same = refl; room = c.requires.ask_kept.room; again = λ t k f k' h g. refl }

pub shape_of-list-then-cap-a : goal.shape_of-list-then-cap-a
shape_of-list-then-cap-a c = c.loop-j.invariant.same

pub returns-then-cap-a : goal.returns-then-cap-a
returns-then-cap-a c = kept_full c.loop-j.invariant c.if-cap-a.true c.requires.ask_kept.wide

pub count_passes-requires : goal.count_passes-requires
count_passes-requires c = record { within = record { few_p = c.requires.ask_kept.given.few_p; few_l = c.requires.ask_kept.given.few_l; tab = c.requires.ask_kept.given.tab; root_in = c.requires.ask_kept.root_in; node_in = omega (arith, c.requires.ask_kept.range (omega arith)) }; ask_test = c.requires.ask_test; counts_at = c.requires.counts_at.0 }

pub push-a-requires : goal.push-a-requires
push-a-requires c = record { room = c.loop-j.invariant.room; wide = omega (arith, c.loop-j.invariant.same, c.requires.ask_kept.wide); small = c.requires.ask_kept.small; number = omega (arith, c.requires.ask_kept.range (omega arith), c.requires.ask_kept.given.tab.size.few) }

pub loop-j-preserved-then-not-count_passes : goal.loop-j-preserved-then-not-count_passes
loop-j-preserved-then-not-count_passes c = kept_passed c.loop-j.invariant c.loop-j-test.true c.count_passes.ensures c.if-not-count_passes.true

pub loop-j-preserved : goal.loop-j-preserved
loop-j-preserved c = kept_step c.loop-j.invariant c.loop-j-test.true c.count_passes.ensures c.if-not-count_passes.false (pushed_end (kept_visit c.requires.ask_kept c.loop-j.invariant c.loop-j-test.true) _ c.requires.counts_at.1 _ _ c.push-a.ensures) c.push-a.auto.list

pub shape_of-list : goal.shape_of-list
shape_of-list c = c.loop-j.invariant.same

pub returns : goal.returns
returns c = kept_end c.loop-j.invariant c.loop-j-test.false
