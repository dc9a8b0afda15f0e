-- `keep_itself` meets its contract. The loop keeps the nodes that are left; a node for which the comparison fails emits nothing.
use mathlib.Core.Path.{refl}
use Rattle.eval_filters.specs.Kept.{kept_full, kept_end, kept_passed, kept_step}
use Rattle.eval_filters.specs.Keeps.{pushed_end, kept_visit, kept_within}
use Rattle.eval_filters.specs.Itself.{itself_asks, itself_told}
use native.Mathlib.Omega.{arith}
use Rattle.eval_filters.proofs.itself.keep_itself.Goals as goal

pub loop-j-init : goal.loop-j-init
loop-j-init c = record { low = omega arith; same = refl; room = c.requires.ask_kept.room; again = λ t k f k' h g. refl }

pub shape_of-list-then-cap-a : goal.shape_of-list-then-cap-a
shape_of-list-then-cap-a c = c.loop-j.invariant.same

pub returns-then-cap-a : goal.returns-then-cap-a
returns-then-cap-a c = kept_full c.loop-j.invariant c.if-cap-a.true c.requires.ask_kept.wide

pub compare_form-requires : goal.compare_form-requires
compare_form-requires c = record { ask_node = itself_asks (kept_within c.requires.ask_kept c.loop-j.invariant c.loop-j-test.true) c.requires.ask_test c.requires.itself_at.0; form_against = c.requires.itself_at.0.form_is }

pub push-a-requires : goal.push-a-requires
push-a-requires c = record { room = c.loop-j.invariant.room; wide = omega (arith, c.loop-j.invariant.same, c.requires.ask_kept.wide); small = c.requires.ask_kept.small; number = omega (arith, c.requires.ask_kept.range (omega arith), c.requires.ask_kept.given.tab.size.few) }

pub loop-j-preserved-then-not-compare_form : goal.loop-j-preserved-then-not-compare_form
loop-j-preserved-then-not-compare_form c = kept_passed c.loop-j.invariant c.loop-j-test.true (itself_told (kept_within c.requires.ask_kept c.loop-j.invariant c.loop-j-test.true) c.requires.ask_test c.requires.itself_at.0 _ c.compare_form.ensures) c.if-not-compare_form.true

pub loop-j-preserved : goal.loop-j-preserved
loop-j-preserved c = kept_step c.loop-j.invariant c.loop-j-test.true (itself_told (kept_within c.requires.ask_kept c.loop-j.invariant c.loop-j-test.true) c.requires.ask_test c.requires.itself_at.0 _ c.compare_form.ensures) c.if-not-compare_form.false (pushed_end (kept_visit c.requires.ask_kept c.loop-j.invariant c.loop-j-test.true) _ c.requires.itself_at.1 _ _ c.push-a.ensures) c.push-a.auto.list

pub shape_of-list : goal.shape_of-list
shape_of-list c = c.loop-j.invariant.same

pub returns : goal.returns
returns c = kept_end c.loop-j.invariant c.loop-j-test.false
