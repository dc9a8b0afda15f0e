-- `past_query` meets its contract. The loop's invariant: for every query there, some rest of its segments stands at p and ends where the query ends. The measure is what is left of the plan.
use native.Mathlib.Omega.{arith}
use mathlib.Core.Path.{refl, sym, ◌∙◌}
use Rattle.eval_items.specs.EndLaws.{spans, rest_end, rest_in}
use Rattle.eval_items.proofs.plans.past_query.Goals as goal

pub loop-p-init : goal.loop-p-init
loop-p-init c = λ f k h. (f, k, record { holds = h; place = refl })

pub bounds-plan-p : goal.bounds-plan-p
bounds-plan-p c = omega (arith, (rest_in _ _ _ _ _ (c.loop-p.invariant c.requires.f c.requires.k c.requires.holds).2).0)

pub overflow_add-p : goal.overflow_add-p
overflow_add-p c = omega (arith, c.requires.few, (rest_in _ _ _ _ _ (c.loop-p.invariant c.requires.f c.requires.k c.requires.holds).2).0)

pub word16-n-requires : goal.word16-n-requires
word16-n-requires c =
    let w = spans c.args.plan.now c.requires.few c.loop-p.p _ _ _ (c.loop-p.invariant c.requires.f c.requires.k c.requires.holds).2 c.loop-p-test.true in
    omega (arith, w.bound)

pub overflow_add-p-in-loop-p : goal.overflow_add-p-in-loop-p
overflow_add-p-in-loop-p c = omega (arith, c.requires.few, (rest_in _ _ _ _ _ (c.loop-p.invariant c.requires.f c.requires.k c.requires.holds).2).0)

pub skip_selectors-p-requires : goal.skip_selectors-p-requires
skip_selectors-p-requires c =
    let w = spans c.args.plan.now c.requires.few c.loop-p.p _ _ _ (c.loop-p.invariant c.requires.f c.requires.k c.requires.holds).2 c.loop-p-test.true in
    record { few = c.requires.few; ss = w.ss; k = w.k; holds = w.holds; number = sym w.count ∙ sym c.word16-n.ensures.is }

pub loop-p-smaller : goal.loop-p-smaller
loop-p-smaller c =
    let w = spans c.args.plan.now c.requires.few c.loop-p.p _ _ _ (c.loop-p.invariant c.requires.f c.requires.k c.requires.holds).2 c.loop-p-test.true in
    let e = c.skip_selectors-p.ensures w.ss w.k w.holds (sym w.count ∙ sym c.word16-n.ensures.is) in
    omega (arith, (rest_in _ _ _ _ _ (c.loop-p.invariant c.requires.f c.requires.k c.requires.holds).2).0)

pub loop-p-preserved : goal.loop-p-preserved
loop-p-preserved c =
    λ f k h.
    let w = spans c.args.plan.now c.requires.few c.loop-p.p _ _ _ (c.loop-p.invariant f k h).2 c.loop-p-test.true in
    (w.q, w.k', w.after _ (c.skip_selectors-p.ensures w.ss w.k w.holds (sym w.count ∙ sym c.word16-n.ensures.is)))

pub overflow_add-result : goal.overflow_add-result
overflow_add-result c = omega (arith, c.requires.few, (rest_in _ _ _ _ _ (c.loop-p.invariant c.requires.f c.requires.k c.requires.holds).2).0)

pub returns : goal.returns
returns c = λ f k h. let w = c.loop-p.invariant f k h in rest_end _ _ _ _ _ w.2 c.loop-p-test.false
