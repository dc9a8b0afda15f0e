-- `skip_selectors` meets its contract. The loop's invariant: for all selectors there, n + 1 - m of them are left at q and end where all end.
use native.Mathlib.Omega.{arith}
use mathlib.Core.Path.{refl}
use Rattle.eval_items.specs.EndLaws.{left_step, left_first, left_last}
use Rattle.eval_items.proofs.plans.skip_selectors.Goals as goal

pub loop-m-init : goal.loop-m-init
loop-m-init c = λ ss k h e. (ss, k, record { holds = h; number = omega (arith, e); place = refl })

pub next_selector-q-requires : goal.next_selector-q-requires
next_selector-q-requires c =
    let w = c.loop-m.invariant c.requires.ss c.requires.k c.requires.holds c.requires.number in
    let f = left_first _ _ _ _ _ _ w.2 in
    record { few = c.requires.few; s = f.0; k = w.1; holds = f.1 }

pub loop-m-preserved : goal.loop-m-preserved
loop-m-preserved c = λ ss k h e. let w = c.loop-m.invariant ss k h e in let g = left_step _ _ _ _ _ _ w.2 (omega arith) _ c.next_selector-q.ensures in (g.0, g.1, record { holds = g.2.holds; number = omega (arith, g.2.number); place = g.2.place })

pub next_selector-requires : goal.next_selector-requires
next_selector-requires c =
    let w = c.loop-m.invariant c.requires.ss c.requires.k c.requires.holds c.requires.number in
    let f = left_first _ _ _ _ _ _ w.2 in
    record { few = c.requires.few; s = f.0; k = w.1; holds = f.1 }

pub returns : goal.returns
returns c = λ ss k h e. let w = c.loop-m.invariant ss k h e in left_last _ _ _ _ _ _ w.2 (omega arith) _ c.next_selector.ensures
