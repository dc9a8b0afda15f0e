-- `text::brackets::opening` meets its contract. What was counted and what is left give the whole.
use mathlib.Core.Path.{sym, ◌∙◌}
use mathlib.Core.Bool.{true, false}
use native.Mathlib.Omega.{arith}
use Rattle.text.proofs.Counts.{opening_on, opening_behind}
use Rattle.text.proofs.brackets.opening.Goals as goal
use Rattle.text.proofs.brackets.opening.Goals.{then-either, else-either}

pub loop-b-preserved : goal.loop-b-preserved
loop-b-preserved c =
    elim c.if-either.branch [
      | then-either w ↦ (let o = opening_on c.args.s.now c.loop-b.b-index (omega arith) true (sym w.if-either.true ∙ c.either.ensures) in (omega arith, omega (arith, o, w.n-is, c.loop-b.invariant.1)))
      | else-either w ↦ (let o = opening_on c.args.s.now c.loop-b.b-index (omega arith) false (sym w.if-either.false ∙ c.either.ensures) in (omega arith, omega (arith, o, w.n-is, c.loop-b.invariant.1)))
    ]

pub returns : goal.returns
returns c =
    let o = opening_behind c.args.s.now c.loop-b.b-index (omega arith) in
    omega (arith, o, c.loop-b.invariant.1)
