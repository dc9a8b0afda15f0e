-- `number_digits::digits` meets its contract. The loop's invariant: what was passed are digits, and they write `acc`.
use mathlib.Core.Path.{sym, ap, ◌∙◌, ◌≡◌}
use Prim.Native.Nat.{ℕ, ◌+◌, ◌*◌, min}
use lib.ListN.{length}
use native.Mathlib.Omega.{arith}
use Rattle.number_digits.specs.Runs.{limit}
use Rattle.number_digits.proofs.Loops.{begin, pass, at_end, stops}
use Rattle.number_digits.proofs.digits.Goals as goal

pub loop-i-init : goal.loop-i-init
loop-i-init c = begin _ _ _ c.requires.0 c.requires.1

pub returns-then-not-is_ascii_digit : goal.returns-then-not-is_ascii_digit
returns-then-not-is_ascii_digit c = stops _ _ _ _ _ c.loop-i.invariant c.loop-i-test.true (sym c.is_ascii_digit.ensures.value ∙ c.if-not-is_ascii_digit.true)

pub loop-i-preserved : goal.loop-i-preserved
loop-i-preserved c =
    let e = c.push-acc.ensures ∙ ap (λ (z : ℕ). min limit (c.loop-i.acc * 10 + z)) c.from.ensures in
    rw e (pass _ _ _ _ _ c.loop-i.invariant c.loop-i-test.true (sym c.is_ascii_digit.ensures.value ∙ c.if-not-is_ascii_digit.false))

pub returns : goal.returns
returns c =
    let t = c.loop-i.invariant.to in
    let e : c.loop-i.i ≡ length c.args.s.now = omega arith in
    rw e at (at_end _ _ _ _ _ c.loop-i.invariant c.loop-i-test.false)
