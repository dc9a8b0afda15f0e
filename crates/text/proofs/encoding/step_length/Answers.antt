-- `text::encoding::step_length` meets its contract.
use native.Mathlib.Omega.{arith}
use mathlib.Core.Path.{sym, ◌∙◌}
use Rattle.text.proofs.States.{step_run, step_short, step_char}
use Rattle.text.proofs.encoding.step_length.Goals as goal

pub returns-then-s-at-lt8 : goal.returns-then-s-at-lt8
returns-then-s-at-lt8 c = c.char_length.ensures ∙ sym (step_short c.args.s.now c.args.at (omega arith))

pub returns-then-ascii8 : goal.returns-then-ascii8
returns-then-ascii8 c = sym (step_run c.args.s.now c.args.at (omega arith) (sym c.ascii8.ensures ∙ c.if-ascii8.true))

pub returns : goal.returns
returns c = c.char_length-2.ensures ∙ sym (step_char c.args.s.now c.args.at (sym c.ascii8.ensures ∙ c.if-ascii8.false))
