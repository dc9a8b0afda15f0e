-- `text::encoding::char_length` meets its contract.
use native.Mathlib.Omega.{arith}
use mathlib.Core.Path.{refl, sym, ap, ◌∙◌}
use Rattle.text.specs.Chars.{wait_of, length_after}
use Rattle.text.proofs.States.{after_few, char_at}
use Rattle.text.proofs.encoding.char_length.Goals as goal

pub tails_length-requires : goal.tails_length-requires
tails_length-requires c = (omega arith, after_few _ _ _ _ (ap wait_of (sym c.in-Tail.is) ∙ c.after_first.ensures))

pub returns-in-Ready : goal.returns-in-Ready
unfolding length_after
returns-in-Ready c = sym (char_at c.args.s.now c.args.at _ c.requires c.after_first.ensures ∙ rw c.in-Ready.is refl)

pub returns-in-Tail : goal.returns-in-Tail
unfolding length_after
returns-in-Tail c = c.tails_length.ensures ∙ sym (char_at c.args.s.now c.args.at _ c.requires c.after_first.ensures ∙ rw c.in-Tail.is refl)

pub returns-in-Bad : goal.returns-in-Bad
unfolding length_after
returns-in-Bad c = sym (char_at c.args.s.now c.args.at _ c.requires c.after_first.ensures ∙ rw c.in-Bad.is refl)
