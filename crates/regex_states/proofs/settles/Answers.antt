-- `regex_states::settles` meets its contract.
use mathlib.Core.Path.{sym, ◌∙◌}
use mathlib.Core.Bool.{false≢true}
use Rattle.regex_states.proofs.settles.Goals as goal

pub returns-then-told : goal.returns-then-told
returns-then-told c = record { grows = λ e t. e; dies = λ e n. absurd (n c.if-told.true) }

pub returns-else-told : goal.returns-else-told
returns-else-told c = record { grows = λ e t. absurd (false≢true (sym c.if-told.false ∙ t)); dies = λ e n. c.dead.ensures e }
