-- `text::encoding::short_ascii` meets its contract.
use mathlib.Core.Bool.{false≢true}
use Rattle.text.proofs.encoding.short_ascii.Goals as goal

pub returns-then-n-s : goal.returns-then-n-s
returns-then-n-s c = λ z. absurd (false≢true z)
