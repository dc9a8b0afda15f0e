-- `text::encoding::short_known` meets its contract.
use native.Mathlib.Omega.{arith}
use mathlib.Core.Path.{sym, ◌∙◌}
use Rattle.text.proofs.encoding.short_known.Goals as goal

pub returns-then-short_ascii : goal.returns-then-short_ascii
returns-then-short_ascii c = record { ascii = λ _. c.short_ascii.ensures c.if-short_ascii.true; utf8 = λ e. absurd (omega arith) }

pub returns-then-n-s : goal.returns-then-n-s
returns-then-n-s c = record { ascii = λ e. absurd (omega arith); utf8 = λ e. absurd (omega arith) }

pub returns-then-is_utf8 : goal.returns-then-is_utf8
returns-then-is_utf8 c = record { ascii = λ e. absurd (omega arith); utf8 = λ _. sym c.is_utf8.ensures ∙ c.if-is_utf8.true }

pub returns-else-is_utf8 : goal.returns-else-is_utf8
returns-else-is_utf8 c = record { ascii = λ e. absurd (omega arith); utf8 = λ e. absurd (omega arith) }
