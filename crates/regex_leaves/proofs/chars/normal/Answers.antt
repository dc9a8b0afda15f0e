-- `regex_leaves::chars::normal` meets its contract.
use Rattle.regex_definition.specs.Chars.{is_normal}
use Rattle.regex_leaves.proofs.OfChars.{bare_end, bare_next, bare_none}
use mathlib.Core.Path.{sym, ◌∙◌}
use native.Mathlib.Omega.{arith}
use Rattle.regex_leaves.proofs.chars.normal.Goals as goal

pub returns-in_err-c : goal.returns-in_err-c
returns-in_err-c c = rw c.from_residual.ensures (bare_end _ _ is_normal c.in_err-c.ensures.lookup.3)

pub returns-then-is_normal : goal.returns-then-is_normal
returns-then-is_normal c = let l = c.in_ok-c.ensures.lookup in bare_next _ _ is_normal l.3.0 (l.4 (omega arith) 0) (sym c.is_normal.ensures ∙ c.if-is_normal.true)

pub returns-else-is_normal : goal.returns-else-is_normal
returns-else-is_normal c = let l = c.in_ok-c.ensures.lookup in bare_none _ _ is_normal l.3.0 (l.4 (omega arith) 0) (sym c.is_normal.ensures ∙ c.if-is_normal.false)
