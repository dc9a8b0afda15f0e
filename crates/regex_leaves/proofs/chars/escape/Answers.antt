-- `regex_leaves::chars::escape` meets its contract.
use Rattle.regex_leaves.proofs.OfChars.{escape_end, escape_next, escape_none}
use mathlib.Core.Path.{sym, ◌∙◌}
use native.Mathlib.Omega.{arith}
use Rattle.regex_leaves.proofs.chars.escape.Goals as goal

pub returns-in_err-c : goal.returns-in_err-c
returns-in_err-c c = rw c.from_residual.ensures (escape_end _ _ c.in_err-c.ensures.lookup.3)

pub returns-then-is_escaped : goal.returns-then-is_escaped
returns-then-is_escaped c = let l = c.in_ok-c.ensures.lookup in escape_next _ _ l.3.0 (l.4 (omega arith) 0) (sym c.is_escaped.ensures ∙ c.if-is_escaped.true) _ c.escape_value.ensures

pub returns-else-is_escaped : goal.returns-else-is_escaped
returns-else-is_escaped c = let l = c.in_ok-c.ensures.lookup in escape_none _ _ l.3.0 (l.4 (omega arith) 0) (sym c.is_escaped.ensures ∙ c.if-is_escaped.false)
