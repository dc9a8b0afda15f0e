-- `regex_leaves::chars::class_char` meets its contract.
use Rattle.regex_definition.specs.Chars.{is_class_char}
use Rattle.regex_leaves.proofs.OfChars.{class_escape, class_bare, bare_end, bare_next, bare_none}
use mathlib.Core.Path.{sym, ◌∙◌}
use native.Mathlib.Omega.{arith}
use Rattle.regex_leaves.proofs.chars.class_char.Goals as goal

pub returns-then-is : goal.returns-then-is
returns-then-is c = class_escape _ _ (sym c.is.ensures.told ∙ c.if-is.true) c.escape.ensures

pub returns-in_err-c : goal.returns-in_err-c
returns-in_err-c c = rw c.from_residual.ensures (class_bare _ _ (sym c.is.ensures.told ∙ c.if-is.false) (bare_end _ _ is_class_char c.in_err-c.ensures.lookup.3))

pub returns-then-is_class_char : goal.returns-then-is_class_char
returns-then-is_class_char c = let l = c.in_ok-c.ensures.lookup in class_bare _ _ (sym c.is.ensures.told ∙ c.if-is.false) (bare_next _ _ is_class_char l.3.0 (l.4 (omega arith) 0) (sym c.is_class_char.ensures ∙ c.if-is_class_char.true))

pub returns-else-is_class_char : goal.returns-else-is_class_char
returns-else-is_class_char c = let l = c.in_ok-c.ensures.lookup in class_bare _ _ (sym c.is.ensures.told ∙ c.if-is.false) (bare_none _ _ is_class_char l.3.0 (l.4 (omega arith) 0) (sym c.is_class_char.ensures ∙ c.if-is_class_char.false))
