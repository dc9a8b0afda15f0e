-- `parser_scan::keyword_at` meets its contract: the words are compared one by one.
--
use mathlib.Core.Path.{sym, ◌∙◌}
use Rattle.parser_scan.specs.Text.{keyword_number}
use Rattle.parser_scan.proofs.keyword_at.Goals as goal

pub returns-then-same_bytes : goal.returns-then-same_bytes
unfolding keyword_number
returns-then-same_bytes c = rw (sym c.same_bytes.ensures ∙ c.if-same_bytes.true)

pub returns-then-same_bytes-2 : goal.returns-then-same_bytes-2
unfolding keyword_number
returns-then-same_bytes-2 c = rw (sym c.same_bytes.ensures ∙ c.if-same_bytes.false, sym c.same_bytes-2.ensures ∙ c.if-same_bytes-2.true)

pub returns-then-same_bytes-3 : goal.returns-then-same_bytes-3
unfolding keyword_number
returns-then-same_bytes-3 c = rw (sym c.same_bytes.ensures ∙ c.if-same_bytes.false, sym c.same_bytes-2.ensures ∙ c.if-same_bytes-2.false, sym c.same_bytes-3.ensures ∙ c.if-same_bytes-3.true)

pub returns : goal.returns
unfolding keyword_number
returns c = rw (sym c.same_bytes.ensures ∙ c.if-same_bytes.false, sym c.same_bytes-2.ensures ∙ c.if-same_bytes-2.false, sym c.same_bytes-3.ensures ∙ c.if-same_bytes-3.false)
