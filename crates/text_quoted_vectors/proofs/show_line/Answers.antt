-- A quote and UTF-8 are what unescape_string asks.
use mathlib.Core.Path.{◌∙◌, sym}
use mathlib.Core.Logic.{inl, inr}
use lib.ListN.{get_or}
use Rattle.text_quoted.specs.Laws.{own_of_quote}
use Rattle.text_quoted_vectors.proofs.show_line.Goals as goal

pub show-requires : goal.show-requires
show-requires g c = (own_of_quote (get_or c.args.line.now 0 0) (inl c.if-quote-eq34.true), sym c.is_utf8.ensures ∙ c.if-not-is_utf8.false, c.if-s-out.false)

pub show-requires-then-quote-eq39 : goal.show-requires-then-quote-eq39
show-requires-then-quote-eq39 g c = (own_of_quote (get_or c.args.line.now 0 0) (inr c.if-quote-eq39.true), sym c.is_utf8.ensures ∙ c.if-not-is_utf8.false, c.if-s-out.false)
