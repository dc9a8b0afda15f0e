-- `text_quoted::escapes::escape` meets its contract. The byte behind the backslash decides.
use mathlib.Core.Path.{◌∙◌, sym}
use Rattle.text_quoted.specs.Quoted.{quote_of}
use Rattle.text_quoted.proofs.Escaping.{escape_end, escape_own, escape_unicode, escape_short, escape_wrong}
use Rattle.text_quoted.proofs.escapes.escape.Goals as goal

pub returns-then-at-s : goal.returns-then-at-s
returns-then-at-s c = escape_end (quote_of c.args.quote) c.args.s.now c.args.at c.if-at-s.true

pub returns-then-b-quote : goal.returns-then-b-quote
returns-then-b-quote c = rw c.from.ensures (escape_own (quote_of c.args.quote) c.args.s.now c.args.at c.if-at-s.false (c.if-b-quote.true ∙ sym c.requires.0))

pub returns-then-b-eq117 : goal.returns-then-b-eq117
returns-then-b-eq117 c = escape_unicode (quote_of c.args.quote) c.args.s.now c.args.at c.unicode.result c.if-at-s.false c.if-b-eq117.true c.unicode.ensures

pub returns-in_err-c : goal.returns-in_err-c
returns-in_err-c c =
    rw c.from_residual.ensures
    (escape_wrong (quote_of c.args.quote) c.args.s.now c.args.at c.if-at-s.false (λ e. c.if-b-quote.false (e ∙ c.requires.0)) c.if-b-eq117.false c.in_err-c.ensures)

pub returns : goal.returns
returns c = escape_short (quote_of c.args.quote) c.args.s.now c.args.at c.in_ok-c.c c.if-at-s.false c.in_ok-c.ensures
