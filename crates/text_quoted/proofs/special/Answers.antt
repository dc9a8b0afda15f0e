-- `text_quoted::special` meets its contract. The byte decides: the end, the closing quote, an escape, a control character, or the other quote.
use native.Mathlib.Omega.{arith}
use mathlib.Core.Path.{◌∙◌, sym}
use Rattle.text_quoted.specs.Quoted.{quote_of}
use Rattle.text_quoted.proofs.Parts.{special_end, special_own, special_no_escape, escape_room, special_escape, special_control, special_other}
use Rattle.text_quoted.proofs.special.Goals as goal

pub returns-then-at-s : goal.returns-then-at-s
returns-then-at-s c = special_end (quote_of c.args.quote) c.args.s.now c.args.at c.args.out.now c.args.len c.requires.2 c.if-at-s.true

pub returns-then-b-quote : goal.returns-then-b-quote
returns-then-b-quote c = special_own (quote_of c.args.quote) c.args.s.now c.args.at c.args.out.now c.args.len c.if-at-s.false (c.if-b-quote.true ∙ sym c.requires.0)

pub returns-in_default : goal.returns-in_default
returns-in_default c = special_no_escape (quote_of c.args.quote) c.args.s.now c.args.at c.args.out.now c.args.len c.if-at-s.false c.if-b-eq92.true (rw c.in_default.is at c.escape.ensures)

pub put_point-end-requires : goal.put_point-end-requires
put_point-end-requires c =
    let e = rw c.in-Some.is at c.escape.ensures in
    (e.most, escape_room (quote_of c.args.quote) c.args.s.now c.args.at c.args.out.now c.args.len c.if-at-s.false c.in-Some.c c.in-Some.next e c.requires.3)

pub returns-then-b-eq92 : goal.returns-then-b-eq92
returns-then-b-eq92 c =
    let e = rw c.in-Some.is at c.escape.ensures in
    special_escape (quote_of c.args.quote) c.args.s.now c.args.at c.args.out.now c.args.len c.if-at-s.false c.in-Some.c c.in-Some.next c.put_point-end.result c.put_point-end.new.out c.if-b-eq92.true e c.put_point-end.ensures

pub returns-then-b-lt32 : goal.returns-then-b-lt32
returns-then-b-lt32 c = special_control (quote_of c.args.quote) c.args.s.now c.args.at c.args.out.now c.args.len c.if-at-s.false c.requires.1 (omega arith)

pub returns : goal.returns
returns c = special_other (quote_of c.args.quote) c.args.s.now c.args.at c.args.out.now c.args.len c.if-at-s.false c.requires.1 (omega arith) c.if-b-eq92.false (λ e. c.if-b-quote.false (e ∙ c.requires.0))
