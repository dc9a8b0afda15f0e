-- `parser_scan::skip_blanks` meets its contract: a blank and the run of blanks behind it, or no blank.
use mathlib.Core.Path.{sym, ◌∙◌}
use Rattle.definition.specs.Lexical.{is_blank}
use Rattle.parser_scan.proofs.Runs.{skipped, run_first, passing_start, passing_stop, passing_end}
use Rattle.parser_scan.proofs.skip_blanks.Goals as goal
use Rattle.parser_scan.proofs.skip_blanks.Goals.{else-at-s-via-then-at-s+else-is_blank, else-at-s-via-else-at-s}

pub returns-then-is_blank : goal.returns-then-is_blank
returns-then-is_blank c = skipped (run_first is_blank c.args.s.now c.if-at-s.true (sym c.is_blank.ensures ∙ c.if-is_blank.true) (c.run_end.ensures is_blank (λ x b h k. k)))

pub returns : goal.returns
returns c =
    let k = passing_start is_blank c.args.s.now c.args.at c.requires in
    skipped (elim c.else-at-s.branch [ else-at-s-via-then-at-s+else-is_blank w ↦ passing_stop is_blank c.args.s.now k w.if-at-s.true (sym w.is_blank.ensures ∙ w.if-is_blank.false) | else-at-s-via-else-at-s w ↦ passing_end is_blank c.args.s.now k w.if-at-s.false ])
