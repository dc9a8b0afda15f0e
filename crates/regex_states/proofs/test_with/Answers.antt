-- `regex_states::test_with` meets its contract.
use mathlib.Core.Path.{◌∙◌}
use Rattle.regex_states.proofs.Answers.{tested, ready, lent}
use Rattle.regex_states.proofs.test_with.Goals as goal

pub trace-requires : goal.trace-requires
trace-requires c = let g = c.requires.tables (λ z. c.if-n-eq0.false (c.from-n.ensures ∙ z)) in record { fact_1 = g; fact_2 = lent c.args.marks.now c.from-n.result c.if-marks-n.false c.from-n.ensures }

pub returns : goal.returns
returns c = let g = c.requires.tables (λ z. c.if-n-eq0.false (c.from-n.ensures ∙ z)) in record { fact_1 = tested g c.trace.ensures.ran; fact_2 = ready c.trace.ensures.tables }
