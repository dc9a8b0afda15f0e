-- The digits that are left, behind the number so far, give the number.
use Rattle.std.proofs.Common.{◌∙◌, sym, arith}
use Rattle.program_lines.proofs.Laws.{decimal_step, decimal_end}
use Rattle.program_lines.proofs.read_number.Goals as goal

pub loop-b-preserved : goal.loop-b-preserved
loop-b-preserved c = decimal_step c.args.word.now c.loop-b.n c.loop-b.b-index c.loop-b-test.true ∙ c.loop-b.invariant

pub returns : goal.returns
returns c = sym (decimal_end c.args.word.now c.loop-b.n c.loop-b.b-index (omega (arith, c.loop-b-test.false))) ∙ c.loop-b.invariant
