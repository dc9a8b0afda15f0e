-- `literal_size` meets its contract.
use Rattle.eval_filters.specs.Atoms.{size_constant, size_text, size_number}
use Rattle.eval_filters.proofs.atoms.literal_size.Goals as goal

pub returns-then-k-eq-CONSTANT : goal.returns-then-k-eq-CONSTANT
returns-then-k-eq-CONSTANT c = size_constant _ c.if-k-eq-CONSTANT.true

pub returns-then-k-eq-TEXT : goal.returns-then-k-eq-TEXT
returns-then-k-eq-TEXT c = size_text _ c.if-k-eq-CONSTANT.false c.if-k-eq-TEXT.true

pub returns : goal.returns
returns c = size_number _ c.if-k-eq-CONSTANT.false c.if-k-eq-TEXT.false
