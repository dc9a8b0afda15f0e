-- `form_of` meets its contract.
use Rattle.eval_filters.specs.Atoms.{form_number, form_other, form_words, form_text}
use Rattle.eval_filters.proofs.atoms.form_of.Goals as goal

pub returns-then-k-eq-INTEGER : goal.returns-then-k-eq-INTEGER
returns-then-k-eq-INTEGER c = form_number _ _ c.if-k-eq-INTEGER.true

pub returns-then-k-ne-TEXT : goal.returns-then-k-ne-TEXT
returns-then-k-ne-TEXT c = form_other _ _ c.if-k-eq-INTEGER.false c.if-k-ne-TEXT.true

pub returns-then-op-eq-EQ : goal.returns-then-op-eq-EQ
returns-then-op-eq-EQ c = form_words _ _ c.if-k-eq-INTEGER.false c.if-k-ne-TEXT.false c.if-op-eq-EQ.true

pub returns : goal.returns
returns c = form_text _ _ c.if-k-eq-INTEGER.false c.if-k-ne-TEXT.false c.if-op-eq-EQ.false
