-- `columns::lower` meets its contract.
use mathlib.Core.Path.{refl}
use mathlib.Core.Logic.{inl, inr}
use Rattle.eval_rows.proofs.columns.lower.Goals as goal

pub returns-then-c-from : goal.returns-then-c-from
returns-then-c-from c = inl refl

pub returns-then-q-c : goal.returns-then-q-c
returns-then-q-c c = inl refl

pub returns : goal.returns
returns c = inr (refl, c.if-c-from.false)
