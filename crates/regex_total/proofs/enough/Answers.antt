-- `regex_total::enough` meets its contract.
use native.Mathlib.Omega.{arith}
use mathlib.Core.Logic.{inl, inr}
use Rattle.regex_total.proofs.enough.Goals as goal

pub returns-then-d-hi : goal.returns-then-d-hi
returns-then-d-hi c = record { low = omega arith; within = omega (arith, c.requires, c.if-d-hi.true); some = λ h d. omega (arith, h, d); all = inr (omega arith) }

pub returns-else-d-hi : goal.returns-else-d-hi
returns-else-d-hi c = record { low = c.requires; within = omega arith; some = λ h d. h; all = inl (omega arith) }
