-- `parser_scan::run_end` meets its contract: the loop passes the bytes one by one.
use Prim.Native.Nat.{ℕ}
use mathlib.Core.Bool.{Bool}
use Rattle.parser_scan.specs.Text.{Tests}
use Rattle.parser_scan.proofs.Runs.{Passing}
use Rattle.parser_scan.proofs.run_end.Given as goal

abbrev pub invariant-loop-i : goal.invariant-loop-i
invariant-loop-i g l = (p : ℕ → Bool) → Tests (goal.F-post g l.test) p → Passing p l.s l.at l.i
