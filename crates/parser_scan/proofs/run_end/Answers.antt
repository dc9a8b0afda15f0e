-- `parser_scan::run_end` meets its contract: the loop passes the bytes one by one.
use mathlib.Core.Path.{sym}
use native.Mathlib.Omega.{arith}
use Rattle.parser_scan.proofs.Runs.{passing_start, passing_step}
use Rattle.parser_scan.proofs.run_end.Goals as goal

pub loop-i-init : goal.loop-i-init
loop-i-init g c = λ p t. passing_start p c.args.s.now c.args.at c.requires.place

pub loop-i-preserved : goal.loop-i-preserved
loop-i-preserved g c = λ p t. passing_step p c.args.s.now (c.loop-i.invariant p t) c.loop-i-test.true (sym (t _ _ (omega (arith, (c.type_inv.s c.loop-i.i).fits)) c.if-not-test.ensures))
