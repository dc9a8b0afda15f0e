-- `calls::read_call` meets its contract.
use native.Mathlib.Omega.{arith}
use mathlib.Core.Path.{refl, sym, ◌∙◌}
use borrow.Author.Tests.{not-false}
use mathlib.Core.Path.{ap}
use mathlib.Core.Bool.{not}
use Rattle.eval_rows.specs.Calls.{call_read}
use Rattle.eval_rows.proofs.calls.read_call.Goals as goal

pub read_path-requires : goal.read_path-requires
read_path-requires c = c.requires.query (omega (arith, c.if-plan-q-gt-CURRENT.false))

pub returns : goal.returns
returns c = call_read (omega (arith, c.if-plan-q-gt-CURRENT.false)) c.in_ok-end.ensures c.if-plan-end-ne-TEXT.false c.word16.ensures.is c.word16-2.ensures.is refl (sym c.is_regex.ensures ∙ not-false _ (ap not c.if-not-is_regex.false)) (omega (arith, c.if-z-end.false, c.if-z-q.false))
