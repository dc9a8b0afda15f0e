-- `text::encoding::all_ascii` meets its contract.
use native.Mathlib.Omega.{arith}
use mathlib.Core.Path.{sym, ◌∙◌}
use mathlib.Core.Bool.{false≢true}
use Prim.Native.Nat.{◌-◌}
use lib.ListN.{length}
use borrow.Author.Tests.{not-false}
use Rattle.text.specs.Chars.{is_ascii}
use Rattle.text.proofs.Ascii.{every_whole}
use mathlib.Core.Path.{ap}
use mathlib.Core.Bool.{not}
use Rattle.text.proofs.encoding.all_ascii.Goals as goal

pub returns-then-not-ascii4 : goal.returns-then-not-ascii4
returns-then-not-ascii4 c = λ z. absurd (false≢true z)

pub returns : goal.returns
returns c = λ z. every_whole is_ascii c.args.s.now 4 (length c.args.s.now - 4) 4 (omega arith) (omega arith) (sym c.ascii4.ensures ∙ not-false _ (ap not c.if-not-ascii4.false)) (sym c.ascii4-2.ensures ∙ z)
