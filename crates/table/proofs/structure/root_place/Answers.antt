-- The root is wrong by its parent, by its depth or by its key.
use native.Mathlib.Omega.{arith}
use mathlib.Core.Path.{sym, ◌∙◌}
use Rattle.table_laws.specs.Records.{stands_number, stands_depth, stands_key}
use borrow.Author.Rules.{rules}
use Rattle.table.proofs.structure.root_place.Goals as goal

pub returns-then-parent-ne0 : goal.returns-then-parent-ne0
returns-then-parent-ne0 c = sym (stands_number c.args.table.now (omega arith))

pub returns-then-depth-ne0 : goal.returns-then-depth-ne0
returns-then-depth-ne0 c = sym (stands_depth c.args.table.now (omega arith))

pub returns : goal.returns
returns c = c.no_key.ensures ∙ sym (stands_key c.args.table.now (omega arith) (omega arith))
