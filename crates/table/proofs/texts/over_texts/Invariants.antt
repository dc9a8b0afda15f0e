-- The texts and keys of all nodes before the one that is looked at are right.
use native.Mathlib.Omega.{arith}
use borrow.Author.Tests.{not-true, not-false}
use mathlib.Core.Path.{sym, ap, ◌∙◌}
use mathlib.Core.Option.{Option}
use Prim.Native.Nat.{ℕ, ◌-◌}
use Rattle.definition.specs.Tables.{node_count, text_right, by_text}
use Rattle.definition.specs.TableOutcomes.{report_table}
use Rattle.table_laws.specs.Failing.{below_more, least_found, none_fails}
use Rattle.table.specs.Outcomes.{reported}
use Rattle.table.specs.Words.{TextsBelow}
use borrow.Author.Rules.{rules}
use Rattle.table.proofs.texts.over_texts.Given as goal

abbrev pub invariant-loop-node : goal.invariant-loop-node
invariant-loop-node l = TextsBelow l.table l.text l.node
