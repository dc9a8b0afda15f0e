-- A list is right by its range, and so is a map of few members.
use native.Mathlib.Omega.{arith}
use mathlib.Core.Bool.{false≢true}
use mathlib.Core.Path.{sym}
use borrow.Author.Tests.{leb-true, leb-false}
use Rattle.table_laws.specs.Rights.{payload_list, payload_many, payload_few}
use borrow.Author.Rules.{rules}
use Rattle.table.proofs.rules.few_enough.Goals as goal

pub returns-then-kind-gt-KIND_LIST : goal.returns-then-kind-gt-KIND_LIST
returns-then-kind-gt-KIND_LIST c =
    record {
      range = λ z X. let w = leb-true c.high_word.result 1024 z in payload_few c.args.table.now X c.args.node (omega arith) (omega arith);
      many = λ z X. let w = leb-false c.high_word.result 1024 z in payload_many c.args.table.now X c.args.node (omega arith) (omega arith);
    }

pub returns : goal.returns
returns c = record { range = λ _ X. payload_list c.args.table.now X c.args.node (omega arith); many = λ z. absurd (false≢true (sym z)) }
