-- Each return is the rule for some kinds.
use native.Mathlib.Omega.{arith}
use mathlib.Core.Path.{sym, ◌∙◌, ap}
use Prim.Native.Nat.{ℕ}
use lib.Dec.{eqb}
use Rattle.definition.specs.Tables.{is_finite}
use Rattle.table_laws.specs.Records.{record_plain, record_float, record_free, record_list, record_many, record_few}
use borrow.Author.Rules.{rules}
use Rattle.table.proofs.structure.payload_right.Goals as goal

pub returns-then-k-lt-KIND_INTEGER : goal.returns-then-k-lt-KIND_INTEGER
returns-then-k-lt-KIND_INTEGER c = ap (λ (x : ℕ). eqb x 0) c.payload.ensures ∙ sym (record_plain c.args.table.now c.args.node (omega arith))

pub returns-then-k-eq-KIND_FLOAT : goal.returns-then-k-eq-KIND_FLOAT
returns-then-k-eq-KIND_FLOAT c = c.finite.ensures ∙ ap is_finite c.payload-then-k-eq-KIND_FLOAT.ensures ∙ sym (record_float c.args.table.now c.args.node (omega arith))

pub returns-then-k-lt-KIND_LIST : goal.returns-then-k-lt-KIND_LIST
returns-then-k-lt-KIND_LIST c = sym (record_free c.args.table.now c.args.node (omega arith) (omega arith) (omega arith))

pub returns-then-k-eq-KIND_LIST : goal.returns-then-k-eq-KIND_LIST
returns-then-k-eq-KIND_LIST c = c.range_right.ensures ∙ sym (record_list c.args.table.now c.args.node (omega arith))

pub returns-then-high_word-gt-MAX_MEMBERS : goal.returns-then-high_word-gt-MAX_MEMBERS
returns-then-high_word-gt-MAX_MEMBERS c = sym (record_many c.args.table.now c.args.node (omega arith) (omega arith))

pub returns : goal.returns
returns c = c.range_right-2.ensures ∙ sym (record_few c.args.table.now c.args.node (omega arith) (omega arith))
