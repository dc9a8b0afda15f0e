-- Each return is the rule for one kind.
use native.Mathlib.Omega.{arith}
use mathlib.Core.Path.{sym, ◌∙◌, ap, ap₂}
use Prim.Native.Nat.{ℕ}
use lib.Dec.{eqb}
use Rattle.definition.specs.Tables.{is_finite, good_part}
use Rattle.table_laws.specs.Rights.{payload_plain, payload_integer, payload_float, payload_text}
use borrow.Author.Rules.{rules}
use Rattle.table.proofs.rules.value_right.Goals as goal

pub returns-then-k-lt-KIND_INTEGER : goal.returns-then-k-lt-KIND_INTEGER
returns-then-k-lt-KIND_INTEGER c = ap (λ (x : ℕ). eqb x 0) c.payload.ensures ∙ sym (payload_plain c.args.table.now c.args.text.now c.args.node (omega arith))

pub returns-then-k-lt-KIND_FLOAT : goal.returns-then-k-lt-KIND_FLOAT
returns-then-k-lt-KIND_FLOAT c = sym (payload_integer c.args.table.now c.args.text.now c.args.node (omega arith))

pub returns-then-k-lt-KIND_TEXT : goal.returns-then-k-lt-KIND_TEXT
returns-then-k-lt-KIND_TEXT c = c.finite.ensures ∙ ap is_finite c.payload-then-k-lt-KIND_TEXT.ensures ∙ sym (payload_float c.args.table.now c.args.text.now c.args.node (omega arith))

pub returns : goal.returns
returns c =
    c.good_part.ensures
    ∙ ap₂ (good_part c.args.text.now) c.low_word.ensures c.high_word.ensures
    ∙ sym (payload_text c.args.table.now c.args.text.now c.args.node (omega arith))
