-- A parent of the last depth has no child; else bytes 0-3 without the kind are those of the depth, and the number is read.
use native.Mathlib.Omega.{arith}
use Prim.Native.Nat.{◌+◌}
use mathlib.Core.Bool.{false≢true}
use mathlib.Core.Path.{sym, ◌∙◌}
use borrow.Author.Tests.{eqb-true, eq-eqb}
use Rattle.table_laws.specs.Rights.{depth_small}
use Rattle.table.proofs.Under.{head_of, depth_of, head_is}
use borrow.Author.Rules.{rules}
use Rattle.table.proofs.rules.stands_under.Goals as goal

pub returns-then-above-ge-MAX_DEPTH : goal.returns-then-above-ge-MAX_DEPTH
returns-then-above-ge-MAX_DEPTH c = record { under = λ z. absurd (false≢true z); value = λ u. let x = depth_small c.args.table.now c.args.node u.head in let y = u.deeper in absurd (omega arith) }

pub returns-then-head-depth : goal.returns-then-head-depth
returns-then-head-depth c = record { under = λ z. absurd (false≢true z); value = λ u. let y = u.deeper in absurd (c.if-head-depth.true (head_is c.args.table.now c.args.node _ (c.args.above.depth + 1) c.head.ensures u.head (omega arith))) }

pub returns : goal.returns
returns c =
    let x = depth_of c.args.table.now c.args.node _ (c.args.above.depth + 1) c.head.ensures (omega arith) c.if-head-depth.false in
    record { under = λ z. record { head = head_of c.args.table.now c.args.node _ (c.args.above.depth + 1) c.head.ensures (omega arith) c.if-head-depth.false; number = sym c.parent.ensures ∙ eqb-true _ _ z; deeper = omega arith }; value = λ u. eq-eqb _ _ (c.parent.ensures ∙ u.number) }
