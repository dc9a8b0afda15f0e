-- The pass of this module: its steps are those of every pass over the nodes (`Passes`).
use native.Mathlib.Omega.{arith}
use mathlib.Core.Path.{refl}
use Prim.Native.Nat.{◌-◌}
use Rattle.table.proofs.Passes.{InPass, wrong_found, pass_ends, pass_alone, pass_parent, pass_begun, pass_kept, pass_on, pass_surely, parent_range}
use Rattle.std.proofs.lemmas.Result.{err_from_is_err_and}
use borrow.Author.Rules.{rules}
use Rattle.table.proofs.scan.rest.Goals as goal

pub loop-node-init : goal.loop-node-init
loop-node-init c = record { first_is = c.requires.start_value.0; before = c.requires.start_value.1; right = c.requires.table_nonzero.2; heads = refl; links = refl }

pub returns-then-first-node : goal.returns-then-first-node
returns-then-first-node c = pass_alone c.loop-node.invariant c.loop-node-test.true c.if-first-node.true

pub to_parent-above-requires : goal.to_parent-above-requires
to_parent-above-requires c = pass_parent c.loop-node.invariant c.loop-node-test.true c.if-first-node.false c.requires.table_nonzero.0

pub children-requires : goal.children-requires
children-requires c = record { begun = pass_begun c.loop-node.invariant c.loop-node-test.true c.requires.table_nonzero.1 c.to_parent-above.ensures.parent_at; kept = pass_kept c.loop-node.invariant c.loop-node-test.true c.requires.table_nonzero.1 c.to_parent-above.ensures.parent_at c.to_parent-above.ensures.moved; known = c.requires.known }

pub returns-in_err-passed : goal.returns-in_err-passed
returns-in_err-passed c =
    let p = err_from_is_err_and c.from_residual.result c.from_residual.ensures.1 in
    rw (p.1, p.2) (wrong_found c.in_err-passed.ensures.passed_by)

pub surely-cursor-requires : goal.surely-cursor-requires
surely-cursor-requires c = parent_range c.to_parent-above.ensures.parent_at

pub loop-node-smaller-then-passed : goal.loop-node-smaller-then-passed
loop-node-smaller-then-passed c =
    let g = c.in_ok-passed.ensures.passed_by.later in
    omega arith

pub loop-node-preserved-then-passed : goal.loop-node-preserved-then-passed
loop-node-preserved-then-passed c = pass_surely c.loop-node.invariant c.loop-node-test.true c.requires.table_nonzero.1 c.to_parent-above.ensures.parent_at c.in_ok-passed.ensures.passed_by c.in_ok-passed.ensures.kept_2 (omega (arith, c.children.auto)) (omega (arith, c.children.auto)) c.surely-cursor.ensures

pub loop-node-smaller : goal.loop-node-smaller
loop-node-smaller c =
    let g = c.in_ok-passed.ensures.passed_by.later in
    omega arith

pub loop-node-preserved : goal.loop-node-preserved
loop-node-preserved c = pass_on c.loop-node.invariant c.loop-node-test.true c.requires.table_nonzero.1 c.to_parent-above.ensures.parent_at c.in_ok-passed.ensures.passed_by c.in_ok-passed.ensures.kept_2 (omega (arith, c.children.auto)) (omega (arith, c.children.auto))

pub returns : goal.returns
returns c = pass_ends c.loop-node.invariant c.loop-node-test.false
