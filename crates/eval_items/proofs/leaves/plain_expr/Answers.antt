-- `plain_expr` meets its contract: each kind of operation goes to the function for it.
use native.Mathlib.Omega.{arith}
use Rattle.eval_items.specs.OpLaws.{op_in, narrower, literal_low, regex_kind_lem}
use Rattle.eval_items.proofs.leaves.plain_expr.Goals as goal

pub bounds-plan-q : goal.bounds-plan-q
bounds-plan-q c = omega (arith, op_in c.requires)

pub literal_expr-requires : goal.literal_expr-requires
literal_expr-requires c = narrower c.requires 0x10 0x13 (literal_low c.requires (omega arith)) c.if-k-le-CONSTANT.true

pub returns-then-k-le-CONSTANT : goal.returns-then-k-le-CONSTANT
returns-then-k-le-CONSTANT c = c.literal_expr.ensures

pub compare_expr-requires : goal.compare_expr-requires
compare_expr-requires c = narrower c.requires 0x14 0x14 (omega arith) (omega arith)

pub returns-then-k-eq-COMPARE : goal.returns-then-k-eq-COMPARE
returns-then-k-eq-COMPARE c = c.compare_expr.ensures

pub not_expr-requires : goal.not_expr-requires
not_expr-requires c = narrower c.requires 0x15 0x15 (omega arith) (omega arith)

pub returns-then-k-eq-NOT : goal.returns-then-k-eq-NOT
returns-then-k-eq-NOT c = c.not_expr.ensures

pub right_operand-requires : goal.right_operand-requires
right_operand-requires c = narrower c.requires 0x16 0x17 (omega arith) (omega arith)

pub returns-then-k-le-OR : goal.returns-then-k-le-OR
returns-then-k-le-OR c = c.right_operand.ensures

pub truth_expr-requires : goal.truth_expr-requires
truth_expr-requires c = narrower c.requires 0x18 0x18 (omega arith) (omega arith)

pub returns-then-k-eq-TEST : goal.returns-then-k-eq-TEST
returns-then-k-eq-TEST c = c.truth_expr.ensures

pub length_expr-requires : goal.length_expr-requires
length_expr-requires c = narrower c.requires 0x1A 0x1A (omega arith) (omega arith)

pub returns-then-k-eq-LENGTH : goal.returns-then-k-eq-LENGTH
returns-then-k-eq-LENGTH c = c.length_expr.ensures

pub regex_expr-requires : goal.regex_expr-requires
regex_expr-requires c = let k = regex_kind_lem c.requires (omega arith) c.if-k-eq-TEST.false c.if-k-eq-LENGTH.false in narrower c.requires 0x1C 0x1D k.0 k.1

pub returns : goal.returns
returns c = c.regex_expr.ensures
