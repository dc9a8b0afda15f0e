-- `plan_items::literal` meets its contract.
use Rattle.plan_items.proofs.Words.{kind_in_at}
use Rattle.plan_items.proofs.Called.{literal_integer, literal_float, literal_text, literal_constant, literal_none}
use native.Mathlib.Omega.{arith}
use Rattle.plan_items.proofs.literal.Goals as goal

pub overflow_add-at : goal.overflow_add-at
overflow_add-at c = omega (arith, kind_in_at c.kind-k.ensures c.if-k-eq-INTEGER.true)

pub integer-requires : goal.integer-requires
integer-requires c = kind_in_at c.kind-k.ensures c.if-k-eq-INTEGER.true

pub returns-then-k-eq-INTEGER : goal.returns-then-k-eq-INTEGER
returns-then-k-eq-INTEGER c = literal_integer c.requires c.kind-k.ensures c.if-k-eq-INTEGER.true c.integer.ensures

pub overflow_add-at-then-k-eq-FLOAT : goal.overflow_add-at-then-k-eq-FLOAT
overflow_add-at-then-k-eq-FLOAT c = omega (arith, kind_in_at c.kind-k.ensures c.if-k-eq-FLOAT.true)

pub float-requires : goal.float-requires
float-requires c = kind_in_at c.kind-k.ensures c.if-k-eq-FLOAT.true

pub returns-then-k-eq-FLOAT : goal.returns-then-k-eq-FLOAT
returns-then-k-eq-FLOAT c = literal_float c.requires c.kind-k.ensures c.if-k-eq-FLOAT.true c.float.ensures

pub overflow_add-at-then-k-eq-TEXT : goal.overflow_add-at-then-k-eq-TEXT
overflow_add-at-then-k-eq-TEXT c = omega (arith, kind_in_at c.kind-k.ensures c.if-k-eq-TEXT.true)

pub text-requires : goal.text-requires
text-requires c = record { plan = kind_in_at c.kind-k.ensures c.if-k-eq-TEXT.true; pool = c.requires.pool; few = c.requires.few }

pub returns-then-k-eq-TEXT : goal.returns-then-k-eq-TEXT
returns-then-k-eq-TEXT c = literal_text c.requires c.kind-k.ensures c.if-k-eq-TEXT.true c.text.ensures

pub overflow_add-at-then-k-eq-CONSTANT : goal.overflow_add-at-then-k-eq-CONSTANT
overflow_add-at-then-k-eq-CONSTANT c = omega (arith, kind_in_at c.kind-k.ensures c.if-k-eq-CONSTANT.true)

pub returns-then-k-eq-CONSTANT : goal.returns-then-k-eq-CONSTANT
returns-then-k-eq-CONSTANT c = literal_constant c.requires c.kind-k.ensures c.if-k-eq-CONSTANT.true c.small.ensures

pub returns : goal.returns
returns c = literal_none c.kind-k.ensures c.if-k-eq-INTEGER.false c.if-k-eq-FLOAT.false c.if-k-eq-TEXT.false c.if-k-eq-CONSTANT.false
