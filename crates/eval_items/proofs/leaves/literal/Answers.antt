-- `literal` meets its contract: by the kind that is read, the operand means every literal there.
use native.Mathlib.Omega.{arith}
use mathlib.Core.Path.{◌∙◌}
use Rattle.eval_values.specs.Floats.{bits_number}
use Rattle.eval_items.specs.LeafLaws.{literal_room, done_integer, done_float, done_text, done_constant}
use Rattle.number_integers.specs.Signs.{back}
use Rattle.eval_items.proofs.leaves.literal.Goals as goal

pub bounds-plan-q : goal.bounds-plan-q
bounds-plan-q c = omega (arith, (literal_room c.args.plan.now c.args.pool.now c.args.q c.requires).two_bytes)

pub overflow_add-q : goal.overflow_add-q
overflow_add-q c = omega (arith, (literal_room c.args.plan.now c.args.pool.now c.args.q c.requires).two_bytes)

pub int64-requires : goal.int64-requires
int64-requires c = omega (arith, (literal_room c.args.plan.now c.args.pool.now c.args.q c.requires).of_integer_lem c.if-k-eq-INTEGER.true)

pub returns-then-k-eq-INTEGER : goal.returns-then-k-eq-INTEGER
returns-then-k-eq-INTEGER c = done_integer c.args.plan.now c.args.pool.now c.args.q c.if-k-eq-INTEGER.true _ (back c.int64.result c.int64.type_inv ∙ c.int64.ensures)

pub overflow_add-q-then-k-eq-FLOAT : goal.overflow_add-q-then-k-eq-FLOAT
overflow_add-q-then-k-eq-FLOAT c = omega (arith, (literal_room c.args.plan.now c.args.pool.now c.args.q c.requires).two_bytes)

pub float64-requires : goal.float64-requires
float64-requires c = let f = (literal_room c.args.plan.now c.args.pool.now c.args.q c.requires).of_float_lem c.if-k-eq-FLOAT.true in record { at_in_bounds = omega (arith, f.0); at_value = bits_number _ f.1 }

pub returns-then-k-eq-FLOAT : goal.returns-then-k-eq-FLOAT
returns-then-k-eq-FLOAT c = done_float c.args.plan.now c.args.pool.now c.args.q c.if-k-eq-FLOAT.true _ c.float64.ensures

pub overflow_add-q-then-k-eq-TEXT : goal.overflow_add-q-then-k-eq-TEXT
overflow_add-q-then-k-eq-TEXT c = omega (arith, (literal_room c.args.plan.now c.args.pool.now c.args.q c.requires).two_bytes)

pub word16-start-requires : goal.word16-start-requires
word16-start-requires c = omega (arith, (literal_room c.args.plan.now c.args.pool.now c.args.q c.requires).of_text_lem c.if-k-eq-TEXT.true)

pub overflow_add-q-then-k-eq-TEXT-2 : goal.overflow_add-q-then-k-eq-TEXT-2
overflow_add-q-then-k-eq-TEXT-2 c = omega (arith, (literal_room c.args.plan.now c.args.pool.now c.args.q c.requires).of_text_lem c.if-k-eq-TEXT.true)

pub word16-size-requires : goal.word16-size-requires
word16-size-requires c = omega (arith, (literal_room c.args.plan.now c.args.pool.now c.args.q c.requires).of_text_lem c.if-k-eq-TEXT.true)

pub returns-then-k-eq-TEXT : goal.returns-then-k-eq-TEXT
returns-then-k-eq-TEXT c = done_text c.args.plan.now c.args.pool.now c.args.q c.requires.few c.if-k-eq-TEXT.true _ _ c.word16-start.ensures.is c.word16-size.ensures.is

pub overflow_add-q-2 : goal.overflow_add-q-2
overflow_add-q-2 c = omega (arith, (literal_room c.args.plan.now c.args.pool.now c.args.q c.requires).two_bytes)

pub bounds-plan-q-2 : goal.bounds-plan-q-2
bounds-plan-q-2 c = omega (arith, (literal_room c.args.plan.now c.args.pool.now c.args.q c.requires).two_bytes)

pub returns : goal.returns
returns c = done_constant c.args.plan.now c.args.pool.now c.args.q c.if-k-eq-INTEGER.false c.if-k-eq-FLOAT.false c.if-k-eq-TEXT.false _ c.constant.ensures
