-- `same_text` meets its contract.
use mathlib.Core.Bool.{true}
use mathlib.Core.Path.{refl}
use native.Mathlib.Omega.{arith}
use Rattle.eval_items.specs.LeafLaws.{literal_room}
use Rattle.eval_filters.specs.Tests.{texts_in, texts_done}
use Rattle.eval_filters.proofs.same_text.Goals as goal

pub overflow_add-q : goal.overflow_add-q
overflow_add-q c = omega (arith, (literal_room c.args.plan.now c.args.pool.now c.args.q c.requires.ask_node.literal).two_bytes)

pub word16-b-requires : goal.word16-b-requires
word16-b-requires c = omega (arith, (literal_room c.args.plan.now c.args.pool.now c.args.q c.requires.ask_node.literal).of_text_lem c.requires.q_value.0)

pub overflow_add-q-2 : goal.overflow_add-q-2
overflow_add-q-2 c = omega (arith, (literal_room c.args.plan.now c.args.pool.now c.args.q c.requires.ask_node.literal).of_text_lem c.requires.q_value.0)

pub word16-k-requires : goal.word16-k-requires
word16-k-requires c = omega (arith, (literal_room c.args.plan.now c.args.pool.now c.args.q c.requires.ask_node.literal).of_text_lem c.requires.q_value.0)

pub same_part-requires : goal.same_part-requires
same_part-requires c = texts_in c.requires.ask_node 0 true c.requires.q_value.0 c.requires.q_value.1 _ _ _ _ c.text_start-a.ensures c.text_length-n.ensures c.word16-b.ensures.is c.word16-k.ensures.is

pub returns : goal.returns
returns c = texts_done c.requires.ask_node 0 _ c.requires.q_value.0 c.requires.q_value.1 _ _ _ _ c.text_start-a.ensures c.text_length-n.ensures c.word16-b.ensures.is c.word16-k.ensures.is refl c.same_part.ensures
