use Rattle.definition.specs.Bytes.{part, order_bytes}
use Rattle.std.specs.Prelude.{Some}
use mathlib.Core.Path.{sym, ap, ◌∙◌, subst}
use Rattle.eval_values.specs.Ranks.{spelled_answer}
use Rattle.eval_values.specs.Ranks.{rank_texts}
use Rattle.eval_values.specs.Means.{Parts, text_in}
use Rattle.definition.specs.Bytes.{part}
use mathlib.Core.Option.{some}
use Rattle.eval_values.specs.declared.Operand.{Operand}
use Rattle.eval_values.proofs.ranks.rank_text.Goals as goal

-- src/ranks.rt:88:41
pub order_part-requires : goal.order_part-requires
order_part-requires c = (c.requires.n_in_bounds, subst (Parts c.args.text.now c.args.pool.now) c.in-Pool.is c.requires.parts)

-- src/ranks.rt:89:41
pub order_part-requires-in-Text : goal.order_part-requires-in-Text
order_part-requires-in-Text c = (c.requires.n_in_bounds, subst (Parts c.args.text.now c.args.pool.now) c.in-Text.is c.requires.parts)

-- src/ranks.rt:82:1
pub returns-in-Pool : goal.returns-in-Pool
returns-in-Pool c = ap Some c.order_part.ensures ∙ spelled_answer (order_bytes _ _) ∙ ap (λ (z : Operand). rank_texts (some (part c.args.s.now c.args.a c.args.n)) (text_in c.args.text.now c.args.pool.now z)) (sym c.in-Pool.is)

-- src/ranks.rt:82:1
pub returns-in-Text : goal.returns-in-Text
returns-in-Text c = ap Some c.order_part-in-Text.ensures ∙ spelled_answer (order_bytes _ _) ∙ ap (λ (z : Operand). rank_texts (some (part c.args.s.now c.args.a c.args.n)) (text_in c.args.text.now c.args.pool.now z)) (sym c.in-Text.is)
