-- `eval_values::ranks::is_text` meets its contract: texts rank as equal where their bytes are the same.
use Rattle.definition.specs.Bytes.{part}
use mathlib.Core.Path.{sym, ap, ◌∙◌, subst}
use mathlib.Core.Option.{some}
use Rattle.eval_values.specs.Ranks.{rank_texts, is_rank_equal}
use Rattle.eval_values.specs.Means.{Parts, text_in}
use Rattle.eval_values.specs.Values.{equal_spelled}
use Rattle.eval_values.specs.declared.Operand.{Operand}
use Rattle.eval_values.proofs.ranks.is_text.Goals as goal

pub same_part-requires : goal.same_part-requires
same_part-requires c = (c.requires.n_in_bounds, subst (Parts c.args.text.now c.args.pool.now) c.in-Pool.is c.requires.parts)

pub same_part-requires-in-Text : goal.same_part-requires-in-Text
same_part-requires-in-Text c = (c.requires.n_in_bounds, subst (Parts c.args.text.now c.args.pool.now) c.in-Text.is c.requires.parts)

pub returns-in-Pool : goal.returns-in-Pool
returns-in-Pool c =
    c.same_part.ensures ∙ sym (equal_spelled (part c.args.s.now c.args.a c.args.n) _)
    ∙ ap (λ (z : Operand). is_rank_equal (rank_texts (some (part c.args.s.now c.args.a c.args.n)) (text_in c.args.text.now c.args.pool.now z))) (sym c.in-Pool.is)

pub returns-in-Text : goal.returns-in-Text
returns-in-Text c =
    c.same_part-in-Text.ensures ∙ sym (equal_spelled (part c.args.s.now c.args.a c.args.n) _)
    ∙ ap (λ (z : Operand). is_rank_equal (rank_texts (some (part c.args.s.now c.args.a c.args.n)) (text_in c.args.text.now c.args.pool.now z))) (sym c.in-Text.is)
