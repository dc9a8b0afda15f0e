-- The number is the refusal; the part is empty for a refusal, and otherwise the one that was asked for.
use native.Mathlib.Omega.{arith}
use mathlib.Core.Path.{refl, sym, ◌∙◌}
use mathlib.Core.List.{[]}
use Rattle.definition.specs.Tables.{check_table, text_bytes_at}
use Rattle.definition.specs.TableOutcomes.{has_text, text_outcome}
use Rattle.table_laws.specs.Accepted.{accepted_gives}
use Rattle.table_laws.specs.Outcomes.{found_whole, refused_empty, text_inside_lem}
use Rattle.table.proofs.Answers.{answered_is, begins_found, begins_none}
use borrow.Author.Rules.{rules}
use Rattle.table.proofs.text_of_node.Goals as goal

pub returns-then-refusal-ne0 : goal.returns-then-refusal-ne0
unfolding text_outcome
returns-then-refusal-ne0 c = record { answers = answered_is (text_outcome c.args.table.now c.args.text.now c.args.node) [] c.text_refusal-refusal.result (sym (refused_empty (check_table c.args.table.now c.args.text.now) (has_text c.args.table.now c.args.node) (text_bytes_at c.args.table.now c.args.text.now c.args.node) (λ z. c.if-refusal-ne0.true (c.text_refusal-refusal.ensures ∙ z)))) c.text_refusal-refusal.ensures; place = begins_none _ _ c.if-refusal-ne0.true (record { block = refl; byte = omega arith }) }

pub text_part-requires : goal.text_part-requires
unfolding text_outcome
text_part-requires c =
    let w = found_whole (check_table c.args.table.now c.args.text.now) (has_text c.args.table.now c.args.node) (text_bytes_at c.args.table.now c.args.text.now c.args.node) (sym c.text_refusal-refusal.ensures ∙ c.if-refusal-ne0.false) in
    text_inside_lem c.args.table.now c.args.text.now (accepted_gives c.args.table.now c.args.text.now w.0) c.args.node w.1

pub returns : goal.returns
unfolding text_outcome
returns c =
    let w = found_whole (check_table c.args.table.now c.args.text.now) (has_text c.args.table.now c.args.node) (text_bytes_at c.args.table.now c.args.text.now c.args.node) (sym c.text_refusal-refusal.ensures ∙ c.if-refusal-ne0.false) in
    record { answers = answered_is (text_outcome c.args.table.now c.args.text.now c.args.node) _ c.text_refusal-refusal.result (c.text_part.ensures.bytes ∙ sym w.2) c.text_refusal-refusal.ensures; place = begins_found _ c.if-refusal-ne0.false c.text_part.ensures.place }
