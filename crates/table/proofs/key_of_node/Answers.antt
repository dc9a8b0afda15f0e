-- The number is the refusal; the part is empty for a refusal, and otherwise the one that was asked for.
use native.Mathlib.Omega.{arith}
use mathlib.Core.Path.{refl, sym, ◌∙◌}
use mathlib.Core.List.{[]}
use Rattle.definition.specs.Tables.{check_table, key_bytes}
use Rattle.definition.specs.TableOutcomes.{has_key, key_outcome}
use Rattle.table_laws.specs.Accepted.{accepted_gives}
use Rattle.table_laws.specs.Outcomes.{found_whole, refused_empty, key_inside}
use Rattle.table.proofs.Answers.{answered_is, begins_found, begins_none}
use borrow.Author.Rules.{rules}
use Rattle.table.proofs.key_of_node.Goals as goal

pub returns-then-refused-ne0 : goal.returns-then-refused-ne0
unfolding key_outcome
returns-then-refused-ne0 c = record { answers = answered_is (key_outcome c.args.table.now c.args.text.now c.args.node) [] c.key_refusal-refused.result (sym (refused_empty (check_table c.args.table.now c.args.text.now) (has_key c.args.table.now c.args.node) (key_bytes c.args.table.now c.args.text.now c.args.node) (λ z. c.if-refused-ne0.true (c.key_refusal-refused.ensures ∙ z)))) c.key_refusal-refused.ensures; place = begins_none _ _ c.if-refused-ne0.true (record { block = refl; byte = omega arith }) }

pub key_part-requires : goal.key_part-requires
unfolding key_outcome
key_part-requires c =
    let w = found_whole (check_table c.args.table.now c.args.text.now) (has_key c.args.table.now c.args.node) (key_bytes c.args.table.now c.args.text.now c.args.node) (sym c.key_refusal-refused.ensures ∙ c.if-refused-ne0.false) in
    key_inside c.args.table.now c.args.text.now (accepted_gives c.args.table.now c.args.text.now w.0) c.args.node w.1

pub returns : goal.returns
unfolding key_outcome
returns c =
    let w = found_whole (check_table c.args.table.now c.args.text.now) (has_key c.args.table.now c.args.node) (key_bytes c.args.table.now c.args.text.now c.args.node) (sym c.key_refusal-refused.ensures ∙ c.if-refused-ne0.false) in
    record { answers = answered_is (key_outcome c.args.table.now c.args.text.now c.args.node) _ c.key_refusal-refused.result (c.key_part.ensures.bytes ∙ sym w.2) c.key_refusal-refused.ensures; place = begins_found _ c.if-refused-ne0.false c.key_part.ensures.place }
