-- The key in quotes and brackets, or the index in brackets.
use native.Mathlib.Omega.{arith}
use Prim.Native.Nat.{ℕ, ◌+◌, ◌-◌}
use mathlib.Core.Path.{◌≡◌, ap, ◌∙◌}
use mathlib.Core.List.{List}
use lib.ListN.{length}
use Rattle.definition.specs.Tables.{low_word, parent_at, key_bytes}
use Rattle.definition.specs.Paths.{escaped_all, written}
use Rattle.table_laws.specs.Keys.{key_span}
use Rattle.table_path_laws.specs.Digits.{written_length}
use Rattle.table_path_laws.specs.Lengths.{escaped_all_length}
use Rattle.table_path.proofs.Steps.{above_in, above_before, member_key, key_short, member_length, element_length, above_map, above_other}
use borrow.Author.Rules.{rules}
use Rattle.table_path.proofs.climb.step_length.Goals as goal

pub kind-requires : goal.kind-requires
kind-requires c = omega (arith, above_in c.requires, c.parent-above.ensures)

pub slice_bounds-key_length-end : goal.slice_bounds-key_length-end
slice_bounds-key_length-end c = omega (arith, member_key c.requires (above_map c.args.table.now c.args.node _ _ c.parent-above.ensures c.kind.ensures c.if-kind-eq-KIND_MAP.true), c.key_start-start.ensures, c.key_length.ensures)

pub key_length-requires-then-kind-eq-KIND_MAP : goal.key_length-requires-then-kind-eq-KIND_MAP
key_length-requires-then-kind-eq-KIND_MAP c =
    let q = key_span c.args.table.now c.args.text.now c.args.node c.key_start-start.result (c.key_start-start.result + c.key_length.result) c.key_start-start.ensures (ap (λ (x : ℕ). c.key_start-start.result + x) c.key_length.ensures) in
    omega (arith, ap length q, key_short c.requires)

pub overflow_add-result : goal.overflow_add-result
overflow_add-result c =
    let q = key_span c.args.table.now c.args.text.now c.args.node c.key_start-start.result (c.key_start-start.result + c.key_length.result) c.key_start-start.ensures (ap (λ (x : ℕ). c.key_start-start.result + x) c.key_length.ensures) in
    let e : c.key_length-then-kind-eq-KIND_MAP.result ≡ length (escaped_all (key_bytes c.args.table.now c.args.text.now c.args.node)) = c.key_length-then-kind-eq-KIND_MAP.ensures ∙ ap (λ (s : List ℕ). length (escaped_all s)) q in
    omega (arith, e, escaped_all_length (key_bytes c.args.table.now c.args.text.now c.args.node), key_short c.requires)

pub returns-then-kind-eq-KIND_MAP : goal.returns-then-kind-eq-KIND_MAP
returns-then-kind-eq-KIND_MAP c =
    let q = key_span c.args.table.now c.args.text.now c.args.node c.key_start-start.result (c.key_start-start.result + c.key_length.result) c.key_start-start.ensures (ap (λ (x : ℕ). c.key_start-start.result + x) c.key_length.ensures) in
    let e : c.key_length-then-kind-eq-KIND_MAP.result ≡ length (escaped_all (key_bytes c.args.table.now c.args.text.now c.args.node)) = c.key_length-then-kind-eq-KIND_MAP.ensures ∙ ap (λ (s : List ℕ). length (escaped_all s)) q in
    omega (arith, e, member_length c.requires (above_map c.args.table.now c.args.node _ _ c.parent-above.ensures c.kind.ensures c.if-kind-eq-KIND_MAP.true))

pub first_child-first-requires : goal.first_child-first-requires
first_child-first-requires c = omega (arith, above_in c.requires, c.parent-above.ensures)

pub overflow_sub-node : goal.overflow_sub-node
overflow_sub-node c =
    let f : c.first_child-first.result ≡ low_word c.args.table.now (parent_at c.args.table.now c.args.node) = c.first_child-first.ensures ∙ ap (low_word c.args.table.now) c.parent-above.ensures in
    omega (arith, f, above_before c.requires)

pub overflow_add-result-2 : goal.overflow_add-result-2
overflow_add-result-2 c =
    let f : c.first_child-first.result ≡ low_word c.args.table.now (parent_at c.args.table.now c.args.node) = c.first_child-first.ensures ∙ ap (low_word c.args.table.now) c.parent-above.ensures in
    omega (arith, c.digit_count.ensures, written_length (c.args.node - c.first_child-first.result))

pub returns : goal.returns
returns c =
    let f : c.first_child-first.result ≡ low_word c.args.table.now (parent_at c.args.table.now c.args.node) = c.first_child-first.ensures ∙ ap (low_word c.args.table.now) c.parent-above.ensures in
    let e : c.digit_count.result ≡ length (written (c.args.node - low_word c.args.table.now (parent_at c.args.table.now c.args.node))) = c.digit_count.ensures ∙ ap (λ (x : ℕ). length (written (c.args.node - x))) f in
    omega (arith, e, element_length c.requires (above_other c.args.table.now c.args.node _ _ c.parent-above.ensures c.kind.ensures c.if-kind-eq-KIND_MAP.false))
