-- The parts of the step, from the last to the first.
use native.Mathlib.Omega.{arith}
use Prim.Native.Nat.{ℕ, ◌+◌, ◌-◌}
use mathlib.Core.Path.{◌≡◌, sym, ap, ◌∙◌}
use mathlib.Core.List.{List}
use lib.ListN.{length}
use Rattle.definition.specs.Tables.{low_word, parent_at}
use Rattle.definition.specs.Paths.{escaped_all, written}
use Rattle.table_laws.specs.Keys.{key_span}
use Rattle.table_path.proofs.Puts.{put_as, room_as}
use Rattle.table_path.proofs.Steps.{above_in, above_before, member_key, above_map, above_other}
use Rattle.table_path.proofs.Parts.{quote_room, key_room, opening_room, member_put, closing_room, index_room, bracket_room, element_put}
use borrow.Author.Rules.{rules}
use Rattle.table_path.proofs.climb.put_step.Goals as goal

pub kind-requires : goal.kind-requires
kind-requires c = omega (arith, above_in c.requires.child_of, c.parent-above.ensures)

pub put_two-quote-requires : goal.put_two-quote-requires
put_two-quote-requires c = quote_room c.requires.child_of c.requires.room (above_map c.args.table.now c.args.node _ _ c.parent-above.ensures c.kind.ensures c.if-kind-eq-KIND_MAP.true)

pub slice_bounds-put_key-end : goal.slice_bounds-put_key-end
slice_bounds-put_key-end c = omega (arith, member_key c.requires.child_of (above_map c.args.table.now c.args.node _ _ c.parent-above.ensures c.kind.ensures c.if-kind-eq-KIND_MAP.true), c.key_start-start.ensures, c.key_length.ensures)

pub put_key-key-requires : goal.put_key-key-requires
put_key-key-requires c =
    let q = key_span c.args.table.now c.args.text.now c.args.node c.key_start-start.result (c.key_start-start.result + c.key_length.result) c.key_start-start.ensures (ap (λ (x : ℕ). c.key_start-start.result + x) c.key_length.ensures) in
    room_as (sym (ap (λ (s : List ℕ). length (escaped_all s)) q)) (key_room c.requires.child_of c.requires.room (above_map c.args.table.now c.args.node _ _ c.parent-above.ensures c.kind.ensures c.if-kind-eq-KIND_MAP.true) c.put_two-quote.ensures)

pub put_two-requires : goal.put_two-requires
put_two-requires c =
    let q = key_span c.args.table.now c.args.text.now c.args.node c.key_start-start.result (c.key_start-start.result + c.key_length.result) c.key_start-start.ensures (ap (λ (x : ℕ). c.key_start-start.result + x) c.key_length.ensures) in
    opening_room c.requires.child_of c.requires.room (above_map c.args.table.now c.args.node _ _ c.parent-above.ensures c.kind.ensures c.if-kind-eq-KIND_MAP.true) c.put_two-quote.ensures (put_as (ap escaped_all q) c.put_key-key.ensures)

pub returns-then-kind-eq-KIND_MAP : goal.returns-then-kind-eq-KIND_MAP
returns-then-kind-eq-KIND_MAP c =
    let q = key_span c.args.table.now c.args.text.now c.args.node c.key_start-start.result (c.key_start-start.result + c.key_length.result) c.key_start-start.ensures (ap (λ (x : ℕ). c.key_start-start.result + x) c.key_length.ensures) in
    member_put c.requires.child_of c.requires.room (above_map c.args.table.now c.args.node _ _ c.parent-above.ensures c.kind.ensures c.if-kind-eq-KIND_MAP.true) c.put_two-quote.ensures (put_as (ap escaped_all q) c.put_key-key.ensures) c.put_two.ensures

pub first_child-first-requires : goal.first_child-first-requires
first_child-first-requires c = omega (arith, above_in c.requires.child_of, c.parent-above.ensures)

pub put_byte-bracket-requires : goal.put_byte-bracket-requires
put_byte-bracket-requires c = closing_room c.requires.child_of c.requires.room (above_other c.args.table.now c.args.node _ _ c.parent-above.ensures c.kind.ensures c.if-kind-eq-KIND_MAP.false)

pub overflow_sub-node : goal.overflow_sub-node
overflow_sub-node c =
    let f : c.first_child-first.result ≡ low_word c.args.table.now (parent_at c.args.table.now c.args.node) = c.first_child-first.ensures ∙ ap (low_word c.args.table.now) c.parent-above.ensures in
    omega (arith, f, above_before c.requires.child_of)

pub put_index-index-requires : goal.put_index-index-requires
put_index-index-requires c =
    let f : c.first_child-first.result ≡ low_word c.args.table.now (parent_at c.args.table.now c.args.node) = c.first_child-first.ensures ∙ ap (low_word c.args.table.now) c.parent-above.ensures in
    room_as (sym (ap (λ (x : ℕ). length (written (c.args.node - x))) f)) (index_room c.requires.child_of c.requires.room (above_other c.args.table.now c.args.node _ _ c.parent-above.ensures c.kind.ensures c.if-kind-eq-KIND_MAP.false) c.put_byte-bracket.ensures)

pub put_byte-requires : goal.put_byte-requires
put_byte-requires c =
    let f : c.first_child-first.result ≡ low_word c.args.table.now (parent_at c.args.table.now c.args.node) = c.first_child-first.ensures ∙ ap (low_word c.args.table.now) c.parent-above.ensures in
    bracket_room c.requires.child_of c.requires.room (above_other c.args.table.now c.args.node _ _ c.parent-above.ensures c.kind.ensures c.if-kind-eq-KIND_MAP.false) c.put_byte-bracket.ensures (put_as (ap (λ (x : ℕ). written (c.args.node - x)) f) c.put_index-index.ensures)

pub returns : goal.returns
returns c =
    let f : c.first_child-first.result ≡ low_word c.args.table.now (parent_at c.args.table.now c.args.node) = c.first_child-first.ensures ∙ ap (low_word c.args.table.now) c.parent-above.ensures in
    element_put c.requires.child_of c.requires.room (above_other c.args.table.now c.args.node _ _ c.parent-above.ensures c.kind.ensures c.if-kind-eq-KIND_MAP.false) c.put_byte-bracket.ensures (put_as (ap (λ (x : ℕ). written (c.args.node - x)) f) c.put_index-index.ensures) c.put_byte.ensures
