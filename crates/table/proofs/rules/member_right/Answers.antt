-- A key that is no part of the text is wrong; one that is one is compared with the keys before it, one by one or along a chain.
use native.Mathlib.Omega.{arith}
use mathlib.Core.Path.{sym, ◌∙◌, ap, ap₂}
use Prim.Native.Nat.{ℕ, ◌-◌}
use borrow.Author.Tests.{not-true, not-false}
use Rattle.definition.specs.Tables.{good_part, key_differs, key_start, key_length}
use Rattle.table_laws.specs.Rights.{good_inside, member_bad, member_good}
use Rattle.table.proofs.Cursor.{found_count}
use Rattle.table.proofs.Inside.{more_keys}
use Rattle.table.proofs.Kept.{kept_plain, kept_chained, roomy_same}
use Rattle.std.specs.Prelude.{is_some}
use Rattle.std.proofs.lemmas.Bool.{false≢true}
use Rattle.table.proofs.Steps.{is_some_then, OnSome-always, on_some_weaker}
use borrow.Author.Rules.{rules}
use mathlib.Core.Bool.{not}
use Rattle.table.proofs.rules.member_right.Goals as goal

pub returns-then-not-good_part : goal.returns-then-not-good_part
returns-then-not-good_part c =
    let g = sym (c.good_part.ensures ∙ ap₂ (good_part c.args.text.now) c.key_start.ensures c.key_length.ensures) ∙ not-true _ (ap not c.if-not-good_part.true) in
    record { result_value = sym (member_bad c.args.table.now c.args.text.now c.args.node c.args.above.parent g); kept_2 = tt }

pub key_differs-requires : goal.key_differs-requires
key_differs-requires c =
    let g = sym (c.good_part.ensures ∙ ap₂ (good_part c.args.text.now) c.key_start.ensures c.key_length.ensures) ∙ not-false _ (ap not c.if-not-good_part.false) in
    record { from_le_node = c.requires.child.under.place.from_le; keys_inside = more_keys c.args.table.now c.args.text.now c.args.above.from c.args.node c.requires.parent_value.1.inside c.requires.child.node_in (good_inside c.args.text.now (key_start c.args.table.now c.args.node) (key_length c.args.table.now c.args.node) g) }

pub returns-then-above-from-le-FEW_MEMBERS : goal.returns-then-above-from-le-FEW_MEMBERS
returns-then-above-from-le-FEW_MEMBERS c =
    let g = sym (c.good_part.ensures ∙ ap₂ (good_part c.args.text.now) c.key_start.ensures c.key_length.ensures) ∙ not-false _ (ap not c.if-not-good_part.false) in
    let w = found_count c.args.table.now c.args.node c.args.above c.requires.child.under c.requires.parent_value.0 in
    record { result_value = ap is_some c.then_some.ensures ∙ is_some_then c.key_differs.result 1 ∙ c.key_differs.ensures ∙ ap (λ (x : ℕ). key_differs c.args.table.now c.args.text.now c.args.node x (c.args.node - x)) c.requires.child.under.place.from_is ∙ sym (member_good c.args.table.now c.args.text.now c.args.node c.args.above.parent g); kept_2 = OnSome-always c.then_some.result (kept_plain c.args.table.now c.args.text.now c.args.node c.args.above c.args.heads.now c.args.links.now c.requires.kept (λ l z. let m = l.many in omega arith)) }

pub returns-then-above : goal.returns-then-above
returns-then-above c =
    let g = sym (c.good_part.ensures ∙ ap₂ (good_part c.args.text.now) c.key_start.ensures c.key_length.ensures) ∙ not-false _ (ap not c.if-not-good_part.false) in
    let d = c.requires.kept.surely c.if-above.true c.args.node c.requires.child.under.place.from_le c.requires.child.under.end_past in
    record { result_value = sym d ∙ ap (λ (x : ℕ). key_differs c.args.table.now c.args.text.now c.args.node x (c.args.node - x)) c.requires.child.under.place.from_is ∙ sym (member_good c.args.table.now c.args.text.now c.args.node c.args.above.parent g); kept_2 = kept_plain c.args.table.now c.args.text.now c.args.node c.args.above c.args.heads.now c.args.links.now c.requires.kept (λ _ z. absurd (false≢true (sym z ∙ c.if-above.true))) }

pub joins_chain-requires : goal.joins_chain-requires
joins_chain-requires c =
    let g = sym (c.good_part.ensures ∙ ap₂ (good_part c.args.text.now) c.key_start.ensures c.key_length.ensures) ∙ not-false _ (ap not c.if-not-good_part.false) in
    let k = more_keys c.args.table.now c.args.text.now c.args.above.from c.args.node c.requires.parent_value.1.inside c.requires.child.node_in (good_inside c.args.text.now (key_start c.args.table.now c.args.node) (key_length c.args.table.now c.args.node) g) in
    let w = found_count c.args.table.now c.args.node c.args.above c.requires.child.under c.requires.parent_value.0 in
    record { joins = record { inside = k; from_le = c.requires.child.under.place.from_le; few = c.requires.parent_value.1.few; small = omega arith }; chained = c.requires.kept.chained (record { is_map = c.requires.parent_value.0; many = omega arith }) c.if-above.false; from_in_bounds = c.requires.kept.room.place c.args.above.from c.args.node c.requires.child.node_in c.requires.parent_value.1.few }

pub returns : goal.returns
returns c =
    let g = sym (c.good_part.ensures ∙ ap₂ (good_part c.args.text.now) c.key_start.ensures c.key_length.ensures) ∙ not-false _ (ap not c.if-not-good_part.false) in
    record { result_value = c.joins_chain.ensures.result_value ∙ ap (λ (x : ℕ). key_differs c.args.table.now c.args.text.now c.args.node x (c.args.node - x)) c.requires.child.under.place.from_is ∙ sym (member_good c.args.table.now c.args.text.now c.args.node c.args.above.parent g); kept_2 = on_some_weaker c.joins_chain.result (λ j. kept_chained c.args.table.now c.args.text.now c.args.node c.args.above _ _ j (roomy_same c.joins_chain.ensures.links_len_unchanged c.requires.kept.room) c.if-above.false) c.joins_chain.ensures.chained_2 }
