-- `eval_values::members::partner` meets its contract: what has the name at the place that is looked at first is what a search finds.
use native.Mathlib.Omega.{arith}
use Rattle.eval_laws.specs.Ranges.{range_of_lem}
use Rattle.eval_values.specs.Members.{looked_as}
use Rattle.eval_values.specs.Near.{near_found}
use Rattle.eval_values.specs.Same.{members_of, key_read}
use Rattle.eval_values.proofs.members.partner.Goals as goal

pub is_at-requires : goal.is_at-requires
is_at-requires c =
    let r = range_of_lem c.args.table.now c.args.text.now c.requires.accepted.0 c.args.j c.requires.accepted.1.second c.args.first c.args.count c.requires.first_value.0 c.requires.first_value.1 in
    let w = members_of c.args.table.now c.args.text.now c.requires.accepted.0 c.args.j c.requires.accepted.1.second c.requires.accepted.1.map c.args.first c.args.count r in
    record { members = w; n_in_bounds = omega (arith, c.key_start-start.ensures, c.key_length-size.ensures, c.requires.accepted.1.key) }

pub overflow_add-result : goal.overflow_add-result
overflow_add-result c =
    let r = range_of_lem c.args.table.now c.args.text.now c.requires.accepted.0 c.args.j c.requires.accepted.1.second c.args.first c.args.count c.requires.first_value.0 c.requires.first_value.1 in
    let w = members_of c.args.table.now c.args.text.now c.requires.accepted.0 c.args.j c.requires.accepted.1.second c.requires.accepted.1.map c.args.first c.args.count r in
    omega (arith, w.nodes c.args.near (c.is_at.ensures c.if-is_at.true).0)

pub returns-then-is_at : goal.returns-then-is_at
returns-then-is_at c =
    let t = c.is_at.ensures c.if-is_at.true in
    looked_as (key_read c.args.table.now c.args.text.now c.args.m _ _ c.key_start-start.ensures c.key_length-size.ensures) (near_found c.requires.accepted.0 c.requires.accepted.1.second c.requires.accepted.1.map _ c.args.first c.args.count c.args.near c.requires.first_value.0 c.requires.first_value.1 t.0 t.1)

pub find_short-requires : goal.find_short-requires
find_short-requires c =
    let r = range_of_lem c.args.table.now c.args.text.now c.requires.accepted.0 c.args.j c.requires.accepted.1.second c.args.first c.args.count c.requires.first_value.0 c.requires.first_value.1 in
    let w = members_of c.args.table.now c.args.text.now c.requires.accepted.0 c.args.j c.requires.accepted.1.second c.requires.accepted.1.map c.args.first c.args.count r in
    record { members = w; n_in_bounds = omega (arith, c.key_start-start.ensures, c.key_length-size.ensures, c.requires.accepted.1.key); le_n = c.is_short.ensures c.if-is_short.true }

pub returns-then-is_short : goal.returns-then-is_short
returns-then-is_short c = looked_as (key_read c.args.table.now c.args.text.now c.args.m _ _ c.key_start-start.ensures c.key_length-size.ensures) c.find_short.ensures

pub get_by_key-requires : goal.get_by_key-requires
get_by_key-requires c =
    let r = range_of_lem c.args.table.now c.args.text.now c.requires.accepted.0 c.args.j c.requires.accepted.1.second c.args.first c.args.count c.requires.first_value.0 c.requires.first_value.1 in
    let w = members_of c.args.table.now c.args.text.now c.requires.accepted.0 c.args.j c.requires.accepted.1.second c.requires.accepted.1.map c.args.first c.args.count r in
    record { members = w; n_in_bounds = omega (arith, c.key_start-start.ensures, c.key_length-size.ensures, c.requires.accepted.1.key) }

pub returns : goal.returns
returns c = looked_as (key_read c.args.table.now c.args.text.now c.args.m _ _ c.key_start-start.ensures c.key_length-size.ensures) c.get_by_key.ensures
