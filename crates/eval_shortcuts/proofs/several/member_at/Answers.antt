-- `member_at` meets its contract: what has the name at the place that is looked at first is what a search finds.
use native.Mathlib.Omega.{arith}
use Rattle.eval_values.specs.Near.{near_found}
use Rattle.eval_items.specs.LeafLaws.{name_asked, name_members, name_found}
use Rattle.eval_shortcuts.proofs.several.member_at.Goals as goal

pub overflow_add-p : goal.overflow_add-p
overflow_add-p c = omega (arith, (name_asked c.requires.ask_one).stands.bound, c.requires.ask_one.few_p)

pub word16-start-requires : goal.word16-start-requires
word16-start-requires c = omega (arith, (name_asked c.requires.ask_one).stands.bound)

pub overflow_add-p-2 : goal.overflow_add-p-2
overflow_add-p-2 c = omega (arith, (name_asked c.requires.ask_one).stands.bound, c.requires.ask_one.few_p)

pub word16-size-requires : goal.word16-size-requires
word16-size-requires c = omega (arith, (name_asked c.requires.ask_one).stands.bound)

pub is_at-requires : goal.is_at-requires
is_at-requires c =
    let d = (name_asked c.requires.ask_one).stands in
    record { members = name_members c.requires.ask_one c.requires.below.1 _ _ c.requires.below.0.0 c.requires.below.0.1; n_in_bounds = omega (arith, c.word16-start.ensures.is, c.word16-size.ensures.is, d.start, d.size, d.inside) }

pub overflow_add-result : goal.overflow_add-result
overflow_add-result c =
    let w = name_members c.requires.ask_one c.requires.below.1 _ _ c.requires.below.0.0 c.requires.below.0.1 in
    omega (arith, w.nodes c.args.near (c.is_at.ensures c.if-is_at.true).0)

pub returns-then-is_at : goal.returns-then-is_at
returns-then-is_at c =
    let t = c.is_at.ensures c.if-is_at.true in
    name_found c.requires.ask_one c.requires.below.1 _ _ c.requires.below.0.0 c.requires.below.0.1 _ _ c.word16-start.ensures.is c.word16-size.ensures.is _ (near_found c.requires.ask_one.tab c.requires.ask_one.node_in c.requires.below.1 _ c.args.first c.args.count c.args.near c.requires.below.0.0 c.requires.below.0.1 t.0 t.1)

pub find_short-requires : goal.find_short-requires
find_short-requires c =
    let d = (name_asked c.requires.ask_one).stands in
    record { members = name_members c.requires.ask_one c.requires.below.1 _ _ c.requires.below.0.0 c.requires.below.0.1; n_in_bounds = omega (arith, c.word16-start.ensures.is, c.word16-size.ensures.is, d.start, d.size, d.inside); le_n = c.is_short.ensures c.if-is_short.true }

pub returns-then-is_short : goal.returns-then-is_short
returns-then-is_short c = name_found c.requires.ask_one c.requires.below.1 _ _ c.requires.below.0.0 c.requires.below.0.1 _ _ c.word16-start.ensures.is c.word16-size.ensures.is _ c.find_short.ensures

pub get_by_key-requires : goal.get_by_key-requires
get_by_key-requires c =
    let d = (name_asked c.requires.ask_one).stands in
    record { members = name_members c.requires.ask_one c.requires.below.1 _ _ c.requires.below.0.0 c.requires.below.0.1; n_in_bounds = omega (arith, c.word16-start.ensures.is, c.word16-size.ensures.is, d.start, d.size, d.inside) }

pub returns : goal.returns
returns c = name_found c.requires.ask_one c.requires.below.1 _ _ c.requires.below.0.0 c.requires.below.0.1 _ _ c.word16-start.ensures.is c.word16-size.ensures.is _ c.get_by_key.ensures
