-- `passes` meets its contract: the first test, and the second where the operator asks for it.
use Rattle.eval_filters.specs.Keeps.{Joins, pair_asked, pair_room, tested, not_told, and_asked, and_done, and_false, or_true, or_asked, or_done}
use mathlib.Core.Path.{refl}
use native.Mathlib.Omega.{arith}
use Rattle.eval_filters.proofs.kept.passes.Goals as goal

pub holds-h-requires : goal.holds-h-requires
holds-h-requires c = record { ask_short = pair_asked c.requires.within c.requires.ask_test c.requires.pair_at; atom_at = c.requires.pair_at.left }

pub returns-then-join-eq0 : goal.returns-then-join-eq0
returns-then-join-eq0 c = tested c.requires.within _ _ c.holds-h.ensures (c.requires.pair_at.alone c.if-join-eq0.true)

pub returns-then-join-eq-NOT : goal.returns-then-join-eq-NOT
returns-then-join-eq-NOT c = not_told c.requires.within c.requires.pair_at _ c.holds-h.ensures c.if-join-eq-NOT.true _ refl

pub overflow_add-q : goal.overflow_add-q
overflow_add-q c = omega (arith, pair_room c.requires.within c.requires.pair_at (c.if-join-eq0.false, c.if-join-eq-NOT.false))

pub holds_next-d-requires : goal.holds_next-d-requires
holds_next-d-requires c =
    let o : Joins _ = (c.if-join-eq0.false, c.if-join-eq-NOT.false) in
    record { ask_short = and_asked c.requires.within c.requires.pair_at _ c.holds-h.ensures o c.if-join-eq-AND.true c.if-b.true c.requires.ask_test; atom_at = (c.requires.pair_at.joined o).right }

pub returns-then-b : goal.returns-then-b
returns-then-b c = and_done c.requires.within c.requires.pair_at _ c.holds-h.ensures (c.if-join-eq0.false, c.if-join-eq-NOT.false) c.if-join-eq-AND.true c.if-b.true _ c.holds_next-d.ensures

pub returns-then-join-eq-AND : goal.returns-then-join-eq-AND
returns-then-join-eq-AND c = and_false c.requires.within c.requires.pair_at _ c.holds-h.ensures (c.if-join-eq0.false, c.if-join-eq-NOT.false) c.if-join-eq-AND.true c.if-b.false

pub returns-then-b-2 : goal.returns-then-b-2
returns-then-b-2 c = or_true c.requires.within c.requires.pair_at _ c.holds-h.ensures (c.if-join-eq0.false, c.if-join-eq-NOT.false) c.if-join-eq-AND.false c.if-b-2.true

pub overflow_add-q-2 : goal.overflow_add-q-2
overflow_add-q-2 c = omega (arith, pair_room c.requires.within c.requires.pair_at (c.if-join-eq0.false, c.if-join-eq-NOT.false))

pub holds_next-d-requires-2 : goal.holds_next-d-requires-2
holds_next-d-requires-2 c =
    let o : Joins _ = (c.if-join-eq0.false, c.if-join-eq-NOT.false) in
    record { ask_short = or_asked c.requires.within c.requires.pair_at _ c.holds-h.ensures o c.if-join-eq-AND.false c.if-b-2.false c.requires.ask_test; atom_at = (c.requires.pair_at.joined o).right }

pub returns : goal.returns
returns c = or_done c.requires.within c.requires.pair_at _ c.holds-h.ensures (c.if-join-eq0.false, c.if-join-eq-NOT.false) c.if-join-eq-AND.false c.if-b-2.false _ c.holds_next-d-2.ensures
