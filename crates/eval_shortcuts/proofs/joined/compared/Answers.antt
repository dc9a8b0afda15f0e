-- `joined::compared` meets its contract.
use Rattle.eval_filters.specs.Turns.{turn_left, turn_plain}
use Rattle.eval_shortcuts.specs.Joined.{joined_start, joined_turn, joined_further, joined_none, joined_told}
use Rattle.eval_shortcuts.proofs.joined.compared.Goals as goal

pub value_test-t-requires : goal.value_test-t-requires
value_test-t-requires c = turn_left (joined_turn c.requires.within.0 c.requires.within.1 (joined_start c.requires.within.0) c.requires.p_lt_z)

pub returns-then-z-q : goal.returns-then-z-q
returns-then-z-q c =
    let i = joined_start c.requires.within.0 in
    joined_told c.requires.within.0 c.requires.within.1 (joined_further c.requires.within.0 c.requires.within.1 i (turn_plain (joined_turn c.requires.within.0 c.requires.within.1 i c.requires.p_lt_z) c.value_test-t.ensures) c.if-t.true) c.if-z-q.true

pub returns-else-z-q : goal.returns-else-z-q
returns-else-z-q c = joined_none c.requires.within.0 c.requires.within.1 (joined_start c.requires.within.0) c.requires.p_lt_z

pub returns-else-t : goal.returns-else-t
returns-else-t c = joined_none c.requires.within.0 c.requires.within.1 (joined_start c.requires.within.0) c.requires.p_lt_z
