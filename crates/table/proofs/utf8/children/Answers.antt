-- Members of a map, or children of a list, by the kind that the cursor has.
use Rattle.table.proofs.Along.{above_map, list_passed}
use borrow.Author.Rules.{rules}
use Rattle.table.proofs.utf8.children.Goals as goal

pub members-requires : goal.members-requires
members-requires c = record { begun = c.requires.begun; parent_value = (above_map c.requires.begun c.if-above-eq-KIND_MAP.true, c.requires.kept); known = c.requires.known }

pub returns : goal.returns
returns c = record { passed_by = c.items.ensures; kept_2 = list_passed c.requires.begun c.items.result c.if-above-eq-KIND_MAP.false c.items.ensures c.requires.kept }
