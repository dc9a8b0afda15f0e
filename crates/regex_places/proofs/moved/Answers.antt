-- `regex_places::moved` meets its contract.
use Rattle.regex_places.proofs.Sets.{moves_none, moves_hit, moves_miss}
use Rattle.regex_places.proofs.moved.Goals as goal

pub returns-then-v-ne1 : goal.returns-then-v-ne1
returns-then-v-ne1 c = moves_none c.if-v-ne1.true

pub returns-then-class_has : goal.returns-then-class_has
returns-then-class_has c = moves_hit c.if-v-ne1.false c.class_has.ensures c.if-class_has.true

pub returns-else-class_has : goal.returns-else-class_has
returns-else-class_has c = moves_miss c.class_has.ensures c.if-class_has.false
