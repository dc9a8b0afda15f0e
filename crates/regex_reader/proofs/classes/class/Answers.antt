-- `regex_reader::classes::class` meets its contract.
use Rattle.regex_reader.proofs.OfNested.{room_on, room_less}
use Rattle.regex_reader.proofs.OfClasses.{class_complement, class_plain}
use mathlib.Core.Path.{refl}
use Rattle.regex_reader.proofs.classes.class.Goals as goal

pub ranges-requires : goal.ranges-requires
ranges-requires c = (room_less (room_on c.requires (c.is.ensures.inside c.if-is.true)), refl)

pub returns-then-is : goal.returns-then-is
returns-then-is c = class_complement _ _ _ _ 0 c.is.ensures c.if-is.true c.ranges-then-is.ensures

pub returns : goal.returns
returns c = class_plain _ _ _ _ 0 c.is.ensures c.if-is.false c.ranges-2.ensures
