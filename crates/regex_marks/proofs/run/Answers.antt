-- `regex_marks::run` meets its contract.
use native.Mathlib.Omega.{arith}
use mathlib.Core.Path.{◌∙◌}
use Rattle.regex_marks.proofs.Words.{shifted_by}
use Rattle.regex_marks.proofs.Runs.{read_start, ran_room}
use Rattle.regex_marks.proofs.run.Goals as goal

pub shift-p-requires : goal.shift-p-requires
shift-p-requires c = record { place = c.requires.fact_1.place; words = c.requires.fact_1.words; room = omega arith; few = omega (arith, c.requires.fact_1.few, c.clear.auto.marks) }

pub read-requires : goal.read-requires
read-requires c = record { fact_1 = record { place = c.requires.fact_1.place; words = c.requires.fact_1.words; room = omega arith; few = omega (arith, c.requires.fact_1.few, c.clear.auto.marks, c.shift-p.ensures.long) }; fact_2 = (omega arith, read_start c.clear.ensures (shifted_by c.unpack-s.ensures c.shift-p.ensures)); fact_3 = c.requires.fact_2 }

pub returns : goal.returns
returns c = ran_room (c.shift-p.ensures.long ∙ c.clear.auto.marks) c.read.ensures
