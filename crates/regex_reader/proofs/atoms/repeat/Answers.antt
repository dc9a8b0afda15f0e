-- `regex_reader::atoms::repeat` meets its contract.
use Rattle.regex_reader.proofs.OfAtoms.{repeat_endless, repeat_bounded}
use Rattle.regex_reader.specs.Reads.Repeats.{once}
use mathlib.Core.Path.{refl}
use Rattle.regex_reader.proofs.atoms.repeat.Goals as goal

pub returns-in-Once : goal.returns-in-Once
returns-in-Once c = rw c.in-Once.is (once refl)

pub returns-in-Least : goal.returns-in-Least
returns-in-Least c = rw c.in-Least.is (repeat_endless c.args.n c.requires.0 _ _ c.insert.ensures c.insert-in-Least.ensures)

pub returns-in-Upto : goal.returns-in-Upto
returns-in-Upto c = rw c.in-Upto.is (repeat_bounded c.args.n c.requires.0 _ _ _ c.insert-in-Upto.ensures c.insert-in-Upto-2.ensures c.insert-in-Upto-3.ensures)
