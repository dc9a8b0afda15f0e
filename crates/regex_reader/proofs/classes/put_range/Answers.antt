-- `regex_reader::classes::put_range` meets its contract.
use lib.ListN.{length-set}
use native.Mathlib.Numerals.{towards_suc}
use native.Mathlib.Omega.{arith}
use Rattle.regex_reader.proofs.classes.put_range.Goals as goal

pub bounds-code-len-2 : goal.bounds-code-len-2
bounds-code-len-2 c = simp length-set (omega arith)

pub returns : goal.returns
returns c = record { is = simp towards_suc }
