-- `regex_reader::atoms::put_char` meets its contract.
use lib.ListN.{length-set}
use native.Mathlib.Numerals.{towards_suc}
use native.Mathlib.Omega.{arith}
use Rattle.regex_reader.proofs.atoms.put_char.Goals as goal

pub bounds-code-len-2 : goal.bounds-code-len-2
bounds-code-len-2 c = simp length-set (omega arith)

pub bounds-code-len-3 : goal.bounds-code-len-3
bounds-code-len-3 c = simp length-set (omega arith)

pub bounds-code-len-4 : goal.bounds-code-len-4
bounds-code-len-4 c = simp length-set (omega arith)

pub bounds-code-len-5 : goal.bounds-code-len-5
bounds-code-len-5 c = simp length-set (omega arith)

pub returns : goal.returns
returns c = record { is = simp towards_suc }
