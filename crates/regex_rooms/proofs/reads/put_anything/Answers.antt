-- `regex_rooms::reads::put_anything` meets its contract.
use lib.ListN.{length-set}
use native.Mathlib.Numerals.{towards_suc}
use native.Mathlib.Omega.{arith}
use Rattle.regex_rooms.proofs.reads.put_anything.Goals as goal

pub bounds-code-at-2 : goal.bounds-code-at-2
bounds-code-at-2 c = simp length-set (omega arith)

pub bounds-code-at-3 : goal.bounds-code-at-3
bounds-code-at-3 c = simp length-set (omega arith)

pub bounds-code-at-4 : goal.bounds-code-at-4
bounds-code-at-4 c = simp length-set (omega arith)

pub bounds-code-at-5 : goal.bounds-code-at-5
bounds-code-at-5 c = simp length-set (omega arith)

pub returns : goal.returns
returns c = record { is = simp towards_suc }
