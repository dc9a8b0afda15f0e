-- `regex_needed::copy` meets its contract.
use Rattle.regex_needed.specs.Needed.{WroteInRoom}
use lib.Seq.{slice}
use Rattle.regex_needed.proofs.copy.Given as goal

abbrev pub invariant-loop-i : goal.invariant-loop-i
invariant-loop-i l = WroteInRoom l.initial.out l.to (slice l.from l.i l.code) l.out l.e
