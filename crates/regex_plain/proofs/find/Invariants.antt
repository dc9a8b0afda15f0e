-- `regex_plain::find` meets its contract.
use Rattle.regex_plain.proofs.Texts.{Hunting}
use Rattle.regex_plain.specs.Rows.{letters}
use Prim.Native.Nat.{◌-◌}
use Rattle.regex_plain.proofs.find.Given as goal

abbrev pub invariant-loop-i : goal.invariant-loop-i
invariant-loop-i l = Hunting (letters l.code l.at l.n) l.text l.i

abbrev pub decreases-loop-i : goal.decreases-loop-i
decreases-loop-i l = l.end - l.i
