-- `regex_reader::classes::items` meets its contract. The loop's invariant: the items that were passed have the ranges that are written. The measure is what is left.
use Rattle.regex_reader.proofs.OfClasses.{Going}
use lib.ListN.{length}
use Prim.Native.Nat.{◌-◌}
use Rattle.regex_reader.proofs.classes.items.Given as goal

abbrev pub invariant-loop-at : goal.invariant-loop-at
invariant-loop-at l = Going l.s l.initial.code l.at l.len l.code l.i l.n

abbrev pub decreases-loop-at : goal.decreases-loop-at
decreases-loop-at l = length l.s - l.i
