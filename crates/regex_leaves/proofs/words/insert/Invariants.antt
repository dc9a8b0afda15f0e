-- `regex_leaves::words::insert` meets its contract. The loop's invariant: the words before i have moved up by one, and the one that i takes is carried.
use Rattle.regex_leaves.proofs.Stores.{Carry}
use Rattle.regex_leaves.proofs.words.insert.Given as goal

abbrev pub invariant-loop-i : goal.invariant-loop-i
invariant-loop-i l = Carry l.initial.code l.from l.to l.x l.code l.i l.carried
