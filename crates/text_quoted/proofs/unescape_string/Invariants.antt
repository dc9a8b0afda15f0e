-- `text_quoted::unescape_string` meets its contract. What was read so far, and what each part adds.
use Prim.Native.Nat.{◌-◌}
use lib.ListN.{length, drop}
use Rattle.text_quoted.specs.Quoted.{quote_of}
use Rattle.text_quoted.specs.Pieces.{Went}
use Rattle.text_quoted.proofs.unescape_string.Given as goal

abbrev pub invariant-loop-part : goal.invariant-loop-part
invariant-loop-part l = Went (quote_of l.quote) l.s l.at l.initial.out l.len l.out l.so_far.next l.so_far.end (drop l.so_far.next l.s)

abbrev pub decreases-loop-part : goal.decreases-loop-part
decreases-loop-part l = length l.s - l.so_far.next
