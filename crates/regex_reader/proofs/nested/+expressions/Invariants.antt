-- The measures and invariants of the cycle of calls {alts, atom, branch, piece}.
use Prim.Native.Nat.{◌+◌, ◌-◌, ◌*◌}
use lib.ListN.{length}
use Rattle.regex_reader.proofs.OfNested.{Alternating, Branching}
use Rattle.regex_reader.proofs.nested.+expressions.Given as goal

abbrev pub decreases-alts : goal.decreases-alts
decreases-alts l = 4 * (length l.s.now - l.st.at) + 3

abbrev pub decreases-atom : goal.decreases-atom
decreases-atom l = 4 * (length l.s.now - l.st.at) + 0

abbrev pub decreases-branch : goal.decreases-branch
decreases-branch l = 4 * (length l.s.now - l.st.at) + 2

abbrev pub decreases-piece : goal.decreases-piece
decreases-piece l = 4 * (length l.s.now - l.st.at) + 1

abbrev pub invariant-alts-loop-n : goal.invariant-alts-loop-n
invariant-alts-loop-n l = Alternating l.s l.initial.code (record { at = l.initial.at; len = l.initial.len }) l.code l.at l.len

abbrev pub decreases-alts-loop-n : goal.decreases-alts-loop-n
decreases-alts-loop-n l = length l.s - l.at

abbrev pub invariant-branch-loop-code : goal.invariant-branch-loop-code
invariant-branch-loop-code l = Branching l.s l.initial.code (record { at = l.initial.at; len = l.initial.len }) l.code l.at l.len

abbrev pub decreases-branch-loop-code : goal.decreases-branch-loop-code
decreases-branch-loop-code l = length l.s - l.at
