-- The measures and invariants of the cycle of calls {all, any, call-argument, call-arguments, basic, behind, bracketed, call-chained, filter, call-function, call-more, more_and, more_or, negation, operand, paren, query, right, segment, segments, selector, selectors}.
use Prim.Native.Nat.{◌+◌, ◌*◌, ◌-◌}
use lib.ListN.{length}
use Rattle.parser.proofs.Logic.{AndLoop, OrLoop}
use Rattle.parser.proofs.Enclosed.{ArgumentsLoop}
use Rattle.parser.proofs.Picks.{SegmentsLoop}
use Rattle.parser.proofs.Lists.{SelectorsLoop}
use Rattle.parser.proofs.+grammar.Given as goal

abbrev pub decreases-all : goal.decreases-all
decreases-all l = 16 * (length l.s.now - l.st.at) + 4

abbrev pub decreases-any : goal.decreases-any
decreases-any l = 16 * (length l.s.now - l.st.at) + 5

abbrev pub decreases-call::argument : goal.decreases-call::argument
decreases-call::argument l = 16 * (length l.s.now - l.st.at) + 6

abbrev pub decreases-call::arguments : goal.decreases-call::arguments
decreases-call::arguments l = 16 * (length l.s.now - l.st.at) + 7

abbrev pub decreases-basic : goal.decreases-basic
decreases-basic l = 16 * (length l.s.now - l.st.at) + 3

abbrev pub decreases-behind : goal.decreases-behind
decreases-behind l = 16 * (length l.s.now - l.st.at) + 2

abbrev pub decreases-bracketed : goal.decreases-bracketed
decreases-bracketed l = 16 * (length l.s.now - l.st.at) + 0

abbrev pub decreases-call::chained : goal.decreases-call::chained
decreases-call::chained l = 16 * (length l.s.now - l.st.at) + 3

abbrev pub decreases-filter : goal.decreases-filter
decreases-filter l = 16 * (length l.s.now - l.st.at) + 6

abbrev pub decreases-call::function : goal.decreases-call::function
decreases-call::function l = 16 * (length l.s.now - l.st.at) + 8

abbrev pub decreases-call::more : goal.decreases-call::more
decreases-call::more l = 16 * (length l.s.now - l.st.at) + 0

abbrev pub decreases-more_and : goal.decreases-more_and
decreases-more_and l = 16 * (length l.s.now - l.st.at) + 0

abbrev pub decreases-more_or : goal.decreases-more_or
decreases-more_or l = 16 * (length l.s.now - l.st.at) + 0

abbrev pub decreases-negation : goal.decreases-negation
decreases-negation l = 16 * (length l.s.now - l.st.at) + 1

abbrev pub decreases-operand : goal.decreases-operand
decreases-operand l = 16 * (length l.s.now - l.st.at) + 0

abbrev pub decreases-paren : goal.decreases-paren
decreases-paren l = 16 * (length l.s.now - l.st.at) + 0

abbrev pub decreases-query : goal.decreases-query
decreases-query l = 16 * (length l.s.now - l.st.at) + 3

abbrev pub decreases-right : goal.decreases-right
decreases-right l = 16 * (length l.s.now - l.st.at) + 1

abbrev pub decreases-segment : goal.decreases-segment
decreases-segment l = 16 * (length l.s.now - l.st.at) + 1

abbrev pub decreases-segments : goal.decreases-segments
decreases-segments l = 16 * (length l.s.now - l.st.at) + 2

abbrev pub decreases-selector : goal.decreases-selector
decreases-selector l = 16 * (length l.s.now - l.st.at) + 0

abbrev pub decreases-selectors : goal.decreases-selectors
decreases-selectors l = 16 * (length l.s.now - l.st.at) + 0

abbrev pub invariant-call::more-loop-now : goal.invariant-call::more-loop-now
invariant-call::more-loop-now l = ArgumentsLoop l.sorts l.s l.initial.plan l.plan l.initial.pool l.pool l.initial.now l.now l.known

abbrev pub decreases-call::more-loop-now : goal.decreases-call::more-loop-now
decreases-call::more-loop-now l = length l.s - l.now.at

abbrev pub invariant-more_and-loop-now : goal.invariant-more_and-loop-now
invariant-more_and-loop-now l = AndLoop l.sort l.asked l.s l.initial.plan l.plan l.initial.pool l.pool l.initial.now l.now l.kind

abbrev pub decreases-more_and-loop-now : goal.decreases-more_and-loop-now
decreases-more_and-loop-now l = length l.s - l.now.at

abbrev pub invariant-more_or-loop-now : goal.invariant-more_or-loop-now
invariant-more_or-loop-now l = OrLoop l.sort l.asked l.s l.initial.plan l.plan l.initial.pool l.pool l.initial.now l.now l.kind

abbrev pub decreases-more_or-loop-now : goal.decreases-more_or-loop-now
decreases-more_or-loop-now l = length l.s - l.now.at

abbrev pub invariant-segments-loop-now : goal.invariant-segments-loop-now
invariant-segments-loop-now l = SegmentsLoop l.s l.initial.plan l.plan l.initial.pool l.pool l.initial.now l.now l.flag

abbrev pub decreases-segments-loop-now : goal.decreases-segments-loop-now
decreases-segments-loop-now l = length l.s - l.now.at

abbrev pub invariant-selectors-loop-now : goal.invariant-selectors-loop-now
invariant-selectors-loop-now l = SelectorsLoop l.s l.initial.plan l.plan l.initial.pool l.pool l.initial.now l.now l.count

abbrev pub decreases-selectors-loop-now : goal.decreases-selectors-loop-now
decreases-selectors-loop-now l = length l.s - l.now.at
