-- `regex_states::follow` meets its contract.
use Rattle.regex_states.specs.Texts.{Inside, Trail}
use Rattle.regex_states.proofs.follow.Given as goal

abbrev pub invariant-loop-i : goal.invariant-loop-i
invariant-loop-i l = Inside l.edges l.k × Trail l.edges l.text l.from l.state l.i l.k
