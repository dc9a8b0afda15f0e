-- `regex_needed::needed` meets its contract.
use Rattle.regex_needed.specs.Needed.Needed.{all}
use Rattle.regex_needed.proofs.Writing.{needs_none}
use Rattle.regex_needed.proofs.needed.Goals as goal

pub returns-then-hi-lo : goal.returns-then-hi-lo
returns-then-hi-lo c = all

pub returns-then-matches : goal.returns-then-matches
returns-then-matches c = needs_none c.if-hi-lo.false c.matches.ensures c.if-matches.true

pub returns : goal.returns
returns c = all
