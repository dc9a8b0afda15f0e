-- `tail_of` meets its contract.
use Rattle.eval_filters.specs.Keeps.{tail_end, tail_name, tail_other}
use Rattle.eval_filters.proofs.kept.tail_of.Goals as goal

pub returns-then-plan-rest-eq-END : goal.returns-then-plan-rest-eq-END
returns-then-plan-rest-eq-END c = tail_end c.if-plan-rest-eq-END.true

pub returns-then-names_member : goal.returns-then-names_member
returns-then-names_member c = tail_name (c.names_member.ensures c.if-names_member.true)

pub returns : goal.returns
returns c = tail_other
