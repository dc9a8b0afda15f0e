-- `regex_needed::head` meets its contract.
use Rattle.regex_needed.proofs.Writing.{head_once, head_endless, head_counted, written_on}
use Rattle.regex_needed.proofs.head.Goals as goal

pub returns-then-single : goal.returns-then-single
returns-then-single c = head_once (c.single.ensures c.if-single.true).0 (c.single.ensures c.if-single.true).1 c.requires.place

pub returns-then-endless : goal.returns-then-endless
returns-then-endless c = head_endless c.measure-w.ensures (c.endless.ensures c.if-endless.true) (written_on c.put-a.ensures c.put.ensures)

pub returns : goal.returns
returns c = head_counted (written_on (written_on c.put-a-2.ensures c.put-b.ensures) c.put-2.ensures)
