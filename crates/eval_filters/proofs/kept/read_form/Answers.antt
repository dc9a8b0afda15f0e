-- `read_form` meets its contract.
use Rattle.eval_filters.proofs.kept.read_form.Goals as goal

pub read_alone-requires : goal.read_alone-requires
read_alone-requires c = record { ask_code = c.requires.ask_code; rest_value = c.tail_of-tail.ensures.ends c.if-tail-eq0.true }

pub returns-then-tail-le1 : goal.returns-then-tail-le1
returns-then-tail-le1 c = (c.in-Some.ensures, (c.tail_of-tail.ensures, c.if-tail-le1.true))
