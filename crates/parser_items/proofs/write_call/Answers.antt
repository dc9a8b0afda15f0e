-- `parser_items::write_call` meets its contract: the verdict is set, and then the byte of the call is put.
--
use Rattle.parser_items.specs.Laws.{marked_of}
use Rattle.parser_items.proofs.Typing.{call_unknown, call_known}
use Rattle.parser_items.proofs.write_call.Goals as goal

pub returns-in_default : goal.returns-in_default
returns-in_default c = call_unknown c.args.sorts c.call_verdict.ensures (marked_of c.judged-a.ensures.place c.judged-a.ensures.marks) c.in_default.is

pub returns : goal.returns
returns c = call_known c.args.sorts c.call_verdict.ensures (marked_of c.judged-a.ensures.place c.judged-a.ensures.marks) c.in-Some.is c.call_kind.ensures c.item.ensures
