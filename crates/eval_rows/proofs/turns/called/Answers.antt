-- `turns::called` meets its contract, by what is known of the expression.
use Rattle.eval_rows.specs.Calls.{left_in, text_asked}
use Rattle.eval_rows.specs.Turns.{call_none, call_outside, call_tested}
use Rattle.eval_rows.proofs.turns.called.Goals as goal

pub bounds-plan-q : goal.bounds-plan-q
bounds-plan-q c = left_in c.requires.ask_left.0

pub text_of-requires : goal.text_of-requires
text_of-requires c = text_asked c.requires.ask_left.0 c.requires.ask_left.1 _ c.begins-from.ensures

pub returns-in_default : goal.returns-in_default
returns-in_default c = record { done_call = call_none c.requires.ask_left.0 c.requires.ask_left.1 c.begins-from.ensures c.text_of.ensures c.in_default.is; held = c.requires.ready.1 }

pub returns-in-Outside : goal.returns-in-Outside
returns-in-Outside c = record { done_call = call_outside c.requires.ask_left.0 c.requires.ask_left.1 c.begins-from.ensures c.text_of.ensures c.in-Some.is c.requires.ready.0 c.in-Outside.is; held = c.requires.ready.1 }

pub returns : goal.returns
returns c = record { done_call = call_tested c.requires.ask_left.0 c.requires.ask_left.1 c.begins-from.ensures c.text_of.ensures c.in-Some.is c.requires.ready.0 c.requires.fact c.in_default-known.not-Outside _ c.tested.ensures.tested; held = c.tested.ensures.held }
