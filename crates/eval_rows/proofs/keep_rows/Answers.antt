-- `keep_rows` meets its contract: what is left behind the first node that asks for an expression goes on with it.
use native.Mathlib.Omega.{arith}
use Rattle.eval_rows.specs.Calls.{left_asked, read_spelled}
use Rattle.eval_rows.specs.Columns.{pass_code, pass_left, pass_later, pass_then}
use Rattle.eval_rows.proofs.keep_rows.Goals as goal

pub read_call-requires : goal.read_call-requires
read_call-requires c = left_asked (pass_left {f = c.args.f} c.requires.0 c.requires.1 c.unread-v.ensures c.in-Some.is)

pub overflow_add-g : goal.overflow_add-g
overflow_add-g c = let r = c.in-Some-read_call.ensures in omega (arith, r.call.ends, (pass_code c.requires.0).1)

pub mentions-requires : goal.mentions-requires
mentions-requires c = ((left_asked (pass_left {f = c.args.f} c.requires.0 c.requires.1 c.unread-v.ensures c.in-Some.is)).inside, (pass_code c.requires.0).1)

pub by_size-requires : goal.by_size-requires
by_size-requires c = let r = c.in-Some-read_call.ensures in record { ask_pass = pass_later {f = c.args.f} c.requires.0 c.requires.1 c.unread-v.ensures; call_at = (r.call, read_spelled (pass_left {f = c.args.f} c.requires.0 c.requires.1 c.unread-v.ensures c.in-Some.is) r) }

pub returns : goal.returns
returns c = pass_then {f = c.args.f} c.requires.0 c.requires.1 c.unread-v.ensures c.by_size.ensures
