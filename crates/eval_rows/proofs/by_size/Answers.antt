-- `by_size` meets its contract.
use Rattle.regex_rooms.specs.Rooms.{scope_for}
use Rattle.eval_rows.specs.Known.{cut_long}
use Rattle.eval_rows.proofs.by_size.Goals as goal

pub short-requires : goal.short-requires
short-requires c = record { ask_pass = c.requires.ask_pass; call_at = c.requires.call_at; size_bound = c.if-n-le-SHORT.true }

pub long-requires : goal.long-requires
long-requires c = record { ask_pass = c.requires.ask_pass; call_at = c.requires.call_at; size_bound = c.if-n-le-LONG.true }

pub outside-requires : goal.outside-requires
outside-requires c = record { ask_pass = c.requires.ask_pass; call_at = c.requires.call_at; outside = cut_long (scope_for c.args.g.kind) c.args.pool.now c.args.g.start c.args.g.size c.requires.call_at.1.0 c.if-n-le-LONG.false }
