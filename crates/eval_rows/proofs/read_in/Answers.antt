-- `read_in` meets its contract.
use mathlib.Core.Path.{sym}
use lib.Seq.{length-take-le}
use native.Mathlib.Omega.{arith}
use Rattle.regex_rooms.specs.Rooms.{scope_for}
use Rattle.regex_rooms.proofs.Laws.{code_is}
use Rattle.eval_rows.specs.Known.{cut_asked, cut_outside, cut_code}
use Rattle.eval_rows.proofs.read_in.Goals as goal

pub overflow_add-b : goal.overflow_add-b
overflow_add-b c = omega (arith, c.requires.call_at.1.0, c.requires.ask_pass.given.few_l)

pub slice_bounds-read_widened-end : goal.slice_bounds-read_widened-end
slice_bounds-read_widened-end c = omega (arith, c.requires.call_at.1.0)

pub read_widened-requires : goal.read_widened-requires
read_widened-requires c = let all = cut_asked (scope_for c.args.g.kind) c.args.pool.now c.args.g.start c.args.g.size c.requires.call_at.1 c.requires.size_in_bounds in record { e_value = all.0; e_in_bounds = all.1 }

pub outside-requires : goal.outside-requires
outside-requires c = record { ask_pass = c.requires.ask_pass; call_at = c.requires.call_at; outside = cut_outside (scope_for c.args.g.kind) c.args.pool.now c.args.g.start c.args.g.size c.in-None.ensures }

pub slice_bounds-by_code-end : goal.slice_bounds-by_code-end
slice_bounds-by_code-end c = (code_is c.in-Some.ensures).inside

pub slice_bounds-by_code-end-in-Some : goal.slice_bounds-by_code-end-in-Some
slice_bounds-by_code-end-in-Some c = sym (length-take-le _ _ (code_is c.in-Some.ensures).inside)

pub by_code-requires : goal.by_code-requires
by_code-requires c = record { ask_pass = c.requires.ask_pass; call_at = c.requires.call_at; ready = cut_code (scope_for c.args.g.kind) c.args.pool.now c.args.g.start c.args.g.size _ (code_is c.in-Some.ensures) }
