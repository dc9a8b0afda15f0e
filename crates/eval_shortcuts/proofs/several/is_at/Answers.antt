-- `is_at` meets its contract: the member there is asked for its name.
use mathlib.Core.Path.{sym, ◌∙◌}
use mathlib.Core.Bool.{false≢true}
use native.Mathlib.Omega.{arith}
use Rattle.eval_shortcuts.proofs.several.is_at.Goals as goal

pub returns-then-count-near : goal.returns-then-count-near
returns-then-count-near c e = absurd (false≢true e)

pub overflow_add-first : goal.overflow_add-first
overflow_add-first c = omega (arith, c.requires.members.nodes c.args.near c.if-count-near.false)

pub is_named-requires : goal.is_named-requires
is_named-requires c = record { node_bound = (c.requires.members.nodes c.args.near c.if-count-near.false, c.requires.members.keys c.args.near c.if-count-near.false); n_in_bounds = c.requires.n_in_bounds }

pub returns : goal.returns
returns c e = (c.if-count-near.false, sym e ∙ c.is_named.ensures)
