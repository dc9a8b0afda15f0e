-- `is_near` meets its contract: what has the name at that place is what a search finds.
use mathlib.Core.Path.{sym, ap, ◌∙◌}
use Prim.Native.Nat.{ℕ, ◌+◌}
use Rattle.eval_values.specs.Near.{not_near, near_named, near_is}
use Rattle.eval_values.proofs.members.is_near.Goals as goal

pub returns-then-kind-ne-KIND_MAP : goal.returns-then-kind-ne-KIND_MAP
returns-then-kind-ne-KIND_MAP c = not_near _ _ _ _ _

pub returns-then-children-near : goal.returns-then-children-near
returns-then-children-near c = not_near _ _ _ _ _

pub is_named-requires : goal.is_named-requires
is_named-requires c = record { node_bound = near_named c.requires.accepted.0 c.requires.accepted.1 (sym c.kind.ensures ∙ c.if-kind-ne-KIND_MAP.false) c.children.ensures c.if-children-near.false _ (ap (λ (z : ℕ). z + c.args.near) c.first_child.ensures); n_in_bounds = c.requires.n_in_bounds }

pub returns : goal.returns
returns c = near_is c.requires.accepted.0 c.requires.accepted.1 (sym c.kind.ensures ∙ c.if-kind-ne-KIND_MAP.false) c.children.ensures c.if-children-near.false _ _ (ap (λ (z : ℕ). z + c.args.near) c.first_child.ensures) _ c.is_named.ensures
