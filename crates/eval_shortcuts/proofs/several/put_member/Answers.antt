-- `put_member` meets its contract.
use native.Mathlib.Omega.{arith}
use Rattle.eval_shortcuts.specs.Picked.{put_found, put_none}
use Rattle.eval_shortcuts.proofs.several.put_member.Goals as goal

pub member_at-found-requires : goal.member_at-found-requires
member_at-found-requires c = record { ask_one = c.requires.ask_one; below = c.requires.below }

pub returns-in_default : goal.returns-in_default
returns-in_default c = put_none c.member_at-found.ensures c.in_default.is c.requires.room.0.room

pub overflow_sub-near : goal.overflow_sub-near
overflow_sub-near c = omega (arith, c.member_at-found.ensures.low _ c.in-Some.is, c.requires.below.0.0)

pub push-requires : goal.push-requires
push-requires c = record { room = c.requires.room.0.room; wide = c.requires.room.0.wide; small = c.requires.room.0.small; number = omega (arith, c.member_at-found.ensures.inside _ c.in-Some.is, c.requires.ask_one.tab.size.few) }

pub returns : goal.returns
returns c = put_found c.requires.ask_one.tab c.member_at-found.ensures c.in-Some.is c.push.ensures
