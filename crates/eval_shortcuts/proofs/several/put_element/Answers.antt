-- `put_element` meets its contract.
use native.Mathlib.Omega.{arith}
use Rattle.eval_shortcuts.specs.Picked.{put_found, put_none}
use Rattle.eval_shortcuts.proofs.several.put_element.Goals as goal

pub get_by_index-found-requires : goal.get_by_index-found-requires
get_by_index-found-requires c = c.requires.ask_one

pub returns-in_default : goal.returns-in_default
returns-in_default c = put_none c.get_by_index-found.ensures c.in_default.is c.requires.room.room

pub push-requires : goal.push-requires
push-requires c = record { room = c.requires.room.room; wide = c.requires.room.wide; small = c.requires.room.small; number = omega (arith, c.get_by_index-found.ensures.inside _ c.in-Some.is, c.requires.ask_one.tab.size.few) }

pub returns : goal.returns
returns c = put_found c.requires.ask_one.tab c.get_by_index-found.ensures c.in-Some.is c.push.ensures
