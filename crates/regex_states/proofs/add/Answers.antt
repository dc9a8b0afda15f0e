-- `regex_states::add` meets its contract.
use borrow.Author.Tests.{not-false}
use mathlib.Core.Path.{refl, ◌∙◌}
use native.Mathlib.Omega.{arith}
use lib.ListN.{length-set}
use Prim.Native.Nat.{◌+◌}
use Rattle.regex_states.specs.Rooms.{full, fresh}
use Rattle.regex_states.proofs.Writes.{added}
use mathlib.Core.Path.{ap}
use mathlib.Core.Bool.{not}
use Rattle.regex_states.proofs.add.Goals as goal

pub returns-then-not-has_room : goal.returns-then-not-has_room
returns-then-not-has_room c = full refl refl refl

pub store-requires : goal.store-requires
store-requires c = let r = c.has_room.ensures (not-false _ (ap not c.if-not-has_room.false)) in omega (arith, r.sets, c.requires.0)

pub seal-requires : goal.seal-requires
seal-requires c = let r = c.has_room.ensures (not-false _ (ap not c.if-not-has_room.false)) in omega (arith, r.sets, c.store.ensures.long)

pub blank-requires : goal.blank-requires
blank-requires c = let r = c.has_room.ensures (not-false _ (ap not c.if-not-has_room.false)) in omega (arith, r.edges)

pub overflow_add-sets : goal.overflow_add-sets
overflow_add-sets c = let r = c.has_room.ensures (not-false _ (ap not c.if-not-has_room.false)) in omega (arith, r.byte)

pub overflow_cast-sets : goal.overflow_cast-sets
overflow_cast-sets c = let r = c.has_room.ensures (not-false _ (ap not c.if-not-has_room.false)) in omega (arith, r.byte)

pub shape_of-sets : goal.shape_of-sets
shape_of-sets c = length-set c.seal.new.sets 1 (c.from-k.result + 1) ∙ c.seal.ensures.long ∙ c.store.ensures.long

pub returns : goal.returns
returns c = let r = c.has_room.ensures (not-false _ (ap not c.if-not-has_room.false)) in fresh (added _ c.from-k.ensures (omega (arith, c.requires.1, c.from-k.ensures)) c.requires.0 r c.settles-end.ensures c.store.ensures c.seal.ensures c.blank.ensures)
