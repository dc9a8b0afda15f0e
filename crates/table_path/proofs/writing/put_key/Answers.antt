-- The bytes of the key from a place on are put.
use native.Mathlib.Omega.{arith}
use Prim.Native.Nat.{ℕ, ◌-◌}
use mathlib.Core.Path.{◌≡◌, sym, subst}
use mathlib.Core.List.{[], ◌∷◌, ◌++◌}
use Rattle.std.proofs.lemmas.Iterator.Adapters.{YieldsList-from_rev_slice}
use Rattle.std.proofs.lemmas.Iterator.Consumers.{YieldsList-turn, YieldsList-end}
use Rattle.std.proofs.lemmas.List.{length_push, length-reverse}
use lib.ListN.{length, drop}
use Rattle.definition.specs.Paths.{escaped, escaped_all}
use Rattle.table_path.specs.Words.{Put, Room}
use Rattle.table_path.proofs.Keys.{put_start, byte_room, byte_put, byte_back, put_all}
use Rattle.table_path.proofs.writing.put_key.Goals as goal

pub loop-byte-init : goal.loop-byte-init
loop-byte-init c =
    let e : length c.args.key.now - 0 ≡ length c.args.key.now = omega arith in
    subst (λ (i : ℕ). Put c.args.room.now c.args.end (escaped_all (drop i c.args.key.now)) c.args.room.now c.args.end) (sym e) (put_start _ _ c.args.key.now)

pub put_escaped-at-requires : goal.put_escaped-at-requires
put_escaped-at-requires c =
    let t = YieldsList-turn (YieldsList-from_rev_slice c.args.key.now cc) c.loop-byte.yielded _ c.loop-byte.yielded_by _ _ c.in-Some.field-0 c.in-Some.is c.next.ensures.steps in
    let b = byte_back c.args.key.now (length c.loop-byte.yielded) c.in-Some.field-0.now t in
    subst (λ (x : ℕ). Room c.loop-byte.room c.loop-byte.at (length (escaped x))) (sym b.1) (byte_room c.args.key.now (length c.args.key.now - length c.loop-byte.yielded) c.loop-byte.invariant (omega arith) (omega (arith, b.0)) c.requires)

pub loop-byte-preserved : goal.loop-byte-preserved
loop-byte-preserved c =
    let t = YieldsList-turn (YieldsList-from_rev_slice c.args.key.now cc) c.loop-byte.yielded _ c.loop-byte.yielded_by _ _ c.in-Some.field-0 c.in-Some.is c.next.ensures.steps in
    let b = byte_back c.args.key.now (length c.loop-byte.yielded) c.in-Some.field-0.now t in
    let p = length_push c.loop-byte.yielded c.in-Some.field-0 in
    let e : length c.args.key.now - length (c.loop-byte.yielded ++ c.in-Some.field-0 ∷ []) ≡ length c.args.key.now - length c.loop-byte.yielded - 1 = omega arith in
    let q = subst (λ (x : ℕ). Put c.loop-byte.room c.loop-byte.at (escaped x) c.put_escaped-at.new.room c.put_escaped-at.result) b.1 c.put_escaped-at.ensures in
    subst (λ (i : ℕ). Put c.args.room.now c.args.end (escaped_all (drop i c.args.key.now)) c.put_escaped-at.new.room c.put_escaped-at.result) (sym e) (byte_put c.args.key.now (length c.args.key.now - length c.loop-byte.yielded) c.loop-byte.invariant (omega arith) (omega (arith, b.0)) q)

pub shape_of-room : goal.shape_of-room
shape_of-room c = c.loop-byte.invariant.same

pub returns : goal.returns
returns c =
    let t = YieldsList-end (YieldsList-from_rev_slice c.args.key.now cc) c.loop-byte.yielded _ c.loop-byte.yielded_by _ _ c.in-None.is c.next.ensures.steps in
    let l = length-reverse c.args.key.now in
    put_all c.args.key.now (length c.args.key.now - length c.loop-byte.yielded) (omega (arith, t.1)) c.loop-byte.invariant
