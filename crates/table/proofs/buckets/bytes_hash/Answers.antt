-- The loop's invariant: the bytes that are left, mixed into the hash, give the hash of all.
use native.Mathlib.Omega.{arith}
use mathlib.Core.Path.{◌≡◌, sym, ap, ◌∙◌}
use Prim.Native.Nat.{ℕ, ◌+◌, ◌-◌, ◌≤◌, ◌<◌}
use lib.ListN.{length}
use Rattle.table.specs.Buckets.{hashes, folded}
use Rattle.table.proofs.Folds.{fold_on, fold_end}
use Rattle.table.proofs.buckets.bytes_hash.Goals as goal

pub loop-at-init : goal.loop-at-init
loop-at-init c =
    let e : length c.args.s.now - 0 ≡ length c.args.s.now = omega arith in
    (omega arith, omega arith, ap (λ (n : ℕ). folded 1 c.args.s.now n 0 0) e)

pub mix-hash-requires : goal.mix-hash-requires
mix-hash-requires c = (c.loop-at.invariant.1, omega arith)

pub loop-at-preserved : goal.loop-at-preserved
loop-at-preserved c = (omega arith, c.mix-hash.ensures.1, sym (fold_on 1 c.args.s.now (length c.args.s.now - c.loop-at.at) (length c.args.s.now - (c.loop-at.at + 1)) c.loop-at.at c.loop-at.hash c.mix-hash.result c.word8.result (omega arith) c.word8.ensures.is c.mix-hash.ensures.0) ∙ c.loop-at.invariant.2)

pub returns : goal.returns
returns c = (sym (fold_end 1 c.args.s.now (length c.args.s.now - c.loop-at.at) c.loop-at.at c.loop-at.hash (omega arith)) ∙ c.loop-at.invariant.2, c.loop-at.invariant.1)
