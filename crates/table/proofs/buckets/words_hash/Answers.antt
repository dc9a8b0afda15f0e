-- The loop's invariant: the words that are left, mixed into the hash, give the hash of all.
use native.Mathlib.Omega.{arith}
use mathlib.Core.Path.{◌≡◌, sym, ap, ◌∙◌}
use Prim.Native.Nat.{ℕ, ◌+◌, ◌-◌, ◌*◌, ◌/◌, ◌≤◌, ◌<◌}
use lib.ListN.{length}
use Rattle.table.specs.Buckets.{hashes, folded}
use Rattle.table.proofs.Folds.{fold_on, fold_end}
use borrow.Author.Rules.{rules}
use Rattle.table.proofs.buckets.words_hash.Goals as goal

pub loop-i-init : goal.loop-i-init
loop-i-init c =
    let e : length c.args.s.now / 4 - 0 ≡ length c.args.s.now / 4 = omega arith in
    (omega arith, ap (λ (n : ℕ). folded 4 c.args.s.now n 0 0) e)

pub mix-hash-requires : goal.mix-hash-requires
mix-hash-requires c = (c.loop-i.invariant.0, c.word32.ensures.fits)

pub loop-i-preserved : goal.loop-i-preserved
loop-i-preserved c =
    let n = length c.args.s.now / 4 in
    let e : 4 * c.loop-i.i + 4 ≡ 4 * (c.loop-i.i + 1) = omega arith in
    let f = fold_on 4 c.args.s.now (n - c.loop-i.i) (n - (c.loop-i.i + 1)) (4 * c.loop-i.i) c.loop-i.hash c.mix-hash.result c.word32.result (omega arith) c.word32.ensures.is c.mix-hash.ensures.0 in
    (c.mix-hash.ensures.1, ap (λ (at : ℕ). folded 4 c.args.s.now (n - (c.loop-i.i + 1)) at c.mix-hash.result) (sym e) ∙ sym f ∙ c.loop-i.invariant.1)

pub returns : goal.returns
returns c = (sym (fold_end 4 c.args.s.now (length c.args.s.now / 4 - c.loop-i.i) (4 * c.loop-i.i) c.loop-i.hash (omega arith)) ∙ c.loop-i.invariant.1, c.loop-i.invariant.0)
