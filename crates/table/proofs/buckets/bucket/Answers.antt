-- The two halves of the hash together.
use native.Mathlib.Nat.{mod-lt}
use mathlib.Core.Path.{sym, ap, ◌∙◌, subst}
use Prim.Native.Nat.{ℕ, ◌+◌, ◌/◌, ◌%◌, ◌<◌}
use lib.Dec.{lit<}
use Rattle.table.specs.Buckets.{hash_of, bucket_of}
use borrow.Author.Rules.{rules}
use Rattle.table.proofs.buckets.bucket.Goals as goal

pub returns-then-n-eq-BUCKETS : goal.returns-then-n-eq-BUCKETS
unfolding bucket_of
returns-then-n-eq-BUCKETS c = (ap (λ (x : ℕ). (x + x / 65536) % 1024) c.hash_of-hash.ensures.0 ∙ ap (λ (m : ℕ). (hash_of c.args.s.now + hash_of c.args.s.now / 65536) % m) (sym c.if-n-eq-BUCKETS.true), subst (λ (m : ℕ). (c.hash_of-hash.result + c.hash_of-hash.result / 65536) % 1024 < m) (sym c.if-n-eq-BUCKETS.true) (mod-lt (c.hash_of-hash.result + c.hash_of-hash.result / 65536) (lit< tt)))

pub returns : goal.returns
unfolding bucket_of
returns c = (ap (λ (x : ℕ). (x + x / 65536) % c.args.n) c.hash_of-hash.ensures.0, mod-lt (c.hash_of-hash.result + c.hash_of-hash.result / 65536) c.requires)
