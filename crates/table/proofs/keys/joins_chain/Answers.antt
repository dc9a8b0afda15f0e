-- The chain of the key's bucket is followed, and a node whose key is unlike those on it becomes the head of the bucket.
use native.Mathlib.Omega.{arith}
use mathlib.Core.Path.{refl, sym, ap, ◌∙◌, subst}
use Prim.Native.Nat.{ℕ, ◌+◌, ◌-◌, ◌<◌}
use lib.ListN.{length, get_or, set, length-set}
use lib.Dec.{ltb}
use Rattle.table_laws.specs.Keys.{key_span}
use Rattle.table.specs.Buckets.{bucket_of, bucket_at}
use Rattle.table.specs.Chains.{Latest, Chained}
use Rattle.table.proofs.Chains.{chain_joined}
use borrow.Author.Rules.{rules}
use Rattle.table.proofs.keys.joins_chain.Goals as goal

pub chain_differs-requires : goal.chain_differs-requires
chain_differs-requires c =
    let k = key_span c.args.table.now c.args.text.now c.args.node c.key_start-start.result (c.key_start-start.result + c.key_length.result) (omega arith) (omega arith) in
    let n = length c.args.heads.now in
    let e = c.bucket-bucket.ensures.0 ∙ ap (bucket_of n) k in
    record { joins = c.requires.joins; key_value = k; chain = record { count = n; latest = subst (λ (x : ℕ). Latest (bucket_at n c.args.table.now c.args.text.now) x c.args.from c.args.node (get_or c.args.heads.now c.bucket-bucket.result 0)) e (c.requires.chained.last c.bucket-bucket.result c.bucket-bucket.ensures.1); linked = c.requires.chained.linked } }

pub returns-in_err-steps : goal.returns-in_err-steps
returns-in_err-steps c = rw c.from_residual.ensures (record { result_value = c.in_err-steps.ensures; chained_2 = tt; links_len_unchanged = refl })

pub returns : goal.returns
returns c =
    let k = key_span c.args.table.now c.args.text.now c.args.node c.key_start-start.result (c.key_start-start.result + c.key_length.result) (omega arith) (omega arith) in
    let n = length c.args.heads.now in
    let e = c.bucket-bucket.ensures.0 ∙ ap (bucket_of n) k in
    let h = bucket_at n c.args.table.now c.args.text.now in
    let j = chain_joined h c.args.from c.args.node c.args.heads.now c.args.links.now c.requires.chained c.requires.joins.from_le c.requires.from_in_bounds (subst (λ (x : ℕ). x < n) e c.bucket-bucket.ensures.1) in
    let i = subst (λ (x : ℕ). Chained h c.args.from (c.args.node + 1) (set c.args.heads.now x c.args.node) (set c.args.links.now (c.args.node - c.args.from) (get_or c.args.heads.now x 0))) (sym e) j in
    record { result_value = c.in_ok-steps.ensures; chained_2 = subst (λ (x : ℕ). Chained (bucket_at x c.args.table.now c.args.text.now) c.args.from (c.args.node + 1) (set c.args.heads.now c.bucket-bucket.result c.args.node) (set c.args.links.now (c.args.node - c.args.from) (get_or c.args.heads.now c.bucket-bucket.result 0))) (sym (length-set c.args.heads.now c.bucket-bucket.result c.args.node)) i; links_len_unchanged = length-set c.args.links.now (c.args.node - c.args.from) (get_or c.args.heads.now c.bucket-bucket.result 0) }
