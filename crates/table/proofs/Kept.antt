-- What heads and links hold when the cursor moves, and behind a node. Assumes nothing.
use Prim.Native.Nat.{ℕ, suc, ◌+◌, ◌≤◌, ◌<◌}
use mathlib.Core.Path.{◌≡◌, refl, sym, ap, ◌∙◌, subst}
use mathlib.Core.List.{List}
use mathlib.Core.Bool.{Bool, true, false}
use lib.Dec.{ltb}
use lib.ListN.{length, replicate, length-replicate}
use native.Mathlib.Omega.{arith}
use Rattle.std.proofs.lemmas.Bool.{false≢true}
use borrow.Author.Tests.{ltb-true, ltb-false}
use Rattle.definition.specs.Limits.{max_members}
use Rattle.definition.specs.Tables.{node_count, first_child}
use Rattle.table_laws.specs.Counts.{counts_monotone}
use Rattle.table.specs.declared.scan.Cursor.{Cursor}
use Rattle.table.specs.Buckets.{bucket_at}
use Rattle.table.specs.Chains.{HeadsBelow, Chained, Roomy}
use Rattle.table.specs.Words.{Large, Kept, CursorAt, ParentAt, Moved, Surely, Before}
use Rattle.table.specs.Words.Surely.{as_before, found}
use Rattle.table.proofs.Chains.{heads_next, chained_heads, chains_begin}
use Rattle.table.proofs.Cursor.{after_node}

module _ (T X : List ℕ) (i : ℕ) (q r : Cursor) (H L : List ℕ) (b : Before T X i q H L) (p : ParentAt T i r) (w : Moved i q r) where
  -- behind the end of a range the next range that is not empty begins
  first_of_range : q.end ≤ i → i ≤ r.from
  first_of_range l = go (ltb q.parent r.parent) refl
    where
      go : (x : Bool) → ltb q.parent r.parent ≡ x → i ≤ r.from
      go true e =
          let m = counts_monotone T (suc q.parent) r.parent (ltb-true q.parent r.parent e) in
          let u = b.cursor.end_is in
          let v = p.place.from_is in
          let w = b.reach in
          omega arith
      go false e =
          let n = ltb-false q.parent r.parent e in
          let m = counts_monotone T (suc r.parent) (suc q.parent) (omega arith) in
          let u = b.cursor.end_is in
          let v = p.place.end_is in
          let w = p.end_past in
          absurd (omega arith)

  -- what is kept for the cursor is kept for the parent: the cursor stays, or the parent's first child comes next
  pub kept_moved : Kept T X i r H L
  kept_moved = go (ltb i q.end) refl
    where
      go : (x : Bool) → ltb i q.end ≡ x → Kept T X i r H L
      go true e = subst (λ (x : Cursor). Kept T X i x H L) (sym (w.stays (ltb-true i q.end e))) b.kept
      go false e =
          let l = ltb-false i q.end e in
          record { heads = b.kept.heads; room = b.kept.room; chained = λ _ _. chains_begin (bucket_at (length H) T X) r.from i H L (first_of_range l) b.kept.heads; surely = λ z. absurd (false≢true (sym (w.anew l) ∙ z)) }

module _ (T X : List ℕ) (i : ℕ) (q : Cursor) (H L : List ℕ) where
  -- behind a node that joins no chain
  pub kept_plain : Kept T X i q H L → (Large T q.parent → q.sure ≡ false → ⊥) → Kept T X (i + 1) q H L
  kept_plain k n = record { heads = heads_next i H k.heads; room = k.room; chained = λ m z. absurd (n m z); surely = k.surely }

  -- behind a node that joined the chain of its bucket
  pub kept_chained : Chained (bucket_at (length H) T X) q.from (i + 1) H L → Roomy T L → q.sure ≡ false → Kept T X (i + 1) q H L
  kept_chained k r e = record { heads = chained_heads (bucket_at (length H) T X) q.from (i + 1) H L k; room = r; chained = λ _ _. k; surely = λ z. absurd (false≢true (sym e ∙ z)) }

-- a cursor under which the keys are found to differ
pub before_surely : (T X : List ℕ) (i : ℕ) (q r : Cursor) (H L : List ℕ) → Surely T X q r → Before T X i q H L → Before T X i r H L
before_surely T X i q r H L (as_before e) b = subst (λ (x : Cursor). Before T X i x H L) (sym e) b
before_surely T X i q r H L (found e d) b =
    let h = b.cursor in
    subst
    (λ (x : Cursor). Before T X i x H L)
    (sym e)
    (record {
      cursor = record { earlier = h.earlier; from_is = h.from_is; from_le = h.from_le; end_is = h.end_is; kind_is = h.kind_is; depth_is = h.depth_is };
      reach = b.reach;
      kept = record { heads = b.kept.heads; room = b.kept.room; chained = λ _ z. absurd (false≢true (sym z)); surely = λ _. d };
    })

-- as many links have the same places
pub roomy_same : {T L L' : List ℕ} → length L' ≡ length L → Roomy T L → Roomy T L'
roomy_same e r = record { place = λ f i a b. let z = r.place f i a b in omega arith }

-- behind a node, with the cursor at its parent
pub before_next : (T X : List ℕ) (i : ℕ) (q : Cursor) (H L : List ℕ) → ParentAt T i q → Kept T X (i + 1) q H L → Before T X (i + 1) q H L
before_next T X i q H L p k = record { cursor = after_node T i q p; reach = let e = p.end_past in omega arith; kept = k }

-- as many links as a map can have members, and as many as a table has nodes
pub roomy_members : (T : List ℕ) (m : ℕ) → m ≡ max_members → Roomy T (replicate m 0)
roomy_members T m e = let z = length-replicate {A = ℕ} m 0 in record { place = λ f i a b. omega arith }

pub roomy_nodes : (T : List ℕ) (m : ℕ) → node_count T ≤ m → Roomy T (replicate m 0)
roomy_nodes T m h = let z = length-replicate {A = ℕ} m 0 in record { place = λ f i a b. omega arith }
