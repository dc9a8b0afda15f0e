-- Texts under a root that is a list, and what is known behind them. Assumes nothing.
use Prim.Native.Nat.{ℕ, suc, ◌+◌, ◌≤◌, ◌<◌}
use mathlib.Core.Path.{◌≡◌, refl, sym, ap, ◌∙◌}
use mathlib.Core.List.{List}
use mathlib.Core.Bool.{true, false}
use lib.ListN.{length, replicate, length-replicate, get_or-replicate}
use native.Mathlib.Omega.{arith}
use Rattle.std.proofs.lemmas.Bool.{false≢true}
use borrow.Author.Tests.{eq-eqb}
use Rattle.definition.specs.Tables.{node_count, kind_at, depth_at, kind_map, key_start, key_length, parent_at, low_word, high_word, good_part, child_count, first_child}
use Rattle.table_laws.specs.Counts.{counts_root}
use Rattle.table_laws.specs.Joined.{node_right}
use Rattle.table_laws.specs.Least.{RightBelow}
use Rattle.table_laws.specs.Parents.{InRange}
use Rattle.table_laws.specs.Rights.{head_all, payload_text, count_other, first_inside, right_place, root_depth_zero}
use Rattle.table.specs.declared.scan.Cursor.{Cursor}
use Rattle.table.specs.Buckets.{bucket_at}
use Rattle.table.specs.Chains.{HeadsBelow, Roomy}
use Rattle.table.specs.Words.{Head, Under, CursorAt, Before, RootList, Front}
use Rattle.table.proofs.Chains.{chains_begin}
use Rattle.table.proofs.Cursor.{next_first, right_next}
use Rattle.table.proofs.Under.{no_key_sum, under_list, right_by_payload}

-- a right root that is no map
pub root_list : (T X : List ℕ) → 0 < node_count T → RightBelow T X 1 → (kind_at T 0 ≡ kind_map → ⊥) → RootList T
root_list T X n r k = record { plain = k; depth = root_depth_zero T X (right_place T X 0 (r 0 (omega arith))); inside = first_inside T X 1 r n }

module _ (T : List ℕ) (i h : ℕ) (w : Head T i h) (e : h ≡ 261) where
  -- bytes 0-3 of a text under the root
  pub text_kind : kind_at T i ≡ 5
  text_kind =
      let s = w.is in
      let k = w.kind in
      let d = w.depth in
      omega arith

  pub text_childless : child_count T i ≡ 0
  text_childless = let k = text_kind in count_other T i (λ z. absurd (omega arith)) (λ z. absurd (omega arith))

  -- one with no key, of the root as a list, is right by its part of the text
  pub text_right_lem : (X : List ℕ) (a b p : ℕ) → RootList T → 0 < i → i < first_child T 1 → a ≡ key_start T i → b ≡ key_length T i → p ≡ parent_at T i → a + b + p ≡ 0 → good_part X (low_word T i) (high_word T i) ≡ true → node_right T X i ≡ true
  text_right_lem X a b p l n m u v q z g =
      let s = w.is in
      let k = w.kind in
      let d = w.depth in
      let o = l.depth in
      let c = counts_root T in
      let y : Under T 0 i = record { head = head_all T i (omega arith) (omega arith) (omega arith); number = omega arith; deeper = omega arith } in
      let r : InRange T 0 i = record { above = omega arith; within = omega arith } in
      let f = under_list T X 0 i n r y l.plain ∙ sym (no_key_sum T i a b u v) ∙ eq-eqb (a + b) 0 (omega arith) in
      right_by_payload T X i y.head f ∙ payload_text T X i text_kind ∙ g

module _ (T X : List ℕ) where
  -- before node 1 the root alone is right
  pub front_root : RightBelow T X 1 → Front T X 1
  front_root r = let c = counts_root T in record { some = omega arith; reach = omega arith; right = r; first_is = refl; plain = λ _. refl }

  -- one text more
  pub front_next : (i : ℕ) → RootList T → Front T X i → i < first_child T 1 → node_right T X i ≡ true → child_count T i ≡ 0 → Front T X (i + 1)
  front_next i l f m h z =
      let s = f.some in
      let e = f.first_is in
      let g = next_first T X i (first_child T i) (child_count T i) refl refl in
      record { some = omega arith; reach = omega arith; right = right_next T X i f.right h; first_is = omega arith; plain = λ k. absurd (l.plain k) }

-- before the first node of the pass no chain is begun, and every head is 0
pub front_zeros : (n m : ℕ) → 0 < n → (T X : List ℕ) → Roomy T (replicate m 0) → (q : Cursor) (i : ℕ) → CursorAt T 1 q → q.sure ≡ false → Front T X i → Before T X i q (replicate n 0) (replicate m 0)
front_zeros n m a T X l q i h y w =
    let f = h.from_is in
    let v = h.from_le in
    let s = w.some in
    let o : q.parent ≡ 0 = omega (arith, h.earlier) in
    let e = h.end_is ∙ ap (λ (p : ℕ). first_child T (suc p)) o in
    let z = length-replicate {A = ℕ} n 0 in
    let k : HeadsBelow i (replicate n 0) = record { some = omega arith; below = λ j d. let y = get_or-replicate {A = ℕ} n j 0 0 (omega arith) in omega arith } in
    record {
      cursor = record { earlier = omega (arith, h.earlier); from_is = f; from_le = omega arith; end_is = h.end_is; kind_is = h.kind_is; depth_is = h.depth_is };
      reach = omega (arith, w.reach);
      kept = record { heads = k; room = l; chained = λ b _. let u = w.plain (sym (ap (kind_at T) o) ∙ b.is_map) in chains_begin (bucket_at (length (replicate n 0)) T X) q.from i (replicate n 0) (replicate m 0) (omega arith) k; surely = λ z. absurd (false≢true (sym y ∙ z)) };
    }
