-- What a node of a list is found to be, and texts that are passed. Assumes nothing.
use Prim.Native.Nat.{ℕ, ◌+◌, ◌*◌, ◌/◌, ◌≤◌, ◌<◌}
use mathlib.Core.Path.{◌≡◌, refl, sym, ◌∙◌}
use mathlib.Core.List.{List}
use mathlib.Core.Bool.{Bool, true, false}
use native.Mathlib.Omega.{arith}
use lib.Dec.{eqb}
use borrow.Author.Tests.{eqb-true, eqb-false}
use Rattle.definition.specs.Limits.{max_depth}
use Rattle.definition.specs.Tables.{kind_at, kind_map, no_key, low_word, high_word, parent_at, good_part, child_count, first_child}
use Rattle.table_laws.specs.Joined.{node_right}
use Rattle.table_laws.specs.Least.{RightBelow}
use Rattle.table_laws.specs.Parents.{InRange}
use Rattle.table_laws.specs.Rights.{head_all, payload_text, count_list, count_map, count_other}
use Rattle.std.specs.Prelude.{Option, Some, None}
use Rattle.table.specs.declared.scan.Cursor.{Cursor}
use Rattle.table.specs.Words.{Head, Under, Begun, Listed, ListedFrom, Behind, NextBy}
use Rattle.table.proofs.Along.{child_along}
use Rattle.table.proofs.Cursor.{next_first, right_next}
use Rattle.table.proofs.Under.{under_list, right_by_payload}

module _ (T : List ℕ) (i : ℕ) where
  -- the kinds whose half is 3 have children, and no others
  pub count_half : kind_at T i / 2 ≡ 3 → child_count T i ≡ high_word T i
  count_half h = go (eqb (kind_at T i) 6) refl
    where
      go : (b : Bool) → eqb (kind_at T i) 6 ≡ b → child_count T i ≡ high_word T i
      go true t = count_list T i (eqb-true (kind_at T i) 6 t)
      go false t = let n = eqb-false (kind_at T i) 6 t in count_map T i (omega arith)

  pub count_none : (kind_at T i / 2 ≡ 3 → ⊥) → child_count T i ≡ 0
  count_none n = count_other T i (λ z. n (omega arith)) (λ z. n (omega arith))

  -- the rule fails
  pub next_wrong : (b : Bool) → b ≡ false → NextBy T i b None
  next_wrong b e = e

  -- it holds of a node with so many children
  pub next_right : (b : Bool) (r c : ℕ) → b ≡ true → c ≡ child_count T i → r ≡ first_child T i + c → NextBy T i b (Some r)
  next_right b r c e k f = (e, omega arith)

  -- another rule that comes to the same
  pub next_as : (a b : Bool) (r : Option ℕ) → a ≡ b → NextBy T i a r → NextBy T i b r
  next_as a b None e n = sym e ∙ n
  next_as a b (Some r) e n = (sym e ∙ n.0, n.1)

module _ (T : List ℕ) (p d i h : ℕ) (l : Listed T p d i) (w : Head T i h) (e : h ≡ (d + 1) * 256 + 5) where
  -- bytes 0-3 of a text under the list
  pub item_kind : kind_at T i ≡ 5
  item_kind =
      let s = w.is in
      let k = w.kind in
      let m = w.depth in
      let v = l.shallow in
      omega arith

  pub item_childless : child_count T i ≡ 0
  item_childless = let k = item_kind in count_other T i (λ z. absurd (omega arith)) (λ z. absurd (omega arith))

  -- one with no key is right by its part of the text
  pub item_text : (X : List ℕ) → no_key T i ≡ true → parent_at T i ≡ p → good_part X (low_word T i) (high_word T i) ≡ true → node_right T X i ≡ true
  item_text X z q g =
      let s = w.is in
      let k = w.kind in
      let m = w.depth in
      let v = l.shallow in
      let o = l.depth_is in
      let a = l.above in
      let b = l.within in
      let y : Under T p i = record { head = head_all T i (omega arith) (omega arith) (omega arith); number = q; deeper = omega arith } in
      let r : InRange T p i = record { above = omega arith; within = omega arith } in
      right_by_payload T X i y.head (under_list T X p i l.earlier r y l.plain ∙ z) ∙ payload_text T X i item_kind ∙ g

module _ (T X : List ℕ) where
  -- the children of a list above from a node on
  pub listed_from : (i f : ℕ) (q : Cursor) → Begun T X i f q → (kind_at T q.parent ≡ kind_map → ⊥) → q.depth < max_depth → ListedFrom T X q.parent q.depth i q.end
  listed_from i f q b k s =
      let e = b.child.under.end_past in
      record {
        begins = omega arith;
        listed = λ j l m.
            let c = child_along T X i f q b j l m in
            let u = c.under.place in
            let x = u.from_is in
            let y = u.from_le in
            let z = u.end_is in
            record { node_in = c.node_in; earlier = u.earlier; above = omega arith; within = omega arith; plain = k; depth_is = u.depth_is; shallow = s };
        right = b.right;
      }

  -- no text is passed
  pub behind_none : (i e : ℕ) → i ≤ e → RightBelow T X i → Behind T X i e i
  behind_none i e l r = record { later = omega arith; reach = l; right = r; first_is = refl }

  -- one text more
  pub behind_next : (i e n : ℕ) → Behind T X i e n → n < e → node_right T X n ≡ true → child_count T n ≡ 0 → Behind T X i e (n + 1)
  behind_next i e n b m h z =
      let f = b.first_is in
      let l = b.later in
      let g = next_first T X n (first_child T n) (child_count T n) refl refl in
      record { later = omega arith; reach = omega arith; right = right_next T X n b.right h; first_is = omega arith }
