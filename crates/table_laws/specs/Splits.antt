-- The joined rule for a node, split: what is asked of the record, and what is asked of text and key under the node's parent. Assumes nothing.
use Prim.Native.Nat.{ℕ, zero, suc, ◌+◌, ◌-◌}
use Rattle.std.specs.Prelude.{◌≡◌, List, Bool, ◌&&◌, eqb, ltb}
use Rattle.std.proofs.Math.Path.{refl, sym}
use Rattle.std.proofs.Common.{◌∙◌}
use Rattle.std.proofs.Math.Bool.{true, false, cond}
use Rattle.std.proofs.Math.Option.{Option, none, some}
use Rattle.std.proofs.Math.Dec.{leb}
use borrow.Author.Tests.{eqb-true}
use Rattle.definition.specs.Limits.{max_members}
use Rattle.definition.specs.Tables.{kind_at, depth_at, parent_at, payload, low_word, high_word, kind_float, kind_text, kind_list, kind_map, good_part, parent_of, head_right, is_finite, range_right, no_key, payload_record, place_record, stands_record, record_right, text_inside}
use Rattle.basics.specs.Bools.{and_left}
use Rattle.utf8_laws.specs.Bytes.{by_test}
use Rattle.table_laws.specs.Bools.{and_true}
use Rattle.table_laws.specs.Joined.{payload_right, member_right, place_right, stands_right, node_right}

-- what the parent asks of the key
unfoldable pub place_text : List ℕ → List ℕ → ℕ → Option ℕ → Bool
place_text T X i none = true
place_text T X i (some p) = cond (eqb (kind_at T p) kind_map) (member_right T X p i) true

unfoldable pub stands_text : List ℕ → List ℕ → ℕ → Bool
stands_text T X zero = true
stands_text T X (suc i) = place_text T X (suc i) (parent_of T (suc i))

module _ (T X : List ℕ) where
  pub payload_split : (i : ℕ) → payload_right T X i ≡ (payload_record T i && text_inside T X i)
  unfolding payload_right payload_record text_inside
  payload_split i =
      let k = kind_at T i in
      let good = good_part X (low_word T i) (high_word T i) in
      by_test (eqb k kind_text)
      (λ y. let e : k ≡ kind_text = eqb-true k kind_text y in rw (e))
      (λ n.
      rw n (sym (and_true (cond (ltb k 3) (eqb (payload T i) 0) (cond (eqb k 3) true (cond (eqb k kind_float) (is_finite (payload T i)) (cond (eqb k kind_list) (range_right T i) (range_right T i && leb (high_word T i) max_members))))))))

  place_split : (i : ℕ) (o : Option ℕ) → place_right T X i o ≡ (place_record T i o && place_text T X i o)
  unfolding place_right place_record place_text
  place_split i none = refl
  place_split i (some p) = by (eqb (parent_at T i) p) (eqb (depth_at T i) (depth_at T p + 1)) (eqb (kind_at T p) kind_map)
    where
      by : (n d m : Bool) → (n && (d && cond m (member_right T X p i) (no_key T i))) ≡ ((n && (d && cond m true (no_key T i))) && cond m (member_right T X p i) true)
      by true true true = refl
      by true true false = sym (and_true (no_key T i))
      by true false m = refl
      by false d m = refl

  stands_split : (i : ℕ) → stands_right T X i ≡ (stands_record T i && stands_text T X i)
  unfolding stands_right stands_record stands_text
  stands_split zero = sym (and_true (eqb (parent_at T zero) 0 && (eqb (depth_at T zero) 0 && no_key T zero)))
  stands_split (suc i) = place_split (suc i) (parent_of T (suc i))

  -- a node is right if and only if its record is, and its text and key are
  pub node_split : (i : ℕ) → node_right T X i ≡ (record_right T i && (text_inside T X i && stands_text T X i))
  unfolding node_right record_right
  node_split i = rw (payload_split i, stands_split i) (by (head_right T i) (payload_record T i) (stands_record T i) (text_inside T X i) (stands_text T X i))
    where
      by : (h p s t u : Bool) → (h && ((p && t) && (s && u))) ≡ ((h && (p && s)) && (t && u))
      by true true true t u = refl
      by true true false true u = refl
      by true true false false u = refl
      by true false s t u = refl
      by false p s t u = refl

  -- a right node has a right record
  pub right_record : (i : ℕ) → node_right T X i ≡ true → record_right T i ≡ true
  right_record i h = and_left (record_right T i) (text_inside T X i && stands_text T X i) (sym (node_split i) ∙ h)

  -- where the record is right the node is right by its text and key
  pub node_by_text : (i : ℕ) → record_right T i ≡ true → node_right T X i ≡ (text_inside T X i && stands_text T X i)
  node_by_text i h = node_split i ∙ rw h
