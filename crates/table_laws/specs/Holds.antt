-- With all records right, one written range holds each member of a map: the range of its parent. Assumes nothing.
use Prim.Native.Nat.{ℕ, zero, suc, ◌+◌, ◌-◌, ◌<◌}
use Rattle.std.specs.Prelude.{◌≡◌, List, Bool, false, ◌&&◌}
use Rattle.std.proofs.Math.Path.{refl, ap, subst}
use Rattle.std.proofs.Common.{sym, ◌∙◌}
use Rattle.std.proofs.Math.Bool.{true}
use Rattle.std.proofs.lemmas.Bool.{false≢true}
use Rattle.std.proofs.Math.Option.{Option, none, some}
use Rattle.std.proofs.Math.Dec.{eqb, leb, ltb}
use native.Mathlib.Omega.{arith}
use borrow.Author.Tests.{eqb-true, eqb-false, ltb-true, leb-true, eq-eqb, le-leb, lt-ltb}
use Rattle.definition.specs.Tables.{node_count, kind_at, low_word, high_word, kind_map, first_child, parent_of, place_record, stands_record, record_right, text_inside, holds, key_right, keys_right, text_right}
use Rattle.basics.specs.Bools.{and_left, and_right}
use Rattle.utf8_laws.specs.Bytes.{by_test}
use Rattle.table_laws.specs.Bools.{and_true}
use Rattle.table_laws.specs.Counts.{counts_next}
use Rattle.table_laws.specs.Parents.{InRange, parent_found, one_parent}
use Rattle.table_laws.specs.Joined.{member_right}
use Rattle.table_laws.specs.Rights.{range_first, count_map}
use Rattle.table_laws.specs.Records.{RecordsBelow, record_payload, record_stands, map_range}
use Rattle.table_laws.specs.Splits.{place_text, stands_text}

module _ (T : List ℕ) where
  -- a right map that holds a node has it in its range of children, which is written as it is
  pub record Held (p i : ℕ) : Type 0 where
    pub is_map_lem : kind_at T p ≡ kind_map
    pub first : low_word T p ≡ first_child T p
    pub within : InRange T p i

  pub holds_range : (p i : ℕ) → record_right T p ≡ true → holds T p i ≡ true → Held p i
  unfolding holds
  holds_range p i r h =
      let a = eqb (kind_at T p) kind_map in
      let b = leb (low_word T p) i in
      let c = ltb i (low_word T p + high_word T p) in
      let k = eqb-true (kind_at T p) kind_map (and_left a (b && c) h) in
      let l = leb-true (low_word T p) i (and_left b c (and_right a (b && c) h)) in
      let m = ltb-true i (low_word T p + high_word T p) (and_right b c (and_right a (b && c) h)) in
      let f = range_first T p (map_range T p k (record_payload T p r)) (λ z. omega arith) in
      let n = counts_next T p in
      let o = count_map T p k in
      record { is_map_lem = k; first = f; within = record { above = omega arith; within = omega arith } }

  pub range_holds : (p i : ℕ) → record_right T p ≡ true → kind_at T p ≡ kind_map → InRange T p i → (holds T p i ≡ true) × (low_word T p ≡ first_child T p)
  unfolding holds
  range_holds p i r k g =
      let u = g.above in
      let v = g.within in
      let n = counts_next T p in
      let o = count_map T p k in
      let f = range_first T p (map_range T p k (record_payload T p r)) (λ z. omega arith) in
      (rw (eq-eqb (kind_at T p) kind_map k, le-leb (low_word T p) i (omega arith), lt-ltb i (low_word T p + high_word T p) (omega arith)), f)

module _ (T X : List ℕ) (i : ℕ) where
  -- where no node holds i nothing is asked of its key
  held_none : (n : ℕ) → ((q : ℕ) → q < n → holds T q i ≡ true → ⊥) → keys_right T X i n ≡ true
  unfolding keys_right
  held_none zero h = refl
  held_none (suc n) h = by_test (holds T n i) (λ y. absurd (h n (omega arith) y)) (λ f. rw f (held_none n (λ q l y. h q (omega arith) y)))

  -- where one node holds i, what it asks is asked
  held_one : (p n : ℕ) → p < n → holds T p i ≡ true → ((q : ℕ) → q < n → holds T q i ≡ true → q ≡ p) → keys_right T X i n ≡ key_right T X p i
  unfolding keys_right
  held_one p zero l y h = absurd (omega arith)
  held_one p (suc n) l y h =
      by_test (eqb n p)
      (λ e.
      let z : n ≡ p = eqb-true n p e in
      let none-else : keys_right T X i n ≡ true = held_none n (λ q m w. let v = h q (omega arith) w in omega arith) in
      let here : holds T n i ≡ true = subst (λ (x : ℕ). holds T x i ≡ true) (sym z) y in
      rw (none-else, here) (and_true (key_right T X n i) ∙ ap (λ (x : ℕ). key_right T X x i) z))
      (λ e.
      let d = eqb-false n p e in
      by_test (holds T n i)
      (λ w. absurd (d (h n (omega arith) w)))
      (λ f. rw f (held_one p n (omega arith) y (λ q m w. h q (omega arith) w))))

  -- a key under a map that is written as it is
  key_member : (p : ℕ) → low_word T p ≡ first_child T p → key_right T X p i ≡ member_right T X p i
  unfolding key_right member_right
  key_member p e = rw e

-- ---- the law

module _ (T X : List ℕ) (all : RecordsBelow T (node_count T)) where
  -- nothing holds the root
  keys_root : keys_right T X 0 (node_count T) ≡ true
  keys_root = held_none T X 0 (node_count T) (λ q l y. let w = holds_range T q 0 (all q l) y in let v = w.within.above in omega arith)

  keys_under : (i p : ℕ) → p < node_count T → InRange T p i → keys_right T X i (node_count T) ≡ place_text T X i (some p)
  unfolding place_text
  keys_under i p l g =
      by_test (eqb (kind_at T p) kind_map)
      (λ y.
      let k = eqb-true (kind_at T p) kind_map y in
      let w = range_holds T p i (all p l) k g in
      rw y (held_one T X i p (node_count T) l w.0 (λ q m z. one_parent T q p i (holds_range T q i (all q m) z).within g) ∙ key_member T X i p w.1))
      (λ n.
      let d = eqb-false (kind_at T p) kind_map n in
      rw n (held_none T X i (node_count T) (λ q m z.
      let w = holds_range T q i (all q m) z in
      let e = one_parent T q p i w.within g in
      d (subst (λ (x : ℕ). kind_at T x ≡ kind_map) e w.is_map_lem))))

  -- with all records right the text rules of a node are those under its parent
  pub keys_stand : (i : ℕ) → i < node_count T → keys_right T X i (node_count T) ≡ stands_text T X i
  unfolding stands_text stands_record place_record
  keys_stand zero l = keys_root
  keys_stand (suc i) l = by (parent_of T (suc i)) refl (record_stands T (suc i) (all (suc i) l))
    where
      by : (o : Option ℕ) → parent_of T (suc i) ≡ o → place_record T (suc i) o ≡ true → keys_right T X (suc i) (node_count T) ≡ place_text T X (suc i) o
      by none e h = absurd (false≢true h)
      by (some p) e h = let w = parent_found T p (suc i) e in let b = w.0 in keys_under (suc i) p (omega arith) w.1

  pub text_stands : (i : ℕ) → i < node_count T → text_right T X i ≡ (text_inside T X i && stands_text T X i)
  unfolding text_right
  text_stands i l = ap (λ (b : Bool). text_inside T X i && b) (keys_stand i l)
