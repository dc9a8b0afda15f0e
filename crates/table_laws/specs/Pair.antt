-- The pair of checks accepts what the joined rule accepts, and with all records right both name the same node. Assumes nothing.
use Rattle.std.specs.Prelude.{ℕ, ◌<◌, List, Bool, true, false}
use Rattle.std.proofs.Math.Path.{◌≡◌, refl, ap}
use Rattle.std.proofs.Common.{sym, ◌∙◌, arith}
use Rattle.std.proofs.Math.Option.{Option, none, some}
use Rattle.definition.specs.Tables.{Checked, node_count, record_right, text_right, least_record, least_text, bad_size, by_record, by_text, by_size, check_records, check_texts, and_then, check_table}
use Rattle.definition.specs.Tables.Checked.{accepted, sized, wrong_at, text_at}
use Rattle.table_laws.specs.Failing.{none_fails, all_hold, least_same}
use Rattle.table_laws.specs.Joined.{node_right, least_wrong}
use Rattle.table_laws.specs.Least.{RightBelow, none_right}
use Rattle.table_laws.specs.Records.{RecordsBelow}
use Rattle.table_laws.specs.Splits.{right_record, node_by_text}
use Rattle.table_laws.specs.Holds.{text_stands}

module _ (T X : List ℕ) where
  -- ---- the nodes

  -- with all records right, the joined rule is that of texts and keys
  pub node_text : RecordsBelow T (node_count T) → (i : ℕ) → i < node_count T → node_right T X i ≡ text_right T X i
  node_text all i l = node_by_text T X i (all i l) ∙ sym (text_stands T X all i l)

  -- and the least node at which it fails is that of the text check
  pub least_text_lem : least_record T ≡ none → least_wrong T X 0 (node_count T) ≡ least_text T X
  unfolding least_wrong
  least_text_lem e = least_same (node_right T X) (text_right T X) (node_count T) (node_text (all_hold (record_right T) (node_count T) e))

  -- where it holds of all nodes no record and no text is wrong
  pub right_pair : RightBelow T X (node_count T) → (least_record T ≡ none) × (least_text T X ≡ none)
  right_pair h =
      let all : RecordsBelow T (node_count T) = λ k l. right_record T X k (h k l) in
      (none_fails (record_right T) (node_count T) all, none_fails (text_right T X) (node_count T) (λ k l. sym (node_text all k l) ∙ h k l))

  -- and where no record and no text is wrong it holds of all nodes
  pub pair_right : least_record T ≡ none → least_text T X ≡ none → RightBelow T X (node_count T)
  pair_right e f = none_right T X (node_count T) (least_text_lem e ∙ f)

  -- ---- the checks, by the size and by what each looks for

  pub records_sized : bad_size T X ≡ true → check_records T X ≡ sized
  unfolding check_records by_size
  records_sized b = rw b

  pub records_by : bad_size T X ≡ false → check_records T X ≡ by_record (least_record T)
  unfolding check_records by_size
  records_by b = rw b

  pub texts_sized : bad_size T X ≡ true → check_texts T X ≡ sized
  unfolding check_texts by_size
  texts_sized b = rw b

  pub texts_by : bad_size T X ≡ false → check_texts T X ≡ by_text (least_text T X)
  unfolding check_texts by_size
  texts_by b = rw b

  pub check_sized : bad_size T X ≡ true → check_table T X ≡ sized
  unfolding check_table and_then
  check_sized b = ap (λ (c : Checked). and_then c (check_texts T X)) (records_sized b)

  pub check_by : bad_size T X ≡ false → check_table T X ≡ and_then (by_record (least_record T)) (by_text (least_text T X))
  unfolding check_table
  check_by b = rw (records_by b, texts_by b)

  -- a wrong record decides
  pub check_record : (i : ℕ) → bad_size T X ≡ false → least_record T ≡ some i → check_table T X ≡ wrong_at i
  unfolding and_then by_record
  check_record i b e = check_by b ∙ ap (λ (o : Option ℕ). and_then (by_record o) (by_text (least_text T X))) e

  -- with none a wrong text does
  pub check_text : bad_size T X ≡ false → least_record T ≡ none → check_table T X ≡ by_text (least_text T X)
  unfolding and_then by_record
  check_text b e = check_by b ∙ ap (λ (o : Option ℕ). and_then (by_record o) (by_text (least_text T X))) e

  pub check_accepted : bad_size T X ≡ false → RightBelow T X (node_count T) → check_table T X ≡ accepted
  unfolding by_text
  check_accepted b r = let w = right_pair r in check_text b w.0 ∙ ap by_text w.1

  -- An accepted table has a right size, and the joined rule holds of all its nodes.
  pub accepted_right : check_table T X ≡ accepted → (bad_size T X ≡ false) × RightBelow T X (node_count T)
  unfolding by_text by_record and_then
  accepted_right h = by (bad_size T X) refl
    where
      texts : least_record T ≡ none → (o : Option ℕ) → least_text T X ≡ o → by_text o ≡ accepted → RightBelow T X (node_count T)
      texts e none f g = pair_right e f
      texts e (some i) f g = let z : ◌≡◌ {A = ℕ} 0 1 = cc in absurd (omega arith)

      records : (o : Option ℕ) → least_record T ≡ o → and_then (by_record o) (by_text (least_text T X)) ≡ accepted → RightBelow T X (node_count T)
      records none e g = texts e (least_text T X) refl g
      records (some i) e g = let z : ◌≡◌ {A = ℕ} 0 1 = cc in absurd (omega arith)

      by : (x : Bool) → bad_size T X ≡ x → (bad_size T X ≡ false) × RightBelow T X (node_count T)
      by true e = let f = sym (check_sized e) ∙ h in let z : ◌≡◌ {A = ℕ} 0 1 = cc in absurd (omega arith)
      by false e = (e, records (least_record T) refl (sym (check_by e) ∙ h))

  -- The pair accepts if and only if both checks do.
  pub both_accept : check_table T X ≡ accepted → (check_records T X ≡ accepted) × (check_texts T X ≡ accepted)
  unfolding check_table and_then
  both_accept h = by (check_records T X) refl h
    where
      by : (c : Checked) → check_records T X ≡ c → and_then c (check_texts T X) ≡ accepted → (check_records T X ≡ accepted) × (check_texts T X ≡ accepted)
      by accepted e g = (e, g)
      by sized e g = let z : ◌≡◌ {A = ℕ} 0 1 = cc in absurd (omega arith)
      by (wrong_at i) e g = let z : ◌≡◌ {A = ℕ} 0 1 = cc in absurd (omega arith)
      by (text_at i) e g = let z : ◌≡◌ {A = ℕ} 0 1 = cc in absurd (omega arith)

  pub accept_both : check_records T X ≡ accepted → check_texts T X ≡ accepted → check_table T X ≡ accepted
  unfolding check_table and_then
  accept_both a b = rw (a, b)
