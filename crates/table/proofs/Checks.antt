-- What the passes come to together, and one step of each. Assumes nothing.
use Prim.Native.Nat.{ℕ, suc, ◌+◌, ◌≤◌, ◌<◌}
use mathlib.Core.Path.{◌≡◌, refl, sym, ap, ◌∙◌, subst}
use mathlib.Core.List.{List}
use mathlib.Core.Bool.{Bool, true, false}
use mathlib.Core.Option.{Option, none, some}
use lib.Dec.{ltb}
use lib.ListN.{length}
use native.Mathlib.Numerals.{add-one}
use native.Mathlib.Omega.{arith}
use borrow.Author.Tests.{ltb-true, ltb-false}
use Rattle.definition.specs.Tables.{Checked, node_count, child_count, first_child, key_start, key_length, good_part, record_right, least_record, least_text, bad_size, by_record, by_text, and_then, check_records, check_texts, check_table}
use Rattle.definition.specs.Tables.Checked.{text_at}
use Rattle.definition.specs.TableOutcomes.{TableOutcome, report_table, records_outcome, texts_outcome, table_outcome}
use Rattle.table_laws.specs.Counts.{counts_next}
use Rattle.table_laws.specs.Failing.{below_more}
use Rattle.table_laws.specs.Joined.{least_wrong, by_least}
use Rattle.table_laws.specs.Least.{none_right}
use Rattle.table_laws.specs.Rights.{good_inside}
use Rattle.table_laws.specs.Records.{RecordsBelow, record_payload, counts_reach}
use Rattle.table_laws.specs.Pair.{least_text_lem, right_pair, records_sized, records_by, texts_sized, texts_by, check_sized, check_record, check_text}
use Rattle.table_laws.specs.Starts.{least_start, keys_inside}
use Rattle.std.specs.Prelude.{Result, Ok, Err}
use Rattle.table.specs.declared.TableRefusal.{TableRefusal}
use Rattle.table.specs.declared.TableRefusal.TheVariants.{WrongSize, WrongNode, WrongText}
use Rattle.table.specs.Outcomes.{reported, found}
use Rattle.table.specs.Words.{TextsBelow, KeysInside}

-- ---- one step of a pass

-- one record more is right: where the next node's children begin, and that the table reaches it
pub record_next : (T : List ℕ) (i f c : ℕ) → f ≡ first_child T i → c ≡ child_count T i → f ≤ node_count T → RecordsBelow T i → record_right T i ≡ true
    → (f + c ≡ first_child T (i + 1)) × (f + c ≤ node_count T) × RecordsBelow T (i + 1)
record_next T i f c a b l r h =
    let s = counts_next T i in
    let w = counts_reach T i (record_payload T i h) (omega arith) in
    let g : first_child T (suc i) ≡ first_child T (i + 1) = ap (first_child T) (sym (add-one i)) in
    (omega arith, omega arith, λ k m. below_more (record_right T) i r h k (omega arith))

-- the least start with one node more, as the code counts
pub start_next : (T : List ℕ) (i p : ℕ) {x : ℕ} → x ≡ least_start T i (suc p) → x ≡ least_start T i (p + 1)
start_next T i p e = e ∙ ap (least_start T i) (sym (add-one p))

pub start_none : (T : List ℕ) (i : ℕ) → i + 1 ≡ least_start T i 0
unfolding least_start
start_none T i = add-one i

-- the keys from the least start up to a node lie inside the text, and so does the node's own, if it is good
pub keys_up_to : (T X : List ℕ) (i m : ℕ) → i < node_count T → TextsBelow T X i → m ≡ least_start T i (node_count T) → good_part X (key_start T i) (key_length T i) ≡ true → KeysInside T X m (i + 1)
keys_up_to T X i m l r e g = record { nodes = omega arith; keys = λ j a b. by j a b (ltb j i) refl }
  where
    by : (j : ℕ) → m ≤ j → j < i + 1 → (t : Bool) → ltb j i ≡ t → key_start T j + key_length T j ≤ length X
    by j a b true y = keys_inside T X i j r (omega arith) (ltb-true j i y)
    by j a b false n =
        let z = ltb-false j i n in
        let s : i ≡ j = omega arith in
        subst (λ (x : ℕ). key_start T x + key_length T x ≤ length X) s (good_inside X (key_start T i) (key_length T i) g)

-- ---- what the records come to

module _ (p : Result (Unit {0}) ℕ) (o : Option ℕ) (h : found p ≡ o) where
  pub found_right : p ≡ Ok tt → o ≡ none
  unfolding found
  found_right e = sym h ∙ ap found e

  pub found_wrong : (k : ℕ) → p ≡ Err k → o ≡ some k
  unfolding found
  found_wrong k e = sym h ∙ ap found e

  pub refused_text : (n : ℕ) → p ≡ Ok tt → reported (Err (WrongText n)) ≡ report_table (and_then (by_record o) (text_at n))
  unfolding reported report_table and_then by_record
  refused_text n e = sym (ap (λ (x : Option ℕ). report_table (and_then (by_record x) (text_at n))) (found_right e))

  pub refused_record : (n k : ℕ) → p ≡ Err k → reported (Err (WrongNode k)) ≡ report_table (and_then (by_record o) (text_at n))
  unfolding reported report_table and_then by_record
  refused_record n k e = sym (ap (λ (x : Option ℕ). report_table (and_then (by_record x) (text_at n))) (found_wrong k e))

module _ (T X : List ℕ) where
  pub records_size : bad_size T X ≡ true → reported (Err WrongSize) ≡ records_outcome T X
  unfolding reported report_table records_outcome
  records_size b = sym (ap report_table (records_sized T X b))

  pub texts_size : bad_size T X ≡ true → reported (Err WrongSize) ≡ texts_outcome T X
  unfolding reported report_table texts_outcome
  texts_size b = sym (ap report_table (texts_sized T X b))

  pub pair_size : bad_size T X ≡ true → reported (Err WrongSize) ≡ table_outcome T X
  unfolding reported report_table table_outcome
  pair_size b = sym (ap report_table (check_sized T X b))

  module _ (b : bad_size T X ≡ false) (p : Result (Unit {0}) ℕ) where
    pub records_right : found p ≡ least_record T → p ≡ Ok tt → reported (Ok tt) ≡ records_outcome T X
    unfolding reported report_table records_outcome by_record
    records_right h e = sym (ap report_table (records_by T X b ∙ ap by_record (found_right p (least_record T) h e)))

    pub records_wrong : (k : ℕ) → found p ≡ least_record T → p ≡ Err k → reported (Err (WrongNode k)) ≡ records_outcome T X
    unfolding reported report_table records_outcome by_record
    records_wrong k h e = sym (ap report_table (records_by T X b ∙ ap by_record (found_wrong p (least_record T) h k e)))

    module _ (h : found p ≡ least_wrong T X 0 (node_count T)) where
      both_right : p ≡ Ok tt → (least_record T ≡ none) × (least_text T X ≡ none)
      both_right e = right_pair T X (none_right T X (node_count T) (found_right p (least_wrong T X 0 (node_count T)) h e))

      pub texts_right : p ≡ Ok tt → reported (Ok tt) ≡ texts_outcome T X
      unfolding reported report_table texts_outcome by_text
      texts_right e = sym (ap report_table (texts_by T X b ∙ ap by_text (both_right e).1))

      pub pair_right : p ≡ Ok tt → reported (Ok tt) ≡ table_outcome T X
      unfolding reported report_table table_outcome by_text
      pair_right e = let w = both_right e in sym (ap report_table (check_text T X b w.0 ∙ ap by_text w.1))

      -- the pair behind the pass over all rules: a wrong record, or else the text or key of the node that it found
      pub pair_behind : (n : ℕ) → p ≡ Err n → (r : Result (Unit {0}) TableRefusal) → reported r ≡ report_table (and_then (by_record (least_record T)) (text_at n)) → reported r ≡ table_outcome T X
      unfolding table_outcome and_then by_record by_text
      pair_behind n e r g = g ∙ by (least_record T) refl
        where
          by : (o : Option ℕ) → least_record T ≡ o → report_table (and_then (by_record o) (text_at n)) ≡ report_table (check_table T X)
          by none f = sym (ap report_table (check_text T X b f ∙ ap by_text (sym (least_text_lem T X f) ∙ found_wrong p (least_wrong T X 0 (node_count T)) h n e)))
          by (some k) f = sym (ap report_table (check_record T X k b f))

  -- the texts and keys by themselves
  pub texts_are : bad_size T X ≡ false → (r : Result (Unit {0}) TableRefusal) → reported r ≡ report_table (by_text (least_text T X)) → reported r ≡ texts_outcome T X
  unfolding texts_outcome
  texts_are b r g = g ∙ sym (ap report_table (texts_by T X b))

  -- with right records the node that the pass over all rules found is the one of the texts
  pub texts_same : (n : ℕ) → least_record T ≡ none → least_wrong T X 0 (node_count T) ≡ some n → reported (Err (WrongText n)) ≡ report_table (by_text (least_text T X))
  unfolding reported report_table by_text
  texts_same n e w = sym (ap (λ (o : Option ℕ). report_table (by_text o)) (sym (least_text_lem T X e) ∙ w))
