-- When a table is refused by 9, by 10 and by 17, and with which node; and what an accepted table is. The first of these in an order is in proofs/Checks. Assumes nothing.
use Rattle.std.specs.Prelude.{ℕ, ◌%◌, ◌<◌, ◌↔◌, List, ◌++◌, Bool, not, ◌||◌, eqb, ltb, length}
use Rattle.std.proofs.Common.{arith, ◌∙◌, subst, true≢false, ltb-true, eqb-true}
use Rattle.std.proofs.Math.Path.{◌≡◌, refl, sym}
use Rattle.std.proofs.Math.Logic.{inl, inr}
use Rattle.std.proofs.Math.Bool.{true, false}
use Rattle.std.proofs.Math.Option.{Option, none, some}
use Rattle.std.proofs.lemmas.Bool.{eqb-false}
use Rattle.definition.specs.Limits.{max_nodes, max_text, record_size}
use Rattle.definition.specs.Tables.{Checked, node_count, record_right, text_right, least_failing, least_record, least_text, bad_size, by_record, by_text, by_size, check_records, check_texts, and_then, check_table}
use Rattle.definition.specs.Tables.Checked.{accepted, sized, wrong_at, text_at}
use Rattle.definition.specs.TableOutcomes.{report_table, records_outcome, texts_outcome}
use Rattle.table_laws.specs.Failing.{all_hold, least_is}
use Rattle.table_laws.specs.Joined.{node_right}
use Rattle.table_laws.specs.Pair.{node_text, check_sized, check_by, check_accepted, accepted_right}
use Rattle.table_laws.specs.Sizes.{right_size}
use Rattle.promises_stated.specs.Refusals.{WrongSize, Wrong, WrongRecord, WrongText, LeastWrong, Rule, First, record_rules, text_rules, table_rules}

-- the number that the check comes to, or k where the table is accepted
abbrev pub checked_or : ℕ → Checked → ℕ
checked_or k accepted = k
checked_or k sized = 9
checked_or k (wrong_at i) = 10
checked_or k (text_at i) = 17

-- ---- sizes

wrong_size : (T X : List ℕ) → bad_size T X ≡ true → WrongSize T X
unfolding bad_size
wrong_size T X h = go (eqb (length T) 0) (eqb (length T % record_size) 0) (ltb max_nodes (node_count T)) (ltb max_text (length X)) refl refl refl refl h
  where
    go : (a b c d : Bool) → eqb (length T) 0 ≡ a → eqb (length T % record_size) 0 ≡ b → ltb max_nodes (node_count T) ≡ c → ltb max_text (length X) ≡ d
        → (a || (not b || (c || d))) ≡ true → WrongSize T X
    go true b c d e f g i h = inl (eqb-true (length T) 0 e)
    go false false c d e f g i h = inr (inl (eqb-false (length T % record_size) 0 f))
    go false true true d e f g i h = inr (inr (inl (ltb-true max_nodes (node_count T) g)))
    go false true false true e f g i h = inr (inr (inr (ltb-true max_text (length X) i)))
    go false true false false e f g i h = absurd (true≢false (sym h))

not_wrong_size : (T X : List ℕ) → bad_size T X ≡ false → WrongSize T X → ⊥
not_wrong_size T X h (inl e) = let r = right_size T X h in omega arith
not_wrong_size T X h (inr (inl e)) = let r = right_size T X h in e (omega arith)
not_wrong_size T X h (inr (inr (inl e))) = let r = right_size T X h in omega arith
not_wrong_size T X h (inr (inr (inr e))) = let r = right_size T X h in omega arith

-- ---- nodes

-- the least number that is found is the least that fails, and with none found none fails
least_why : (f : ℕ → Bool) (n i : ℕ) → least_failing f 0 n ≡ some i → LeastWrong f n i
least_why f n i e = let w = least_is f n i e in record { inside = w.inside; fails = w.fails; below = w.before }

none_wrong : (f : ℕ → Bool) (n : ℕ) → least_failing f 0 n ≡ none → Wrong f n → ⊥
none_wrong f n e w = true≢false (sym (all_hold f n e w.0 w.1) ∙ w.2)

some_wrong : {f : ℕ → Bool} {n i : ℕ} → LeastWrong f n i → Wrong f n
some_wrong {i = i} w = (i, w.inside, w.fails)

module _ (T X : List ℕ) where
  -- ---- the checks, each alone

  pub records_first : First (record_rules T X) (records_outcome T X).refusal
  unfolding records_outcome check_records by_size by_record report_table
  records_first = by (bad_size T X) (least_record T) refl refl
    where
      by : (b : Bool) (o : Option ℕ) → bad_size T X ≡ b → least_record T ≡ o → First (record_rules T X) (report_table (by_size b (by_record o))).refusal
      by true o e f = inl (refl, wrong_size T X e)
      by false none e f = inr (not_wrong_size T X e, inr (none_wrong (record_right T) (node_count T) f, refl))
      by false (some i) e f = inr (not_wrong_size T X e, inl (refl, some_wrong (least_why (record_right T) (node_count T) i f)))

  pub texts_first : First (text_rules T X) (texts_outcome T X).refusal
  unfolding texts_outcome check_texts by_size by_text report_table
  texts_first = by (bad_size T X) (least_text T X) refl refl
    where
      by : (b : Bool) (o : Option ℕ) → bad_size T X ≡ b → least_text T X ≡ o → First (text_rules T X) (report_table (by_size b (by_text o))).refusal
      by true o e f = inl (refl, wrong_size T X e)
      by false none e f = inr (not_wrong_size T X e, inr (none_wrong (text_right T X) (node_count T) f, refl))
      by false (some i) e f = inr (not_wrong_size T X e, inl (refl, some_wrong (least_why (text_right T X) (node_count T) i f)))

  -- the node that comes with each refusal
  pub records_least : (records_outcome T X).refusal ≡ 10 → LeastWrong (record_right T) (node_count T) (records_outcome T X).node
  unfolding records_outcome check_records by_size by_record report_table
  records_least = by (bad_size T X) (least_record T) refl
    where
      by : (b : Bool) (o : Option ℕ) → least_record T ≡ o → (report_table (by_size b (by_record o))).refusal ≡ 10 → LeastWrong (record_right T) (node_count T) (report_table (by_size b (by_record o))).node
      by true o f z = absurd (omega arith)
      by false none f z = absurd (omega arith)
      by false (some i) f z = least_why (record_right T) (node_count T) i f

  pub texts_least : (texts_outcome T X).refusal ≡ 17 → LeastWrong (text_right T X) (node_count T) (texts_outcome T X).node
  unfolding texts_outcome check_texts by_size by_text report_table
  texts_least = by (bad_size T X) (least_text T X) refl
    where
      by : (b : Bool) (o : Option ℕ) → least_text T X ≡ o → (report_table (by_size b (by_text o))).refusal ≡ 17 → LeastWrong (text_right T X) (node_count T) (report_table (by_size b (by_text o))).node
      by true o f z = absurd (omega arith)
      by false none f z = absurd (omega arith)
      by false (some i) f z = least_why (text_right T X) (node_count T) i f

  -- ---- the pair

  -- why it comes to what it comes to
  data Why : Checked → Type 0 where
    size : WrongSize T X → Why sized
    record10 : (i : ℕ) → (WrongSize T X → ⊥) → LeastWrong (record_right T) (node_count T) i → Why (wrong_at i)
    text17 : (i : ℕ) → (WrongSize T X → ⊥) → (WrongRecord T → ⊥) → LeastWrong (text_right T X) (node_count T) i → Why (text_at i)
    right : (WrongSize T X → ⊥) → (WrongRecord T → ⊥) → (WrongText T X → ⊥) → Why accepted

  why : Why (check_table T X)
  unfolding and_then by_record by_text
  why = by (bad_size T X) refl
    where
      go : bad_size T X ≡ false → (o p : Option ℕ) → least_record T ≡ o → least_text T X ≡ p → Why (and_then (by_record o) (by_text p))
      go e (some i) p f g = record10 i (not_wrong_size T X e) (least_why (record_right T) (node_count T) i f)
      go e none (some i) f g = text17 i (not_wrong_size T X e) (none_wrong (record_right T) (node_count T) f) (least_why (text_right T X) (node_count T) i g)
      go e none none f g = right (not_wrong_size T X e) (none_wrong (record_right T) (node_count T) f) (none_wrong (text_right T X) (node_count T) g)

      by : (b : Bool) → bad_size T X ≡ b → Why (check_table T X)
      by true e = subst Why (sym (check_sized T X e)) (size (wrong_size T X e))
      by false e = subst Why (sym (check_by T X e)) (go e (least_record T) (least_text T X) refl refl)

  -- 9 is for a wrong size
  pub sized_why : check_table T X ≡ sized → WrongSize T X
  sized_why h = by (subst Why h why)
    where
      by : Why sized → WrongSize T X
      by (size w) = w

  -- 10 is for the least wrong record, and the size is right
  pub wrong_why : (i : ℕ) → check_table T X ≡ wrong_at i → (WrongSize T X → ⊥) × LeastWrong (record_right T) (node_count T) i
  wrong_why i h = by (subst Why h why)
    where
      by : Why (wrong_at i) → (WrongSize T X → ⊥) × LeastWrong (record_right T) (node_count T) i
      by (record10 j a w) = (a, w)

  -- 17 is for the least wrong text or key, and the size and the records are right
  pub text_why : (i : ℕ) → check_table T X ≡ text_at i → (WrongSize T X → ⊥) × (WrongRecord T → ⊥) × LeastWrong (text_right T X) (node_count T) i
  text_why i h = by (subst Why h why)
    where
      by : Why (text_at i) → (WrongSize T X → ⊥) × (WrongRecord T → ⊥) × LeastWrong (text_right T X) (node_count T) i
      by (text17 j a b w) = (a, b, w)

  -- an accepted table meets none of these
  pub accepted_why : check_table T X ≡ accepted → (WrongSize T X → ⊥) × (WrongRecord T → ⊥) × (WrongText T X → ⊥)
  accepted_why h = by (subst Why h why)
    where
      by : Why accepted → (WrongSize T X → ⊥) × (WrongRecord T → ⊥) × (WrongText T X → ⊥)
      by (right a b w) = (a, b, w)

  pub wrong_first : (rs : List Rule) (i : ℕ) → check_table T X ≡ wrong_at i → First (table_rules T X ++ rs) 10
  wrong_first rs i h = let w = wrong_why i h in inr (w.0, inl (refl, some_wrong w.1))

  pub text_first : (rs : List Rule) (i : ℕ) → check_table T X ≡ text_at i → First (table_rules T X ++ rs) 17
  text_first rs i h = let w = text_why i h in inr (w.0, inr (w.1, inl (refl, some_wrong w.2)))

  pub accepted_first : (rs : List Rule) (k : ℕ) → check_table T X ≡ accepted → First rs k → First (table_rules T X ++ rs) k
  accepted_first rs k h f = let w = accepted_why h in inr (w.0, inr (w.1, inr (w.2, f)))

  -- ---- what an accepted table was before the check became two: a right size, and the joined rule at each node

  pub accepted_joined : (check_table T X ≡ accepted) ↔ ((WrongSize T X → ⊥) × ((i : ℕ) → i < node_count T → node_right T X i ≡ true))
  accepted_joined = (λ h. let w = accepted_right T X h in (not_wrong_size T X w.0, w.1), λ w. by (bad_size T X) refl w)
    where
      by : (b : Bool) → bad_size T X ≡ b → (WrongSize T X → ⊥) × ((i : ℕ) → i < node_count T → node_right T X i ≡ true) → check_table T X ≡ accepted
      by true e w = absurd (w.0 (wrong_size T X e))
      by false e w = check_accepted T X e w.1

  -- with right records the rules on texts and keys are the joined rule's
  pub texts_joined : check_records T X ≡ accepted → (i : ℕ) → i < node_count T → text_right T X i ≡ node_right T X i
  unfolding check_records by_size by_record
  texts_joined h i l = by (bad_size T X) (least_record T) refl h
    where
      by : (b : Bool) (o : Option ℕ) → least_record T ≡ o → by_size b (by_record o) ≡ accepted → text_right T X i ≡ node_right T X i
      by true o e g = let z : ◌≡◌ {A = ℕ} 0 1 = cc in absurd (omega arith)
      by false none e g = sym (node_text T X (all_hold (record_right T) (node_count T) e) i l)
      by false (some j) e g = let z : ◌≡◌ {A = ℕ} 0 1 = cc in absurd (omega arith)
