-- What each answer says of the definition's outcome. Assumes nothing.
use Prim.Native.Nat.{ℕ, ◌≤◌, ◌<◌}
use mathlib.Core.Path.{◌≡◌, refl, sym, ap, ◌∙◌}
use mathlib.Core.List.{List, ◌++◌}
use mathlib.Core.Bool.{Bool, true, false}
use lib.Dec.{ltb}
use lib.ListN.{length, drop}
use borrow.Author.Tests.{lt-ltb, le-ltb}
use Rattle.definition.specs.Tables.{Checked, check_table, node_count}
use Rattle.definition.specs.Tables.Checked.{accepted, sized, wrong_at, text_at}
use Rattle.definition.specs.TableOutcomes.{TableOutcome, report_table, table_outcome}
use Rattle.definition.specs.Paths.{PathOutcome, path_of, put_path, path_by, path_outcome}
use Rattle.table_laws.specs.Outcomes.{report_accepted, report_sized, report_wrong, report_text}
use Rattle.std.specs.Prelude.{Result, Ok, Err}
use Rattle.table.specs.declared.TableRefusal.{TableRefusal}
use Rattle.table.specs.declared.TableRefusal.TheVariants.{WrongSize as Sized, WrongNode as Wrong, WrongText as Text}
use Rattle.table.specs.Outcomes.{reported}
use Rattle.table_path.specs.declared.PathRefusal.{PathRefusal}
use Rattle.table_path.specs.declared.PathRefusal.TheVariants.{Table, NoNode, SmallRoom}
use Rattle.table_path.specs.Outcomes.{told, ToldIn}

-- ---- what the check of the table answers

module _ (T X : List ℕ) where
  -- a check that refuses nothing accepts
  pub says_accepted : reported (Ok tt) ≡ table_outcome T X → check_table T X ≡ accepted
  unfolding reported table_outcome
  says_accepted h = report_accepted (check_table T X) (ap (λ (o : TableOutcome). o.refusal) (sym h))

-- ---- what this crate answers

module _ (T X : List ℕ) (i : ℕ) (B : List ℕ) where
  -- the number of no node
  pub told_none : node_count T ≤ i → ToldIn T X i B (Err NoNode) B
  unfolding told path_by
  told_none h = rw (le-ltb i (node_count T) h)

  module _ (l : i < node_count T) where
    -- too little room
    pub told_small : (n : ℕ) → n ≡ length (path_of T X i) → length B < n → ToldIn T X i B (Err (SmallRoom n)) B
    unfolding told path_by put_path
    told_small n e h = rw (lt-ltb i (node_count T) l, e) (rw (lt-ltb (length B) (length (path_of T X i)) (rw e at h)))

    -- the path
    pub told_written : (n : ℕ) → n ≡ length (path_of T X i) → n ≤ length B → (C : List ℕ) → C ≡ path_of T X i ++ drop n B → ToldIn T X i B (Ok n) C
    unfolding told path_by put_path
    told_written n e h C w = rw (lt-ltb i (node_count T) l, w, e) (rw (le-ltb (length B) (length (path_of T X i)) (rw e at h)))

  -- by what the check comes to
  pub told_accepted : (r : Result ℕ PathRefusal) (C : List ℕ) → check_table T X ≡ accepted → ToldIn T X i B r C → told r C ≡ path_outcome T X i B
  unfolding path_outcome
  told_accepted r C e t = t ∙ ap (λ (c : Checked). path_by c (ltb i (node_count T)) (path_of T X i) B) (sym e)

  told_by : (r : Result ℕ PathRefusal) (c : Checked) → check_table T X ≡ c → told r B ≡ path_by c (ltb i (node_count T)) (path_of T X i) B → told r B ≡ path_outcome T X i B
  unfolding path_outcome
  told_by r c e t = t ∙ ap (λ (c : Checked). path_by c (ltb i (node_count T)) (path_of T X i) B) (sym e)

  pub told_refused : (r : TableRefusal) → reported (Err r) ≡ table_outcome T X → told (Err (Table r)) B ≡ path_outcome T X i B
  unfolding reported table_outcome told path_by
  told_refused Sized h = told_by (Err (Table Sized)) sized (report_sized (check_table T X) (ap (λ (o : TableOutcome). o.refusal) (sym h))) refl
  told_refused (Wrong j) h = told_by (Err (Table (Wrong j))) (wrong_at j) (report_wrong (check_table T X) (ap (λ (o : TableOutcome). o.refusal) (sym h)) ∙ ap wrong_at (ap (λ (o : TableOutcome). o.node) (sym h))) refl
  told_refused (Text j) h = told_by (Err (Table (Text j))) (text_at j) (report_text (check_table T X) (ap (λ (o : TableOutcome). o.refusal) (sym h)) ∙ ap text_at (ap (λ (o : TableOutcome). o.node) (sym h))) refl
