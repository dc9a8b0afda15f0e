-- What an answer of the check says of the definition's check, and how a part and a number make an outcome. Assumes nothing.
use Prim.Native.Nat.{ℕ}
use mathlib.Core.Path.{◌≡◌, refl, sym, ap, ap₂, ◌∙◌, subst}
use mathlib.Core.List.{List, []}
use mathlib.Core.Bool.{Bool, true, false, cond}
use borrow.Author.Tests.{eq-eqb, ne_eqb}
use Rattle.definition.specs.Tables.{check_table}
use Rattle.definition.specs.Tables.Checked.{accepted}
use Rattle.definition.specs.TableOutcomes.{TableOutcome, PartOutcome, part_by, table_outcome}
use Rattle.table_laws.specs.Outcomes.{report_accepted, report_sized, report_wrong, report_text, number_sized, number_wrong, number_text}
use Rattle.table_laws.specs.Places.{Begins, part_start}
use Rattle.std.specs.Prelude.{Ok, Err}
use Rattle.table.specs.declared.TableRefusal.{TableRefusal}
use Rattle.table.specs.declared.TableRefusal.TheVariants.{WrongSize, WrongNode, WrongText}
use Rattle.table.specs.Outcomes.{reported, answered}

module _ (T X : List ℕ) where
  -- a check that refuses nothing accepts
  pub says_accepted : reported (Ok tt) ≡ table_outcome T X → check_table T X ≡ accepted
  unfolding reported table_outcome
  says_accepted h = report_accepted (check_table T X) (ap (λ (o : TableOutcome). o.refusal) (sym h))

  -- the number of a refusal is that of text of a node and of key of a node
  pub number_refused : (r : TableRefusal) (b : Bool) (s : List ℕ) → reported (Err r) ≡ table_outcome T X → (part_by (check_table T X) b s).number ≡ (reported (Err r)).refusal
  unfolding reported table_outcome
  number_refused WrongSize b s h = number_sized (check_table T X) b s (report_sized (check_table T X) (ap (λ (o : TableOutcome). o.refusal) (sym h)))
  number_refused (WrongNode i) b s h = number_wrong (check_table T X) b s _ (report_wrong (check_table T X) (ap (λ (o : TableOutcome). o.refusal) (sym h)))
  number_refused (WrongText i) b s h = number_text (check_table T X) b s _ (report_text (check_table T X) (ap (λ (o : TableOutcome). o.refusal) (sym h)))

-- a part and a number that are an outcome's are the outcome
pub answered_is : (o : PartOutcome) (s : List ℕ) (n : ℕ) → s ≡ o.part → n ≡ o.number → answered s n ≡ o
answered_is o s n p q = ap₂ answered p q

-- where a part begins that was found, and an empty one
pub begins_found : {p t : ℕ × ℕ} {at : ℕ} (n : ℕ) → n ≡ 0 → Begins p t at → Begins p t (part_start n at)
begins_found {p} {t} {at} n e b = subst (λ (x : Bool). Begins p t (cond x at 0)) (sym (eq-eqb n 0 e)) b

pub begins_none : {p t : ℕ × ℕ} (n at : ℕ) → (n ≡ 0 → ⊥) → Begins p t 0 → Begins p t (part_start n at)
begins_none {p} {t} n at e b = subst (λ (x : Bool). Begins p t (cond x at 0)) (sym (ne_eqb n 0 e)) b
