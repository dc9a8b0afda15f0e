-- Path of a node: its answers. When each is given, and what compile, run and select do with a path of at most 4,096 bytes, is in proofs/Paths. Assumes nothing.
use Rattle.std.specs.Prelude.{ℕ, ◌+◌, ◌≤◌, ◌<◌, ◌≡◌, List, [], ◌∷◌, Bool, cond, length, take, drop}
use Rattle.std.proofs.Common.{arith, sym, inl, inr, ltb-true, ltb-false}
use Rattle.std.proofs.Math.Path.{refl, subst}
use Rattle.std.proofs.Math.Bool.{true, false}
use Rattle.std.proofs.Math.Dec.{ltb}
use Rattle.std.proofs.Math.Seq.{take-append_seam}
use Rattle.definition.specs.Limits.{max_query}
use Rattle.definition.specs.Tables.{Checked, node_count, check_table}
use Rattle.definition.specs.Tables.Checked.{accepted, sized, wrong_at, text_at}
use Rattle.definition.specs.Outcomes.{RunOutcome}
use Rattle.definition.specs.Paths.{form_of, path_of, PathOutcome, put_path, path_by, path_outcome}
use Rattle.definition_examples.specs.Gives.{Gives}
use Rattle.table_laws.specs.Accepted.{accepted_gives}
use Rattle.table_path_laws.specs.Finds.{steps_find}
use Rattle.table_path_laws.specs.Addresses.{path_reads}
use Rattle.promises_stated.specs.Promises.{PathOnly, PathCase, Listed, alone}
use Rattle.promises_stated.specs.Promises.PathCase.{wrong_size_lem, wrong_node, wrong_text, no_node, small_room, writes}
use Rattle.promises_stated.specs.Promises.Listed.{listed}
use Rattle.promises_stated.specs.Refusals.{Rule, rule, First, NoNode, PathTooLong}
use Rattle.promises_stated.specs.Checks.{checked_or}
use Rattle.promises_stated.specs.Lists.{listed_one}

-- ---- the answers

module _ (T X : List ℕ) (i : ℕ) (B : List ℕ) where
  case_by : (c : Checked) → check_table T X ≡ c → (x y : Bool) → ltb i (node_count T) ≡ x → ltb (length B) (length (path_of T X i)) ≡ y → PathCase T X i B (path_by c x (path_of T X i) B)
  unfolding path_by put_path
  case_by sized h x y e f = wrong_size_lem h
  case_by (wrong_at j) h x y e f = wrong_node j h
  case_by (text_at j) h x y e f = wrong_text j h
  case_by accepted h false y e f = no_node h (ltb-false i (node_count T) e)
  case_by accepted h true true e f = rw f (small_room h (ltb-true i (node_count T) e) (ltb-true (length B) (length (path_of T X i)) f))
  case_by accepted h true false e f = rw f (writes h (ltb-true i (node_count T) e) (ltb-false (length B) (length (path_of T X i)) f))

  -- every answer is one of the cases
  pub path_case : {o : PathOutcome} → PathOnly T X i B o → PathCase T X i B o
  unfolding path_outcome
  path_case e = subst (PathCase T X i B) (sym e) (case_by (check_table T X) refl (ltb i (node_count T)) (ltb (length B) (length (path_of T X i))) refl refl)

  -- the numbers behind the table's
  abbrev pub rest : List Rule
  rest = rule 15 (NoNode T i) ∷ rule 16 (PathTooLong T X i B) ∷ []

  pub path_rest : (x y : Bool) → ltb i (node_count T) ≡ x → ltb (length B) (length (path_of T X i)) ≡ y → First rest (cond x (cond y 16 0) 15)
  path_rest false y e f = inl (refl, ltb-false i (node_count T) e)
  path_rest true true e f = inr (λ h. omega (arith, ltb-true i (node_count T) e), inl (refl, ltb-true (length B) (length (path_of T X i)) f))
  path_rest true false e f = inr (λ h. omega (arith, ltb-true i (node_count T) e), inr (λ h. omega (arith, ltb-false (length B) (length (path_of T X i)) f), refl))

  pub number_by : (c : Checked) (x y : Bool) → ltb (length B) (length (path_of T X i)) ≡ y → (path_by c x (path_of T X i) B).refusal ≡ checked_or (cond x (cond y 16 0) 15) c
  unfolding path_by put_path
  number_by accepted true true f = rw f
  number_by accepted true false f = rw f
  number_by accepted false y f = refl
  number_by sized x y f = refl
  number_by (wrong_at j) x y f = refl
  number_by (text_at j) x y f = refl

-- what is written is the path of a node of an accepted table
pub case_written : {T X B : List ℕ} {i : ℕ} {o : PathOutcome} → PathCase T X i B o → o.refusal ≡ 0 → (check_table T X ≡ accepted) × (i < node_count T) × (take o.size o.room ≡ path_of T X i)
case_written (wrong_size_lem h) z = absurd (omega (arith, z))
case_written (wrong_node j h) z = absurd (omega (arith, z))
case_written (wrong_text j h) z = absurd (omega (arith, z))
case_written (no_node h l) z = absurd (omega (arith, z))
case_written (small_room h l m) z = absurd (omega (arith, z))
case_written {T} {X} {B} {i} (writes h l m) z = (h, l, take-append_seam (path_of T X i) (drop (length (path_of T X i)) B))

-- ---- a path as a query

module _ (T X : List ℕ) (h : check_table T X ≡ accepted) (i : ℕ) (l : i < node_count T) (m : length (path_of T X i) ≤ max_query) where
  -- the path as a row of a table of rows: on its table it gives that node alone
  pub path_gives : Gives (path_of T X i) T X (i ∷ [])
  path_gives = record { query = form_of T X i; reads = path_reads T X h i l m; table = h; selects = steps_find T X (accepted_gives T X h) i l }

  pub only : {L : List ℕ} {at : ℕ} {o : RunOutcome} → at < length L → Listed (i ∷ []) L at o → o ≡ alone i L at
  only {L} {at} k w = let f : at + length (i ∷ []) ≤ length L = omega arith in listed_one w (listed f)
