-- Compile, select, run, the pair of checks of a table, and text and key of a node answer the first refusal of their order whose condition holds, and 0 where none does.
-- Assumes nothing.
use Rattle.std.specs.Prelude.{ℕ, ◌≡◌, List, [], ◌∷◌, Bool, false, cond}
use Rattle.std.proofs.Common.{arith, ap, ◌∙◌}
use Rattle.std.proofs.Math.Path.{refl, sym, subst}
use Rattle.std.proofs.Math.Logic.{inl, inr}
use Rattle.definition.specs.Forms.{Query}
use Rattle.definition.specs.Tables.{check_table, tree}
use Rattle.definition.specs.Tables.Checked.{accepted}
use Rattle.definition.specs.TableOutcomes.{TableOutcome, PartOutcome, table_outcome, part_by, has_text, has_key, text_outcome, key_outcome}
use Rattle.definition.specs.Evaluation.{selected}
use Rattle.definition.specs.Outcomes.{Reading, Reads, Translates, Spells, spelled, not_spelled, CompileOutcome, RunOutcome, Runs, refusal_of, refuse_run, compile_by, run_by}
use Rattle.definition.specs.Outcomes.Reading.{refused, form}
use Rattle.compile_forms.specs.Fits.{not_refused}
use Rattle.promises_stated.specs.Promises.{CompilesOnly, SelectsOnly, ChecksTableOnly, TextOnly, KeyOnly, CompileCase, Listed, RunCase}
use Rattle.promises_stated.specs.Promises.CompileCase.{small_plan, small_pool, writes}
use Rattle.promises_stated.specs.Promises.Listed.{listed, filled, beyond}
use Rattle.promises_stated.specs.Promises.RunCase.{wrong_size_lem, wrong_node, wrong_text, lists}
use Rattle.promises_stated.specs.Refusals.{Rule, rule, First, RoomTooSmall, NoText, NoKey, table_rules, list_rules, compile_rules, select_rules, run_rules, part_rules, StartBeyond, TooFewPlaces}
use Rattle.promises_stated.specs.Firsts.{alike_by, query_first}
use Rattle.promises_stated.specs.Checks.{sized_why, wrong_first, text_first, accepted_first}
use Rattle.promises_stated.proofs.Checks.{table_first}
use Rattle.promises_stated.proofs.Cases.{compile_case, run_case, accepted_lists}
use Rattle.promises_stated.specs.Running.{runs_as}
use Rattle.promises_stated.specs.Exactly.{form_compiles, small_writes, compiles_as, report_number, part_number, part_rest, listed_fits, form_runs, selects_as}

-- ---- compile

module _ {s P R : List ℕ} {c : CompileOutcome} (k : CompilesOnly s P R c) where
  compile_alike : (y : Reading) → Reads s y → refusal_of y ≡ refusal_of k.is.reading
  unfolding compile_by
  compile_alike y r = alike_by (λ z. (compile_by z P R).refusal) (λ n. refl) (λ q. form_compiles (compile_case (form q) P R)) k.is.reading y k.is.reads r
      (ap (λ (o : CompileOutcome). o.refusal) (compiles_as k y r ∙ k.is.is))

  compile_rest : {q : Query} {o : CompileOutcome} → o ≡ c → Reads s (form q) → CompileCase P R (form q) o → First (rule 12 (RoomTooSmall s P R) ∷ []) o.refusal
  compile_rest e r (small_plan q h) = inl (refl, (q, r, inl h))
  compile_rest e r (small_pool q h) = inl (refl, (q, r, inr h))
  compile_rest e r (writes q m n) =
      inr (λ w. small_writes (subst (CompileCase P R (form w.0)) (compiles_as k (form w.0) w.1) (compile_case (form w.0) P R)) (sym (ap (λ (o : CompileOutcome). o.refusal) e)) w.2, refl)

  compile_by_lem : (x : Reading) → Reads s x → c ≡ compile_by x P R → ((y : Reading) → Reads s y → refusal_of y ≡ refusal_of x) → First (compile_rules s P R) c.refusal
  unfolding compile_by refusal_of
  compile_by_lem (refused n) r e a =
      subst (First (compile_rules s P R)) (sym (ap (λ (o : CompileOutcome). o.refusal) e)) (query_first s n a (rule 12 (RoomTooSmall s P R) ∷ []) 0 (refused n) r (λ q f. absurd (not_refused f)))
  compile_by_lem (form q) r e a =
      query_first s 0 a (rule 12 (RoomTooSmall s P R) ∷ []) c.refusal (form q) r (λ p f. compile_rest refl r (subst (CompileCase P R (form q)) (sym e) (compile_case (form q) P R)))

  pub compile_first : First (compile_rules s P R) c.refusal
  compile_first = compile_by_lem k.is.reading k.is.reads k.is.is compile_alike

-- ---- the table, and parts of its text

pub table_check_first : (T X : List ℕ) {o : TableOutcome} → ChecksTableOnly T X o → First (table_rules T X) o.refusal
unfolding table_outcome
table_check_first T X e =
    subst (First (table_rules T X)) (sym (ap (λ (o : TableOutcome). o.refusal) e ∙ report_number (check_table T X))) (table_first T X [] 0 (check_table T X) refl (λ a. refl))

module _ (T X s : List ℕ) (b : Bool) where
  part_first : {o : PartOutcome} → o ≡ part_by (check_table T X) b s → First (part_rules (b ≡ false) T X) o.number
  part_first e =
      subst (First (part_rules (b ≡ false) T X)) (sym (ap (λ (o : PartOutcome). o.number) e ∙ part_number (check_table T X) b s))
      (table_first T X (rule 15 (b ≡ false) ∷ []) (cond b 0 15) (check_table T X) refl (λ a. part_rest T X s b b refl))

pub text_of_first : (T X : List ℕ) (i : ℕ) {o : PartOutcome} → TextOnly T X i o → First (part_rules (NoText T i) T X) o.number
unfolding text_outcome
text_of_first T X i e = part_first T X _ (has_text T i) e

pub key_of_first : (T X : List ℕ) (i : ℕ) {o : PartOutcome} → KeyOnly T X i o → First (part_rules (NoKey T i) T X) o.number
unfolding key_outcome
key_of_first T X i e = part_first T X _ (has_key T i) e

-- ---- run and select

-- the forms that F gives all come to the outcome o
module _ (F : Query → Type 0) (T X L : List ℕ) (at : ℕ) where
  abbrev place_rules : List Rule
  place_rules = rule 14 (StartBeyond L at) ∷ rule 13 (TooFewPlaces F T X L at) ∷ []

  list_rest : (q : Query) {o : RunOutcome} → F q → ((p : Query) → F p → run_by (form p) T X L at ≡ o) → check_table T X ≡ accepted → Listed (selected q (tree T X)) L at o
      → First place_rules o.refusal
  list_rest q f same h (listed a) =
      inr (λ b. omega arith, inr (λ w. listed_fits (subst (Listed (selected w.0 (tree T X)) L at) (same w.0 w.1) (accepted_lists w.0 T X L at h)) refl w.2, refl))
  list_rest q f same h (filled a b) = inr (λ c. omega arith, inl (refl, (q, f, b)))
  list_rest q f same h (beyond b) = inl (refl, b)

  list_first : {q : Query} {o : RunOutcome} → F q → ((p : Query) → F p → run_by (form p) T X L at ≡ o) → RunCase T X L at (form q) o → First (list_rules F T X L at) o.refusal
  list_first f same (wrong_size_lem q e) = inl (refl, sized_why T X e)
  list_first f same (wrong_node q i e) = wrong_first T X place_rules i e
  list_first f same (wrong_text q i e) = text_first T X place_rules i e
  list_first f same (lists q {o} e l) = accepted_first T X place_rules o.refusal e (list_rest q f same e l)

-- the first of run's order, from what the plan and the pool spell
module _ {plan pool : List ℕ} (T X L : List ℕ) (at : ℕ) {o : RunOutcome} where
  runs_by : (x : Reading) → Spells plan pool x → o ≡ run_by x T X L at → First (run_rules plan pool T X L at) o.refusal
  unfolding run_by refuse_run
  runs_by x (spelled q t) e =
      inr (
        λ n. n q t,
        list_first (λ p. Translates p plan pool) T X L at t (λ p u. sym (runs_as p T X L at u (record { reading = form q; reads = spelled q t; is = e })))
            (subst (RunCase T X L at (form q)) (sym e) (run_case (form q) T X L at)),
      )
  runs_by x (not_spelled n) e = inl (ap (λ (o : RunOutcome). o.refusal) e, n)

pub run_first : {plan pool T X L : List ℕ} {at : ℕ} {o : RunOutcome} → Runs plan pool T X L at o → First (run_rules plan pool T X L at) o.refusal
run_first {T = T} {X = X} {L = L} {at = at} k = runs_by T X L at k.reading k.reads k.is

module _ {s T X L : List ℕ} {at : ℕ} {c : RunOutcome} (k : SelectsOnly s T X L at c) where
  select_alike : (y : Reading) → Reads s y → refusal_of y ≡ refusal_of k.is.reading
  unfolding run_by refuse_run
  select_alike y r = alike_by (λ z. (run_by z T X L at).refusal) (λ n. refl) (λ q. form_runs (run_case (form q) T X L at)) k.is.reading y k.is.reads r
      (ap (λ (o : RunOutcome). o.refusal) (selects_as k y r ∙ k.is.is))

  abbrev behind : List Rule
  behind = list_rules (λ q. Reads s (form q)) T X L at

  select_by : (x : Reading) → Reads s x → c ≡ run_by x T X L at → ((y : Reading) → Reads s y → refusal_of y ≡ refusal_of x) → First (select_rules s T X L at) c.refusal
  unfolding run_by refuse_run refusal_of
  select_by (refused n) r e a = subst (First (select_rules s T X L at)) (sym (ap (λ (o : RunOutcome). o.refusal) e)) (query_first s n a behind 0 (refused n) r (λ q f. absurd (not_refused f)))
  select_by (form q) r e a =
      query_first s 0 a behind c.refusal (form q) r (λ p f. list_first (λ p. Reads s (form p)) T X L at r (λ p u. selects_as k (form p) u) (subst (RunCase T X L at (form q)) (sym e) (run_case (form q) T X L at)))

  pub select_first : First (select_rules s T X L at) c.refusal
  select_first = select_by k.is.reading k.is.reads k.is.is select_alike
