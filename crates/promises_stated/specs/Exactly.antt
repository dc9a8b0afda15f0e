-- Each operation answers the first refusal of its order whose condition holds, and 0 where none does: plan check, tally and each check of a table
-- alone. The other operations are in proofs/Exactly. Assumes nothing.
use Rattle.std.specs.Prelude.{ℕ, zero, suc, ◌+◌, ◌≤◌, ◌<◌, ◌≡◌, ◌⊎◌, List, [], ◌∷◌, Bool, true, false, cond, ◌&&◌, eqb, leb, length}
use Rattle.std.proofs.Common.{arith, ap, ◌∙◌, true≢false, leb-true, leb-false, eq-eqb, eqb-true}
use Rattle.std.proofs.Math.Path.{refl, sym, subst}
use Rattle.std.proofs.Math.Logic.{inl, inr}
use Rattle.std.proofs.lemmas.Bool.{eqb-false}
use Rattle.definition.specs.Limits.{max_int}
use Rattle.definition.specs.Forms.{Query}
use Rattle.definition.specs.Plans.{plan_of, pool_of}
use Rattle.definition.specs.Tables.{Checked}
use Rattle.definition.specs.Tables.Checked.{accepted, sized, wrong_at, text_at}
use Rattle.definition.specs.TableOutcomes.{TableOutcome, report_table, part_by, found_part, refused_part}
use Rattle.definition.specs.Outcomes.{Reading, Reads, Spells, spelled, not_spelled, CompileOutcome, RunOutcome, ChecksPlan, refusal_of, compile_by, run_by}
use Rattle.definition.specs.Outcomes.Reading.{form}
use Rattle.basics.specs.Bools.{and_left, and_right}
use Rattle.tally_laws.specs.Tallies.{TallyOutcome, Tallies, all_kinds, every_below, sum_at, fits, tally_by}
use Rattle.promises_stated.specs.Promises.{CompilesOnly, SelectsOnly, ChecksRecordsOnly, ChecksTextsOnly, CompileCase, Listed, RunCase}
use Rattle.promises_stated.specs.Promises.CompileCase.{small_plan, small_pool, writes}
use Rattle.promises_stated.specs.Promises.Listed.{listed, filled, beyond}
use Rattle.promises_stated.specs.Promises.RunCase.{wrong_size_lem, wrong_node, wrong_text, lists}
use Rattle.promises_stated.specs.Refusals.{rule, First, CountPasses, record_rules, text_rules, plan_rules, tally_rules}
use Rattle.promises_stated.specs.Checks.{checked_or, records_first, texts_first}

-- ---- compile

pub form_compiles : {P R : List ℕ} {q : Query} {c : CompileOutcome} → CompileCase P R (form q) c → (c.refusal ≡ 0) ⊎ (9 ≤ c.refusal)
form_compiles (small_plan q h) = inr (omega arith)
form_compiles (small_pool q h) = inr (omega arith)
form_compiles (writes q m n) = inl refl

-- with refusal 0 the rooms take the plan and the pool
pub small_writes : {P R : List ℕ} {q : Query} {c : CompileOutcome} → CompileCase P R (form q) c → c.refusal ≡ 0 → (length P < length (plan_of q)) ⊎ (length R < length (pool_of q)) → ⊥
small_writes (small_plan q h) z w = omega (arith, z)
small_writes (small_pool q h) z w = omega (arith, z)
small_writes (writes q m n) z (inl h) = omega arith
small_writes (writes q m n) z (inr h) = omega arith

module _ {s P R : List ℕ} {c : CompileOutcome} (k : CompilesOnly s P R c) where
  -- what compile answers is what every reading of the query gives
  pub compiles_as : (y : Reading) → Reads s y → compile_by y P R ≡ c
  compiles_as y r = k.only (compile_by y P R) (record { reading = y; reads = r; is = refl })

-- ---- the table, and parts of its text

pub report_number : (c : Checked) → (report_table c).refusal ≡ checked_or 0 c
unfolding report_table
report_number accepted = refl
report_number sized = refl
report_number (wrong_at i) = refl
report_number (text_at i) = refl

pub records_check_first : (T X : List ℕ) {o : TableOutcome} → ChecksRecordsOnly T X o → First (record_rules T X) o.refusal
records_check_first T X e = subst (First (record_rules T X)) (sym (ap (λ (o : TableOutcome). o.refusal) e)) (records_first T X)

pub texts_check_first : (T X : List ℕ) {o : TableOutcome} → ChecksTextsOnly T X o → First (text_rules T X) o.refusal
texts_check_first T X e = subst (First (text_rules T X)) (sym (ap (λ (o : TableOutcome). o.refusal) e)) (texts_first T X)

pub part_number : (c : Checked) (b : Bool) (s : List ℕ) → (part_by c b s).number ≡ checked_or (cond b 0 15) c
unfolding part_by found_part refused_part
part_number accepted true s = refl
part_number accepted false s = refl
part_number sized b s = refl
part_number (wrong_at i) b s = refl
part_number (text_at i) b s = refl

module _ (T X s : List ℕ) (b : Bool) where
  pub part_rest : (t : Bool) → b ≡ t → First (rule 15 (b ≡ false) ∷ []) (cond t 0 15)
  part_rest true e = inr (λ f. true≢false (sym e ∙ f), refl)
  part_rest false e = inl (refl, e)

-- ---- run and select

-- with refusal 0 the nodes fit
pub listed_fits : {ns L : List ℕ} {at : ℕ} {o : RunOutcome} → Listed ns L at o → o.refusal ≡ 0 → length L < at + length ns → ⊥
listed_fits (listed f) z h = omega arith
listed_fits (filled a b) z h = omega (arith, z)
listed_fits (beyond b) z h = omega (arith, z)

pub form_runs : {T X L : List ℕ} {at : ℕ} {q : Query} {o : RunOutcome} → RunCase T X L at (form q) o → (o.refusal ≡ 0) ⊎ (9 ≤ o.refusal)
form_runs (wrong_size_lem q e) = inr (omega arith)
form_runs (wrong_node q i e) = inr (omega arith)
form_runs (wrong_text q i e) = inr (omega arith)
form_runs (lists q e (listed f)) = inl refl
form_runs (lists q e (filled a b)) = inr (omega arith)
form_runs (lists q e (beyond b)) = inr (omega arith)

module _ {s T X L : List ℕ} {at : ℕ} {c : RunOutcome} (k : SelectsOnly s T X L at c) where
  pub selects_as : (y : Reading) → Reads s y → run_by y T X L at ≡ c
  selects_as y r = k.only (run_by y T X L at) (record { reading = y; reads = r; is = refl })

-- ---- plan check

checks_by : {plan pool : List ℕ} {n : ℕ} (x : Reading) → Spells plan pool x → n ≡ refusal_of x → First (plan_rules plan pool) n
unfolding refusal_of
checks_by x (spelled q t) e = inr (λ n. n q t, e)
checks_by x (not_spelled n) e = inl (e, n)

pub plan_check_first : {plan pool : List ℕ} {n : ℕ} → ChecksPlan plan pool n → First (plan_rules plan pool) n
plan_check_first k = checks_by k.reading k.reads k.is

-- ---- tally

every_holds : (n : ℕ) (p : ℕ → Bool) → every_below n p ≡ true → (k : ℕ) → k < n → p k ≡ true
unfolding every_below
every_holds zero p e k h = absurd (omega arith)
every_holds (suc n) p e k h = go (eqb k n) refl (every_holds n p (and_left (every_below n p) (p n) e) k)
  where
    go : (b : Bool) → eqb k n ≡ b → (k < n → p k ≡ true) → p k ≡ true
    go true f next = ap p (eqb-true k n f) ∙ and_right (every_below n p) (p n) e
    go false f next = let d = eqb-false k n f in next (omega arith)

every_fails : (n : ℕ) (p : ℕ → Bool) → every_below n p ≡ false → (k : ℕ) × (k < n) × (p k ≡ false)
unfolding every_below
every_fails zero p e = absurd (true≢false e)
every_fails (suc n) p e = go (every_below n p) refl e (every_fails n p)
  where
    go : (b : Bool) → every_below n p ≡ b → (b && p n) ≡ false → (every_below n p ≡ false → (k : ℕ) × (k < n) × (p k ≡ false)) → (k : ℕ) × (k < suc n) × (p k ≡ false)
    go true f g next = (n, omega arith, g)
    go false f g next = let w = next f in (w.0, omega (arith, w.1), w.2)

module _ (plan C : List ℕ) (m : ℕ) where
  abbrev small : ℕ → Bool
  small k = leb (sum_at plan C k) max_int

  passes : fits plan C m ≡ false → CountPasses plan C m
  passes e = go (leb (m + 1) max_int) refl e
    where
      go : (b : Bool) → leb (m + 1) max_int ≡ b → (b && every_below all_kinds small) ≡ false → CountPasses plan C m
      go true f g = let w = every_fails all_kinds small g in inr (w.0, w.1, leb-false (sum_at plan C w.0) max_int w.2)
      go false f g = inl (leb-false (m + 1) max_int f)

  passes_not : fits plan C m ≡ true → CountPasses plan C m → ⊥
  passes_not e (inl h) = let f = leb-true (m + 1) max_int (and_left (leb (m + 1) max_int) (every_below all_kinds small) e) in omega arith
  passes_not e (inr w) =
      let f = leb-true (sum_at plan C w.0) max_int (every_holds all_kinds small (and_right (leb (m + 1) max_int) (every_below all_kinds small) e) w.0 w.1) in
      omega (arith, w.2)

  tally_rest : (b : Bool) → fits plan C m ≡ b → First (rule 21 (CountPasses plan C m) ∷ []) (cond b 0 21)
  tally_rest true e = inr (passes_not e, refl)
  tally_rest false e = inl (refl, passes e)

  tally_number : (n : ℕ) (b : Bool) → fits plan C m ≡ b → n ≡ 0 → (tally_by n plan C m).refusal ≡ cond b 0 21
  tally_number n true e z = rw (eq-eqb n 0 z, e) refl
  tally_number n false e z = rw (eq-eqb n 0 z, e) refl

  tally_by_lem : {pool : List ℕ} {o : TallyOutcome} (x : Reading) (n : ℕ) → Spells plan pool x → n ≡ refusal_of x → o ≡ tally_by n plan C m → First (tally_rules plan pool C m) o.refusal
  unfolding refusal_of
  tally_by_lem {pool} x n (spelled q t) z e =
      subst (First (tally_rules plan pool C m)) (sym (ap (λ (o : TallyOutcome). o.refusal) e ∙ tally_number n (fits plan C m) refl z)) (inr (λ f. f q t, tally_rest (fits plan C m) refl))
  tally_by_lem x n (not_spelled f) z e = inl (ap (λ (o : TallyOutcome). o.refusal) e ∙ tally_refused n z, f)
    where
      tally_refused : (n : ℕ) → n ≡ 11 → (tally_by n plan C m).refusal ≡ 11
      tally_refused n z = rw z refl

pub tally_first : {plan pool C : List ℕ} {m : ℕ} {o : TallyOutcome} → Tallies plan pool C m o → First (tally_rules plan pool C m) o.refusal
tally_first {plan} {C = C} {m = m} k = tally_by_lem plan C m k.checks.reading k.checked k.checks.reads k.checks.is k.is
