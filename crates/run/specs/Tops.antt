-- From what evaluation leaves in the part of the list that it was lent to the outcome of a run. Assumes nothing.
use Rattle.std.specs.Prelude.{ℕ, ◌+◌, ◌-◌, ◌≤◌, ◌<◌, min, ◌≡◌, refl, Bool, true, false, leb, Ok, Err}
use Rattle.std.proofs.Common.{sym, ◌∙◌, drop_of_length-le, drop-drop}
use Rattle.std.proofs.Math.Path.{ap, subst}
use mathlib.Core.List.{List, [], ◌∷◌, ◌++◌, append-nil, append_assoc}
use Rattle.std.proofs.lemmas.Bool.{false≢true}
use native.Mathlib.Omega.{arith}
use borrow.Author.Tests.{le-leb, lt-leb}
use Rattle.std.proofs.Math.ListN.{length, take, drop, length-drop, length-take}
use Rattle.std.proofs.Math.Seq.{sets, take_all}
use Rattle.std.proofs.lemmas.List.Edits.{sets-eq}
use Rattle.definition.specs.Forms.{Query, Segments}
use Rattle.definition.specs.Forms.Start.{root, current}
use Rattle.definition.specs.Forms.Query.{query}
use Rattle.definition.specs.QueryForms.{is_form, starts_at_root, query_right, segments_right, nesting}
use Rattle.definition.specs.Plans.{start_kind, plan_of, pool_of, code_query, pool_query, code_segments, pool_segments}
use Rattle.definition.specs.Tables.{Checked, check_table, node_at, tree}
use Rattle.definition.specs.Tables.Checked.{accepted, sized, wrong_at, text_at}
use Rattle.definition.specs.Evaluation.{eval_query, eval_segments, selected}
use Rattle.definition.specs.TableOutcomes.{TableOutcome, table_outcome}
use Rattle.definition.specs.Outcomes.{Translates, spelled, not_spelled, RunOutcome, refuse_run, place, place_from, run_table, run_by, Runs}
use Rattle.definition.specs.Outcomes.Reading.{form, refused}
use Rattle.basics.specs.Bools.{and_left, and_right}
use Rattle.table.specs.Outcomes.{reported}
use Rattle.table.specs.declared.TableRefusal.{TableRefusal}
use Rattle.table.specs.declared.TableRefusal.TheVariants.{WrongSize as Sized, WrongNode as Wrong, WrongText as Text}
use Rattle.table_laws.specs.Outcomes.{report_accepted, report_sized, report_wrong, report_text}
use Rattle.eval_laws.specs.Bytes.{holds_whole, holds_tail}
use Rattle.eval_laws.specs.States.{st, emit, emit_whole}
use Rattle.eval_laws.specs.Segments.{ids}
use Rattle.eval_laws.specs.Emits.{go}
use Rattle.eval_laws.specs.Items.{SegmentsAt}
use Rattle.plan_check.specs.Checks.{Accepts}
use Rattle.run.specs.declared.RunRefusal.TheVariants.{WrongPlan, Table, WrongStart, NoRoom}
use Rattle.run.specs.Outcomes.{ran, Planned, RunsForm, DonePlacing}

-- ---- the plan behind its first byte

-- the segments of a query form
unfoldable pub segments_of : Query → Segments
segments_of (query s f) = f

pub planned_at : (q : Query) (P L : List ℕ) → Translates q P L → SegmentsAt P L 1 0 (segments_of q)
unfolding segments_of is_form plan_of pool_of code_query pool_query query_right
planned_at (query s f) P L t =
    record {
      holds = holds_tail P 0 (start_kind s) (code_segments f 0) (holds_whole P (start_kind s ∷ code_segments f 0) t.is_plan);
      pool = holds_whole L (pool_segments f) t.is_pool;
      right = and_left (segments_right f) (leb (nesting (query s f)) _) (and_right (starts_at_root (query s f)) _ t.is_query);
    }

-- what it selects
selected_by : (q : Query) (T X : List ℕ) → is_form q ≡ true → selected q (tree T X) ≡ ids (eval_segments (segments_of q) (node_at T X 0) (node_at T X 0 ∷ []))
unfolding selected tree segments_of eval_query is_form starts_at_root
selected_by (query root f) T X h = refl
selected_by (query current f) T X h = absurd (false≢true h)

-- ---- the part of the list that was lent

-- stores in the part are stores in the whole
pub stores_part : (l v : List ℕ) (start : ℕ) → start ≤ length l → length v ≤ length l - start
    → take start l ++ (sets (take (length l - start) (drop start l)) 0 v ++ drop (length l - start) (drop start l)) ≡ sets l start v
stores_part l v start h g =
    let d = length-drop start l in
    let a : take (length l - start) (drop start l) ≡ drop start l = take_all (length l - start) (drop start l) (omega arith) in
    let z : drop (length l - start) (drop start l) ≡ [] = drop_of_length-le (drop start l) {i = length l - start} (omega arith) in
    let e : sets (drop start l) 0 v ≡ v ++ drop (0 + length v) (drop start l) = sets-eq v (drop start l) 0 (omega arith) in
    let s : start + (0 + length v) ≡ start + length v = omega arith in
    ap (λ (x : List ℕ). take start l ++ (sets x 0 v ++ drop (length l - start) (drop start l))) a
    ∙ ap (λ (x : List ℕ). take start l ++ (sets (drop start l) 0 v ++ x)) z
    ∙ ap (λ (x : List ℕ). take start l ++ x) (append-nil (sets (drop start l) 0 v) ∙ e ∙ ap (λ (x : List ℕ). v ++ x) (drop-drop (0 + length v) start l ∙ ap (λ (k : ℕ). drop k l) s))
    ∙ sym (append_assoc (take start l) v (drop (start + length v) l))
    ∙ sym (sets-eq v l start (omega arith))

-- what evaluation does in the part
abbrev pub Evaluated : List ℕ → List ℕ → List ℕ → List ℕ → List ℕ → ℕ → List ℕ → ℕ → Type 0
Evaluated P L T X l start p n = (f : Segments) (k : ℕ) → SegmentsAt P L 1 k f → st (length l - start) p n ≡ go f (node_at T X 0) (node_at T X 0 ∷ []) (st (length l - start) (take (length l - start) (drop start l)) 0)

module _ (P L T X l : List ℕ) (start : ℕ) (h : start ≤ length l) (p : List ℕ) (n : ℕ) (w : Evaluated P L T X l start p n) where
  -- what is left in the whole list
  abbrev pub after : List ℕ
  after = take start l ++ (p ++ drop (length l - start) (drop start l))

  filled : (q : Query) → Translates q P L → (after ≡ sets l start (take (length l - start) (selected q (tree T X)))) × (n ≡ min (length (selected q (tree T X))) (length l - start + 1))
  unfolding go
  filled q t =
      let f = segments_of q in
      let xs = selected q (tree T X) in
      let part = take (length l - start) (drop start l) in
      let d = length-drop start l in
      let k : length part ≡ length l - start = length-take (length l - start) (drop start l) ∙ omega arith in
      let e0 : st (length l - start) p n ≡ emit (ids (eval_segments f (node_at T X 0) (node_at T X 0 ∷ []))) (st (length l - start) part 0) = w f 0 (planned_at q P L t) in
      let e1 : st (length l - start) p n ≡ emit xs (st (length l - start) part 0) = e0 ∙ ap (λ (ys : List ℕ). emit ys (st (length l - start) part 0)) (sym (selected_by q T X t.is_query)) in
      let e2 : st (length part) p n ≡ emit xs (st (length part) part 0) = subst (λ (c : ℕ). st c p n ≡ emit xs (st c part 0)) (sym k) e1 in
      let y = emit_whole xs part p n e2 in
      let v = length-take (length l - start) xs in (
        ap (λ (z : List ℕ). take start l ++ (z ++ drop (length l - start) (drop start l))) (y.0 ∙ ap (λ (c : ℕ). sets part 0 (take c xs)) k)
            ∙ stores_part l (take (length l - start) xs) start h (omega arith),
        omega (arith, y.1, k),
      )

  pub places_selected : n ≤ length l - start → DonePlacing P L T X l start (ran (Ok n) after)
  unfolding ran place_from place
  places_selected g q t =
      let xs = selected q (tree T X) in
      let y = filled q t in
      let m : n ≡ length xs = omega (arith, y.1) in
      let a : take (length l - start) xs ≡ xs = take_all (length l - start) xs (omega arith) in
      rw (le-leb start (length l) h, le-leb (length xs) (length l - start) (omega arith)) (λ i. record { refusal = 0; count = m i; node = 0; places = (y.0 ∙ ap (sets l start) a) i })

  pub places_full : length l - start < n → DonePlacing P L T X l start (ran (Err NoRoom) after)
  unfolding ran place_from place refuse_run
  places_full g q t =
      let xs = selected q (tree T X) in
      let y = filled q t in
      rw (le-leb start (length l) h, lt-leb (length xs) (length l - start) (omega (arith, y.1))) (λ i. record { refusal = 13; count = 0; node = 0; places = y.0 i })

pub places_beyond : (P L T X l : List ℕ) (start : ℕ) → length l < start → DonePlacing P L T X l start (ran (Err WrongStart) l)
unfolding ran place_from refuse_run
places_beyond P L T X l start h q t = rw (lt-leb start (length l) h)

-- ---- behind the check of the table

-- a check that refuses nothing accepts
pub table_accepted : (T X : List ℕ) → reported (Ok tt) ≡ table_outcome T X → check_table T X ≡ accepted
unfolding reported table_outcome
table_accepted T X h = report_accepted (check_table T X) (ap (λ (o : TableOutcome). o.refusal) (sym h))

module _ (P L T X l : List ℕ) (start : ℕ) where
  pub form_placed : reported (Ok tt) ≡ table_outcome T X → (o : RunOutcome) → DonePlacing P L T X l start o → RunsForm P L T X l start o
  unfolding run_by run_table
  form_placed h o d q t = d q t ∙ ap (λ (k : Checked). run_table k q T X l start) (sym (table_accepted T X h))

  form_by : (r : TableRefusal) (c : Checked) → check_table T X ≡ c → ((q : Query) → ran (Err (Table r)) l ≡ run_table c q T X l start) → RunsForm P L T X l start (ran (Err (Table r)) l)
  unfolding run_by
  form_by r c e same q t = same q ∙ ap (λ (k : Checked). run_table k q T X l start) (sym e)

  pub form_refused : (r : TableRefusal) → reported (Err r) ≡ table_outcome T X → RunsForm P L T X l start (ran (Err (Table r)) l)
  unfolding reported table_outcome ran run_table refuse_run
  form_refused Sized h = form_by Sized sized (report_sized (check_table T X) (ap (λ (o : TableOutcome). o.refusal) (sym h))) (λ q. refl)
  form_refused (Wrong i) h = form_by (Wrong i) (wrong_at i) (report_wrong (check_table T X) (ap (λ (o : TableOutcome). o.refusal) (sym h)) ∙ ap wrong_at (ap (λ (o : TableOutcome). o.node) (sym h))) (λ q. refl)
  form_refused (Text i) h = form_by (Text i) (text_at i) (report_text (check_table T X) (ap (λ (o : TableOutcome). o.refusal) (sym h)) ∙ ap text_at (ap (λ (o : TableOutcome). o.node) (sym h))) (λ q. refl)

-- ---- behind the check of the plan

pub is_planned_lem : {plan pool : List ℕ} {r : Bool} → Accepts plan pool r → r ≡ true → Planned plan pool
is_planned_lem (Accepts.accepted q t) e = record { q = q; translates = t }
is_planned_lem (Accepts.refused n) e = absurd (let z : ◌≡◌ {A = ℕ} 0 1 = cc in omega arith)

pub run_planned : (P L T X l : List ℕ) (start : ℕ) (r : Bool) → Accepts P L r → r ≡ true → (o : RunOutcome) → RunsForm P L T X l start o → Runs P L T X l start o
run_planned P L T X l start r a e o d = let p = is_planned_lem a e in record { reading = form p.q; reads = spelled p.q p.translates; is = d p.q p.translates }

pub run_refused : (P L T X l : List ℕ) (start : ℕ) (r : Bool) → Accepts P L r → r ≡ false → Runs P L T X l start (ran (Err WrongPlan) l)
unfolding ran run_by refuse_run
run_refused P L T X l start r (Accepts.accepted q t) e = absurd (let z : ◌≡◌ {A = ℕ} 0 1 = cc in omega arith)
run_refused P L T X l start r (Accepts.refused n) e = record { reading = refused 11; reads = not_spelled n; is = refl }
