-- A series of calls of tally, one plan at a time, accepted and refused ones mixed: what the counts and the number of plans then hold. Assumes nothing.
use Rattle.std.specs.Prelude.{ℕ, ◌+◌, ◌≡◌, refl, Bool, true, false, List, [], ◌∷◌, ◌++◌, map, eqb, length, get_or, replicate}
use Rattle.std.proofs.Common.{arith, sym, ap, ◌∙◌, subst, eqb-true, length-append}
use Rattle.std.proofs.lemmas.Bool.{eqb-false}
use Rattle.definition.specs.Forms.{Query}
use Rattle.definition.specs.Plans.{plan_of}
use Rattle.definition.specs.Outcomes.{Reading, Spells, spelled, not_spelled, refusal_of}
use Rattle.tally_laws.specs.Items.{occurrences}
use Rattle.tally_laws.specs.Forms.{items_of_all}
use Rattle.tally_laws.specs.Tallies.{TallyOutcome, Tallies, tally_by, fits, with_plan, all_kinds}
use Rattle.tally_laws.specs.Series.{kinds_of_all, taken_all, sum_of, Bytes, each_count, all_counts}
use Rattle.tally_laws.specs.Taken.{forms_bytes}
use Rattle.tally_laws.proofs.Taken.{forms_items}
use Rattle.promises_stated.specs.Promises.{Unchanged, Taken, Counted}
use Rattle.promises_stated.specs.Promises.Taken.{start, taken, passed}

-- ---- one call

-- answered by 0: plan check accepts, every count has the plan's items, and there is one plan more
record Took (plan C : List ℕ) (n m : ℕ) (o : TallyOutcome) : Type 0 where
  checked : n ≡ 0
  counts : o.counts ≡ with_plan plan C
  plans : o.plans ≡ m + 1

module _ (plan C : List ℕ) (n m : ℕ) where
  took : (x y : Bool) → eqb n 0 ≡ x → fits plan C m ≡ y → (tally_by n plan C m).refusal ≡ 0 → Took plan C n m (tally_by n plan C m)
  took true true e f z = rw (e, f) (record { checked = eqb-true n 0 e; counts = refl; plans = refl })
  took true false e f z = absurd (omega (arith, rw (e, f) at z))
  took false y e f z = absurd (eqb-false n 0 e (rw e at z))

  left : (x y : Bool) → eqb n 0 ≡ x → fits plan C m ≡ y → ((tally_by n plan C m).refusal ≡ 0 → ⊥) → Unchanged C m (tally_by n plan C m)
  left true true e f z = absurd (z (rw (e, f) refl))
  left true false e f z = rw (e, f) (record { counts = refl; plans = refl })
  left false y e f z = rw e (record { counts = refl; plans = refl })

module _ {plan pool C : List ℕ} {m : ℕ} {o : TallyOutcome} (k : Tallies plan pool C m o) where
  takes : o.refusal ≡ 0 → Took plan C k.checked m o
  takes z =
      subst (Took plan C k.checked m) (sym k.is)
      (took plan C k.checked m (eqb k.checked 0) (fits plan C m) refl refl (sym (ap (λ (x : TallyOutcome). x.refusal) k.is) ∙ z))

  pub leaves : (o.refusal ≡ 0 → ⊥) → Unchanged C m o
  leaves z =
      subst (Unchanged C m) (sym k.is)
      (left plan C k.checked m (eqb k.checked 0) (fits plan C m) refl refl (λ y. z (ap (λ (x : TallyOutcome). x.refusal) k.is ∙ y)))

-- a plan that plan check accepts is a form's
form_of : {plan pool : List ℕ} {n : ℕ} (x : Reading) → Spells plan pool x → n ≡ refusal_of x → n ≡ 0 → (q : Query) × (plan_of q ≡ plan)
unfolding refusal_of
form_of x (spelled q t) e z = (q, t.is_plan)
form_of x (not_spelled f) e z = absurd (omega (arith, e, z))

-- ---- the series

-- one plan more, at the end
taken_last : (ps : List (List ℕ)) (p C : List ℕ) → taken_all (ps ++ p ∷ []) C ≡ with_plan p (taken_all ps C)
unfolding taken_all
taken_last [] p C = refl
taken_last (q ∷ ps) p C = taken_last ps p (with_plan q C)

map_last : (qs : List Query) (q : Query) → map plan_of (qs ++ q ∷ []) ≡ map plan_of qs ++ plan_of q ∷ []
map_last [] q = refl
map_last (p ∷ qs) q = ap (λ (l : List (List ℕ)). plan_of p ∷ l) (map_last qs q)

-- the counts are those of the plans taken, there are as many as the number says, and each is a form's
record Sums (C : List ℕ) (m : ℕ) (ps : List (List ℕ)) : Type 0 where
  counts : C ≡ taken_all ps (replicate all_kinds 0)
  plans : m ≡ length ps
  forms : List Query
  are : map plan_of forms ≡ ps

sums : {C : List ℕ} {m : ℕ} {ps : List (List ℕ)} → Taken C m ps → Sums C m ps
unfolding taken_all
sums start = record { counts = refl; plans = refl; forms = []; are = refl }
sums (taken {C} {plan} {pool} {m} {ps} {o} t k z) =
    let s = sums t in
    let w = takes k z in
    let f = form_of k.checks.reading k.checks.reads k.checks.is w.checked in
    record {
      counts = w.counts ∙ ap (with_plan plan) s.counts ∙ sym (taken_last ps plan (replicate all_kinds 0));
      plans = w.plans ∙ ap (λ (x : ℕ). x + 1) s.plans ∙ sym (length-append ps (plan ∷ []));
      forms = s.forms ++ f.0 ∷ [];
      are = map_last s.forms f.0 ∙ ap (λ (l : List (List ℕ)). l ++ plan_of f.0 ∷ []) s.are ∙ ap (λ (p : List ℕ). ps ++ p ∷ []) f.1;
    }
sums (passed t k z) =
    let s = sums t in
    let w = leaves k z in
    record { counts = w.counts ∙ s.counts; plans = w.plans ∙ s.plans; forms = s.forms; are = s.are }

-- After any series of calls the counts are the occurrences among the items of the plans that were taken.
pub series : {C : List ℕ} {m : ℕ} {ps : List (List ℕ)} → Taken C m ps → Counted C m ps
series {C} {m} {ps} t =
    let s = sums t in
    let e : kinds_of_all ps ≡ items_of_all s.forms = ap kinds_of_all (sym s.are) ∙ forms_items s.forms in
    record {
      forms = s.forms;
      plans_of = s.are;
      plans = s.plans;
      each = λ k h. ap (λ (c : List ℕ). get_or c k 0) s.counts ∙ each_count ps k h ∙ ap (occurrences k) e;
      all = ap sum_of s.counts ∙ all_counts ps (subst Bytes (sym e) (forms_bytes s.forms)) ∙ ap length e;
    }
