-- The laws of select: its outcome is that of the query's reading, which the reader settles. Assumes nothing.
use mathlib.Core.Path.{◌≡◌, refl, sym, ap, subst, ◌∙◌}
use mathlib.Core.List.{List}
use Prim.Native.Nat.{ℕ}
use native.Mathlib.Omega.{arith}
use lib.ListN.{length, take, length-take}
use Rattle.std.specs.Prelude.{Ok, Err}
use Rattle.definition.specs.Grammar as G
use Rattle.definition.specs.Grammar.{spell}
use Rattle.definition.specs.Plans.{plan_of, pool_of}
use Rattle.definition.specs.Walk.{walk}
use Rattle.definition.specs.Outcomes.{Translates, early, judge, run_by, refuse_run}
use Rattle.definition.specs.Outcomes.Reading.{refused}
use Rattle.compile_forms.specs.Keeps.{compiled_keeps}
use Rattle.compile_writes.specs.Writes.{write_query}
use Rattle.compile_writes.specs.Agrees.{Formed}
use Rattle.compile_unique.specs.Readings.{OneReading, OneSelect, none_only, early_only, selects_only}
use Rattle.parser_items.specs.declared.Cursor.{Cursor}
use Rattle.compile.specs.Outcomes.{number_of, QueryNumber}
use Rattle.compile.specs.Steps.{Parsed, verdict_of}
use Rattle.compile.specs.declared.Refusal.{Refusal}
use Rattle.compile.specs.declared.Refusal.TheVariants.{Malformed}
use Rattle.compile.proofs.Answers.{reading, judged, formed, numbered, number_positive}
use Rattle.run.specs.Outcomes.{ran, Planned, RunsForm}
use Rattle.run.specs.declared.RunRefusal.{RunRefusal}
use Rattle.select.specs.Selections.{selected}
use Rattle.select.specs.declared.SelectRefusal.TheVariants as why

module _ {s P' L' : List ℕ} {b : Cursor} (p : Parsed s P' L' b) where
  -- a refusal of the walk
  pub select_refused : {T X L : List ℕ} {at : ℕ} (w : Refusal) → early s ≡ 0 → (QueryNumber (verdict_of b) → number_of w ≡ verdict_of b) → OneSelect s T X L at (selected (Err (why.Query w)) L)
  unfolding run_by selected
  select_refused w h k =
      let g : number_of w ≡ verdict_of b = k (numbered p) in
      let j : judge (walk p.tree) ≡ refused (number_of w) = judged p (λ z. number_positive w (g ∙ z)) ∙ ap refused (sym g) in
      selects_only (subst (OneReading s) j (reading p h)) refl

  module _ (h : early s ≡ 0) (k : QueryNumber (verdict_of b) → 0 ≡ verdict_of b) where
    -- the form of the query
    form_of : Formed (walk p.tree) (write_query p.tree 0)
    form_of = formed p (sym (k (numbered p)))

    -- the plan that was written is that of a query form
    translation : Translates form_of.query (take b.len P') (take b.pool L')
    translation =
        let f = form_of in
        let r = subst (OneReading s) f.is (reading p h) in
        let t = compiled_keeps s f.query r.reads in
        let x : plan_of f.query ≡ take b.len P' = f.plan ∙ sym p.plan in
        let y : pool_of f.query ≡ take b.pool L' = f.pool ∙ sym p.pool in
        subst (λ (l : List ℕ). Translates f.query l (take b.pool L')) x (subst (Translates f.query (plan_of f.query)) y t)

    pub planned : Planned (take b.len P') (take b.pool L')
    planned = record { q = form_of.query; translates = translation }

    module _ {T X L : List ℕ} (L₁ : List ℕ) {at : ℕ} where
      -- what it gives is what the query gives
      pub select_form : (n : ℕ) → RunsForm (take b.len P') (take b.pool L') T X L at (ran (Ok n) L₁) → OneSelect s T X L at (selected (Ok n) L₁)
      unfolding selected
      select_form n g = selects_only (subst (OneReading s) form_of.is (reading p h)) (g form_of.query translation)

      pub select_stopped : (r : RunRefusal) → RunsForm (take b.len P') (take b.pool L') T X L at (ran (Err r) L₁) → OneSelect s T X L at (selected (Err (why.Run r)) L₁)
      unfolding selected
      select_stopped r g = selects_only (subst (OneReading s) form_of.is (reading p h)) (g form_of.query translation)

-- the parts of the rooms that hold them have their lengths
pub plan_part : {s P' L' : List ℕ} {b : Cursor} → Parsed s P' L' b → b.len ≡ length (take b.len P')
plan_part {P' = P'} {b = b} p = omega (arith, length-take b.len P', p.len)

pub pool_part : {s P' L' : List ℕ} {b : Cursor} → Parsed s P' L' b → b.pool ≡ length (take b.pool L')
pool_part {L' = L'} {b = b} p = omega (arith, length-take b.pool L', p.pool_len)

-- no tree
pub select_none : {s T X L : List ℕ} {at : ℕ} → early s ≡ 0 → ((t : G.Query) → spell t ≡ s → ⊥) → OneSelect s T X L at (selected (Err (why.Query Malformed)) L)
unfolding run_by selected
select_none h f = selects_only (none_only h f) refl

-- a refusal before the grammar
pub select_early : {s T X L : List ℕ} {at : ℕ} (w : Refusal) → number_of w ≡ early s → OneSelect s T X L at (selected (Err (why.Query w)) L)
unfolding run_by selected
select_early {L = L} w e = selects_only (early_only (λ z. number_positive w (e ∙ z))) (ap (λ (m : ℕ). refuse_run m 0 L) e)
