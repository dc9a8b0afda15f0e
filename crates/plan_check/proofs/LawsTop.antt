-- The laws of plan check itself. Assumes nothing.
use Prim.Native.Nat.{ℕ, ◌≤◌, ◌<◌}
use native.Mathlib.Omega.{arith}
use mathlib.Core.Path.{◌≡◌, refl, sym, ap, subst}
use mathlib.Core.List.{List, [], ◌∷◌}
use mathlib.Core.Bool.{Bool, true, false}
use borrow.Author.Tests.{eqb-true, eqb-false}
use lib.Dec.{eqb}
use lib.ListN.{length, drop, drop_of_length-le, length-drop}
use Rattle.definition.specs.Limits.{max_plan, max_nesting}
use Rattle.definition.specs.Forms.{Query, Segments}
use Rattle.definition.specs.Forms.Start.{root, current}
use Rattle.definition.specs.Forms.Query.{query}
use Rattle.definition.specs.QueryForms.{is_form, starts_at_root}
use Rattle.definition.specs.Plans.{start_kind}
use Rattle.definition.specs.Outcomes.{Translates, ChecksPlan, spelled, not_spelled, refusal_of}
use Rattle.definition.specs.Outcomes.Reading.{form}
use Rattle.basics.specs.Lists.{same_tail}
use Rattle.plan_laws.specs.Parts.{Spelt, move}
use Rattle.plan_laws.specs.Queries.{segments_part, into_query, from_query, unique_segments}
use Rattle.plan_laws.specs.One.{tests_once, into_translation, from_translation}
use Rattle.plan_items.specs.Readings.{Kind, Asks, Read, NoPart}
use Rattle.plan_items.specs.declared.Got.{Got}
use Rattle.plan_items.proofs.Words.{kind_at, kind_in_at, kind_not}
use Rattle.plan_check.specs.Checks as C
use Rattle.plan_check.specs.Checks.{Accepts, accepted, refusal}
use Rattle.plan_check.proofs.Steps.{read_same}

-- the answer is document 01's number
pub checks_of : {plan pool : List ℕ} {r : Bool} → Accepts plan pool r → ChecksPlan plan pool (refusal r)
unfolding refusal_of
checks_of (accepted q t) = record { reading = form q; reads = spelled q t; is = refl }
checks_of (C.refused n) = record { reading = _; reads = not_spelled n; is = refl }

-- a form is a query at `$`, whose segments stand behind 01, to the ends of plan and pool
top_segments : {plan pool : List ℕ} (q : Query) → Translates q plan pool → (x : Segments) × (s : List ℕ) × (plan ≡ 0x01 ∷ s) × Spelt segments_part max_nesting s pool 0 x [] []
unfolding is_form starts_at_root start_kind
top_segments (query root x) t = let h = into_query (into_translation t) in (x, h.start, h.is, h.rest)
top_segments (query current x) t = absurd (let e : ◌≡◌ {A = Bool} false true = t.is_query in let z : ◌≡◌ {A = ℕ} 0 1 = cc in omega arith)

module _ {S L : List ℕ} where
  pub top_plan_long : max_plan < length S → Accepts S L false
  top_plan_long h = C.refused (λ q t. let a = t.plan_fits in omega arith)

  pub top_pool_long : max_plan < length L → Accepts S L false
  top_pool_long h = C.refused (λ q t. let a = t.pool_fits in omega arith)

  module _ {k : ℕ} (e : Kind S 0 k) where
    pub top_kind : (k ≡ 0x01 → ⊥) → Accepts S L false
    top_kind n = C.refused (λ q t. kind_not e 0x01 n (top_segments q t).2)

    module _ (f : k ≡ 0x01) where
      pub top_start : length S ≤ max_plan → length L ≤ max_plan → Asks S L 1 0 max_nesting
      top_start a b = record { plan = kind_in_at e f; pool = omega arith; small = a; few = b; deep = omega arith }

      pub top_stop : NoPart segments_part max_nesting S L 1 0 → Accepts S L false
      top_stop x = C.refused (λ q t.
          let h = top_segments q t in
          x.none h.0 [] [] (move h.3 (same_tail h.2 (kind_at e f)) refl refl))

      module _ (a : length S ≤ max_plan) (b : length L ≤ max_plan) {g : Got} (rd : Read segments_part max_nesting S L 1 0 g) where
        -- every form ends where the segments that were read do
        top_same : (q : Query) → Translates q S L → (drop g.at S ≡ []) × (drop g.p L ≡ [])
        top_same q t =
            let h = top_segments q t in
            let j = read_same (unique_segments {n = max_plan} (omega arith) tests_once) (record { small = a; few = b }) rd (move h.3 (same_tail h.2 (kind_at e f)) refl refl) in
            (sym j.plan, sym j.pool)

        pub top_plan_rest : (g.at ≡ length S → ⊥) → Accepts S L false
        top_plan_rest n = C.refused (λ q t. let c = ap length (top_same q t).0 in let d = length-drop g.at S in let i = rd.to in n (omega arith))

        pub top_pool_end : g.at ≡ length S → (r : Bool) → eqb g.p (length L) ≡ r → Accepts S L r
        unfolding starts_at_root start_kind
        top_pool_end i true j =
            let c : drop g.at S ≡ [] = drop_of_length-le S {i = g.at} (omega arith) in
            let k = eqb-true g.p (length L) j in
            let d : drop g.p L ≡ [] = drop_of_length-le L {i = g.p} (omega arith) in
            let u = rd.spelt in
            let v : Spelt segments_part max_nesting (drop 1 S) L 0 rd.form [] [] = subst (λ m. Spelt segments_part max_nesting (drop 1 S) L 0 rd.form [] m) d (subst (λ r. Spelt segments_part max_nesting (drop 1 S) L 0 rd.form r (drop g.p L)) c u) in
            accepted (query root rd.form) (from_translation refl a b (from_query (record { start = drop 1 S; is = kind_at e f; rest = v })))
        top_pool_end i false j = C.refused (λ q t. let c = ap length (top_same q t).1 in let d = length-drop g.p L in let h = rd.held in eqb-false g.p (length L) j (omega arith))

-- both statements of an answer
pub told : {plan pool : List ℕ} {r : Bool} → Accepts plan pool r → record { accepts : Accepts plan pool r; checks_plan : ChecksPlan plan pool (refusal r) }
told a = record { accepts = a; checks_plan = checks_of a }
