-- What compile writes where it succeeds: the plan and the pool of the query's form, in the first bytes of the two rooms, and nothing behind them.
-- proofs/Written concludes it. Assumes nothing.
use Rattle.std.specs.Prelude.{ℕ, ◌≤◌, ◌≡◌, refl, List, length, drop}
use Rattle.std.proofs.Common.{arith, ap, sym, ◌∙◌}
use Rattle.std.proofs.Math.Seq.{take-append_seam, drop-append_seam}
use Rattle.definition.specs.Forms.{Query}
use Rattle.definition.specs.Plans.{plan_of, pool_of}
use Rattle.definition.specs.Outcomes.{Reads, CompileOutcome, compile_by}
use Rattle.definition.specs.Outcomes.Reading.{refused, form}
use Rattle.compile_forms.specs.Keeps.{compiled_keeps}
use Rattle.plan_laws.specs.One.{translates_one}
use Rattle.promises_stated.specs.Promises.{CompileCase, Holds}
use Rattle.promises_stated.specs.Promises.CompileCase.{small_plan, small_pool, writes}
use Rattle.promises_stated.specs.Firsts.{refusal_range}

-- ---- what a successful compile writes

-- of the cases only the last has refusal 0
pub case_holds : {P R : List ℕ} {q : Query} {c : CompileOutcome} → CompileCase P R (form q) c → c.refusal ≡ 0 → Holds q P R c
case_holds (small_plan q h) z = absurd (omega (arith, z))
case_holds (small_pool q h) z = absurd (omega (arith, z))
case_holds {P} {R} (writes q m n) z =
    record {
      plan = take-append_seam (plan_of q) (drop (length (plan_of q)) P);
      pool = take-append_seam (pool_of q) (drop (length (pool_of q)) R);
      behind_plan = drop-append_seam (plan_of q) (drop (length (plan_of q)) P);
      behind_pool = drop-append_seam (pool_of q) (drop (length (pool_of q)) R);
    }

-- and no outcome with refusal 0 is that of a refused query
pub outcome_refused : {s : List ℕ} {c : CompileOutcome} (n : ℕ) (P R : List ℕ) → Reads s (refused n) → c ≡ compile_by (refused n) P R → c.refusal ≡ 0 → ⊥
unfolding compile_by
outcome_refused n P R r e z = omega (arith, (refusal_range r).0, ap (λ (o : CompileOutcome). o.refusal) e, z)

-- ---- what compile wrote settles what the query means

-- forms whose plans and pools are the same bytes are one form
pub same_held : {s P R : List ℕ} {c : CompileOutcome} {p q : Query} → Reads s (form p) → Reads s (form q) → Holds p P R c → Holds q P R c → p ≡ q
same_held {s} {p = p} {q = q} r u a b =
    let t = compiled_keeps s q u in
    translates_one (compiled_keeps s p r)
    (record { is_query = t.is_query; is_plan = sym b.plan ∙ a.plan; is_pool = sym b.pool ∙ a.pool; plan_fits = (compiled_keeps s p r).plan_fits; pool_fits = (compiled_keeps s p r).pool_fits })

-- ---- room enough

-- rooms that take the plan and the pool are enough
pub case_enough : {P R : List ℕ} {q : Query} {c : CompileOutcome} → CompileCase P R (form q) c → length (plan_of q) ≤ length P → length (pool_of q) ≤ length R → c.refusal ≡ 0
case_enough (small_plan q h) m n = absurd (omega arith)
case_enough (small_pool q h) m n = absurd (omega arith)
case_enough (writes q m' n') m n = refl
