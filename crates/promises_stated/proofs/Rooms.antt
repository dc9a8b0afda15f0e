-- Rooms by the length of the query are never too small. Assumes nothing.
use Rattle.std.specs.Prelude.{ℕ, ◌*◌, ◌≤◌, ◌≡◌, refl, List, ltb, length}
use Rattle.std.proofs.Common.{arith, inl, ltb-true, ltb-false}
use Rattle.definition.specs.Limits.{max_query}
use Rattle.definition.specs.Outcomes.{CompileOutcome}
use Rattle.utf8_laws.specs.Bytes.{by_test}
use Rattle.promises_stated.specs.Promises.{CompilesOnly, plan_bytes}
use Rattle.promises_stated.specs.Firsts.{exactly}
use Rattle.promises_stated.specs.Refusals.{compile_rules}
use Rattle.promises_stated.proofs.Cases.{compile_cases}
use Rattle.promises_stated.proofs.Exactly.{compile_first}
use Rattle.promises_stated.specs.Rooms.{case_twelve}

pub no_twelve : {s P R : List ℕ} {c : CompileOutcome} → CompilesOnly s P R c → plan_bytes * length s ≤ length P → length s ≤ length R → c.refusal ≡ 12 → ⊥
no_twelve k a b e = let w = compile_cases k.is in case_twelve w.1 w.2 a b e

-- a longer query than may be is refused by 1, so two sizes are enough for all
pub never_twelve : {s P R : List ℕ} {c : CompileOutcome} → CompilesOnly s P R c → plan_bytes * max_query ≤ length P → max_query ≤ length R → c.refusal ≡ 12 → ⊥
never_twelve {s} {P} {R} k a b e =
    by_test (ltb max_query (length s))
    (λ t. omega (arith, (exactly (compile_rules s P R) (compile_first k) 1).1 (inl (refl, ltb-true max_query (length s) t))))
    (λ f. let h = ltb-false max_query (length s) f in no_twelve k (omega arith) (omega arith) e)
