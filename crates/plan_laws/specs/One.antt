-- One plan and one pool spell one query form at most. So plan check and run have one outcome for each input.
-- Assumes nothing.
use Rattle.std.specs.Prelude.{ℕ, ◌≤◌, ◌≡◌, refl, List, [], true, ◌&&◌, leb, length}
use Rattle.std.proofs.Common.{arith, sym, ap, ◌∙◌, append-nil, leb-true, le-leb}
use Rattle.definition.specs.Limits.{max_plan, max_nesting}
use Rattle.definition.specs.Forms.{Query}
use Rattle.definition.specs.QueryForms.{is_form, starts_at_root, query_right, nesting}
use Rattle.definition.specs.Plans.{plan_of, pool_of, code_query, pool_query}
use Rattle.definition.specs.Outcomes.{Reading, Translates, Spells, spelled, not_spelled, ChecksPlan, Runs, RunOutcome, refusal_of, run_by}
use Rattle.definition.specs.Outcomes.Reading.{form}
use Rattle.basics.specs.Bools.{and_left, and_right, both_true}
use Rattle.plan_laws.specs.Parts.{Spelt, Unique}
use Rattle.plan_laws.specs.Queries.{test_part, query_part, unique_query}
use Rattle.plan_laws.specs.Tests.{unique_tests}

-- the tests of every plan that is short enough are spelled in one way
pub tests_once : Unique test_part max_plan
tests_once = unique_tests max_plan (omega arith)

-- a query form that translates to a plan and a pool is spelled there, whole
pub into_translation : {q : Query} {plan pool : List ℕ} → Translates q plan pool → Spelt query_part max_nesting plan pool 0 q [] []
unfolding is_form plan_of pool_of
into_translation {q} t =
    let h = and_right (starts_at_root q) (query_right q && leb (nesting q) max_nesting) t.is_query in
    record {
      plan = sym t.is_plan ∙ sym (append-nil (code_query q 0));
      pool = sym t.is_pool ∙ sym (append-nil (pool_query q));
      right = and_left (query_right q) (leb (nesting q) max_nesting) h;
      low = leb-true (nesting q) max_nesting (and_right (query_right q) (leb (nesting q) max_nesting) h);
      may = refl;
    }

pub from_translation : {q : Query} {plan pool : List ℕ} → starts_at_root q ≡ true → length plan ≤ max_plan → length pool ≤ max_plan → Spelt query_part max_nesting plan pool 0 q [] [] → Translates q plan pool
unfolding is_form plan_of pool_of
from_translation {q} s a b u = record {
  is_query = both_true s (both_true u.right (le-leb (nesting q) max_nesting u.low));
  is_plan = sym (u.plan ∙ append-nil (code_query q 0));
  is_pool = sym (u.pool ∙ append-nil (pool_query q));
  plan_fits = a;
  pool_fits = b;
}

-- "One plan and one pool translate each", and each plan and pool translate one form only
pub translates_one : {q q' : Query} {plan pool : List ℕ} → Translates q plan pool → Translates q' plan pool → q ≡ q'
translates_one {q} {q'} t u = (unique_query {n = max_plan} (omega arith) tests_once).same q q' (let z = t.plan_fits in omega arith) t.pool_fits (into_translation t) (into_translation u)

-- what a plan and a pool come to
pub spells_one : {plan pool : List ℕ} {x y : Reading} → Spells plan pool x → Spells plan pool y → x ≡ y
spells_one (spelled q t) (spelled q' u) = ap form (translates_one t u)
spells_one (spelled q t) (not_spelled n) = absurd (n q t)
spells_one (not_spelled n) (spelled q u) = absurd (n q u)
spells_one (not_spelled n) (not_spelled n') = refl

-- what plan check answers
pub checks_one : {plan pool : List ℕ} {m n : ℕ} → ChecksPlan plan pool m → ChecksPlan plan pool n → m ≡ n
checks_one a b = a.is ∙ ap refusal_of (spells_one a.reads b.reads) ∙ sym b.is

-- what run answers and leaves in the lent list
pub runs_one : {plan pool T X L : List ℕ} {at : ℕ} {o o' : RunOutcome} → Runs plan pool T X L at o → Runs plan pool T X L at o' → o ≡ o'
runs_one {T = T} {X = X} {L = L} {at = at} a b = a.is ∙ ap (λ r. run_by r T X L at) (spells_one a.reads b.reads) ∙ sym b.is
