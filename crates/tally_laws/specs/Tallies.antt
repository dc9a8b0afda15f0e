-- Taking a plan into the counts: one count for each byte that a kind may be, and the number of plans.
use Rattle.std.specs.Prelude.{ℕ, zero, suc, ◌+◌, ◌≡◌, Bool, true, cond, ◌&&◌, List, [], ◌∷◌, eqb, leb, get_or}
use Rattle.definition.specs.Limits.{max_int}
use Rattle.definition.specs.Outcomes.{ChecksPlan}
use Rattle.tally_laws.specs.Items.{kinds_of, occurrences}

-- how many counts there are
abbrev pub all_kinds : ℕ
all_kinds = 256

-- the list of f at i, i + 1 and so on, n of them
unfoldable pub tabulate_from : ℕ → ℕ → (ℕ → ℕ) → List ℕ
tabulate_from i zero f = []
tabulate_from i (suc n) f = f i ∷ tabulate_from (suc i) n f

-- whether a test holds at every number below n
unfoldable pub every_below : ℕ → (ℕ → Bool) → Bool
every_below zero p = true
every_below (suc n) p = every_below n p && p n

-- a count with the occurrences of its kind in a plan
abbrev pub sum_at : List ℕ → List ℕ → ℕ → ℕ
sum_at plan counts k = get_or counts k 0 + occurrences k (kinds_of plan)

-- the counts with a plan
abbrev pub with_plan : List ℕ → List ℕ → List ℕ
with_plan plan counts = tabulate_from 0 all_kinds (sum_at plan counts)

-- no count passes 2^53-1, nor does the number of plans
abbrev pub fits : List ℕ → List ℕ → ℕ → Bool
fits plan counts plans = leb (plans + 1) max_int && every_below all_kinds (λ k. leb (sum_at plan counts k) max_int)

-- the refusal, 0 for none, and the counts and the number of plans afterwards
pub record TallyOutcome : Type 0 where
  pub refusal : ℕ
  pub counts : List ℕ
  pub plans : ℕ

-- "Refusals: 11; 21, a count would pass 2^53-1, nothing counted."
abbrev pub tally_by : ℕ → List ℕ → List ℕ → ℕ → TallyOutcome
tally_by n plan counts plans =
    cond (eqb n 0)
    (cond (fits plan counts plans)
    (record { refusal = 0; counts = with_plan plan counts; plans = plans + 1 })
    (record { refusal = 21; counts = counts; plans = plans }))
    (record { refusal = n; counts = counts; plans = plans })

-- the outcome of taking a plan and its pool, where plan check answers n
pub record Tallies (plan pool counts : List ℕ) (plans : ℕ) (o : TallyOutcome) : Type 0 where
  pub checked : ℕ
  pub checks : ChecksPlan plan pool checked
  pub is : o ≡ tally_by checked plan counts plans
