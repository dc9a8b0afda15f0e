-- What plan check answers: whether a plan and a pool are the translation of a query form, neither of them over 65,535 bytes.
use Rattle.std.specs.Prelude.{ℕ, ◌≡◌, refl, List, Bool, true, false}
use Rattle.definition.specs.Forms.{Query}
use Rattle.definition.specs.Outcomes.{Translates}

-- The two cases of the answer: some form translates to the plan and the pool; or none does.
pub data Accepts (plan pool : List ℕ) : Bool → Type 0 where
  accepted : (q : Query) → Translates q plan pool → Accepts plan pool true
  refused : ((q : Query) → Translates q plan pool → ⊥) → Accepts plan pool false

-- refusal 11, or 0 where the plan is accepted
abbrev pub refusal : Bool → ℕ
refusal true = 0
refusal false = 11

-- every form that translates to the plan and the pool has them accepted
pub accepts_every : {plan pool : List ℕ} {r : Bool} → Accepts plan pool r → (q : Query) → Translates q plan pool → r ≡ true
accepts_every (accepted q' t') q t = refl
accepts_every (refused n) q t = absurd (n q t)

-- and the answer to a plan and a pool is one
pub accepts_one : {plan pool : List ℕ} {r s : Bool} → Accepts plan pool r → Accepts plan pool s → r ≡ s
accepts_one (accepted q t) (accepted q' t') = refl
accepts_one (accepted q t) (refused n) = absurd (n q t)
accepts_one (refused n) (accepted q t) = absurd (n q t)
accepts_one (refused n) (refused n') = refl
