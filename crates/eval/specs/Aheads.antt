-- The nodes of a range that a shortcut leaves. v is what is lent. Assumes nothing.
use Rattle.std.specs.Prelude.{ℕ, List}
use Rattle.std.proofs.Common.{◌∙◌, arith}
use Rattle.std.specs.Borrow.{MutBor}
use Rattle.eval_asks.specs.declared.Lent.{Lent}
use Rattle.eval_asks.specs.declared.State.{State as Numbers}
use Rattle.eval_asks.specs.Asks.{Steady, AskEach, DoneEach, DoneAhead}

module _ {v : Lent} {i e rest : ℕ} where
  -- those that are left are asked for, and give the whole
  module _ {s : Numbers} {l : List ℕ} {s₁ : Numbers} {l₁ : List ℕ} {j : ℕ} (d : DoneAhead v i e rest s l s₁ l₁ j) where
    pub ahead_each : AskEach v i e rest → AskEach v j e rest
    ahead_each q = record { range = λ h. q.range (omega (arith, d.low)); query = q.query }

    pub ahead_then : {l₀ l₂ : MutBor (List ℕ)} {s₃ : Numbers} {l₃ : List ℕ} → Steady s l₀ s₁ l₂ → DoneEach v j e rest s₁ l₁ s₃ l₃ → DoneEach v i e rest s l s₃ l₃
    ahead_then k g = record { emits = λ x R C r c. g.emits x R C (k.root ∙ r) (k.cap ∙ c) ∙ d.goes x R C r c }
