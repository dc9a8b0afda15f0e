-- Two registers as the top of a stack of values: y the value on top, x the one under it. What an operation takes stands in them, and what it gives comes to stand in them.
-- Assumes nothing.
use Rattle.std.specs.Prelude.{ℕ, zero, suc, ◌+◌, ◌≤◌, ◌<◌, ◌≡◌, refl, List, [], ◌∷◌, Bool, length, drop}
use Rattle.std.proofs.Common.{ap, ◌∙◌, arith}
use Rattle.definition.specs.Compare.{Value}
use Rattle.definition.specs.Compare.Value.{nothing}
use Rattle.eval_laws.specs.Operations.{Result, Does, held, takes, result, top, under, result_by}
use Rattle.eval_laws.specs.Operations.Result.{a_value, an_answer}
use Rattle.eval_laws.specs.Operations.Does.{takes_none, takes_one, takes_two}
use Rattle.eval_laws.specs.ComesTo.{registers, Fits}

-- the values of a stack stand in the registers, as many as there are
unfoldable pub Tops : Value → Value → List Value → Type 0
Tops x y [] = Unit {0}
Tops x y (v ∷ []) = v ≡ y
Tops x y (v ∷ w ∷ []) = (v ≡ y) × (w ≡ x)
Tops x y (v ∷ w ∷ u ∷ st) = ⊥

-- what is taken stands in the registers
pub enough : (g : Result) (n : ℕ) (st : List Value) → Fits g n st → n ≤ length st
unfolding Fits
enough (a_value v) n st f = f.0
enough (an_answer b) n st f = omega arith

top_is : (x y : Value) (st : List Value) → Tops x y st → 1 ≤ length st → top st ≡ y
unfolding Tops top
top_is x y [] t l = absurd (omega arith)
top_is x y (v ∷ []) t l = t
top_is x y (v ∷ w ∷ []) t l = t.0
top_is x y (v ∷ w ∷ u ∷ st) t l = absurd t

under_is : (x y : Value) (st : List Value) → Tops x y st → 2 ≤ length st → under st ≡ x
unfolding Tops top under
under_is x y [] t l = absurd (omega arith)
under_is x y (v ∷ []) t l = absurd (omega arith)
under_is x y (v ∷ w ∷ []) t l = t.1
under_is x y (v ∷ w ∷ u ∷ st) t l = absurd t

pub result_is : (d : Does) (a : Bool) (x y : Value) (st : List Value) → Tops x y st → takes d ≤ length st → result_by d (held a st) ≡ result d a x y
unfolding result_by result takes
result_is (takes_none f) a x y st t l = refl
result_is (takes_one f) a x y st t l = ap f (top_is x y st t l)
result_is (takes_two f) a x y st t l = ap (λ (z : Value). f z (top st)) (under_is x y st t l) ∙ ap (f x) (top_is x y st t (omega arith))

-- the register under a value that is given
unfoldable pub lower : Does → Value → Value → Value
lower (takes_none f) x y = y
lower (takes_one f) x y = x
lower (takes_two f) x y = nothing

-- a value that is given, on top of what was not taken
pub tops_by : (d : Does) (x y v : Value) (st : List Value) → Tops x y st → (takes d ≤ length st) × (length st < takes d + registers) → Tops (lower d x y) v (v ∷ drop (takes d) st)
unfolding Tops lower takes
tops_by (takes_none f) x y v [] t l = refl
tops_by (takes_none f) x y v (a ∷ []) t l = (refl, t)
tops_by (takes_none f) x y v (a ∷ b ∷ st) t l = absurd (omega arith)
tops_by (takes_one f) x y v [] t l = absurd (omega arith)
tops_by (takes_one f) x y v (a ∷ []) t l = refl
tops_by (takes_one f) x y v (a ∷ b ∷ []) t l = (refl, t.1)
tops_by (takes_one f) x y v (a ∷ b ∷ c ∷ st) t l = absurd t
tops_by (takes_two f) x y v [] t l = absurd (omega arith)
tops_by (takes_two f) x y v (a ∷ []) t l = absurd (omega arith)
tops_by (takes_two f) x y v (a ∷ b ∷ []) t l = refl
tops_by (takes_two f) x y v (a ∷ b ∷ c ∷ st) t l = absurd t

-- behind an answer nothing is left on the stack
pub tops_none : (x y : Value) (n : ℕ) (st : List Value) → length st ≡ n → Tops x y (drop n st)
unfolding Tops
tops_none x y zero [] l = tt
tops_none x y zero (v ∷ st) l = absurd (omega arith)
tops_none x y (suc n) [] l = absurd (omega arith)
tops_none x y (suc n) (v ∷ st) l = tops_none x y n st (omega arith)
