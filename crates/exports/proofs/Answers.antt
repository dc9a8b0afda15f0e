-- What an operation answered, as the exported function hands it out. Assumes nothing.
use Prim.Native.Nat.{ℕ}
use native.Mathlib.Omega.{arith}
use mathlib.Core.Path.{◌≡◌, refl, sym, ap, ap₂, ◌∙◌, subst}
use mathlib.Core.List.{List, []}
use mathlib.Core.Bool.{Bool, true, false, cond}
use borrow.Author.Tests.{ne_eqb}
use Rattle.definition.specs.Bytes.{part}
use Rattle.definition.specs.Tables.{Checked}
use Rattle.definition.specs.Tables.Checked.{accepted, sized, wrong_at, text_at}
use Rattle.definition.specs.TableOutcomes.{TableOutcome, PartOutcome, part_by, found_part, refused_part}
use Rattle.definition.specs.Outcomes.{RunOutcome}
use Rattle.promises_stated.specs.Promises.{Settled, ChecksPlanOnly}
use Rattle.plan_check.specs.Checks.{refusal}
use Rattle.table.specs.Outcomes.{answered}
use Rattle.exports.specs.Outcomes.{told, ran_to, Placed}

-- ---- parts of the text

-- the number that comes with a part
number_of : {s : List ℕ} {k : ℕ} {o : PartOutcome} → answered s k ≡ o → k ≡ o.number
number_of e = ap (λ (o : PartOutcome). o.number) e

module _ (t s : List ℕ) (k : ℕ) where
  -- with 0 there is such a text, and it is the part
  found_part_lem : (c : Checked) (b : Bool) → answered s k ≡ part_by c b t → k ≡ 0 → (b ≡ true) × (answered t 0 ≡ part_by c b t)
  unfolding part_by found_part refused_part
  found_part_lem accepted true e h = (refl, refl)
  found_part_lem accepted false e h = let m = number_of e in absurd (omega (arith, m, h))
  found_part_lem sized b e h = let m = number_of e in absurd (omega (arith, m, h))
  found_part_lem (wrong_at i) b e h = let m = number_of e in absurd (omega (arith, m, h))
  found_part_lem (text_at i) b e h = let m = number_of e in absurd (omega (arith, m, h))

  pub has_part : (c : Checked) (b : Bool) → answered s k ≡ part_by c b t → k ≡ 0 → b ≡ true
  has_part c b e h = (found_part_lem c b e h).0

  -- with any other number the part is empty
  refused_part_lem : (c : Checked) (b : Bool) → answered s k ≡ part_by c b t → (k ≡ 0 → ⊥) → answered [] k ≡ part_by c b t
  unfolding part_by found_part refused_part
  refused_part_lem accepted true e h = absurd (h (number_of e))
  refused_part_lem accepted false e h = ap (answered []) (number_of e)
  refused_part_lem sized b e h = ap (answered []) (number_of e)
  refused_part_lem (wrong_at i) b e h = ap (answered []) (number_of e)
  refused_part_lem (text_at i) b e h = ap (answered []) (number_of e)

module _ (c : Checked) (b : Bool) (X s : List ℕ) (at n k : ℕ) (e : answered s k ≡ part_by c b (part X at n)) where
  -- the start and the length that the record names are handed out
  pub hands_part : {x y : ℕ} → k ≡ 0 → x ≡ at → y ≡ n → (answered (part X x y) 0 ≡ part_by c b (part X at n)) × Placed 0 at n x y
  hands_part h f g = (ap₂ (λ (i j : ℕ). answered (part X i j) 0) f g ∙ (found_part_lem (part X at n) s k c b e h).1, record { starts = f; long = g })

  -- a refusal hands out 0 and 0
  pub hands_none : (k ≡ 0 → ⊥) → (answered [] k ≡ part_by c b (part X at n)) × Placed k at n 0 0
  hands_none h =
      let f = ne_eqb k 0 h in
      (refused_part_lem (part X at n) s k c b e h, record { starts = sym (ap (λ (x : Bool). cond x at 0) f); long = sym (ap (λ (x : Bool). cond x n 0) f) })

-- ---- plan check

pub checks_as : {plan pool : List ℕ} {b b' : Bool} → ChecksPlanOnly plan pool (refusal b) → b ≡ b' → ChecksPlanOnly plan pool (refusal b')
checks_as {plan} {pool} a e = subst (λ (x : Bool). ChecksPlanOnly plan pool (refusal x)) e a

-- ---- the numbers of an answer

-- the one outcome, by another name
pub settled_as : {A : Type 0} {F : A → Type 0} {o o' : A} → Settled F o → o' ≡ o → Settled F o'
settled_as {F = F} a e = subst (Settled F) (sym e) a

-- numbers that are handed out as they were told
pub check_handed : {n m i j : ℕ} {o : TableOutcome} → n ≡ m → i ≡ j → told m j ≡ o → told n i ≡ o
check_handed e f h = ap₂ told e f ∙ h

pub run_handed : {n m k l i j : ℕ} {L : List ℕ} {o : RunOutcome} → n ≡ m → k ≡ l → i ≡ j → ran_to m l j L ≡ o → ran_to n k i L ≡ o
run_handed {m = m} {k = k} {i = i} {L = L} e f g h = ap (λ (x : ℕ). ran_to x k i L) e ∙ ap₂ (λ (x y : ℕ). ran_to m x y L) f g ∙ h
