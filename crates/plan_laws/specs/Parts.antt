-- The parts of a plan: for each kind of part of a query form its code, its pool, which forms are right, how deep they nest, and what may follow the code.
-- Then the laws that hold of every kind of part.
use Rattle.std.specs.Prelude.{ℕ, suc, ◌+◌, ◌≤◌, ◌<◌, ◌≡◌, refl, List, ◌∷◌, ◌++◌, Bool, true, length}
use Rattle.std.proofs.Common.{arith, sym, ap, ◌∙◌, length-append}
use Rattle.std.proofs.lemmas.List.{append_cancel_left}
use Rattle.definition.specs.Limits.{max_plan}
use Rattle.basics.specs.Lists.{same_tail}

-- A kind of part. `sort` is a number that tells apart what a reader has to know of the part behind it.
pub record Part (X : Type 0) : Type 0 where
  pub code : X → ℕ → List ℕ
  pub pool : X → List ℕ
  pub right : X → Bool
  pub nest : X → ℕ
  pub sort : X → ℕ
  pub may : List ℕ → Bool

-- The plan s begins with the code of x, with r behind it, and the pool l, which stands at the place p, with the texts of x, with m behind them.
-- x is right and stands in at most `room` further filters, functions, nots and right operands.
pub record Spelt {X : Type 0} (F : Part X) (room : ℕ) (s l : List ℕ) (p : ℕ) (x : X) (r m : List ℕ) : Type 0 where
  pub plan : s ≡ F.code x p ++ r
  pub pool : l ≡ F.pool x ++ m
  pub right : F.right x ≡ true
  pub low : F.nest x ≤ room
  pub may : F.may r ≡ true

-- one part at most is spelled at a place of a plan with fewer than n bytes
pub record Unique {X : Type 0} (F : Part X) (n : ℕ) : Type 0 where
  pub same : {room room' p : ℕ} {s l r r' m m' : List ℕ} (x x' : X) → length s < n → length l ≤ max_plan → Spelt F room s l p x r m → Spelt F room' s l p x' r' m' → x ≡ x'

module _ {X : Type 0} {F : Part X} {room p : ℕ} {s l r m : List ℕ} {x : X} (u : Spelt F room s l p x r m) where
  -- what is left of the plan is no longer than the plan
  pub plan_left : length s ≡ length (F.code x p) + length r
  plan_left = ap length u.plan ∙ length-append (F.code x p) r

  pub pool_left : length l ≡ length (F.pool x) + length m
  pool_left = ap length u.pool ∙ length-append (F.pool x) m

  -- what is left behind one part is left behind an equal part
  pub plan_rest : {room' : ℕ} {x' : X} {r' m' : List ℕ} → Spelt F room' s l p x' r' m' → x ≡ x' → r ≡ r'
  plan_rest {x' = x'} {r' = r'} v e = append_cancel_left (F.code x p) r r' (sym u.plan ∙ v.plan ∙ ap (λ y. F.code y p ++ r') (sym e))

  pub pool_rest : {room' : ℕ} {x' : X} {r' m' : List ℕ} → Spelt F room' s l p x' r' m' → x ≡ x' → m ≡ m'
  pool_rest {x' = x'} {m' = m'} v e = append_cancel_left (F.pool x) m m' (sym u.pool ∙ v.pool ∙ ap (λ y. F.pool y ++ m') (sym e))

  -- a part stands as well where the same plan and pool stand
  pub move : {s' l' : List ℕ} {p' : ℕ} → s ≡ s' → l ≡ l' → p ≡ p' → Spelt F room s' l' p' x r m
  move {p' = p'} a b c = record { plan = sym a ∙ u.plan ∙ ap (λ q. F.code x q ++ r) c; pool = sym b ∙ u.pool; right = u.right; low = u.low; may = u.may }

-- behind equal parts, one part at most is spelled
pub next_same : {X Y : Type 0} {F : Part X} {G : Part Y} {n : ℕ} → Unique G n → {room room' room₁ room₁' p : ℕ} {s l r r' m m' r₁ r₁' m₁ m₁' : List ℕ} {x x' : X} {y y' : Y} → length s < n → length l ≤ max_plan →
    x ≡ x' → Spelt F room s l p x r m → Spelt F room' s l p x' r' m' →
    Spelt G room₁ r m (p + length (F.pool x)) y r₁ m₁ → Spelt G room₁' r' m' (p + length (F.pool x')) y' r₁' m₁' → y ≡ y'
next_same {F = F} g {p = p} {y = y} {y' = y'} a b e u v f h =
    g.same y y' (let z = plan_left u in omega arith) (let z = pool_left u in omega arith) f
    (move h (sym (plan_rest u v e)) (sym (pool_rest u v e)) (ap (λ z. p + length (F.pool z)) (sym e)))

-- behind one byte of kind, one part at most is spelled
pub kind_same : {X : Type 0} {F : Part X} {n : ℕ} → Unique F n → {k k' room room' p : ℕ} {s s₁ s₁' l r r' m m' : List ℕ} {x x' : X} → length s < suc n → length l ≤ max_plan →
    s ≡ k ∷ s₁ → s ≡ k' ∷ s₁' → Spelt F room s₁ l p x r m → Spelt F room' s₁' l p x' r' m' → x ≡ x'
kind_same g {s = s} {s₁ = s₁} {x = x} {x' = x'} a b e f u v =
    let z : length s ≡ suc (length s₁) = ap length e in
    g.same x x' (omega arith) b u (move v (same_tail f e) refl refl)
