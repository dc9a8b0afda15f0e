-- What evaluation keeps, and what is left to do in a loop: laws over any family of forms. Assumes nothing.
use Rattle.std.specs.Prelude.{ℕ, ◌+◌, ◌≤◌, ◌<◌, ◌≡◌, refl, List, length}
use Rattle.std.proofs.Common.{sym, ap, ◌∙◌, subst, arith}
use denote.Ref.{at_last}
use Rattle.std.specs.Borrow.{MutBor}
use Rattle.eval_laws.specs.States.{State, st}
use Rattle.eval_asks.specs.declared.Lent.{Lent}
use Rattle.eval_asks.specs.declared.State.{State as Numbers}
use Rattle.eval_asks.specs.Lent.{root_of, cap_of, at_of, with_at}
use Rattle.eval_asks.specs.Asks.{Asked, Steady, Gives}

-- ---- what is kept

pub steady_refl : (s : Numbers) (l : MutBor (List ℕ)) → Steady s l s l
steady_refl s l = record { root = refl; cap = refl; long = refl; same = refl }

pub steady_then : {s s₁ s₂ : Numbers} {l l₁ l₂ : MutBor (List ℕ)} → Steady s l s₁ l₁ → Steady s₁ l₁ s₂ l₂ → Steady s l s₂ l₂
steady_then {l₂ = l₂} k j =
    record {
      root = j.root ∙ k.root;
      cap = j.cap ∙ k.cap;
      long = j.long ∙ k.long;
      same = j.same ∙ ap (λ (l : MutBor (List ℕ)). at_last l l₂.now) k.same;
    }

-- the next place is written, and nothing else
pub steady_wrote : (s : Numbers) (n : ℕ) (l l' : MutBor (List ℕ)) → length l'.now ≡ length l.now → l' ≡ at_last l l'.now → Steady s l (with_at s n) l'
steady_wrote s n l l' e t =
    record {
      root = refl;
      cap = refl;
      long = e;
      same = t;
    }

-- what was written is what stands there
pub wrote_at : {v : Lent} {s : Numbers} {l : List ℕ} (a : Asked v s l) (n : ℕ) → at_of (with_at s n) ≡ n
wrote_at a n = refl

-- what is asked at entry is asked later
pub asked_later : {v : Lent} {s s' : Numbers} {l l' : MutBor (List ℕ)} → Steady s l s' l' → Asked v s l.now → at_of s' ≤ cap_of s + 1 → Asked v s' l'.now
asked_later k a r =
    let e0 = k.root in
    let e1 = k.cap in
    let e2 = k.long in
    record { given = a.given; root_in = omega (arith, a.root_in); room = omega arith; wide = omega (arith, a.wide); small = omega (arith, a.small) }

-- ---- what is emitted

module _ {I : Type 0} where
  -- from the numbers as they are
  pub gives_of : (F : I → ℕ → State → State) (s : Numbers) (l : List ℕ) (s' : Numbers) (l' : List ℕ) → ((x : I) → st (cap_of s) l' (at_of s') ≡ F x (root_of s) (st (cap_of s) l (at_of s))) → Gives I F s l s' l'
  gives_of F s l s' l' d =
      record { emits = λ x R C e c. subst (λ (R : ℕ). st C l' (at_of s') ≡ F x R (st C l (at_of s))) e (subst (λ (C : ℕ). st C l' (at_of s') ≡ F x (root_of s) (st C l (at_of s))) c (d x)) }

  -- the same with the next place that was written
  pub gives_wrote : {v : Lent} (F : I → ℕ → State → State) (s : Numbers) (l l' : List ℕ) (n : ℕ) → Asked v s l → ((x : I) → st (cap_of s) l' n ≡ F x (root_of s) (st (cap_of s) l (at_of s))) → Gives I F s l (with_at s n) l'
  gives_wrote F s l l' n a d = gives_of F s l (with_at s n) l' d

  -- nothing is emitted, and nothing changes
  pub gives_none : (F : I → ℕ → State → State) (s : Numbers) (l : List ℕ) → ((x : I) (R : ℕ) (σ : State) → σ ≡ F x R σ) → Gives I F s l s l
  gives_none F s l h = record { emits = λ x R C e c. h x R (st C l (at_of s)) }

  -- the same emission by another name, or of other forms
  pub gives_as : {J : Type 0} {F : J → ℕ → State → State} {s : Numbers} {l : List ℕ} {s' : Numbers} {l' : List ℕ} (G : I → ℕ → State → State) → Gives J F s l s' l' → (to : I → J) → ((x : I) (R : ℕ) (σ : State) → F (to x) R σ ≡ G x R σ) → Gives I G s l s' l'
  gives_as G d to h = record { emits = λ x R C e c. d.emits (to x) R C e c ∙ h x R _ }

  -- ---- loops: what is left to do gives the whole

  pub record Going (whole left : I → ℕ → State → State) (s₀ : Numbers) (l₀ : MutBor (List ℕ)) (s : Numbers) (l : MutBor (List ℕ)) : Type 0 where
    pub kept : Steady s₀ l₀ s l
    pub room : at_of s ≤ cap_of s₀ + 1
    pub again : (x : I) (R C : ℕ) → root_of s₀ ≡ R → cap_of s₀ ≡ C → left x R (st C l.now (at_of s)) ≡ whole x R (st C l₀.now (at_of s₀))

  pub going_start : {v : Lent} (F : I → ℕ → State → State) (s : Numbers) (l : MutBor (List ℕ)) → Asked v s l.now → Going F F s l s l
  going_start F s l a = record { kept = steady_refl s l; room = a.room; again = λ x R C e c. refl }

  module _ {whole left : I → ℕ → State → State} {s₀ : Numbers} {l₀ : MutBor (List ℕ)} {s : Numbers} {l : MutBor (List ℕ)} (g : Going whole left s₀ l₀ s l) where
    pub going_asked : {v : Lent} → Asked v s₀ l₀.now → Asked v s l.now
    going_asked a = asked_later g.kept a g.room

    -- a part is emitted, and what is left behind it is what was left
    pub going_on : (left' : I → ℕ → State → State) {s' : Numbers} {l' : MutBor (List ℕ)} → Steady s l s' l' → at_of s' ≤ cap_of s + 1
        → ((x : I) (R C : ℕ) → root_of s ≡ R → cap_of s ≡ C → left' x R (st C l'.now (at_of s')) ≡ left x R (st C l.now (at_of s))) → Going whole left' s₀ l₀ s' l'
    going_on left' k r d =
        let e = g.kept.cap in
        record {
          kept = steady_then g.kept k;
          room = omega arith;
          again = λ x R C a c. d x R C (g.kept.root ∙ a) (g.kept.cap ∙ c) ∙ g.again x R C a c;
        }

    pub going_step : {J : Type 0} {F : J → ℕ → State → State} (left' : I → ℕ → State → State) {s' : Numbers} {l' : MutBor (List ℕ)} → Steady s l s' l' → at_of s' ≤ cap_of s + 1 → Gives J F s l.now s' l'.now → (to : I → J)
        → ((x : I) (R : ℕ) (σ σ' : State) → σ' ≡ F (to x) R σ → left' x R σ' ≡ left x R σ) → Going whole left' s₀ l₀ s' l'
    going_step left' k r d to h = going_on left' k r (λ x R C a c. h x R _ _ (d.emits (to x) R C a c))

    -- nothing is left
    pub going_end : ((x : I) (R : ℕ) (σ : State) → left x R σ ≡ σ) → Gives I whole s₀ l₀.now s l.now
    going_end h = record { emits = λ x R C a c. sym (h x R (st C l.now (at_of s))) ∙ g.again x R C a c }

    -- once the cap is passed nothing changes
    pub going_full : {v : Lent} → Asked v s₀ l₀.now → cap_of s < at_of s
        → ((x : I) (R m : ℕ) (k : List ℕ) (a : ℕ) → m < a → a ≤ m + 1 → length k ≤ m + 1 → left x R (st m k a) ≡ st m k a) → Gives I whole s₀ l₀.now s l.now
    going_full a f h =
        let e1 = g.kept.cap in
        let e2 = g.kept.long in
        record { emits = λ x R C e c. sym (h x R C l.now (at_of s) (omega arith) (omega (arith, g.room)) (omega (arith, a.wide))) ∙ g.again x R C e c }

    -- the last part is emitted
    pub going_last : {J : Type 0} {F : J → ℕ → State → State} {s' : Numbers} {l' : List ℕ} → Gives J F s l.now s' l' → (to : I → J) → ((x : I) (R : ℕ) (σ : State) → F (to x) R σ ≡ left x R σ) → Gives I whole s₀ l₀.now s' l'
    going_last d to h = record { emits = λ x R C a c. d.emits (to x) R C (g.kept.root ∙ a) (g.kept.cap ∙ c) ∙ h x R _ ∙ g.again x R C a c }
