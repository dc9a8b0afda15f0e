-- What the walk of a part gives, where it gives a form at all, and how this is carried from one part to the next.
use Rattle.std.specs.Prelude.{ℕ, ◌≡◌, refl, Bool, true, false, cond}
use Rattle.definition.specs.Walk.{Walked, fine, also, next}
use Rattle.definition.specs.Walk.Walked.{refused, walked}

-- the walk refuses, or what it comes to is as P says
pub data Gives {A : Type 0} (P : A → Type 0) : Walked A → Type 0 where
  nothing : {n : ℕ} → Gives P (refused n)
  gives : {b : Bool} {x : A} → P x → Gives P (walked b x)

module _ {A : Type 0} {P : A → Type 0} where
  -- a report besides changes nothing
  also_gives : (b : Bool) {m : Walked A} → Gives P m → Gives P (also b m)
  unfolding also
  also_gives b nothing = nothing
  also_gives b (gives h) = gives h

  -- less may be known
  pub weaken : {Q : A → Type 0} {m : Walked A} → Gives P m → ((x : A) → P x → Q x) → Gives Q m
  weaken nothing k = nothing
  weaken (gives {x = x} h) k = gives (k x h)

  -- a test that passes x or refuses
  pub tested : (t : Bool) (x : A) (n : ℕ) → (t ≡ true → P x) → Gives P (cond t (fine x) (refused n))
  tested true x n k = gives (k refl)
  tested false x n k = nothing

module _ {A B : Type 0} {P : A → Type 0} {Q : B → Type 0} where
  -- one part after another
  pub then : {m : Walked A} {k : A → Walked B} → Gives P m → ((x : A) → P x → Gives Q (k x)) → Gives Q (next m k)
  unfolding next
  then nothing go = nothing
  then (gives {b = b} {x = x} h) go = also_gives b (go x h)
