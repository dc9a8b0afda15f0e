-- The two sides of a reader's answer, for a rule with the trees T, their spelling sp, and what is to be known of a tree, me.
-- May says which texts may follow a tree of the rule: it rules out, say, a digit behind a number.
use Rattle.std.specs.Prelude.{◌≡◌, List, [], ◌∷◌, Bool, false, ℕ}
use Rattle.std.proofs.lemmas.List.Edits.{sets}

-- s is the spelling of t with r behind it, and of no tree of another meaning, or with another rest, that may stand there
pub record Reads {T M : Type 0} (sp : T → List ℕ → List ℕ) (me : T → M) (May : List ℕ → Type 0) (s : List ℕ) (t : T) (r : List ℕ) : Type 0 where
  pub eq : s ≡ sp t r
  pub only : (t' : T) (r' : List ℕ) → May r' → s ≡ sp t' r' → (me t' ≡ me t) × (r' ≡ r)

-- s begins with no tree of the rule that may stand there
pub record ReadsNone {T : Type 0} (sp : T → List ℕ → List ℕ) (May : List ℕ → Type 0) (s : List ℕ) : Type 0 where
  pub none : (t' : T) (r' : List ℕ) → May r' → s ≡ sp t' r' → ⊥

-- q is p with the bytes c stored from the place n on
pub record Wrote (p : List ℕ) (n : ℕ) (c : List ℕ) (q : List ℕ) : Type 0 where
  pub is : q ≡ sets p n c

-- the text begins with no byte that passes a test
unfoldable pub StartsNot : (ℕ → Bool) → List ℕ → Type 0
StartsNot p [] = Unit {0}
StartsNot p (c ∷ s) = p c ≡ false
