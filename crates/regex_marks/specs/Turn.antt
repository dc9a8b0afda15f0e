-- One character read, for any sets of words: P the words of a part, A the ends of words that its marks await before the
-- character, A' after it. Assumes nothing.
use Rattle.std.specs.Prelude.{◌≡◌, Bool, true, List, [], ◌∷◌, ◌⊎◌, ℕ}
use Rattle.regex_definition.specs.Words.{Told}

pub record Turn (P A A' : List ℕ → Type 0) (enter : Bool) (c : ℕ) (empty was now : Bool) : Type 0 where
  pub on_empty : Told (P []) empty
  pub on_was : Told (A []) was
  pub on_now : Told (A' []) now
  pub forth : (w : List ℕ) → ((enter ≡ true) × P (c ∷ w)) ⊎ A (c ∷ w) → A' w
  pub back : (w : List ℕ) → A' w → ((enter ≡ true) × P (c ∷ w)) ⊎ A (c ∷ w)
