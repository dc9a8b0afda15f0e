-- What the functions ask and give that find where items end. Each answer holds for every form whose code stands there. Assumes nothing: these are definitions.
use Rattle.std.specs.Prelude.{ℕ, ◌+◌, ◌≤◌, ◌≡◌, List, length}
use Rattle.definition.specs.Limits.{max_plan}
use Rattle.definition.specs.Forms.{Literal, Segments, Selectors, Selector, many_selectors}
use Rattle.definition.specs.Plans.{code_segments, code_selectors, code_selector, code_literal}
use Rattle.eval_laws.specs.Bytes.{Holds}

pub record AskNext (P : List ℕ) (p : ℕ) : Type 0 where
  pub few : length P ≤ max_plan
  pub s : Selector
  pub k : ℕ
  pub holds : Holds P p (code_selector s k)

abbrev pub DoneNext : List ℕ → ℕ → ℕ → Type 0
DoneNext P p r = (s : Selector) (k : ℕ) → Holds P p (code_selector s k) → r ≡ p + length (code_selector s k)

pub record AskSkip (P : List ℕ) (p n : ℕ) : Type 0 where
  pub few : length P ≤ max_plan
  pub ss : Selectors
  pub k : ℕ
  pub holds : Holds P p (code_selectors ss k)
  pub number : many_selectors ss ≡ n

abbrev pub DoneSkip : List ℕ → ℕ → ℕ → ℕ → Type 0
DoneSkip P p n r = (ss : Selectors) (k : ℕ) → Holds P p (code_selectors ss k) → many_selectors ss ≡ n → r ≡ p + length (code_selectors ss k)

pub record AskPast (P : List ℕ) (p : ℕ) : Type 0 where
  pub few : length P ≤ max_plan
  pub f : Segments
  pub k : ℕ
  pub holds : Holds P p (code_segments f k)

abbrev pub DonePast : List ℕ → ℕ → ℕ → Type 0
DonePast P p r = (f : Segments) (k : ℕ) → Holds P p (code_segments f k) → r ≡ p + length (code_segments f k)

pub record AskLiteral (P : List ℕ) (q : ℕ) : Type 0 where
  pub l : Literal
  pub k : ℕ
  pub holds : Holds P q (code_literal l k)

abbrev pub DoneLiteral : List ℕ → ℕ → ℕ → Type 0
DoneLiteral P q r = (l : Literal) (k : ℕ) → Holds P q (code_literal l k) → r ≡ q + length (code_literal l k)
