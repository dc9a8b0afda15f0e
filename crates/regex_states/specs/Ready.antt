-- What the two rooms say of the code: every state and every edge in them is right. This is kept from text to text. Assumes nothing: these
-- are definitions.
use Rattle.std.specs.Prelude.{◌≡◌, List, [], ◌∷◌, ℕ, zero, suc, ◌+◌, ◌*◌, ◌≤◌, ◌<◌, eqb, length, get_or}
use Rattle.regex_definition.specs.Regexp.{Regexp}
use Rattle.regex_code.specs.Flat.{flat}
use Rattle.regex_marks.specs.Marks.{size, Rest}
use Rattle.regex_marks.specs.Runs.{Grows}
use Rattle.regex_states.specs.States.{After, StateRight, Leads}

-- n bytes from a place on
abbrev pub cells : List ℕ → ℕ → ℕ → List ℕ
cells l at zero = []
cells l at (suc n) = get_or l at 0 ∷ cells l (at + 1) n

-- the head of the sets: how many marks a state has, and how many rows are in use
abbrev pub width : List ℕ → ℕ
width ss = get_or ss 0 0

abbrev pub count : List ℕ → ℕ
count ss = get_or ss 1 0

-- the marks of state k
abbrev pub marks_of : List ℕ → ℕ → List ℕ
marks_of ss k = cells ss (k * 128) (width ss)

-- where the character c leads from state k; 0 is not known
abbrev pub edge_of : List ℕ → ℕ → ℕ → ℕ
edge_of es k c = get_or es (k * 128 + c) 0

-- where the characters beyond ASCII lead from state k, if they are alike; 0 is not known
abbrev pub other_of : List ℕ → ℕ → ℕ
other_of ss k = get_or ss (k * 128 + 125) 0

-- no state tells two characters beyond ASCII apart
pub record Interchangeable (s : List ℕ) : Type 0 where
  pub of :
      (x : Regexp) → s ≡ flat x [] → (c d : ℕ) → 128 ≤ c → 128 ≤ d → (k : ℕ) (ms w : List ℕ) → After x k ms (c ∷ w)
      → After x k ms (d ∷ w)

-- the states and edges of one expression
pub record Known (x : Regexp) (es ss : List ℕ) : Type 0 where
  pub wide : width ss ≡ size x
  pub start : (w : List ℕ) → Rest x 0 (marks_of ss 1) w → ⊥
  pub state :
      (k : ℕ) → 1 ≤ k → k < count ss
      → StateRight x k (marks_of ss k) (eqb (get_or ss (k * 128 + 127) 0) 1) (eqb (get_or ss (k * 128 + 126) 0) 1)
  pub edge :
      (k c : ℕ) → 1 ≤ k → k < count ss → c < 128 → (edge_of es k c ≡ 0 → ⊥)
      → Leads x c k (marks_of ss k) (edge_of es k c) (marks_of ss (edge_of es k c))
  pub other :
      (k c : ℕ) → 1 ≤ k → k < count ss → 128 ≤ c → (other_of ss k ≡ 0 → ⊥)
      → Leads x c k (marks_of ss k) (other_of ss k) (marks_of ss (other_of ss k))

-- the rows in use are inside the rooms, and right for every expression that the code is of
pub record Tables (s es ss : List ℕ) : Type 0 where
  pub words : length s ≤ 65535
  pub few : width ss ≤ 120
  pub some : 2 ≤ count ss
  pub most : count ss ≤ 255
  pub edges : count ss * 128 ≤ length es
  pub sets : count ss * 128 ≤ length ss
  pub inside : (k c : ℕ) → 1 ≤ k → k < count ss → c < 128 → edge_of es k c < count ss
  pub among : (k : ℕ) → 1 ≤ k → k < count ss → other_of ss k < count ss
  pub grows : get_or ss 2 0 ≡ 1 → Grows s
  pub alike : get_or ss 3 0 ≡ 1 → Interchangeable s
  pub of : (x : Regexp) → s ≡ flat x [] → Known x es ss

-- the rooms are ready for the code; with no marks in the head the expression has no states
pub record Ready (s es ss : List ℕ) : Type 0 where
  pub head : 3 ≤ length ss
  pub tables : (width ss ≡ 0 → ⊥) → Tables s es ss
