-- What the contracts of the counting functions say. Assumes nothing: these are definitions.
use Rattle.std.specs.Prelude.{ℕ, ◌+◌, ◌<◌, ◌≡◌, Bool, List, leb, length, get_or}
use Rattle.definition.specs.Limits.{max_int}
use Rattle.tally_laws.specs.Items.{occurrences}
use Rattle.tally_laws.specs.Tallies.{TallyOutcome, every_below}

-- R holds the occurrences of every kind among the items l
pub record CountsOf (l R : List ℕ) : Type 0 where
  pub room : length R ≡ 256
  pub each : (k : ℕ) → k < 256 → get_or R k 0 ≡ occurrences k l

-- whether no sum passes 2^53-1
abbrev pub Fits : List ℕ → List ℕ → Bool → Type 0
Fits M C r = r ≡ every_below 256 (λ k. leb (get_or C k 0 + get_or M k 0) max_int)

-- R holds the sum of both for every kind
pub record Sums (M C R : List ℕ) : Type 0 where
  pub room : length R ≡ 256
  pub each : (k : ℕ) → k < 256 → get_or R k 0 ≡ get_or C k 0 + get_or M k 0

-- the outcome that an answer and what the lent places hold afterwards are
abbrev pub tallied : ℕ → List ℕ → ℕ → TallyOutcome
tallied n C m = record { refusal = n; counts = C; plans = m }
