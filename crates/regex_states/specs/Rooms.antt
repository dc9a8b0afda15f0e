-- What the functions on rows say of the rooms. Assumes nothing: these are definitions.
use Rattle.std.specs.Prelude.{◌≡◌, Bool, true, List, ℕ, ◌+◌, ◌*◌, ◌≤◌, ◌<◌, eqb, length, get_or, set, []}
use Rattle.regex_definition.specs.Words.{Told}
use Rattle.regex_definition.specs.Regexp.{Regexp, Describes}
use Rattle.regex_code.specs.Flat.{flat}
use Rattle.regex_marks.specs.Marks.{size}
use Rattle.regex_marks.specs.Runs.{Clear, Ran}
use Rattle.regex_states.specs.Ready.{cells, width, count, other_of, Tables}

-- r is a state with these marks, not the start, if it is not 0
pub record Found (ss ms : List ℕ) (n r : ℕ) : Type 0 where
  pub is : (r ≡ 0 → ⊥) → (2 ≤ r) × (r < n) × (cells ss (r * 128) (length ms) ≡ ms)

-- the marks stand in row k, and the rows before it are as they were
pub record Put (ss : List ℕ) (k : ℕ) (ms ss' : List ℕ) : Type 0 where
  pub long : length ss' ≡ length ss
  pub marks : (i : ℕ) → i < length ms → get_or ss' (k * 128 + i) 0 ≡ get_or ms i 0
  pub low : (i : ℕ) → i < k * 128 → get_or ss' i 0 ≡ get_or ss i 0

-- row k is 0, and the rows before it are as they were
pub record Blank (es : List ℕ) (k : ℕ) (es' : List ℕ) : Type 0 where
  pub long : length es' ≡ length es
  pub none : (i : ℕ) → i < 128 → get_or es' (k * 128 + i) 0 ≡ 0
  pub low : (i : ℕ) → i < k * 128 → get_or es' i 0 ≡ get_or es i 0

-- why a state is settled: any end may follow what is described, or no mark is set
pub record Settling (ms : List ℕ) (b opens end : Bool) : Type 0 where
  pub grows : end ≡ true → b ≡ true → opens ≡ true
  pub dies : end ≡ true → (b ≡ true → ⊥) → Clear ms

-- a row more is in both rooms, and its number is a byte
pub record Room (n es ss : ℕ) : Type 0 where
  pub byte : n < 255
  pub edges : n * 128 + 128 ≤ es
  pub sets : n * 128 + 128 ≤ ss

-- a state more, with the number r
pub record Added (es ss ms : List ℕ) (b : Bool) (es' ss' : List ℕ) (r : ℕ) : Type 0 where
  pub is : r ≡ count ss
  pub room : Room r (length es) (length ss)
  pub counted : count ss' ≡ r + 1
  pub long : (length es' ≡ length es) × (length ss' ≡ length ss)
  pub marks : (i : ℕ) → i < length ms → get_or ss' (r * 128 + i) 0 ≡ get_or ms i 0
  pub low : (i : ℕ) → i < r * 128 → (i ≡ 1 → ⊥) → get_or ss' i 0 ≡ get_or ss i 0
  pub told : eqb (get_or ss' (r * 128 + 127) 0) 1 ≡ b
  pub other : other_of ss' r ≡ 0
  pub settled : Settling ms b (eqb (get_or ss 2 0) 1) (eqb (get_or ss' (r * 128 + 126) 0) 1)
  pub none : (i : ℕ) → i < 128 → get_or es' (r * 128 + i) 0 ≡ 0
  pub edges : (i : ℕ) → i < r * 128 → get_or es' i 0 ≡ get_or es i 0

-- the state of the marks: there is no room, or it was known, or it is a state more
pub data Placed (es ss ms : List ℕ) (b : Bool) (es' ss' : List ℕ) (r : ℕ) : Type 0 where
  full : r ≡ 0 → es' ≡ es → ss' ≡ ss → Placed es ss ms b es' ss' r
  known : es' ≡ es → ss' ≡ ss → (r ≡ 0 → ⊥) → Found ss ms (count ss) r → Placed es ss ms b es' ss' r
  fresh : Added es ss ms b es' ss' r → Placed es ss ms b es' ss' r

-- the edge from k over c to t is written, or nothing
pub data Noted (es : List ℕ) (k c t : ℕ) (es' : List ℕ) : Type 0 where
  unnoted : es' ≡ es → Noted es k c t es'
  edge : (t ≡ 0 → ⊥) → c < 128 → es' ≡ set es (k * 128 + c) t → Noted es k c t es'

-- the answer of a trace, and what it keeps
pub record Traced (s t ss es' ss' : List ℕ) (b : Bool) : Type 0 where
  pub ran : Ran s t (width ss) b
  pub tables : Tables s es' ss'

-- an expression that has states, by its number of marks
pub record Suits (s : List ℕ) (n : ℕ) : Type 0 where
  pub some : 1 ≤ n
  pub few : n ≤ 120
  pub words : length s ≤ 65535

pub record Weighed (s : List ℕ) (n : ℕ) : Type 0 where
  pub of : (x : Regexp) → s ≡ flat x [] → n ≡ size x

-- what the expression with n marks says of the empty text
pub record Empties (s : List ℕ) (n : ℕ) (b : Bool) : Type 0 where
  pub of : (x : Regexp) → s ≡ flat x [] → n ≡ size x → Told (Describes x []) b

-- what a state tells is written in its row
pub record Sealed (ss : List ℕ) (k : ℕ) (b end : Bool) (ss' : List ℕ) : Type 0 where
  pub long : length ss' ≡ length ss
  pub told : eqb (get_or ss' (k * 128 + 127) 0) 1 ≡ b
  pub settled : eqb (get_or ss' (k * 128 + 126) 0) 1 ≡ end
  pub other : other_of ss' k ≡ 0
  pub same : (i : ℕ) → (i ≡ k * 128 + 127 → ⊥) → (i ≡ k * 128 + 126 → ⊥) → (i ≡ k * 128 + 125 → ⊥) → get_or ss' i 0 ≡ get_or ss i 0

-- the head is written
pub record Headed (ss : List ℕ) (n : ℕ) (opens alike : Bool) (ss' : List ℕ) : Type 0 where
  pub long : length ss' ≡ length ss
  pub wide : width ss' ≡ n
  pub rows : count ss' ≡ 2
  pub open_ended : eqb (get_or ss' 2 0) 1 ≡ opens
  pub all_alike : eqb (get_or ss' 3 0) 1 ≡ alike
  pub same : (i : ℕ) → 4 ≤ i → get_or ss' i 0 ≡ get_or ss i 0

-- the state behind characters beyond ASCII is written, or nothing
pub data Beyond (ss : List ℕ) (k c t : ℕ) (ss' : List ℕ) : Type 0 where
  nothing : ss' ≡ ss → Beyond ss k c t ss'
  other : (t ≡ 0 → ⊥) → 128 ≤ c → get_or ss 3 0 ≡ 1 → ss' ≡ set ss (k * 128 + 125) t → Beyond ss k c t ss'

-- every word is below 128
pub record AllLow (s : List ℕ) : Type 0 where
  pub at : (i : ℕ) → i < length s → get_or s i 0 < 128
