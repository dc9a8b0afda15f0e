-- What one pass over the marks answers. Assumes nothing: these are definitions.
use Rattle.std.specs.Prelude.{◌≡◌, Bool, List, ℕ, ◌+◌, ◌≤◌, ◌<◌, ◌^◌, length, drop, get_or}
use Rattle.regex_definition.specs.Words.{upto, any}
use Rattle.regex_definition.specs.Regexp.{Regexp, times, Describes}
use Rattle.regex_code.specs.Flat.{flat}
use Rattle.regex_marks.specs.Marks.{size, Rest, Good}
use Rattle.regex_marks.specs.Turn.{Turn}
use Rattle.regex_marks.specs.declared.passes.Pass.{Pass}

-- what stands outside lo..hi is as it was
pub record Kept (lo hi : ℕ) (ms ms' : List ℕ) : Type 0 where
  pub low : (i : ℕ) → i < lo → get_or ms' i 0 ≡ get_or ms i 0
  pub high : (i : ℕ) → hi ≤ i → get_or ms' i 0 ≡ get_or ms i 0

-- the marks of x, from b on, have read c
pub record Moved (x : Regexp) (b : ℕ) (ms ms' : List ℕ) (enter : Bool) (c n : ℕ) (empty was now : Bool) : Type 0 where
  pub wide : n ≡ size x
  pub turn : Turn (Describes x) (Rest x b ms) (Rest x b ms') enter c empty was now
  pub good : Good x b ms'
  pub kept : Kept b (b + n) ms ms'

-- what a pass asks: a place of the code and one of the marks, and that a place and a number of marks go into one word
pub record Fits (s : List ℕ) (at : ℕ) (ms : List ℕ) (b : ℕ) : Type 0 where
  pub place : at ≤ length s
  pub words : length s < 2 ^ 32
  pub room : b ≤ length ms
  pub few : length ms < 2 ^ 16

-- the answer at a place of the code
pub record Shifted (s : List ℕ) (at : ℕ) (enter : Bool) (c b : ℕ) (ms ms' : List ℕ) (next n : ℕ) (empty was now : Bool) : Type 0 where
  pub from : at ≤ next
  pub to : next ≤ length s
  pub fits : b + n ≤ length ms
  pub long : length ms' ≡ length ms
  pub of :
      (x : Regexp) (r : List ℕ) → drop at s ≡ flat x r → b + size x ≤ length ms → Good x b ms
      → (drop next s ≡ r) × Moved x b ms ms' enter c n empty was now

-- .. of lo to hi copies of what stands there
pub record Copied (s : List ℕ) (at : ℕ) (enter : Bool) (c b lo hi : ℕ) (ms ms' : List ℕ) (next n : ℕ) (empty was now : Bool) : Type 0 where
  pub from : at ≤ next
  pub to : next ≤ length s
  pub fits : b + n ≤ length ms
  pub long : length ms' ≡ length ms
  pub of :
      (x : Regexp) (r : List ℕ) → drop at s ≡ flat x r → b + size (times lo (upto hi) x) ≤ length ms
      → Good (times lo (upto hi) x) b ms → (drop next s ≡ r) × Moved (times lo (upto hi) x) b ms ms' enter c n empty was now

-- .. of lo copies or more
pub record Endless (s : List ℕ) (at : ℕ) (enter : Bool) (c b lo : ℕ) (ms ms' : List ℕ) (next n : ℕ) (empty was now : Bool) : Type 0 where
  pub from : at ≤ next
  pub to : next ≤ length s
  pub fits : b + n ≤ length ms
  pub long : length ms' ≡ length ms
  pub of :
      (x : Regexp) (r : List ℕ) → drop at s ≡ flat x r → b + size (times lo any x) ≤ length ms → Good (times lo any x) b ms
      → (drop next s ≡ r) × Moved (times lo any x) b ms ms' enter c n empty was now

-- the same of a pass
abbrev pub ShiftedBy : List ℕ → ℕ → Bool → ℕ → ℕ → List ℕ → List ℕ → Pass → Type 0
ShiftedBy s at enter c b ms ms' t = Shifted s at enter c b ms ms' t.next t.size t.empty t.was t.now

abbrev pub CopiedBy : List ℕ → ℕ → Bool → ℕ → ℕ → ℕ → ℕ → List ℕ → List ℕ → Pass → Type 0
CopiedBy s at enter c b lo hi ms ms' t = Copied s at enter c b lo hi ms ms' t.next t.size t.empty t.was t.now

abbrev pub EndlessBy : List ℕ → ℕ → Bool → ℕ → ℕ → ℕ → List ℕ → List ℕ → Pass → Type 0
EndlessBy s at enter c b lo ms ms' t = Endless s at enter c b lo ms ms' t.next t.size t.empty t.was t.now
