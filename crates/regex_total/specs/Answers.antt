-- What the functions answer, each for every expression whose code stands at its place, and every text that the bytes from..to are of.
-- Assumes nothing.
use Rattle.std.specs.Prelude.{◌≡◌, Bool, true, List, ◌∷◌, ℕ, ◌+◌, ◌*◌, ◌^◌, ◌≤◌, ◌<◌, ◌⊎◌, length, drop}
use Rattle.definition.specs.Utf8.{encode, encode_all}
use Rattle.regex_definition.specs.Words.{Join, Times, upto, Told}
use Rattle.regex_definition.specs.Regexp.{Regexp, Range, hits, Describes}
use Rattle.regex_code.specs.Flat.{flat, flag, flat_ranges}
use Rattle.regex_total.specs.declared.Width.{Width}
use Rattle.regex_chars.specs.Laws.{Spells}

pub record Inside (t : List ℕ) (from to : ℕ) : Type 0 where
  pub order : from ≤ to
  pub end : to ≤ length t

-- the text of from..to is described by what stands at `at`
pub record Matched (s : List ℕ) (at : ℕ) (t : List ℕ) (from to : ℕ) (b : Bool) : Type 0 where
  pub of : (x : Regexp) (r w : List ℕ) → drop at s ≡ flat x r → Spells t from to w → Told (Describes x w) b

-- .. by it lo to hi times
pub record Repeated (s : List ℕ) (at lo hi : ℕ) (t : List ℕ) (from to : ℕ) (b : Bool) : Type 0 where
  pub of : (x : Regexp) (r w : List ℕ) → drop at s ≡ flat x r → Spells t from to w → Told (Times lo (upto hi) (Describes x) w) b

-- from..mid by what stands at one place, l to h times, and mid..to by another
pub record Paired (s : List ℕ) (a l h a' l' h' : ℕ) (t : List ℕ) (from mid to : ℕ) (b : Bool) : Type 0 where
  pub of :
      (x y : Regexp) (r r' u v : List ℕ) → drop a s ≡ flat x r → drop a' s ≡ flat y r' → Spells t from mid u → Spells t mid to v
      → Told (Times l (upto h) (Describes x) u × Times l' (upto h') (Describes y) v) b

-- from..to by both in a row
pub record Joined (s : List ℕ) (a l h a' l' h' : ℕ) (t : List ℕ) (from to : ℕ) (b : Bool) : Type 0 where
  pub of :
      (x y : Regexp) (r r' w : List ℕ) → drop a s ≡ flat x r → drop a' s ≡ flat y r' → Spells t from to w
      → Told (Join (Times l (upto h) (Describes x)) (Times l' (upto h') (Describes y)) w) b

-- what two counts in a row ask: each is at least once allowed
pub record Some (h h' : ℕ) : Type 0 where
  pub some : 1 ≤ h
  pub some' : 1 ≤ h'

-- of lo to hi words, n are as many as a text of d bytes needs
pub record Enough (lo hi d n : ℕ) : Type 0 where
  pub low : lo ≤ n
  pub within : n ≤ hi
  pub some : 1 ≤ hi → 1 ≤ d → 1 ≤ n
  pub all : (hi ≤ n) ⊎ (lo + d ≤ n)

-- how many bytes a text has
abbrev pub bytes : List ℕ → ℕ
bytes w = length (encode_all w)

-- the bytes of the words of what stands at `at`: none has fewer than lo, and, if hi is a bound at all, none more than hi
pub record Widths (s : List ℕ) (at next lo hi : ℕ) : Type 0 where
  pub from : at ≤ next
  pub lo_fits : lo ≤ 2 ^ 31
  pub hi_fits : hi ≤ 2 ^ 31
  pub of :
      (x : Regexp) (r : List ℕ) → drop at s ≡ flat x r
      → (drop next s ≡ r) × ((w : List ℕ) → Describes x w → lo ≤ bytes w) × ((w : List ℕ) → Describes x w → hi < 2 ^ 31 → bytes w ≤ hi)

pub record Capped (n r : ℕ) : Type 0 where
  pub fits : r ≤ 2 ^ 31
  pub low : r ≤ n
  pub same : r < 2 ^ 31 → r ≡ n

-- n bytes are too few, or too many
pub data Apart (n lo hi least most : ℕ) : Type 0 where
  few : n < lo * least → Apart n lo hi least most
  many : most < 2 ^ 31 → hi * most < n → Apart n lo hi least most

-- no character of the class at `at` has more than n bytes
pub record Reaches (s : List ℕ) (at n : ℕ) : Type 0 where
  pub fits : n ≤ 4
  pub of :
      (comp : Bool) (gs : List Range) (r : List ℕ) → drop (at + 1) s ≡ flag comp ∷ length gs ∷ flat_ranges gs r → (c : ℕ)
      → hits comp gs c ≡ true → length (encode c) ≤ n

-- of nothing
abbrev pub no_width : ℕ → Width
no_width at = record { next = at; least = 0; most = 0 }
