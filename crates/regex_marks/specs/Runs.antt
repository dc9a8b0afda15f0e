-- What a run over a text answers. Assumes nothing: these are definitions.
use Rattle.std.specs.Prelude.{◌≡◌, Bool, ◌&&◌, List, [], ◌∷◌, ◌++◌, ◌⊎◌, ℕ, ◌+◌, ◌≤◌, length, drop, get_or}
use Rattle.std.proofs.Math.Seq.{slice}
use Rattle.definition.specs.Utf8.{encode_all}
use Rattle.regex_definition.specs.Words.{Told}
use Rattle.regex_definition.specs.Regexp.{Regexp, Range, hits, Describes}
use Rattle.regex_code.specs.Flat.{flat, flag, flat_ranges}
use Rattle.regex_marks.specs.Marks.{size, Rest, Good}

-- every mark is 0
pub record Clear (ms : List ℕ) : Type 0 where
  pub at : (i : ℕ) → get_or ms i 0 ≡ 0

-- the marks have read the first characters of the text cs, whose bytes are those of t before i
pub record Reading (x : Regexp) (cs t : List ℕ) (i : ℕ) (ms : List ℕ) (b : Bool) : Type 0 where
  pub done : List ℕ
  pub left : List ℕ
  pub eq : cs ≡ done ++ left
  pub rest : slice i (length t) t ≡ encode_all left
  pub good : Good x 0 ms
  pub told : Told (Describes x done) b
  pub forth : (w : List ℕ) → ((i ≡ 0) × Describes x w) ⊎ Rest x 0 ms w → Describes x (done ++ w)
  pub back : (w : List ℕ) → Describes x (done ++ w) → ((i ≡ 0) × Describes x w) ⊎ Rest x 0 ms w

-- .. for each expression that the code is of and that has room, and each text that the bytes are of
pub record Read (s t : List ℕ) (i : ℕ) (ms : List ℕ) (b : Bool) : Type 0 where
  pub of : (x : Regexp) (cs : List ℕ) → s ≡ flat x [] → t ≡ encode_all cs → size x ≤ length ms → Reading x cs t i ms b

-- the answer: whether the text is described
pub record Ran (s t : List ℕ) (room : ℕ) (b : Bool) : Type 0 where
  pub of : (x : Regexp) (cs : List ℕ) → s ≡ flat x [] → t ≡ encode_all cs → size x ≤ room → Told (Describes x cs) b

-- a text that is described is described with any end
pub record Grows (s : List ℕ) : Type 0 where
  pub of : (x : Regexp) → s ≡ flat x [] → (u v : List ℕ) → Describes x u → Describes x (u ++ v)

-- a number of marks, right if it is within the cap
pub record Weighs (s : List ℕ) (at cap next n : ℕ) : Type 0 where
  pub from : at ≤ next
  pub fits : n ≤ cap + 1
  pub of : (x : Regexp) (r : List ℕ) → drop at s ≡ flat x r → (drop next s ≡ r) × (n ≤ cap → n ≡ size x)

pub record Capped (n cap r : ℕ) : Type 0 where
  pub fits : r ≤ cap + 1
  pub same : r ≤ cap → r ≡ n

-- whether a class is entered and has c
pub record Entered (s : List ℕ) (at : ℕ) (enter : Bool) (c : ℕ) (b : Bool) : Type 0 where
  pub of :
      (comp : Bool) (gs : List Range) (r : List ℕ) → drop (at + 1) s ≡ flag comp ∷ length gs ∷ flat_ranges gs r → b ≡ (enter && hits comp gs c)
