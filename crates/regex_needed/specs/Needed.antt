-- What is written in place of an expression for texts of at most n bytes. Assumes nothing: these are definitions.
use Rattle.std.specs.Prelude.{◌≡◌, List, [], ◌∷◌, ◌++◌, ℕ, ◌+◌, ◌*◌, ◌^◌, ◌≤◌, length, drop}
use Rattle.basics.specs.Reads.{Wrote}
use Rattle.regex_definition.specs.Words.{Times, upto}
use Rattle.regex_definition.specs.Regexp.{Regexp, Describes}
use Rattle.regex_code.specs.Flat.{flat}
use Rattle.regex_total.specs.Answers.{bytes}

-- two sets have the same texts of at most n bytes
pub record Alike (n : ℕ) (P Q : List ℕ → Type 0) : Type 0 where
  pub forth : (w : List ℕ) → bytes w ≤ n → P w → Q w
  pub back : (w : List ℕ) → bytes w ≤ n → Q w → P w

-- from a place of the room to another; the one behind its end says that there was no room
pub record Goes (q : List ℕ) (to : ℕ) (q' : List ℕ) (end : ℕ) : Type 0 where
  pub long : length q' ≡ length q
  pub from : to ≤ end
  pub most : end ≤ length q + 1

-- the words c are written from a place on, if there is room for them
pub record WroteInRoom (q : List ℕ) (to : ℕ) (c : List ℕ) (q' : List ℕ) (end : ℕ) : Type 0 where
  pub goes : Goes q to q' end
  pub is : end ≤ length q → (end ≡ to + length c) × Wrote q to c q'

-- an expression is written that describes the short texts of P
pub record Instead (n : ℕ) (P : List ℕ → Type 0) (q : List ℕ) (to : ℕ) (q' : List ℕ) (end : ℕ) : Type 0 where
  pub expr : Regexp
  pub written : WroteInRoom q to (flat expr []) q' end
  pub alike : Alike n P (Describes expr)

-- the texts of a part itself, and of a part from lo to hi times
abbrev pub once : (List ℕ → Type 0) → List ℕ → Type 0
once P = P

abbrev pub repeated : ℕ → ℕ → (List ℕ → Type 0) → List ℕ → Type 0
repeated lo hi P = Times lo (upto hi) P

-- .. for the expression whose code stands at `at`; F says which texts are meant by its own
pub record Lessened (s : List ℕ) (at : ℕ) (F : (List ℕ → Type 0) → List ℕ → Type 0) (n : ℕ) (q : List ℕ) (to : ℕ) (q' : List ℕ) (next end : ℕ) : Type 0 where
  pub from : at ≤ next
  pub goes : Goes q to q' end
  pub of : (x : Regexp) (r : List ℕ) → drop at s ≡ flat x r → (drop next s ≡ r) × Instead n (F (Describes x)) q to q' end

-- what the functions ask: a text that is not too long, and a place of the room
pub record Asks (t q : List ℕ) (to : ℕ) : Type 0 where
  pub short : length t ≤ 2 ^ 31
  pub place : to ≤ length q + 1

-- behind the part at `at` stands the empty expression
pub record Closes (s : List ℕ) (at : ℕ) : Type 0 where
  pub rest : List ℕ
  pub of : (x : Regexp) (r : List ℕ) → drop at s ≡ flat x r → r ≡ 0 ∷ rest

-- no text of at most n bytes is described by what stands at `at`
pub record Misses (s : List ℕ) (at n : ℕ) : Type 0 where
  pub of : (x : Regexp) (r : List ℕ) → drop at s ≡ flat x r → (w : List ℕ) → bytes w ≤ n → Describes x w → ⊥

-- l for the lower end lo: 0 if the part at `at` describes the empty text
pub data Needed (s : List ℕ) (at lo hi : ℕ) : ℕ → Type 0 where
  all : Needed s at lo hi lo
  none : lo ≤ hi → ((x : Regexp) (r : List ℕ) → drop at s ≡ flat x r → Describes x []) → Needed s at lo hi 0

-- the repeat at `at`, from lo to hi times, is its part from l to h times
pub record Joint (s : List ℕ) (at lo hi n l h : ℕ) (P : List ℕ → Type 0) (r : List ℕ) : Type 0 where
  pub part : Regexp
  pub code : drop (at + 3) s ≡ flat part r
  pub alike : Alike n (repeated lo hi P) (repeated l h (Describes part))

pub record Joins (s : List ℕ) (at lo hi n l h : ℕ) : Type 0 where
  pub of : (x : Regexp) (r : List ℕ) → drop at s ≡ flat x r → Joint s at lo hi n l h (Describes x) r

-- an upper end that short texts do not reach, for words of at least m bytes
pub data Endless (lo hi m n : ℕ) : Type 0 where
  zero : lo ≡ 0 → n ≤ hi → Endless lo hi m n
  some : 1 ≤ m → n ≤ m * hi → Endless lo hi m n

-- the words of a repeat, without those of its part
pub record Head (lo hi n : ℕ) (P : List ℕ → Type 0) (q : List ℕ) (to : ℕ) (q' : List ℕ) (end : ℕ) : Type 0 where
  pub words : List ℕ
  pub wrap : Regexp → Regexp
  pub code : (y : Regexp) → flat (wrap y) [] ≡ words ++ flat y []
  pub alike : (y : Regexp) → Alike n P (Describes y) → Alike n (repeated lo hi P) (Describes (wrap y))
  pub written : WroteInRoom q to words q' end

pub record Headed (s : List ℕ) (at lo hi n : ℕ) (q : List ℕ) (to : ℕ) (q' : List ℕ) (end : ℕ) : Type 0 where
  pub goes : Goes q to q' end
  pub of : (x : Regexp) (r : List ℕ) → drop at s ≡ flat x r → Head lo hi n (Describes x) q to q' end
