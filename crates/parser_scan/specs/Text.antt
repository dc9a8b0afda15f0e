-- What the scanner's contracts say: a byte at a place, blanks skipped, names, words and operators read both ways.
use Rattle.std.specs.Prelude.{◌≡◌, Bool, true, false, cond, List, [], ◌∷◌, ℕ, ◌+◌, ◌-◌, ◌≤◌, ◌<◌, eqb, length, drop, Option, Some, None, Result, Ok, Err}
use Rattle.definition.specs.Bytes.{part, same_bytes}
use Rattle.definition.specs.Utf8.{is_utf8}
use Rattle.definition.specs.Lexical.{is_function_char, Name, FunctionName, name_bytes, function_bytes, spell_name, spell_function_name}
use Rattle.definition.specs.Grammar as G
use Rattle.definition.specs.Grammar.{spell_operator}
use Rattle.definition.specs.Walk.{Named}
use Rattle.definition.specs.Walk.Named.{count, value_name, match, search, unknown}
use Rattle.basics.specs.Reads.{Reads, ReadsNone, StartsNot}
use Rattle.utf8_laws.specs.Scan.{front, behind}
use Rattle.parser_follow.specs.Numbers.{operator_number}
use Rattle.parser_scan.specs.declared.Function.{Function}
use Rattle.parser_scan.specs.declared.Function.TheVariants.{Count, Length, Value, Match, Search}
use Rattle.parser_scan.specs.declared.Keyword.{Keyword}
use Rattle.parser_scan.specs.declared.Keyword.TheVariants.{True, False, Null}
pub use Rattle.parser_follow.specs.Follow.{hd, unblank, is_name_byte}

-- the byte x stands at the place a, or it does not
abbrev pub Is : List ℕ → ℕ → ℕ → Bool → Type 0
Is s a x true = (a + 1 ≤ length s) × (drop a s ≡ x ∷ drop (a + 1) s)
Is s a x false = (l : List ℕ) → drop a s ≡ x ∷ l → ⊥

-- the bytes x and y stand at the place a, or they do not
abbrev pub Both : List ℕ → ℕ → ℕ → ℕ → Bool → Type 0
Both s a x y true = (a + 2 ≤ length s) × (drop a s ≡ x ∷ y ∷ drop (a + 2) s)
Both s a x y false = (l : List ℕ) → drop a s ≡ x ∷ y ∷ l → ⊥

-- a byte that passes a test stands at the place a, or none does
abbrev pub Has : (ℕ → Bool) → List ℕ → ℕ → Bool → Type 0
Has p s a true = (c : ℕ) × (a + 1 ≤ length s) × (p c ≡ true) × (drop a s ≡ c ∷ drop (a + 1) s)
Has p s a false = StartsNot p (drop a s)

pub record Skipped (s : List ℕ) (a r : ℕ) : Type 0 where
  pub from : a ≤ r
  pub to : r ≤ length s
  pub rest : drop r s ≡ unblank (drop a s)
  pub utf8 : is_utf8 (drop a s) ≡ true → is_utf8 (drop r s) ≡ true

-- from a to r stand all bytes that pass a test, from a on
pub record Run (p : ℕ → Bool) (s : List ℕ) (a r : ℕ) : Type 0 where
  pub from : a ≤ r
  pub to : r ≤ length s
  pub rest : drop r s ≡ behind p (drop a s)
  pub bytes : part s a (r - a) ≡ front p (drop a s)

-- the answers of a test of the code are those of p
abbrev pub Tests : (ℕ → Bool → Type 0) → (ℕ → Bool) → Type 0
Tests post p = (c : ℕ) (b : Bool) → c < 256 → post c b → b ≡ p c

-- a name of the grammar, with all its characters
pub record NameAt (s : List ℕ) (a r : ℕ) : Type 0 where
  pub name : Name
  pub reads : Reads spell_name name_bytes (StartsNot is_name_byte) (drop a s) name (drop r s)
  pub from : a ≤ r
  pub to : r ≤ length s
  pub bytes : part s a (r - a) ≡ name_bytes name
  pub utf8 : is_utf8 (drop r s) ≡ true

pub data ReadsName (s : List ℕ) (a : ℕ) : Result ℕ ℕ → Type 0 where
  at : {r : ℕ} → NameAt s a r → ReadsName s a (Ok r)
  nothing : {i : ℕ} → ReadsNone spell_name (StartsNot is_name_byte) (drop a s) → ReadsName s a (Err i)

-- a function-name of the grammar, with all its characters
pub record WordAt (s : List ℕ) (a r : ℕ) : Type 0 where
  pub word : FunctionName
  pub reads : Reads spell_function_name function_bytes (StartsNot is_function_char) (drop a s) word (drop r s)
  pub from : a ≤ r
  pub to : r ≤ length s
  pub bytes : part s a (r - a) ≡ function_bytes word
  pub utf8 : is_utf8 (drop a s) ≡ true → is_utf8 (drop r s) ≡ true

pub data ReadsWord (s : List ℕ) (a : ℕ) : Result ℕ ℕ → Type 0 where
  at : {r : ℕ} → WordAt s a r → ReadsWord s a (Ok r)
  nothing : {i : ℕ} → ReadsNone spell_function_name (StartsNot is_function_char) (drop a s) → ReadsWord s a (Err i)

-- a comparison-op, which no further `=` follows
pub record OperatorAt (s : List ℕ) (a r o : ℕ) : Type 0 where
  pub operator : G.Operator
  pub reads : Reads spell_operator operator_number (StartsNot (eqb 0x3D)) (drop a s) operator (drop r s)
  pub from : a ≤ r
  pub to : r ≤ length s
  pub number : o ≡ operator_number operator
  pub utf8 : is_utf8 (drop a s) ≡ true → is_utf8 (drop r s) ≡ true

pub data ReadsOperator (s : List ℕ) (a : ℕ) : Option (ℕ × ℕ) → Type 0 where
  is : {r o : ℕ} → OperatorAt s a r o → ReadsOperator s a (Some (r, o))
  nothing : ReadsNone spell_operator (StartsNot (eqb 0x3D)) (drop a s) → ReadsOperator s a None

-- the number of a function in the code
unfoldable pub named_number : Named → ℕ
named_number unknown = 0
named_number count = 1
named_number Named.length = 2
named_number value_name = 3
named_number match = 4
named_number search = 5

-- the number of a function that the code names, 0 for none
abbrev pub number_of_function : Option Function → ℕ
number_of_function None = 0
number_of_function (Some Count) = 1
number_of_function (Some Length) = 2
number_of_function (Some Value) = 3
number_of_function (Some Match) = 4
number_of_function (Some Search) = 5

-- the literals that are words: 1 true, 2 false, 3 null; 0 for any other word
unfoldable pub keyword_number : List ℕ → ℕ
keyword_number s =
    cond (same_bytes s (0x74 ∷ 0x72 ∷ 0x75 ∷ 0x65 ∷ [])) 1
    (cond (same_bytes s (0x66 ∷ 0x61 ∷ 0x6C ∷ 0x73 ∷ 0x65 ∷ [])) 2
    (cond (same_bytes s (0x6E ∷ 0x75 ∷ 0x6C ∷ 0x6C ∷ [])) 3 0))

-- the number of a literal that is a word in the code, 0 for none
abbrev pub number_of_keyword : Option Keyword → ℕ
number_of_keyword None = 0
number_of_keyword (Some True) = 1
number_of_keyword (Some False) = 2
number_of_keyword (Some Null) = 3
