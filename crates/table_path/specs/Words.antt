-- What the contracts of this crate say: a text that is written before a place, and a node with its table. Assumes nothing: these are definitions.
use Rattle.std.specs.Prelude.{ℕ, ◌+◌, ◌≤◌, ◌<◌, ◌≡◌, List, [], ◌++◌, cond, eqb, length, drop, Option, Some, None}
use Rattle.definition.specs.Tables.{node_count, parent_at}
use Rattle.definition.specs.Paths.{step_at, spell_step}
use Rattle.table_laws.specs.Accepted.{Accepted}

-- The text s stands in the room B from the place `at` up to `end`, and from there on what the room B₀ held. What stands before `at` is not said: it is still to be written.
pub record Put (B₀ : List ℕ) (end : ℕ) (s B : List ℕ) (at : ℕ) : Type 0 where
  pub same : length B ≡ length B₀
  pub begins : at + length s ≡ end
  pub holds : drop at B ≡ s ++ drop end B₀

-- there is room for n bytes before the place `end`
pub record Room (B : List ℕ) (end n : ℕ) : Type 0 where
  pub enough : n ≤ end
  pub inside : end ≤ length B

-- a node of an accepted table
pub record NodeOf (T X : List ℕ) (i : ℕ) : Type 0 where
  pub table : Accepted T X
  pub node_in : i < node_count T

-- the same behind the root
pub record ChildOf (T X : List ℕ) (i : ℕ) : Type 0 where
  pub table : Accepted T X
  pub node_in : i < node_count T
  pub behind : 0 < i

-- the last step to a node, from the parent that its record names
abbrev pub step_of : List ℕ → List ℕ → ℕ → List ℕ
step_of T X i = spell_step (step_at T X (parent_at T i) i) []

-- the letter that stands for a byte behind a backslash, if there is one
unfoldable pub letter_of : ℕ → Option ℕ
letter_of b =
    cond (eqb b 0x08) (Some 0x62)
    (cond (eqb b 0x09) (Some 0x74)
    (cond (eqb b 0x0A) (Some 0x6E)
    (cond (eqb b 0x0C) (Some 0x66)
    (cond (eqb b 0x0D) (Some 0x72)
    (cond (eqb b 0x27) (Some 0x27)
    (cond (eqb b 0x5C) (Some 0x5C) None))))))
