-- The Normalized Path of a node (RFC 9535, section 2.7): the steps from the root to it, by ranges of children, the bytes that spell them, and the outcome of the operation that writes them.
use Rattle.std.specs.Prelude.{ℕ, zero, suc, ◌+◌, ◌-◌, ◌/◌, ◌%◌, List, [], ◌∷◌, ◌++◌, Bool, true, false, cond, eqb, ltb, pos, length, drop}
use Rattle.std.proofs.Math.Option.{none, some}
use Rattle.definition.specs.Tables.{Checked, check_table, node_count, kind_at, kind_map, first_child, key_bytes, parent_of}
use Rattle.definition.specs.Tables.Checked.{accepted, sized, wrong_at, text_at}
use Rattle.definition.specs.Forms.{Query, Segments, Selector}
use Rattle.definition.specs.Forms.Start.{root}
use Rattle.definition.specs.Forms.Query.{query}
use Rattle.definition.specs.Forms.Segments.{end, child}
use Rattle.definition.specs.Forms.Selectors.{one}
use Rattle.definition.specs.Forms.Selector.{name, index}

-- ---- steps

-- one step down: to the member of a key, or to the element at a place
pub data Step : Type 0 where
  named : List ℕ → Step
  placed : ℕ → Step

-- the step from node p to its child i: "the node's number less its parent's first child" in a list
unfoldable pub step_at : List ℕ → List ℕ → ℕ → ℕ → Step
step_at T X p i = cond (eqb (kind_at T p) kind_map) (named (key_bytes T X i)) (placed (i - first_child T p))

-- The steps from the root to node i, then the steps given. A parent is an earlier node, so f steps are enough where f is at least i.
unfoldable pub steps_up : ℕ → List ℕ → List ℕ → ℕ → List Step → List Step
steps_up zero T X i ss = ss
steps_up (suc f) T X i ss = elim (parent_of T i) [ none ↦ ss | some p ↦ steps_up f T X p (step_at T X p i ∷ ss) ]

unfoldable pub steps_to : List ℕ → List ℕ → ℕ → List Step
steps_to T X i = steps_up i T X i []

-- ---- the form of steps

unfoldable pub step_form : Step → Selector
step_form (named k) = name k
step_form (placed n) = index (pos n)

unfoldable pub steps_form : List Step → Segments
steps_form [] = end
steps_form (s ∷ ss) = child (one (step_form s)) (steps_form ss)

-- the query form of the path of node i
unfoldable pub form_of : List ℕ → List ℕ → ℕ → Query
form_of T X i = query root (steps_form (steps_to T X i))

-- ---- the spelling of steps

-- "normal-HEXDIG = DIGIT / %x61-66"
unfoldable pub hex_digit : ℕ → ℕ
hex_digit d = cond (ltb d 10) (0x30 + d) (0x57 + d)

-- *normal-single-quoted, byte by byte: `\b \t \n \f \r \' \\`, every other byte below 20 as `\u00xx`, all else as it is
unfoldable pub escaped : ℕ → List ℕ
escaped b =
    cond (eqb b 0x08) (0x5C ∷ 0x62 ∷ [])
    (cond (eqb b 0x09) (0x5C ∷ 0x74 ∷ [])
    (cond (eqb b 0x0A) (0x5C ∷ 0x6E ∷ [])
    (cond (eqb b 0x0C) (0x5C ∷ 0x66 ∷ [])
    (cond (eqb b 0x0D) (0x5C ∷ 0x72 ∷ [])
    (cond (eqb b 0x27) (0x5C ∷ 0x27 ∷ [])
    (cond (eqb b 0x5C) (0x5C ∷ 0x5C ∷ [])
    (cond (ltb b 0x20) (0x5C ∷ 0x75 ∷ 0x30 ∷ 0x30 ∷ hex_digit (b / 16) ∷ hex_digit (b % 16) ∷ [])
    (b ∷ []))))))))

unfoldable pub escaped_all : List ℕ → List ℕ
escaped_all [] = []
escaped_all (b ∷ k) = escaped b ++ escaped_all k

-- the decimal digits of n, without a zero in front; f digits are enough where f is at least n
unfoldable pub digits_up : ℕ → ℕ → List ℕ
digits_up zero n = (0x30 + n) ∷ []
digits_up (suc f) n = cond (ltb n 10) ((0x30 + n) ∷ []) (digits_up f (n / 10) ++ ((0x30 + n % 10) ∷ []))

unfoldable pub written : ℕ → List ℕ
written n = digits_up n n

-- normal-index-segment = "[" normal-selector "]", a name in single quotes or an index, followed by the bytes r
unfoldable pub spell_step : Step → List ℕ → List ℕ
spell_step (named k) r = 0x5B ∷ 0x27 ∷ (escaped_all k ++ (0x27 ∷ 0x5D ∷ r))
spell_step (placed n) r = 0x5B ∷ (written n ++ (0x5D ∷ r))

unfoldable pub spell_steps : List Step → List ℕ
spell_steps [] = []
spell_steps (s ∷ ss) = spell_step s (spell_steps ss)

-- normalized-path = root-identifier *(normal-index-segment)
unfoldable pub path_of : List ℕ → List ℕ → ℕ → List ℕ
path_of T X i = 0x24 ∷ spell_steps (steps_to T X i)

-- ---- the outcome: "Refusals: 16, path room too small, after 15, with the length needed and the buffer untouched"

-- the refusal, 0 for none; the path's length, with 0 and 16; the least wrong node where 10 or 17 names one; and what the lent room holds afterwards
pub record PathOutcome : Type 0 where
  pub refusal : ℕ
  pub size : ℕ
  pub node : ℕ
  pub room : List ℕ

-- the path s in the room B: in its first bytes, if they are enough
unfoldable pub put_path : List ℕ → List ℕ → PathOutcome
put_path s B =
    cond (ltb (length B) (length s)) (record { refusal = 16; size = length s; node = 0; room = B })
    (record { refusal = 0; size = length s; node = 0; room = s ++ drop (length s) B })

-- 15 is only "node number too big": every node of an accepted table has a path
unfoldable pub path_by : Checked → Bool → List ℕ → List ℕ → PathOutcome
path_by accepted true s B = put_path s B
path_by accepted false s B = record { refusal = 15; size = 0; node = 0; room = B }
path_by sized b s B = record { refusal = 9; size = 0; node = 0; room = B }
path_by (wrong_at i) b s B = record { refusal = 10; size = 0; node = i; room = B }
path_by (text_at i) b s B = record { refusal = 17; size = 0; node = i; room = B }

unfoldable pub path_outcome : List ℕ → List ℕ → ℕ → List ℕ → PathOutcome
path_outcome T X i B = path_by (check_table T X) (ltb i (node_count T)) (path_of T X i) B
