-- The expression that characters spell, worked out from left to right. `Reading` proves that it is the meaning of the tree that spells
-- them, and that there is no tree where it is none.
use Rattle.std.specs.Prelude.{Bool, true, false, ◌&&◌, ◌||◌, not, cond, List, [], ◌∷◌, ◌++◌, ℕ, zero, suc, ◌+◌, ◌-◌, ◌*◌, eqb, leb, length}
use Rattle.std.proofs.Math.Option.{Option, none, some}
use Rattle.regex_definition.specs.Chars.{max_repeat, is_normal, is_escaped, is_class_char, is_digit, escape_value}
use Rattle.regex_definition.specs.Words.{Most, upto, any}
use Rattle.regex_definition.specs.Regexp.{Range, Regexp, empty, class, then, or, times}
use Rattle.regex_definition.specs.Grammar.{only, char, dot}

-- ---- steps

-- the first character is x
abbrev pub begins : ℕ → List ℕ → Bool
begins x [] = false
begins x (c ∷ s) = eqb c x

-- what stands behind the first character
abbrev pub rest : List ℕ → List ℕ
rest [] = []
rest (c ∷ s) = s

-- what was read, and the characters that are left, handed to the next step
abbrev pub and_then : {A B : Type 0} → Option (A × List ℕ) → (A → List ℕ → Option B) → Option B
and_then none f = none
and_then (some p) f = f p.0 p.1

-- ---- characters and classes

-- behind a backslash
abbrev pub read_escape : List ℕ → Option (ℕ × List ℕ)
read_escape [] = none
read_escape (c ∷ s) = cond (is_escaped c) (some (escape_value c, s)) none

abbrev pub read_bare : (ℕ → Bool) → List ℕ → Option (ℕ × List ℕ)
read_bare p [] = none
read_bare p (c ∷ s) = cond (p c) (some (c, s)) none

unfoldable pub read_ccchar : List ℕ → Option (ℕ × List ℕ)
read_ccchar s = cond (begins 0x5C s) (read_escape (rest s)) (read_bare is_class_char s)

-- behind a character of a class: the end of its range, where "-" follows and "]" not behind it
unfoldable pub read_end : ℕ → List ℕ → Option (Range × List ℕ)
read_end a s =
    cond (begins 0x2D s && not (begins 0x5D (rest s)))
    (and_then (read_ccchar (rest s)) (λ b r. some (record { low = a; high = b }, r)))
    (some (only a, s))

unfoldable pub read_item : List ℕ → Option (Range × List ℕ)
read_item s = and_then (read_ccchar s) read_end

unfoldable pub read_first : List ℕ → Option (Range × List ℕ)
read_first s = cond (begins 0x2D s) (some (only 0x2D, rest s)) (read_item s)

-- behind the ranges gs: up to and with the "]"; n bounds the number of items
unfoldable pub read_items : ℕ → List Range → List ℕ → Option (List Range × List ℕ)
read_items zero gs s = none
read_items (suc n) gs s =
    cond (begins 0x5D s) (some (gs, rest s))
    (cond (begins 0x2D s && begins 0x5D (rest s)) (some (gs ++ only 0x2D ∷ [], rest (rest s)))
    (and_then (read_item s) (λ g r. read_items n (gs ++ g ∷ []) r)))

unfoldable pub read_ranges : ℕ → Bool → List ℕ → Option (Regexp × List ℕ)
read_ranges n comp s = and_then (read_first s) (λ g r. and_then (read_items n (g ∷ []) r) (λ gs r'. some (class comp gs, r')))

-- behind the "["
unfoldable pub read_class : ℕ → List ℕ → Option (Regexp × List ℕ)
read_class n s = cond (begins 0x5E s) (read_ranges n true (rest s)) (read_ranges n false s)

-- ---- quantifiers

-- behind digits that stand for v
unfoldable pub count_from : ℕ → List ℕ → Option (ℕ × List ℕ)
count_from v [] = some (v, [])
count_from v (c ∷ s) =
    cond (is_digit c) (cond (leb (v * 10 + (c - 0x30)) max_repeat) (count_from (v * 10 + (c - 0x30)) s) none) (some (v, c ∷ s))

abbrev pub begins_digit : List ℕ → Bool
begins_digit [] = false
begins_digit (c ∷ s) = is_digit c

unfoldable pub read_count : List ℕ → Option (ℕ × List ℕ)
read_count s = cond (begins_digit s) (count_from 0 s) none

-- behind the ","
unfoldable pub read_upper : ℕ → List ℕ → Option ((ℕ × Most) × List ℕ)
read_upper lo s =
    cond (begins 0x7D s) (some ((lo, any), rest s))
    (and_then (read_count s) (λ hi r. cond (begins 0x7D r) (some ((lo, upto hi), rest r)) none))

-- behind the "{"
unfoldable pub read_braces : List ℕ → Option ((ℕ × Most) × List ℕ)
read_braces s =
    and_then (read_count s) (λ lo r. cond (begins 0x7D r) (some ((lo, upto lo), rest r)) (cond (begins 0x2C r) (read_upper lo (rest r)) none))

-- behind the atom x
unfoldable pub read_quantifier : Regexp → List ℕ → Option (Regexp × List ℕ)
read_quantifier x s =
    cond (begins 0x2A s) (some (times 0 any x, rest s))
    (cond (begins 0x2B s) (some (times 1 any x, rest s))
    (cond (begins 0x3F s) (some (times 0 (upto 1) x, rest s))
    (cond (begins 0x7B s) (and_then (read_braces (rest s)) (λ q r. some (times q.0 q.1 x, r))) (some (x, s)))))

-- ---- the rules that nest

-- an atom that is no group
unfoldable pub read_leaf : ℕ → List ℕ → Option (Regexp × List ℕ)
read_leaf n s =
    cond (begins 0x5B s) (read_class n (rest s))
    (cond (begins 0x2E s) (some (dot, rest s))
    (cond (begins 0x5C s) (and_then (read_escape (rest s)) (λ c r. some (char c, r)))
    (and_then (read_bare is_normal s) (λ c r. some (char c, r)))))

-- no piece begins here
abbrev pub stops : List ℕ → Bool
stops [] = true
stops (c ∷ s) = eqb c 0x7C || eqb c 0x29

-- The number bounds the steps. What was read before stands in k: it gives the whole for what is still to be read.
unfoldable mutual
  pub read_alternatives : ℕ → (Regexp → Regexp) → List ℕ → Option (Regexp × List ℕ)
  read_alternatives zero k s = none
  read_alternatives (suc n) k s =
      and_then (read_branch n (λ x. x) s) (λ b r. cond (begins 0x7C r) (read_alternatives n (λ x. k (or b x)) (rest r)) (some (k b, r)))

  pub read_branch : ℕ → (Regexp → Regexp) → List ℕ → Option (Regexp × List ℕ)
  read_branch zero k s = none
  read_branch (suc n) k s =
      cond (stops s) (some (k empty, s)) (and_then (read_piece n s) (λ p r. read_branch n (λ x. k (then p x)) r))

  pub read_piece : ℕ → List ℕ → Option (Regexp × List ℕ)
  read_piece zero s = none
  read_piece (suc n) s = and_then (read_atom n s) read_quantifier

  pub read_atom : ℕ → List ℕ → Option (Regexp × List ℕ)
  read_atom zero s = none
  read_atom (suc n) s =
      cond (begins 0x28 s)
      (and_then (read_alternatives n (λ x. x) (rest s)) (λ x r. cond (begins 0x29 r) (some (x, rest r)) none))
      (read_leaf n s)

-- four steps for each character, and four more
abbrev pub steps : List ℕ → ℕ
steps s = 4 * length s + 4

-- nothing is left
abbrev pub all_read_lem : Option (Regexp × List ℕ) → Option Regexp
all_read_lem none = none
all_read_lem (some (x, [])) = some x
all_read_lem (some (x, c ∷ s)) = none

-- THE EXPRESSION OF A TEXT, if it is one of the part
unfoldable pub read_regexp : List ℕ → Option Regexp
read_regexp s = all_read_lem (read_alternatives (steps s) (λ x. x) s)
