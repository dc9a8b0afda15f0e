-- What may follow a tree of the grammar: the byte after blanks, by what it begins. Assumes nothing.
use Rattle.std.specs.Prelude.{Bool, cond, ◌||◌, List, [], ◌∷◌, ◌≡◌, ℕ, ◌≤◌, ◌<◌, eqb, leb}
use Rattle.std.proofs.Common.{arith}
use Rattle.definition.specs.Lexical.{is_blank, is_alpha, is_digit}

-- the first byte, or 256 at the end
abbrev pub hd : List ℕ → ℕ
hd [] = 256
hd (c ∷ s) = c

-- without the blanks that it begins with
abbrev pub unblank : List ℕ → List ℕ
unblank [] = []
unblank (c ∷ s) = cond (is_blank c) (unblank s) (c ∷ s)

-- the bytes of name-char in UTF-8
abbrev pub is_name_byte : ℕ → Bool
is_name_byte c = is_alpha c || (eqb c 0x5F || (is_digit c || leb 0x80 c))

-- `.` or `[`: what a segment begins with
abbrev pub is_segment_byte : ℕ → Bool
is_segment_byte c = eqb c 0x2E || eqb c 0x5B

-- A tree of level k is followed by a byte of a higher level.
-- `.` `[` 1; `=` `!` `<` `>` 2; `&` 3; `|` 4; `,` 5; `]` and the end 6; `)` 7; any other byte 0.

abbrev pub level_of : ℕ → ℕ
level_of c =
    cond (eqb c 0x2E || eqb c 0x5B) 1
    (cond (eqb c 0x3D || (eqb c 0x21 || (eqb c 0x3C || eqb c 0x3E))) 2
    (cond (eqb c 0x26) 3
    (cond (eqb c 0x7C) 4
    (cond (eqb c 0x2C) 5
    (cond (eqb c 0x5D || eqb c 256) 6
    (cond (eqb c 0x29) 7 0))))))

pub record After (k : ℕ) (r : List ℕ) : Type 0 where
  pub above : k < level_of (hd (unblank r))

-- what may follow a tree of a level may follow one of a lower level
pub after_weaken : (j k : ℕ) {r : List ℕ} → j ≤ k → After k r → After j r
after_weaken j k h a = record { above = omega (arith, a.above) }

-- a byte of no higher level may not follow, with blanks before it or without
pub after_not : (k : ℕ) {s : List ℕ} (c : ℕ) {r : List ℕ} → unblank s ≡ c ∷ r → level_of c ≤ k → After k s → ⊥
after_not k c e h a =
    let f : k < level_of c = rw e at a.above in
    omega arith
