-- Laws of blanks and of what may follow a tree.
use Rattle.std.specs.Prelude.{◌≡◌, refl, Bool, true, false, not, cond, List, [], ◌∷◌, ◌++◌, ℕ, suc, ◌≤◌, ◌<◌, eqb, length}
use Rattle.std.proofs.Common.{ap, arith, lit≤}
use Rattle.std.proofs.Math.Dec.{eqb-suc-zero}
use Rattle.definition.specs.Bytes.{every}
use Rattle.definition.specs.Lexical.{Blanks, is_blank, spell_blanks}
use Rattle.basics.specs.Bools.{and_left}
use Rattle.parser_follow.specs.Blanks.{unblank_blanks}
use Rattle.compile_writes.specs.Sorts.{is_empty}
use Rattle.parser_follow.specs.Follow.{hd, unblank, level_of, After}

-- a tree may be followed by blanks and a byte of a higher level
pub after_blanks : (k : ℕ) (b : Blanks) (c : ℕ) (r : List ℕ) → is_blank c ≡ false → k < level_of c → After k (spell_blanks b (c ∷ r))
after_blanks k b c r e h = record { above = rw (unblank_blanks b (c ∷ r), e) h }

-- leaving out blanks makes no text longer
unblank_shorter : (s : List ℕ) → length (unblank s) ≤ length s
unblank_shorter [] = lit≤ tt
unblank_shorter (c ∷ s) = go (is_blank c) (unblank_shorter s)
  where
    go : (t : Bool) → length (unblank s) ≤ length s → length (cond t (unblank s) (c ∷ s)) ≤ suc (length s)
    go true h = omega arith
    go false h = omega arith

-- a text that has no blanks to leave out begins with none
pub head_solid : (s : List ℕ) → unblank s ≡ s → is_blank (hd s) ≡ false
head_solid [] e = refl
head_solid (c ∷ s) e = go (is_blank c) e
  where
    go : (t : Bool) → cond t (unblank s) (c ∷ s) ≡ c ∷ s → t ≡ false
    go true f = absurd (omega (arith, unblank_shorter s, ap length f))
    go false f = refl

-- whether blanks are none, by the first byte of the text that they begin
pub empty_blanks : (b : Blanks) (z : List ℕ) → unblank z ≡ z → is_empty b ≡ not (is_blank (hd (spell_blanks b z)))
unfolding is_empty
empty_blanks b z e = go b.bytes b.good
  where
    go : (l : List ℕ) → every is_blank l ≡ true → eqb (length l) 0 ≡ not (is_blank (hd (l ++ z)))
    go [] g = rw (head_solid z e)
    go (x ∷ l) g = rw (and_left (is_blank x) (every is_blank l) g, eqb-suc-zero)
