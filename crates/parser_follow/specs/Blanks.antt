-- Laws of blanks: what stands behind them. Assumes nothing.
use Rattle.std.specs.Prelude.{◌≡◌, refl, Bool, true, false, cond, List, [], ◌∷◌, ◌++◌, ℕ}
use Rattle.std.proofs.Common.{ap}
use Rattle.basics.specs.Bools.{and_left, and_right}
use Rattle.definition.specs.Bytes.{every}
use Rattle.definition.specs.Lexical.{Blanks, is_blank, spell_blanks}
use Rattle.parser_follow.specs.Follow.{unblank}

-- blanks before a text do not change what stands behind blanks
pub unblank_bytes : (b : List ℕ) → every is_blank b ≡ true → (r : List ℕ) → unblank (b ++ r) ≡ unblank r
unblank_bytes [] e r = refl
unblank_bytes (c ∷ b) e r = rw (and_left (is_blank c) (every is_blank b) e) (unblank_bytes b (and_right (is_blank c) (every is_blank b) e) r)

pub unblank_blanks : (b : Blanks) (r : List ℕ) → unblank (spell_blanks b r) ≡ unblank r
unblank_blanks b r = unblank_bytes b.bytes b.good r

-- a byte that is no blank stays
pub unblank_byte : (c : ℕ) (s : List ℕ) → is_blank c ≡ false → unblank (c ∷ s) ≡ c ∷ s
unblank_byte c s e = rw e

-- every text is some blanks and then what stands behind them
pub split_blanks : (s : List ℕ) → (b : Blanks) × (s ≡ spell_blanks b (unblank s))
split_blanks [] = (record { bytes = []; good = refl }, refl)
split_blanks (c ∷ s) = go (split_blanks s) (is_blank c) refl
  where
    go : (b : Blanks) × (s ≡ spell_blanks b (unblank s)) → (t : Bool) → is_blank c ≡ t → (b : Blanks) × (c ∷ s ≡ spell_blanks b (cond t (unblank s) (c ∷ s)))
    go r true e = (record { bytes = c ∷ r.0.bytes; good = rw e r.0.good }, ap (λ (l : List ℕ). c ∷ l) r.1)
    go r false e = (record { bytes = []; good = refl }, refl)
