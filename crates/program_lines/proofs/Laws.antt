-- Laws for the loops over a line: a search goes on, bytes are stored one after the other, and a number is read digit by digit. Assumes nothing.
use Prim.Native.Nat.{ℕ, suc, ◌+◌, ◌*◌, ◌-◌, ◌/◌, ◌%◌, ◌≤◌, ◌<◌}
use mathlib.Core.Path.{◌≡◌, refl, sym, ap, ◌∙◌, subst}
use mathlib.Core.List.{List, [], ◌∷◌, ◌++◌}
use mathlib.Core.Bool.{Bool, true, false}
use lib.Dec.{ltb}
use lib.ListN.{length, get_or, get_or-append, set, drop, length-set}
use lib.Seq.{drop-cons, get_or-set_same, get_or-set_other, get_or-append_seam}
use Rattle.std.proofs.Common.{drop_of_length-le}
use native.Mathlib.Omega.{arith}
use borrow.Author.Tests.{ltb-true, ltb-false}
use Rattle.program_lines.specs.Words.{decimal, glyph}

-- what holds below a place, and at it, holds below the next place
pub below_next : (P : ℕ → Type 0) (i : ℕ) → ((k : ℕ) → k < i → P k) → P i → (k : ℕ) → k < i + 1 → P k
below_next P i h p k l = go (ltb k i) refl
  where
    go : (b : Bool) → ltb k i ≡ b → P k
    go true e = h k (ltb-true k i e)
    go false e = let m = ltb-false k i e in let s : i ≡ k = omega arith in subst P s p

-- what holds of the bytes below a place still holds with one more byte behind them, and of that byte
pub added_next : (P : ℕ → ℕ → Type 0) (l : List ℕ) (i v : ℕ) → length l ≡ i → ((k : ℕ) → k < i → P k (get_or l k 0)) → P i v → (k : ℕ) → k < i + 1 → P k (get_or (l ++ v ∷ []) k 0)
added_next P l i v e h p =
    below_next (λ k. P k (get_or (l ++ v ∷ []) k 0)) i
    (λ k m. subst (P k) (sym (get_or-append l (v ∷ []) 0 k (omega arith))) (h k m))
    (subst (λ (n : ℕ). P n (get_or (l ++ v ∷ []) n 0)) e (subst (P (length l)) (sym (get_or-append_seam l v [] 0)) (subst (λ (n : ℕ). P n v) (sym e) p)))

-- the two digits of byte k stand at 2k and 2k + 1
pub record Digits (s out : List ℕ) (k : ℕ) : Type 0 where
  pub high : get_or out (2 * k) 0 ≡ glyph (get_or s k 0 / 16)
  pub low : get_or out (2 * k + 1) 0 ≡ glyph (get_or s k 0 % 16)

-- the digits of one byte more
pub digits_next : (s l : List ℕ) (i a b : ℕ) → 2 * i + 1 < length l → a ≡ glyph (get_or s i 0 / 16) → b ≡ glyph (get_or s i 0 % 16)
    → ((k : ℕ) → k < i → Digits s l k) → (k : ℕ) → k < i + 1 → Digits s (set (set l (2 * i) a) (2 * i + 1) b) k
digits_next s l i a b r ea eb h = below_next (Digits s m) i old new
  where
    m : List ℕ
    m = set (set l (2 * i) a) (2 * i + 1) b

    other : (j : ℕ) → (j ≡ 2 * i → ⊥) → (j ≡ 2 * i + 1 → ⊥) → get_or m j 0 ≡ get_or l j 0
    other j u v = get_or-set_other (set l (2 * i) a) (2 * i + 1) j b 0 v ∙ get_or-set_other l (2 * i) j a 0 u

    old : (k : ℕ) → k < i → Digits s m k
    old k d = record { high = other (2 * k) (omega arith) (omega arith) ∙ (h k d).high; low = other (2 * k + 1) (omega arith) (omega arith) ∙ (h k d).low }

    new : Digits s m i
    new = record {
      high = get_or-set_other (set l (2 * i) a) (2 * i + 1) (2 * i) b 0 (omega arith) ∙ get_or-set_same l (2 * i) a 0 (omega arith) ∙ ea;
      low = get_or-set_same (set l (2 * i) a) (2 * i + 1) b 0 (omega (arith, length-set l (2 * i) a)) ∙ eb;
    }

-- a number is read on by its next digit, and ends with its digits
pub decimal_step : (s : List ℕ) (n i : ℕ) → i < length s → decimal (10 * n + (get_or s i 0 - 48)) (drop (i + 1) s) ≡ decimal n (drop i s)
unfolding decimal
decimal_step s n i h = let d : suc i ≡ i + 1 = omega arith in sym (ap (decimal n) (drop-cons s i 0 h ∙ ap (λ (x : ℕ). get_or s i 0 ∷ drop x s) d))

pub decimal_end : (s : List ℕ) (n i : ℕ) → length s ≤ i → decimal n (drop i s) ≡ n
unfolding decimal
decimal_end s n i h = ap (decimal n) (drop_of_length-le s {i = i} h)
