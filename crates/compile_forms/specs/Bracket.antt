-- The bracket count over spellings: what does not nest leaves the count as it was, and a bracket adds one for what stands inside.
use Rattle.std.specs.Prelude.{ℕ, suc, ◌-◌, ◌≤◌, ◌≡◌, refl, List, [], ◌∷◌, ◌++◌, Bool, true, false, cond, ◌&&◌, ◌||◌, eqb, ltb}
use Rattle.std.proofs.Common.{arith, subst, ltb-false}
use Rattle.std.proofs.Math.Bool.{and-eq-true_iff}
use Rattle.std.proofs.lemmas.Bool.{false≢true}
use Rattle.definition.specs.Limits.{max_brackets}
use Rattle.definition.specs.Bytes.{every}
use Rattle.definition.specs.Brackets.{Place, place_after, count_after, too_deep_from}
use Rattle.definition.specs.Brackets.Place.{outside, quoted, escaped}
use Rattle.basics.specs.Bools.{or_left, or_right}

-- from the place p and the count n on the count stays within 32
abbrev pub Within : Place → ℕ → List ℕ → Type 0
Within p n s = too_deep_from p n s ≡ false

-- so the count is at most 32
pub count_low : (p : Place) (n : ℕ) (s : List ℕ) → Within p n s → n ≤ max_brackets
unfolding too_deep_from
count_low p n [] e = ltb-false max_brackets n e
count_low p n (b ∷ s) e = ltb-false max_brackets n (or_left (ltb max_brackets n) (too_deep_from (place_after p b) (count_after p n b) s) e)

-- a byte moves the place and the count
pub step : (p : Place) (n b : ℕ) (s : List ℕ) → Within p n (b ∷ s) → Within (place_after p b) (count_after p n b) s
unfolding too_deep_from
step p n b s e = or_right (ltb max_brackets n) _ e

-- ---- outside quoted text

-- a byte that is no quote and no bracket
abbrev pub is_quiet : ℕ → Bool
is_quiet b = cond (eqb b 0x22 || eqb b 0x27) false (cond (eqb b 0x5B || eqb b 0x28) false (cond (eqb b 0x5D || eqb b 0x29) false true))

-- a byte that is none of the six, by the three tests
quiet_place : (x y z : Bool) (b : ℕ) → cond x false (cond y false (cond z false true)) ≡ true → cond x (quoted b) outside ≡ outside
quiet_place false y z b e = refl
quiet_place true y z b e = absurd (false≢true e)

quiet_count : (x y z : Bool) (n : ℕ) → cond x false (cond y false (cond z false true)) ≡ true → cond y (suc n) (cond z (n - 1) n) ≡ n
quiet_count false false false n e = refl
quiet_count false false true n e = absurd (false≢true e)
quiet_count false true z n e = absurd (false≢true e)
quiet_count true y z n e = absurd (false≢true e)

-- it changes neither the place nor the count
pub quiet : (n b : ℕ) (s : List ℕ) → is_quiet b ≡ true → Within outside n (b ∷ s) → Within outside n s
unfolding place_after count_after
quiet n b s e h =
    let k : Within (place_after outside b) (count_after outside n b) s = step outside n b s h in
    subst (λ (p : Place). Within p n s) (quiet_place (eqb b 0x22 || eqb b 0x27) (eqb b 0x5B || eqb b 0x28) (eqb b 0x5D || eqb b 0x29) b e) (subst (λ (m : ℕ). Within (place_after outside b) m s) (quiet_count (eqb b 0x22 || eqb b 0x27) (eqb b 0x5B || eqb b 0x28) (eqb b 0x5D || eqb b 0x29) n e) k)

-- and so does a run of them
pub quiet_run : (n : ℕ) (l s : List ℕ) → every is_quiet l ≡ true → Within outside n (l ++ s) → Within outside n s
quiet_run n [] s e h = h
quiet_run n (b ∷ l) s e h =
    let t = (and-eq-true_iff (is_quiet b) (every is_quiet l)).0 e in
    quiet_run n l s t.1 (quiet n b (l ++ s) t.0 h)

-- the brackets
pub opens : (n : ℕ) (s : List ℕ) → Within outside n (0x5B ∷ s) → Within outside (suc n) s
unfolding place_after count_after
opens n s h = step outside n 0x5B s h

pub opens_round : (n : ℕ) (s : List ℕ) → Within outside n (0x28 ∷ s) → Within outside (suc n) s
unfolding place_after count_after
opens_round n s h = step outside n 0x28 s h

pub closes : (n : ℕ) (s : List ℕ) → Within outside (suc n) (0x5D ∷ s) → Within outside n s
unfolding place_after count_after
closes n s h = subst (λ (m : ℕ). Within outside m s) (omega arith) (step outside (suc n) 0x5D s h)

pub closes_round : (n : ℕ) (s : List ℕ) → Within outside (suc n) (0x29 ∷ s) → Within outside n s
unfolding place_after count_after
closes_round n s h = subst (λ (m : ℕ). Within outside m s) (omega arith) (step outside (suc n) 0x29 s h)

-- ---- inside quoted text

-- a byte that is neither the text's quote nor a backslash leaves the place
pub inside_quiet : (q n b : ℕ) (s : List ℕ) → eqb b q ≡ false → eqb b 0x5C ≡ false → Within (quoted q) n (b ∷ s) → Within (quoted q) n s
unfolding place_after count_after
inside_quiet q n b s e f h = subst (λ (p : Place). Within p n s) (rw (e, f)) (step (quoted q) n b s h)

-- and so does a run of such bytes
pub inside_run : (q n : ℕ) (l s : List ℕ) → every (λ b. cond (eqb b q) false (cond (eqb b 0x5C) false true)) l ≡ true → Within (quoted q) n (l ++ s) → Within (quoted q) n s
inside_run q n [] s e h = h
inside_run q n (b ∷ l) s e h = by (inside_run q n l s) (eqb b q) (eqb b 0x5C) refl refl e
  where
    by : (every (λ b. cond (eqb b q) false (cond (eqb b 0x5C) false true)) l ≡ true → Within (quoted q) n (l ++ s) → Within (quoted q) n s) → (x y : Bool) → eqb b q ≡ x → eqb b 0x5C ≡ y → (cond x false (cond y false true) && every (λ b. cond (eqb b q) false (cond (eqb b 0x5C) false true)) l) ≡ true → Within (quoted q) n s
    by go false false f g k = go k (inside_quiet q n b (l ++ s) f g h)
    by go false true f g k = absurd (false≢true k)
    by go true y f g k = absurd (false≢true k)

-- a backslash and any byte behind it
pub inside_escape : (q n b : ℕ) (s : List ℕ) → eqb 0x5C q ≡ false → Within (quoted q) n (0x5C ∷ b ∷ s) → Within (quoted q) n s
unfolding place_after count_after
inside_escape q n b s e h =
    step (escaped q) n b s (subst (λ (p : Place). Within p n (b ∷ s)) (rw e) (step (quoted q) n 0x5C (b ∷ s) h))

-- ---- outside quoted text, as a record

-- at the count n outside quoted text the count stays within 32 over s
pub record Low (n : ℕ) (s : List ℕ) : Type 0 where
  pub is : Within outside n s

-- so the count is at most 32
pub low : {n : ℕ} {s : List ℕ} → Low n s → n ≤ max_brackets
low {n} {s} h = count_low outside n s h.is

-- a byte, and a run of bytes, that is no quote and no bracket
pub skip : (b : ℕ) {n : ℕ} {s : List ℕ} → is_quiet b ≡ true → Low n (b ∷ s) → Low n s
skip b {n} {s} e h = record { is = quiet n b s e h.is }

pub skip_run : (l : List ℕ) {n : ℕ} {s : List ℕ} → every is_quiet l ≡ true → Low n (l ++ s) → Low n s
skip_run l {n} {s} e h = record { is = quiet_run n l s e h.is }

-- a bracket opens and closes
pub open_square : {n : ℕ} {s : List ℕ} → Low n (0x5B ∷ s) → Low (suc n) s
open_square {n} {s} h = record { is = opens n s h.is }

pub open_round : {n : ℕ} {s : List ℕ} → Low n (0x28 ∷ s) → Low (suc n) s
open_round {n} {s} h = record { is = opens_round n s h.is }

pub close_square : {n : ℕ} {s : List ℕ} → Low (suc n) (0x5D ∷ s) → Low n s
close_square {n} {s} h = record { is = closes n s h.is }

pub close_round : {n : ℕ} {s : List ℕ} → Low (suc n) (0x29 ∷ s) → Low n s
close_round {n} {s} h = record { is = closes_round n s h.is }

-- ---- quotes

-- inside text that the quote q opened, likewise
pub record Held (q n : ℕ) (s : List ℕ) : Type 0 where
  pub is : Within (quoted q) n s

-- a quote opens text, and the same quote closes it
pub open_double : {n : ℕ} {s : List ℕ} → Low n (0x22 ∷ s) → Held 0x22 n s
unfolding place_after count_after
open_double {n} {s} h = record { is = step outside n 0x22 s h.is }

pub open_single : {n : ℕ} {s : List ℕ} → Low n (0x27 ∷ s) → Held 0x27 n s
unfolding place_after count_after
open_single {n} {s} h = record { is = step outside n 0x27 s h.is }

pub close_double : {n : ℕ} {s : List ℕ} → Held 0x22 n (0x22 ∷ s) → Low n s
unfolding place_after count_after
close_double {n} {s} h = record { is = step (quoted 0x22) n 0x22 s h.is }

pub close_single : {n : ℕ} {s : List ℕ} → Held 0x27 n (0x27 ∷ s) → Low n s
unfolding place_after count_after
close_single {n} {s} h = record { is = step (quoted 0x27) n 0x27 s h.is }

-- inside, a run without that quote and a backslash, and a backslash with the byte behind it
pub held_run : {q n : ℕ} (l : List ℕ) {s : List ℕ} → every (λ b. cond (eqb b q) false (cond (eqb b 0x5C) false true)) l ≡ true → Held q n (l ++ s) → Held q n s
held_run {q} {n} l {s} e h = record { is = inside_run q n l s e h.is }

pub held_escape : {q b n : ℕ} {s : List ℕ} → eqb 0x5C q ≡ false → Held q n (0x5C ∷ b ∷ s) → Held q n s
held_escape {q} {b} {n} {s} e h = record { is = inside_escape q n b s e h.is }
