-- Where a number of steps is within half a step of a fraction, and even where it is half a step away, it is the nearest magnitude:
-- what an algorithm that keeps an interval around its fraction, or decides exactly, has to show. Assumes nothing.
use Rattle.std.specs.Prelude.{◌≡◌, refl, ◌⊎◌, Bool, true, false, not, ℕ, suc, ◌+◌, ◌-◌, ◌*◌, ◌%◌, ◌^◌, ◌≤◌, ◌<◌, T, eqb, leb}
use Rattle.std.proofs.Common.{sym, ap, ◌∙◌, subst, mul_comm, mul_assoc, suc-mul, mul-le-mul_right, mul-lt-mul_of_pos_right, arith, eqb-true, leb→le, pow_pos, pow_mono}
use Rattle.std.proofs.Math.Logic.{inl, inr, ⊎_elim}
use Rattle.std.proofs.Math.Nat.{le_trans, le_of_eq, lt_of_lt_of_le}
use Rattle.std.proofs.lemmas.Bool.{eqb-false}
use Rattle.std.proofs.Math.Dec.{nleb→lt}
use Rattle.std.proofs.Math.Pow.{pow-add}
use Rattle.std.specs.Float.Ieee.Digits.{back}
use Rattle.number_rounding.specs.Near.{gap, Nearest}
use Rattle.number_rounding.specs.Round.{farther}

-- c steps of 2 ^ k units are nearest to a / b, and c has all 53 digits in use unless k is 0 (2 ^ 53 stands for 2 ^ 52 at k + 1)
pub record Best (a b c k : ℕ) : Type 0 where
  pub fit : c ≤ 2 ^ 53
  pub full : (k ≡ 0) ⊎ (2 ^ 52 ≤ c)
  pub nearest : Nearest a b (c * 2 ^ k)

same_or_not : (c y : ℕ) → (c ≡ y) ⊎ (c ≡ y → ⊥)
same_or_not c y = go (eqb c y) refl
  where
    go : (t : Bool) → eqb c y ≡ t → (c ≡ y) ⊎ (c ≡ y → ⊥)
    go true e = inl (eqb-true c y e)
    go false e = inr (eqb-false c y e)

room : (j k : ℕ) → j < k → 53 + j ≤ 52 + k
room j k h = omega arith

-- ---- c * u is within half of u from n: every other multiple of u is as far or farther, and as far only where c * u is half of u away

other : (n u c y : ℕ) → gap n (c * u) * 2 ≤ u → (c ≡ y → ⊥) → (gap n (c * u) ≤ gap n (y * u)) × (gap n (c * u) ≡ gap n (y * u) → gap n (c * u) * 2 ≡ u)
other n u c y h d = go (leb y c) (leb→le y c) (nleb→lt y c)
  where
    go : (b : Bool) → (T b → y ≤ c) → (T (not b) → c < y) → (gap n (c * u) ≤ gap n (y * u)) × (gap n (c * u) ≡ gap n (y * u) → gap n (c * u) * 2 ≡ u)
    go true l g =
        let z : suc y ≤ c = let w = l tt in omega arith in
        let m : y * u + u ≤ c * u = le_trans (le_of_eq (sym (suc-mul y u))) (mul-le-mul_right u z) in
        (omega arith, λ e. omega arith)
    go false l g =
        let m : c * u + u ≤ y * u = le_trans (le_of_eq (sym (suc-mul c u))) (mul-le-mul_right u (g tt)) in
        (omega arith, λ e. omega arith)

module _ (a b c k : ℕ) (B : 0 < b) (low : (k ≡ 0) ⊎ (2 ^ 52 * (b * 2 ^ k) ≤ a * 2 ^ 1074)) (fit : c ≤ 2 ^ 53) (full : (k ≡ 0) ⊎ (2 ^ 52 ≤ c))
    (near : gap (a * 2 ^ 1074) (c * (b * 2 ^ k)) * 2 ≤ b * 2 ^ k) (even : gap (a * 2 ^ 1074) (c * (b * 2 ^ k)) * 2 ≡ b * 2 ^ k → c % 2 ≡ 0) where
  -- a number of steps
  step : (y : ℕ) → y * 2 ^ k * b ≡ y * (b * 2 ^ k)
  step y = mul_assoc y (2 ^ k) b ∙ ap (λ (z : ℕ). y * z) (mul_comm (2 ^ k) b)

  -- c steps are Y, or as near as Y, and even where Y is as near
  Beats : ℕ → Type 0
  Beats Y = (c * 2 ^ k ≡ Y) ⊎ ((gap (a * 2 ^ 1074) (c * 2 ^ k * b) ≤ gap (a * 2 ^ 1074) (Y * b)) × (gap (a * 2 ^ 1074) (c * 2 ^ k * b) ≡ gap (a * 2 ^ 1074) (Y * b) → c % 2 ≡ 0))

  -- they beat every number of steps,
  beats_on : (y : ℕ) → Beats (y * 2 ^ k)
  unfolding Beats
  beats_on y =
      ⊎_elim (λ (e : c ≡ y). inl (ap (λ (z : ℕ). z * 2 ^ k) e))
      (λ (d : c ≡ y → ⊥). let o = other (a * 2 ^ 1074) (b * 2 ^ k) c y near d in inr (rw (step c, step y) (o.0, λ e. even (o.1 e))))
      (same_or_not c y)

  -- and what is on a finer grid, which ends below,
  beats_off : (q j : ℕ) → q < 2 ^ 53 → j < k → 2 ^ 52 * (b * 2 ^ k) ≤ a * 2 ^ 1074 → Beats (q * 2 ^ j)
  unfolding Beats
  beats_off q j Q l f =
      let n = a * 2 ^ 1074 in
      let t : gap n (c * 2 ^ k * b) ≤ gap n (2 ^ 52 * 2 ^ k * b) =
      ⊎_elim (λ (e : c * 2 ^ k ≡ 2 ^ 52 * 2 ^ k). le_of_eq (ap (λ (z : ℕ). gap n (z * b)) e)) (λ g. g.0) (beats_on (2 ^ 52))
      in
      let f' : 2 ^ 52 * 2 ^ k * b ≤ n = le_trans (le_of_eq (step (2 ^ 52))) f in
      let e : 2 ^ (52 + k) ≡ 2 ^ 52 * 2 ^ k = pow-add 2 52 k in
      let s : q * 2 ^ j < 2 ^ 52 * 2 ^ k =
      lt_of_lt_of_le (mul-lt-mul_of_pos_right Q (pow_pos j)) (le_trans (le_of_eq (sym (pow-add 2 53 j))) (le_trans (pow_mono (room j k l)) (le_of_eq e)))
      in
      let o = farther (gap n (c * 2 ^ k * b)) n (2 ^ 52 * 2 ^ k * b) (q * 2 ^ j * b) t f' (mul-lt-mul_of_pos_right s B) in
      inr (o.0, λ e. absurd (o.1 e))

  -- so every magnitude.
  beats : (q j : ℕ) → q < 2 ^ 53 → Beats (q * 2 ^ j)
  beats q j Q = go (leb k j) (leb→le k j) (nleb→lt k j)
    where
      go : (t : Bool) → (T t → k ≤ j) → (T (not t) → j < k) → Beats (q * 2 ^ j)
      go true h l =
          let e : q * 2 ^ (j - k) * 2 ^ k ≡ q * 2 ^ j =
          mul_assoc q (2 ^ (j - k)) (2 ^ k) ∙ ap (λ (z : ℕ). q * z) (sym (pow-add 2 (j - k) k) ∙ ap (λ (z : ℕ). 2 ^ z) (back j k (h tt)))
          in
          subst Beats e (beats_on (q * 2 ^ (j - k)))
      go false h l = let g = l tt in ⊎_elim (λ (z : k ≡ 0). absurd (omega arith)) (λ (f : 2 ^ 52 * (b * 2 ^ k) ≤ a * 2 ^ 1074). beats_off q j Q g f) low

  pub decided : Best a b c k
  unfolding Beats
  decided =
      record {
        fit = fit;
        full = full;
        nearest =
            record {
              near = λ q j Q. ⊎_elim (λ (e : c * 2 ^ k ≡ q * 2 ^ j). le_of_eq (ap (λ (z : ℕ). gap (a * 2 ^ 1074) (z * b)) e)) (λ g. g.0) (beats q j Q);
              tie = λ q j Q e d. ⊎_elim (λ (x : c * 2 ^ k ≡ q * 2 ^ j). absurd (d x)) (λ g. record { q = c; k = k; is = refl; even = g.1 e; fit = fit; full = full }) (beats q j Q);
            };
      }
