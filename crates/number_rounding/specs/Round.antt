-- What the library's `round` keeps is nearest, a tie to the even one; proofs/Round makes it the float where nothing overflows. Assumes nothing.
-- In units of the smallest float a fraction is n / b. `round` drops k = `drop p n b` binary digits of its whole part and keeps the whole number nearest to n / (b * 2 ^ k),
-- `kept p n b`. So it is nearest among the multiples of 2 ^ k; and what is no multiple of 2 ^ k lies below the least number of p digits there, and is farther.
use Rattle.std.specs.Prelude.{◌≡◌, refl, ◌⊎◌, Bool, true, false, not, T, leb}
use Rattle.std.proofs.Common.{sym, ◌∙◌, inl, inr, ⊎_elim, le_trans, le_of_eq, lt_of_le_of_lt, mul_comm, mul_assoc, suc-mul, mul-pos, mul-le-mul_right, mul-lt-mul_of_pos_right, div-add-mod', mod-lt, le-div_iff_mul-le, arith, leb→le, pow_pos, pow_mono}
use Rattle.std.proofs.Math.Path.{ap, subst}
use Prim.Native.Nat.{ℕ, zero, suc, ◌+◌, ◌-◌, ◌*◌, ◌/◌, ◌%◌, ◌^◌, ◌≤◌, ◌<◌, zero-le, compare, Ordering}
use Rattle.std.proofs.Math.Nat.{lt_of_lt_of_le, eq_of_mul-eq-mul_right, div-div-eq-div-mul}
use Rattle.std.proofs.Math.Dec.{nleb→lt}
use Rattle.std.proofs.Math.Pow.{pow-add}
use Rattle.std.specs.Float.{binary64}
use Rattle.std.specs.Float.Ieee.{low, size, nearest}
use Rattle.std.specs.Float.Ieee.Digits.{size_reaches, back}
use Rattle.std.specs.Float.Ieee.Fits.{nearest-le, kept-lt}
use Rattle.std.specs.Float.Ieee.Nearest.{closest, nearest-ge}
use Rattle.std.specs.Float.Ieee.Order.{drop, kept}
use Rattle.std.specs.Float.Ieee.Scale.{grid}
use Rattle.number_integers.specs.Compare.{Says, said}
use Rattle.number_rounding.specs.Near.{gap, Nearest}

-- ---- the whole number nearest to n / u

-- c is at least as near as y, and even where y is another one as near
abbrev Best : ℕ → ℕ → ℕ → ℕ → Type 0
Best c n u y = (gap n (c * u) ≤ gap n (y * u)) × (gap n (c * u) ≡ gap n (y * u) → (c ≡ y → ⊥) → c % 2 ≡ 0)

-- A multiple of u is at most w * u, or at least the next one.
split : (w u y : ℕ) → (y * u ≤ w * u) ⊎ (w * u + u ≤ y * u)
split w u y = go (leb y w) (leb→le y w) (nleb→lt y w)
  where
    go : (b : Bool) → (T b → y ≤ w) → (T (not b) → w < y) → (y * u ≤ w * u) ⊎ (w * u + u ≤ y * u)
    go true h k = inl (mul-le-mul_right u (h tt))
    go false h k = inr (le_trans (le_of_eq (sym (suc-mul w u))) (mul-le-mul_right u (k tt)))

-- n is w * u and a remainder r below u.
module _ (n u w r y : ℕ) (U : 0 < u) (e : w * u + r ≡ n) (R : r < u) where
  -- Below the half w is best, above it the next number.
  best_below : r * 2 < u → Best w n u y
  best_below h =
      ⊎_elim (λ (s : y * u ≤ w * u). (omega arith, λ t d. absurd (d (eq_of_mul-eq-mul_right u U w y (omega arith))))) (λ (s : w * u + u ≤ y * u). (omega arith, λ t d. omega arith)) (split w u y)

  best_above : u < r * 2 → Best (suc w) n u y
  best_above h =
      let m : suc w * u ≡ w * u + u = suc-mul w u in
      ⊎_elim (λ (s : y * u ≤ w * u). (omega arith, λ t d. omega arith)) (λ (s : w * u + u ≤ y * u). (omega arith, λ t d. absurd (d (eq_of_mul-eq-mul_right u U (suc w) y (omega arith))))) (split w u y)

  -- At the half both neighbours are as near, and the even one is taken.
  best_half : r * 2 ≡ u → Best (w + w % 2) n u y
  best_half h =
      ⊎_elim
      (λ (m : (w + w % 2) * u ≡ w * u). ⊎_elim (λ (s : y * u ≤ w * u). (omega arith, λ t d. omega arith)) (λ (s : w * u + u ≤ y * u). (omega arith, λ t d. omega arith)) (split w u y))
      (λ (m : (w + w % 2) * u ≡ w * u + u). ⊎_elim (λ (s : y * u ≤ w * u). (omega arith, λ t d. omega arith)) (λ (s : w * u + u ≤ y * u). (omega arith, λ t d. omega arith)) (split w u y))
      (go (w % 2) (omega arith))
    where
      go : (v : ℕ) → v < 2 → ((w + v) * u ≡ w * u) ⊎ ((w + v) * u ≡ w * u + u)
      go zero l = inl (ap (λ (x : ℕ). x * u) (omega arith))
      go (suc zero) l = inr (ap (λ (x : ℕ). x * u) (omega arith) ∙ suc-mul w u)
      go (suc (suc v)) l = absurd (omega arith)

  best_of : (o : Ordering) → Says o (r * 2) u → Best (nearest w o) n u y
  best_of Ordering.lt h = best_below h
  best_of Ordering.eq h = best_half h
  best_of Ordering.gt h = best_above h

-- The library's choice is the best.
best : (n u y : ℕ) → 0 < u → Best (closest n u) n u y
best n u y U = best_of n u (n / u) (n % u) y U (div-add-mod' n u) (mod-lt n U) (compare (n % u * 2) u) (said (n % u * 2) u)

-- ---- among the values q * 2 ^ j with q of p digits

all_in_use : (z p : ℕ) → 0 < p → 0 < z - p → p - 1 + (z - p) < z
all_in_use z p P h = omega arith

room : (p j k : ℕ) → 0 < p → j < k → p + j ≤ p - 1 + k
room p j k P h = omega arith

-- What lies below a number z that is at most n is farther from n than z.
pub farther : (g n z y : ℕ) → g ≤ gap n z → z ≤ n → y < z → (g ≤ gap n y) × (g ≡ gap n y → ⊥)
farther g n z y h a c = (omega arith, λ e. omega arith)

module _ (p n b : ℕ) (P : 0 < p) (B : 0 < b) where
  -- Where digits are dropped, the fraction has all p digits in use.
  floor : 0 < drop p n b → 2 ^ (p - 1 + drop p n b) * b ≤ n
  floor K = (le-div_iff_mul-le B).0 (size_reaches (n / b) (p - 1 + drop p n b) (all_in_use (size (n / b)) p P K))

  -- What is kept has at most p digits, or is 2 ^ p;
  pub kept_le : kept p n b ≤ 2 ^ p
  kept_le =
      let u = b * 2 ^ drop p n b in
      le_trans (nearest-le (n / u) (compare (n % u * 2) u)) (subst (λ (x : ℕ). x < 2 ^ p) (div-div-eq-div-mul n b (2 ^ drop p n b)) (kept-lt p (n / b)))

  -- and it has p digits at least where some are dropped.
  kept_ge : 0 < drop p n b → 2 ^ (p - 1) ≤ kept p n b
  kept_ge K =
      let k = drop p n b in
      let u = b * 2 ^ k in
      let e : 2 ^ (p - 1) * u ≡ 2 ^ (p - 1 + k) * b = ap (λ (z : ℕ). 2 ^ (p - 1) * z) (mul_comm b (2 ^ k)) ∙ sym (mul_assoc (2 ^ (p - 1)) (2 ^ k) b) ∙ ap (λ (z : ℕ). z * b) (sym (pow-add 2 (p - 1) k)) in
      le_trans ((le-div_iff_mul-le (mul-pos B (pow_pos k))).1 (le_trans (le_of_eq e) (floor K))) (nearest-ge (n / u) (compare (n % u * 2) u))

  -- the rounded number of units
  abbrev X : ℕ
  X = kept p n b * 2 ^ drop p n b

  as_multiple : (y : ℕ) → y * 2 ^ drop p n b * b ≡ y * (b * 2 ^ drop p n b)
  as_multiple y = mul_assoc y (2 ^ drop p n b) b ∙ ap (λ (z : ℕ). y * z) (mul_comm (2 ^ drop p n b) b)

  -- X is at least as near as Y, and even where Y is another one as near
  Wins : ℕ → Type 0
  Wins Y = (gap n (X * b) ≤ gap n (Y * b)) × (gap n (X * b) ≡ gap n (Y * b) → (X ≡ Y → ⊥) → kept p n b % 2 ≡ 0)

  -- X wins against a multiple of 2 ^ k,
  wins_on : (y : ℕ) → Wins (y * 2 ^ drop p n b)
  unfolding Wins
  wins_on y =
      let k = drop p n b in
      let t = best n (b * 2 ^ k) y (mul-pos B (pow_pos k)) in
      let g : gap n (X * b) ≡ gap n (kept p n b * (b * 2 ^ k)) = ap (gap n) (as_multiple (kept p n b)) in
      let h : gap n (y * 2 ^ k * b) ≡ gap n (y * (b * 2 ^ k)) = ap (gap n) (as_multiple y) in
      (le_trans (le_of_eq g) (le_trans t.0 (le_of_eq (sym h))), λ s d. t.1 (sym g ∙ s ∙ h) (λ c. d (ap (λ (x : ℕ). x * 2 ^ k) c)))

  -- and against any other value, which lies below the least number of p digits among those multiples.
  wins_off : (q j : ℕ) → q < 2 ^ p → j < drop p n b → Wins (q * 2 ^ j)
  unfolding Wins
  wins_off q j Q l =
      let k = drop p n b in
      let e : 2 ^ (p - 1 + k) ≡ 2 ^ (p - 1) * 2 ^ k = pow-add 2 (p - 1) k in
      let f : 2 ^ (p - 1) * 2 ^ k * b ≤ n = subst (λ (z : ℕ). z * b ≤ n) e (floor (lt_of_le_of_lt zero-le l)) in
      let a : q * 2 ^ j < 2 ^ (p - 1) * 2 ^ k = lt_of_lt_of_le (mul-lt-mul_of_pos_right Q (pow_pos j)) (le_trans (le_of_eq (sym (pow-add 2 p j))) (le_trans (pow_mono (room p j k P l)) (le_of_eq e))) in
      let o = farther (gap n (X * b)) n (2 ^ (p - 1) * 2 ^ k * b) (q * 2 ^ j * b) (wins_on (2 ^ (p - 1))).0 f (mul-lt-mul_of_pos_right a B) in
      (o.0, λ s d. absurd (o.1 s))

  wins : (q j : ℕ) → q < 2 ^ p → Wins (q * 2 ^ j)
  wins q j Q = go (leb (drop p n b) j) (leb→le (drop p n b) j) (nleb→lt (drop p n b) j)
    where
      go : (t : Bool) → (T t → drop p n b ≤ j) → (T (not t) → j < drop p n b) → Wins (q * 2 ^ j)
      go true h l =
          let k = drop p n b in
          let e : q * 2 ^ (j - k) * 2 ^ k ≡ q * 2 ^ j = mul_assoc q (2 ^ (j - k)) (2 ^ k) ∙ ap (λ (z : ℕ). q * z) (sym (pow-add 2 (j - k) k) ∙ ap (λ (z : ℕ). 2 ^ z) (back j k (h tt))) in
          subst Wins e (wins_on (q * 2 ^ (j - k)))
      go false h l = wins_off q j Q (l tt)

-- ---- the theorem, at binary64

-- All p digits are in use where some are dropped.
pub full : (p n b : ℕ) → 0 < p → 0 < b → (drop p n b ≡ 0) ⊎ (2 ^ (p - 1) ≤ kept p n b)
full p n b P B = go (drop p n b) refl
  where
    go : (k : ℕ) → drop p n b ≡ k → (drop p n b ≡ 0) ⊎ (2 ^ (p - 1) ≤ kept p n b)
    go zero e = inl e
    go (suc k) e = inr (kept_ge p n b P B (omega arith))

-- What `round` keeps, before it is compared with the largest float, is nearest to a / b, a tie to the even one.
pub grid_nearest : (a b : ℕ) → 0 < b → Nearest a b (grid binary64 a b)
unfolding Wins
grid_nearest a b B =
    let n = a * 2 ^ low binary64 in
    record {
      near = λ q k Q. (wins 53 n b (omega arith) B q k Q).0;
      tie =
          λ q k Q e d.
          record {
            q = kept 53 n b;
            k = drop 53 n b;
            is = refl;
            even = (wins 53 n b (omega arith) B q k Q).1 e d;
            fit = kept_le 53 n b (omega arith) B;
            full = full 53 n b (omega arith) B;
          };
    }
