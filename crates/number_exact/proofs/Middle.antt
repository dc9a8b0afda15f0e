-- The nearest of two neighbouring numbers of steps, by the middle between them. Assumes nothing.
use mathlib.Core.Path.{◌≡◌, refl, sym, ap, ◌∙◌, subst}
use mathlib.Core.Logic.{◌⊎◌, inl, inr, ⊎_elim}
use Prim.Native.Nat.{ℕ, zero, suc, ◌+◌, ◌-◌, ◌*◌, ◌%◌, ◌^◌, ◌≤◌, ◌<◌}
use native.Mathlib.Nat.{le_trans, le_of_eq, le_of_lt, lt_irrefl, lt_of_le_of_lt, lt_of_lt_of_le, add-mul, mul_assoc, mul_right_comm, one-mul, mul-le-mul_right, one-le-pow}
use native.Mathlib.Omega.{arith}
use Rattle.number_leading.specs.Leads.{above, below, Between}
use Rattle.number_rounding.specs.Near.{gap}
use Rattle.number_rounding.specs.Decided.{Best, decided}

-- ---- y is c steps of u, and A the fraction

below_half : (A y u : ℕ) → y ≤ A → A * 2 < y * 2 + u → gap A y * 2 < u
below_half A y u l h = omega arith

above_half : (A y u : ℕ) → y * 2 + u < A * 2 → A * 2 < y * 2 + u * 3 → gap A (y + u) * 2 < u
above_half A y u l h = omega arith

at_half : (A y u : ℕ) → A * 2 ≡ y * 2 + u → (gap A y * 2 ≡ u) × (gap A (y + u) * 2 ≡ u)
at_half A y u e = (omega arith, omega arith)

-- odd numbers of half steps
odd_steps : (c d u : ℕ) → (c * 2 + d) * u ≡ c * u * 2 + d * u
odd_steps c d u = add-mul (c * 2) d u ∙ ap (λ (z : ℕ). z + d * u) (mul_right_comm c 2 u)

one_more : (c u : ℕ) → (c + 1) * u ≡ c * u + u
one_more c u = add-mul c 1 u ∙ ap (λ (z : ℕ). c * u + z) (one-mul u)

-- ---- the numbers as they are compared

twice : (a : ℕ) → a * 2 ^ 1075 ≡ a * 2 ^ 1074 * 2
twice a = sym (mul_assoc a (2 ^ 1074) 2)

middle : (c b k : ℕ) → (c * 2 + 1) * b * 2 ^ k ≡ c * (b * 2 ^ k) * 2 + b * 2 ^ k
middle c b k = mul_assoc (c * 2 + 1) b (2 ^ k) ∙ odd_steps c 1 (b * 2 ^ k) ∙ ap (λ (z : ℕ). c * (b * 2 ^ k) * 2 + z) (one-mul (b * 2 ^ k))

module _ (n i c k : ℕ) (t : Between n i c k) where
  abbrev A : ℕ
  A = above n i * 2 ^ 1074

  abbrev u : ℕ
  u = below i * 2 ^ k

  below_pos : 0 < below i
  below_pos = one-le-pow (342 - i) 10 (omega arith)

  low : (k ≡ 0) ⊎ (2 ^ 52 * u ≤ A)
  low = ⊎_elim (λ (z : k ≡ 0). inl z) (λ (f : 2 ^ 52 ≤ c). inr (le_trans (mul-le-mul_right u f) t.low)) t.full

  full_more : (v : ℕ) → (k ≡ 0) ⊎ (2 ^ 52 ≤ c + v)
  full_more v = ⊎_elim (λ (z : k ≡ 0). inl z) (λ (f : 2 ^ 52 ≤ c). inr (more v f)) t.full
    where
      more : (v : ℕ) → 2 ^ 52 ≤ c → 2 ^ 52 ≤ c + v
      more v f = omega arith

  -- nearer than half a step there is no tie
  strict : (d : ℕ) → d ≤ 2 ^ 53 → (k ≡ 0) ⊎ (2 ^ 52 ≤ d) → gap A (d * u) * 2 < u → Best (above n i) (below i) d k
  strict d f l g = decided (above n i) (below i) d k below_pos low f l (le_of_lt g) (λ e. absurd (lt_irrefl u (lt_of_le_of_lt (le_of_eq (sym e)) g)))

  -- Below the middle it is c,
  pub less : above n i * 2 ^ 1075 < (c * 2 + 1) * below i * 2 ^ k → Best (above n i) (below i) c k
  less h =
      strict c (le_of_lt t.fit) t.full
      (below_half A (c * u) u t.low (lt_of_le_of_lt (le_of_eq (sym (twice (above n i)))) (lt_of_lt_of_le h (le_of_eq (middle c (below i) k)))))

  -- above it c + 1,
  pub greater : (c * 2 + 1) * below i * 2 ^ k < above n i * 2 ^ 1075 → Best (above n i) (below i) (c + 1) k
  greater h =
      let f = t.fit in
      let three : u * 3 ≡ 3 * u = native.Mathlib.Nat.mul_comm u 3 in
      let x : A * 2 < c * u * 2 + u * 3 = lt_of_lt_of_le t.high (le_of_eq (odd_steps c 3 u ∙ ap (λ (z : ℕ). c * u * 2 + z) (sym three))) in
      let y : c * u * 2 + u < A * 2 = lt_of_le_of_lt (le_of_eq (sym (middle c (below i) k))) (lt_of_lt_of_le h (le_of_eq (twice (above n i)))) in
      strict (c + 1) (omega arith) (full_more 1) (subst (λ (z : ℕ). gap A z * 2 < u) (sym (one_more c u)) (above_half A (c * u) u y x))

  -- and in the middle the even one of the two.
  tied : (d : ℕ) → d ≤ 2 ^ 53 → (k ≡ 0) ⊎ (2 ^ 52 ≤ d) → gap A (d * u) * 2 ≡ u → d % 2 ≡ 0 → Best (above n i) (below i) d k
  tied d f l g e = decided (above n i) (below i) d k below_pos low f l (le_of_eq g) (λ _. e)

  pub equal : above n i * 2 ^ 1075 ≡ (c * 2 + 1) * below i * 2 ^ k → Best (above n i) (below i) (c + c % 2) k
  equal h = go (c % 2) refl (at_half A (c * u) u (sym (twice (above n i)) ∙ h ∙ middle c (below i) k))
    where
      go : (v : ℕ) → c % 2 ≡ v → (gap A (c * u) * 2 ≡ u) × (gap A (c * u + u) * 2 ≡ u) → Best (above n i) (below i) (c + v) k
      go zero e g = subst (λ (z : ℕ). Best (above n i) (below i) z k) (sym (native.Mathlib.Nat.add-zero c)) (tied c (le_of_lt t.fit) t.full g.0 e)
      go (suc zero) e g = let f = t.fit in tied (c + 1) (omega arith) (full_more 1) (ap (λ (z : ℕ). gap A z * 2) (one_more c u) ∙ g.1) (even c e)
        where
          even : (c : ℕ) → c % 2 ≡ 1 → (c + 1) % 2 ≡ 0
          even c e = omega arith
      go (suc (suc v)) e g = absurd (no c v e)
        where
          no : (c v : ℕ) → c % 2 ≡ suc (suc v) → ⊥
          no c v e = omega arith

-- ---- the two numbers, as limbs have them

pub record Compared (n i c k x y : ℕ) : Type 0 where
  pub fraction : x ≡ above n i * 2 ^ 1075
  pub half : y ≡ (c * 2 + 1) * below i * 2 ^ k

pub compared : (n i c k p q x y : ℕ) → p ≡ i - 342 → q ≡ 342 - i → x ≡ n * 10 ^ p * 2 ^ 1075 → y ≡ (c * 2 + 1) * 10 ^ q * 2 ^ k → Compared n i c k x y
compared n i c k p q x y d e f g =
    record { fraction = f ∙ ap (λ (z : ℕ). n * 10 ^ z * 2 ^ 1075) d; half = g ∙ ap (λ (z : ℕ). (c * 2 + 1) * 10 ^ z * 2 ^ k) e }

module _ (n i c k : ℕ) (t : Between n i c k) (x y : ℕ) (r : Compared n i c k x y) where
  pub if_less : x < y → Best (above n i) (below i) c k
  if_less h = less n i c k t (lt_of_le_of_lt (le_of_eq (sym r.fraction)) (lt_of_lt_of_le h (le_of_eq r.half)))

  pub if_equal : x ≡ y → Best (above n i) (below i) (c + c % 2) k
  if_equal h = equal n i c k t (sym r.fraction ∙ h ∙ r.half)

  pub if_greater : y < x → Best (above n i) (below i) (c + 1) k
  if_greater h = greater n i c k t (lt_of_le_of_lt (le_of_eq (sym r.half)) (lt_of_lt_of_le h (le_of_eq r.fraction)))
