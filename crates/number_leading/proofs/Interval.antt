-- The interval around n * 10 ^ (i - 342) that the leading bits of a power of five give. Assumes nothing.
use mathlib.Core.Path.{◌≡◌, refl, sym, ap, ◌∙◌, subst}
use mathlib.Core.Logic.{◌⊎◌, inl, inr, ⊎_elim}
use Prim.Native.Nat.{ℕ, zero, suc, ◌+◌, ◌-◌, ◌*◌, ◌/◌, ◌%◌, ◌^◌, ◌≤◌, ◌<◌}
use native.Mathlib.Nat.{le_trans, le_of_eq, le_of_lt, lt_of_lt_of_le, lt_of_le_of_lt, add-mul, mul_comm, mul_assoc, mul_left_comm, mul_right_comm, mul-suc, mul-pos, mul-le-mul_left, mul-le-mul_right, mul-lt-mul_of_pos_left, mul-lt-mul_of_pos_right, lt_of_mul-lt-mul_right, le_of_mul-le-mul_right, mul-mul-mul_comm, mul-sub, suc-mul, pow-suc, mul-le-mul, lt_irrefl, div-lt_iff_lt-mul, le-div_iff_mul-le, one-le-pow, one-mul, mod-lt, div-eq_of_lt, le-add_right, div-add-mod'}
use native.Mathlib.Omega.{arith}
use lib.Dec.{lit≤}
use lib.Pow.{pow-add, pow_pos, pow_mono}
use Rattle.number_fives.specs.Rule.{place, Leading}
use Rattle.number_rounding.specs.Near.{gap}
use Rattle.number_rounding.specs.Decided.{Best, decided}
use Rattle.number_leading.specs.Leads.{Fraction, Grain, Bracket, Between, above, below}

-- ---- the product's leading word
module _ (i T m hi lo : ℕ) (L : Leading i T) (e : hi * 2 ^ 64 + lo ≡ m * T) (LO : lo < 2 ^ 64) (M : m < 2 ^ 64) (N : 0 < m) where
  R : ℕ
  R = 2 ^ place i * 5 ^ (342 - i)

  V0 : ℕ
  V0 = 5 ^ (i - 342) * 2 ^ 863

  lower : hi * 2 ^ 64 * R ≤ m * V0
  unfolding R V0
  lower =
      let a : hi * 2 ^ 64 ≤ m * T = omega arith in
      le_trans (mul-le-mul_right R a) (le_trans (le_of_eq (mul_assoc m T R)) (mul-le-mul_left m (le_trans (le_of_eq (sym (mul_assoc T (2 ^ place i) (5 ^ (342 - i))))) L.low)))

  upper : m * V0 < (hi + 2) * 2 ^ 64 * R
  unfolding R V0
  upper =
      let s : m * suc T ≡ m * T + m = mul-suc m T in
      let a : m * suc T ≤ (hi + 2) * 2 ^ 64 = omega arith in
      lt_of_lt_of_le (mul-lt-mul_of_pos_left L.high N)
      (le_trans (le_of_eq (ap (λ (z : ℕ). m * z) (mul_assoc (suc T) (2 ^ place i) (5 ^ (342 - i))) ∙ sym (mul_assoc m (suc T) R))) (mul-le-mul_right R a))

-- ---- powers of ten
ten : (x : ℕ) → 10 ^ x ≡ 2 ^ x * 5 ^ x
ten zero = refl
ten (suc x) =
    pow-suc 10 x ∙ ap (λ (z : ℕ). z * 10) (ten x) ∙ mul-mul-mul_comm (2 ^ x) (5 ^ x) 2 5 ∙ ap (λ (z : ℕ). z * (5 ^ x * 5)) (sym (pow-suc 2 x)) ∙ ap (λ (z : ℕ). 2 ^ suc x * z) (sym (pow-suc 5 x))

shifted : (i : ℕ) → 2 ^ (i - 342) * 2 ^ 342 ≡ 2 ^ (342 - i) * 2 ^ i
shifted i = sym (pow-add 2 (i - 342) 342) ∙ ap (λ (z : ℕ). 2 ^ z) (omega arith) ∙ pow-add 2 (342 - i) i

ac1 : (n g f a b c d : ℕ) → n * (g * f) * (a * b) * (c * d) ≡ n * d * (f * c) * (g * a * b)
ac1 n g f a b c d = simp (mul_assoc, mul_comm, mul_left_comm)

ac2 : (y w p f g i b : ℕ) → y * w * (p * f) * (g * i * b) ≡ y * (p * i * (w * b) * (g * f))
ac2 y w p f g i b = simp (mul_assoc, mul_comm, mul_left_comm)

abbrev Z : ℕ → ℕ
Z i = 2 ^ (342 - i) * 2 ^ i * 2 ^ 732

fraction_is : (n i s m : ℕ) → m ≡ n * 2 ^ s → Fraction n i s ≡ m * (5 ^ (i - 342) * 2 ^ 863) * Z i
fraction_is n i s m e =
    ap (λ (z : ℕ). n * z * 2 ^ 1074 * 2 ^ (863 + s)) (ten (i - 342))
    ∙ ap (λ (z : ℕ). n * (2 ^ (i - 342) * 5 ^ (i - 342)) * 2 ^ 1074 * z) (pow-add 2 863 s)
    ∙ ac1 n (2 ^ (i - 342)) (5 ^ (i - 342)) (2 ^ 342) (2 ^ 732) (2 ^ 863) (2 ^ s)
    ∙ ap (λ (z : ℕ). z * (5 ^ (i - 342) * 2 ^ 863) * (2 ^ (i - 342) * 2 ^ 342 * 2 ^ 732)) (sym e)
    ∙ ap (λ (z : ℕ). m * (5 ^ (i - 342) * 2 ^ 863) * (z * 2 ^ 732)) (shifted i)

grain_is : (y i : ℕ) → y * 2 ^ 64 * (2 ^ place i * 5 ^ (342 - i)) * Z i ≡ y * Grain i
grain_is y i =
    ac2 y (2 ^ 64) (2 ^ place i) (5 ^ (342 - i)) (2 ^ (342 - i)) (2 ^ i) (2 ^ 732)
    ∙ ap (λ (z : ℕ). y * (z * (2 ^ (342 - i) * 5 ^ (342 - i)))) (sym (pow-add 2 (place i + i) 796 ∙ ap (λ (z : ℕ). z * 2 ^ 796) (pow-add 2 (place i) i)))
    ∙ ap (λ (z : ℕ). y * (2 ^ (place i + i + 796) * z)) (sym (ten (342 - i)))

z_pos : (i : ℕ) → 0 < Z i
z_pos i = mul-pos (mul-pos (pow_pos (342 - i)) (pow_pos i)) (pow_pos 732)

pub bracket : (n i s T m hi lo : ℕ) → Leading i T → hi * 2 ^ 64 + lo ≡ m * T → lo < 2 ^ 64 → m < 2 ^ 64 → 0 < m → m ≡ n * 2 ^ s → Bracket n i s hi 2
unfolding R V0
bracket n i s T m hi lo L e LO M N q =
    record {
      low = le_trans (le_of_eq (sym (grain_is hi i))) (le_trans (mul-le-mul_right (Z i) (lower i T m hi lo L e LO M N)) (le_of_eq (sym (fraction_is n i s m q))));
      high = lt_of_le_of_lt (le_of_eq (fraction_is n i s m q)) (lt_of_lt_of_le (mul-lt-mul_of_pos_right (upper i T m hi lo L e LO M N) (z_pos i)) (le_of_eq (grain_is (hi + 2) i)));
    }

-- ---- with the leading bit of the word at its top, the interval is at most four wide
pub keep : (n i s h : ℕ) → Bracket n i s h 2 → Bracket n i s h 4
keep n i s h b = record { low = b.low; high = lt_of_lt_of_le b.high (mul-le-mul_right (Grain i) (omega arith)) }

pub double : (n i s h : ℕ) → Bracket n i s h 2 → Bracket n i (s + 1) (h * 2) 4
double n i s h b =
    let two : Fraction n i (s + 1) ≡ Fraction n i s * 2 =
    ap (λ (z : ℕ). n * 10 ^ (i - 342) * 2 ^ 1074 * z) (ap (λ (z : ℕ). 2 ^ z) (omega arith) ∙ pow-suc 2 (863 + s)) ∙ sym (mul_assoc (n * 10 ^ (i - 342) * 2 ^ 1074) (2 ^ (863 + s)) 2)
    in
    record {
      low = le_trans (le_of_eq (mul_right_comm h 2 (Grain i))) (le_trans (mul-le-mul_right 2 b.low) (le_of_eq (sym two)));
      high = lt_of_le_of_lt (le_of_eq two) (lt_of_lt_of_le (mul-lt-mul_of_pos_right b.high (omega arith)) (le_of_eq (mul_right_comm (h + 2) (Grain i) 2 ∙ ap (λ (z : ℕ). z * Grain i) (omega arith))));
    }

-- ---- where no boundary lies in the interval, the nearest double is settled
sub_mul : (x y d : ℕ) → (x - y) * d ≡ x * d - y * d
sub_mul x y d = mul_comm (x - y) d ∙ mul-sub d x y ∙ ap (λ (z : ℕ). z - d * y) (mul_comm d x) ∙ ap (λ (z : ℕ). x * d - z) (mul_comm d y)

gap_scale : (x y d : ℕ) → gap x y * d ≡ gap (x * d) (y * d)
gap_scale x y d = add-mul (x - y) (y - x) d ∙ ap (λ (z : ℕ). z + (y - x) * d) (sub_mul x y d) ∙ ap (λ (z : ℕ). x * d - y * d + z) (sub_mul y x d)

-- A = c0 * p * W, r = rem * W and H = p / 2 * W, in steps
down_near : (Q A r W H : ℕ) → A + r ≤ Q → Q < A + r + 4 * W → r + 4 * W ≤ H → gap Q A * 2 < H * 2
down_near Q A r W H l u h = omega arith

up_near : (Q A r W H : ℕ) → 0 < W → 4 * W ≤ H → A + r ≤ Q → Q < A + r + 4 * W → H + W ≤ r → r + W ≤ H * 2 → gap Q (A + H * 2) * 2 < H * 2
up_near Q A r W H p w l u h g = omega arith

halved : (j : ℕ) → 11 ≤ j → 2 ^ j ≡ 2 ^ (j - 1) * 2
halved j h = let e : j ≡ suc (j - 1) = omega arith in ap (λ (z : ℕ). 2 ^ z) e ∙ pow-suc 2 (j - 1)

-- the whole steps in a word of 64 bits, where a step has 11 bits or more; and none where it has 64
pub quotient_small : (h j : ℕ) → h < 2 ^ 64 → 11 ≤ j → h / 2 ^ j < 2 ^ 53
quotient_small h j U J = (div-lt_iff_lt-mul (pow_pos j)).1 (lt_of_lt_of_le U (mul-le-mul_left (2 ^ 53) (pow_mono {i = 11} {j = j} J)))

pub none_left : (h j : ℕ) → h < 2 ^ 64 → 63 < j → h / 2 ^ j ≡ 0
none_left h j U J = div-eq_of_lt (lt_of_lt_of_le U (pow_mono {i = 64} {j = j} J))

-- three times twice is six times
six : (H : ℕ) → 3 * (H * 2) ≡ H * 6
six H = omega arith

-- less than a step and a half more
half_more : (Q A r W H : ℕ) → Q < A + r + 4 * W → r + W ≤ H * 2 → 4 * W ≤ H → Q * 2 < A * 2 + H * 6
half_more Q A r W H u g w = omega arith

module _ (n i s h k j : ℕ) (b : Bracket n i s h 4) (e : k + 67 + s ≡ place i + i + j) (J : 11 ≤ j) (full : (k ≡ 0) ⊎ (2 ^ 52 * 2 ^ j ≤ h)) (U : h < 2 ^ 64) where
  W : ℕ
  W = Grain i

  Q : ℕ
  Q = Fraction n i s

  H : ℕ
  H = 2 ^ (j - 1) * W

  unit : below i * 2 ^ k * 2 ^ (863 + s) ≡ 2 ^ j * W
  unfolding W
  unit =
      let x : 2 ^ k * 2 ^ (863 + s) ≡ 2 ^ j * 2 ^ (place i + i + 796) = sym (pow-add 2 k (863 + s)) ∙ ap (λ (z : ℕ). 2 ^ z) (exps k s (place i + i) j e) ∙ pow-add 2 j (place i + i + 796) in
      mul_assoc (below i) (2 ^ k) (2 ^ (863 + s)) ∙ ap (λ (z : ℕ). below i * z) x ∙ mul_left_comm (below i) (2 ^ j) (2 ^ (place i + i + 796)) ∙ ap (λ (z : ℕ). 2 ^ j * z) (mul_comm (below i) (2 ^ (place i + i + 796)))
    where
      exps : (k s p j : ℕ) → k + 67 + s ≡ p + j → k + (863 + s) ≡ j + (p + 796)
      exps k s p j e = omega arith

  w_pos : 0 < W
  unfolding W
  w_pos = mul-pos (pow_pos (place i + i + 796)) (one-le-pow (342 - i) 10 (omega arith))

  whole : 2 ^ j * W ≡ H * 2
  unfolding H
  whole = ap (λ (z : ℕ). z * W) (halved j J) ∙ mul_right_comm (2 ^ (j - 1)) 2 W

  in_word_lem : h * W ≡ h / 2 ^ j * (2 ^ j * W) + h % 2 ^ j * W
  in_word_lem = sym (ap (λ (z : ℕ). z * W) (div-add-mod' h (2 ^ j))) ∙ add-mul (h / 2 ^ j * 2 ^ j) (h % 2 ^ j) W ∙ ap (λ (z : ℕ). z + h % 2 ^ j * W) (mul_assoc (h / 2 ^ j) (2 ^ j) W)

  least : h / 2 ^ j * (2 ^ j * W) + h % 2 ^ j * W ≤ Q
  unfolding W Q
  least = le_trans (le_of_eq (sym in_word_lem)) b.low

  most : Q < h / 2 ^ j * (2 ^ j * W) + h % 2 ^ j * W + 4 * W
  unfolding W Q
  most = lt_of_lt_of_le b.high (le_of_eq (add-mul h 4 W ∙ ap (λ (z : ℕ). z + 4 * W) in_word_lem))

  -- what the theorem asks, from the same times 2 ^ (863 + s)
  near : (c : ℕ) → gap Q (c * (2 ^ j * W)) * 2 < H * 2 → gap (above n i * 2 ^ 1074) (c * (below i * 2 ^ k)) * 2 < below i * 2 ^ k
  unfolding Q
  near c g =
      let d = 2 ^ (863 + s) in
      let x = above n i * 2 ^ 1074 in
      let y = c * (below i * 2 ^ k) in
      let yd : y * d ≡ c * (2 ^ j * W) = mul_assoc c (below i * 2 ^ k) d ∙ ap (λ (z : ℕ). c * z) unit in
      let gd : gap x y * 2 * d ≡ gap Q (c * (2 ^ j * W)) * 2 = mul_right_comm (gap x y) 2 d ∙ ap (λ (z : ℕ). z * 2) (gap_scale x y d ∙ ap (λ (z : ℕ). gap (x * d) z) yd) in
      lt_of_mul-lt-mul_right d (lt_of_le_of_lt (le_of_eq gd) (lt_of_lt_of_le g (le_of_eq (sym (unit ∙ whole)))))

  low : (k ≡ 0) ⊎ (2 ^ 52 * (below i * 2 ^ k) ≤ above n i * 2 ^ 1074)
  unfolding W Q
  low =
      ⊎_elim (λ (z : k ≡ 0). inl z)
      (λ (f : 2 ^ 52 * 2 ^ j ≤ h).
      let d = 2 ^ (863 + s) in
      let x : 2 ^ 52 * (below i * 2 ^ k) * d ≡ 2 ^ 52 * 2 ^ j * W = mul_assoc (2 ^ 52) (below i * 2 ^ k) d ∙ ap (λ (z : ℕ). 2 ^ 52 * z) unit ∙ sym (mul_assoc (2 ^ 52) (2 ^ j) W) in
      inr (le_of_mul-le-mul_right (le_trans (le_of_eq x) (le_trans (mul-le-mul_right W f) b.low)) (pow_pos (863 + s))))
      full

  -- the number of steps in the word has at most 53 digits, and all of them where a step is more than a unit
  few : h / 2 ^ j < 2 ^ 53
  few = quotient_small h j U J

  all : (k ≡ 0) ⊎ (2 ^ 52 ≤ h / 2 ^ j)
  all = ⊎_elim (λ (z : k ≡ 0). inl z) (λ (f : 2 ^ 52 * 2 ^ j ≤ h). inr ((le-div_iff_mul-le (pow_pos j)).1 f)) full

  below_pos : 0 < below i
  below_pos = one-le-pow (342 - i) 10 (omega arith)

  settled : (c : ℕ) → c ≤ 2 ^ 53 → (k ≡ 0) ⊎ (2 ^ 52 ≤ c) → gap Q (c * (2 ^ j * W)) * 2 < H * 2 → Best (above n i) (below i) c k
  settled c f l g = decided (above n i) (below i) c k below_pos low f l (le_of_lt (near c g)) (λ t. absurd (lt_irrefl (below i * 2 ^ k) (lt_of_le_of_lt (le_of_eq (sym t)) (near c g))))

  -- Below the half of a step, by more than the word leaves open, the steps in the word are nearest;
  pub settled_down : h % 2 ^ j + 4 ≤ 2 ^ (j - 1) → Best (above n i) (below i) (h / 2 ^ j) k
  unfolding H
  settled_down r =
      settled (h / 2 ^ j) (le_of_lt few) all (down_near Q (h / 2 ^ j * (2 ^ j * W)) (h % 2 ^ j * W) W H least most (le_trans (le_of_eq (sym (add-mul (h % 2 ^ j) 4 W))) (mul-le-mul_right W r)))

  four : 4 * W ≤ H
  unfolding H
  four = mul-le-mul_right W (le_trans (lit≤ {m = 4} {n = 2 ^ 10} tt) (pow_mono {i = 10} {j = j - 1} (omega arith)))

  rest : h % 2 ^ j * W + W ≤ H * 2
  rest = le_trans (le_of_eq (sym (suc-mul (h % 2 ^ j) W))) (le_trans (mul-le-mul_right W (mod-lt h (pow_pos j))) (le_of_eq whole))

  more : (k ≡ 0) ⊎ (2 ^ 52 ≤ h / 2 ^ j + 1)
  more = ⊎_elim (λ (z : k ≡ 0). inl z) (λ (f : 2 ^ 52 ≤ h / 2 ^ j). inr (omega arith)) all

  -- above the half it is one step more.
  pub settled_up : 2 ^ (j - 1) < h % 2 ^ j → Best (above n i) (below i) (h / 2 ^ j + 1) k
  unfolding H
  settled_up r =
      let o : H + W ≤ h % 2 ^ j * W = le_trans (le_of_eq (sym (suc-mul (2 ^ (j - 1)) W))) (mul-le-mul_right W r) in
      let f = few in
      settled (h / 2 ^ j + 1) (omega arith) more
      (subst (λ (z : ℕ). gap Q z * 2 < H * 2) (sym (add-mul (h / 2 ^ j) 1 (2 ^ j * W) ∙ ap (λ (z : ℕ). h / 2 ^ j * (2 ^ j * W) + z) (one-mul (2 ^ j * W) ∙ whole)))
      (up_near Q (h / 2 ^ j * (2 ^ j * W)) (h % 2 ^ j * W) W H w_pos four least most o rest))

  -- In any case the fraction is between the steps in the word and one and a half more.
  at_least : h / 2 ^ j * (below i * 2 ^ k) ≤ above n i * 2 ^ 1074
  unfolding Q
  at_least =
      let d = 2 ^ (863 + s) in
      let x : h / 2 ^ j * (below i * 2 ^ k) * d ≡ h / 2 ^ j * (2 ^ j * W) = mul_assoc (h / 2 ^ j) (below i * 2 ^ k) d ∙ ap (λ (z : ℕ). h / 2 ^ j * z) unit in
      le_of_mul-le-mul_right (le_trans (le_of_eq x) (le_trans (le-add_right (h / 2 ^ j * (2 ^ j * W)) (h % 2 ^ j * W)) least)) (pow_pos (863 + s))

  less_than : above n i * 2 ^ 1074 * 2 < (h / 2 ^ j * 2 + 3) * (below i * 2 ^ k)
  unfolding Q
  less_than =
      let d = 2 ^ (863 + s) in
      let c = h / 2 ^ j in
      let x : (c * 2 + 3) * (below i * 2 ^ k) * d ≡ c * (2 ^ j * W) * 2 + H * 6 =
      mul_assoc (c * 2 + 3) (below i * 2 ^ k) d ∙ ap (λ (z : ℕ). (c * 2 + 3) * z) unit ∙ add-mul (c * 2) 3 (2 ^ j * W) ∙ ap (λ (z : ℕ). z + 3 * (2 ^ j * W)) (mul_right_comm c 2 (2 ^ j * W)) ∙ ap (λ (z : ℕ). c * (2 ^ j * W) * 2 + z) (ap (λ (z : ℕ). 3 * z) whole ∙ six H)
      in
      lt_of_mul-lt-mul_right d (lt_of_le_of_lt (le_of_eq (mul_right_comm (above n i * 2 ^ 1074) 2 d)) (lt_of_lt_of_le (half_more Q (c * (2 ^ j * W)) (h % 2 ^ j * W) W H most rest four) (le_of_eq (sym x))))

  pub between : Between n i (h / 2 ^ j) k
  between = record { fit = few; full = all; low = at_least; high = less_than }

-- ---- the leading word has 63 bits at least
pub top_word : (m T hi lo : ℕ) → hi * 2 ^ 64 + lo ≡ m * T → lo < 2 ^ 64 → 2 ^ 63 ≤ m → 2 ^ 63 ≤ T → 2 ^ 62 ≤ hi
top_word m T hi lo e l a b = let p : 2 ^ 63 * 2 ^ 63 ≤ m * T = mul-le-mul a b in omega arith
