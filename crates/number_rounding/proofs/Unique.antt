-- Only one float is nearest to a fraction with ties to even: what `Rounded` says pins the float, by what specs/Unique says of neighbouring magnitudes. Assumes nothing.
use Rattle.std.specs.Prelude.{◌≡◌, refl, Bool, true, false, not, ℕ, suc, ◌+◌, ◌*◌, ◌^◌, ◌≤◌, ◌<◌, Float}
use Rattle.std.proofs.Common.{sym, ap, ◌∙◌, subst, eqb-true, pow_pos}
use native.Mathlib.Nat.{le_refl, le_of_eq, le_antisymm, lt_irrefl, lt_of_lt_of_le, lt_of_le_of_lt, mul-lt-mul_of_pos_right}
use Rattle.std.proofs.lemmas.Bool.{eqb-false}
use lib.Dec.{T, leb, leb→le, nleb→lt, eqb}
use Rattle.std.specs.Float.{binary64}
use Rattle.std.specs.Float.Ieee.{fits, to_bits, of_bits}
use Rattle.std.specs.Float.Ieee.Bits.{of_bits-to_bits}
use Rattle.number_rounding.specs.Near.{gap, EvenDigits, Nearest, Rounded}
use Rattle.number_rounding.specs.Unique.{Magnitude, middle, between, normal, next, apart, magnitude, bits_of, bits_are}

-- ---- two nearest magnitudes are one

module _ (a b : ℕ) (B : 0 < b) where
  -- both nearest, unequal and in this order: impossible
  in_order : (X Y : ℕ) → Nearest a b X → gap (a * 2 ^ 1074) (X * b) ≡ gap (a * 2 ^ 1074) (Y * b) → EvenDigits X → EvenDigits Y → X < Y → ⊥
  in_order X Y r g d f l =
      let x = normal X d in
      let z = suc x.q * 2 ^ x.k in
      let w = next x.q x.k x.fit in
      let n = a * 2 ^ 1074 in
      let lo : X < z = lt_of_le_of_lt (le_of_eq x.is) (mul-lt-mul_of_pos_right (le_refl (suc x.q)) (pow_pos x.k)) in
      let mid : X * b + Y * b ≡ n + n = middle n (X * b) (Y * b) (mul-lt-mul_of_pos_right l B) g in
      let near : gap n (X * b) ≤ gap n (z * b) = subst (λ (v : ℕ). gap n (X * b) ≤ gap n (v * b)) (sym w.is) (r.near w.q w.k w.fit) in
      apart X Y x (normal Y f) l (upto z lo mid near)
    where
      upto : (z : ℕ) → X < z → X * b + Y * b ≡ a * 2 ^ 1074 + a * 2 ^ 1074 → gap (a * 2 ^ 1074) (X * b) ≤ gap (a * 2 ^ 1074) (z * b) → Y ≤ z
      upto z lo mid near = go (leb Y z) (leb→le Y z) (nleb→lt Y z)
        where
          go : (t : Bool) → (T t → Y ≤ z) → (T (not t) → z < Y) → Y ≤ z
          go true h k = h tt
          go false h k =
              let c = between (a * 2 ^ 1074) (X * b) (Y * b) (z * b) mid (mul-lt-mul_of_pos_right lo B) (mul-lt-mul_of_pos_right (k tt) B) in
              absurd (lt_irrefl (gap (a * 2 ^ 1074) (z * b)) (lt_of_lt_of_le c near))

  pub one_nearest : (X Y : ℕ) → Magnitude X → Magnitude Y → Nearest a b X → Nearest a b Y → X ≡ Y
  one_nearest X Y u v r s = go (eqb X Y) refl
    where
      n : ℕ
      n = a * 2 ^ 1074

      g : gap n (X * b) ≡ gap n (Y * b)
      g =
          le_antisymm (subst (λ (z : ℕ). gap n (X * b) ≤ gap n (z * b)) (sym v.is) (r.near v.q v.k v.fit))
          (subst (λ (z : ℕ). gap n (Y * b) ≤ gap n (z * b)) (sym u.is) (s.near u.q u.k u.fit))

      go : (t : Bool) → eqb X Y ≡ t → X ≡ Y
      go true e = eqb-true X Y e
      go false e =
          let d = eqb-false X Y e in
          let x = r.tie v.q v.k v.fit (g ∙ ap (λ (z : ℕ). gap n (z * b)) v.is) (λ w. d (w ∙ sym v.is)) in
          let y = s.tie u.q u.k u.fit (sym g ∙ ap (λ (z : ℕ). gap n (z * b)) u.is) (λ w. d (sym (w ∙ sym u.is))) in
          absurd (order (leb X Y) (leb→le X Y) (nleb→lt X Y) d x y)
        where
          order : (t : Bool) → (T t → X ≤ Y) → (T (not t) → Y < X) → (X ≡ Y → ⊥) → EvenDigits X → EvenDigits Y → ⊥
          order true h k d x y = in_order X Y r g x y (lib.Arith.lt_of_le-ne (h tt) d)
          order false h k d x y = in_order Y X s (sym g) y x (k tt)

-- ---- so are two nearest floats

-- Two floats that are both nearest to a fraction, with the same sign, have the same bits.
pub same_bits : (x y : Float) (s : Bool) (a b : ℕ) → 0 < b → T (fits binary64 x) → T (fits binary64 y) → Rounded x s a b → Rounded y s a b → to_bits binary64 x ≡ to_bits binary64 y
same_bits x y s a b B f g u v =
    let e : u.X ≡ v.X = one_nearest a b B u.X v.X (magnitude x s u.X f u.value) (magnitude y s v.X g v.value) u.nearest v.nearest in
    bits_are x s u.X u.value ∙ ap (bits_of s) e ∙ sym (bits_are y s v.X v.value)

-- So they are one float.
pub one_float : (x y : Float) (s : Bool) (a b : ℕ) → 0 < b → T (fits binary64 x) → T (fits binary64 y) → Rounded x s a b → Rounded y s a b → x ≡ y
one_float x y s a b B f g u v = sym (of_bits-to_bits binary64 x f) ∙ ap (of_bits binary64) (same_bits x y s a b B f g u v) ∙ of_bits-to_bits binary64 y g
