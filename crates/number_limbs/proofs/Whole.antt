-- Repeated products, and the order of two numbers by their highest limb that differs. Assumes nothing.
use mathlib.Core.Path.{◌≡◌, refl, sym, ap, ◌∙◌}
use mathlib.Core.List.{List, [], ◌∷◌, ◌++◌}
use Prim.Native.Nat.{ℕ, zero, suc, ◌+◌, ◌-◌, ◌*◌, ◌^◌, ◌≤◌, ◌<◌}
use native.Mathlib.Nat.{le_trans, le_of_eq, lt_of_le_of_lt, lt_of_lt_of_le, mul-add, mul_assoc, mul_left_comm, mul-le-mul_left, pow-succ', pow-le-pow_right, one-mul}
use native.Mathlib.Numerals.{add-one}
use native.Mathlib.Omega.{arith}
use lib.ListN.{length, take, drop, get_or, take-append-drop}
use lib.Seq.{drop-cons, length-take-le}
use Rattle.std.specs.declared.cmp.Ordering.{Ordering}
use Rattle.std.specs.declared.cmp.Ordering.TheVariants.{Less, Equal, Greater}
use Rattle.std.specs.Ordering.{nat_cmp}
use Rattle.std.specs.Cmp.{ranked}
use Rattle.number_limbs.specs.Limbs.{value, Limbs}
use Rattle.number_limbs.specs.Order.{Ordered}
use Rattle.number_limbs.proofs.Steps.{K}

-- ---- nothing runs over the end while the result still fits
pub no_carry : (v₀ v v' r m e j P : ℕ) → v' + P * r ≡ m * v + 0 → v ≡ v₀ * m ^ j → v₀ * m ^ e < P → 0 < m → j < e → v' ≡ v₀ * m ^ (j + 1)
no_carry v₀ v v' r m e j P t q f p l =
    let a : m * v ≡ v₀ * m ^ (j + 1) = ap (λ (z : ℕ). m * z) q ∙ mul_left_comm m v₀ (m ^ j) ∙ ap (λ (z : ℕ). v₀ * z) (sym (pow-succ' m j) ∙ ap (λ (z : ℕ). m ^ z) (sym (add-one j))) in
    let b : v₀ * m ^ (j + 1) < P = lt_of_le_of_lt (mul-le-mul_left v₀ (pow-le-pow_right p (omega arith))) f in
    go r t a b
  where
    go : (r : ℕ) → v' + P * r ≡ m * v + 0 → m * v ≡ v₀ * m ^ (j + 1) → v₀ * m ^ (j + 1) < P → v' ≡ v₀ * m ^ (j + 1)
    go zero t a b = let z : P * 0 ≡ 0 = native.Mathlib.Nat.mul-zero P in omega arith
    go (suc r) t a b = let z : P * suc r ≡ P * r + P = native.Mathlib.Nat.mul-suc P r in absurd (omega arith)

-- ---- a number of n limbs is below K ^ n
below : (xs : List ℕ) → Limbs xs → value xs < K ^ length xs
unfolding value
below [] l = omega arith
below (x ∷ xs) l =
    let h = below xs (λ k. l (suc k)) in
    let f = l 0 in
    let e : K ^ suc (length xs) ≡ K * K ^ length xs = pow-succ' K (length xs) in
    let g : K * value xs + K ≤ K * K ^ length xs = le_trans (le_of_eq (sym (native.Mathlib.Nat.mul-suc K (value xs)))) (mul-le-mul_left K h) in
    omega arith

join : (xs ys : List ℕ) → value (xs ++ ys) ≡ value xs + K ^ length xs * value ys
unfolding value
join [] ys = let e = one-mul (value ys) in omega arith
join (x ∷ xs) ys =
    let e : K * (value xs + K ^ length xs * value ys) ≡ K * value xs + K ^ suc (length xs) * value ys = mul-add K (value xs) (K ^ length xs * value ys) ∙ ap (λ (z : ℕ). K * value xs + z) (sym (mul_assoc K (K ^ length xs) (value ys)) ∙ ap (λ (z : ℕ). z * value ys) (sym (pow-succ' K (length xs)))) in
    ap (λ (z : ℕ). x + K * z) (join xs ys) ∙ (omega arith)

apart : (xs : List ℕ) (i : ℕ) → i < length xs → value xs ≡ value (take i xs) + K ^ i * (get_or xs i 0 + K * value (drop (suc i) xs))
unfolding value
apart xs i h =
    ap value (sym (take-append-drop i xs)) ∙ join (take i xs) (drop i xs) ∙ ap (λ (z : ℕ). value (take i xs) + K ^ z * value (drop i xs)) (length-take-le i xs (omega arith))
    ∙ ap (λ (z : List ℕ). value (take i xs) + K ^ i * value z) (drop-cons xs i 0 h)

take_limbs : (xs : List ℕ) (i : ℕ) → Limbs xs → Limbs (take i xs)
take_limbs xs zero l k = omega arith
take_limbs [] (suc i) l k = omega arith
take_limbs (x ∷ xs) (suc i) l zero = l 0
take_limbs (x ∷ xs) (suc i) l (suc k) = take_limbs xs i (λ n. l (suc n)) k

-- the highest limb that differs decides
pub decides : (xs ys : List ℕ) (i : ℕ) → Limbs xs → Limbs ys → i < length xs → i < length ys → drop (suc i) xs ≡ drop (suc i) ys → get_or xs i 0 < get_or ys i 0 → value xs < value ys
decides xs ys i lx ly hx hy e g =
    let a = apart xs i hx in
    let b = apart ys i hy ∙ ap (λ (z : List ℕ). value (take i ys) + K ^ i * (get_or ys i 0 + K * value z)) (sym e) in
    let v = K * value (drop (suc i) xs) in
    let t : value (take i xs) < K ^ i = lt_of_lt_of_le (below (take i xs) (take_limbs xs i lx)) (le_of_eq (ap (λ (z : ℕ). K ^ z) (length-take-le i xs (omega arith)))) in
    let m : K ^ i * (get_or xs i 0 + v) + K ^ i ≤ K ^ i * (get_or ys i 0 + v) = le_trans (le_of_eq (sym (native.Mathlib.Nat.mul-suc (K ^ i) (get_or xs i 0 + v)))) (mul-le-mul_left (K ^ i) (omega arith)) in
    omega arith

-- ---- the loop goes down while the limbs are equal
pub same_more : (xs ys : List ℕ) (i : ℕ) → 0 < i → i ≤ length xs → i ≤ length ys → drop i xs ≡ drop i ys → get_or xs (i - 1) 0 ≡ get_or ys (i - 1) 0 → drop (i - 1) xs ≡ drop (i - 1) ys
same_more xs ys zero p hx hy e g = absurd (omega arith)
same_more xs ys (suc i) p hx hy e g =
    let q : suc i - 1 ≡ i = omega arith in
    let g' : get_or xs i 0 ≡ get_or ys i 0 = rw q at g in
    rw q (drop-cons xs i 0 hx ∙ ap (λ (z : ℕ). z ∷ drop (suc i) xs) g' ∙ ap (λ (z : List ℕ). get_or ys i 0 ∷ z) e ∙ sym (drop-cons ys i 0 hy))

pub decides_down : (xs ys : List ℕ) (i : ℕ) → Limbs xs → Limbs ys → 0 < i → i ≤ length xs → i ≤ length ys → drop i xs ≡ drop i ys → get_or xs (i - 1) 0 < get_or ys (i - 1) 0 → value xs < value ys
decides_down xs ys zero lx ly p hx hy e g = absurd (omega arith)
decides_down xs ys (suc i) lx ly p hx hy e g =
    let q : suc i - 1 ≡ i = omega arith in
    decides xs ys i lx ly hx hy e (rw q at g)

-- the order of the highest limbs that are not the same
pub limb_decides : (xs ys : List ℕ) (i : ℕ) (r : Ordering) → Limbs xs → Limbs ys → 0 < i → i ≤ length xs → i ≤ length ys → drop i xs ≡ drop i ys → r ≡ nat_cmp (get_or xs (i - 1) 0) (get_or ys (i - 1) 0) → (r ≡ Equal → ⊥) → Ordered r (value xs) (value ys)
limb_decides xs ys i Less lx ly p hx hy e q n = decides_down xs ys i lx ly p hx hy e (ranked _ _ Less q)
limb_decides xs ys i Equal lx ly p hx hy e q n = absurd (n refl)
limb_decides xs ys i Greater lx ly p hx hy e q n = decides_down ys xs i ly lx p hy hx (sym e) (ranked _ _ Greater q)
