-- A turn of the loop of `mul_add`. Assumes nothing.
use mathlib.Core.Path.{◌≡◌, refl, sym, ap, ◌∙◌, subst}
use mathlib.Core.List.{List, [], ◌∷◌, ◌++◌}
use Prim.Native.Nat.{ℕ, suc, ◌+◌, ◌-◌, ◌*◌, ◌/◌, ◌%◌, ◌^◌, ◌≤◌, ◌<◌}
use native.Mathlib.Nat.{le_refl, mul-add, mul_assoc, mul_comm, mul_left_comm, mul-le-mul, pow-suc, pow-succ', one-mul}
use native.Mathlib.Numerals.{add-one}
use native.Mathlib.Omega.{arith}
use mathlib.Core.Bool.{Bool, true, false}
use lib.Dec.{eqb}
use borrow.Author.Tests.{eqb-true, eqb-false}
use lib.ListN.{length, take, get_or, set, length-set}
use lib.Seq.{take-suc, take-suc-set, take_all, length-take-le, get_or-set_same, get_or-set_other}
use Rattle.number_limbs.specs.Limbs.{value, Limbs}

abbrev pub K : ℕ
K = 2 ^ 32

-- one limb more at the top
snoc : (xs : List ℕ) (v : ℕ) → value (xs ++ (v ∷ [])) ≡ value xs + K ^ length xs * v
unfolding value
snoc [] v = let e = one-mul v in omega arith
snoc (x ∷ xs) v =
    let e : K * (value xs + K ^ length xs * v) ≡ K * value xs + K ^ suc (length xs) * v = mul-add K (value xs) (K ^ length xs * v) ∙ ap (λ (z : ℕ). K * value xs + z) (sym (mul_assoc K (K ^ length xs) v) ∙ ap (λ (z : ℕ). z * v) (sym (pow-succ' K (length xs)))) in
    ap (λ (z : ℕ). x + K * z) (snoc xs v) ∙ (omega arith)

-- a store keeps the limbs
pub set_limbs : (x : List ℕ) (i v : ℕ) → Limbs x → i < length x → v < K → Limbs (set x i v)
set_limbs x i v l h b k = go (eqb k i) refl
  where
    go : (t : Bool) → eqb k i ≡ t → get_or (set x i v) k 0 < K
    go true e = subst (λ (j : ℕ). get_or (set x i v) j 0 < K) (sym (eqb-true k i e)) (subst (λ (z : ℕ). z < K) (sym (get_or-set_same x i v 0 h)) b)
    go false e = subst (λ (z : ℕ). z < K) (sym (get_or-set_other x i k v 0 (eqb-false k i e))) (l k)

pub record Inv (x₀ : List ℕ) (m c : ℕ) (x : List ℕ) (carry i : ℕ) : Type 0 where
  pub len : length x ≡ length x₀
  pub within : i ≤ length x₀
  pub small : carry < K
  pub limbs : Limbs x
  pub same : (k : ℕ) → i ≤ k → get_or x k 0 ≡ get_or x₀ k 0
  pub total : value (take i x) + K ^ i * carry ≡ m * value (take i x₀) + c

pub begin : (x : List ℕ) (m c : ℕ) → Limbs x → c < K → Inv x m c x c 0
unfolding value
begin x m c l h = record { len = refl; within = Prim.Native.Nat.zero-le; small = h; limbs = l; same = λ k _. refl; total = let e = one-mul c in let f : m * 0 ≡ 0 = native.Mathlib.Nat.mul-zero m in omega arith }

pub product : (x m : ℕ) → x < K → m < K → x * m ≤ (K - 1) * (K - 1)
product x m h g = mul-le-mul {n₁ = x} {m₁ = m} {n₂ = K - 1} {m₂ = K - 1} (omega arith) (omega arith)

turn : (a A xi m carry v carry' p pK : ℕ) (c : ℕ) → v + K * carry' ≡ xi * m + carry → pK ≡ p * K → a + p * carry ≡ m * A + c → a + p * v + pK * carry' ≡ m * (A + p * xi) + c
turn a A xi m carry v carry' p pK c e q t =
    let f1 : p * v + pK * carry' ≡ p * (xi * m) + p * carry =
    ap (λ (z : ℕ). p * v + z * carry') q ∙ ap (λ (z : ℕ). p * v + z) (mul_assoc p K carry') ∙ sym (mul-add p v (K * carry')) ∙ ap (λ (z : ℕ). p * z) e ∙ mul-add p (xi * m) carry
    in
    let f2 : m * (A + p * xi) ≡ m * A + p * (xi * m) = mul-add m A (p * xi) ∙ ap (λ (z : ℕ). m * A + z) (mul_left_comm m p xi ∙ ap (λ (z : ℕ). p * z) (mul_comm m xi)) in
    omega arith

module _ (x₀ : List ℕ) (m c : ℕ) (x : List ℕ) (carry i : ℕ) (I : Inv x₀ m c x carry i) (M : m < K) (h : i < length x) where
  t : ℕ
  t = get_or x i 0 * m + carry

  pub bound : get_or x i 0 * m + carry < K * K
  bound = let p = product (get_or x i 0) m (I.limbs i) M in let s = I.small in omega arith

  pub more : Inv x₀ m c (set x i ((get_or x i 0 * m + carry) % K)) ((get_or x i 0 * m + carry) / K) (i + 1)
  unfolding t
  more =
      let v = t % K in
      let l = I.len in
      let e1 : value (take (i + 1) (set x i v)) ≡ value (take i x) + K ^ i * v =
      ap (λ (z : ℕ). value (take z (set x i v))) (add-one i) ∙ ap value (take-suc-set x i v h) ∙ snoc (take i x) v ∙ ap (λ (z : ℕ). value (take i x) + K ^ z * v) (length-take-le i x (omega arith))
      in
      let e2 : value (take (i + 1) x₀) ≡ value (take i x₀) + K ^ i * get_or x i 0 =
      ap (λ (z : ℕ). value (take z x₀)) (add-one i) ∙ ap value (take-suc x₀ i 0 (omega arith)) ∙ snoc (take i x₀) (get_or x₀ i 0)
      ∙ ap (λ (z : ℕ). value (take i x₀) + K ^ z * get_or x₀ i 0) (length-take-le i x₀ (omega arith)) ∙ ap (λ (z : ℕ). value (take i x₀) + K ^ i * z) (sym (I.same i (le_refl i)))
      in
      let e3 : K ^ (i + 1) ≡ K ^ i * K = ap (λ (z : ℕ). K ^ z) (add-one i) ∙ pow-suc K i in
      let b = bound in
      record {
        len = length-set x i v ∙ I.len;
        within = omega arith;
        small = omega arith;
        limbs = set_limbs x i v I.limbs h (omega arith);
        same = λ k g. get_or-set_other x i k v 0 (λ e. omega arith) ∙ I.same k (omega arith);
        total =
            ap (λ (z : ℕ). z + K ^ (i + 1) * (t / K)) e1
            ∙ turn (value (take i x)) (value (take i x₀)) (get_or x i 0) m carry v (t / K) (K ^ i) (K ^ (i + 1)) c (omega arith) e3 I.total
            ∙ ap (λ (z : ℕ). m * z + c) (sym e2);
      }

pub finish : (x₀ : List ℕ) (m c : ℕ) (x : List ℕ) (carry i : ℕ) → Inv x₀ m c x carry i → length x ≤ i → value x + K ^ length x₀ * carry ≡ m * value x₀ + c
finish x₀ m c x carry i I h =
    let l = I.len in
    let w = I.within in
    let e : i ≡ length x₀ = omega arith in
    sym (ap (λ (z : List ℕ). value z + K ^ length x₀ * carry) (take_all i x h)) ∙ ap (λ (z : ℕ). value (take i x) + K ^ z * carry) (sym e) ∙ I.total ∙ ap (λ (z : List ℕ). m * value z + c) (take_all i x₀ (omega arith))
