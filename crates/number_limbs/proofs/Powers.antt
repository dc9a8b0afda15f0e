-- Powers by many factors at a time, and a number put into two limbs. Assumes nothing.
use mathlib.Core.Path.{◌≡◌, sym, ap, ◌∙◌}
use mathlib.Core.List.{List, [], ◌∷◌}
use Prim.Native.Nat.{ℕ, zero, suc, ◌*◌, ◌/◌, ◌%◌, ◌^◌, ◌≤◌, ◌<◌}
use native.Mathlib.Nat.{le_trans, le_of_eq, lt_of_le_of_lt, mul_assoc, mul-one, mul-le-mul_left, pow-zero, pow-suc, one-le-pow, div-add-mod'}
use native.Mathlib.Omega.{arith}
use lib.ListN.{length, set}
use lib.Pow.{pow-add, pow_pos}
use Rattle.number_limbs.specs.Limbs.{value, Limbs}
use Rattle.number_limbs.proofs.Steps.{K, set_limbs}

-- ---- powers

-- a power of a power
power_of : (b w q : ℕ) → (b ^ w) ^ q ≡ b ^ (q * w)
power_of b w zero = pow-zero (b ^ w) ∙ sym (pow-zero b) ∙ ap (λ (z : ℕ). b ^ z) (sym (native.Mathlib.Nat.zero-mul w))
power_of b w (suc q) =
    pow-suc (b ^ w) q ∙ ap (λ (z : ℕ). z * b ^ w) (power_of b w q) ∙ sym (pow-add b (q * w) w) ∙ ap (λ (z : ℕ). b ^ z) (sym (native.Mathlib.Nat.suc-mul q w))

module _ (v b c w e : ℕ) (is : c ≡ b ^ w) where
  -- e factors are e / w times w factors, and the rest
  pub in_chunks : v * c ^ (e / w) * b ^ (e % w) ≡ v * b ^ e
  in_chunks =
      ap (λ (z : ℕ). v * z ^ (e / w) * b ^ (e % w)) is
      ∙ ap (λ (z : ℕ). v * z * b ^ (e % w)) (power_of b w (e / w))
      ∙ mul_assoc v (b ^ (e / w * w)) (b ^ (e % w))
      ∙ ap (λ (z : ℕ). v * z) (sym (pow-add b (e / w * w) (e % w)) ∙ ap (λ (z : ℕ). b ^ z) (div-add-mod' e w))

  -- and what fits in the end fits before the rest.
  pub chunks_fit : (P : ℕ) → 0 < b → v * b ^ e < P → v * c ^ (e / w) < P
  chunks_fit P B h =
      lt_of_le_of_lt (le_trans (le_of_eq (sym (mul-one (v * c ^ (e / w))))) (le_trans (mul-le-mul_left (v * c ^ (e / w)) (one-le-pow (e % w) b B)) (le_of_eq in_chunks))) h

  -- The rest fits too, behind the chunks,
  pub rest_fits : (u l k : ℕ) → u ≡ v * c ^ (e / w) → l ≡ k → v * b ^ e < K ^ k → u * b ^ (e % w) < K ^ l
  rest_fits u l k q r h = rw (q, r, in_chunks) h

  -- and both together are the power.
  pub raised : (u t : ℕ) → u ≡ v * c ^ (e / w) → t ≡ u * b ^ (e % w) → t ≡ v * b ^ e
  raised u t q r = r ∙ ap (λ (z : ℕ). z * b ^ (e % w)) q ∙ in_chunks

-- a factor less fits too
pub factor_less : (v m P : ℕ) → 0 < m → v * m < P → v < P
factor_less v m P M h = lt_of_le_of_lt (le_trans (le_of_eq (sym (mul-one v))) (mul-le-mul_left v M)) h

-- m, m times ten to p, and that times two to e, in lists of one length
pub first_fits : (v m p e l k : ℕ) → v ≡ m → l ≡ k → m * 10 ^ p * 2 ^ e < K ^ k → v * 10 ^ p < K ^ l
first_fits v m p e l k q r h = rw (q, r) (factor_less (m * 10 ^ p) (2 ^ e) (K ^ k) (pow_pos e) h)

pub second_fits : (u v m p e l k : ℕ) → u ≡ v * 10 ^ p → v ≡ m → l ≡ k → m * 10 ^ p * 2 ^ e < K ^ k → u * 2 ^ e < K ^ l
second_fits u v m p e l k o q r h = rw (o, q, r) h

-- ---- a number in two limbs

pub placed : (x : List ℕ) (m : ℕ) → value x ≡ 0 → 2 ≤ length x → value (set (set x 0 (m % K)) 1 (m / K)) ≡ m
unfolding value
placed [] m z h = absurd (omega arith)
placed (a ∷ []) m z h = absurd (omega arith)
placed (a ∷ b ∷ xs) m z h = omega arith

pub placed_limbs : (x : List ℕ) (m : ℕ) → Limbs x → 2 ≤ length x → m < K * K → Limbs (set (set x 0 (m % K)) 1 (m / K))
placed_limbs x m l h g =
    let a = set_limbs x 0 (m % K) l (omega arith) (omega arith) in
    set_limbs (set x 0 (m % K)) 1 (m / K) a (omega (arith, lib.ListN.length-set x 0 (m % K))) (omega arith)
