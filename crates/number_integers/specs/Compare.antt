-- What a comparison of natural numbers says. Assumes nothing.
use Rattle.std.specs.Prelude.{◌≡◌, refl, not, T, eqb}
use Rattle.std.proofs.Common.{subst, arith, leb→le, eqb→eq}
use Prim.Native.Nat.{ℕ, ◌≤◌, ◌<◌, compare, Ordering}
use Rattle.std.proofs.Math.Arith.{lt_of_le-ne}
use Rattle.std.proofs.Math.Dec.{is_le, compare_is_eq, nleb→lt, eqb_refl}

-- what each outcome says
abbrev pub Says : Ordering → ℕ → ℕ → Type 0
Says Ordering.lt a b = a < b
Says Ordering.eq a b = a ≡ b
Says Ordering.gt a b = b < a

-- `compare` says what is so.
pub said : (a b : ℕ) → Says (compare a b) a b
said a b = go (compare a b) (leb→le a b) (nleb→lt a b) (eqb→eq a b) (λ (e : a ≡ b). subst (λ (x : ℕ). T (eqb a x)) e (eqb_refl a))
  where
    go : (o : Ordering) → (T (is_le o) → a ≤ b) → (T (not (is_le o)) → b < a) → (T (compare_is_eq o) → a ≡ b) → (a ≡ b → T (compare_is_eq o)) → Says o a b
    go Ordering.lt h k e n = lt_of_le-ne (h tt) n
    go Ordering.eq h k e n = e tt
    go Ordering.gt h k e n = k tt

-- No two outcomes are so at once, so what is so is what `compare` says.
one_outcome : (o w : Ordering) (a b : ℕ) → Says o a b → Says w a b → o ≡ w
one_outcome Ordering.lt Ordering.lt a b h k = refl
one_outcome Ordering.lt Ordering.eq a b h k = absurd (omega arith)
one_outcome Ordering.lt Ordering.gt a b h k = absurd (omega arith)
one_outcome Ordering.eq Ordering.lt a b h k = absurd (omega arith)
one_outcome Ordering.eq Ordering.eq a b h k = refl
one_outcome Ordering.eq Ordering.gt a b h k = absurd (omega arith)
one_outcome Ordering.gt Ordering.lt a b h k = absurd (omega arith)
one_outcome Ordering.gt Ordering.eq a b h k = absurd (omega arith)
one_outcome Ordering.gt Ordering.gt a b h k = refl

pub compared : (o : Ordering) (a b : ℕ) → Says o a b → compare a b ≡ o
compared o a b h = one_outcome (compare a b) o a b (said a b) h
