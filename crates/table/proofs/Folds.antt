-- The hash of a key, one word more at a time. Assumes nothing.
use Prim.Native.Nat.{ℕ, zero, suc, ◌+◌, ◌-◌, ◌/◌, ◌%◌, ◌≤◌, ◌<◌}
use mathlib.Core.Path.{◌≡◌, refl}
use mathlib.Core.List.{List}
use lib.ListN.{length}
use native.Mathlib.Omega.{arith}
use borrow.Author.Tests.{lt-ltb, le-ltb, eq-eqb, ne_eqb}
use Rattle.definition.specs.Bytes.{part, number}
use Rattle.table.specs.Buckets.{mixed, folded, hash_of}

module _ (w : ℕ) (s : List ℕ) where
  -- with nothing left the hash is what it was
  pub fold_end : (n at h : ℕ) → n ≡ 0 → folded w s n at h ≡ h
  unfolding folded
  fold_end zero at h e = refl
  fold_end (suc n) at h e = absurd (omega arith)

  -- one number is mixed in, and the others are left
  pub fold_on : (n m at h k x : ℕ) → n ≡ m + 1 → x ≡ number (part s at w) → k ≡ mixed h x → folded w s n at h ≡ folded w s m (at + w) k
  unfolding folded
  fold_on zero m at h k x e d f = absurd (omega arith)
  fold_on (suc n) m at h k x e d f = let z : n ≡ m = omega arith in rw (z, f, d)

module _ (s : List ℕ) where
  -- the hash of a key of fewer than four bytes, of whole words, and of words and more
  pub hash_few : length s < 4 → hash_of s ≡ folded 1 s (length s) 0 0
  unfolding hash_of
  hash_few l = rw (lt-ltb (length s) 4 l)

  pub hash_whole : 4 ≤ length s → length s % 4 ≡ 0 → hash_of s ≡ folded 4 s (length s / 4) 0 0
  unfolding hash_of
  hash_whole l e = rw (le-ltb (length s) 4 l, eq-eqb (length s % 4) 0 e)

  pub hash_more : 4 ≤ length s → (length s % 4 ≡ 0 → ⊥) → hash_of s ≡ mixed (folded 4 s (length s / 4) 0 0) (number (part s (length s - 4) 4))
  unfolding hash_of
  hash_more l e = rw (le-ltb (length s) 4 l, ne_eqb (length s % 4) 0 e)
