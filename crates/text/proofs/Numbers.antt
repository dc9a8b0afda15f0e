-- Little-endian numbers in a list of bytes, over any width: a number and its bytes, read or written in two pieces.
-- Assumes nothing.
use Prim.Native.Nat.{ℕ, zero, suc, ◌+◌, ◌-◌, ◌*◌, ◌/◌, ◌%◌, ◌^◌, ◌≤◌, ◌<◌}
use native.Mathlib.Nat.{zero-add, suc-add, mul_assoc, mul_comm, pow-zero, pow-succ', div-one, div-div-eq-div-mul}
use native.Mathlib.Omega.{arith}
use mathlib.Core.Path.{◌≡◌, refl, sym, ap, ◌∙◌}
use mathlib.Core.List.{List, [], ◌∷◌, ◌++◌}
use lib.Arith.{digits_lt}
use lib.ListN.{length, take, drop, get_or, set}
use borrow.Rule.Slice.PartMut.{put_mid}
use Rattle.std.proofs.lemmas.List.Edits.{sets-eq}
use Rattle.std.proofs.lemmas.List.{append_assoc}
use lib.Pow.{pow-add}
use lib.Seq.{sets, take-add, drop-drop, drop-cons}
use mir.Syntax.{w64}
use mir.Facts.{to_z_pos}
use mir.Val.{SFits, to_z, of_z}
use lib.IntN.{ℤ, pos, negsuc}
use lib.Signed.{mag, lt_z}
use lib.Dec.{ltb}
use lib.Ieee.{binary64, nan_bits}
use lib.Ieee.Bits.{nan_bits_above}
use mathlib.Core.Bool.{true, false, true≢false}
use borrow.Author.Tests.{le-ltb, ltb-true}
use Rattle.definition.specs.Bytes.{part, number, little_endian, signed64, unsigned64}
use Rattle.definition_bytes.specs.Numbers.{little_endian_length}
use Rattle.definition_bytes.specs.Same.{part_length}
use Rattle.basics.specs.Lists.{sets_append}
use Rattle.utf8_laws.specs.Bytes.{by_test}
use Rattle.basics.specs.Reads.{Wrote}
use Rattle.text.specs.Words.{Word}

-- ---- parts

-- a part that is lent from its start to its end
pub part_lent : (s : List ℕ) (at n : ℕ) → part s at (at + n - at) ≡ part s at n
part_lent s at n = let e : at + n - at ≡ n = omega arith in ap (part s at) e

-- a write of a whole part
pub part_put : (p : List ℕ) (at n : ℕ) (t r : List ℕ) → r ≡ t → length t ≡ n → at + n ≤ length p → put_mid at (at + n - at) p r ≡ sets p at t
part_put p at n t r e l h =
    let k : at + n - at ≡ n = omega arith in
    rw (k, e, sets-eq t p at (omega (arith, l)), l, drop-drop n at p) (sym (append_assoc (take at p) t (drop (at + n) p)))

-- a part in two pieces
pub part_add : (s : List ℕ) (at n m : ℕ) → part s at (n + m) ≡ part s at n ++ part s (at + n) m
part_add s at n m = rw (take-add n m (drop at s), drop-drop n at s)

-- a part of one element
pub part_one : (s : List ℕ) (at : ℕ) → at < length s → part s at 1 ≡ get_or s at 0 ∷ []
part_one s at h = rw (drop-cons s at 0 h)

-- ---- numbers

-- the number of two runs of bytes
pub number_append : (a b : List ℕ) → number (a ++ b) ≡ number a + 256 ^ length a * number b
unfolding number
number_append [] b = omega arith
number_append (x ∷ a) b = rw (number_append a b, pow-succ', mul_assoc) (omega arith)

-- the number of a part in two pieces
pub number_halves : (s : List ℕ) (at n m : ℕ) → at + n ≤ length s → number (part s at (n + m)) ≡ number (part s at n) + 256 ^ n * number (part s (at + n) m)
number_halves s at n m h = rw (part_add s at n m, number_append (part s at n) (part s (at + n) m), part_length s at n h)

-- a word in two pieces
pub word_halves : {s : List ℕ} {at n m a b : ℕ} → at + n ≤ length s → Word n s at a → Word m s (at + n) b → Word (n + m) s at (a + b * 256 ^ n)
word_halves {s} {at} {n} {m} {a} {b} h x y =
    let d = digits_lt y.fits x.fits in
    let e = pow-add 256 n m ∙ mul_comm (256 ^ n) (256 ^ m) in
    record {
      is = rw (number_halves s at n m h, ← x.is, ← y.is, mul_comm b (256 ^ n));
      fits = omega arith;
    }

-- a byte is a word
pub word_one : (s : List ℕ) (at : ℕ) → at < length s → get_or s at 0 < 256 → Word 1 s at (get_or s at 0)
unfolding number
word_one s at h f = record { is = rw (part_one s at h) (omega arith); fits = f }

-- ---- bytes

-- the bytes of a number in two pieces
pub little_endian_add : (v w n : ℕ) → little_endian (v + w) n ≡ little_endian v n ++ little_endian w (n / 256 ^ v)
unfolding little_endian
little_endian_add zero w n = rw (zero-add, pow-zero, div-one)
little_endian_add (suc v) w n = rw (suc-add, pow-succ', ← div-div-eq-div-mul n 256 (256 ^ v)) (ap (λ (l : List ℕ). n % 256 ∷ l) (little_endian_add v w (n / 256)))

-- ---- stores

-- one more byte of a copy
pub copy_step : (s p : List ℕ) (from at i : ℕ) → from + i < length s → set (sets p at (part s from i)) (at + i) (get_or s (from + i) 0) ≡ sets p at (part s from (i + 1))
copy_step s p from at i h =
    let l : length (part s from i) ≡ i = part_length s from i (omega arith) in
    rw (part_add s from i 1, part_one s (from + i) h, ← sets_append p at (part s from i) (get_or s (from + i) 0 ∷ []), l)

-- a number stored in two pieces
pub wrote_halves : {p q r : List ℕ} {at : ℕ} (v w n : ℕ) → Wrote p at (little_endian v n) q → Wrote q (at + v) (little_endian w (n / 256 ^ v)) r → Wrote p at (little_endian (v + w) n) r
wrote_halves {p} {q} {r} {at} v w n a b =
    let l = little_endian_length v n in
    record { is = b.is ∙ rw (a.is, little_endian_add v w n, ← sets_append p at (little_endian v n) (little_endian w (n / 256 ^ v)), l) }

-- ---- signed numbers and floats

-- the machine's reading of 64 bits as a signed number is two's complement
pub signed64_is : (n : ℕ) → to_z w64 n ≡ signed64 n
signed64_is n = by_test (ltb n (2 ^ 63)) (λ t. rw t) (λ f. rw f)

-- bits whose exponent is not the highest are no NaN's
pub finite_no_nan : (n : ℕ) → n % 2 ^ 63 < 2047 * 2 ^ 52 → nan_bits binary64 n ≡ false
finite_no_nan n h = nan_bits_above binary64 n ∙ le-ltb (2047 * 2 ^ 52) (n % 2 ^ 63) (omega arith)

-- the complement of a negative number's bits is a number that is not negative
pub complement : (z : ℤ) → SFits w64 z → lt_z z (pos 0) ≡ true → to_z w64 (2 ^ 64 - 1 - of_z w64 z) ≡ pos (mag z)
complement (pos n) h e = absurd (let l = ltb-true n 0 e in omega arith)
complement (negsuc n) h e =
    let l = h.sfits in
    let k : 2 ^ 64 - 1 - (2 ^ 64 - suc n) ≡ n = omega arith in
    rw k (to_z_pos w64 l)

-- and its own complement is the number's bits
pub complement_back : (z : ℤ) → SFits w64 z → lt_z z (pos 0) ≡ true → 2 ^ 64 - 1 - mag z ≡ unsigned64 z
complement_back (pos n) h e = absurd (let l = ltb-true n 0 e in omega arith)
complement_back (negsuc n) h e = omega arith

-- a number that is not negative is its bits
pub plain_bits : (z : ℤ) → lt_z z (pos 0) ≡ false → z ≡ pos (unsigned64 z)
plain_bits (pos n) e = refl
plain_bits (negsuc n) e = absurd (true≢false e)

-- the bits of a number fit 64
pub bits_fit : (z : ℤ) → SFits w64 z → unsigned64 z < 2 ^ 64
bits_fit (pos n) h = let l = h.sfits in omega arith
bits_fit (negsuc n) h = let l = h.sfits in omega arith
