-- What a run of digits says of a number without a sign at its place. Assumes nothing.
use mathlib.Core.Path.{◌≡◌, refl, sym, ap, ◌∙◌}
use mathlib.Core.Bool.{Bool, true, false}
use mathlib.Core.List.{List, [], ◌∷◌, ◌++◌}
use Prim.Native.Nat.{ℕ, suc, ◌+◌, ◌-◌, ◌<◌, min}
use native.Mathlib.Omega.{arith}
use borrow.Author.Tests.{le-leb, eqb-true, eqb-false}
use lib.Dec.{eqb}
use lib.ListN.{length, drop, get_or}
use Rattle.number_integers.specs.Tests.{both}
use Rattle.definition.specs.Bytes.{every}
use Rattle.definition.specs.Lexical.{is_digit, is_digit1}
use Rattle.definition.specs.Literals.{decimal_from}
use Rattle.basics.specs.Lists.{drop_at}
use Rattle.basics.specs.Reads.{StartsNot, ReadsNone}
use Rattle.number_digits.specs.Runs.{limit, DigitRun}
use Rattle.number_digits.specs.Unsigned.{Unsigned, zero_unsigned, natural_unsigned, spell_unsigned, UnsignedAnswer, unsigned_read, nothing_read}
use Rattle.number_digits.specs.declared.Run.{Run}
use Rattle.std.specs.Prelude.{Ok, Err}
use Rattle.number_digits.proofs.Unique.{begins, digit1_bounds, digit1_digit, digit_bounds}

-- A digit that is no 0 is one from 1 on.
not_zero : (c : ℕ) → is_digit c ≡ true → (c ≡ 48 → ⊥) → is_digit1 c ≡ true
not_zero c e n = let b = digit_bounds c e in rw (le-leb 0x31 c (omega arith), le-leb c 0x39 b.1) refl

-- A text that begins with no digit begins with no number.
no_digit : (t : List ℕ) → StartsNot is_digit t → ReadsNone spell_unsigned (StartsNot is_digit) t
no_digit t n = record { none = go }
  where
    go : (u : Unsigned) (r : List ℕ) → StartsNot is_digit r → t ≡ spell_unsigned u r → ⊥
    go zero_unsigned r m e = begins is_digit 0x30 r refl (rw e at n)
    go (natural_unsigned k) r m e = begins is_digit k.first (k.more ++ r) (digit1_digit k.first k.is_first) (rw e at n)

-- A 0 before another digit is no number that no digit follows.
leading_zero_lem : (d : ℕ) (t : List ℕ) → is_digit d ≡ true → ReadsNone spell_unsigned (StartsNot is_digit) (0x30 ∷ d ∷ t)
leading_zero_lem d t g = record { none = go }
  where
    go : (u : Unsigned) (r : List ℕ) → StartsNot is_digit r → 0x30 ∷ d ∷ t ≡ spell_unsigned u r → ⊥
    go zero_unsigned r m e =
        let f : r ≡ d ∷ t = cc in
        begins is_digit d t g (rw f at m)
    go (natural_unsigned k) r m e =
        let f : 0x30 ≡ k.first = cc in
        let b = digit1_bounds k.first k.is_first in
        omega arith

module _ (s : List ℕ) (at : ℕ) (r : Run) (R : DigitRun s at 0 r.end r.value) where
  -- No digit: nothing stands there.
  pub none_there : r.end ≡ at → UnsignedAnswer s at (Err at)
  none_there e =
      let c = R.to in
      nothing_read {place = at} (omega arith) (omega arith) (no_digit (drop at s) (rw e at R.stop))

  -- The first of some digits is the byte there.
  first_is : (d : ℕ) (ds : List ℕ) → drop at s ≡ (d ∷ ds) ++ drop r.end s → at < length s → get_or s at 0 ≡ d
  first_is d ds t h = let e = drop_at s at h in cc

  -- Digits that begin with no 0 are a number, and so is a single 0.
  by_first : (d : ℕ) (ds : List ℕ) → is_digit d ≡ true → every is_digit ds ≡ true → drop at s ≡ (d ∷ ds) ++ drop r.end s → r.value ≡ min limit (decimal_from 0 (d ∷ ds)) → r.end ≡ at + suc (length ds) → (d ≡ 48 → r.end - at ≡ 1)
      → (o : Bool) → eqb d 48 ≡ o → UnsignedAnswer s at (Ok r)
  by_first d [] i g t w c z true e =
      let k = R.to in
      let f : d ≡ 48 = eqb-true d 48 e in
      unsigned_read zero_unsigned (record { from = omega arith; to = k; text = t ∙ ap (λ (x : ℕ). x ∷ drop r.end s) f; stop = R.stop }) (w ∙ ap (λ (x : ℕ). min limit (decimal_from 0 (x ∷ []))) f)
  by_first d (x ∷ ds) i g t w c z true e = let f = z (eqb-true d 48 e) in absurd (omega arith)
  by_first d ds i g t w c z false e =
      let k = R.to in
      unsigned_read (natural_unsigned (record { first = d; more = ds; is_first = not_zero d i (eqb-false d 48 e); are_more = g })) (record { from = omega arith; to = k; text = t; stop = R.stop }) w

  pub number_there : (r.end ≡ at → ⊥) → (get_or s at 0 ≡ 48 → r.end - at ≡ 1) → UnsignedAnswer s at (Ok r)
  number_there h z = go R.digits R.good R.text R.value R.count
    where
      go : (ds : List ℕ) → every is_digit ds ≡ true → drop at s ≡ ds ++ drop r.end s → r.value ≡ min limit (decimal_from 0 ds) → r.end ≡ at + length ds → UnsignedAnswer s at (Ok r)
      go [] g t w c = absurd (h (omega arith))
      go (d ∷ ds) g t w c =
          let b = both (is_digit d) (every is_digit ds) g in
          let k = R.to in
          by_first d ds b.0 b.1 t w c (λ e. z (first_is d ds t (omega arith) ∙ e)) (eqb d 48) refl

  -- A 0 before other digits is none.
  pub zero_first : (r.end ≡ at → ⊥) → get_or s at 0 ≡ 48 → (r.end - at ≡ 1 → ⊥) → UnsignedAnswer s at (Err (at + 1))
  zero_first h z o = go R.digits R.good R.text R.count
    where
      go : (ds : List ℕ) → every is_digit ds ≡ true → drop at s ≡ ds ++ drop r.end s → r.end ≡ at + length ds → UnsignedAnswer s at (Err (at + 1))
      go [] g t c = absurd (h (omega arith))
      go (d ∷ []) g t c = absurd (o (omega arith))
      go (d ∷ x ∷ ds) g t c =
          let b = both (is_digit x) (every is_digit ds) (both (is_digit d) (every is_digit (x ∷ ds)) g).1 in
          let k = R.to in
          let f = first_is d (x ∷ ds) t (omega arith) in
          let e : drop at s ≡ 0x30 ∷ x ∷ (ds ++ drop r.end s) = t ∙ ap (λ (y : ℕ). y ∷ x ∷ (ds ++ drop r.end s)) (sym f ∙ z) in
          nothing_read {place = at + 1} (omega arith) (omega arith) (rw e (leading_zero_lem x (ds ++ drop r.end s) b.0))
