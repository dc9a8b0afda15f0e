-- The loop over a run of digits. Assumes nothing.
use mathlib.Core.Path.{◌≡◌, refl, sym, ap, ◌∙◌}
use mathlib.Core.Bool.{Bool, true, false, ◌&&◌}
use mathlib.Core.List.{List, [], ◌∷◌, ◌++◌, append_assoc}
use Prim.Native.Nat.{ℕ, ◌+◌, ◌-◌, ◌*◌, ◌≤◌, ◌<◌, min}
use native.Mathlib.Nat.{add-zero}
use native.Mathlib.Omega.{arith}
use lib.ListN.{length, drop, get_or, length-append, drop_of_length-le}
use Rattle.definition.specs.Bytes.{every}
use Rattle.definition.specs.Lexical.{is_digit}
use Rattle.definition.specs.Literals.{decimal_from}
use Rattle.basics.specs.Lists.{drop_at}
use Rattle.basics.specs.Reads.{StartsNot}
use Rattle.number_digits.specs.Runs.{limit, DigitRun}

-- ---- one digit more at the end

pub every_end : (p : ℕ → Bool) (ds : List ℕ) (c : ℕ) → every p ds ≡ true → p c ≡ true → every p (ds ++ c ∷ []) ≡ true
every_end p [] c g h = ap (λ (t : Bool). t && true) h
every_end p (d ∷ ds) c g h = go (p d) (λ e. every_end p ds c e h) g
  where
    go : (t : Bool) → (every p ds ≡ true → every p (ds ++ c ∷ []) ≡ true) → (t && every p ds) ≡ true → (t && every p (ds ++ c ∷ [])) ≡ true
    go true k e = k e
    go false k e = e

pub decimal_end : (n : ℕ) (ds : List ℕ) (c : ℕ) → decimal_from n (ds ++ c ∷ []) ≡ decimal_from n ds * 10 + (c - 48)
unfolding decimal_from
decimal_end n [] c = refl
decimal_end n (d ∷ ds) c = decimal_end (n * 10 + (d - 48)) ds c

-- A number that is kept at the limit before a digit is the same as one that is kept only behind it.
pub kept_once : (a d : ℕ) → min limit (min limit a * 10 + d) ≡ min limit (a * 10 + d)
kept_once a d = omega arith

-- ---- the loop's invariant: what was passed are digits, and they write `acc`

pub record Passed (s : List ℕ) (from start acc i : ℕ) : Type 0 where
  pub digits : List ℕ
  pub good : every is_digit digits ≡ true
  pub text : drop from s ≡ digits ++ drop i s
  pub value : acc ≡ min limit (decimal_from start digits)
  pub count : i ≡ from + length digits
  pub to : i ≤ length s

-- At first nothing was passed.
pub begin : (s : List ℕ) (from start : ℕ) → from ≤ length s → start ≤ limit → Passed s from start start from
unfolding decimal_from
begin s from start h l = record { digits = []; good = refl; text = refl; value = omega arith; count = sym (add-zero from); to = h }

module _ (s : List ℕ) (from start acc i : ℕ) (P : Passed s from start acc i) where
  -- A digit is passed.
  pub pass : i < length s → is_digit (get_or s i 0) ≡ true → Passed s from start (min limit (acc * 10 + (get_or s i 0 - 48))) (i + 1)
  pass h t =
      let c = get_or s i 0 in
      let ds = P.digits in
      let n = P.count in
      record {
        digits = ds ++ c ∷ [];
        good = every_end is_digit ds c P.good t;
        text = P.text ∙ ap (λ (r : List ℕ). ds ++ r) (drop_at s i h) ∙ sym (append_assoc ds (c ∷ []) (drop (i + 1) s));
        value = ap (λ (a : ℕ). min limit (a * 10 + (c - 48))) P.value ∙ kept_once (decimal_from start ds) (c - 48) ∙ ap (min limit) (sym (decimal_end start ds c));
        count = omega (arith, length-append ds (c ∷ []));
        to = omega arith;
      }

  -- The loop stops where no digit stands.
  stop : StartsNot is_digit (drop i s) → DigitRun s from start i acc
  stop t = record { digits = P.digits; good = P.good; text = P.text; stop = t; value = P.value; count = P.count; to = P.to }

  pub at_end : length s ≤ i → DigitRun s from start i acc
  unfolding StartsNot
  at_end h = stop (rw (drop_of_length-le s h) tt)

  pub stops : i < length s → is_digit (get_or s i 0) ≡ false → DigitRun s from start i acc
  unfolding StartsNot
  stops h n = stop (rw (drop_at s i h) n)
