-- What the digits before a fraction, with their sign, say of an int at their place. Assumes nothing.
use mathlib.Core.Path.{◌≡◌, refl, sym, ap, ◌∙◌}
use mathlib.Core.Bool.{Bool, true, false, cond, true≢false}
use mathlib.Core.List.{List}
use Prim.Native.Nat.{ℕ, ◌+◌, ◌≤◌, ◌<◌, min}
use native.Mathlib.Omega.{arith}
use borrow.Author.Tests.{lt-leb, leb-true, leb-false}
use lib.Dec.{leb}
use lib.ListN.{length, drop}
use mir.Syntax.{w64}
use mir.Val.{SFits}
use Rattle.std.specs.Prelude.{Result, Ok, Err, MatchResult, IsErrAnd}
use Rattle.definition.specs.Limits.{max_int}
use Rattle.definition.specs.Lexical.{Int, Whole, is_digit, spell_int, spell_whole}
use Rattle.definition.specs.Lexical.Int.{zero_int, plain_int, minus_int}
use Rattle.definition.specs.Lexical.Whole.{int_whole, minus_zero}
use Rattle.definition.specs.Literals.{decimal, decimal_from, natural_digits, int_value, in_range, whole_digits, is_minus}
use Rattle.basics.specs.Reads.{StartsNot}
use Rattle.number_integers.specs.Signed.{signed, size_of}
use Rattle.number_digits.specs.Runs.{limit}
use Rattle.number_digits.specs.Unsigned.{unsigned_digits}
use Rattle.number_digits.proofs.Unique.{natural_above}
use Rattle.number_literals.proofs.Ranges.{minus_fits, plus_fits}
use Rattle.number_parse.specs.Ints.{IntAt, IntAnswer, next_int, out_int, no_int, ranged}
use Rattle.number_parse.specs.Parts.{WholeAt, WholeAnswer, whole_end, bad_whole}
use Rattle.number_parse.specs.declared.IntError.{IntError}
use Rattle.number_parse.specs.declared.IntError.TheVariants.{OutOfRange, Nothing}
use Rattle.number_parse.specs.declared.WholeRead.{WholeRead}
use Rattle.number_parse.proofs.Signed.{int_sign, int_unsigned, int_only, int_value_lem, whole_digits_lem, whole_only}

-- A magnitude in range fits an i64, with either sign.
pub small_fits : (t : Bool) (n : ℕ) → n ≤ max_int → SFits w64 (signed t n)
small_fits false n h = plus_fits n (omega arith)
small_fits true n h = minus_fits n (omega arith)

-- ---- an int that stands there

module _ (s : List ℕ) (at end : ℕ) (i : Int) (from : at < end) (to : end ≤ length s) (text : drop at s ≡ spell_int i (drop end s)) (stop : StartsNot is_digit (drop end s)) where
  -- It is the only one.
  there : IntAt s at end i
  there = record { from = from; to = to; reads = record { eq = text; only = λ j r m f. int_only i j (drop end s) r stop m (sym text ∙ f) }; may = stop }

  -- The answer by its magnitude, which may be kept at the limit.
  by_range : (t : Bool) (n v : ℕ) → int_value i ≡ signed t n → v ≡ min limit n → IntAnswer s at (ranged end t v)
  by_range t n v e k = go (leb v max_int) refl
    where
      go : (b : Bool) → leb v max_int ≡ b → IntAnswer s at (cond b (Ok (record { end = end; value = signed t v })) (Err (OutOfRange end)))
      go true h =
          let l = leb-true v max_int h in
          let f : n ≡ v = omega arith in
          next_int {r = record { end = end; value = signed t v }} i there (ap (signed t) (sym f) ∙ sym e) (ap (λ (z : ℕ). leb z max_int) (size_of t v) ∙ h)
      go false h =
          let l = leb-false v max_int h in
          out_int i there (ap in_range e ∙ ap (λ (z : ℕ). leb z max_int) (size_of t n) ∙ lt-leb n max_int (omega arith))

-- ---- the digits before a fraction

-- The sign of an int, and its value.
minus_is : (i : Int) → is_minus (int_whole i) ≡ int_sign i
unfolding is_minus
minus_is zero_int = refl
minus_is (plain_int n) = refl
minus_is (minus_int n) = refl

value_is : (i : Int) → int_value i ≡ signed (is_minus (int_whole i)) (decimal (whole_digits (int_whole i)))
value_is i = int_value_lem i ∙ ap (λ (t : Bool). signed t (decimal (unsigned_digits (int_unsigned i)))) (sym (minus_is i)) ∙ ap (λ (ds : List ℕ). signed (is_minus (int_whole i)) (decimal ds)) (sym (whole_digits_lem (int_whole i)))

module _ (s : List ℕ) (at : ℕ) where
  -- Where they are none, there is no int.
  pub no_whole_int : (place : ℕ) → WholeAnswer s at (Err place) → IntAnswer s at (Err (Nothing place))
  no_whole_int place (bad_whole f t k) = no_int f t (record { none = λ j r m e. k.none (int_whole j) r m e })

  module _ (w : WholeRead) (W : WholeAt s at w.end w.negative w.value) where
    -- They are an int, unless they are a 0 with a minus.
    pub whole_int : (w.negative ≡ true → w.value ≡ 0 → ⊥) → IntAnswer s at (ranged w.end w.negative w.value)
    unfolding is_minus whole_digits decimal_from
    whole_int z = go W.tree W.text W.sign W.value
      where
        go : (t : Whole) → drop at s ≡ spell_whole t (drop w.end s) → w.negative ≡ is_minus t → w.value ≡ min limit (decimal (whole_digits t)) → IntAnswer s at (ranged w.end w.negative w.value)
        go (int_whole i) e g v = by_range s at w.end i W.from W.to e W.stop w.negative (decimal (whole_digits (int_whole i))) w.value (value_is i ∙ ap (λ (t : Bool). signed t (decimal (whole_digits (int_whole i)))) (sym g)) v
        go minus_zero e g v = absurd (z g v)

    -- That is none.
    pub minus_zero_int : w.negative ≡ true → w.value ≡ 0 → IntAnswer s at (Err (Nothing (at + 1)))
    unfolding is_minus whole_digits
    minus_zero_int n z =
        let f = W.from in
        let t = W.to in
        no_int {place = at + 1} (omega arith) (omega arith) (record { none = go })
      where
        at_zero : (j : Int) → is_minus W.tree ≡ is_minus (int_whole j) → whole_digits W.tree ≡ whole_digits (int_whole j) → ⊥
        at_zero zero_int a b = true≢false (sym n ∙ W.sign ∙ a)
        at_zero (plain_int k) a b = true≢false (sym n ∙ W.sign ∙ a)
        at_zero (minus_int k) a b =
            let l = natural_above k in
            let e : 0 ≡ min limit (decimal (natural_digits k)) = sym z ∙ W.value ∙ ap (λ (ds : List ℕ). min limit (decimal ds)) b in
            omega arith

        go : (j : Int) (r : List ℕ) → StartsNot is_digit r → drop at s ≡ spell_int j r → ⊥
        go j r m e =
            let k = whole_only W.tree (int_whole j) (drop w.end s) r W.stop m (sym W.text ∙ e) in
            at_zero j k.0 k.1

-- ---- what the reader of these digits answered, behind its `map_err`

pub whole_read : {s : List ℕ} {at : ℕ} (r : Result WholeRead ℕ) (w : WholeRead) → WholeAnswer s at r → MatchResult r (λ x. ◌≡◌ {A = Result WholeRead IntError} (Ok w) (Ok x)) (λ p. ⊥) → WholeAt s at w.end w.negative w.value
whole_read (Ok x) w (whole_end W) e = let f : w ≡ x = cc in rw f W
whole_read (Err p) w W e = absurd e

pub whole_unread : {s : List ℕ} {at : ℕ} (r : Result WholeRead ℕ) (e : IntError) → WholeAnswer s at r → MatchResult r (λ x. ◌≡◌ {A = Result WholeRead IntError} (Err e) (Ok x)) (λ p. IsErrAnd {T = WholeRead} (Err e) (λ y. y ≡ Nothing p)) → IntAnswer s at (Err e)
whole_unread (Ok x) e W m = let z : ⊥ = cc in absurd z
whole_unread {s} {at} (Err p) e W m = rw m (no_whole_int s at p W)
