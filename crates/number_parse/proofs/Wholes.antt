-- What a number without a sign says of the digits before a fraction at its place, or before it where a minus stands. Assumes nothing.
use mathlib.Core.Path.{◌≡◌, sym, ap, ◌∙◌}
use mathlib.Core.Bool.{Bool, true, false}
use mathlib.Core.List.{List, ◌∷◌}
use Prim.Native.Nat.{ℕ, ◌+◌, ◌≤◌, ◌<◌, min}
use native.Mathlib.Omega.{arith}
use lib.ListN.{length, drop}
use native.Mathlib.Nat.{add-zero}
use Rattle.std.specs.Prelude.{Ok, Err}
use Rattle.std.specs.Int.{from_bool}
use Rattle.definition.specs.Lexical.{is_digit}
use Rattle.definition.specs.Literals.{decimal, is_minus}
use Rattle.basics.specs.Reads.{StartsNot}
use Rattle.number_digits.specs.Runs.{Is, limit}
use Rattle.number_digits.specs.Unsigned.{Unsigned, spell_unsigned, unsigned_digits, UnsignedAnswer, unsigned_read, nothing_read}
use Rattle.number_digits.specs.declared.Run.{Run}
use Rattle.number_parse.specs.Parts.{WholeAnswer, whole_end, bad_whole}
use Rattle.number_parse.proofs.Signed.{with_sign, no_minus, whole_unsigned, whole_of, whole_spelled, whole_digits_lem, whole_sign, whole_of_lem}

-- The digits before a fraction, from their sign and the number behind it.
module _ (s : List ℕ) (at end : ℕ) (t : Bool) (u : Unsigned) (from : at < end) (to : end ≤ length s) (text : drop at s ≡ with_sign t (spell_unsigned u (drop end s))) (stop : StartsNot is_digit (drop end s)) where
  there : (n : ℕ) → n ≡ min limit (decimal (unsigned_digits u)) → WholeAnswer s at (Ok (record { end = end; negative = t; value = n }))
  there n e =
      let w = whole_of t u in
      whole_end {r = record { end = end; negative = t; value = n }}
      (record {
        from = from;
        to = to;
        tree = w;
        text = text ∙ ap (λ (v : Unsigned). with_sign t (spell_unsigned v (drop end s))) (sym (whole_of_lem t u)) ∙ ap (λ (b : Bool). with_sign b (spell_unsigned (whole_unsigned w) (drop end s))) (whole_sign t u) ∙ sym (whole_spelled w (drop end s));
        stop = stop;
        sign = whole_sign t u;
        value = e ∙ ap (λ (v : Unsigned). min limit (decimal (unsigned_digits v))) (sym (whole_of_lem t u)) ∙ ap (λ (ds : List ℕ). min limit (decimal ds)) (sym (whole_digits_lem w));
      })

-- No digits before a fraction, where no number stands behind the sign that is there.
none_there : (s : List ℕ) (at place : ℕ) → at ≤ place → place ≤ length s → ((b : Bool) (u : Unsigned) (r : List ℕ) → StartsNot is_digit r → drop at s ≡ with_sign b (spell_unsigned u r) → ⊥) → WholeAnswer s at (Err place)
none_there s at place f t k = bad_whole f t (record { none = λ w r m e. k (is_minus w) (whole_unsigned w) r m (e ∙ whole_spelled w r) })

-- ---- behind a minus, or where there is none

-- A place behind a minus, or the place itself.
abbrev pub behind : Bool → ℕ → ℕ
behind t at = at + from_bool t

pub behind_in : (s : List ℕ) (at : ℕ) (t : Bool) → at ≤ length s → Is s at 0x2D t → behind t at ≤ length s
behind_in s at true h i = i.0
behind_in s at false h i = omega arith

-- What stands there.
behind_text : (s : List ℕ) (at : ℕ) (t : Bool) → Is s at 0x2D t → (r : List ℕ) → drop (behind t at) s ≡ r → drop at s ≡ with_sign t r
behind_text s at true i r e = i.1 ∙ ap (λ (x : List ℕ). 0x2D ∷ x) e
behind_text s at false i r e = ap (λ (x : ℕ). drop x s) (sym (add-zero at)) ∙ e

behind_only : (s : List ℕ) (at : ℕ) (t : Bool) → Is s at 0x2D t → (b : Bool) (v : Unsigned) (r : List ℕ) → drop at s ≡ with_sign b (spell_unsigned v r) → drop (behind t at) s ≡ spell_unsigned v r
behind_only s at true i true v r e = let d = i.1 in cc
behind_only s at true i false v r e = absurd (no_minus v r (drop (at + 1) s) (sym e ∙ i.1))
behind_only s at false i true v r e = absurd (i (spell_unsigned v r) e)
behind_only s at false i false v r e = ap (λ (x : ℕ). drop x s) (add-zero at) ∙ e

module _ (s : List ℕ) (at : ℕ) (t : Bool) (I : Is s at 0x2D t) where
  -- A number behind the sign, and none.
  pub whole_there : (r : Run) → UnsignedAnswer s (behind t at) (Ok r) → WholeAnswer s at (Ok (record { end = r.end; negative = t; value = r.value }))
  whole_there r (unsigned_read u U e) = there s at r.end t u (omega (arith, U.from)) U.to (behind_text s at t I (spell_unsigned u (drop r.end s)) U.text) U.stop r.value e

  pub whole_none : (place : ℕ) → UnsignedAnswer s (behind t at) (Err place) → WholeAnswer s at (Err place)
  whole_none place (nothing_read f l u) = none_there s at place (omega arith) l (λ b v r m e. u.none v r m (behind_only s at t I b v r e))
