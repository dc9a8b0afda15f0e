-- The escape of a low surrogate at a place: where it stands, and where not. Assumes nothing.
use Prim.Native.Nat.{ℕ, ◌+◌, ◌-◌, ◌<◌}
use mathlib.Core.Path.{◌≡◌, sym, ap, ◌∙◌}
use mathlib.Core.List.{List, ◌∷◌}
use mathlib.Core.Bool.{true, false, true≢false}
use native.Mathlib.Omega.{arith}
use lib.ListN.{length, drop, get_or, length-drop}
use Rattle.definition.specs.Lexical.{is_low, spell_hex4}
use Rattle.text_quoted.specs.Pieces.{HasDigits, NoDigits, HasLow, NoLow}
use Rattle.text_quoted.proofs.Hexes.{hex4_same}
use Rattle.text_quoted.proofs.Places.{begins_here}

module _ (s : List ℕ) (at : ℕ) where
  -- too few bytes are left
  pub low_short : length s - at < 2 → NoLow s at
  low_short l = record { none = λ h r w e. let k = ap length e in let m = length-drop at s in absurd (omega arith) }

  -- the first byte is no backslash
  pub low_slash : at < length s → (get_or s at 0 ≡ 0x5C → ⊥) → NoLow s at
  low_slash l n = record { none = λ h r w e. n (begins_here s at 0x5C (0x75 ∷ spell_hex4 h r) l e).0 }

  -- the second byte is no u
  pub low_letter : at + 1 < length s → (get_or s (at + 1) 0 ≡ 0x75 → ⊥) → NoLow s at
  low_letter l n =
      record { none = λ h r w e. n (begins_here s (at + 1) 0x75 (spell_hex4 h r) l (begins_here s at 0x5C (0x75 ∷ spell_hex4 h r) (omega arith) e).1).0 }

  module _ (begins : drop at s ≡ 0x5C ∷ 0x75 ∷ drop (at + 2) s) where
    -- no digits follow
    pub low_digits : NoDigits s (at + 2) → NoLow s at
    low_digits d = record { none = λ h r w e. let k : drop (at + 2) s ≡ spell_hex4 h r = cc in d.none h r k }

    -- what the digits write is no low surrogate
    pub low_not : (v : ℕ) → HasDigits s (at + 2) v → is_low v ≡ false → NoLow s at
    low_not v d f =
        record {
          none = λ h r w e.
              let i = d.is in
              let k : spell_hex4 h r ≡ spell_hex4 d.digits (drop (at + 2 + 4) s) = cc in
              let m = (hex4_same h d.digits r (drop (at + 2 + 4) s) k).0 ∙ d.value in
              true≢false (sym w ∙ ap is_low m ∙ f);
        }

    -- it is one
    pub low_found : (v : ℕ) → HasDigits s (at + 2) v → is_low v ≡ true → HasLow s at v
    low_found v d t =
        let n : at + 2 + 4 ≡ at + 6 = omega arith in
        let l = d.to in
        record {
          digits = d.digits;
          is = begins ∙ ap (λ (r : List ℕ). 0x5C ∷ 0x75 ∷ r) (d.is ∙ ap (λ (m : ℕ). spell_hex4 d.digits (drop m s)) n);
          value = d.value;
          low = t;
          to = omega arith;
        }
