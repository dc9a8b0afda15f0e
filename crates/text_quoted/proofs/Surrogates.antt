-- What stands behind a backslash and u: one code point, a surrogate pair, or no escape. Assumes nothing.
use Prim.Native.Nat.{ℕ, ◌+◌, ◌-◌, ◌*◌}
use mathlib.Core.Path.{◌≡◌, refl, sym, ap, ◌∙◌}
use mathlib.Core.List.{List, ◌∷◌}
use mathlib.Core.Bool.{true, false, ◌||◌, false≢true, true≢false}
use native.Mathlib.Omega.{arith}
use lib.ListN.{drop}
use Rattle.definition.specs.Lexical.{Hex4, Escape, hex4_value, is_short, is_high, is_low, spell_hex4, spell_escape}
use Rattle.definition.specs.Lexical.Escape.{short, unicode, pair}
use Rattle.definition.specs.Literals.{escape_value}
use Rattle.basics.specs.Reads.{ReadsNone}
use Rattle.utf8_laws.specs.Bytes.{inside_low, inside_high}
use Rattle.text_quoted.specs.Quoted.{Any}
use Rattle.text_quoted.specs.Pieces.{HasDigits, NoDigits, HasLow, NoLow, HasUnicode}
use Rattle.text_quoted.proofs.Hexes.{under, beyond, hex4_small, hex4_same}

-- u is no letter that names a character by itself
not_short {ℓ} : {X : Type ℓ} (c : ℕ) → c ≡ 0x75 → is_short c ≡ true → X
not_short c e h = absurd (false≢true (rw e at h))

-- An escape that is spelt with u has four digits, or four digits and the escape of a low surrogate.
by_unicode : {X : Type 0} (t r : List ℕ) (x : Escape) → 0x5C ∷ 0x75 ∷ t ≡ spell_escape x r
    → ((k : Hex4) (g : (is_high (hex4_value k) || is_low (hex4_value k)) ≡ false) → x ≡ unicode k g → t ≡ spell_hex4 k r → X)
    → ((k l : Hex4) (g : is_high (hex4_value k) ≡ true) (m : is_low (hex4_value l) ≡ true) → x ≡ pair k l g m → t ≡ spell_hex4 k (0x5C ∷ 0x75 ∷ spell_hex4 l r) → X)
    → X
by_unicode t r (short c h) e one two = let u : c ≡ 0x75 = cc in not_short c u h
by_unicode t r (unicode k g) e one two = one k g refl (cc)
by_unicode t r (pair k l g m) e one two = two k l g m refl (cc)

-- no surrogate is of both kinds
pub high_not_low : (v : ℕ) → is_high v ≡ true → is_low v ≡ false
high_not_low v h = let l = inside_high 0xD800 0xDBFF v h in under 0xDC00 0xDFFF v (omega arith)

pub low_not_high : (v : ℕ) → is_low v ≡ true → is_high v ≡ false
low_not_high v h = let l = inside_low 0xDC00 0xDFFF v h in beyond 0xD800 0xDBFF v (omega arith)

module _ (s : List ℕ) (at : ℕ) where
  -- no digits follow
  pub unicode_none : NoDigits s at → ReadsNone spell_escape Any (0x5C ∷ 0x75 ∷ drop at s)
  unicode_none n =
      record {
        none = λ x r _ e.
            by_unicode (drop at s) r x e
            (λ k g p q. n.none k r q)
            (λ k l g m p q. n.none k (0x5C ∷ 0x75 ∷ spell_hex4 l r) q);
      }

  module _ (v : ℕ) (d : HasDigits s at v) where
    -- digits at the place have the value v, whatever follows them
    value_is : (k : Hex4) (r : List ℕ) → drop at s ≡ spell_hex4 k r → hex4_value k ≡ v
    value_is k r e = let i = d.is in (hex4_same k d.digits r (drop (at + 4) s) (sym e ∙ i)).0 ∙ d.value

    rest_is : (k : Hex4) (r : List ℕ) → drop at s ≡ spell_hex4 k r → r ≡ drop (at + 4) s
    rest_is k r e = let i = d.is in (hex4_same k d.digits r (drop (at + 4) s) (sym e ∙ i)).1

    -- no surrogate: it stands for itself
    pub unicode_one : is_high v ≡ false → is_low v ≡ false → HasUnicode s at v (at + 4)
    unfolding escape_value
    unicode_one h l =
        let g : (is_high (hex4_value d.digits) || is_low (hex4_value d.digits)) ≡ false = rw (d.value, h) l in
        let most = hex4_small d.digits in
        let value = d.value in
        record {
          escape = unicode d.digits g;
          reads =
              record {
                eq = ap (λ (r : List ℕ). 0x5C ∷ 0x75 ∷ r) d.is;
                only = λ x r _ e.
                    by_unicode (drop at s) r x e
                    (λ k g' p q. (rw p (value_is k r q ∙ sym d.value), rest_is k r q))
                    (λ k l' g' m p q. absurd (true≢false (sym g' ∙ ap is_high (value_is k (0x5C ∷ 0x75 ∷ spell_hex4 l' r) q) ∙ h)));
              };
          value = d.value;
          most = omega arith;
          from = omega arith;
          to = d.to;
        }

    -- a low surrogate alone is no escape
    pub unicode_low : is_low v ≡ true → ReadsNone spell_escape Any (0x5C ∷ 0x75 ∷ drop at s)
    unicode_low l =
        record {
          none = λ x r _ e.
              by_unicode (drop at s) r x e
              (λ k g p q. let w = value_is k r q in true≢false (sym (rw (w, low_not_high v l, l)) ∙ g))
              (λ k l' g m p q. true≢false (sym g ∙ ap is_high (value_is k (0x5C ∷ 0x75 ∷ spell_hex4 l' r) q) ∙ low_not_high v l));
        }

    -- a high surrogate with no low one behind it is no escape
    pub unicode_high : is_high v ≡ true → NoLow s (at + 4) → ReadsNone spell_escape Any (0x5C ∷ 0x75 ∷ drop at s)
    unicode_high h n =
        record {
          none = λ x r _ e.
              by_unicode (drop at s) r x e
              (λ k g p q. let w = value_is k r q in true≢false (sym (rw (w, h)) ∙ g))
              (λ k l g m p q. n.none l r m (sym (rest_is k (0x5C ∷ 0x75 ∷ spell_hex4 l r) q)));
        }

    -- a surrogate pair
    pub unicode_pair : (w : ℕ) → is_high v ≡ true → HasLow s (at + 4) w → HasUnicode s at (0x10000 + ((v - 0xD800) * 1024 + (w - 0xDC00))) (at + 10)
    unfolding escape_value
    unicode_pair w h f =
        let n : at + 4 + 6 ≡ at + 10 = omega arith in
        let behind : drop (at + 4) s ≡ 0x5C ∷ 0x75 ∷ spell_hex4 f.digits (drop (at + 10) s) = f.is ∙ ap (λ (m : ℕ). 0x5C ∷ 0x75 ∷ spell_hex4 f.digits (drop m s)) n in
        let vh = inside_high 0xD800 0xDBFF v h in
        let wh = inside_high 0xDC00 0xDFFF w f.low in
        let far = f.to in
        record {
          escape = pair d.digits f.digits (ap is_high d.value ∙ h) (ap is_low f.value ∙ f.low);
          reads =
              record {
                eq = ap (λ (r : List ℕ). 0x5C ∷ 0x75 ∷ r) (d.is ∙ ap (λ (r : List ℕ). spell_hex4 d.digits r) behind);
                only = λ x r _ e.
                    by_unicode (drop at s) r x e
                    (λ k g p q. let y = value_is k r q in absurd (true≢false (sym (rw (y, h)) ∙ g)))
                    (λ k l g m p q.
                    let z = rest_is k (0x5C ∷ 0x75 ∷ spell_hex4 l r) q in
                    let same : spell_hex4 l r ≡ spell_hex4 f.digits (drop (at + 10) s) = cc in
                    let t = hex4_same l f.digits r (drop (at + 10) s) same in
                    (rw (p, value_is k (0x5C ∷ 0x75 ∷ spell_hex4 l r) q, d.value, t.0), t.1));
              };
          value = rw (d.value, f.value);
          most = omega arith;
          from = omega arith;
          to = omega arith;
        }
