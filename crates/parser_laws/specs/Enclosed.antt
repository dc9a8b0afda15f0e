-- The laws of S x S close, behind an opening byte: parentheses, brackets and the arguments of a call.
use Rattle.std.specs.Prelude.{◌≡◌, false, List, ◌∷◌, ℕ, ◌<◌}
use Rattle.std.proofs.Common.{sym, ap, ◌∙◌}
use Rattle.definition.specs.Lexical.{Blanks, is_blank, spell_blanks}
use Rattle.parser_follow.specs.Blanks.{split_blanks, unblank_blanks, unblank_byte}
use Rattle.basics.specs.Reads.{Reads, ReadsNone}
use Rattle.parser_follow.specs.Follow.{unblank, level_of, After}
use Rattle.parser_laws.specs.Follows.{after_blanks}

-- what stands in the text s behind the opening byte: blanks, x, blanks, the byte y, and the rest r
abbrev pub Enclosed : {X : Type 0} (sp : X → List ℕ → List ℕ) (y : ℕ) (s : List ℕ) → Blanks → X → Blanks → List ℕ → Type 0
Enclosed sp y s b x c r = s ≡ spell_blanks b (sp x (spell_blanks c (y ∷ r)))

module _ {X M : Type 0} (sp : X → List ℕ → List ℕ) (me : X → M) (k y : ℕ) (start : (x : X) (r : List ℕ) → unblank (sp x r) ≡ sp x r) (plain : is_blank y ≡ false) (high : k < level_of y) where
  -- behind the blanks stands x
  inside : {s : List ℕ} (b : Blanks) (x : X) (c : Blanks) (r : List ℕ) → Enclosed sp y s b x c r → unblank s ≡ sp x (spell_blanks c (y ∷ r))
  inside b x c r e = ap unblank e ∙ unblank_blanks b _ ∙ start x _

  -- x was read and the closing byte stands behind it: so the text is enclosed
  pub enclosed_is : {s : List ℕ} {x : X} {r r₂ : List ℕ} → Reads sp me (After k) (unblank s) x r → unblank r ≡ y ∷ r₂ → Enclosed sp y s (split_blanks s).0 x (split_blanks r).0 r₂
  enclosed_is {s} {x} {r} o e = (split_blanks s).1 ∙ ap (spell_blanks (split_blanks s).0) (o.eq ∙ ap (sp x) ((split_blanks r).1 ∙ ap (spell_blanks (split_blanks r).0) e))

  -- and it is in no other way
  pub enclosed_only : {s : List ℕ} {x : X} {r r₂ : List ℕ} → Reads sp me (After k) (unblank s) x r → unblank r ≡ y ∷ r₂
      → (b' : Blanks) (x' : X) (c' : Blanks) (r' : List ℕ) → Enclosed sp y s b' x' c' r' → (me x' ≡ me x) × (spell_blanks c' (y ∷ r') ≡ r) × (r' ≡ r₂)
  enclosed_only {s} {x} {r} {r₂} o e b' x' c' r' f =
      let h = o.only x' (spell_blanks c' (y ∷ r')) (after_blanks k c' y r' plain high) (inside b' x' c' r' f) in
      let g : y ∷ r' ≡ y ∷ r₂ = sym (unblank_byte y r' plain) ∙ sym (unblank_blanks c' (y ∷ r')) ∙ ap unblank h.1 ∙ e in
      (h.0, h.1, cc)

  -- no x stands behind the blanks
  pub enclosed_none : {s : List ℕ} → ReadsNone sp (After k) (unblank s) → (b' : Blanks) (x' : X) (c' : Blanks) (r' : List ℕ) → Enclosed sp y s b' x' c' r' → ⊥
  enclosed_none n b' x' c' r' f = n.none x' (spell_blanks c' (y ∷ r')) (after_blanks k c' y r' plain high) (inside b' x' c' r' f)

  -- x was read, and the closing byte does not stand behind it
  pub enclosed_open : {s : List ℕ} {x : X} {r : List ℕ} → Reads sp me (After k) (unblank s) x r → ((l : List ℕ) → unblank r ≡ y ∷ l → ⊥)
      → (b' : Blanks) (x' : X) (c' : Blanks) (r' : List ℕ) → Enclosed sp y s b' x' c' r' → ⊥
  enclosed_open o n b' x' c' r' f =
      let h = o.only x' (spell_blanks c' (y ∷ r')) (after_blanks k c' y r' plain high) (inside b' x' c' r' f) in
      n r' (ap unblank (sym h.1) ∙ unblank_blanks c' (y ∷ r') ∙ unblank_byte y r' plain)
