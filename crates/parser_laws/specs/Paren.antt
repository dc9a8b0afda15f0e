-- "(" S logical-expr S ")"
use Rattle.std.specs.Prelude.{◌≡◌, refl, true, List, ◌∷◌, ℕ}
use Rattle.std.proofs.Common.{sym, ap, ◌∙◌, lit<}
use Rattle.definition.specs.Lexical.{Blanks}
use Rattle.definition.specs.Grammar.{LogicalOr, Paren, spell_logical_or, spell_paren}
use Rattle.definition.specs.Grammar.Paren.{paren}
use Rattle.basics.specs.Lists.{same_tail}
use Rattle.parser_follow.specs.Blanks.{split_blanks}
use Rattle.basics.specs.Reads.{Reads, ReadsNone}
use Rattle.compile_writes.specs.Effects.{Effect}
use Rattle.compile_writes.specs.Sorts.{sort_paren}
use Rattle.compile_writes.specs.Writes.{write_paren}
use Rattle.parser_follow.specs.Follow.{unblank, After}
use Rattle.parser_follow.specs.Numbers.{sort_number}
use Rattle.parser_laws.specs.Starts.{or_start}
use Rattle.parser_laws.specs.Or.{me_or}
use Rattle.parser_laws.specs.Enclosed.{enclosed_is, enclosed_only, enclosed_none, enclosed_open}

abbrev pub me_paren : ℕ → Paren → Effect × ℕ
me_paren p t = (write_paren t p, sort_number (sort_paren t))

-- parentheses leave nothing behind
pub paren_means : (p : ℕ) (b : Blanks) (e : LogicalOr) (c : Blanks) → me_paren p (paren b e c) ≡ me_or true p e
unfolding write_paren sort_paren
paren_means p b e c = refl

pub paren_reads : (p : ℕ) {s s₁ r r₂ : List ℕ} {e : LogicalOr} → s ≡ 0x28 ∷ s₁ → Reads spell_logical_or (me_or true p) (After 4) (unblank s₁) e r → unblank r ≡ 0x29 ∷ r₂
    → Reads spell_paren (me_paren p) (After 0) s (paren (split_blanks s₁).0 e (split_blanks r).0) r₂
paren_reads p {s} {s₁} {r} {r₂} {e} d o n = record {
  eq = d ∙ ap (λ l. 0x28 ∷ l) (enclosed_is spell_logical_or (me_or true p) 4 0x29 or_start refl (lit< tt) o n);
  only = only;
}
  where
    only : (t' : Paren) (r' : List ℕ) → After 0 r' → s ≡ spell_paren t' r' → (me_paren p t' ≡ me_paren p (paren (split_blanks s₁).0 e (split_blanks r).0)) × (r' ≡ r₂)
    only (paren b' e' c') r' f g =
        let h = enclosed_only spell_logical_or (me_or true p) 4 0x29 or_start refl (lit< tt) o n b' e' c' r' (same_tail d g) in
        (paren_means p b' e' c' ∙ h.0 ∙ sym (paren_means p _ e _), h.2)

pub paren_none : {s s₁ : List ℕ} → s ≡ 0x28 ∷ s₁ → ReadsNone spell_logical_or (After 4) (unblank s₁) → ReadsNone spell_paren (After 0) s
paren_none {s} {s₁} d n = record { none = none }
  where
    none : (t' : Paren) (r' : List ℕ) → After 0 r' → s ≡ spell_paren t' r' → ⊥
    none (paren b' e' c') r' f g = enclosed_none spell_logical_or (me_or true 0) 4 0x29 or_start refl (lit< tt) n b' e' c' r' (same_tail d g)

pub paren_open : (p : ℕ) {s s₁ r : List ℕ} {e : LogicalOr} → s ≡ 0x28 ∷ s₁ → Reads spell_logical_or (me_or true p) (After 4) (unblank s₁) e r → ((l : List ℕ) → unblank r ≡ 0x29 ∷ l → ⊥)
    → ReadsNone spell_paren (After 0) s
paren_open p {s} {s₁} {r} d o n = record { none = none }
  where
    none : (t' : Paren) (r' : List ℕ) → After 0 r' → s ≡ spell_paren t' r' → ⊥
    none (paren b' e' c') r' f g = enclosed_open spell_logical_or (me_or true p) 4 0x29 or_start refl (lit< tt) o n b' e' c' r' (same_tail d g)
