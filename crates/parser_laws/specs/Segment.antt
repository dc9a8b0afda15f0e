-- segment = child-segment / descendant-segment
use Rattle.std.specs.Prelude.{◌≡◌, refl, false, List, ◌∷◌, ℕ, eqb}
use Rattle.std.proofs.Common.{sym, ap, ◌∙◌, true≢false}
use Rattle.definition.specs.Lexical.{Name, spell_name}
use Rattle.definition.specs.Grammar.{Segment, Bracketed, spell_segment, spell_bracketed}
use Rattle.definition.specs.Grammar.Segment.{child_brackets, child_wild, child_name, descendant_brackets, descendant_wild, descendant_name}
use Rattle.definition.specs.Grammar.Bracketed.{bracketed}
use Rattle.basics.specs.Lists.{differ, same_tail, tail_same}
use Rattle.utf8_laws.specs.Names.{first_byte, name_begins}
use Rattle.compile_writes.specs.Effects.{Effect}
use Rattle.compile_writes.specs.Sorts.{singular_segment, tight_segment}
use Rattle.compile_writes.specs.Writes.{write_segment}
use Rattle.parser_follow.specs.Follow.{After}
use Rattle.parser_follow.specs.Numbers.{segment_flag}
use Rattle.parser_follow.specs.Leaves.{Dotted, spell_dotted, write_dotted, dotted_flag}
use Rattle.parser_follow.specs.Leaves.Dotted.{wild_dotted, name_dotted}
use Rattle.parser_laws.specs.So.{So}
use Rattle.parser_laws.specs.Brackets.{me_bracketed}

abbrev pub me_segment : ℕ → Segment → Effect × ℕ
me_segment p t = (write_segment t p, segment_flag t)

abbrev pub me_dotted : ℕ → ℕ → Dotted → Effect × ℕ
me_dotted kind p t = (write_dotted kind t p, dotted_flag t)

-- a descendant segment is no part of a singular query
abbrev pub lowered : Effect × ℕ → Effect × ℕ
lowered m = (m.0, 0)

-- a name begins with neither a dot nor a bracket nor a star
no_name : (n : Name) (c : ℕ) (r : List ℕ) {l : List ℕ} → first_byte c ≡ false → spell_name n r ≡ c ∷ l → ⊥
no_name n c r {l} e f = true≢false (sym (name_begins n c r l f) ∙ e)

-- the same of the tail
tail_differs : (x y : ℕ) {l m : List ℕ} → eqb x y ≡ false → x ∷ l ≡ y ∷ m → ⊥
tail_differs x y e f = differ x y e refl f

abbrev to_child : Dotted → Segment
to_child wild_dotted = child_wild
to_child (name_dotted n) = child_name n

abbrev to_descendant : Dotted → Segment
to_descendant wild_dotted = descendant_wild
to_descendant (name_dotted n) = descendant_name n

-- where no dot stands: a bracketed selection
pub segment_no_dot : (p : ℕ) {s : List ℕ} → ((l : List ℕ) → s ≡ 0x2E ∷ l → ⊥) → So spell_segment (me_segment p) spell_bracketed (me_bracketed 3 p) (After 0) s s (λ m. m)
unfolding write_segment singular_segment tight_segment
segment_no_dot p {s} n = record { fill = child_brackets; fwd = λ u r e. e; cod = λ u. refl; bwd = bwd }
  where
    bwd : (t' : Segment) (r' : List ℕ) → After 0 r' → s ≡ spell_segment t' r' → (u' : Bracketed) × (s ≡ spell_bracketed u' r') × (me_segment p t' ≡ me_bracketed 3 p u')
    bwd (child_brackets x) r' f e = (x, e, refl)
    bwd child_wild r' f e = absurd (n _ e)
    bwd (child_name m) r' f e = absurd (n _ e)
    bwd (descendant_brackets x) r' f e = absurd (n _ e)
    bwd descendant_wild r' f e = absurd (n _ e)
    bwd (descendant_name m) r' f e = absurd (n _ e)

-- behind a dot that no other follows: a star or a name
pub segment_dot : (p : ℕ) {s s₁ : List ℕ} → s ≡ 0x2E ∷ s₁ → ((l : List ℕ) → s₁ ≡ 0x2E ∷ l → ⊥) → So spell_segment (me_segment p) spell_dotted (me_dotted 3 p) (After 0) s s₁ (λ m. m)
unfolding write_segment singular_segment tight_segment
segment_dot p {s} {s₁} d n = record { fill = to_child; fwd = fwd; cod = cod; bwd = bwd }
  where
    fwd : (u : Dotted) (r : List ℕ) → s₁ ≡ spell_dotted u r → s ≡ spell_segment (to_child u) r
    fwd wild_dotted r e = d ∙ ap (λ l. 0x2E ∷ l) e
    fwd (name_dotted m) r e = d ∙ ap (λ l. 0x2E ∷ l) e

    cod : (u : Dotted) → me_segment p (to_child u) ≡ me_dotted 3 p u
    cod wild_dotted = refl
    cod (name_dotted m) = refl

    bwd : (t' : Segment) (r' : List ℕ) → After 0 r' → s ≡ spell_segment t' r' → (u' : Dotted) × (s₁ ≡ spell_dotted u' r') × (me_segment p t' ≡ me_dotted 3 p u')
    bwd (child_brackets (bracketed b x xs c)) r' f e = absurd (differ 0x2E 0x5B refl d e)
    bwd child_wild r' f e = (wild_dotted, same_tail d e, refl)
    bwd (child_name m) r' f e = (name_dotted m, same_tail d e, refl)
    bwd (descendant_brackets x) r' f e = absurd (n _ (same_tail d e))
    bwd descendant_wild r' f e = absurd (n _ (same_tail d e))
    bwd (descendant_name m) r' f e = absurd (n _ (same_tail d e))

-- behind two dots and a bracket: a bracketed selection
pub segment_dots_brackets : (p : ℕ) {s s₂ l : List ℕ} → s ≡ 0x2E ∷ 0x2E ∷ s₂ → s₂ ≡ 0x5B ∷ l → So spell_segment (me_segment p) spell_bracketed (me_bracketed 4 p) (After 0) s s₂ lowered
unfolding write_segment singular_segment tight_segment
segment_dots_brackets p {s} {s₂} {l} d k = record { fill = descendant_brackets; fwd = λ u r e. d ∙ ap (λ z. 0x2E ∷ 0x2E ∷ z) e; cod = λ u. refl; bwd = bwd }
  where
    bwd : (t' : Segment) (r' : List ℕ) → After 0 r' → s ≡ spell_segment t' r' → (u' : Bracketed) × (s₂ ≡ spell_bracketed u' r') × (me_segment p t' ≡ lowered (me_bracketed 4 p u'))
    bwd (child_brackets (bracketed b x xs c)) r' f e = absurd (differ 0x2E 0x5B refl d e)
    bwd child_wild r' f e = absurd (tail_differs 0x2E 0x2A refl (same_tail d e))
    bwd (child_name m) r' f e = absurd (no_name m 0x2E r' refl (sym (same_tail d e)))
    bwd (descendant_brackets x) r' f e = (x, tail_same (same_tail d e), refl)
    bwd descendant_wild r' f e = absurd (differ 0x5B 0x2A refl k (tail_same (same_tail d e)))
    bwd (descendant_name m) r' f e = absurd (no_name m 0x5B r' refl (sym (tail_same (same_tail d e)) ∙ k))

-- behind two dots that no bracket follows: a star or a name
pub segment_dots : (p : ℕ) {s s₂ : List ℕ} → s ≡ 0x2E ∷ 0x2E ∷ s₂ → ((l : List ℕ) → s₂ ≡ 0x5B ∷ l → ⊥) → So spell_segment (me_segment p) spell_dotted (me_dotted 4 p) (After 0) s s₂ lowered
unfolding write_segment singular_segment tight_segment
segment_dots p {s} {s₂} d n = record { fill = to_descendant; fwd = fwd; cod = cod; bwd = bwd }
  where
    fwd : (u : Dotted) (r : List ℕ) → s₂ ≡ spell_dotted u r → s ≡ spell_segment (to_descendant u) r
    fwd wild_dotted r e = d ∙ ap (λ l. 0x2E ∷ 0x2E ∷ l) e
    fwd (name_dotted m) r e = d ∙ ap (λ l. 0x2E ∷ 0x2E ∷ l) e

    cod : (u : Dotted) → me_segment p (to_descendant u) ≡ lowered (me_dotted 4 p u)
    cod wild_dotted = refl
    cod (name_dotted m) = refl

    bwd : (t' : Segment) (r' : List ℕ) → After 0 r' → s ≡ spell_segment t' r' → (u' : Dotted) × (s₂ ≡ spell_dotted u' r') × (me_segment p t' ≡ lowered (me_dotted 4 p u'))
    bwd (child_brackets (bracketed b x xs c)) r' f e = absurd (differ 0x2E 0x5B refl d e)
    bwd child_wild r' f e = absurd (tail_differs 0x2E 0x2A refl (same_tail d e))
    bwd (child_name m) r' f e = absurd (no_name m 0x2E r' refl (sym (same_tail d e)))
    bwd (descendant_brackets (bracketed b x xs c)) r' f e = absurd (n _ (tail_same (same_tail d e)))
    bwd descendant_wild r' f e = (wild_dotted, tail_same (same_tail d e), refl)
    bwd (descendant_name m) r' f e = (name_dotted m, tail_same (same_tail d e), refl)
