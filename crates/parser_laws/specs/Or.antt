-- logical-or-expr = logical-and-expr *( S "||" S logical-and-expr )
use Rattle.std.specs.Prelude.{◌≡◌, refl, Bool, List, ℕ, ◌+◌, length}
use Rattle.std.proofs.Common.{sym, ap, ◌∙◌, lit<, lit≤}
use Rattle.definition.specs.Grammar.{LogicalAnd, LogicalOr, MoreOr, spell_logical_and, spell_logical_or, spell_more_or}
use Rattle.definition.specs.Grammar.LogicalOr.{logical_or}
use Rattle.definition.specs.Grammar.MoreOr.{no_or, more_or}
use Rattle.basics.specs.Reads.{Reads, ReadsNone}
use Rattle.compile_writes.specs.Effects.{Effect, seq, join}
use Rattle.compile_writes.specs.Sorts.{Sort, sort_and_lem, sort_or_lem, sort_more_or}
use Rattle.compile_writes.specs.Writes.{write_and_lem, write_or_lem, write_more_or}
use Rattle.parser_follow.specs.Follow.{After, after_weaken}
use Rattle.parser_follow.specs.Numbers.{sort_number}
use Rattle.parser_laws.specs.Follows.{after_blanks}
use Rattle.parser_laws.specs.Sorted.{same_sort}
use Rattle.parser_laws.specs.And.{me_and}

abbrev pub me_or : Bool → ℕ → LogicalOr → Effect × ℕ
me_or a p t = (write_or_lem t a p, sort_number (sort_or_lem t))

abbrev pub me_more_or : Sort → Bool → ℕ → MoreOr → Effect × ℕ
me_more_or σ a p t = (write_more_or t σ a p, sort_number (sort_more_or t σ))

pub sort_or : (b : LogicalAnd) (u : MoreOr) → sort_or_lem (logical_or b u) ≡ sort_more_or u (sort_and_lem b)
unfolding sort_or_lem
sort_or b u = refl

pub write_or : (a : Bool) (p : ℕ) (b : LogicalAnd) (u : MoreOr) → write_or_lem (logical_or b u) a p ≡ join (write_and_lem b a p) (write_more_or u (sort_and_lem b) a (p + length (write_and_lem b a p).pool))
unfolding write_or_lem seq
write_or a p b u = refl

-- what may follow the chain may follow each of its operands
pub or_follow : (u : MoreOr) (r : List ℕ) → After 4 r → After 3 (spell_more_or u r)
or_follow no_or r a = after_weaken 3 4 (lit≤ tt) a
or_follow (more_or b c x u) r a = after_blanks 3 b 0x7C _ refl (lit< tt)

-- the first operand and the rest of the chain are the whole
pub or_reads : (a : Bool) (p : ℕ) {s r r₁ : List ℕ} {b : LogicalAnd} {u : MoreOr} → Reads spell_logical_and (me_and a p) (After 3) s b r
    → Reads spell_more_or (me_more_or (sort_and_lem b) a (p + length (write_and_lem b a p).pool)) (After 4) r u r₁ → Reads spell_logical_or (me_or a p) (After 4) s (logical_or b u) r₁
or_reads a p {s} {r} {r₁} {b} {u} o o' = record { eq = o.eq ∙ ap (spell_logical_and b) o'.eq; only = only }
  where
    only : (t' : LogicalOr) (r' : List ℕ) → After 4 r' → s ≡ spell_logical_or t' r' → (me_or a p t' ≡ me_or a p (logical_or b u)) × (r' ≡ r₁)
    only (logical_or b' u') r' f e =
        let h = o.only b' (spell_more_or u' r') (or_follow u' r' f) e in
        let g = o'.only u' r' f (sym h.1) in
        let e0 : write_and_lem b' a p ≡ write_and_lem b a p = ap (λ z. z.0) h.0 in
        let e1 : sort_and_lem b' ≡ sort_and_lem b = same_sort (ap (λ z. z.1) h.0) in
        let w' = write_or a p b' u' in
        let w = write_or a p b u in
        let s' = sort_or b' u' in
        let t = sort_or b u in
        let e2 : write_more_or u' (sort_and_lem b) a (p + length (write_and_lem b a p).pool) ≡ write_more_or u (sort_and_lem b) a (p + length (write_and_lem b a p).pool) = ap (λ z. z.0) g.0 in
        let e3 : sort_number (sort_more_or u' (sort_and_lem b)) ≡ sort_number (sort_more_or u (sort_and_lem b)) = ap (λ z. z.1) g.0 in
        let x : write_or_lem (logical_or b' u') a p ≡ write_or_lem (logical_or b u) a p = cc in
        let y : sort_number (sort_or_lem (logical_or b' u')) ≡ sort_number (sort_or_lem (logical_or b u)) = cc in
        ((λ i. (x i, y i)), g.1)

-- with no first operand there is no chain
pub or_none : {s : List ℕ} → ReadsNone spell_logical_and (After 3) s → ReadsNone spell_logical_or (After 4) s
or_none {s} n = record { none = none }
  where
    none : (t' : LogicalOr) (r' : List ℕ) → After 4 r' → s ≡ spell_logical_or t' r' → ⊥
    none (logical_or b' u') r' f e = n.none b' (spell_more_or u' r') (or_follow u' r' f) e

-- with a first operand and no chain behind it there is no whole
pub or_none_rest : (a : Bool) (p : ℕ) {s r : List ℕ} {b : LogicalAnd} → Reads spell_logical_and (me_and a p) (After 3) s b r → ReadsNone spell_more_or (After 4) r → ReadsNone spell_logical_or (After 4) s
or_none_rest a p {s} {r} {b} o n = record { none = none }
  where
    none : (t' : LogicalOr) (r' : List ℕ) → After 4 r' → s ≡ spell_logical_or t' r' → ⊥
    none (logical_or b' u') r' f e =
        let h = o.only b' (spell_more_or u' r') (or_follow u' r' f) e in
        n.none u' r' f (sym h.1)
