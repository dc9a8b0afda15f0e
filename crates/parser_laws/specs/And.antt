-- logical-and-expr = basic-expr *( S "&&" S basic-expr )
use Rattle.std.specs.Prelude.{◌≡◌, refl, Bool, false, List, [], ℕ, ◌+◌, length}
use Rattle.std.proofs.Common.{sym, ap, ◌∙◌, lit<, lit≤, add-zero}
use Rattle.definition.specs.Grammar.{Basic, LogicalAnd, MoreAnd, spell_basic, spell_logical_and, spell_more_and}
use Rattle.definition.specs.Grammar.LogicalAnd.{logical_and}
use Rattle.definition.specs.Grammar.MoreAnd.{no_and, more_and}
use Rattle.basics.specs.Reads.{Reads, ReadsNone}
use Rattle.compile_writes.specs.Effects.{Effect, seq, join, mark}
use Rattle.compile_writes.specs.Sorts.{Sort, sort_basic, sort_and_lem, sort_more_and, compared_verdict}
use Rattle.compile_writes.specs.Writes.{write_basic, write_and_lem, write_more_and}
use Rattle.parser_follow.specs.Follow.{After, after_weaken}
use Rattle.parser_follow.specs.Numbers.{sort_number}
use Rattle.parser_laws.specs.Follows.{after_blanks}
use Rattle.parser_laws.specs.Sorted.{same_sort}

-- what is known of a tree that is read at the pool place p
abbrev pub me_basic : ℕ → Basic → Effect × ℕ
me_basic p t = (write_basic t p, sort_number (sort_basic t))

abbrev pub me_and : Bool → ℕ → LogicalAnd → Effect × ℕ
me_and a p t = (write_and_lem t a p, sort_number (sort_and_lem t))

abbrev pub me_more_and : Sort → Bool → ℕ → MoreAnd → Effect × ℕ
me_more_and σ a p t = (write_more_and t σ a p, sort_number (sort_more_and t σ))

pub sort_and : (b : Basic) (u : MoreAnd) → sort_and_lem (logical_and b u) ≡ sort_more_and u (sort_basic b)
unfolding sort_and_lem
sort_and b u = refl

-- what may follow the chain may follow each of its operands
pub and_follow : (u : MoreAnd) (r : List ℕ) → After 3 r → After 2 (spell_more_and u r)
and_follow no_and r a = after_weaken 2 3 (lit≤ tt) a
and_follow (more_and b c x u) r a = after_blanks 2 b 0x26 _ refl (lit< tt)

-- what is written for the whole, from what is written for its parts
abbrev pub and_effect : Bool → Sort → Effect → Effect → Effect
and_effect a σ e f = join e (join (record { plan = []; pool = []; marks = record { verdict = compared_verdict a σ; beyond = false } }) f)

pub write_and : (a : Bool) (p : ℕ) (b : Basic) (u : MoreAnd)
    → write_and_lem (logical_and b u) a p ≡ and_effect a (sort_basic b) (write_basic b p) (write_more_and u (sort_basic b) a (p + length (write_basic b p).pool))
unfolding write_and_lem seq mark
write_and a p b u = rw add-zero

-- the first operand and the rest of the chain are the whole
pub and_reads : (a : Bool) (p : ℕ) {s r r₁ : List ℕ} {b : Basic} {u : MoreAnd} → Reads spell_basic (me_basic p) (After 2) s b r
    → Reads spell_more_and (me_more_and (sort_basic b) a (p + length (write_basic b p).pool)) (After 3) r u r₁ → Reads spell_logical_and (me_and a p) (After 3) s (logical_and b u) r₁
and_reads a p {s} {r} {r₁} {b} {u} o o' = record { eq = o.eq ∙ ap (spell_basic b) o'.eq; only = only }
  where
    only : (t' : LogicalAnd) (r' : List ℕ) → After 3 r' → s ≡ spell_logical_and t' r' → (me_and a p t' ≡ me_and a p (logical_and b u)) × (r' ≡ r₁)
    only (logical_and b' u') r' f e =
        let h = o.only b' (spell_more_and u' r') (and_follow u' r' f) e in
        let g = o'.only u' r' f (sym h.1) in
        let e0 : write_basic b' p ≡ write_basic b p = ap (λ z. z.0) h.0 in
        let e1 : sort_basic b' ≡ sort_basic b = same_sort (ap (λ z. z.1) h.0) in
        let w' = write_and a p b' u' in
        let w = write_and a p b u in
        let s' = sort_and b' u' in
        let t = sort_and b u in
        let e2 : write_more_and u' (sort_basic b) a (p + length (write_basic b p).pool) ≡ write_more_and u (sort_basic b) a (p + length (write_basic b p).pool) = ap (λ z. z.0) g.0 in
        let e3 : sort_number (sort_more_and u' (sort_basic b)) ≡ sort_number (sort_more_and u (sort_basic b)) = ap (λ z. z.1) g.0 in
        let x : write_and_lem (logical_and b' u') a p ≡ write_and_lem (logical_and b u) a p = cc in
        let y : sort_number (sort_and_lem (logical_and b' u')) ≡ sort_number (sort_and_lem (logical_and b u)) = cc in
        ((λ i. (x i, y i)), g.1)

-- with no first operand there is no chain
pub and_none : (a : Bool) {s : List ℕ} → ReadsNone spell_basic (After 2) s → ReadsNone spell_logical_and (After 3) s
and_none a {s} n = record { none = none }
  where
    none : (t' : LogicalAnd) (r' : List ℕ) → After 3 r' → s ≡ spell_logical_and t' r' → ⊥
    none (logical_and b' u') r' f e = n.none b' (spell_more_and u' r') (and_follow u' r' f) e

-- with a first operand and no chain behind it there is no whole
pub and_none_rest : (p : ℕ) {s r : List ℕ} {b : Basic} → Reads spell_basic (me_basic p) (After 2) s b r → ReadsNone spell_more_and (After 3) r → ReadsNone spell_logical_and (After 3) s
and_none_rest p {s} {r} {b} o n = record { none = none }
  where
    none : (t' : LogicalAnd) (r' : List ℕ) → After 3 r' → s ≡ spell_logical_and t' r' → ⊥
    none (logical_and b' u') r' f e =
        let h = o.only b' (spell_more_and u' r') (and_follow u' r' f) e in
        n.none u' r' f (sym h.1)
