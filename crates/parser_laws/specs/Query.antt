-- segments behind "@" or "$", as a query; and the operand as a whole: a query, a literal, or a function.
use Rattle.std.specs.Prelude.{◌≡◌, refl, Bool, true, false, cond, List, [], ◌∷◌, ℕ, min}
use Rattle.std.proofs.Common.{sym, ap, ◌∙◌}
use Rattle.definition.specs.Lexical.{is_lcalpha}
use Rattle.definition.specs.Grammar as G
use Rattle.definition.specs.Grammar.{spell_segments, spell_function, spell_literal}
use Rattle.definition.specs.Grammar.FilterQuery.{rel_query, abs_query}
use Rattle.basics.specs.Lists.{differ, same_tail}
use Rattle.basics.specs.Reads.{Reads}
use Rattle.compile_writes.specs.Effects.{Effect, join}
use Rattle.compile_writes.specs.Sorts.{singular_segments, tight_segments, query_sort}
use Rattle.compile_writes.specs.Writes.{write_segments, write_from, write_filter_query}
use Rattle.parser_follow.specs.Follow.{After}
use Rattle.parser_follow.specs.Numbers.{path_number, segments_flag, flag_of_path, sort_number}
use Rattle.parser_follow.specs.Pieces.{Operand, spell_operand, write_operand, operand_flag, query_flag}
use Rattle.parser_follow.specs.Pieces.Operand.{literal_operand, query_operand, function_operand}
use Rattle.parser_laws.specs.Joins.{plain, seq_bytes, seq_last}
use Rattle.parser_laws.specs.Begins.{begins_not, literal_begins, function_begins, is_literal_byte}
use Rattle.parser_laws.specs.So.{So}
use Rattle.parser_laws.specs.Segments.{me_segments}

-- ---- a query behind its first byte, which starts the item `start`

abbrev pub me_query : ℕ → ℕ → G.Segments → Effect × ℕ
me_query start p t = (write_from start (write_segments t) p, query_flag t)

-- the start before, and the end behind
abbrev pub query_effect : ℕ → Effect → Effect
query_effect start e = join (plain (start ∷ [])) (join e (plain (0x0A ∷ [])))

query_writes : (start p : ℕ) (t : G.Segments) → write_from start (write_segments t) p ≡ query_effect start (write_segments t p)
unfolding write_from
query_writes start p t = rw (seq_bytes, seq_last)

query_flag_lem : (t : G.Segments) → query_flag t ≡ flag_of_path (min 2 (segments_flag t))
unfolding query_sort
query_flag_lem t = go (singular_segments t) (tight_segments t)
  where
    go : (a u : Bool) → cond u 5 (sort_number (query_sort a)) ≡ flag_of_path (min 2 (path_number a u))
    go true true = refl
    go true false = refl
    go false true = refl
    go false false = refl

-- what is known of the query, from what is known of its segments
pub query_means : (start p : ℕ) (t : G.Segments) → me_query start p t ≡ (query_effect start (me_segments 2 p t).0, flag_of_path (me_segments 2 p t).1)
query_means start p t =
    let e = query_writes start p t in
    let f = query_flag_lem t in
    λ i. (e i, f i)

pub query_reads : (start p : ℕ) {s r : List ℕ} {t : G.Segments} → Reads spell_segments (me_segments 2 p) (After 1) s t r → Reads spell_segments (me_query start p) (After 1) s t r
query_reads start p {s} {r} {t} o = record {
  eq = o.eq;
  only = λ t' r' f e.
      let h = o.only t' r' f e in
      (query_means start p t' ∙ ap (λ m. (query_effect start m.0, flag_of_path m.1)) h.0 ∙ sym (query_means start p t), h.1);
}

-- ---- the operand

abbrev pub me_operand : ℕ → Operand → Effect × ℕ
me_operand p t = (write_operand t p, operand_flag t)

-- a literal and a function begin with neither "@" nor "$"
no_literal : (c : ℕ) (l : G.Literal) (r : List ℕ) {m : List ℕ} → is_literal_byte c ≡ false → spell_literal l r ≡ c ∷ m → ⊥
no_literal c l r e f = begins_not c (literal_begins l r) e f

no_function_lem : (c : ℕ) (x : G.Function) (r : List ℕ) {m : List ℕ} → is_lcalpha c ≡ false → spell_function x r ≡ c ∷ m → ⊥
no_function_lem c x r e f = begins_not c (function_begins x r) e f

-- behind "@"
pub operand_current : (p : ℕ) {s s₁ : List ℕ} → s ≡ 0x40 ∷ s₁ → So spell_operand (me_operand p) spell_segments (me_query 0x02 p) (After 1) s s₁ (λ m. m)
unfolding write_filter_query
operand_current p {s} {s₁} d = record { fill = λ u. query_operand (rel_query u); fwd = λ u r e. d ∙ ap (λ l. 0x40 ∷ l) e; cod = λ u. refl; bwd = bwd }
  where
    bwd : (t' : Operand) (r' : List ℕ) → After 1 r' → s ≡ spell_operand t' r' → (u' : G.Segments) × (s₁ ≡ spell_segments u' r') × (me_operand p t' ≡ me_query 0x02 p u')
    bwd (literal_operand l) r' f e = absurd (no_literal 0x40 l r' refl (sym e ∙ d))
    bwd (query_operand (rel_query xs)) r' f e = (xs, same_tail d e, refl)
    bwd (query_operand (abs_query xs)) r' f e = absurd (differ 0x40 0x24 refl d e)
    bwd (function_operand x) r' f e = absurd (no_function_lem 0x40 x r' refl (sym e ∙ d))

-- behind "$"
pub operand_root : (p : ℕ) {s s₁ : List ℕ} → s ≡ 0x24 ∷ s₁ → So spell_operand (me_operand p) spell_segments (me_query 0x01 p) (After 1) s s₁ (λ m. m)
unfolding write_filter_query
operand_root p {s} {s₁} d = record { fill = λ u. query_operand (abs_query u); fwd = λ u r e. d ∙ ap (λ l. 0x24 ∷ l) e; cod = λ u. refl; bwd = bwd }
  where
    bwd : (t' : Operand) (r' : List ℕ) → After 1 r' → s ≡ spell_operand t' r' → (u' : G.Segments) × (s₁ ≡ spell_segments u' r') × (me_operand p t' ≡ me_query 0x01 p u')
    bwd (literal_operand l) r' f e = absurd (no_literal 0x24 l r' refl (sym e ∙ d))
    bwd (query_operand (rel_query xs)) r' f e = absurd (differ 0x24 0x40 refl d e)
    bwd (query_operand (abs_query xs)) r' f e = (xs, same_tail d e, refl)
    bwd (function_operand x) r' f e = absurd (no_function_lem 0x24 x r' refl (sym e ∙ d))
