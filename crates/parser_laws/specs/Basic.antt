-- basic-expr = paren-expr / comparison-expr / test-expr: a parenthesis, a negation, or an operand with what stands behind it.
use Rattle.std.specs.Prelude.{◌≡◌, refl, Bool, true, false, cond, List, [], ◌∷◌, ℕ, ◌+◌, eqb, length}
use Rattle.std.proofs.Common.{sym, ap, subst, ◌∙◌, true≢false, append-nil, eqb-true, lit≤, lit<}
use Rattle.std.proofs.Math.Bool.{or-false}
use Rattle.definition.specs.Lexical.{Blanks}
use Rattle.definition.specs.Grammar as G
use Rattle.definition.specs.Grammar.{spell_basic, spell_paren}
use Rattle.definition.specs.Grammar.Basic.{paren_basic, not_paren, comparison, test_basic, not_test}
use Rattle.definition.specs.Grammar.Paren.{paren}
use Rattle.definition.specs.Grammar.Test.{query_test, function_test}
use Rattle.definition.specs.Grammar.FilterQuery.{rel_query, abs_query}
use Rattle.definition.specs.Walk.{Named, named, operator_form}
use Rattle.definition.specs.Walk.Named.{count, value_name, match, search, unknown}
use Rattle.definition.specs.Lexical.{function_bytes}
use Rattle.definition.specs.Plans.{operator_byte}
use Rattle.basics.specs.Lists.{differ, same_tail}
use Rattle.basics.specs.Reads.{Reads, ReadsNone}
use Rattle.compile_writes.specs.Effects.{Effect, join, join_marks, skip, seq, bytes, first, verdict}
use Rattle.compile_writes.specs.Sorts.{singular_segments, tight_segments, query_sort, named_sort, sort_function, sort_basic, sort_test, sort_filter_query, sort_comparable, value_verdict}
use Rattle.compile_writes.specs.Writes.{write_basic, write_comparable, write_test, write_filter_query, write_function}
use Rattle.compile_writes.specs.Singular.{tight_singular}
use Rattle.parser_follow.specs.Follow.{After, after_weaken}
use Rattle.parser_follow.specs.Numbers.{sort_of, sort_number, is_comparable}
use Rattle.parser_follow.specs.Pieces.{Operand, spell_operand, write_operand, operand_flag, query_flag, filter_query_flag, Side, Behind, spell_behind, write_behind, behind_sort, Allowed, BehindOf, spell_behind_of, Negation, spell_negation, write_negation}
use Rattle.parser_follow.specs.Pieces.Operand.{literal_operand, query_operand, function_operand}
use Rattle.parser_follow.specs.Pieces.Behind.{alone, compared}
use Rattle.parser_follow.specs.Pieces.Negation.{paren_negation, test_negation}
use Rattle.parser_laws.specs.Follows.{after_blanks}
use Rattle.parser_laws.specs.Begins.{begins_not, comparable_begins, test_begins}
use Rattle.parser_laws.specs.Sorted.{sort_of_lem}
use Rattle.parser_laws.specs.So.{So}
use Rattle.parser_laws.specs.And.{me_basic}
use Rattle.parser_laws.specs.Paren.{me_paren}
use Rattle.parser_laws.specs.Query.{me_operand}
use Rattle.parser_laws.specs.Sides.{to_operand, comparable_spells, comparable_writes, comparable_flag, comparable_is, comparable_of}
use Rattle.parser_laws.specs.Behind.{me_behind, compared_allowed, some_allowed}

-- ---- an operand with what stands behind it

pub record Operated : Type 0 where
  pub operand : Operand
  pub behind : BehindOf (operand_flag operand)

abbrev pub spell_operated : Operated → List ℕ → List ℕ
spell_operated t r = spell_operand t.operand (spell_behind t.behind.tree r)

-- what is known of both, from what is known of the operand
abbrev pub operated_by : ℕ → Effect × ℕ → Behind → Effect × ℕ
operated_by p m y = (join m.0 (write_behind m.1 y (p + length m.0.pool)), behind_sort m.1 y)

abbrev pub me_operated : ℕ → Operated → Effect × ℕ
me_operated p t = operated_by p (me_operand p t.operand) t.behind.tree

-- what may follow the whole may follow the operand
pub behind_follow : (y : Behind) (r : List ℕ) → After 2 r → After 1 (spell_behind y r)
behind_follow alone r a = after_weaken 1 2 (lit≤ tt) a
behind_follow (compared b G.Operator.eq_operator x) r a = after_blanks 1 b 0x3D _ refl (lit< tt)
behind_follow (compared b G.Operator.ne_operator x) r a = after_blanks 1 b 0x21 _ refl (lit< tt)
behind_follow (compared b G.Operator.lt_operator x) r a = after_blanks 1 b 0x3C _ refl (lit< tt)
behind_follow (compared b G.Operator.le_operator x) r a = after_blanks 1 b 0x3C _ refl (lit< tt)
behind_follow (compared b G.Operator.gt_operator x) r a = after_blanks 1 b 0x3E _ refl (lit< tt)
behind_follow (compared b G.Operator.ge_operator x) r a = after_blanks 1 b 0x3E _ refl (lit< tt)

-- the same behind an operand with the same flag
abbrev moved : {f g : ℕ} → f ≡ g → BehindOf f → BehindOf g
moved e y = record { tree = y.tree; allowed = subst (λ n. Allowed n y.tree) e y.allowed }

module _ (p : ℕ) {s r : List ℕ} {x : Operand} (o : Reads spell_operand (me_operand p) (After 1) s x r) where
  pub operated_reads : {y : BehindOf (operand_flag x)} {r₁ : List ℕ} → Reads (spell_behind_of (operand_flag x)) (me_behind (operand_flag x) (p + length (write_operand x p).pool)) (After 2) r y r₁
      → Reads spell_operated (me_operated p) (After 2) s (record { operand = x; behind = y }) r₁
  operated_reads {y} {r₁} k = record { eq = o.eq ∙ ap (spell_operand x) k.eq; only = only }
    where
      only : (t' : Operated) (r' : List ℕ) → After 2 r' → s ≡ spell_operated t' r' → (me_operated p t' ≡ me_operated p (record { operand = x; behind = y })) × (r' ≡ r₁)
      only t' r' a e =
          let h = o.only t'.operand (spell_behind t'.behind.tree r') (behind_follow t'.behind.tree r' a) e in
          let g = k.only (moved (ap (λ z. z.1) h.0) t'.behind) r' a (sym h.1) in
          (ap (λ m. operated_by p m t'.behind.tree) h.0 ∙ ap (λ m. (join (write_operand x p) m.0, m.1)) g.0, g.1)

  pub operated_none_behind : ReadsNone (spell_behind_of (operand_flag x)) (After 2) r → ReadsNone spell_operated (After 2) s
  operated_none_behind k = record {
    none = λ t' r' a e.
        let h = o.only t'.operand (spell_behind t'.behind.tree r') (behind_follow t'.behind.tree r' a) e in
        k.none (moved (ap (λ z. z.1) h.0) t'.behind) r' a (sym h.1);
  }

pub operated_none : {s : List ℕ} → ReadsNone spell_operand (After 1) s → ReadsNone spell_operated (After 2) s
operated_none n = record { none = λ t' r' a e. n.none t'.operand (spell_behind t'.behind.tree r') (behind_follow t'.behind.tree r' a) e }

-- ---- effects

-- nothing behind an effect changes nothing
pub join_skip : (e : Effect) (p : ℕ) → join e (skip p) ≡ e
unfolding join skip join_marks
join_skip e p =
    let x = append-nil e.plan in
    let y = append-nil e.pool in
    let v = first_none e.marks.verdict in
    let b = or-false e.marks.beyond in
    λ i. record { plan = x i; pool = y i; marks = record { verdict = v i; beyond = b i } }
  where
    first_none : (n : ℕ) → first n 0 ≡ n
    first_none n = go (eqb n 0) refl
      where
        go : (t : Bool) → eqb n 0 ≡ t → cond t 0 n ≡ n
        go true e = sym (eqb-true n 0 e)
        go false e = refl

-- a comparison is its left side, of which m is known, and what stands behind it
comparison_writes : (x : G.Comparable) (b : Blanks) (o : G.Operator) (z : Side) (p : ℕ) (m : Effect × ℕ) → write_comparable x p ≡ m.0 → sort_of m.1 ≡ sort_comparable x
    → write_basic (comparison x b o z.blanks z.side) p ≡ (operated_by p m (compared b o z)).0
unfolding write_basic seq
comparison_writes x b o z p m w f =
    let g : sort_comparable x ≡ sort_of (sort_number (sort_of m.1)) = sym f ∙ sym (sort_of_lem (sort_of m.1)) in
    λ i. join (w i) (seq (write_comparable z.side) (seq (verdict (first (value_verdict (g i)) (value_verdict (sort_comparable z.side)))) (bytes (0x14 ∷ operator_byte (operator_form o) ∷ []))) (p + length (w i).pool))

comparison_means : (x : G.Comparable) (b : Blanks) (o : G.Operator) (z : Side) (p : ℕ) (m : Effect × ℕ) → write_comparable x p ≡ m.0 → sort_of m.1 ≡ sort_comparable x
    → me_basic p (comparison x b o z.blanks z.side) ≡ operated_by p m (compared b o z)
unfolding sort_basic
comparison_means x b o z p m w f =
    let e = comparison_writes x b o z p m w f in
    λ i. (e i, 4)

-- the sort that the flag of a query tells
query_sort_lem : (xs : G.Segments) → query_sort (singular_segments xs) ≡ sort_of (query_flag xs)
unfolding query_sort
query_sort_lem xs = go (tight_segments xs) (singular_segments xs) (tight_singular xs)
  where
    go : (t a : Bool) → (t ≡ true → a ≡ true) → query_sort a ≡ sort_of (cond t 5 (sort_number (query_sort a)))
    go true true f = refl
    go true false f = absurd (true≢false (sym (f refl)))
    go false true f = refl
    go false false f = refl

pub filter_query_sort : (q : G.FilterQuery) → sort_filter_query q ≡ sort_of (filter_query_flag q)
unfolding sort_filter_query
filter_query_sort (rel_query xs) = query_sort_lem xs
filter_query_sort (abs_query xs) = query_sort_lem xs

pub query_test_means : (q : G.FilterQuery) (p : ℕ) → me_basic p (test_basic (query_test q)) ≡ operated_by p (me_operand p (query_operand q)) alone
unfolding write_basic write_test sort_basic sort_test
query_test_means q p =
    let e = sym (join_skip (write_filter_query q p) (p + length (write_filter_query q p).pool)) in
    let f = ap sort_number (filter_query_sort q) in
    λ i. (e i, f i)

pub function_test_means : (x : G.Function) (p : ℕ) → me_basic p (test_basic (function_test x)) ≡ operated_by p (me_operand p (function_operand x)) alone
unfolding write_basic write_test sort_basic sort_test
function_test_means x p =
    let e = sym (join_skip (write_function x p) (p + length (write_function x p).pool)) in
    let f = ap sort_number (sym (sort_of_lem (sort_function x))) in
    λ i. (e i, f i)

-- ---- flags

-- a query and a function are no literals
pub query_some : (q : G.FilterQuery) → eqb (filter_query_flag q) 0 ≡ false
unfolding query_sort
query_some (rel_query xs) = go (tight_segments xs) (singular_segments xs)
  where
    go : (t a : Bool) → eqb (cond t 5 (sort_number (query_sort a))) 0 ≡ false
    go true a = refl
    go false true = refl
    go false false = refl
query_some (abs_query xs) = go (tight_segments xs) (singular_segments xs)
  where
    go : (t a : Bool) → eqb (cond t 5 (sort_number (query_sort a))) 0 ≡ false
    go true a = refl
    go false true = refl
    go false false = refl

pub function_some : (x : G.Function) → eqb (sort_number (sort_function x)) 0 ≡ false
unfolding sort_function named_sort
function_some (G.Function.function n b xs c) = go (named (function_bytes n))
  where
    go : (m : Named) → eqb (sort_number (named_sort m)) 0 ≡ false
    go count = refl
    go Named.length = refl
    go value_name = refl
    go match = refl
    go search = refl
    go unknown = refl

-- ---- from an operand with what stands behind it to the expression

pub record BasicOf (t : Operated) : Type 0 where
  pub tree : G.Basic
  pub spells : (r : List ℕ) → spell_operated t r ≡ spell_basic tree r
  pub means : (p : ℕ) → me_basic p tree ≡ me_operated p t

-- a comparison with an operand that may be compared
from_compared : (x : Operand) (b : Blanks) (o : G.Operator) (z : Side) (w : Allowed (operand_flag x) (compared b o z)) → is_comparable (operand_flag x) ≡ true
    → BasicOf (record { operand = x; behind = record { tree = compared b o z; allowed = w } })
from_compared x b o z w c =
    let y = comparable_of x c in
    record {
      tree = comparison y.side b o z.blanks z.side;
      spells = λ r. y.spells (spell_behind (compared b o z) r);
      means = λ p. comparison_means y.side b o z p (me_operand p x) (sym (y.writes p)) y.sort;
    }

comparable_allowed : (f : ℕ) (b : Blanks) (o : G.Operator) (z : Side) → Allowed f (compared b o z) → is_comparable f ≡ true
comparable_allowed f b o z w = go (is_comparable f) w
  where
    go : (t : Bool) → cond t (Unit {0}) ⊥ → t ≡ true
    go true v = refl
    go false v = absurd v

pub basic_of : (t : Operated) → BasicOf t
basic_of t = go t.operand t.behind.tree t.behind.allowed
  where
    go : (x : Operand) (y : Behind) (w : Allowed (operand_flag x) y) → BasicOf (record { operand = x; behind = record { tree = y; allowed = w } })
    go x (compared b o z) w = from_compared x b o z w (comparable_allowed (operand_flag x) b o z w)
    go (literal_operand l) alone w = absurd w
    go (query_operand q) alone w = record { tree = test_basic (query_test q); spells = λ r. refl; means = λ p. query_test_means q p }
    go (function_operand f) alone w = record { tree = test_basic (function_test f); spells = λ r. refl; means = λ p. function_test_means f p }

-- ---- and back

-- where neither a parenthesis nor a negation stands: an operand with what stands behind it
pub basic_operated : (p : ℕ) {s : List ℕ} → ((l : List ℕ) → s ≡ 0x28 ∷ l → ⊥) → ((l : List ℕ) → s ≡ 0x21 ∷ l → ⊥) → So spell_basic (me_basic p) spell_operated (me_operated p) (After 2) s s (λ m. m)
basic_operated p {s} a b = record { fill = λ t. (basic_of t).tree; fwd = λ t r e. e ∙ (basic_of t).spells r; cod = λ t. (basic_of t).means p; bwd = bwd }
  where
    bwd : (t' : G.Basic) (r' : List ℕ) → After 2 r' → s ≡ spell_basic t' r' → (u' : Operated) × (s ≡ spell_operated u' r') × (me_basic p t' ≡ me_operated p u')
    bwd (paren_basic (paren c e d)) r' f g = absurd (a _ g)
    bwd (not_paren c q) r' f g = absurd (b _ g)
    bwd (comparison x c o d y) r' f g = (
      record { operand = to_operand x; behind = record { tree = compared c o (record { blanks = d; side = y }); allowed = compared_allowed (operand_flag (to_operand x)) c o (record { blanks = d; side = y }) (comparable_is x) } },
      g ∙ comparable_spells x _,
      comparison_means x c o (record { blanks = d; side = y }) p (me_operand p (to_operand x)) (comparable_writes x p) (comparable_flag x),
    )
    bwd (test_basic (query_test q)) r' f g = (record { operand = query_operand q; behind = record { tree = alone; allowed = some_allowed (filter_query_flag q) (query_some q) } }, g, query_test_means q p)
    bwd (test_basic (function_test x)) r' f g = (record { operand = function_operand x; behind = record { tree = alone; allowed = some_allowed (sort_number (sort_function x)) (function_some x) } }, g, function_test_means x p)
    bwd (not_test c t) r' f g = absurd (b _ g)

-- ---- parentheses and negations

-- a parenthesis
pub basic_paren : (p : ℕ) {s l : List ℕ} → s ≡ 0x28 ∷ l → So spell_basic (me_basic p) spell_paren (me_paren p) (After 2) s s (λ m. m)
unfolding write_basic sort_basic
basic_paren p {s} {l} d = record { fill = paren_basic; fwd = λ u r e. e; cod = λ u. refl; bwd = bwd }
  where
    bwd : (t' : G.Basic) (r' : List ℕ) → After 2 r' → s ≡ spell_basic t' r' → (u' : G.Paren) × (s ≡ spell_paren u' r') × (me_basic p t' ≡ me_paren p u')
    bwd (paren_basic q) r' f g = (q, g, refl)
    bwd (not_paren c q) r' f g = absurd (differ 0x28 0x21 refl d g)
    bwd (comparison x c o e y) r' f g = absurd (begins_not 0x28 (comparable_begins x _) refl (sym g ∙ d))
    bwd (test_basic t) r' f g = absurd (begins_not 0x28 (test_begins t r') refl (sym g ∙ d))
    bwd (not_test c t) r' f g = absurd (differ 0x28 0x21 refl d g)

abbrev pub me_negation : ℕ → Negation → Effect × ℕ
me_negation p x = (write_negation x p, 4)

-- a negation
pub basic_negation : (p : ℕ) {s s₁ : List ℕ} → s ≡ 0x21 ∷ s₁ → So spell_basic (me_basic p) spell_negation (me_negation p) (After 2) s s₁ (λ m. m)
unfolding write_basic sort_basic
basic_negation p {s} {s₁} d = record { fill = fill; fwd = fwd; cod = cod; bwd = bwd }
  where
    fill : Negation → G.Basic
    fill (paren_negation b q) = not_paren b q
    fill (test_negation b t) = not_test b t

    fwd : (u : Negation) (r : List ℕ) → s₁ ≡ spell_negation u r → s ≡ spell_basic (fill u) r
    fwd (paren_negation b q) r e = d ∙ ap (λ l. 0x21 ∷ l) e
    fwd (test_negation b t) r e = d ∙ ap (λ l. 0x21 ∷ l) e

    cod : (u : Negation) → me_basic p (fill u) ≡ me_negation p u
    cod (paren_negation b q) = refl
    cod (test_negation b t) = refl

    bwd : (t' : G.Basic) (r' : List ℕ) → After 2 r' → s ≡ spell_basic t' r' → (u' : Negation) × (s₁ ≡ spell_negation u' r') × (me_basic p t' ≡ me_negation p u')
    bwd (paren_basic (paren c e g)) r' f h = absurd (differ 0x21 0x28 refl d h)
    bwd (not_paren c q) r' f h = (paren_negation c q, same_tail d h, refl)
    bwd (comparison x c o e y) r' f h = absurd (begins_not 0x21 (comparable_begins x _) refl (sym h ∙ d))
    bwd (test_basic t) r' f h = absurd (begins_not 0x21 (test_begins t r') refl (sym h ∙ d))
    bwd (not_test c t) r' f h = (test_negation c t, same_tail d h, refl)
