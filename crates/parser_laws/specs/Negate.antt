-- S ( paren / filter-query / function-expr ), behind a "!"
use Rattle.std.specs.Prelude.{◌≡◌, refl, true, false, List, ◌∷◌, ℕ, eqb}
use Rattle.std.proofs.Common.{sym, ap, ◌∙◌, true≢false, lit≤}
use Rattle.definition.specs.Lexical.{Blanks, spell_blanks}
use Rattle.definition.specs.Grammar as G
use Rattle.definition.specs.Grammar.{spell_paren, spell_test}
use Rattle.definition.specs.Grammar.Paren.{paren}
use Rattle.definition.specs.Grammar.Test.{query_test, function_test}
use Rattle.parser_follow.specs.Blanks.{split_blanks, unblank_blanks}
use Rattle.basics.specs.Reads.{Reads, ReadsNone}
use Rattle.compile_writes.specs.Effects.{Effect, join, seq, mark, bytes}
use Rattle.compile_writes.specs.Sorts.{Sort, sort_paren, sort_test, sort_function, compared_verdict}
use Rattle.compile_writes.specs.Writes.{write_paren, write_test, not_tail}
use Rattle.parser_follow.specs.Follow.{unblank, After, after_weaken}
use Rattle.parser_follow.specs.Numbers.{sort_of}
use Rattle.parser_follow.specs.Pieces.{Operand, spell_operand, write_operand, operand_flag, Negation, spell_negation}
use Rattle.parser_follow.specs.Pieces.Operand.{literal_operand, query_operand, function_operand}
use Rattle.parser_follow.specs.Pieces.Negation.{paren_negation, test_negation}
use Rattle.parser_laws.specs.Joins.{plain, marked}
use Rattle.parser_laws.specs.Begins.{begins_not, test_begins}
use Rattle.parser_laws.specs.Starts.{test_start}
use Rattle.parser_laws.specs.Sorted.{sort_of_lem}
use Rattle.parser_laws.specs.So.{So}
use Rattle.parser_laws.specs.Paren.{me_paren}
use Rattle.parser_laws.specs.Query.{me_operand}
use Rattle.parser_laws.specs.Basic.{me_negation, filter_query_sort, query_some, function_some}

-- what stands behind what is negated: the verdict on its sort, and its tail
abbrev pub not_effect : Sort → Effect
not_effect s = join (marked (record { verdict = compared_verdict true s; beyond = false })) (plain (not_tail s))

-- what is known of the negation, from what is known of what is negated
abbrev pub negated : Effect × ℕ → Effect × ℕ
negated m = (join m.0 (not_effect (sort_of m.1)), 4)

paren_negates : (p : ℕ) (b : Blanks) (q : G.Paren) → me_negation p (paren_negation b q) ≡ negated (me_paren p q)
unfolding seq mark bytes
paren_negates p b q =
    let e = sym (sort_of_lem (sort_paren q)) in
    λ i. (join (write_paren q p) (not_effect (e i)), 4)

-- a parenthesis stands there
pub negation_paren : (p : ℕ) {s l : List ℕ} → unblank s ≡ 0x28 ∷ l → So spell_negation (me_negation p) spell_paren (me_paren p) (After 2) s (unblank s) negated
negation_paren p {s} {l} d = record {
  fill = paren_negation (split_blanks s).0;
  fwd = λ u r e. (split_blanks s).1 ∙ ap (spell_blanks (split_blanks s).0) e;
  cod = λ u. paren_negates p (split_blanks s).0 u;
  bwd = bwd;
}
  where
    bwd : (t' : Negation) (r' : List ℕ) → After 2 r' → s ≡ spell_negation t' r' → (u' : G.Paren) × (unblank s ≡ spell_paren u' r') × (me_negation p t' ≡ negated (me_paren p u'))
    bwd (paren_negation b (paren c e g)) r' f h = (paren c e g, ap unblank h ∙ unblank_blanks b _, paren_negates p b (paren c e g))
    bwd (test_negation b t) r' f h = absurd (begins_not 0x28 (test_begins t r') refl (sym (ap unblank h ∙ unblank_blanks b _ ∙ test_start t r') ∙ d))

-- ---- a test is an operand that is no literal

abbrev test_operand : G.Test → Operand
test_operand (query_test q) = query_operand q
test_operand (function_test f) = function_operand f

test_spells : (t : G.Test) (r : List ℕ) → spell_test t r ≡ spell_operand (test_operand t) r
test_spells (query_test q) r = refl
test_spells (function_test f) r = refl

test_writes : (t : G.Test) (p : ℕ) → write_test t p ≡ write_operand (test_operand t) p
unfolding write_test
test_writes (query_test q) p = refl
test_writes (function_test f) p = refl

test_sort : (t : G.Test) → sort_test t ≡ sort_of (operand_flag (test_operand t))
unfolding sort_test
test_sort (query_test q) = filter_query_sort q
test_sort (function_test f) = sym (sort_of_lem (sort_function f))

test_some : (t : G.Test) → eqb (operand_flag (test_operand t)) 0 ≡ false
test_some (query_test q) = query_some q
test_some (function_test f) = function_some f

test_negates : (p : ℕ) (b : Blanks) (t : G.Test) → me_negation p (test_negation b t) ≡ negated (me_operand p (test_operand t))
unfolding seq mark bytes
test_negates p b t =
    let w = test_writes t p in
    let e = test_sort t in
    λ i. (join (w i) (not_effect (e i)), 4)

pub record TestOf (x : Operand) : Type 0 where
  pub test : G.Test
  pub is : test_operand test ≡ x

pub test_of : (x : Operand) → eqb (operand_flag x) 0 ≡ false → TestOf x
test_of (literal_operand l) e = absurd (true≢false e)
test_of (query_operand q) e = record { test = query_test q; is = refl }
test_of (function_operand f) e = record { test = function_test f; is = refl }

-- how a negation stands in the text where no parenthesis does
negation_inside : {s : List ℕ} → ((l : List ℕ) → unblank s ≡ 0x28 ∷ l → ⊥) → (t' : Negation) (r' : List ℕ) → s ≡ spell_negation t' r'
    → (b : Blanks) × (t : G.Test) × (unblank s ≡ spell_operand (test_operand t) r') × (t' ≡ test_negation b t)
negation_inside n (paren_negation b (paren c e g)) r' h = absurd (n _ (ap unblank h ∙ unblank_blanks b _))
negation_inside n (test_negation b t) r' h = (b, t, ap unblank h ∙ unblank_blanks b _ ∙ test_start t r' ∙ test_spells t r', refl)

module _ (p : ℕ) {s : List ℕ} (n : (l : List ℕ) → unblank s ≡ 0x28 ∷ l → ⊥) where
  pub negation_none : ReadsNone spell_operand (After 1) (unblank s) → ReadsNone spell_negation (After 2) s
  negation_none k = record {
    none = λ t' r' f e.
        let h = negation_inside n t' r' e in
        k.none (test_operand h.1) r' (after_weaken 1 2 (lit≤ tt) f) h.2;
  }

  module _ {r : List ℕ} {x : Operand} (o : Reads spell_operand (me_operand p) (After 1) (unblank s) x r) where
    pub negation_reads : (c : eqb (operand_flag x) 0 ≡ false) → Reads spell_negation (me_negation p) (After 2) s (test_negation (split_blanks s).0 (test_of x c).test) r
    negation_reads c = record {
      eq = (split_blanks s).1 ∙ ap (spell_blanks (split_blanks s).0) (o.eq ∙ ap (λ z. spell_operand z r) (sym (test_of x c).is) ∙ sym (test_spells (test_of x c).test r));
      only = λ t' r' f e.
          let h = negation_inside n t' r' e in
          let g = o.only (test_operand h.1) r' (after_weaken 1 2 (lit≤ tt) f) h.2 in
          (ap (me_negation p) h.3 ∙ test_negates p h.0 h.1 ∙ ap negated g.0 ∙ ap (λ z. negated (me_operand p z)) (sym (test_of x c).is) ∙ sym (test_negates p (split_blanks s).0 (test_of x c).test), g.1);
    }

    pub negation_literal : eqb (operand_flag x) 0 ≡ true → ReadsNone spell_negation (After 2) s
    negation_literal c = record {
      none = λ t' r' f e.
          let h = negation_inside n t' r' e in
          let g = o.only (test_operand h.1) r' (after_weaken 1 2 (lit≤ tt) f) h.2 in
          true≢false (sym c ∙ ap (λ m. eqb m.1 0) (sym g.0) ∙ test_some h.1);
    }
