-- The laws of the reader's functions that read a basic expression: a parenthesis, a negation, or an operand with what stands behind it. Assumes nothing.
use Rattle.std.specs.Prelude.{Err}
use mathlib.Core.Path.{◌≡◌, refl, sym, ap, subst, ◌∙◌}
use mathlib.Core.Logic.{◌≢◌}
use mathlib.Core.Bool.{true, false}
use mathlib.Core.List.{List, [], ◌∷◌}
use Prim.Native.Nat.{ℕ, ◌+◌}
use native.Mathlib.Omega.{arith}
use borrow.Author.Tests.{ne_eqb}
use lib.Dec.{eqb}
use lib.ListN.{drop}
use Rattle.definition.specs.Utf8.{is_utf8}
use Rattle.definition.specs.Lexical.{Blanks}
use Rattle.definition.specs.Grammar as G
use Rattle.definition.specs.Grammar.{spell_paren, spell_basic, spell_operator}
use Rattle.definition.specs.Grammar.Test.{query_test, function_test}
use Rattle.parser_follow.specs.Blanks.{split_blanks}
use Rattle.basics.specs.Reads.{Reads, ReadsNone, StartsNot}
use Rattle.parser_scan.specs.Text.{Is, Skipped, OperatorAt}
use Rattle.compile_writes.specs.Effects.{Effect, Writer, join, seq, mark, bytes, first, verdict}
use Rattle.compile_writes.specs.Sorts.{Sort, sort_basic, sort_paren, sort_test, sort_comparable, sort_function, value_verdict, compared_verdict}
use Rattle.compile_writes.specs.Writes.{write_paren, write_test, write_basic, write_comparable, not_tail}
use Rattle.parser_follow.specs.Follow.{unblank, After, after_weaken}
use Rattle.parser_follow.specs.Numbers.{sort_number, sort_of, is_comparable, operator_number}
use Rattle.parser_follow.specs.Pieces.{Operand, spell_operand, write_operand, operand_flag, Side, spell_side, write_side, BehindOf, spell_behind_of, write_behind_of, behind_of_sort, Negation, spell_negation, write_negation}
use Rattle.parser_follow.specs.Pieces.Operand.{query_operand, function_operand}
use Rattle.parser_follow.specs.Pieces.Behind.{alone, compared}
use Rattle.parser_follow.specs.Pieces.Negation.{test_negation}
use Rattle.parser_items.specs.Reads.{Asks, Read, Post, PutMarked, next, stop}
use Rattle.parser_items.specs.Laws.{Moved, done_then, done_seq, done_skip, marked_done}
use Rattle.parser_items.specs.declared.Cursor.{Cursor}
use Rattle.parser_items.specs.Reads.{Step}
use Rattle.parser_laws.specs.So.{so_reads, so_none}
use Rattle.parser_laws.specs.Sorted.{sort_of_lem}
use Rattle.parser_laws.specs.Query.{me_operand}
use Rattle.parser_laws.specs.Sides.{comparable_of, side_reads, side_incomparable, side_none}
use Rattle.parser_laws.specs.Behind.{some_allowed, compared_allowed, behind_alone, behind_literal, behind_compared, behind_none, behind_incomparable}
use Rattle.parser_laws.specs.Basic.{spell_operated, me_operated, operated_reads, operated_none_behind, operated_none, basic_operated, basic_paren, basic_negation, me_negation, filter_query_sort}
use Rattle.parser_laws.specs.Negate.{not_effect, negated, negation_paren, TestOf, test_of, negation_none, negation_reads, negation_literal}
use Rattle.parser.proofs.Steps.{asks_moved, done_is, done_moved, post_so, stay, put_marked}
use Rattle.parser.proofs.Operands.{reads_at, done_at, byte_then, behind_blanks, operand_then}

-- ---- a basic expression

module _ {s P P' L L' : List ℕ} {a : Cursor} {r : Step} where
  -- a parenthesis
  pub basic_at_paren : Is s a.at 0x28 true → Post spell_paren write_paren (λ t. sort_number (sort_paren t)) 0 s P P' L L' a r → Post spell_basic write_basic (λ t. sort_number (sort_basic t)) 2 s P P' L L' a r
  basic_at_paren i h = post_so 0 (basic_paren a.pool i.1) (omega arith) (stay a) (omega arith) h

  -- a negation, behind its "!"
  pub basic_at_negation : {b : Cursor} → Is s a.at 0x21 true → Moved a b (a.at + 1) → Post spell_negation write_negation (λ t. 4) 2 s P P' L L' b r → Post spell_basic write_basic (λ t. sort_number (sort_basic t)) 2 s P P' L L' a r
  basic_at_negation {b} i m h = post_so 2 (basic_negation a.pool (byte_then 0x21 a.at b.at s i m.0)) (omega arith) m (omega (arith, m.0)) h

-- where neither stands: an operand with what stands behind it
module _ {s : List ℕ} {a : Cursor} (x : Is s a.at 0x28 false) (y : Is s a.at 0x21 false) where
  -- no operand
  pub basic_no_operand : {P P' L L' : List ℕ} {i : ℕ} → ReadsNone spell_operand (After 1) (drop a.at s) → Post spell_basic write_basic (λ t. sort_number (sort_basic t)) 2 s P P' L L' a (Err i)
  basic_no_operand n = stop (so_none (λ m. m) (basic_operated a.pool x y) (λ l m. m) (operated_none n))

  -- both were read, or what stands behind the operand was not
  pub basic_at_operand : {P P₁ P₂ L L₁ L₂ : List ℕ} {b : Cursor} {f : ℕ} {r : Step} → Read spell_operand write_operand operand_flag 1 s P P₁ L L₁ a b f → Post (spell_behind_of f) (write_behind_of f) (behind_of_sort f) 2 s P₁ P₂ L₁ L₂ b r
      → Post spell_basic write_basic (λ t. sort_number (sort_basic t)) 2 s P P₂ L L₂ a r
  basic_at_operand h g =
      post_so 2 (basic_operated a.pool x y) (omega arith) (stay a) (omega arith)
      (operand_then BehindOf spell_behind_of write_behind_of behind_of_sort spell_operated (λ t p. (me_operated p t).0) (λ t. (me_operated 0 t).1) 2 (λ u v. record { operand = u; behind = v })
      (λ p u v. refl) (λ u v. refl) (λ p s r r₁ x y o k. operated_reads p o k) (λ p s r x o k. operated_none_behind p o k) h g)

-- ---- a negation

-- behind what has the flag f and is negated, the verdict on it was set and its tail was put
abbrev pub NotPut : ℕ → List ℕ → List ℕ → Cursor → Cursor → Type 0
NotPut f P P' a b = PutMarked P P' a b (not_tail (sort_of f)) (record { verdict = compared_verdict true (sort_of f); beyond = false })

-- what is known of a test that is negated, from the operand that it is
test_negated : (p : ℕ) (b : Blanks) (x : Operand) (y : TestOf x) → me_negation p (test_negation b y.test) ≡ negated (me_operand p x)
unfolding seq mark bytes write_test sort_test
test_negated p b x y = go y.test refl
  where
    go : (t : G.Test) → y.test ≡ t → me_negation p (test_negation b y.test) ≡ negated (me_operand p x)
    go (query_test q) e =
        let i : query_operand q ≡ x = rw e at y.is in
        let f = filter_query_sort q in
        ap (λ (t : G.Test). me_negation p (test_negation b t)) e ∙ (λ j. (join (write_operand (query_operand q) p) (not_effect (f j)), 4)) ∙ ap (λ (z : Operand). negated (me_operand p z)) i
    go (function_test g) e =
        let i : function_operand g ≡ x = rw e at y.is in
        let f = sym (sort_of_lem (sort_function g)) in
        ap (λ (t : G.Test). me_negation p (test_negation b t)) e ∙ (λ j. (join (write_operand (function_operand g) p) (not_effect (f j)), 4)) ∙ ap (λ (z : Operand). negated (me_operand p z)) i

module _ {s : List ℕ} {a b : Cursor} {at : ℕ} (k : Skipped s a.at at) (m : Moved a b at) where
  -- what is negated was read, and the tail put behind it
  negated_read : {T : Type 0} {sp : T → List ℕ → List ℕ} {w : T → Writer} {fl : T → ℕ} {j f : ℕ} {P P₁ P₂ L L₁ : List ℕ} {c d : Cursor} (h : Read sp w fl j s P P₁ L L₁ b c f) → NotPut f P₁ P₂ c d
      → {t : Negation} → me_negation a.pool t ≡ negated (w h.tree a.pool, fl h.tree) → Reads spell_negation (me_negation a.pool) (After 2) (drop a.at s) t (drop c.at s)
      → Read spell_negation write_negation (λ x. 4) 2 s P P₂ L L₁ a d 4
  negated_read {fl = fl} {P₁ = P₁} {P₂ = P₂} {c = c} {d = d} h q {t} e o =
      let q' : NotPut (fl h.tree) P₁ P₂ c d = subst (λ (n : ℕ). NotPut n P₁ P₂ c d) h.flag q in
      record {
        tree = t;
        reads = subst (λ (i : ℕ). Reads spell_negation (me_negation a.pool) (After 2) (drop a.at s) t (drop i s)) (sym q.at) o;
        from = omega (arith, k.from, m.0, h.from, q.at);
        to = omega (arith, h.to, q.at);
        done = done_is (ap (λ (x : Effect × ℕ). x.0) e) (done_then (done_moved m (done_at h m.1.0.1)) (put_marked q'));
        flag = refl;
        utf8 = subst (λ (i : ℕ). is_utf8 (drop i s) ≡ true) (sym q.at) h.utf8;
      }

  -- a parenthesis
  module _ (i : Is s at 0x28 true) where
    -- it was read
    pub negation_at_paren : {f : ℕ} {P P₁ P₂ L L₁ : List ℕ} {c d : Cursor} → Read spell_paren write_paren (λ t. sort_number (sort_paren t)) 0 s P P₁ L L₁ b c f → NotPut f P₁ P₂ c d
        → Read spell_negation write_negation (λ t. 4) 2 s P P₂ L L₁ a d 4
    negation_at_paren h q =
        let so = negation_paren a.pool (sym k.rest ∙ i.1) in
        negated_read h q (so.cod h.tree) (so_reads negated so (λ l x. after_weaken 0 2 (omega arith) x) (reads_at h m.1.0.1 (behind_blanks k m.0)))

    -- it was not
    pub negation_no_paren : {P P' L L' : List ℕ} {j : ℕ} → ReadsNone spell_paren (After 0) (drop b.at s) → Post spell_negation write_negation (λ t. 4) 2 s P P' L L' a (Err j)
    negation_no_paren n = stop (so_none negated (negation_paren a.pool (sym k.rest ∙ i.1)) (λ l x. after_weaken 0 2 (omega arith) x) (subst (ReadsNone spell_paren (After 0)) (behind_blanks k m.0) n))

  -- a test
  module _ (i : Is s at 0x28 false) where
    -- no operand
    pub negation_no_operand : {P P' L L' : List ℕ} {j : ℕ} → ReadsNone spell_operand (After 1) (drop b.at s) → Post spell_negation write_negation (λ t. 4) 2 s P P' L L' a (Err j)
    negation_no_operand n = stop (negation_none a.pool (λ l e. i l (k.rest ∙ e)) (subst (ReadsNone spell_operand (After 1)) (behind_blanks k m.0) n))

    module _ {f : ℕ} {P P₁ L L₁ : List ℕ} {c : Cursor} (h : Read spell_operand write_operand operand_flag 1 s P P₁ L L₁ b c f) where
      -- a literal, which is no test
      pub negation_of_literal : {P₂ L₂ : List ℕ} {j : ℕ} → f ≡ 0 → Post spell_negation write_negation (λ t. 4) 2 s P P₂ L L₂ a (Err j)
      negation_of_literal e = stop (negation_literal a.pool (λ l e. i l (k.rest ∙ e)) (reads_at h m.1.0.1 (behind_blanks k m.0)) (ap (λ (n : ℕ). eqb n 0) (sym h.flag ∙ e)))

      -- an operand that is a test
      pub negation_at_operand : {P₂ : List ℕ} {d : Cursor} → f ≢ 0 → NotPut f P₁ P₂ c d → Read spell_negation write_negation (λ t. 4) 2 s P P₂ L L₁ a d 4
      negation_at_operand n q =
          let z : eqb (operand_flag h.tree) 0 ≡ false = ne_eqb (operand_flag h.tree) 0 (λ e. n (h.flag ∙ e)) in
          negated_read h q (test_negated a.pool (split_blanks (drop a.at s)).0 h.tree (test_of h.tree z)) (negation_reads a.pool (λ l e. i l (k.rest ∙ e)) (reads_at h m.1.0.1 (behind_blanks k m.0)) z)

-- ---- what stands behind an operand

module _ {s : List ℕ} {at from : ℕ} (k : Skipped s from at) where
  -- no operator, or an operator, behind blanks
  none_behind : ReadsNone spell_operator (StartsNot (eqb 0x3D)) (drop at s) → ReadsNone spell_operator (StartsNot (eqb 0x3D)) (unblank (drop from s))
  none_behind n = subst (ReadsNone spell_operator (StartsNot (eqb 0x3D))) k.rest n

  operates : {e o : ℕ} (w : OperatorAt s at e o) → Reads spell_operator operator_number (StartsNot (eqb 0x3D)) (unblank (drop from s)) w.operator (drop e s)
  operates {e} w = subst (λ (z : List ℕ). Reads spell_operator operator_number (StartsNot (eqb 0x3D)) z w.operator (drop e s)) k.rest w.reads

module _ (f : ℕ) {s P L : List ℕ} {a : Cursor} {at : ℕ} (k : Skipped s a.at at) where
  -- no operator, which a literal needs
  pub behind_a_literal : {P' L' : List ℕ} {i : ℕ} → ReadsNone spell_operator (StartsNot (eqb 0x3D)) (drop at s) → f ≡ 0 → Post (spell_behind_of f) (write_behind_of f) (behind_of_sort f) 2 s P P' L L' a (Err i)
  behind_a_literal n e = stop (behind_literal f 0 (none_behind k n) (ap (λ (x : ℕ). eqb x 0) e))

  -- no operator, where the operand is a test
  pub behind_nothing : {x g : ℕ} → ReadsNone spell_operator (StartsNot (eqb 0x3D)) (drop at s) → Asks x s P L a → f ≢ 0 → g ≡ sort_number (sort_of f) → Read (spell_behind_of f) (write_behind_of f) (behind_of_sort f) 2 s P P L L a a g
  behind_nothing n st z e = record {
    tree = record { tree = alone; allowed = some_allowed f (ne_eqb f 0 z) };
    reads = behind_alone f a.pool (none_behind k n) (ne_eqb f 0 z);
    from = omega arith;
    to = st.text;
    done = done_skip;
    flag = e;
    utf8 = st.utf8;
  }

  module _ {e o : ℕ} (w : OperatorAt s at e o) where
    -- an operator, where the operand may not be compared
    pub behind_not_compared : {P' L' : List ℕ} {i : ℕ} → is_comparable f ≡ false → Post (spell_behind_of f) (write_behind_of f) (behind_of_sort f) 2 s P P' L L' a (Err i)
    behind_not_compared c = stop (behind_incomparable f 0 (operates k w) c)

    -- an operator, and behind it the right side or none
    pub behind_by_operator : {l : ℕ} {P' L' : List ℕ} {b : Cursor} {r : Step} → Moved a b e → is_comparable f ≡ true → l ≡ sort_number (sort_of f) → Post spell_side (write_side l o) (λ t. 4) 2 s P P' L L' b r
        → Post (spell_behind_of f) (write_behind_of f) (behind_of_sort f) 2 s P P' L L' a r
    behind_by_operator {l} {P'} {L'} {b} {r} m c q h =
        go (subst (λ (n : ℕ). Post spell_side (write_side n (operator_number w.operator)) (λ t. 4) 2 s P P' L L' b r) q (subst (λ (n : ℕ). Post spell_side (write_side l n) (λ t. 4) 2 s P P' L L' b r) w.number h))
      where
        go : {r : Step} → Post spell_side (write_side (sort_number (sort_of f)) (operator_number w.operator)) (λ t. 4) 2 s P P' L L' b r → Post (spell_behind_of f) (write_behind_of f) (behind_of_sort f) 2 s P P' L L' a r
        go (next {b = d} {f = n} g) =
            next {b = d} {f = n} (record {
              tree = record { tree = compared (split_blanks (drop a.at s)).0 w.operator g.tree; allowed = compared_allowed f (split_blanks (drop a.at s)).0 w.operator g.tree c };
              reads = behind_compared f a.pool (operates k w) c (reads_at g m.1.0.1 (ap (λ (i : ℕ). drop i s) m.0));
              from = omega (arith, k.from, w.from, m.0, g.from);
              to = g.to;
              done = done_moved m (done_at g m.1.0.1);
              flag = g.flag;
              utf8 = g.utf8;
            })
        go (stop n) = stop (behind_none f 0 (operates k w) (subst (λ (i : ℕ). ReadsNone spell_side (After 2) (drop i s)) m.0 n))

-- behind the operator
pub asks_operator : {at e o : ℕ} {s P L : List ℕ} {a b : Cursor} → Asks 0 s P L a → Skipped s a.at at → OperatorAt s at e o → Moved a b e → Asks 0 s P L b
asks_operator st k w m = asks_moved st m (omega (arith, k.from, w.from)) w.to (w.utf8 (k.utf8 st.utf8)) (omega arith)

-- ---- the right side of a comparison

module _ {s : List ℕ} {a b : Cursor} {at : ℕ} (k : Skipped s a.at at) (m : Moved a b at) where
  -- no operand
  pub right_none : (l o : ℕ) {P P' L L' : List ℕ} {i : ℕ} → ReadsNone spell_operand (After 1) (drop b.at s) → Post spell_side (write_side l o) (λ t. 4) 2 s P P' L L' a (Err i)
  right_none l o n = stop (side_none (subst (ReadsNone spell_operand (After 1)) (behind_blanks k m.0) n))

  module _ {f : ℕ} {P P₁ L L₁ : List ℕ} {c : Cursor} (h : Read spell_operand write_operand operand_flag 1 s P P₁ L L₁ b c f) where
    -- an operand that may not be compared
    pub right_not_compared : (l o : ℕ) {P₂ L₂ : List ℕ} {i : ℕ} → is_comparable f ≡ false → Post spell_side (write_side l o) (λ t. 4) 2 s P P₂ L L₂ a (Err i)
    right_not_compared l o e = stop (side_incomparable l o a.pool (reads_at h m.1.0.1 (behind_blanks k m.0)) (ap is_comparable (sym h.flag) ∙ e))

    -- an operand that may be compared, and the comparison put behind it
    pub right_read : (l o : ℕ) {r : ℕ} {P₂ : List ℕ} {d : Cursor} → is_comparable f ≡ true → r ≡ sort_number (sort_of f)
        → PutMarked P₁ P₂ c d (0x14 ∷ o ∷ []) (record { verdict = first (value_verdict (sort_of l)) (value_verdict (sort_of r)); beyond = false }) → Read spell_side (write_side l o) (λ t. 4) 2 s P P₂ L L₁ a d 4
    right_read l o {r} {P₂} {d} e g q =
        let x : is_comparable (operand_flag h.tree) ≡ true = ap is_comparable (sym h.flag) ∙ e in
        let y = comparable_of h.tree x in
        let σ : sort_of r ≡ sort_comparable y.side = ap sort_of g ∙ sort_of_lem (sort_of f) ∙ ap sort_of h.flag ∙ y.sort in
        let q' : PutMarked P₁ P₂ c d (0x14 ∷ o ∷ []) (record { verdict = first (value_verdict (sort_of l)) (value_verdict (sort_comparable y.side)); beyond = false }) =
        subst (λ (τ : Sort). PutMarked P₁ P₂ c d (0x14 ∷ o ∷ []) (record { verdict = first (value_verdict (sort_of l)) (value_verdict τ); beyond = false })) σ q in
        let t : Side = record { blanks = (split_blanks (drop a.at s)).0; side = y.side } in
        record {
          tree = t;
          reads = subst (λ (i : ℕ). Reads {M = Effect × ℕ} spell_side (λ z. (write_side l o z a.pool, 4)) (After 2) (drop a.at s) t (drop i s)) (sym q.at) (side_reads l o a.pool (reads_at h m.1.0.1 (behind_blanks k m.0)) x);
          from = omega (arith, k.from, m.0, h.from, q.at);
          to = omega (arith, h.to, q.at);
          done = done_seq (write_comparable y.side) (seq (verdict (first (value_verdict (sort_of l)) (value_verdict (sort_comparable y.side)))) (bytes (0x14 ∷ o ∷ [])))
              (done_is (sym (y.writes a.pool)) (done_moved m (done_at h m.1.0.1))) (marked_done q');
          flag = refl;
          utf8 = subst (λ (i : ℕ). is_utf8 (drop i s) ≡ true) (sym q.at) h.utf8;
        }
