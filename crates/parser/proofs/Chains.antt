-- The laws of the reader's functions that read an argument: a literal alone, a logical expression, or a chain that an operand begins. Assumes nothing.
use Rattle.std.specs.Prelude.{Ok, Err}
use mathlib.Core.Path.{◌≡◌, refl, sym, ap, subst, ◌∙◌}
use mathlib.Core.Logic.{◌≢◌}
use mathlib.Core.Bool.{true, false, true≢false}
use mathlib.Core.List.{List, ◌∷◌}
use Prim.Native.Nat.{ℕ, ◌+◌, ◌≤◌}
use native.Mathlib.Nat.{add_assoc}
use native.Mathlib.Omega.{arith}
use borrow.Author.Tests.{ne_eqb}
use lib.Dec.{eqb}
use lib.ListN.{length, drop}
use Rattle.definition.specs.Grammar as G
use Rattle.definition.specs.Grammar.{spell_logical_or, spell_more_and, spell_more_or, spell_argument, spell_literal, spell_operator}
use Rattle.definition.specs.Grammar.Argument.{literal_argument}
use Rattle.compile_writes.specs.Laws.{effect_assoc}
use Rattle.basics.specs.Reads.{ReadsNone, StartsNot}
use Rattle.parser_scan.specs.Text.{hd, Is, Both, Skipped}
use Rattle.compile_writes.specs.Effects.{join, seq}
use Rattle.compile_writes.specs.Sorts.{Sort, sort_or_lem, sort_more_and, sort_more_or, sort_argument}
use Rattle.compile_writes.specs.Writes.{write_or_lem, write_more_and, write_more_or, write_argument}
use Rattle.compile_writes.specs.Sizes.{sized_more_and}
use Rattle.parser_follow.specs.Follow.{level_of, After, after_weaken}
use Rattle.parser_follow.specs.Numbers.{sort_number, sort_of, sort_small}
use Rattle.parser_follow.specs.Pieces.{Operand, spell_operand, write_operand, operand_flag, spell_behind_of, write_behind_of, behind_of_sort, ChainedOf, spell_chained_of, write_chained_of, chained_of_sort}
use Rattle.parser_follow.specs.Pieces.Operand.{literal_operand, query_operand, function_operand}
use Rattle.parser_items.specs.Reads.{Asks, Done, Read, Post, Operates, next, stop}
use Rattle.parser_items.specs.Laws.{done_seq, read_of}
use Rattle.parser_items.specs.declared.Cursor.{Cursor}
use Rattle.parser_items.specs.Reads.{Step}
use Rattle.parser_laws.specs.So.{so_none}
use Rattle.parser_laws.specs.Sorted.{sort_of_lem}
use Rattle.parser_laws.specs.Joins.{join_pool}
use Rattle.parser_laws.specs.Begins.{is_operand_byte}
use Rattle.parser_laws.specs.Basic.{query_some, function_some}
use Rattle.parser_laws.specs.Behind.{operator_level}
use Rattle.parser_laws.specs.Argument.{argument_logical, chained_reads, chained_none_or, chained_none_and, chained_none, spell_chain, me_chain, argument_chain, chain_reads, chain_none_rest, chain_none, no_literal_flag, no_literal_operator, argument_literal}
use Rattle.parser.proofs.Steps.{asks_read, done_is, post_so, stay}
use Rattle.parser.proofs.Basics.{behind_nothing}
use Rattle.parser.proofs.Logic.{and_loop, and_end, or_loop, or_end}
use Rattle.parser.proofs.Operands.{asks_behind, reads_at, done_at, operand_then}

-- ---- what is left of a logical expression behind its first operand

-- nothing that may stand behind the operand
pub chained_no_behind : (f : ℕ) {s P P' L L' : List ℕ} {a : Cursor} {i : ℕ} → ReadsNone (spell_behind_of f) (After 2) (drop a.at s) → Post (spell_chained_of f) (write_chained_of f) (chained_of_sort f) 4 s P P' L L' a (Err i)
chained_no_behind f {a = a} n = stop (chained_none f a.pool n)

module _ {f : ℕ} {s P P₁ L L₁ : List ℕ} {a b : Cursor} {n : ℕ} (h : Read (spell_behind_of f) (write_behind_of f) (behind_of_sort f) 2 s P P₁ L L₁ a b n) where
  -- the sort of what stands before the operands of `&&`
  abbrev sort : Sort
  sort = sort_of (behind_of_sort f h.tree)

  -- no operands of `&&`
  pub chained_no_and : {P' L' : List ℕ} {i : ℕ} → ReadsNone spell_more_and (After 3) (drop b.at s) → Post (spell_chained_of f) (write_chained_of f) (chained_of_sort f) 4 s P P' L L' a (Err i)
  chained_no_and k = stop (chained_none_and f a.pool h.reads k)

  module _ {P₂ L₂ : List ℕ} {c : Cursor} {m : ℕ} (g₀ : Read spell_more_and (λ t. write_more_and t (sort_of n) false) (λ t. sort_number (sort_more_and t (sort_of n))) 3 s P₁ P₂ L₁ L₂ b c m) where
    -- the operands of `&&`, with the sort that the tree before them has
    g : Read spell_more_and (λ t. write_more_and t sort false) (λ t. sort_number (sort_more_and t sort)) 3 s P₁ P₂ L₁ L₂ b c m
    g = subst (λ (i : ℕ). Read spell_more_and (λ t. write_more_and t (sort_of i) false) (λ t. sort_number (sort_more_and t (sort_of i))) 3 s P₁ P₂ L₁ L₂ b c m) h.flag g₀

    -- there is room for the operands of `||`
    pub asks_chained : Asks 0 s P L a → Asks 0 s P₂ L₂ c × (m ≤ 4)
    asks_chained st = (asks_read (λ t r. sized_more_and t sort false r) (asks_behind st h) g (omega arith), omega (arith, g.flag, sort_small (sort_more_and g.tree sort)))

    -- the operands of `||` were read, or there are none
    pub chained_then : {P₃ L₃ : List ℕ} {r : Step} → Post spell_more_or (λ t. write_more_or t (sort_of m) false) (λ t. sort_number (sort_more_or t (sort_of m))) 4 s P₂ P₃ L₂ L₃ c r
        → Post (spell_chained_of f) (write_chained_of f) (chained_of_sort f) 4 s P P₃ L L₃ a r
    chained_then {P₃} {L₃} {r} k₀ = go (subst (λ (i : ℕ). Post spell_more_or (λ t. write_more_or t (sort_of i) false) (λ t. sort_number (sort_more_or t (sort_of i))) 4 s P₂ P₃ L₂ L₃ c r) g.flag k₀)
      where
        go : {q : Step} → Post spell_more_or (λ t. write_more_or t (sort_of (sort_number (sort_more_and g.tree sort))) false) (λ t. sort_number (sort_more_or t (sort_of (sort_number (sort_more_and g.tree sort))))) 4 s P₂ P₃ L₂ L₃ c q
            → Post (spell_chained_of f) (write_chained_of f) (chained_of_sort f) 4 s P P₃ L L₃ a q
        go (next {b = d} {f = i} k) =
            let e = h.done.pool in
            let x = (done_at g e).pool ∙ ap (λ (j : ℕ). j + length (write_more_and g.tree sort false (a.pool + length (write_behind_of f h.tree a.pool).pool)).pool) e in
            let σ = sort_of_lem (sort_more_and g.tree sort) in
            next {b = d} {f = i} (record {
              tree = record { head = h.tree; ands = g.tree; ors = k.tree };
              reads = chained_reads f a.pool h.reads (reads_at g e refl) (reads_at k x refl);
              from = omega (arith, h.from, g.from, k.from);
              to = k.to;
              done = done_seq (write_behind_of f h.tree) (seq (write_more_and g.tree sort false) (write_more_or k.tree (sort_more_and g.tree sort) false)) h.done
                  (done_seq (write_more_and g.tree sort false) (write_more_or k.tree (sort_more_and g.tree sort) false) g.done
                  (subst (λ (τ : Sort). Done P₂ P₃ L₂ L₃ c d (write_more_or k.tree τ false c.pool)) σ k.done));
              flag = k.flag ∙ ap (λ (τ : Sort). sort_number (sort_more_or k.tree τ)) σ;
              utf8 = k.utf8;
            })
        go (stop k) = stop (chained_none_or f a.pool h.reads (reads_at g h.done.pool refl) k)

-- behind a ")" no operator stands
no_operator : {s l : List ℕ} → s ≡ 0x29 ∷ l → ReadsNone spell_operator (StartsNot (eqb 0x3D)) s
no_operator e = record { none = λ o r k q. let x = sym (operator_level o r) ∙ ap (λ (z : List ℕ). level_of (hd z)) (sym q ∙ e) in absurd (omega (arith, x)) }

-- behind an operand that is no literal, nothing is left before the end of a call
pub chained_end : {f e g : ℕ} {s P L : List ℕ} {a : Cursor} → Asks 0 s P L a → f ≢ 0 → Skipped s a.at e → Is s e 0x29 true → (g ≡ sort_number (sort_of f)) × (g ≤ 4)
    → Post (spell_chained_of f) (write_chained_of f) (chained_of_sort f) 4 s P P L L a (Ok (a, g))
chained_end {f} {e} {g} {s} {P} {L} {a} st z k i x =
    let h = behind_nothing f k (no_operator i.1) st z x.0 in
    let no : (c d : ℕ) → c ≢ 0x29 → Both s e c d false = λ c d n l q. n (ap hd (sym q ∙ i.1)) in
    let m = and_end (and_loop g false x.1 st) k (no 0x26 0x26 (λ y. absurd (omega (arith, y)))) in
    chained_then h (read_of m refl) (or_end (or_loop g false x.1 st) k (no 0x7C 0x7C (λ y. absurd (omega (arith, y)))))

-- ---- an argument

-- what a parenthesis or a negation begins
pub argument_at_logical : {c : ℕ} {s P P' L L' : List ℕ} {a : Cursor} {r : Step} → is_operand_byte c ≡ false → Is s a.at c true
    → Post spell_logical_or (λ t. write_or_lem t false) (λ t. sort_number (sort_or_lem t)) 4 s P P' L L' a r → Post spell_argument write_argument (λ t. sort_number (sort_argument t)) 4 s P P' L L' a r
argument_at_logical {c} {a = a} n i h = post_so 4 (argument_logical a.pool c n i.1) (omega arith) (stay a) (omega arith) h

-- an operand of which 0 is told is a literal
literal_of : (x : Operand) → eqb (operand_flag x) 0 ≡ true → (y : G.Literal) × (x ≡ literal_operand y)
literal_of (literal_operand l) e = (l, refl)
literal_of (query_operand q) e = absurd (true≢false (sym e ∙ query_some q))
literal_of (function_operand x) e = absurd (true≢false (sym e ∙ function_some x))

-- a literal alone writes what it writes as an operand, and 0 is told of it
argument_by_literal : (x : Operand) (y : G.Literal) (p : ℕ) → x ≡ literal_operand y → write_argument (literal_argument y) p ≡ write_operand x p
unfolding write_argument
argument_by_literal x y p e = ap (λ (z : Operand). write_operand z p) (sym e)

literal_sort_lem : (y : G.Literal) → 0 ≡ sort_number (sort_argument (literal_argument y))
unfolding sort_argument
literal_sort_lem y = refl

-- what is written for a chain: its operand, and what is left behind that
chain_writes : (p : ℕ) (x : Operand) (y : ChainedOf (operand_flag x))
    → (me_chain p (record { operand = x; rest = y })).0 ≡ join (write_operand x p) (write_chained_of (operand_flag x) y (p + length (write_operand x p).pool))
unfolding seq
chain_writes p x y =
    let e = write_operand x p in
    let d = write_behind_of (operand_flag x) y.head (p + length e.pool) in
    let σ = sort_of (behind_of_sort (operand_flag x) y.head) in
    let q : p + length (join e d).pool ≡ p + length e.pool + length d.pool = ap (λ n. p + n) (join_pool e d) ∙ sym (add_assoc p (length e.pool) (length d.pool)) in
    ap (λ n. join (join e d) (join (write_more_and y.ands σ false n) (write_more_or y.ors (sort_more_and y.ands σ) false (n + length (write_more_and y.ands σ false n).pool)))) q ∙ effect_assoc e d _

-- where neither a parenthesis nor a negation stands: an operand with what stands behind it
module _ {s : List ℕ} {a : Cursor} (u : Is s a.at 0x28 false) (v : Is s a.at 0x21 false) where
  -- no operand
  pub argument_no_operand : {P P' L L' : List ℕ} {i : ℕ} → ReadsNone spell_operand (After 1) (drop a.at s) → Post spell_argument write_argument (λ t. sort_number (sort_argument t)) 4 s P P' L L' a (Err i)
  argument_no_operand n = stop (so_none (λ m. m) (argument_chain a.pool u v (λ y r' z e. n.none (literal_operand y) r' (after_weaken 1 4 (omega arith) z) e)) (λ l m. m) (chain_none n))

  module _ {P P₁ L L₁ : List ℕ} {b : Cursor} {f : ℕ} (h : Read spell_operand write_operand operand_flag 1 s P P₁ L L₁ a b f) where
    -- a literal that no operator follows
    pub argument_at_literal : {e : ℕ} → f ≡ 0 → Skipped s b.at e → Operates s e false → Read spell_argument write_argument (λ t. sort_number (sort_argument t)) 4 s P P₁ L L₁ a b 0
    argument_at_literal z k n =
        let y = literal_of h.tree (ap (λ (i : ℕ). eqb i 0) (sym h.flag ∙ z)) in
        record {
          tree = literal_argument y.0;
          reads = argument_literal a.pool h.reads y.1 (subst (ReadsNone spell_operator (StartsNot (eqb 0x3D))) k.rest n) u v;
          from = h.from;
          to = h.to;
          done = done_is (argument_by_literal h.tree y.0 a.pool y.1) h.done;
          flag = literal_sort_lem y.0;
          utf8 = h.utf8;
        }

    -- no literal stands alone, where the operand is none or an operator follows it
    pub argument_by_flag : f ≢ 0 → (y : G.Literal) (r' : List ℕ) → After 4 r' → drop a.at s ≡ spell_literal y r' → ⊥
    argument_by_flag n = no_literal_flag a.pool h.reads (ne_eqb (operand_flag h.tree) 0 (λ e. n (h.flag ∙ e)))

    pub argument_by_operator : {e : ℕ} → Skipped s b.at e → Operates s e true → (y : G.Literal) (r' : List ℕ) → After 4 r' → drop a.at s ≡ spell_literal y r' → ⊥
    argument_by_operator k o = no_literal_operator a.pool h.reads o.2.operator _ (sym k.rest ∙ o.2.reads.eq)

    -- then the operand begins a chain
    pub argument_at_chain : {P₂ L₂ : List ℕ} {r : Step} → ((y : G.Literal) (r' : List ℕ) → After 4 r' → drop a.at s ≡ spell_literal y r' → ⊥) → Post (spell_chained_of f) (write_chained_of f) (chained_of_sort f) 4 s P₁ P₂ L₁ L₂ b r
        → Post spell_argument write_argument (λ t. sort_number (sort_argument t)) 4 s P P₂ L L₂ a r
    argument_at_chain n g =
        post_so 4 (argument_chain a.pool u v n) (omega arith) (stay a) (omega arith)
        (operand_then ChainedOf spell_chained_of write_chained_of chained_of_sort spell_chain (λ t p. (me_chain p t).0) (λ t. (me_chain 0 t).1) 4 (λ x y. record { operand = x; rest = y })
        chain_writes (λ x y. refl) (λ p s r r₁ x y o k. chain_reads p o k) (λ p s r x o k. chain_none_rest p o k) h g)
