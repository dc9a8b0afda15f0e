-- function-argument = literal / filter-query / logical-expr / function-expr: a literal alone, a logical expression that a parenthesis or a negation begins, or a chain that an operand begins.
use Rattle.std.specs.Prelude.{◌≡◌, refl, true, false, ◌⊎◌, List, [], ◌∷◌, ℕ, ◌+◌, eqb, length}
use Rattle.std.proofs.Common.{sym, ap, subst, ◌∙◌, true≢false, inl, inr, ⊎_elim, add_assoc, arith, lit≤}
use Rattle.definition.specs.Grammar as G
use Rattle.definition.specs.Grammar.{spell_argument, spell_logical_or, spell_more_and, spell_more_or, spell_literal, spell_operator}
use Rattle.definition.specs.Grammar.LogicalAnd.{logical_and}
use Rattle.definition.specs.Grammar.LogicalOr.{logical_or}
use Rattle.definition.specs.Grammar.MoreAnd.{no_and}
use Rattle.definition.specs.Grammar.MoreOr.{no_or}
use Rattle.definition.specs.Grammar.Argument.{literal_argument, query_argument, logical_argument, function_argument}
use Rattle.compile_writes.specs.Laws.{effect_assoc}
use Rattle.basics.specs.Reads.{Reads, ReadsNone, StartsNot}
use Rattle.compile_writes.specs.Effects.{Effect, join, join_marks, seq, skip}
use Rattle.compile_writes.specs.Sorts.{Sort, sort_argument, sort_or_lem, sort_and_lem, sort_basic, sort_more_and, sort_more_or, sort_function, compared_verdict}
use Rattle.compile_writes.specs.Writes.{write_argument, write_or_lem, write_and_lem, write_basic, write_more_and, write_more_or, write_filter_query, write_function}
use Rattle.parser_follow.specs.Follow.{hd, unblank, level_of, After, after_weaken}
use Rattle.parser_follow.specs.Numbers.{sort_of, sort_number}
use Rattle.parser_follow.specs.Pieces.{Operand, spell_operand, write_operand, operand_flag, Behind, write_behind, behind_sort, Allowed, BehindOf, spell_behind_of, write_behind_of, behind_of_sort, ChainedOf, spell_chained_of, write_chained_of, chained_of_sort}
use Rattle.parser_follow.specs.Pieces.Operand.{literal_operand, query_operand, function_operand}
use Rattle.parser_follow.specs.Pieces.Behind.{alone}
use Rattle.parser_laws.specs.Joins.{join_pool}
use Rattle.parser_laws.specs.Begins.{is_operand_byte, begins_not, begins_more, literal_operand_lem, lower_literal, literal_begins, query_begins, function_begins}
use Rattle.parser_laws.specs.Sorted.{sort_of_lem}
use Rattle.parser_laws.specs.So.{So}
use Rattle.parser_laws.specs.And.{me_basic, me_more_and, and_follow, write_and, sort_and}
use Rattle.parser_laws.specs.Or.{me_more_or, me_or, or_follow, write_or, sort_or}
use Rattle.parser_laws.specs.Query.{me_operand}
use Rattle.parser_laws.specs.Behind.{me_behind, some_allowed, operator_level, behind_literal}
use Rattle.parser_laws.specs.Basic.{behind_follow, Operated, me_operated, basic_of, basic_operated, join_skip, filter_query_sort, query_some, function_some}
use Rattle.parser_laws.specs.Arguments.{me_argument}

-- ---- a logical expression that a parenthesis or a negation begins

pub argument_logical : (p : ℕ) {s l : List ℕ} (c : ℕ) → is_operand_byte c ≡ false → s ≡ c ∷ l → So spell_argument (me_argument p) spell_logical_or (me_or false p) (After 4) s s (λ m. m)
unfolding write_argument sort_argument
argument_logical p {s} {l} c n d = record { fill = logical_argument; fwd = λ u r e. e; cod = λ u. refl; bwd = bwd }
  where
    bwd : (t' : G.Argument) (r' : List ℕ) → After 4 r' → s ≡ spell_argument t' r' → (u' : G.LogicalOr) × (s ≡ spell_logical_or u' r') × (me_argument p t' ≡ me_or false p u')
    bwd (literal_argument x) r' f e = absurd (begins_not c (begins_more literal_operand_lem (literal_begins x r')) n (sym e ∙ d))
    bwd (query_argument q) r' f e = absurd (begins_not c (query_begins q r') n (sym e ∙ d))
    bwd (logical_argument x) r' f e = (x, e, refl)
    bwd (function_argument x) r' f e = absurd (begins_not c (begins_more literal_operand_lem (begins_more lower_literal (function_begins x r'))) n (sym e ∙ d))

-- ---- what is left of a logical expression behind its first operand

abbrev pub me_chained : (f p : ℕ) → ChainedOf f → Effect × ℕ
me_chained f p x = (write_chained_of f x p, chained_of_sort f x)

-- what is known of the chain, from what is known of what stands behind the operand, and then of the operands of `&&`
abbrev chained_or : ℕ → Effect → Effect × ℕ → G.MoreOr → Effect × ℕ
chained_or p e m v = (join e (join m.0 (write_more_or v (sort_of m.1) false (p + length m.0.pool))), sort_number (sort_more_or v (sort_of m.1)))

chained_means : (f p : ℕ) (x : ChainedOf f)
    → me_chained f p x ≡ chained_or (p + length (me_behind f p x.head).0.pool) (me_behind f p x.head).0 (me_more_and (sort_of (me_behind f p x.head).1) false (p + length (me_behind f p x.head).0.pool) x.ands) x.ors
unfolding seq
chained_means f p x =
    let σ = sort_more_and x.ands (sort_of (behind_of_sort f x.head)) in
    let e = sym (sort_of_lem σ) in
    let q = p + length (write_behind_of f x.head p).pool in
    let w = write_more_and x.ands (sort_of (behind_of_sort f x.head)) false q in
    λ i. (join (write_behind_of f x.head p) (join w (write_more_or x.ors (e i) false (q + length w.pool))), sort_number (sort_more_or x.ors (e i)))

-- what may follow the chain may follow each part
chain_follow : (u' : G.MoreAnd) (v' : G.MoreOr) (r' : List ℕ) → After 4 r' → (After 2 (spell_more_and u' (spell_more_or v' r'))) × (After 3 (spell_more_or v' r'))
chain_follow u' v' r' a = (and_follow u' _ (or_follow v' r' a), or_follow v' r' a)

module _ (f p : ℕ) where
  pub chained_reads : {s r r₁ r₂ : List ℕ} {y : BehindOf f} {u : G.MoreAnd} {v : G.MoreOr} → Reads (spell_behind_of f) (me_behind f p) (After 2) s y r
      → Reads spell_more_and (me_more_and (sort_of (behind_of_sort f y)) false (p + length (write_behind_of f y p).pool)) (After 3) r u r₁
      → Reads spell_more_or (me_more_or (sort_of (sort_number (sort_more_and u (sort_of (behind_of_sort f y))))) false (p + length (write_behind_of f y p).pool + length (write_more_and u (sort_of (behind_of_sort f y)) false (p + length (write_behind_of f y p).pool)).pool)) (After 4) r₁ v r₂
      → Reads (spell_chained_of f) (me_chained f p) (After 4) s (record { head = y; ands = u; ors = v }) r₂
  chained_reads {s} {r} {r₁} {r₂} {y} {u} {v} o k m = record { eq = o.eq ∙ ap (spell_behind_of f y) (k.eq ∙ ap (spell_more_and u) m.eq); only = only }
    where
      only : (t' : ChainedOf f) (r' : List ℕ) → After 4 r' → s ≡ spell_chained_of f t' r' → (me_chained f p t' ≡ me_chained f p (record { head = y; ands = u; ors = v })) × (r' ≡ r₂)
      only t' r' a e =
          let c = chain_follow t'.ands t'.ors r' a in
          let h = o.only t'.head (spell_more_and t'.ands (spell_more_or t'.ors r')) c.0 e in
          let g = k.only t'.ands (spell_more_or t'.ors r') c.1 (sym h.1) in
          let w = m.only t'.ors r' a (sym g.1) in
          let q = p + length (write_behind_of f y p).pool in (
            chained_means f p t'
                ∙ ap (λ (z : Effect × ℕ). chained_or (p + length z.0.pool) z.0 (me_more_and (sort_of z.1) false (p + length z.0.pool) t'.ands) t'.ors) h.0
                ∙ ap (λ (z : Effect × ℕ). chained_or q (write_behind_of f y p) z t'.ors) g.0
                ∙ ap (λ (z : Effect × ℕ). (join (write_behind_of f y p) (join (write_more_and u (sort_of (behind_of_sort f y)) false q) z.0), z.1)) w.0
                ∙ sym (chained_means f p (record { head = y; ands = u; ors = v })),
            w.1,
          )

  pub chained_none_or : {s r r₁ : List ℕ} {y : BehindOf f} {u : G.MoreAnd} → Reads (spell_behind_of f) (me_behind f p) (After 2) s y r
      → Reads spell_more_and (me_more_and (sort_of (behind_of_sort f y)) false (p + length (write_behind_of f y p).pool)) (After 3) r u r₁ → ReadsNone spell_more_or (After 4) r₁ → ReadsNone (spell_chained_of f) (After 4) s
  chained_none_or o k n = record {
    none = λ t' r' a e.
        let c = chain_follow t'.ands t'.ors r' a in
        let h = o.only t'.head (spell_more_and t'.ands (spell_more_or t'.ors r')) c.0 e in
        let g = k.only t'.ands (spell_more_or t'.ors r') c.1 (sym h.1) in
        n.none t'.ors r' a (sym g.1);
  }

  pub chained_none_and : {s r : List ℕ} {y : BehindOf f} → Reads (spell_behind_of f) (me_behind f p) (After 2) s y r → ReadsNone spell_more_and (After 3) r → ReadsNone (spell_chained_of f) (After 4) s
  chained_none_and o n = record {
    none = λ t' r' a e.
        let c = chain_follow t'.ands t'.ors r' a in
        let h = o.only t'.head (spell_more_and t'.ands (spell_more_or t'.ors r')) c.0 e in
        n.none t'.ands (spell_more_or t'.ors r') c.1 (sym h.1);
  }

  pub chained_none : {s : List ℕ} → ReadsNone (spell_behind_of f) (After 2) s → ReadsNone (spell_chained_of f) (After 4) s
  chained_none n = record {
    none = λ t' r' a e.
        let c = chain_follow t'.ands t'.ors r' a in
        n.none t'.head (spell_more_and t'.ands (spell_more_or t'.ors r')) c.0 e;
  }

-- ---- an operand with the chain behind it

pub record Chain : Type 0 where
  pub operand : Operand
  pub rest : ChainedOf (operand_flag operand)

abbrev pub spell_chain : Chain → List ℕ → List ℕ
spell_chain t r = spell_operand t.operand (spell_chained_of (operand_flag t.operand) t.rest r)

abbrev operated : Chain → Operated
operated t = record { operand = t.operand; behind = t.rest.head }

-- what is known of the chain: an operand with what stands behind it, the operands of `&&`, and those of `||`
abbrev chain_by : ℕ → Effect × ℕ → G.MoreAnd → G.MoreOr → Effect × ℕ
chain_by p m u v = (join m.0 (join (write_more_and u (sort_of m.1) false (p + length m.0.pool)) (write_more_or v (sort_more_and u (sort_of m.1)) false (p + length m.0.pool + length (write_more_and u (sort_of m.1) false (p + length m.0.pool)).pool))), sort_number (sort_more_or v (sort_more_and u (sort_of m.1))))

abbrev pub me_chain : ℕ → Chain → Effect × ℕ
me_chain p t = chain_by p (me_operated p (operated t)) t.rest.ands t.rest.ors

-- the logical expression of a chain
abbrev to_or : Chain → G.LogicalOr
to_or t = logical_or (logical_and (basic_of (operated t)).tree t.rest.ands) t.rest.ors

unmarked : (e : Effect) → join (record { plan = []; pool = []; marks = record { verdict = 0; beyond = false } }) e ≡ e
unfolding join join_marks
unmarked e = refl

-- what is written for a chain of `&&` straight in an argument
and_writes : (p : ℕ) (b : G.Basic) (u : G.MoreAnd) → write_and_lem (logical_and b u) false p ≡ join (write_basic b p) (write_more_and u (sort_basic b) false (p + length (write_basic b p).pool))
unfolding compared_verdict
and_writes p b u = write_and false p b u ∙ ap (join (write_basic b p)) (unmarked _)

-- the same with the sort of the first operand given apart
abbrev chain_sorted : ℕ → Effect → Sort → G.MoreAnd → G.MoreOr → Effect × ℕ
chain_sorted p e σ u v = (join e (join (write_more_and u σ false (p + length e.pool)) (write_more_or v (sort_more_and u σ) false (p + length e.pool + length (write_more_and u σ false (p + length e.pool)).pool))), sort_number (sort_more_or v (sort_more_and u σ)))

or_writes : (p : ℕ) (b : G.Basic) (u : G.MoreAnd) (v : G.MoreOr) → write_or_lem (logical_or (logical_and b u) v) false p ≡ (chain_sorted p (write_basic b p) (sort_basic b) u v).0
or_writes p b u v =
    let σ = sort_basic b in
    let e = write_basic b p in
    let w = write_more_and u σ false (p + length e.pool) in
    let a = and_writes p b u in
    let q : p + length (join e w).pool ≡ p + length e.pool + length w.pool = ap (λ n. p + n) (join_pool e w) ∙ sym (add_assoc p (length e.pool) (length w.pool)) in
    write_or false p (logical_and b u) v
    ∙ ap (λ z. join z (write_more_or v (sort_and_lem (logical_and b u)) false (p + length z.pool))) a
    ∙ ap (λ τ. join (join e w) (write_more_or v τ false (p + length (join e w).pool))) (sort_and b u)
    ∙ ap (λ n. join (join e w) (write_more_or v (sort_more_and u σ) false n)) q
    ∙ effect_assoc e w _

-- a logical expression straight in an argument, from what is known of its first operand
or_means : (p : ℕ) (b : G.Basic) (u : G.MoreAnd) (v : G.MoreOr) → me_or false p (logical_or (logical_and b u) v) ≡ chain_by p (me_basic p b) u v
or_means p b u v =
    let x = or_writes p b u v in
    let y : sort_number (sort_or_lem (logical_or (logical_and b u) v)) ≡ sort_number (sort_more_or v (sort_more_and u (sort_basic b))) = ap sort_number (sort_or (logical_and b u) v ∙ ap (sort_more_or v) (sort_and b u)) in
    let z : me_or false p (logical_or (logical_and b u) v) ≡ chain_sorted p (write_basic b p) (sort_basic b) u v = λ i. (x i, y i) in
    z ∙ ap (λ τ. chain_sorted p (write_basic b p) τ u v) (sym (sort_of_lem (sort_basic b)))

-- ---- from a chain to an argument and back

argument_means : (p : ℕ) (t : Chain) → me_argument p (logical_argument (to_or t)) ≡ me_chain p t
unfolding write_argument sort_argument
argument_means p t = or_means p (basic_of (operated t)).tree t.rest.ands t.rest.ors ∙ ap (λ m. chain_by p m t.rest.ands t.rest.ors) ((basic_of (operated t)).means p)

-- an operand alone as a chain
abbrev single : (x : Operand) → eqb (operand_flag x) 0 ≡ false → Chain
single x e = record { operand = x; rest = record { head = record { tree = alone; allowed = some_allowed (operand_flag x) e }; ands = no_and; ors = no_or } }

alone_writes : (p : ℕ) (e : Effect) (n : ℕ) → chain_by p (join e (skip (p + length e.pool)), n) no_and no_or ≡ (e, sort_number (sort_of n))
unfolding write_more_and write_more_or sort_more_and sort_more_or
alone_writes p e n =
    let a = join_skip e (p + length e.pool) in
    let x = ap (λ z. join z (join (skip (p + length z.pool)) (skip (p + length z.pool + length (skip (p + length z.pool)).pool)))) a in
    let y : join e (join (skip (p + length e.pool)) (skip (p + length e.pool + length (skip (p + length e.pool)).pool))) ≡ e = ap (join e) (join_skip (skip (p + length e.pool)) _) ∙ join_skip e _ in
    let z = x ∙ y in
    λ i. (z i, sort_number (sort_of n))

single_means : (p : ℕ) (x : Operand) (e : eqb (operand_flag x) 0 ≡ false) → me_chain p (single x e) ≡ (write_operand x p, sort_number (sort_of (operand_flag x)))
single_means p x e = alone_writes p (write_operand x p) (sort_number (sort_of (operand_flag x))) ∙ ap (λ τ. (write_operand x p, sort_number τ)) (sort_of_lem (sort_of (operand_flag x)))

query_alone : (p : ℕ) (q : G.FilterQuery) → me_argument p (query_argument q) ≡ me_chain p (single (query_operand q) (query_some q))
unfolding write_argument sort_argument
query_alone p q = (λ i. (write_filter_query q p, sort_number (filter_query_sort q i))) ∙ sym (single_means p (query_operand q) (query_some q))

function_alone : (p : ℕ) (x : G.Function) → me_argument p (function_argument x) ≡ me_chain p (single (function_operand x) (function_some x))
unfolding write_argument sort_argument
function_alone p x = (λ i. (write_function x p, sort_number (sym (sort_of_lem (sort_function x)) i))) ∙ sym (single_means p (function_operand x) (function_some x))

literal_means : (p : ℕ) (y : G.Literal) → me_argument p (literal_argument y) ≡ me_operand p (literal_operand y)
unfolding write_argument sort_argument
literal_means p y = refl

logical_means : (p : ℕ) (e : G.LogicalOr) → me_argument p (logical_argument e) ≡ me_or false p e
unfolding write_argument sort_argument
logical_means p e = refl

-- where neither a parenthesis nor a negation stands: a literal alone, or a chain
module _ (p : ℕ) {s : List ℕ} (a : (l : List ℕ) → s ≡ 0x28 ∷ l → ⊥) (b : (l : List ℕ) → s ≡ 0x21 ∷ l → ⊥) where
  chain_of_lem : (t' : G.Argument) (r' : List ℕ) → After 4 r' → s ≡ spell_argument t' r' → ((y : G.Literal) × (t' ≡ literal_argument y)) ⊎ ((u' : Chain) × (s ≡ spell_chain u' r') × (me_argument p t' ≡ me_chain p u'))
  chain_of_lem (literal_argument x) r' f e = inl (x, refl)
  chain_of_lem (query_argument q) r' f e = inr (single (query_operand q) (query_some q), e, query_alone p q)
  chain_of_lem (function_argument x) r' f e = inr (single (function_operand x) (function_some x), e, function_alone p x)
  chain_of_lem (logical_argument (logical_or (logical_and x u) v)) r' f e =
      let h = (basic_operated p a b).bwd x (spell_more_and u (spell_more_or v r')) (chain_follow u v r' f).0 e in
      inr (
        record { operand = h.0.operand; rest = record { head = h.0.behind; ands = u; ors = v } },
        h.1,
        logical_means p (logical_or (logical_and x u) v) ∙ or_means p x u v ∙ ap (λ m. chain_by p m u v) h.2,
      )

  -- where no literal stands alone: a chain
  pub argument_chain : ((x : G.Literal) (r' : List ℕ) → After 4 r' → s ≡ spell_literal x r' → ⊥) → So spell_argument (me_argument p) spell_chain (me_chain p) (After 4) s s (λ m. m)
  argument_chain c = record {
    fill = λ t. logical_argument (to_or t);
    fwd = λ t r e. e ∙ (basic_of (operated t)).spells _;
    cod = argument_means p;
    bwd = λ t' r' f e. ⊎_elim (λ z. absurd (c z.0 r' f (e ∙ ap (λ u. spell_argument u r') z.1))) (λ z. z) (chain_of_lem t' r' f e);
  }

-- ---- reading a chain

-- what may follow a chain may follow its operand
chain_operand : (f : ℕ) (x : ChainedOf f) (r : List ℕ) → After 4 r → After 1 (spell_chained_of f x r)
chain_operand f x r a = behind_follow x.head.tree _ (chain_follow x.ands x.ors r a).0

abbrev shifted : {f g : ℕ} → f ≡ g → ChainedOf f → ChainedOf g
shifted e x = record { head = record { tree = x.head.tree; allowed = subst (λ n. Allowed n x.head.tree) e x.head.allowed }; ands = x.ands; ors = x.ors }

-- the same as `me_chained`, which does not depend on what is allowed
abbrev chained_raw : ℕ → ℕ → Behind → G.MoreAnd → G.MoreOr → Effect × ℕ
chained_raw f p y u v =
    (seq (write_behind f y) (seq (write_more_and u (sort_of (behind_sort f y)) false) (write_more_or v (sort_more_and u (sort_of (behind_sort f y))) false)) p, sort_number (sort_more_or v (sort_more_and u (sort_of (behind_sort f y)))))

-- what is known of a chain, from what is known of its operand and of what stands behind it
abbrev joined : Effect → Effect × ℕ → Effect × ℕ
joined e m = (join e m.0, m.1)

chain_means : (p : ℕ) (t : Chain) → me_chain p t ≡ joined (write_operand t.operand p) (me_chained (operand_flag t.operand) (p + length (write_operand t.operand p).pool) t.rest)
unfolding seq
chain_means p t =
    let e = write_operand t.operand p in
    let d = write_behind_of (operand_flag t.operand) t.rest.head (p + length e.pool) in
    let σ = sort_of (behind_of_sort (operand_flag t.operand) t.rest.head) in
    let q : p + length (join e d).pool ≡ p + length e.pool + length d.pool = ap (λ n. p + n) (join_pool e d) ∙ sym (add_assoc p (length e.pool) (length d.pool)) in
    let k = sort_number (sort_more_or t.rest.ors (sort_more_and t.rest.ands σ)) in
    let x = ap (λ n. join (join e d) (join (write_more_and t.rest.ands σ false n) (write_more_or t.rest.ors (sort_more_and t.rest.ands σ) false (n + length (write_more_and t.rest.ands σ false n).pool)))) q ∙ effect_assoc e d _ in
    λ i. (x i, k)

module _ (p : ℕ) {s r : List ℕ} {x : Operand} (o : Reads spell_operand (me_operand p) (After 1) s x r) where
  pub chain_reads : {c : ChainedOf (operand_flag x)} {r₁ : List ℕ} → Reads (spell_chained_of (operand_flag x)) (me_chained (operand_flag x) (p + length (write_operand x p).pool)) (After 4) r c r₁
      → Reads spell_chain (me_chain p) (After 4) s (record { operand = x; rest = c }) r₁
  chain_reads {c} {r₁} k = record { eq = o.eq ∙ ap (spell_operand x) k.eq; only = only }
    where
      only : (t' : Chain) (r' : List ℕ) → After 4 r' → s ≡ spell_chain t' r' → (me_chain p t' ≡ me_chain p (record { operand = x; rest = c })) × (r' ≡ r₁)
      only t' r' a e =
          let h = o.only t'.operand (spell_chained_of (operand_flag t'.operand) t'.rest r') (chain_operand (operand_flag t'.operand) t'.rest r' a) e in
          let n = ap (λ z. z.1) h.0 in
          let g = k.only (shifted n t'.rest) r' a (sym h.1) in
          (chain_means p t' ∙ chain_moved t' h.0 ∙ ap (joined (write_operand x p)) g.0 ∙ sym (chain_means p (record { operand = x; rest = c })), g.1)
        where
          chain_moved : (t : Chain) (h : me_operand p t.operand ≡ me_operand p x)
              → joined (write_operand t.operand p) (me_chained (operand_flag t.operand) (p + length (write_operand t.operand p).pool) t.rest)
              ≡ joined (write_operand x p) (me_chained (operand_flag x) (p + length (write_operand x p).pool) (shifted (ap (λ z. z.1) h) t.rest))
          chain_moved t h = ap (λ (m : Effect × ℕ). joined m.0 (chained_raw m.1 (p + length m.0.pool) t.rest.head.tree t.rest.ands t.rest.ors)) h

  pub chain_none_rest : ReadsNone (spell_chained_of (operand_flag x)) (After 4) r → ReadsNone spell_chain (After 4) s
  chain_none_rest n = record {
    none = λ t' r' a e.
        let h = o.only t'.operand (spell_chained_of (operand_flag t'.operand) t'.rest r') (chain_operand (operand_flag t'.operand) t'.rest r' a) e in
        n.none (shifted (ap (λ z. z.1) h.0) t'.rest) r' a (sym h.1);
  }

  -- an operand that is no literal is no literal alone
  pub no_literal_flag : eqb (operand_flag x) 0 ≡ false → (y : G.Literal) (r' : List ℕ) → After 4 r' → s ≡ spell_literal y r' → ⊥
  no_literal_flag c y r' a e =
      let h = o.only (literal_operand y) r' (after_weaken 1 4 (lit≤ tt) a) e in
      true≢false (ap (λ m. eqb m.1 0) h.0 ∙ c)

  -- nor is one that an operator follows
  pub no_literal_operator : (q : G.Operator) (l : List ℕ) → unblank r ≡ spell_operator q l → (y : G.Literal) (r' : List ℕ) → After 4 r' → s ≡ spell_literal y r' → ⊥
  no_literal_operator q l d y r' a e =
      let h = o.only (literal_operand y) r' (after_weaken 1 4 (lit≤ tt) a) e in
      let g : level_of (hd (unblank r')) ≡ 2 = ap (λ z. level_of (hd (unblank z))) h.1 ∙ ap (λ z. level_of (hd z)) d ∙ operator_level q l in
      omega (arith, a.above)

  -- a literal that no operator follows is a literal alone
  pub argument_literal : {y : G.Literal} → x ≡ literal_operand y → ReadsNone spell_operator (StartsNot (eqb 0x3D)) (unblank r) → ((l : List ℕ) → s ≡ 0x28 ∷ l → ⊥) → ((l : List ℕ) → s ≡ 0x21 ∷ l → ⊥)
      → Reads spell_argument (me_argument p) (After 4) s (literal_argument y) r
  argument_literal {y} i n a b = record { eq = o.eq ∙ ap (λ z. spell_operand z r) i; only = only }
    where
      only : (t' : G.Argument) (r' : List ℕ) → After 4 r' → s ≡ spell_argument t' r' → (me_argument p t' ≡ me_argument p (literal_argument y)) × (r' ≡ r)
      only t' r' f e =
          ⊎_elim
          (λ z.
          let h = o.only (literal_operand z.0) r' (after_weaken 1 4 (lit≤ tt) f) (e ∙ ap (λ u. spell_argument u r') z.1) in
          (ap (me_argument p) z.1 ∙ literal_means p z.0 ∙ h.0 ∙ ap (me_operand p) i ∙ sym (literal_means p y), h.1))
          (λ z.
          let u = z.0 in
          let h = o.only u.operand (spell_chained_of (operand_flag u.operand) u.rest r') (chain_operand (operand_flag u.operand) u.rest r' f) z.1 in
          let q : eqb (operand_flag u.operand) 0 ≡ true = ap (λ m. eqb m.1 0) h.0 ∙ ap (λ v. eqb (operand_flag v) 0) i in
          let c = chain_follow u.rest.ands u.rest.ors r' f in
          absurd ((behind_literal (operand_flag u.operand) p n q).none u.rest.head (spell_more_and u.rest.ands (spell_more_or u.rest.ors r')) c.0 (sym h.1)))
          (chain_of_lem p a b t' r' f e)

pub chain_none : {s : List ℕ} → ReadsNone spell_operand (After 1) s → ReadsNone spell_chain (After 4) s
chain_none n = record { none = λ t' r' a e. n.none t'.operand (spell_chained_of (operand_flag t'.operand) t'.rest r') (chain_operand (operand_flag t'.operand) t'.rest r' a) e }
