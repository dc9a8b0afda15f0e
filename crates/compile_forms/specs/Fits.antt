-- What compiles has a tree that passes the refusals before the grammar, and its plan and pool are within 65,535 bytes.
-- The plan has at most 13 bytes for each of the query's at most 4,096, and the pool at most one.
use Rattle.std.specs.Prelude.{ℕ, zero, suc, ◌≤◌, ◌≡◌, refl, List, Bool, true, false, cond, not, ltb, length}
use Rattle.std.proofs.Common.{arith, ap, sym, ◌∙◌, subst, ltb-false}
use Rattle.definition.specs.Limits.{max_query, max_plan}
use Rattle.definition.specs.Utf8.{is_utf8}
use Rattle.definition.specs.Brackets.{too_deep}
use Rattle.definition.specs.Grammar as G
use Rattle.definition.specs.Grammar.{spell}
use Rattle.definition.specs.Forms.{Query}
use Rattle.definition.specs.Plans.{plan_of, pool_of}
use Rattle.definition.specs.Walk.{Walked, walk}
use Rattle.definition.specs.Outcomes.{Reading, Reads, early, judge}
use Rattle.definition.specs.Outcomes.Reading.{refused, form}
use Rattle.definition.specs.Outcomes.Reads.{too_early, no_tree, has_tree}
use Rattle.compile_writes.specs.Effects.{Effect}
use Rattle.compile_writes.specs.Writes.{write_query}
use Rattle.compile_writes.specs.Agrees.{Agreed, Formed, agrees}
use Rattle.compile_writes.specs.Sizes.{query_plan_fits, query_pool_fits}

-- ---- the tree of what compiles

-- a tree that spells s, passes the refusals before the grammar, and has the form q
pub record Compiled (s : List ℕ) (q : Query) : Type 0 where
  pub tree : G.Query
  pub spelled : spell tree ≡ s
  pub passes : early s ≡ 0
  pub judged : judge (walk tree) ≡ form q

-- no refusal is a form
pub not_refused : {n : ℕ} {q : Query} → refused n ≡ form q → ⊥
not_refused {n} {q} e = let h : ◌≡◌ {A = ℕ} 0 1 = cc in omega (arith, h)

-- of the three ways to read a query only the last leaves a form
compiled_by : {s : List ℕ} {x : Reading} (q : Query) → Reads s x → x ≡ form q → Compiled s q
compiled_by q (too_early h) e = absurd (not_refused e)
compiled_by q (no_tree h f) e = absurd (not_refused e)
compiled_by q (has_tree h t g) e = record { tree = t; spelled = g; passes = h; judged = e }

pub compiled : (s : List ℕ) (q : Query) → Reads s (form q) → Compiled s q
compiled s q h = compiled_by q h refl

-- ---- what the refusals before the grammar leave

-- of the three tests each fails where nothing is refused
pub early_first : (a b c : Bool) → ◌≡◌ {A = ℕ} (cond a 1 (cond (not b) 2 (cond c 3 0))) 0 → a ≡ false
early_first true b c e = absurd (omega (arith, e))
early_first false b c e = refl

early_last : (a b c : Bool) → ◌≡◌ {A = ℕ} (cond a 1 (cond (not b) 2 (cond c 3 0))) 0 → c ≡ false
early_last true b c e = absurd (omega (arith, e))
early_last false false c e = absurd (omega (arith, e))
early_last false true true e = absurd (omega (arith, e))
early_last false true false e = refl

-- so the query is short, and its bracket count stays within 32
pub early_short : (s : List ℕ) → early s ≡ 0 → length s ≤ max_query
unfolding early
early_short s e = ltb-false max_query (length s) (early_first (ltb max_query (length s)) (is_utf8 s) (too_deep s) e)

pub early_shallow : (s : List ℕ) → early s ≡ 0 → too_deep s ≡ false
unfolding early
early_shallow s e = early_last (ltb max_query (length s)) (is_utf8 s) (too_deep s) e

-- ---- the plan and the pool are what the writer writes

-- the plan and the pool of q are those of an effect
pub record EffectOf (q : Query) (e : Effect) : Type 0 where
  pub plan : plan_of q ≡ e.plan
  pub pool : pool_of q ≡ e.pool

-- two forms of one reading are the same
form_only : {p q : Query} {x : Reading} → x ≡ form p → x ≡ form q → p ≡ q
form_only h k = cc

-- what the writer's law says of its form holds of q
formed_written : {w : Walked Query} {e : Effect} (q : Query) → judge w ≡ form q → Formed w e → EffectOf q e
formed_written q h f =
    let g : f.query ≡ q = form_only f.is h in
    record { plan = ap plan_of (sym g) ∙ f.plan; pool = ap pool_of (sym g) ∙ f.pool }

-- A form is left only where nothing is refused and nothing reported.
agreed_written : {w : Walked Query} {e : Effect} (q : Query) → judge w ≡ form q → Agreed w e → EffectOf q e
agreed_written {w} {e} q h a = by_verdict e.marks.verdict refl
  where
    by_beyond : (b : Bool) → e.marks.beyond ≡ b → e.marks.verdict ≡ 0 → EffectOf q e
    by_beyond true k v = absurd (not_refused (sym (a.beyond v k) ∙ h))
    by_beyond false k v = formed_written q h (a.forms v k)

    by_verdict : (n : ℕ) → e.marks.verdict ≡ n → EffectOf q e
    by_verdict zero v = by_beyond e.marks.beyond refl v
    by_verdict (suc n) v = absurd (not_refused (sym (a.refuses (omega (arith, v))) ∙ h))

-- so the plan and the pool of what compiles are what is written for its tree
pub compiled_written : {s : List ℕ} {q : Query} (c : Compiled s q) → EffectOf q (write_query c.tree 0)
compiled_written {q} c = agreed_written q c.judged (agrees c.tree)

-- ---- the lengths

-- the tree's spelling has at most 4,096 bytes
short : {s : List ℕ} {q : Query} (c : Compiled s q) → length (spell c.tree) ≤ max_query
short {s} c = subst (λ (l : List ℕ). length l ≤ max_query) (sym c.spelled) (early_short s c.passes)

-- the plan of what compiles has at most 65,535 bytes
pub plan_fits_lem : {s : List ℕ} {q : Query} → Compiled s q → length (plan_of q) ≤ max_plan
plan_fits_lem {s} {q} c = omega (arith, ap length (compiled_written c).plan, query_plan_fits c.tree 0, short c)

-- and so has its pool
pub pool_fits_lem : {s : List ℕ} {q : Query} → Compiled s q → length (pool_of q) ≤ max_plan
pool_fits_lem {s} {q} c = omega (arith, ap length (compiled_written c).pool, query_pool_fits c.tree 0, short c)
