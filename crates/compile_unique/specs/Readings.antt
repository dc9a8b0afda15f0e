-- One text reads in one way: what a query's bytes come to, from one tree that spells them and what is written for it, or from there being none.
-- So compile and select have one outcome for each input.
use Rattle.std.specs.Prelude.{ℕ, zero, suc, ◌≡◌, refl, List, Bool, true, false}
use Rattle.std.proofs.Common.{arith, ap, sym, ◌∙◌, subst}
use Rattle.definition.specs.Grammar as G
use Rattle.definition.specs.Grammar.{spell}
use Rattle.definition.specs.Forms.{Query}
use Rattle.definition.specs.Plans.{plan_of, pool_of}
use Rattle.definition.specs.Walk.{walk}
use Rattle.definition.specs.Outcomes.{Reading, Reads, Translates, CompileOutcome, Compiles, RunOutcome, Selects, early, judge, compile_by, run_by}
use Rattle.definition.specs.Outcomes.Reading.{refused, form}
use Rattle.definition.specs.Outcomes.Reads.{too_early, no_tree, has_tree}
use Rattle.compile_writes.specs.Effects.{Effect}
use Rattle.compile_writes.specs.Writes.{write_query}
use Rattle.compile_writes.specs.Agrees.{Agreed, Formed, agrees}
use Rattle.compile_forms.specs.Keeps.{compiled_keeps}
use Rattle.plan_laws.specs.One.{translates_one}

-- ---- two trees of one text for which the same is written

-- forms with one plan and one pool are one form
same_form : {s : List ℕ} {q q' : Query} → Reads s (form q) → Reads s (form q') → plan_of q ≡ plan_of q' → pool_of q ≡ pool_of q' → q ≡ q'
same_form {s} {q} {q'} h k e f =
    let t = compiled_keeps s q h in
    let u = compiled_keeps s q' k in
    translates_one t (subst (λ (p : List ℕ). Translates q' p (pool_of q)) (sym e) (subst (Translates q' (plan_of q')) (sym f) u))

-- the walks over them come to the same
pub same_walk : {s : List ℕ} → early s ≡ 0 → (t t' : G.Query) → spell t ≡ s → spell t' ≡ s → write_query t' 0 ≡ write_query t 0 → judge (walk t') ≡ judge (walk t)
same_walk {s} h t t' g g' e = by_verdict w.marks.verdict refl
  where
    w : Effect
    w = write_query t 0

    a : Agreed (walk t) w
    a = agrees t

    a' : Agreed (walk t') w
    a' = subst (Agreed (walk t')) e (agrees t')

    formed : Formed (walk t) w → Formed (walk t') w → judge (walk t') ≡ judge (walk t)
    formed x x' =
        let r : Reads s (form x.query) = subst (Reads s) x.is (has_tree h t g) in
        let r' : Reads s (form x'.query) = subst (Reads s) x'.is (has_tree h t' g') in
        x'.is ∙ ap form (same_form r' r (x'.plan ∙ sym x.plan) (x'.pool ∙ sym x.pool)) ∙ sym x.is

    by_beyond : (b : Bool) → w.marks.beyond ≡ b → w.marks.verdict ≡ 0 → judge (walk t') ≡ judge (walk t)
    by_beyond true k v = a'.beyond v k ∙ sym (a.beyond v k)
    by_beyond false k v = formed (a.forms v k) (a'.forms v k)

    by_verdict : (n : ℕ) → w.marks.verdict ≡ n → judge (walk t') ≡ judge (walk t)
    by_verdict zero v = by_beyond w.marks.beyond refl v
    by_verdict (suc n) v = a'.refuses (omega (arith, v)) ∙ sym (a.refuses (omega (arith, v)))

-- ---- what a text comes to, and nothing else

pub record OneReading (s : List ℕ) (x : Reading) : Type 0 where
  pub reads : Reads s x
  pub only : (y : Reading) → Reads s y → y ≡ x

-- a refusal before the grammar
pub early_only : {s : List ℕ} → (early s ≡ 0 → ⊥) → OneReading s (refused (early s))
early_only {s} n = record { reads = too_early n; only = only }
  where
    only : (y : Reading) → Reads s y → y ≡ refused (early s)
    only y (too_early m) = refl
    only y (no_tree h f) = absurd (n h)
    only y (has_tree h t g) = absurd (n h)

-- no tree spells it
pub none_only : {s : List ℕ} → early s ≡ 0 → ((t : G.Query) → spell t ≡ s → ⊥) → OneReading s (refused 4)
none_only {s} h f = record { reads = no_tree h f; only = only }
  where
    only : (y : Reading) → Reads s y → y ≡ refused 4
    only y (too_early m) = absurd (m h)
    only y (no_tree k g) = refl
    only y (has_tree k t g) = absurd (f t g)

-- a tree spells it, and for every other tree that does the same is written
pub tree_only : {s : List ℕ} → early s ≡ 0 → (t : G.Query) → spell t ≡ s → ((t' : G.Query) → spell t' ≡ s → write_query t' 0 ≡ write_query t 0) → OneReading s (judge (walk t))
tree_only {s} h t g o = record { reads = has_tree h t g; only = only }
  where
    only : (y : Reading) → Reads s y → y ≡ judge (walk t)
    only y (too_early m) = absurd (m h)
    only y (no_tree k f) = absurd (f t g)
    only y (has_tree k t' g') = same_walk h t t' g g' (o t' g')

-- ---- one outcome for each input

-- what compile answers and leaves in both rooms
pub record OneCompile (s P L : List ℕ) (o : CompileOutcome) : Type 0 where
  pub is : Compiles s P L o
  pub only : (o' : CompileOutcome) → Compiles s P L o' → o' ≡ o

pub compiles_only : {s : List ℕ} {x : Reading} {P L : List ℕ} {o : CompileOutcome} → OneReading s x → o ≡ compile_by x P L → OneCompile s P L o
compiles_only {x = x} {P = P} {L = L} r e = record {
  is = record { reading = x; reads = r.reads; is = e };
  only = λ o' c. c.is ∙ ap (λ (y : Reading). compile_by y P L) (r.only c.reading c.reads) ∙ sym e;
}

-- what select answers and leaves in the list
pub record OneSelect (s T X L : List ℕ) (at : ℕ) (o : RunOutcome) : Type 0 where
  pub is : Selects s T X L at o
  pub only : (o' : RunOutcome) → Selects s T X L at o' → o' ≡ o

pub selects_only : {s : List ℕ} {x : Reading} {T X L : List ℕ} {at : ℕ} {o : RunOutcome} → OneReading s x → o ≡ run_by x T X L at → OneSelect s T X L at o
selects_only {x = x} {T = T} {X = X} {L = L} {at = at} r e = record {
  is = record { reading = x; reads = r.reads; is = e };
  only = λ o' c. c.is ∙ ap (λ (y : Reading). run_by y T X L at) (r.only c.reading c.reads) ∙ sym e;
}
