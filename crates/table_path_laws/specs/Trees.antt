-- The tree of the grammar that spells steps, and the walk over it, which comes to their form. Assumes nothing.
use Prim.Native.Nat.{ℕ, zero, suc, ◌+◌, ◌-◌, ◌≤◌, ◌<◌}
use Rattle.std.specs.Prelude.{◌≡◌, Bool, false, cond, eqb, pos}
use Rattle.std.proofs.Math.Path.{refl, subst}
use Rattle.std.proofs.Common.{sym, ap, ◌∙◌, eqb-true, le-leb}
use mathlib.Core.List.{List, [], ◌∷◌, ◌++◌}
use Rattle.std.proofs.Math.Bool.{true}
use Rattle.std.proofs.Math.Option.{Option, none, some}
use native.Mathlib.Omega.{arith}
use Rattle.definition.specs.Limits.{max_int}
use Rattle.definition.specs.Utf8.{is_utf8}
use Rattle.definition.specs.Lexical.{Blanks, Int, spell_int}
use Rattle.definition.specs.Lexical.Int.{zero_int, plain_int}
use Rattle.definition.specs.Literals.{int_value}
use Rattle.definition.specs.Grammar as G
use Rattle.definition.specs.Grammar.{spell_segments, spell_segment}
use Rattle.definition.specs.Grammar.Segments.{no_segment, more_segments}
use Rattle.definition.specs.Grammar.Segment.{child_brackets}
use Rattle.definition.specs.Grammar.Bracketed.{bracketed}
use Rattle.definition.specs.Grammar.Selectors.{no_selector}
use Rattle.definition.specs.Grammar.Selector.{name_selector, index_selector}
use Rattle.definition.specs.Forms as F
use Rattle.definition.specs.Forms.Segments.{child}
use Rattle.definition.specs.Forms.Selectors.{one}
use Rattle.definition.specs.Walk.{fine, also, next, walk_int, walk_segments, walk_segment}
use Rattle.definition.specs.Tables.{node_count, kind_at, kind_map, first_child, key_bytes, parent_below, key_start, key_length}
use Rattle.table_laws.specs.Counts.{counts_next}
use Rattle.table_laws.specs.Parents.{InRange, parent_is, parent_some}
use Rattle.table_laws.specs.Rights.{good_utf8}
use Rattle.table_laws.specs.Accepted.{Accepted}
use Rattle.definition.specs.Paths.{Step, step_at, steps_up, steps_to, step_form, steps_form, digits_up, written, spell_step, spell_steps}
use Rattle.definition.specs.Paths.Step.{named, placed}
use Rattle.table_path_laws.specs.Digits.{wrote}
use Rattle.table_path_laws.specs.Texts.{quoted}

-- ---- steps that a query can name

-- a key in UTF-8, a place in refusal 4's range
pub data StepRight : Step → Type 0 where
  key : {k : List ℕ} → is_utf8 k ≡ true → StepRight (named k)
  place : {n : ℕ} → n ≤ max_int → StepRight (placed n)

pub data StepsRight : List Step → Type 0 where
  no_step : StepsRight []
  more_steps : {s : Step} {ss : List Step} → StepRight s → StepsRight ss → StepsRight (s ∷ ss)

-- ---- a step

no_blanks : Blanks
no_blanks = record { bytes = []; good = refl }

-- a segment of the grammar that spells a step, and whose walk comes to its form
pub record Segmented (s : Step) : Type 0 where
  pub segment : G.Segment
  pub spells : (r : List ℕ) → spell_segment segment r ≡ spell_step s r
  pub walks : walk_segment segment ≡ fine (child (one (step_form s)))

-- a whole number of the grammar that spells n and stands for it
pub record Counted (n : ℕ) : Type 0 where
  pub int : Int
  pub spells : (r : List ℕ) → spell_int int r ≡ written n ++ r
  pub value : int_value int ≡ pos n

pub counted : (n : ℕ) → Counted n
unfolding int_value written digits_up
counted zero = record { int = zero_int; spells = λ r. refl; value = refl }
counted (suc n) =
    let w = wrote (suc n) in
    record {
      int = plain_int (record { first = w.first; more = w.more; is_first = w.some_first (omega arith); are_more = w.are_more });
      spells = λ r. ap (λ (x : List ℕ). x ++ r) (sym w.is);
      value = ap pos w.value;
    }

-- a key's segment
segment_key : (k : List ℕ) → is_utf8 k ≡ true → Segmented (named k)
unfolding spell_step step_form walk_segment next also no_blanks
segment_key k u =
    let q = quoted k u in
    record {
      segment = child_brackets (bracketed no_blanks (name_selector q.text) no_selector no_blanks);
      spells = λ r. ap (λ (x : List ℕ). 0x5B ∷ x) (q.spells (0x5D ∷ r));
      walks = rw q.means;
    }

-- an index's segment
segment_place : (n : ℕ) → n ≤ max_int → Segmented (placed n)
unfolding spell_step step_form walk_segment walk_int next also no_blanks
segment_place n l =
    let c = counted n in
    record {
      segment = child_brackets (bracketed no_blanks (index_selector c.int) no_selector no_blanks);
      spells = λ r. ap (λ (x : List ℕ). 0x5B ∷ x) (c.spells (0x5D ∷ r));
      walks = rw (c.value, le-leb n max_int l);
    }

pub segmented : (s : Step) → StepRight s → Segmented s
segmented s (key {k} u) = segment_key k u
segmented s (place {n} l) = segment_place n l

-- ---- steps

-- the tree of the grammar that spells steps, and whose walk comes to their form
pub record Treed (ss : List Step) : Type 0 where
  pub segments : G.Segments
  pub spells : spell_segments segments [] ≡ spell_steps ss
  pub walks : walk_segments segments ≡ fine (steps_form ss)

tree_more : (s : Step) (ss : List Step) → Segmented s → Treed ss → Treed (s ∷ ss)
unfolding spell_steps steps_form walk_segments next also no_blanks
tree_more s ss x xs =
    record {
      segments = more_segments no_blanks x.segment xs.segments;
      spells = ap (spell_segment x.segment) xs.spells ∙ x.spells (spell_steps ss);
      walks = rw (x.walks, xs.walks);
    }

pub treed : (ss : List Step) → StepsRight ss → Treed ss
unfolding spell_steps steps_form walk_segments
treed ss no_step = record { segments = no_segment; spells = refl; walks = refl }
treed ss (more_steps {s} {ss = ts} h hs) = tree_more s ts (segmented s h) (treed ts hs)

-- ---- the steps to a node

module _ (T X : List ℕ) (a : Accepted T X) where
  -- a step from a node to its child can be named
  step_right : (p i : ℕ) → p < node_count T → i < node_count T → InRange T p i → StepRight (step_at T X p i)
  unfolding step_at
  step_right p i l m g = by (eqb (kind_at T p) kind_map) refl
    where
      good : kind_at T p ≡ kind_map → is_utf8 (key_bytes T X i) ≡ true
      good k =
          let c = counts_next T p in
          let u = g.above in
          let v = g.within in
          let is : first_child T p + (i - first_child T p) ≡ i = omega arith in
          let h = a.keys p l k (i - first_child T p) (omega arith) in
          good_utf8 X (key_start T i) (key_length T i) (rw is at h)

      by : (b : Bool) → eqb (kind_at T p) kind_map ≡ b → StepRight (cond b (named (key_bytes T X i)) (placed (i - first_child T p)))
      by true e = key (good (eqb-true (kind_at T p) kind_map e))
      by false e = let f = a.size.few in place {n = i - first_child T p} (omega arith)

  steps_up_lem : (f i : ℕ) → i ≤ f → i < node_count T → (ss : List Step) → StepsRight ss → StepsRight (steps_up f T X i ss)
  unfolding steps_up parent_below
  steps_up_lem zero i h l ss r = r
  steps_up_lem (suc f) zero h l ss r = r
  steps_up_lem (suc f) (suc i) h l ss r =
      let w = a.later (suc i) l in
      let q = parent_some T (suc i) (omega arith) (omega arith) in
      let p : ℕ = q.0 in
      let below = q.1 in
      let e = parent_is T p (suc i) q.1 q.2 in
      subst (λ (o : Option ℕ). StepsRight (elim o [ none ↦ ss | some y ↦ steps_up f T X y (step_at T X y (suc i) ∷ ss) ])) (sym e)
      (steps_up_lem f p (omega arith) (omega arith) (step_at T X p (suc i) ∷ ss) (more_steps (step_right p (suc i) (omega arith) l q.2) r))

  -- the steps to a node of an accepted table can be named
  pub steps_right : (i : ℕ) → i < node_count T → StepsRight (steps_to T X i)
  unfolding steps_to
  steps_right i l = steps_up_lem i i (omega arith) l [] no_step
