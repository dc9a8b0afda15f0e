-- How long a plan and a pool get: by the length of the query. That rooms by it are never too small is in proofs/Rooms. Assumes nothing.
use Rattle.std.specs.Prelude.{ℕ, zero, suc, ◌*◌, ◌≤◌, ◌<◌, ◌≡◌, refl, List, [], length}
use Rattle.std.proofs.Common.{arith, ap}
use Rattle.std.proofs.Math.Option.{none}
use Rattle.definition.specs.Lexical.{Blanks, Slice}
use Rattle.definition.specs.Lexical.Bound.{no_bound}
use Rattle.definition.specs.Lexical.Step.{no_step}
use Rattle.definition.specs.Grammar as G
use Rattle.definition.specs.Grammar.{spell}
use Rattle.definition.specs.Grammar.Segments.{no_segment, more_segments}
use Rattle.definition.specs.Grammar.Segment.{child_brackets}
use Rattle.definition.specs.Grammar.Bracketed.{bracketed}
use Rattle.definition.specs.Grammar.Selectors.{no_selector, more_selectors}
use Rattle.definition.specs.Grammar.Selector.{slice_selector}
use Rattle.definition.specs.Forms.{Query, Selectors}
use Rattle.definition.specs.Forms.Start.{root}
use Rattle.definition.specs.Forms.Query.{query}
use Rattle.definition.specs.Forms.Segments.{end, child}
use Rattle.definition.specs.Forms.Selectors.{one, and}
use Rattle.definition.specs.Forms.Selector.{slice}
use Rattle.definition.specs.Plans.{plan_of, pool_of}
use Rattle.definition.specs.Outcomes.{Reading, Reads, CompileOutcome}
use Rattle.definition.specs.Outcomes.Reading.{form}
use Rattle.definition.specs.Outcomes.Reads.{has_tree}
use Rattle.definition_examples.specs.Computes.{computes}
use Rattle.compile_writes.specs.Sizes.{query_plan_fits, query_pool_fits}
use Rattle.compile_forms.specs.Fits.{compiled, compiled_written}
use Rattle.promises_stated.specs.Promises.{CompileCase, plan_bytes}
use Rattle.promises_stated.specs.Promises.CompileCase.{refuses as refusesQuery, small_plan, small_pool, writes}
use Rattle.promises_stated.specs.Firsts.{refusal_range}

pub plan_within : {s : List ℕ} (q : Query) → Reads s (form q) → length (plan_of q) ≤ plan_bytes * length s
plan_within {s} q r =
    let c = compiled s q r in
    omega (arith, ap length (compiled_written c).plan, query_plan_fits c.tree 0, ap length c.spelled)

pub pool_within : {s : List ℕ} (q : Query) → Reads s (form q) → length (pool_of q) ≤ length s
pool_within {s} q r =
    let c = compiled s q r in
    omega (arith, ap length (compiled_written c).pool, query_pool_fits c.tree 0, ap length c.spelled)

-- rooms of that size are never too small
pub case_twelve : {s P R : List ℕ} {x : Reading} {c : CompileOutcome} → Reads s x → CompileCase P R x c → plan_bytes * length s ≤ length P → length s ≤ length R → c.refusal ≡ 12 → ⊥
case_twelve r (refusesQuery n) a b e = omega (arith, (refusal_range r).1)
case_twelve r (small_plan q h) a b e = omega (arith, plan_within q r)
case_twelve r (small_pool q h) a b e = omega (arith, pool_within q r)
case_twelve r (writes q m n) a b e = omega arith

-- ---- a query that needs more than 12

-- no blank between two parts of a query
abbrev pub no_blank : Blanks
no_blank = record { bytes = []; good = refl }

-- a slice of nothing but its colon
abbrev colon : Slice
colon = record { start = no_bound; blanks = no_blank; stop = no_bound; by = no_step }

-- n of them behind one
abbrev colons : ℕ → G.Selectors
colons zero = no_selector
colons (suc n) = more_selectors no_blank no_blank (slice_selector colon) (colons n)

abbrev slice_forms : ℕ → Selectors
slice_forms zero = one (slice none none none)
slice_forms (suc n) = and (slice none none none) (slice_forms n)

abbrev ten_tree : G.Query
ten_tree = record { segments = more_segments no_blank (child_brackets (bracketed no_blank (slice_selector colon) (colons 9) no_blank)) no_segment }

abbrev pub ten_slices : List ℕ
ten_slices = spell ten_tree

abbrev pub ten_slices_form : Query
ten_slices_form = query root (child (slice_forms 9) end)

pub ten_slices_lem : Reads ten_slices (form ten_slices_form) × (12 * length ten_slices < length (plan_of ten_slices_form))
unfolding computes
ten_slices_lem = (has_tree refl ten_tree refl, omega arith)
