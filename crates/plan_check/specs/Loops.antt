-- The parts that the plan check's loops and its reader of tests of two values stand before: what is left of selectors, segments or such a test, with what was read before it.
use Rattle.std.specs.Prelude.{ℕ, max, ◌+◌, ◌*◌, ◌≤◌, ◌<◌, ◌≡◌, drop, List, ◌∷◌, ◌++◌, true, cond, ◌&&◌, eqb, ltb}
use Rattle.plan_items.specs.Readings.{Kind}
use Rattle.plan_items.specs.declared.Got.{Got}
use Rattle.std.specs.Prelude.{Option, Some, None}
use Rattle.definition.specs.Forms.{Segments, Selectors, Argument, many_selectors}
use Rattle.definition.specs.Forms.Selectors.{one, and}
use Rattle.definition.specs.QueryForms.{selectors_right, segments_right, argument_right, nesting_selectors, nesting_segments, nesting_argument}
use Rattle.definition.specs.Plans.{pool_selectors, pool_segments, pool_argument, code_selectors, code_segments, code_argument}
use Rattle.plan_laws.specs.Parts.{Part}
use Rattle.plan_laws.specs.Queries.{sort_selector, sort_segments}
use Rattle.plan_laws.specs.Relations.{Relation, relation_code, relation_deep}

-- 1 if the last selector is a name or an index, else 0
abbrev pub last_sort : Selectors → ℕ
last_sort (one s) = sort_selector s
last_sort (and s ss) = last_sort ss

-- n selectors
abbrev pub counted : ℕ → Part Selectors
counted n = record { code = code_selectors; pool = pool_selectors; right = λ ss. eqb (many_selectors ss) n && selectors_right ss; nest = nesting_selectors; sort = last_sort; may = λ r. true }

-- n selectors behind others that nest h deep
abbrev pub counted_from : ℕ → ℕ → Part Selectors
counted_from h n = record { code = code_selectors; pool = pool_selectors; right = λ ss. eqb (many_selectors ss) n && selectors_right ss; nest = λ ss. max h (nesting_selectors ss); sort = last_sort; may = λ r. true }

-- segments behind others that nest h deep and are singular, 1, or not, 0
abbrev pub segments_from : ℕ → ℕ → Part Segments
segments_from h σ = record { code = code_segments; pool = pool_segments; right = segments_right; nest = λ q. max h (nesting_segments q); sort = λ q. σ * sort_segments q; may = λ r. true }

-- whether a segment of n selectors is singular: a child segment with one selector that is
abbrev pub single_sort : ℕ → ℕ → ℕ → ℕ
single_sort k n σ = cond (eqb k 0x03) (cond (eqb n 1) σ 0) 0

-- the second of two values and what is asked of both
pub record Side : Type 0 where
  pub argument : Argument
  pub relation : Relation

-- the same behind a first value of the sort σ that nests h deep
abbrev pub side_part : ℕ → ℕ → Part Side
side_part h σ = record { code = λ x p. code_argument x.argument p ++ relation_code x.relation; pool = λ x. pool_argument x.argument; right = λ x. ltb 0 σ && argument_right x.argument; nest = λ x. relation_deep x.relation + max h (nesting_argument x.argument); sort = λ x. 0; may = λ r. true }

-- The end of a test of the operand a, whose 18 stands at its end: a query's test, or a value function's test with its 15, or neither.
pub data Tested (S : List ℕ) (a : Got) (room : ℕ) : Option Got → Type 0 where
  tested_query : a.sort ≤ 1 → Tested S a room (Some (record { at = a.at + 1; p = a.p; h = a.h; sort = 0 }))
  tested_value : a.sort ≡ 3 → Kind S (a.at + 1) 0x15 → a.h < room → Tested S a room (Some (record { at = a.at + 2; p = a.p; h = a.h + 1; sort = 0 }))
  untested : ((a.sort ≤ 1) → ⊥) → (a.sort ≡ 3 → a.h < room → (t : List ℕ) → drop (a.at + 1) S ≡ 0x15 ∷ t → ⊥) → Tested S a room None
