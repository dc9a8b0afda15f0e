-- What a row claims of a query that is written as text, or of a plan: that it selects certain nodes from a table. The claim is found by a computed test.
use Rattle.std.specs.Prelude.{ℕ, ◌≡◌, refl, List, [], ◌∷◌, Bool, true, false, ◌&&◌, eqb, leb, length}
use Prim.Native.String.{String}
use Rattle.std.proofs.lemmas.Bool.{false≢true}
use Rattle.std.proofs.Math.Option.{Option, none, some}
use Rattle.std.proofs.Common.{eqb-true, leb-true}
use Rattle.definition.specs.Limits.{max_plan}
use Rattle.definition.specs.Bytes.{same_bytes}
use Rattle.definition.specs.Grammar as G
use Rattle.definition.specs.Grammar.{spell}
use Rattle.definition.specs.Forms.{Query}
use Rattle.definition.specs.QueryForms.{is_form}
use Rattle.definition.specs.Plans.{plan_of, pool_of}
use Rattle.definition.specs.Walk.{walk}
use Rattle.definition.specs.Tables.{Checked, check_table, tree}
use Rattle.definition.specs.Tables.Checked.{accepted, sized, wrong_at, text_at}
use Rattle.definition.specs.Evaluation.{selected}
use Rattle.definition.specs.Selecting.{Reading, Reads, early, judge, has_tree}
use Rattle.definition.specs.Selecting.Reading.{form, refused}
use Rattle.definition.specs.Outcomes.{Translates}
use Rattle.definition_examples.specs.Texts.{codes, bytes, hex}
use Rattle.definition_examples.specs.Trees.{tree_of}
use Rattle.definition_bytes.specs.Same.{same_true}
use Rattle.basics.specs.Bools.{and_left as left, and_right as right}

-- The query s has a form, and the form selects the nodes ns from the table T with the text X, which is accepted.
pub record Gives (s T X ns : List ℕ) : Type 0 where
  pub query : Query
  pub reads : Reads s (form query)
  pub table : check_table T X ≡ accepted
  pub selects : selected query (tree T X) ≡ ns

-- The plan and the pool translate a form, and the form selects the nodes ns from the table T with the text X, which is accepted.
pub record PlanGives (plan pool T X ns : List ℕ) : Type 0 where
  pub query : Query
  pub translates : Translates query plan pool
  pub table : check_table T X ≡ accepted
  pub selects : selected query (tree T X) ≡ ns

-- ---- the test

-- whether every one of some tests holds
abbrev pub all : List Bool → Bool
all [] = true
all (b ∷ bs) = b && all bs

abbrev pub is_accepted : Checked → Bool
is_accepted accepted = true
is_accepted sized = false
is_accepted (wrong_at i) = false
is_accepted (text_at i) = false

-- whether a reading is a form, and the form selects the nodes
abbrev pub picks : Reading → List ℕ → List ℕ → List ℕ → Bool
picks (refused n) T X ns = false
picks (form q) T X ns = same_bytes (selected q (tree T X)) ns

abbrev pub picks_by : Option G.Query → List ℕ → List ℕ → List ℕ → List ℕ → Bool
picks_by none s T X ns = false
picks_by (some t) s T X ns = same_bytes (spell t) s && (eqb (early s) 0 && (is_accepted (check_table T X) && picks (judge (walk t)) T X ns))

-- whether the query of a text selects the nodes ns from the table T with the text X
abbrev pub selects : String → List ℕ → List ℕ → List ℕ → Bool
selects q T X ns = picks_by (tree_of (codes q)) (bytes q) T X ns

-- whether a form has the plan and the pool
abbrev pub is_translated : Query → List ℕ → List ℕ → Bool
is_translated q plan pool = is_form q && (same_bytes (plan_of q) plan && (same_bytes (pool_of q) pool && (leb (length plan) max_plan && leb (length pool) max_plan)))

-- whether a plan, in hexadecimal, and a pool, as text, are those of a form, and the form selects the nodes ns
abbrev pub plan_selects : String → String → Query → List ℕ → List ℕ → List ℕ → Bool
plan_selects plan pool q T X ns = is_translated q (hex plan) (bytes pool) && (is_accepted (check_table T X) && same_bytes (selected q (tree T X)) ns)

-- ---- what passes the test

is_accepted_lem : (c : Checked) → is_accepted c ≡ true → c ≡ accepted
is_accepted_lem accepted e = refl
is_accepted_lem sized e = absurd (false≢true e)
is_accepted_lem (wrong_at i) e = absurd (false≢true e)
is_accepted_lem (text_at i) e = absurd (false≢true e)

picked : (r : Reading) (s T X ns : List ℕ) → Reads s r → check_table T X ≡ accepted → picks r T X ns ≡ true → Gives s T X ns
picked (refused n) s T X ns h a e = absurd (false≢true e)
picked (form q) s T X ns h a e = record { query = q; reads = h; table = a; selects = same_true (selected q (tree T X)) ns e }

picked_by : (m : Option G.Query) (s T X ns : List ℕ) → picks_by m s T X ns ≡ true → Gives s T X ns
picked_by none s T X ns e = absurd (false≢true e)
picked_by (some t) s T X ns e =
    let a = same_bytes (spell t) s in
    let b = eqb (early s) 0 in
    let c = is_accepted (check_table T X) in
    let d = picks (judge (walk t)) T X ns in
    let f = right a (b && (c && d)) e in
    let g = right b (c && d) f in
    picked (judge (walk t)) s T X ns
    (has_tree (eqb-true (early s) 0 (left b (c && d) f)) t (same_true (spell t) s (left a (b && (c && d)) e)))
    (is_accepted_lem (check_table T X) (left c d g))
    (right c d g)

-- a row holds where its test does
pub gives : (q : String) (T X ns : List ℕ) → selects q T X ns ≡ true → Gives (bytes q) T X ns
gives q T X ns e = picked_by (tree_of (codes q)) (bytes q) T X ns e

translated : (q : Query) (plan pool : List ℕ) → is_translated q plan pool ≡ true → Translates q plan pool
translated q plan pool e =
    let a = is_form q in
    let b = same_bytes (plan_of q) plan in
    let c = same_bytes (pool_of q) pool in
    let d = leb (length plan) max_plan in
    let f = leb (length pool) max_plan in
    let g = right a (b && (c && (d && f))) e in
    let h = right b (c && (d && f)) g in
    let k = right c (d && f) h in
    record {
      is_query = left a (b && (c && (d && f))) e;
      is_plan = same_true (plan_of q) plan (left b (c && (d && f)) g);
      is_pool = same_true (pool_of q) pool (left c (d && f) h);
      plan_fits = leb-true (length plan) max_plan (left d f k);
      pool_fits = leb-true (length pool) max_plan (right d f k);
    }

-- a row of a plan holds where its test does
pub plan_gives : (plan pool : String) (q : Query) (T X ns : List ℕ) → plan_selects plan pool q T X ns ≡ true → PlanGives (hex plan) (bytes pool) T X ns
plan_gives plan pool q T X ns e =
    let a = is_translated q (hex plan) (bytes pool) in
    let b = is_accepted (check_table T X) in
    let c = same_bytes (selected q (tree T X)) ns in
    let f = right a (b && c) e in
    record {
      query = q;
      translates = translated q (hex plan) (bytes pool) (left a (b && c) e);
      table = is_accepted_lem (check_table T X) (left b c f);
      selects = same_true (selected q (tree T X)) ns (right b c f);
    }
