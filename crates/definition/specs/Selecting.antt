-- What the bytes of a query come to, and the outcome of select: for an input, the answer's numbers and what the lent list holds afterwards.
-- This is demand 2's definition whole: it goes over the grammar's tree and the table's values, and no plan occurs in it.
-- Whether some tree spells a query is not computed here. So these outcomes are relations between inputs and outcomes; that two outcomes of one input coincide is proved where the reader is.
use Rattle.std.specs.Prelude.{ℕ, ◌-◌, ◌≡◌, List, Bool, true, false, cond, not, leb, ltb, length, take}
use Rattle.std.proofs.lemmas.List.Edits.{sets}
use Rattle.definition.specs.Limits.{max_query}
use Rattle.definition.specs.Utf8.{is_utf8}
use Rattle.definition.specs.Brackets.{too_deep}
use Rattle.definition.specs.Grammar as G
use Rattle.definition.specs.Grammar.{spell}
use Rattle.definition.specs.Walk.{Walked, walk}
use Rattle.definition.specs.Walk.Walked.{walked}
use Rattle.definition.specs.Forms.{Query}
use Rattle.definition.specs.Tables.{Checked, check_table, tree}
use Rattle.definition.specs.Tables.Checked.{accepted, sized, wrong_at, text_at}
use Rattle.definition.specs.Evaluation.{selected}

-- What is read comes to a refusal or to a query form.
pub data Reading : Type 0 where
  refused : ℕ → Reading
  form : Query → Reading

-- ---- from a query's bytes to its form

-- the refusals before the grammar, in their order; 0 where there is none
unfoldable pub early : List ℕ → ℕ
early s = cond (ltb max_query (length s)) 1 (cond (not (is_utf8 s)) 2 (cond (too_deep s) 3 0))

-- "then the first of 4, 5, 6 in the Rust's walk", then 8: "7 is no longer met by any input" (document 02, W4)
unfoldable pub judge : Walked Query → Reading
judge (Walked.refused n) = refused n
judge (walked true q) = refused 8
judge (walked false q) = form q

pub data Reads (s : List ℕ) : Reading → Type 0 where
  too_early : (early s ≡ 0 → ⊥) → Reads s (refused (early s))
  no_tree : early s ≡ 0 → ((t : G.Query) → spell t ≡ s → ⊥) → Reads s (refused 4)
  has_tree : early s ≡ 0 → (t : G.Query) → spell t ≡ s → Reads s (judge (walk t))

-- ---- select, and what it shares with run

-- the refusal, 0 for none; the number of nodes selected, 0 with every refusal; the least wrong node where 10 or 17 names one; what the lent list holds afterwards
pub record RunOutcome : Type 0 where
  pub refusal : ℕ
  pub count : ℕ
  pub node : ℕ
  pub places : List ℕ

unfoldable pub refuse_run : ℕ → ℕ → List ℕ → RunOutcome
refuse_run n i L = record { refusal = n; count = 0; node = i; places = L }

-- 13: "more nodes selected than places from the start position", which "fills every place from the start position with the first selected nodes"
unfoldable pub place : Bool → List ℕ → List ℕ → ℕ → RunOutcome
place true ns L at = record { refusal = 0; count = length ns; node = 0; places = sets L at ns }
place false ns L at = refuse_run 13 0 (sets L at (take (length L - at) ns))

-- 14: "start position beyond the list's length"
unfoldable pub place_from : Bool → List ℕ → List ℕ → ℕ → RunOutcome
place_from true ns L at = place (leb (length ns) (length L - at)) ns L at
place_from false ns L at = refuse_run 14 0 L

unfoldable pub run_table : Checked → Query → List ℕ → List ℕ → List ℕ → ℕ → RunOutcome
run_table accepted q T X L at = place_from (leb at (length L)) (selected q (tree T X)) L at
run_table sized q T X L at = refuse_run 9 0 L
run_table (wrong_at i) q T X L at = refuse_run 10 i L
run_table (text_at i) q T X L at = refuse_run 17 i L

unfoldable pub run_by : Reading → List ℕ → List ℕ → List ℕ → ℕ → RunOutcome
run_by (refused n) T X L at = refuse_run n 0 L
run_by (form q) T X L at = run_table (check_table T X) q T X L at

-- "Select: the same without 12, then 9, 10, 14, 13", with 17 behind 10 (document 02, W6).
pub record Selects (s T X L : List ℕ) (at : ℕ) (o : RunOutcome) : Type 0 where
  pub reading : Reading
  pub reads : Reads s reading
  pub is : o ≡ run_by reading T X L at
