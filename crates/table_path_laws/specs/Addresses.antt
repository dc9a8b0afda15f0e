-- What is promised of a path: it is a query that selects its node alone. Assumes nothing.
use Rattle.std.specs.Prelude.{ℕ, ◌-◌, ◌≤◌, ◌<◌, ◌≡◌, List, [], ◌∷◌, true, false, length}
use Rattle.std.proofs.Common.{ap, le-ltb}
use Rattle.std.proofs.Math.Path.{subst}
use Rattle.definition.specs.Limits.{max_query}
use Rattle.definition.specs.Utf8.{is_utf8}
use Rattle.definition.specs.Brackets.{too_deep}
use Rattle.definition.specs.Grammar as G
use Rattle.definition.specs.Grammar.{spell}
use Rattle.definition.specs.Forms as F
use Rattle.definition.specs.Walk.{fine, also, next, walk}
use Rattle.definition.specs.Tables.{node_count, tree, check_table}
use Rattle.definition.specs.Tables.Checked.{accepted}
use Rattle.definition.specs.Evaluation.{selected}
use Rattle.definition.specs.Selecting.{Reading, Reads, early, judge}
use Rattle.definition.specs.Selecting.Reading.{form}
use Rattle.definition.specs.Selecting.Reads.{has_tree}
use Rattle.table_laws.specs.Accepted.{accepted_gives}
use Rattle.definition_laws.specs.Spelling.{spelling_utf8}
use Rattle.definition.specs.Paths.{steps_to, form_of, path_of}
use Rattle.table_path_laws.specs.Finds.{steps_find}
use Rattle.table_path_laws.specs.Trees.{treed, steps_right}
use Rattle.table_path_laws.specs.Shallow.{path_shallow}

-- A path as a query: a tree of the grammar spells it, no refusal before the grammar holds, the walk has nothing to refuse and comes to the path's form,
-- and the form selects the node alone.
pub record Addresses (T X : List ℕ) (i : ℕ) : Type 0 where
  pub query : G.Query
  pub spells : spell query ≡ path_of T X i
  pub early_none : early (path_of T X i) ≡ 0
  pub walks : walk query ≡ fine (form_of T X i)
  pub finds : selected (form_of T X i) (tree T X) ≡ i ∷ []

early_by : (s : List ℕ) → length s ≤ max_query → is_utf8 s ≡ true → too_deep s ≡ false → early s ≡ 0
unfolding early
early_by s l u d = rw (le-ltb max_query (length s) l, u, d)

-- "a path of at most 4,096 bytes, compiled and run, selects that node alone", over the definition
pub path_selects : (T X : List ℕ) → check_table T X ≡ accepted → (i : ℕ) → i < node_count T → length (path_of T X i) ≤ max_query → Addresses T X i
unfolding path_of form_of walk next also
path_selects T X h i l m =
    let a = accepted_gives T X h in
    let t = treed (steps_to T X i) (steps_right T X a i l) in
    let q : G.Query = record { segments = t.segments } in
    let e : spell q ≡ path_of T X i = ap (λ (x : List ℕ). 0x24 ∷ x) t.spells in
    record {
      query = q;
      spells = e;
      early_none = early_by (path_of T X i) m (subst (λ (x : List ℕ). is_utf8 x ≡ true) e (spelling_utf8 q)) (path_shallow T X i);
      walks = rw t.walks;
      finds = steps_find T X a i l;
    }

module _ (T X : List ℕ) (h : check_table T X ≡ accepted) (i : ℕ) (l : i < node_count T) (m : length (path_of T X i) ≤ max_query) where
  -- the path is read as its form
  pub path_reads : Reads (path_of T X i) (form (form_of T X i))
  unfolding judge
  path_reads =
      let p = path_selects T X h i l m in
      subst (λ (x : Reading). Reads (path_of T X i) x) (ap judge p.walks) (has_tree p.early_none p.query p.spells)
