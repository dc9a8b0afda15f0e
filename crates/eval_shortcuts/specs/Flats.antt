-- What the functions ask and give for nodes without lists and maps among their children. Each answer holds for every form whose code stands
-- there. P is the plan, L the pool, S the table, X the text. Assumes nothing: these are definitions.
use Rattle.std.specs.Prelude.{ℕ, ◌+◌, ◌≤◌, ◌<◌, ◌≡◌, List, Bool as Bits, true, length, get_or}
use Rattle.definition.specs.Bytes.{number, part}
use Rattle.definition.specs.Limits.{max_plan}
use Rattle.definition.specs.Values.{Json}
use Rattle.definition.specs.Forms.{Segments, Selectors, Selector}
use Rattle.definition.specs.Forms.Segments.{end, descendant}
use Rattle.definition.specs.Forms.Selectors.{one}
use Rattle.definition.specs.Tables.{node_count, node_at, kind_at, kind_list, first_child, child_count}
use Rattle.definition.specs.Evaluation.{eval_selector}
use Rattle.table_laws.specs.Accepted.{Accepted}
use Rattle.eval_laws.specs.States.{st}
use Rattle.eval_laws.specs.Emits.{go}
use Rattle.eval_laws.specs.Steps.{below}
use Rattle.eval_laws.specs.Items.{SegmentsAt, SelectorAt}
use Rattle.eval_front.specs.Visits.{Given, over}
use Rattle.eval_filters.specs.Atoms.{AtomAt}
use Rattle.eval_filters.specs.declared.atoms.Atom.{Atom}
use Rattle.eval_shortcuts.specs.declared.straight.Passed.{Passed}
use Rattle.eval_front.specs.Spans.{Room}

-- ---- a node with nothing below its children

-- no child of the node is a list or a map
abbrev pub Bare : List ℕ → ℕ → Type 0
Bare S node = (m : ℕ) → first_child S node ≤ m → m < first_child S node + child_count S node → kind_at S m < kind_list

pub record AskFlat (S : List ℕ) (node : ℕ) : Type 0 where
  pub X : List ℕ
  pub tab : Accepted S X
  pub node_in : node < node_count S

abbrev pub DoneFlat : List ℕ → ℕ → Bits → Type 0
DoneFlat S node r = r ≡ true → Bare S node

-- ---- a name, an index or a wildcard

-- some selector stands at p, and it is neither a slice nor a filter
pub record Plain (P L : List ℕ) (p : ℕ) : Type 0 where
  pub x : Selector
  pub k : ℕ
  pub at : SelectorAt P L p k x
  pub most : get_or P p 0 ≤ 8
  pub whole : get_or P p 0 ≡ 7 → ⊥

pub record AskSelected (P L S X : List ℕ) (node p len at cap : ℕ) : Type 0 where
  pub given : Given P L S X
  pub node_in : node < node_count S
  pub plain : Plain P L p
  pub list : Room len at cap

pub record DoneSelected (P L S X : List ℕ) (node p cap : ℕ) (l : List ℕ) (at : ℕ) (l' : List ℕ) (r : ℕ) : Type 0 where
  pub room : r ≤ cap + 1
  pub goes : (x : Selector) (k : ℕ) → SelectorAt P L p k x → (R : Json) → st cap l' r ≡ go end R (eval_selector x R (node_at S X node)) (st cap l at)

-- ---- the nodes of a range

-- r is as far as the nodes from i up to e are done; where that is nowhere, nothing has changed
pub record Passes (i e cap : ℕ) (l l' : List ℕ) (r : Passed) : Type 0 where
  pub low : i ≤ r.i
  pub high : i < r.i → r.i ≤ e
  pub room : r.at ≤ cap + 1
  pub still : r.i ≤ i → l' ≡ l

pub record AskFlats (P L S X : List ℕ) (i e p len at cap : ℕ) : Type 0 where
  pub given : Given P L S X
  pub range : i < e → e ≤ node_count S
  pub plain : Plain P L p
  pub list : Room len at cap

pub record DoneFlats (P L S X : List ℕ) (i e p cap : ℕ) (l : List ℕ) (at : ℕ) (l' : List ℕ) (r : Passed) : Type 0 where
  pub passes : Passes i e cap l l' r
  pub again : (x : Selector) (k : ℕ) → SelectorAt P L p k x → (R : Json) → over end R (below (one x) R) S X r.i e (st cap l' r.at) ≡ over end R (below (one x) R) S X i e (st cap l at)

-- the loop over them: so far all is done
pub record InFlats (P L S X : List ℕ) (i e p cap : ℕ) (l₀ : List ℕ) (a₀ : ℕ) (l : List ℕ) (a j : ℕ) : Type 0 where
  pub same : length l ≡ length l₀
  pub done : DoneFlats P L S X i e p cap l₀ a₀ l (record { i = j; at = a })

-- ---- the last segment

pub record AskPlain (P : List ℕ) (pc : ℕ) : Type 0 where
  pub few : length P ≤ max_plan
  pub L : List ℕ
  pub ss : Selectors
  pub q : Segments
  pub k : ℕ
  pub at : SegmentsAt P L pc k (descendant ss q)

-- the selectors ss at p are one, and nothing follows
pub record Lone (P L : List ℕ) (p k : ℕ) (ss : Selectors) (q : Segments) : Type 0 where
  pub x : Selector
  pub made : ss ≡ one x
  pub at : SelectorAt P L p k x
  pub ended : q ≡ end

pub record DonePlain (P : List ℕ) (pc : ℕ) (r : Bits) : Type 0 where
  pub most : r ≡ true → get_or P (pc + 3) 0 ≤ 8
  pub whole : r ≡ true → get_or P (pc + 3) 0 ≡ 7 → ⊥
  pub lone : r ≡ true → (L : List ℕ) (ss : Selectors) (q : Segments) (k : ℕ) → SegmentsAt P L pc k (descendant ss q) → Lone P L (pc + 3) k ss q

-- ---- a filter that is one test of a member

pub record AskMember (P : List ℕ) (pc : ℕ) : Type 0 where
  pub few : length P ≤ max_plan
  pub L : List ℕ
  pub few_l : length L ≤ max_plan
  pub ss : Selectors
  pub q : Segments
  pub k : ℕ
  pub at : SegmentsAt P L pc k (descendant ss q)

-- the segment at pc has one selector, a filter whose code up to z is such a test
pub record MemberAt (P : List ℕ) (pc : ℕ) : Type 0 where
  pub alone : number (part P (pc + 1) 2) ≡ 1
  pub filter_is : get_or P (pc + 3) 0 ≡ 9
  pub z : ℕ
  pub size : z ≡ pc + 3 + 3 + number (part P (pc + 3 + 1) 2)
  pub more : pc + 3 + 3 < z
  pub t : Atom
  pub test : AtomAt P (pc + 3 + 3) z t
  pub whole : t.next ≡ z

abbrev pub DoneMember : List ℕ → ℕ → Bits → Type 0
DoneMember P pc r = r ≡ true → MemberAt P pc

-- the nodes of a range up to the first that has more below it
pub record AskSkipped (S : List ℕ) (i e : ℕ) : Type 0 where
  pub X : List ℕ
  pub tab : Accepted S X
  pub range : i < e → e ≤ node_count S

pub record DoneSkipped (S : List ℕ) (i e r : ℕ) : Type 0 where
  pub low : i ≤ r
  pub high : i ≤ e → r ≤ e
  pub bare : (m : ℕ) → i ≤ m → m < r → Bare S m

-- ---- a descendant segment on the nodes of a range

pub record AskStart (P L S X : List ℕ) (i e pc len at cap : ℕ) : Type 0 where
  pub given : Given P L S X
  pub range : i < e → e ≤ node_count S
  pub ss : Selectors
  pub q : Segments
  pub k : ℕ
  pub stands : SegmentsAt P L pc k (descendant ss q)
  pub list : Room len at cap

pub record DoneStart (P L S X : List ℕ) (i e pc cap : ℕ) (l : List ℕ) (at : ℕ) (l' : List ℕ) (r : Passed) : Type 0 where
  pub passes : Passes i e cap l l' r
  pub again : (ss : Selectors) (q : Segments) (k : ℕ) → SegmentsAt P L pc k (descendant ss q) → (R : Json) → over q R (below ss R) S X r.i e (st cap l' r.at) ≡ over q R (below ss R) S X i e (st cap l at)
