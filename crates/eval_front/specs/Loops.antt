-- The invariants of this crate's loops: what is left to do gives the whole, for every form that stands there. Assumes nothing: these are definitions.
use Rattle.std.specs.Prelude.{ℕ, ◌+◌, ◌-◌, ◌≤◌, ◌<◌, ◌≡◌, List, [], ◌∷◌, length}
use Rattle.definition.specs.Limits.{max_nodes}
use Rattle.definition.specs.Values.{Json}
use Rattle.definition.specs.Forms.{Segments}
use Rattle.definition.specs.Plans.{code_segments}
use Rattle.definition.specs.Tables.{node_count, node_at, depth_at, kind_at, kind_list}
use Rattle.slices.specs.Walks.{Inside, walked}
use Rattle.slices.specs.declared.Walk.{Walk}
use Rattle.eval_laws.specs.States.{State, st, emit}
use Rattle.eval_laws.specs.Emits.{go}
use Rattle.eval_laws.specs.Items.{SegmentsAt}
use Rattle.eval_front.specs.Visits.{Query, numbers_from}

-- the query f at pc from a node is the query g at q from node m
pub record Along (P L S X : List ℕ) (node pc m q : ℕ) (f : Segments) (k : ℕ) : Type 0 where
  pub g : Segments
  pub j : ℕ
  pub at : SegmentsAt P L q j g
  pub ends : q + length (code_segments g j) ≡ pc + length (code_segments f k)
  pub same : (R : Json) (s : State) → go g R (node_at S X m ∷ []) s ≡ go f R (node_at S X node ∷ []) s

-- the segments of one name or index
pub record InReach (P L S X : List ℕ) (node pc m q : ℕ) : Type 0 where
  pub node_in : m < node_count S
  pub deeper : depth_at S node ≤ depth_at S m
  pub later : pc ≤ q
  pub query : Query P L q
  pub front : (f : Segments) (k : ℕ) → SegmentsAt P L pc k f → Along P L S X node pc m q f k

-- numbers from j on
pub record InNumbers (i e cap : ℕ) (l₀ : List ℕ) (a₀ : ℕ) (l : List ℕ) (a j : ℕ) : Type 0 where
  pub same : length l ≡ length l₀
  pub room : a ≤ cap + 1
  pub again : emit (numbers_from j (e - j)) (st cap l a) ≡ emit (numbers_from i (e - i)) (st cap l₀ a₀)

-- the numbers that are the places of a walk
pub record InWalked (cap : ℕ) (l₀ : List ℕ) (a₀ : ℕ) (w₀ : Walk) (l : List ℕ) (a : ℕ) (w : Walk) : Type 0 where
  pub same : length l ≡ length l₀
  pub room : a ≤ cap + 1
  pub inside : Inside max_nodes w
  pub again : emit (walked w) (st cap l a) ≡ emit (walked w₀) (st cap l₀ a₀)

-- nodes that are neither lists nor maps
pub record InPassed (S : List ℕ) (i e j : ℕ) : Type 0 where
  pub low : i ≤ j
  pub high : i ≤ e → j ≤ e
  pub passed : (m : ℕ) → i ≤ m → m < j → kind_at S m < kind_list
