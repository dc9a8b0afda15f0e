-- What the functions ask and give that visit nodes with a query. Each answer holds for every form whose code stands there. P is the plan, L the pool, S the
-- table, X the text. Assumes nothing: these are definitions.
use Rattle.std.specs.Prelude.{ℕ, zero, suc, ◌+◌, ◌-◌, ◌≤◌, ◌<◌, ◌≡◌, List, [], ◌∷◌, length, get_or, Result, Ok, Err}
use Rattle.definition.specs.Bytes.{number, part}
use Rattle.definition.specs.Limits.{max_plan, max_nodes}
use Rattle.definition.specs.Values.{Json}
use Rattle.definition.specs.Forms.{Segments}
use Rattle.definition.specs.Plans.{code_segments}
use Rattle.definition.specs.Tables.{node_count, node_at, depth_at, kind_at, kind_list}
use Rattle.table_laws.specs.Accepted.{Accepted}
use Rattle.slices.specs.Walks.{Inside, walked, Next}
use Rattle.slices.specs.declared.Walk.{Walk}
use Rattle.eval_laws.specs.States.{State, st}
use Rattle.eval_laws.specs.Emits.{go}
use Rattle.eval_laws.specs.Steps.{span}
use Rattle.eval_laws.specs.Ranges.{picked}
use Rattle.eval_laws.specs.Items.{SegmentsAt}
use Rattle.eval_front.specs.declared.Reached.{Reached}
use Rattle.eval_front.specs.declared.More.{More}

-- a cap is below 2^62, so that one more than it is a number of the machine
abbrev pub cap_limit : ℕ
cap_limit = 4611686018427387904

-- ---- numbers into a list

-- a node's number goes into the next of len places
pub record AskPush (len at node cap : ℕ) : Type 0 where
  pub room : at ≤ cap + 1
  pub wide : len ≤ cap + 1
  pub small : cap < cap_limit
  pub number : node ≤ max_nodes

pub record AskNumbers (len e at cap : ℕ) : Type 0 where
  pub room : at ≤ cap + 1
  pub wide : len ≤ cap + 1
  pub small : cap < cap_limit
  pub few : e ≤ max_nodes

-- the places of a walk go into the next of len places
pub record AskWalked (len : ℕ) (w : Walk) (at cap : ℕ) : Type 0 where
  pub room : at ≤ cap + 1
  pub wide : len ≤ cap + 1
  pub small : cap < cap_limit
  pub inside : Inside max_nodes w

-- c numbers from j on
unfoldable pub numbers_from : ℕ → ℕ → List ℕ
numbers_from j zero = []
numbers_from j (suc c) = j ∷ numbers_from (j + 1) c

-- ---- the front of a query

-- some segments stand at pc
pub record Query (P L : List ℕ) (pc : ℕ) : Type 0 where
  pub f : Segments
  pub k : ℕ
  pub at : SegmentsAt P L pc k f

-- the plan, the pool and the table
pub record Given (P L S X : List ℕ) : Type 0 where
  pub few_p : length P ≤ max_plan
  pub few_l : length L ≤ max_plan
  pub tab : Accepted S X

-- a child segment of one selector of a kind stands at pc
pub record Head (P : List ℕ) (pc kind : ℕ) : Type 0 where
  pub child : get_or P pc 0 ≡ 3
  pub alone : number (part P (pc + 1) 2) ≡ 1
  pub kind_is : get_or P (pc + 3) 0 ≡ kind

pub record AskReach (P L S X : List ℕ) (node pc : ℕ) : Type 0 where
  pub given : Given P L S X
  pub node_in : node < node_count S
  pub query : Query P L pc

-- the node of either case: that to which the segments lead, or the last that was reached
abbrev pub node_of : Result ℕ ℕ → ℕ
node_of (Ok m) = m
node_of (Err m) = m

-- the rest of the query f at pc from where it leads
pub record Front (P L S X : List ℕ) (node pc : ℕ) (r : Reached) (f : Segments) (k : ℕ) : Type 0 where
  pub g : Segments
  pub j : ℕ
  pub at : SegmentsAt P L r.pc j g
  pub ends : r.pc + length (code_segments g j) ≡ pc + length (code_segments f k)
  pub found : (m : ℕ) → r.node ≡ Ok m → (R : Json) (s : State) → go g R (node_at S X m ∷ []) s ≡ go f R (node_at S X node ∷ []) s
  pub lost : (m : ℕ) → r.node ≡ Err m → (R : Json) (s : State) → s ≡ go f R (node_at S X node ∷ []) s

pub record DoneReach (P L S X : List ℕ) (node pc : ℕ) (r : Reached) : Type 0 where
  pub node_in : node_of r.node < node_count S
  pub deeper : depth_at S node ≤ depth_at S (node_of r.node)
  pub later : pc ≤ r.pc
  pub front : (f : Segments) (k : ℕ) → SegmentsAt P L pc k f → Front P L S X node pc r f k

-- ---- one node

pub record AskVisit (P L S X : List ℕ) (node rest len at cap : ℕ) : Type 0 where
  pub given : Given P L S X
  pub node_in : node < node_count S
  pub query : Query P L rest
  pub room : at ≤ cap + 1
  pub wide : len ≤ cap + 1
  pub small : cap < cap_limit

-- the query at rest from a node goes on at pc from node n, with the query g
pub record Onward (P L S X : List ℕ) (node n pc : ℕ) (f : Segments) : Type 0 where
  pub g : Segments
  pub j : ℕ
  pub at : SegmentsAt P L pc j g
  pub same : (R : Json) (s : State) → go g R (node_at S X n ∷ []) s ≡ go f R (node_at S X node ∷ []) s

pub record Paused (P L S X : List ℕ) (node rest n pc : ℕ) : Type 0 where
  pub node_in : n < node_count S
  pub deeper : depth_at S node ≤ depth_at S n
  pub later : rest ≤ pc
  pub going : get_or P pc 0 ≡ 0x0A → ⊥
  pub onward : (f : Segments) (k : ℕ) → SegmentsAt P L rest k f → Onward P L S X node n pc f

-- what the query at rest selects from a node is in the list, whose next place is at'
pub record Emitted (P L S X : List ℕ) (node rest cap : ℕ) (l : List ℕ) (at : ℕ) (l' : List ℕ) (at' : ℕ) : Type 0 where
  pub room : at' ≤ cap + 1
  pub ended : (f : Segments) (k : ℕ) → SegmentsAt P L rest k f → (R : Json) → st cap l' at' ≡ go f R (node_at S X node ∷ []) (st cap l at)

-- or more is to be done, and the list is as it was
pub record Stopped (P L S X : List ℕ) (node rest : ℕ) (l l' : List ℕ) (m : More) : Type 0 where
  pub places : l' ≡ l
  pub paused : Paused P L S X node rest m.node m.pc

abbrev pub DoneVisit : List ℕ → List ℕ → List ℕ → List ℕ → ℕ → ℕ → ℕ → List ℕ → ℕ → List ℕ → Result ℕ More → Type 0
DoneVisit P L S X node rest cap l at l' (Ok at') = Emitted P L S X node rest cap l at l' at'
DoneVisit P L S X node rest cap l at l' (Err m) = Stopped P L S X node rest l l' m

-- ---- the children of a range

-- what is emitted for the nodes that h gives of each of the nodes from i up to e
abbrev pub over : Segments → Json → (Json → List Json) → List ℕ → List ℕ → ℕ → ℕ → State → State
over f R h S X i e s = span f R h S X (0 + i) (e - i) s

-- ---- the places of a slice

-- what is emitted for some nodes in turn
unfoldable pub goes : Segments → Json → List ℕ → List ℕ → List ℕ → State → State
goes f R S X [] s = s
goes f R S X (n ∷ ns) s = goes f R S X ns (go f R (node_at S X n ∷ []) s)

-- r is the walk w without its first place, with the same step in the same direction
pub record Further (w r : Walk) : Type 0 where
  pub next : Next w r
  pub near : r.at ≤ max_nodes
  pub steady : r.step ≡ w.step
  pub way : r.down ≡ w.down

-- the places of a walk in a range of c nodes from first on, as nodes
pub record AskPlaced (S : List ℕ) (first : ℕ) (w : Walk) : Type 0 where
  pub few : node_count S ≤ max_nodes
  pub c : ℕ
  pub inside : Inside c w
  pub range : 0 < c → first + c ≤ node_count S

pub record DonePlaced (S : List ℕ) (first : ℕ) (w r : Walk) : Type 0 where
  pub left : r.left ≡ w.left
  pub way : r.down ≡ w.down
  pub near : r.step ≤ max_nodes
  pub here : r.at ≤ max_nodes
  pub inside : (c : ℕ) → Inside c w → (0 < c → first + c ≤ node_count S) → Inside (node_count S) r
  pub picks : (c : ℕ) → Inside c w → (X : List ℕ) (f : Segments) (R : Json) (s : State) → goes f R S X (walked r) s ≡ picked S X f R first c (walked w) s

-- ---- children without children

pub record AskContainer (S : List ℕ) (i e : ℕ) : Type 0 where
  pub range : i < e → e ≤ node_count S

pub record DoneContainer (S : List ℕ) (i e r : ℕ) : Type 0 where
  pub low : i ≤ r
  pub high : i ≤ e → r ≤ e
  pub passed : (m : ℕ) → i ≤ m → m < r → kind_at S m < kind_list
