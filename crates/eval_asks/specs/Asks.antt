-- What the functions of evaluation ask and give. Each answer holds for every form whose code stands there. P is the plan, L the pool, S the table, X the text; v is
-- what is lent, s and l the numbers and the list before a call, s' and l' behind it. Assumes nothing: these are definitions.
use Rattle.std.specs.Prelude.{ℕ, ◌+◌, ◌≤◌, ◌<◌, ◌≡◌, List, [], ◌∷◌, Bool as Bits, true, false, ◌||◌, eqb, pos, length, get_or}
use denote.Ref.{at_last}
use Rattle.std.specs.Borrow.{MutBor}
use Rattle.definition.specs.Limits.{max_plan, max_int}
use Rattle.definition.specs.Values.{Json}
use Rattle.definition.specs.Forms.{Segments as Tail, Selectors, Selector, Test}
use Rattle.definition.specs.Forms.Segments.{descendant}
use Rattle.definition.specs.Plans.{code_segments}
use Rattle.definition.specs.Tables.{node_count, node_at}
use Rattle.definition.specs.Compare.{Value, node_value}
use Rattle.definition.specs.Evaluation.{eval_segments, eval_selectors, eval_selector, eval_test}
use Rattle.table_laws.specs.Accepted.{Accepted}
use Rattle.eval_laws.specs.States.{State, st}
use Rattle.eval_laws.specs.Emits.{go}
use Rattle.eval_laws.specs.Steps.{one_of, below}
use Rattle.eval_laws.specs.Founds.{Found}
use Rattle.eval_laws.specs.Items.{SegmentsAt, Parts}
use Rattle.eval_laws.specs.Todos.{QueryAt}
use Rattle.eval_values.specs.Means.{meaning, Pair, Fine}
use Rattle.eval_values.specs.declared.Operand.{Operand}
use Rattle.eval_items.specs.Leaves.{Doing, cap_for}
use Rattle.eval_items.specs.declared.Regs.{Regs}
use Rattle.eval_front.specs.Visits.{cap_limit, Given, Query, over}
use Rattle.eval_front.specs.Stands.{Alone}
use Rattle.eval_filters.specs.Kept.{Tested, AskTest}
use Rattle.eval_asks.specs.declared.Lent.{Lent}
use Rattle.eval_asks.specs.declared.State.{State as Numbers}
use Rattle.eval_asks.specs.Lent.{plan_of, pool_of, table_of, text_of, root_of, cap_of, at_of}

-- ---- where evaluation begins

-- the plan, the pool and the table, the two nodes, and a list of len places of which the next is to be set
pub record Begins (P L S X : List ℕ) (root node len at cap : ℕ) : Type 0 where
  pub few_p : length P ≤ max_plan
  pub few_l : length L ≤ max_plan
  pub tab : Accepted S X
  pub root_in : root < node_count S
  pub node_in : node < node_count S
  pub room : at ≤ cap + 1
  pub wide : len ≤ cap + 1
  pub small : cap < cap_limit

pub record AskSegments (P L : List ℕ) (pc : ℕ) : Type 0 where
  pub f : Tail
  pub k : ℕ
  pub at : SegmentsAt P L pc k f

abbrev pub DoneSegments : ℕ → List ℕ → List ℕ → List ℕ → List ℕ → ℕ → ℕ → ℕ → List ℕ → ℕ → List ℕ → ℕ → Type 0
DoneSegments cap P L S X root node pc l at l' r =
    (f : Tail) (k : ℕ) → SegmentsAt P L pc k f → st cap l' r ≡ go f (node_at S X root) (node_at S X node ∷ []) (st cap l at)

-- ---- what every function of evaluation asks, keeps and gives

-- the plan, the pool and the table, the node that `$` stands for, and a list of which the next place is to be set
pub record Asked (v : Lent) (s : Numbers) (l : List ℕ) : Type 0 where
  pub given : Given (plan_of v) (pool_of v) (table_of v) (text_of v)
  pub root_in : root_of s < node_count (table_of v)
  pub room : at_of s ≤ cap_of s + 1
  pub wide : length l ≤ cap_of s + 1
  pub small : cap_of s < cap_limit

-- the node that `$` stands for, the cap and the length of the list stay; the reference to the list is the one that was handed on
pub record Steady (s : Numbers) (l : MutBor (List ℕ)) (s' : Numbers) (l' : MutBor (List ℕ)) : Type 0 where
  pub root : root_of s' ≡ root_of s
  pub cap : cap_of s' ≡ cap_of s
  pub long : length l'.now ≡ length l.now
  pub same : l' ≡ at_last l l'.now

-- for every form x that stands there, F of it is emitted
pub record Gives (I : Type 0) (F : I → ℕ → State → State) (s : Numbers) (l : List ℕ) (s' : Numbers) (l' : List ℕ) : Type 0 where
  pub emits : (x : I) (R C : ℕ) → root_of s ≡ R → cap_of s ≡ C → st C l' (at_of s') ≡ F x R (st C l (at_of s))

-- ---- one node with the segments at pc

pub record AskSegment (v : Lent) (node pc : ℕ) : Type 0 where
  pub node_in : node < node_count (table_of v)
  pub query : Query (plan_of v) (pool_of v) pc

abbrev pub DoneSegment : Lent → ℕ → ℕ → Numbers → List ℕ → Numbers → List ℕ → Type 0
DoneSegment v node pc s l s' l' =
    Gives (Query (plan_of v) (pool_of v) pc) (λ x R. go x.f (node_at (table_of v) (text_of v) R) (node_at (table_of v) (text_of v) node ∷ [])) s l s' l'

-- the entrance
pub record AskEnter (v : Lent) (node pc : ℕ) (s : Numbers) (l : List ℕ) : Type 0 where
  pub asked : Asked v s l
  pub segment : AskSegment v node pc
  pub going : get_or (plan_of v) pc 0 ≡ 0x0A → ⊥

pub record Entered (v : Lent) (node pc : ℕ) (s : Numbers) (l : MutBor (List ℕ)) (s' : Numbers) (l' : MutBor (List ℕ)) : Type 0 where
  pub kept : Steady s l s' l'
  pub gives : DoneSegment v node pc s l.now s' l'.now

-- ---- the selectors of the segment at pc on a node

pub record AskSelectors (v : Lent) (node pc : ℕ) : Type 0 where
  pub node_in : node < node_count (table_of v)
  pub query : Query (plan_of v) (pool_of v) pc
  pub going : get_or (plan_of v) pc 0 ≡ 0x0A → ⊥

-- a segment at pc, its selectors and the rest of the query
pub record Parted (P L : List ℕ) (pc : ℕ) : Type 0 where
  pub k : ℕ
  pub f : Tail
  pub parts : Parts P L pc k f

abbrev pub DoneSelectors : Lent → ℕ → ℕ → Numbers → List ℕ → Numbers → List ℕ → Type 0
DoneSelectors v node pc s l s' l' =
    Gives (Parted (plan_of v) (pool_of v) pc) (λ x R. go x.parts.q (node_at (table_of v) (text_of v) R) (eval_selectors x.parts.ss (node_at (table_of v) (text_of v) R) (node_at (table_of v) (text_of v) node))) s l s' l'

-- ---- a descendant segment at pc on a node

pub record Descends (P L : List ℕ) (pc : ℕ) : Type 0 where
  pub ss : Selectors
  pub q : Tail
  pub k : ℕ
  pub at : SegmentsAt P L pc k (descendant ss q)

pub record AskDescent (v : Lent) (node pc : ℕ) : Type 0 where
  pub node_in : node < node_count (table_of v)
  pub descends : Descends (plan_of v) (pool_of v) pc

abbrev pub DoneDescent : Lent → ℕ → ℕ → Numbers → List ℕ → Numbers → List ℕ → Type 0
DoneDescent v node pc s l s' l' =
    Gives (Descends (plan_of v) (pool_of v) pc) (λ x R. go x.q (node_at (table_of v) (text_of v) R) (below x.ss (node_at (table_of v) (text_of v) R) (node_at (table_of v) (text_of v) node))) s l s' l'

-- and on the nodes of a range, as far as no call is needed
pub record AskFlats (v : Lent) (i e pc : ℕ) : Type 0 where
  pub upto : i ≤ e
  pub range : i < e → e ≤ node_count (table_of v)
  pub descends : Descends (plan_of v) (pool_of v) pc

-- what the descendant segment emits on the nodes from i up to e
abbrev pub descent : (v : Lent) → (pc i e : ℕ) → Descends (plan_of v) (pool_of v) pc → ℕ → State → State
descent v pc i e x R = over x.q (node_at (table_of v) (text_of v) R) (below x.ss (node_at (table_of v) (text_of v) R)) (table_of v) (text_of v) i e

pub record DoneFlats (v : Lent) (i e pc : ℕ) (s : Numbers) (l : List ℕ) (s' : Numbers) (l' : List ℕ) (r : ℕ) : Type 0 where
  pub low : i ≤ r
  pub high : r ≤ e
  pub room : at_of s' ≤ cap_of s + 1
  pub goes : (x : Descends (plan_of v) (pool_of v) pc) (R C : ℕ) → root_of s ≡ R → cap_of s ≡ C → descent v pc r e x R (st C l' (at_of s')) ≡ descent v pc i e x R (st C l (at_of s))

-- ---- one selector at p on a node, and the segments at rest

pub record Selects (P L : List ℕ) (p rest : ℕ) : Type 0 where
  pub x : Selector
  pub q : Tail
  pub k : ℕ
  pub k' : ℕ
  pub stands : Alone P L p rest x q k k'

pub record AskSelector (v : Lent) (node p rest : ℕ) : Type 0 where
  pub node_in : node < node_count (table_of v)
  pub selects : Selects (plan_of v) (pool_of v) p rest

abbrev pub AskKind : Lent → ℕ → ℕ → Type 0
AskKind v p kind = get_or (plan_of v) p 0 ≡ kind

-- what the selector emits of a node
abbrev pub selection : (v : Lent) → (node p rest : ℕ) → Selects (plan_of v) (pool_of v) p rest → ℕ → State → State
selection v node p rest x R = go x.q (node_at (table_of v) (text_of v) R) (eval_selector x.x (node_at (table_of v) (text_of v) R) (node_at (table_of v) (text_of v) node))

abbrev pub DoneSelector : Lent → ℕ → ℕ → ℕ → Numbers → List ℕ → Numbers → List ℕ → Type 0
DoneSelector v node p rest s l s' l' = Gives (Selects (plan_of v) (pool_of v) p rest) (selection v node p rest) s l s' l'

-- the same, or nothing is done
pub record DoneKeep (v : Lent) (node p rest : ℕ) (s : Numbers) (l : List ℕ) (s' : Numbers) (l' : List ℕ) (r : Bits) : Type 0 where
  pub done : r ≡ true → DoneSelector v node p rest s l s' l'
  pub numbers : r ≡ false → s' ≡ s
  pub list : r ≡ false → l' ≡ l

-- ---- the nodes from i up to e, each with the segments at rest

pub record AskEach (v : Lent) (i e rest : ℕ) : Type 0 where
  pub range : i < e → e ≤ node_count (table_of v)
  pub query : Query (plan_of v) (pool_of v) rest

abbrev pub each : (v : Lent) → (rest i e : ℕ) → Query (plan_of v) (pool_of v) rest → ℕ → State → State
each v rest i e x R = over x.f (node_at (table_of v) (text_of v) R) one_of (table_of v) (text_of v) i e

abbrev pub DoneEach : Lent → ℕ → ℕ → ℕ → Numbers → List ℕ → Numbers → List ℕ → Type 0
DoneEach v i e rest s l s' l' = Gives (Query (plan_of v) (pool_of v) rest) (each v rest i e) s l s' l'

-- the same from the first node on that needs a call
pub record DoneAhead (v : Lent) (i e rest : ℕ) (s : Numbers) (l : List ℕ) (s' : Numbers) (l' : List ℕ) (r : ℕ) : Type 0 where
  pub low : i ≤ r
  pub room : at_of s' ≤ cap_of s + 1
  pub goes : (x : Query (plan_of v) (pool_of v) rest) (R C : ℕ) → root_of s ≡ R → cap_of s ≡ C → each v rest r e x R (st C l' (at_of s')) ≡ each v rest i e x R (st C l (at_of s))

-- ---- the first node from i on for which the test from p up to z holds

pub record AskNext (v : Lent) (root i e p z : ℕ) : Type 0 where
  pub given : Given (plan_of v) (pool_of v) (table_of v) (text_of v)
  pub root_in : root < node_count (table_of v)
  pub range : i < e → e ≤ node_count (table_of v)
  pub test : AskTest (plan_of v) (pool_of v) p z

-- or that meets a call
pub record DoneNext (v : Lent) (root i e p z r : ℕ) (call : Bits) : Type 0 where
  pub low : i ≤ r
  pub high : i ≤ e → r ≤ e
  pub passed : (t : Test) (k : ℕ) → Tested (plan_of v) (pool_of v) p z t k → (m : ℕ) → i ≤ m → m < r → eval_test t (node_at (table_of v) (text_of v) root) (node_at (table_of v) (text_of v) m) ≡ false
  pub holds : call ≡ false → r < e → (t : Test) (k : ℕ) → Tested (plan_of v) (pool_of v) p z t k → eval_test t (node_at (table_of v) (text_of v) root) (node_at (table_of v) (text_of v) r) ≡ true

-- ---- a query in a filter's code

pub record AskQuery (P L S X : List ℕ) (root node : ℕ) (s : Regs) : Type 0 where
  pub pair : Pair S X L s.x s.y
  pub e : ℕ
  pub want : Bits
  pub todo : Doing P L S X s e (node_at S X root) (node_at S X node) want
  pub more : s.q < e
  pub kind : get_or P s.q 0 ≤ 2

pub record DoneQuery (P L S X : List ℕ) (root node : ℕ) (s r : Regs) : Type 0 where
  pub pair : Pair S X L r.x r.y
  pub further : s.q < r.q
  pub goes : (e : ℕ) (want : Bits) → Doing P L S X s e (node_at S X root) (node_at S X node) want → s.q < e → Doing P L S X r e (node_at S X root) (node_at S X node) want

-- the byte behind a query is that of a function of nodes, `count` or `value`
abbrev pub is_function : ℕ → Bits
is_function m = eqb m 0x19 || eqb m 0x1B

-- a query found n nodes up to its cap, and the first of them is given
pub record AskNodes (S X : List ℕ) (n first : ℕ) : Type 0 where
  pub tab : Accepted S X
  pub inside : 0 < n → first < node_count S
  pub few : n ≤ max_int

-- r is what the function of the byte gives
pub record OfFunction (S X : List ℕ) (mode n first : ℕ) (r : Operand) : Type 0 where
  pub fine : (L : List ℕ) → Fine S X L r
  pub is_count : mode ≡ 0x19 → (L : List ℕ) → meaning S X L r ≡ Value.integer (pos n)
  pub is_value : mode ≡ 0x1B → n ≡ 1 → (L : List ℕ) → meaning S X L r ≡ node_value (node_at S X first)
  pub is_null_lem : mode ≡ 0x1B → (n ≡ 1 → ⊥) → (L : List ℕ) → meaning S X L r ≡ Value.null

-- r is the value of the first node, if there is one
pub record OfFirst (S X : List ℕ) (n first : ℕ) (r : Operand) : Type 0 where
  pub fine : (L : List ℕ) → Fine S X L r
  pub is_some : 0 < n → (L : List ℕ) → meaning S X L r ≡ node_value (node_at S X first)
  pub is_none : n ≡ 0 → (L : List ℕ) → meaning S X L r ≡ Value.nothing

-- the same with the place where the query's code ends
pub record AskAnswer (S X : List ℕ) (s : Regs) (z n first : ℕ) : Type 0 where
  pub nodes : AskNodes S X n first
  pub place : s.q < z
  pub small : z ≤ max_plan

-- the registers behind it
pub record DoneAnswer (S X : List ℕ) (s : Regs) (mode z n first : ℕ) (r : Regs) : Type 0 where
  pub pair : (L : List ℕ) → Fine S X L s.y → Pair S X L r.x r.y
  pub further : s.q < r.q
  pub goes : (P L : List ℕ) (e : ℕ) (R N : Json) (want : Bits) (J : Json) (a : QueryAt P L s.q e R N s.acc (meaning S X L s.x) (meaning S X L s.y) want J)
      → z ≡ s.q + 1 + length (code_segments a.f a.k) → mode ≡ get_or P z 0
      → Found S X (eval_segments a.f J (J ∷ [])) (cap_for mode) n first
      → Doing P L S X r e R N want
