-- All children of a node that names and indices lead to, counted, and that number compared with a literal: what the functions of `children` ask and give, and their laws.
-- P is the plan, L the pool, S the table, X the text. Assumes nothing.
use Prim.Native.Nat.{ℕ, ◌+◌, ◌-◌, ◌≤◌, ◌<◌, min}
use Rattle.std.specs.Prelude.{◌≡◌, List, [], ◌∷◌, Bool as Bits, true, false, ℤ, pos, length, get_or, Ok}
use Rattle.std.proofs.Math.Path.{refl, ap}
use Rattle.std.proofs.Common.{◌∙◌}
use Rattle.std.proofs.lemmas.List.{length-map}
use native.Mathlib.Omega.{arith}
use Rattle.definition.specs.Bytes.{number, part}
use Rattle.definition.specs.Limits.{max_plan, max_int, max_nodes}
use Rattle.definition.specs.Values.{Json, id_of}
use Rattle.definition.specs.Forms.{Segments, Selectors, Literal}
use Rattle.definition.specs.Forms.Segments.{child, end}
use Rattle.definition.specs.Forms.Selectors.{one}
use Rattle.definition.specs.Forms.Selector.{wildcard}
use Rattle.definition.specs.QueryForms.{literal_right}
use Rattle.definition.specs.Plans.{code_segments, code_selectors, code_selector, code_literal, pool_literal}
use Rattle.definition.specs.Tables.{node_at, low_word, child_count}
use Rattle.definition.specs.Compare.{Value}
use Rattle.definition.specs.Evaluation.{literal_value, eval_segments, eval_selectors, count_value}
use Rattle.table_laws.specs.Accepted.{Accepted}
use Rattle.eval_laws.specs.Bytes.{Holds}
use Rattle.eval_laws.specs.States.{State, st, emit, emit_next}
use Rattle.eval_laws.specs.Segments.{ids}
use Rattle.eval_laws.specs.Emits.{go}
use Rattle.table_laws.specs.Nodes.{nodes, length_nodes}
use Rattle.eval_laws.specs.Ranges.{range_of_lem, select_wildcard}
use Rattle.eval_laws.specs.Steps.{segment_child}
use Rattle.eval_laws.specs.Items.{SegmentsAt, Parts, parts, Last, last, segments_in, is_wildcard, is_end, end_long}
use Rattle.eval_laws.specs.Todos.{Todo, todo_to, todo_in, LiteralAt, at_literal, QueryAt}
use Rattle.eval_values.specs.Alike.{Compares}
use Rattle.eval_values.specs.Means.{meaning}
use Rattle.eval_values.specs.declared.Operand.{Operand}
use Rattle.eval_items.specs.Ends.{AskLiteral, DoneLiteral}
use Rattle.eval_items.specs.Leaves.{AskValue, DoneValue, begins_at}
use Rattle.eval_front.specs.Fronts.{never}
use Rattle.eval_front.specs.Visits.{Query, Given, DoneReach}
use Rattle.eval_filters.specs.declared.Told.{Told}
use Rattle.eval_filters.specs.Tests.{Left, AskShort, DoneShort, compares_as, literal_in, operator_in, compared, query_at}

-- ---- `.*` at the end of a query

pub record AskChildren (P : List ℕ) (c : ℕ) : Type 0 where
  pub few : length P ≤ max_plan
  pub L : List ℕ
  pub query : Query P L c
  pub behind : c + length (code_segments query.f query.k) < length P

-- `.*` stands at c, and the end behind it
pub record Star (P : List ℕ) (c : ℕ) : Type 0 where
  pub child_is : get_or P c 0 ≡ 3
  pub alone : number (part P (c + 1) 2) ≡ 1
  pub wildcard_is : get_or P (c + 3) 0 ≡ 8
  pub end_is : get_or P (c + 4) 0 ≡ 0x0A

pub record DoneChildren (P : List ℕ) (c : ℕ) (r : Bits) : Type 0 where
  pub star : r ≡ true → Star P c
  pub count : r ≡ true → get_or P (c + 5) 0 ≡ 0x19

pub children_none : (P : List ℕ) (c : ℕ) → DoneChildren P c false
children_none P c = record { star = λ e. absurd (never e); count = λ e. absurd (never e) }

module _ (P L : List ℕ) (few : length P ≤ max_plan) (c k : ℕ) (f : Segments) (h : SegmentsAt P L c k f) (t : get_or P c 0 ≡ 3) where
  star_parts : Parts P L c k f
  star_parts = parts P L few c k f h (λ z. absurd (omega arith))

  pub star_bound : c + 3 < length P
  star_bound = star_parts.bound

  module _ (u : number (part P (c + 1) 2) ≡ 1) (w : get_or P (c + 3) 0 ≡ 8) where
    star_last : Last P L (c + 3) k star_parts.ss
    star_last = let n = star_parts.count in last P L (c + 3) k star_parts.ss star_parts.selectors (omega arith)

    star_wildcard : (star_last.s ≡ wildcard) × (length (code_selector star_last.s k) ≡ 1)
    star_wildcard = is_wildcard P (c + 3) k star_last.s star_last.here.holds w

    star_place : c + 3 + length (code_selectors star_parts.ss k) ≡ c + 4
    star_place = let a = star_last.long in let b = star_wildcard.1 in omega arith

    pub star_next : c + 4 < length P
    star_next = let a = star_place in omega (arith, segments_in P L _ _ _ star_parts.after)

    module _ (v : get_or P (c + 4) 0 ≡ 0x0A) where
      star_end : get_or P (c + 3 + length (code_selectors star_parts.ss k)) 0 ≡ 0x0A
      star_end = ap (λ (x : ℕ). get_or P x 0) star_place ∙ v

      pub star_long : length (code_segments f k) ≡ 5
      star_long = let a = star_place in let b = end_long P _ _ star_parts.q star_parts.after.holds star_end in let l = star_parts.long in omega arith

      star_made : f ≡ child (one wildcard) end
      star_made =
          star_parts.is_child t
          ∙ ap (λ (ss : Selectors). child ss star_parts.q) (star_last.made ∙ ap one star_wildcard.0)
          ∙ ap (child (one wildcard)) (is_end P _ _ star_parts.q star_parts.after.holds star_end)

-- how many they are
next_of : (xs ys : List Json) (cap n : ℕ) → emit (ids xs) (st cap (0 ∷ []) 0) ≡ emit (ids ys) (st cap (0 ∷ []) 0) → length xs ≡ n → n ≤ cap → n ≡ min (length ys) (cap + 1)
next_of xs ys cap n e l m =
    let a = emit_next (ids xs) (st cap (0 ∷ []) 0) (omega arith) in
    let b = emit_next (ids ys) (st cap (0 ∷ []) 0) (omega arith) in
    let u : length (ids xs) ≡ length xs = length-map xs id_of in
    let v : length (ids ys) ≡ length ys = length-map ys id_of in
    let d = ap (λ (s : State). s.next) e in
    omega arith

module _ (P L S X : List ℕ) (given : Given P L S X) (from q m c : ℕ) (d : DoneReach P L S X from (q + 1) (record { node = Ok m; pc = c })) (w : Star P c) (n : ℕ) (g : n ≡ child_count S m) where
  star_goes : (h : Segments) (k : ℕ) → SegmentsAt P L c k h → (R : Json) (s : State) → emit (ids (nodes S X (low_word S m) n)) s ≡ go h R (node_at S X m ∷ []) s
  unfolding go eval_segments eval_selectors
  star_goes h k a R s =
      select_wildcard S X given.tab m d.node_in (low_word S m) n (range_of_lem S X given.tab m d.node_in (low_word S m) n refl g) end R s wildcard refl
      ∙ segment_child (one wildcard) end h R (node_at S X m) s (star_made P L given.few_p c k h a w.child_is w.alone w.wildcard_is w.end_is)

  pub star_count : (f : Segments) (k : ℕ) → SegmentsAt P L (q + 1) k f → Value.integer (pos n) ≡ count_value (eval_segments f (node_at S X from) (node_at S X from ∷ []))
  unfolding go count_value
  star_count f k a =
      let y = d.front f k a in
      let e = star_goes y.g y.j y.at (node_at S X from) (st (max_int - 1) (0 ∷ []) 0) ∙ y.found m refl (node_at S X from) (st (max_int - 1) (0 ∷ []) 0) in
      let z = next_of (nodes S X (low_word S m) n) (eval_segments f (node_at S X from) (node_at S X from ∷ [])) (max_int - 1) n e (length_nodes S X (low_word S m) n) (omega (arith, given.tab.inside m d.node_in, given.tab.size.few)) in
      let u : n ≡ min (length (eval_segments f (node_at S X from) (node_at S X from ∷ []))) max_int = omega arith in
      ap (λ (x : ℕ). Value.integer (pos x)) u

  -- where the query ends
  pub star_past : (f : Segments) (k : ℕ) → SegmentsAt P L (q + 1) k f → q + 1 + length (code_segments f k) ≡ c + 5
  star_past f k a =
      let y = d.front f k a in
      let l = star_long P L given.few_p c y.j y.g y.at w.child_is w.alone w.wildcard_is w.end_is in
      let e = y.ends in
      omega arith

-- ---- a number and a literal

pub record AskCount (P L S X : List ℕ) (n q : ℕ) : Type 0 where
  pub tab : Accepted S X
  pub few : n ≤ max_nodes
  pub literal : AskValue P L q

abbrev pub DoneCount : List ℕ → List ℕ → ℕ → ℕ → ℕ → Bits → Type 0
DoneCount P L n q op b = (l : Literal) (k : ℕ) → Holds P q (code_literal l k) → Holds L k (pool_literal l) → literal_right l ≡ true → Compares (Value.integer (pos n)) (literal_value l) op b

pub count_done : (P L S X : List ℕ) (n q op : ℕ) (b : Bits) (v : ℤ) → v ≡ pos n → (w : Operand) → DoneValue P L q w → Compares (Value.integer v) (meaning S X L w) op b → DoneCount P L n q op b
count_done P L S X n q op b v i w j c = λ l k h p t. compares_as op b (ap Value.integer i) ((j l k h p t).means S X) c

pub record AskCounted (P L S X : List ℕ) (n z e : ℕ) : Type 0 where
  pub few_p : length P ≤ max_plan
  pub few_l : length L ≤ max_plan
  pub tab : Accepted S X
  pub few : n ≤ max_nodes
  pub R : Json
  pub N : Json
  pub acc : Bits
  pub want : Bits
  pub todo : Todo P L z e R N acc Value.nothing (Value.integer (pos n)) want

pub record DoneCounted (P L : List ℕ) (n z e : ℕ) (r : Told) : Type 0 where
  pub further : r.some ≡ true → z < r.q
  pub goes : r.some ≡ true → (R N : Json) (acc want : Bits) → Todo P L z e R N acc Value.nothing (Value.integer (pos n)) want → Left P L r.q e R N r.acc want

pub counted_none : (P L : List ℕ) (n z e q : ℕ) → DoneCounted P L n z e (record { acc = false; q = q; some = false })
counted_none P L n z e q = record { further = λ t. absurd (never t); goes = λ t. absurd (never t) }

module _ {P L S X : List ℕ} {n z e : ℕ} (a : AskCounted P L S X n z e) (m : z < e) where
  pub counted_in : z < length P
  counted_in = todo_in P L z e a.R a.N a.acc Value.nothing (Value.integer (pos n)) a.want a.todo m

  module _ (lo : 0x10 ≤ get_or P z 0) (hi : get_or P z 0 ≤ 0x13) where
    -- as the value of one node
    counted_here : LiteralAt P L z e a.R a.N a.acc Value.nothing (Value.integer (pos n)) a.want
    counted_here = at_literal P L z e a.R a.N a.acc Value.nothing (Value.integer (pos n)) a.want a.todo m lo hi

    pub counted_value : AskValue P L z
    counted_value = let g = counted_here in record { few = a.few_l; l = g.l; k = g.k; holds = g.holds; pool = g.pool; right = g.right }

    pub counted_past : AskLiteral P z
    counted_past = let g = counted_here in record { l = g.l; k = g.k; holds = g.holds }

    module _ (w : ℕ) (d : DoneLiteral P z w) (o : w < e) where
      pub counted_behind : w < length P
      counted_behind = literal_in P L z w e d lo hi m o a.R a.N a.acc _ a.want a.todo

      module _ (c : get_or P w 0 ≡ 0x14) where
        pub counted_operator : w + 1 < length P
        counted_operator = operator_in P L z w e d lo hi m o a.R a.N a.acc _ a.want a.todo c

        pub counted_done : (b : Bits) → DoneCount P L n z (get_or P (w + 1) 0) b → DoneCounted P L n z e (record { acc = b; q = w + 2; some = true })
        counted_done b s =
            let g = counted_here in
            let p = d g.l g.k g.holds in
            record { further = λ t. omega arith; goes = λ t R N acc want u. compared P L z w e d lo hi m o R N acc _ want u c b s }

-- ---- the query and its count

pub record AskCounting (P L S X : List ℕ) (root node from q m c : ℕ) : Type 0 where
  pub begins : from ≡ begins_at (get_or P q 0) root node
  pub reach : DoneReach P L S X from (q + 1) (record { node = Ok m; pc = c })

module _ {P L S X : List ℕ} {root node from q e m c : ℕ} (a : AskShort P L S X root node q e) (b : AskCounting P L S X root node from q m c) where
  given_short : Given P L S X
  given_short = let w = a.within in record { few_p = w.few_p; few_l = w.few_l; tab = w.tab }

  asked_query : QueryAt P L q e (node_at S X root) (node_at S X node) a.acc Value.nothing Value.nothing a.want (node_at S X from)
  asked_query = query_at a from b.begins a.acc a.want a.todo

  pub counting_asked : AskChildren P c
  counting_asked =
      let y = asked_query in
      let f = b.reach.front y.f y.k y.at in
      record {
        few = a.within.few_p;
        L = L;
        query = record { f = f.g; k = f.j; at = f.at };
        behind = let v = f.ends in let w = y.bound in omega arith;
      }

  module _ (w : Star P c) (t : get_or P (c + 5) 0 ≡ 0x19) (n : ℕ) (g : n ≡ child_count S m) where
    counting_todo : (acc want : Bits) (l : Left P L q e (node_at S X root) (node_at S X node) acc want) → Todo P L (c + 6) e (node_at S X root) (node_at S X node) acc Value.nothing (Value.integer (pos n)) want
    counting_todo acc want l =
        let y = query_at a from b.begins acc want l in
        let p = star_past P L S X given_short from q m c b.reach w n g y.f y.k y.at in
        todo_to P L _ (c + 6) e _ _ acc acc _ _ _ _ want (omega arith) refl refl refl
        (y.is_count (ap (λ (x : ℕ). get_or P x 0) p ∙ t) _ (star_count P L S X given_short from q m c b.reach w n g y.f y.k y.at))

    pub counting_counted : AskCounted P L S X n (c + 6) e
    counting_counted =
        record {
          few_p = a.within.few_p;
          few_l = a.within.few_l;
          tab = a.within.tab;
          few = omega (arith, a.within.tab.inside m b.reach.node_in, a.within.tab.size.few);
          R = _;
          N = _;
          acc = _;
          want = _;
          todo = counting_todo a.acc a.want a.todo;
        }

    pub counting_done : (r : Told) → DoneCounted P L n (c + 6) e r → DoneShort P L S X root node q e r
    counting_done r z =
        record {
          further = λ i. let p = b.reach.later in omega (arith, z.further i);
          goes = λ i acc want l. z.goes i _ _ acc want (counting_todo acc want l);
        }
