-- Tests of a node that are told without registers: what the functions ask and give, and the laws that take what is left of a filter's code further by one test.
-- P is the plan, L the pool, S the table, X the text. Assumes nothing.
use Rattle.std.specs.Prelude.{ℕ, ◌+◌, ◌-◌, ◌≤◌, ◌<◌, ◌≡◌, refl, List, [], ◌∷◌, Bool as Bits, true, false, not, ◌&&◌, ltb, leb, ℤ, length, get_or, Result, Ok, Err}
use Rattle.std.proofs.Common.{sym, ap, ◌∙◌, subst, arith, leb-true}
use Rattle.definition.specs.Bytes.{number, part, signed64, same_bytes}
use Rattle.definition.specs.Limits.{max_plan, max_int}
use Rattle.definition.specs.Values.{Json}
use Rattle.definition.specs.Forms.{Segments, Literal}
use Rattle.definition.specs.Forms.Operator.{eq, ne, lt, le, gt, ge}
use Rattle.definition.specs.QueryForms.{literal_right}
use Rattle.definition.specs.Plans.{code_segments, code_literal, pool_literal}
use Rattle.definition.specs.Tables.{node_count, node_at, kind_at, payload, low_word, high_word}
use Rattle.definition.specs.Compare.{Value, node_value, compare_values, same, less, less_or_same, is_some, is_null, boolean_of, same_boolean, same_number, same_text, number_of, text_of, numbers_less, texts_less, list_of, map_of}
use Rattle.definition.specs.Evaluation.{literal_value, eval_segments, first_value}
use Rattle.basics.specs.Bools.{and_left, and_right}
use Rattle.eval_items.specs.OpLaws.{right_kind_else, right_kind_is}
use Rattle.table_laws.specs.Accepted.{Accepted}
use Rattle.eval_laws.specs.Bytes.{Holds}
use Rattle.eval_laws.specs.Items.{SegmentsAt, end_long}
use Rattle.eval_laws.specs.Founds.{Found, found_test, found_first, found_none}
use Rattle.eval_laws.specs.Todos.{Todo, todo_to, todo_in, at_compare, at_not, LiteralAt, at_literal, Right, at_right, QueryAt, at_query}
use Rattle.eval_laws.specs.Operations.{right_kind}
use Rattle.eval_values.specs.Alike.{Compares}
use Rattle.eval_values.specs.Same.{says_eq}
use Rattle.eval_values.specs.Values.{of_integer_lem, of_text_lem}
use Rattle.eval_values.specs.Means.{meaning, OfNode}
use Rattle.eval_values.specs.declared.Operand.{Operand}
use Rattle.eval_values.specs.declared.Operand.TheVariants.{Int, Text, Pool}
use Rattle.eval_items.specs.Ends.{AskLiteral, DoneLiteral, DonePast}
use Rattle.eval_items.specs.Leaves.{AskValue, DoneValue, begins_at}
use Rattle.eval_items.specs.LeafLaws.{done_integer, done_text}
use Rattle.eval_front.specs.Fronts.{never}
use Rattle.eval_front.specs.Visits.{Query, AskReach, DoneReach}
use Rattle.eval_front.specs.Turns.{leads_in}
use Rattle.eval_front.specs.declared.Reached.{Reached}
use Rattle.eval_filters.specs.Queries.{Within, begins_root, begins_node, past_of, found_lost, found_one}
use Rattle.eval_filters.specs.declared.Told.{Told}
use Rattle.eval_front.specs.declared.More.{More}
use Rattle.eval_filters.specs.declared.Nodes.{Nodes}

-- ---- values that are those values

pub compares_as : {v v' w w' : Value} (op : ℕ) (b : Bits) → v ≡ v' → w ≡ w' → Compares v w op b → Compares v' w' op b
compares_as {v} {v'} {w} {w'} op b i j c = λ o e. c o e ∙ ap (λ (x : Value). compare_values o x w) i ∙ ap (compare_values o v') j

-- ---- nothing compares

pub none_same : (w : Value) → same w Value.nothing ≡ false
unfolding same is_null same_boolean boolean_of same_number number_of same_text text_of list_of map_of
none_same Value.nothing = refl
none_same Value.null = refl
none_same (Value.boolean b) = refl
none_same (Value.integer z) = refl
none_same (Value.float x) = refl
none_same (Value.text s) = refl
none_same (Value.list ks) = refl
none_same (Value.map ks) = refl

pub none_below : (w : Value) → less w Value.nothing ≡ false
unfolding less numbers_less texts_less number_of text_of
none_below Value.nothing = refl
none_below Value.null = refl
none_below (Value.boolean b) = refl
none_below (Value.integer z) = refl
none_below (Value.float x) = refl
none_below (Value.text s) = refl
none_below (Value.list ks) = refl
none_below (Value.map ks) = refl

pub none_compares : (w : Value) (op : ℕ) → Compares Value.nothing w op false
unfolding compare_values same is_some less less_or_same numbers_less texts_less number_of text_of
none_compares w op eq e = refl
none_compares w op ne e = refl
none_compares w op lt e = refl
none_compares w op le e = refl
none_compares w op gt e = sym (none_below w)
none_compares w op ge e = rw (none_same w, none_below w) refl

-- ---- a node and a literal

pub record AskNode (P L S X : List ℕ) (m q : ℕ) : Type 0 where
  pub tab : Accepted S X
  pub node_in : m < node_count S
  pub literal : AskValue P L q

-- b is what the operator says of the node's value and of every literal that stands there
abbrev pub DoneNode : List ℕ → List ℕ → List ℕ → List ℕ → ℕ → ℕ → ℕ → Bits → Type 0
DoneNode P L S X m q op b = (l : Literal) (k : ℕ) → Holds P q (code_literal l k) → Holds L k (pool_literal l) → literal_right l ≡ true → Compares (node_value (node_at S X m)) (literal_value l) op b

module _ {P L S X : List ℕ} {m q : ℕ} (a : AskNode P L S X m q) (op : ℕ) (r : Bits) where
  pub operands_done : (v w : Operand) → OfNode S X m v → DoneValue P L q w → Compares (meaning S X L v) (meaning S X L w) op r → DoneNode P L S X m q op r
  operands_done v w i j c = λ l k h p t. compares_as op r (i.means L) ((j l k h p t).means S X) c

  pub integers_done : get_or P q 0 ≡ 0x10 → kind_at S m ≡ 3 → (x y : ℤ) → x ≡ signed64 (payload S m) → y ≡ signed64 (number (part P (q + 1) 8)) → Compares (Value.integer x) (Value.integer y) op r → DoneNode P L S X m q op r
  integers_done c k x y i j = operands_done (Int x) (Int y) (of_integer_lem S X a.tab m a.node_in k x i) (done_integer P L q c y j)

  -- two texts
  module _ (c : get_or P q 0 ≡ 0x12) (k : kind_at S m ≡ 5) (x n y o : ℕ) (i : x ≡ low_word S m) (j : n ≡ high_word S m) (f : y ≡ number (part P (q + 1) 2)) (g : o ≡ number (part P (q + 3) 2)) where
    text_node : OfNode S X m (Text x n)
    text_node = of_text_lem S X a.tab m a.node_in k x n i j

    text_literal_lem : DoneValue P L q (Pool y o)
    text_literal_lem = done_text P L q a.literal.few c y o f g

    pub texts_in : (x + n ≤ length X) × (y + o ≤ length L)
    texts_in = let z = a.literal in ((text_node.fine L).0, ((text_literal_lem z.l z.k z.holds z.pool z.right).fine S X).0)

    pub texts_done : op ≡ 0 → r ≡ same_bytes (part X x n) (part L y o) → DoneNode P L S X m q op r
    unfolding same same_text text_of
    texts_done z e = operands_done (Text x n) (Pool y o) text_node text_literal_lem (says_eq _ _ op r z e)

abbrev pub literal_kind : ℕ → Bits
literal_kind k = leb 0x10 k && leb k 0x13

pub literal_kind_lem : (k : ℕ) → literal_kind k ≡ true → (0x10 ≤ k) × (k ≤ 0x13)
literal_kind_lem k e = (leb-true 0x10 k (and_left (leb 0x10 k) (leb k 0x13) e), leb-true k 0x13 (and_right (leb 0x10 k) (leb k 0x13) e))

-- ---- what is left of a filter's code

-- with an answer and no values
abbrev pub Left : List ℕ → List ℕ → ℕ → ℕ → Json → Json → Bits → Bits → Type 0
Left P L q e R N acc want = Todo P L q e R N acc Value.nothing Value.nothing want

-- ---- the value of the first of n nodes and a literal

-- v is the value of the first node, if there is one
pub record FirstIs (S X : List ℕ) (n first : ℕ) (v : Value) : Type 0 where
  pub none : n ≡ 0 → v ≡ Value.nothing
  pub some : 0 < n → v ≡ node_value (node_at S X first)

pub record AskAgainst (P L S X : List ℕ) (n first z e : ℕ) : Type 0 where
  pub few_p : length P ≤ max_plan
  pub few_l : length L ≤ max_plan
  pub tab : Accepted S X
  pub inside : 0 < n → first < node_count S
  pub R : Json
  pub N : Json
  pub acc : Bits
  pub v : Value
  pub want : Bits
  pub todo : Todo P L z e R N acc Value.nothing v want
  pub low : 0x10 ≤ get_or P z 0
  pub high : get_or P z 0 ≤ 0x13

pub record DoneAgainst (P L S X : List ℕ) (n first z e : ℕ) (r : Told) : Type 0 where
  pub further : r.some ≡ true → z < r.q
  pub goes : r.some ≡ true → (R N : Json) (acc : Bits) (v : Value) (want : Bits) → FirstIs S X n first v → Todo P L z e R N acc Value.nothing v want → Left P L r.q e R N r.acc want

-- ---- a query that needs no evaluation

pub record Plain (P L S X : List ℕ) (from q : ℕ) (r : Nodes) : Type 0 where
  pub inside : 0 < r.n → r.first < node_count S
  pub past : (f : Segments) (k : ℕ) → SegmentsAt P L (q + 1) k f → r.z ≡ q + 1 + length (code_segments f k)
  pub found : (f : Segments) (k : ℕ) → SegmentsAt P L (q + 1) k f → Found S X (eval_segments f (node_at S X from) (node_at S X from ∷ [])) (max_int - 1) r.n r.first

-- or where the rest of it stands
abbrev pub DonePlain : List ℕ → List ℕ → List ℕ → List ℕ → ℕ → ℕ → Result Nodes More → Type 0
DonePlain P L S X from q (Ok r) = Plain P L S X from q r
DonePlain P L S X from q (Err m) = DoneReach P L S X from (q + 1) (record { node = Ok m.node; pc = m.pc })

-- the end of a query is one byte
end_past : (P : List ℕ) (p : ℕ) → get_or P p 0 ≡ 0x0A → DonePast P p (p + 1)
end_past P p e f k h = ap (λ (n : ℕ). p + n) (sym (end_long P p k f h e))

-- where names and indices lead to a node, and more is to be done there
pub plain_none : {P L S X : List ℕ} {from pc : ℕ} {r : Reached} → DoneReach P L S X from pc r → {m : ℕ} → r.node ≡ Ok m → DoneReach P L S X from pc (record { node = Ok m; pc = r.pc })
plain_none {P} {L} {S} {X} {from} {pc} {r} d e = subst (λ (y : Result ℕ ℕ). DoneReach P L S X from pc (record { node = y; pc = r.pc })) e d

-- by where names and indices lead
module _ {P L S X : List ℕ} {from q : ℕ} (a : AskReach P L S X from (q + 1)) (r : Reached) (d : DoneReach P L S X from (q + 1) r) where
  pub plain_lost : {m : ℕ} → r.node ≡ Err m → (z : ℕ) → DonePast P r.pc z → Plain P L S X from q (record { n = 0; first = 0; z = z })
  plain_lost e z p =
      record {
        inside = λ i. absurd (omega arith);
        past = past_of P L S X a.given.tab from q a.node_in r d z p;
        found = found_lost P L S X a.given.tab from q a.node_in r d e 0x19;
      }

  module _ (m : ℕ) (e : r.node ≡ Ok m) where
    pub plain_one : get_or P r.pc 0 ≡ 0x0A → Plain P L S X from q (record { n = 1; first = m; z = r.pc + 1 })
    plain_one c =
        record {
          inside = λ i. leads_in d e;
          past = past_of P L S X a.given.tab from q a.node_in r d (r.pc + 1) (end_past P r.pc c);
          found = found_one P L S X a.given.tab from q a.node_in r d m e c 0x19;
        }

-- ---- a test

pub record AskShort (P L S X : List ℕ) (root node q e : ℕ) : Type 0 where
  pub within : Within P L S X root node
  pub acc : Bits
  pub want : Bits
  pub todo : Left P L q e (node_at S X root) (node_at S X node) acc want
  pub more : q < e
  pub kind : get_or P q 0 ≤ 2

pub record DoneShort (P L S X : List ℕ) (root node q e : ℕ) (r : Told) : Type 0 where
  pub further : r.some ≡ true → q < r.q
  pub goes : r.some ≡ true → (acc want : Bits) → Left P L q e (node_at S X root) (node_at S X node) acc want → Left P L r.q e (node_at S X root) (node_at S X node) r.acc want

pub against_none : (P L S X : List ℕ) (n first z e q : ℕ) → DoneAgainst P L S X n first z e (record { acc = false; q = q; some = false })
against_none P L S X n first z e q = record { further = λ t. absurd (never t); goes = λ t. absurd (never t) }

pub short_none : (P L S X : List ℕ) (root node q e q' : ℕ) → DoneShort P L S X root node q e (record { acc = false; q = q'; some = false })
short_none P L S X root node q e q' = record { further = λ t. absurd (never t); goes = λ t. absurd (never t) }

-- ---- the rest of a test by registers

pub record AskRest (P L S X : List ℕ) (root node : ℕ) (acc : Bits) (p e : ℕ) : Type 0 where
  pub want : Bits
  pub todo : Left P L p e (node_at S X root) (node_at S X node) acc want

abbrev pub DoneRest : List ℕ → List ℕ → List ℕ → List ℕ → ℕ → ℕ → Bits → ℕ → ℕ → Bits → Type 0
DoneRest P L S X root node acc p e r = (want : Bits) → Left P L p e (node_at S X root) (node_at S X node) acc want → r ≡ want

-- ---- the operators between tests

abbrev pub logic_kind : ℕ → Bits
logic_kind k = leb 0x15 k && leb k 0x17

pub logic_kind_lem : (k : ℕ) → logic_kind k ≡ true → (0x15 ≤ k) × (k ≤ 0x17)
logic_kind_lem k e = (leb-true 0x15 k (and_left (leb 0x15 k) (leb k 0x17) e), leb-true k 0x17 (and_right (leb 0x15 k) (leb k 0x17) e))

pub record AskLogic (P : List ℕ) (acc : Bits) (q : ℕ) : Type 0 where
  pub few : length P ≤ max_plan
  pub L : List ℕ
  pub e : ℕ
  pub R : Json
  pub N : Json
  pub want : Bits
  pub todo : Left P L q e R N acc want
  pub more : q < e
  pub low : 0x15 ≤ get_or P q 0
  pub high : get_or P q 0 ≤ 0x17

pub record DoneLogic (P : List ℕ) (acc : Bits) (q : ℕ) (r : Told) : Type 0 where
  pub further : q < r.q
  pub goes : (L : List ℕ) (e : ℕ) (R N : Json) (want : Bits) → Left P L q e R N acc want → q < e → Left P L r.q e R N r.acc want

-- ---- a literal and the comparison behind it

module _ (P L : List ℕ) (z w e : ℕ) (d : DoneLiteral P z w) (lo : 0x10 ≤ get_or P z 0) (hi : get_or P z 0 ≤ 0x13) (m : z < e) (n : w < e) (R N : Json) (acc : Bits) (v : Value) (want : Bits) (t : Todo P L z e R N acc Value.nothing v want) where
  here : LiteralAt P L z e R N acc Value.nothing v want
  here = at_literal P L z e R N acc Value.nothing v want t m lo hi

  onward : Todo P L w e R N acc v (literal_value here.l) want
  onward = here.then (literal_value here.l) refl w (d here.l here.k here.holds)

  pub literal_in : w < length P
  literal_in = todo_in P L w e R N acc v (literal_value here.l) want onward n

  module _ (c : get_or P w 0 ≡ 0x14) where
    pub operator_in : w + 1 < length P
    operator_in = (at_compare P L w e R N acc v (literal_value here.l) want onward n c).bound

    pub compared : (b : Bits) → ((l : Literal) (k : ℕ) → Holds P z (code_literal l k) → Holds L k (pool_literal l) → literal_right l ≡ true → Compares v (literal_value l) (get_or P (w + 1) 0) b) → Left P L (w + 2) e R N b want
    compared b s = let g = at_compare P L w e R N acc v (literal_value here.l) want onward n c in g.then b (s here.l here.k here.holds here.pool here.right g.o g.byte)

module _ {P L S X : List ℕ} {n first z e : ℕ} (a : AskAgainst P L S X n first z e) (m : z < e) where
  asked_here : LiteralAt P L z e a.R a.N a.acc Value.nothing a.v a.want
  asked_here = at_literal P L z e a.R a.N a.acc Value.nothing a.v a.want a.todo m a.low a.high

  pub against_value : AskValue P L z
  against_value = let g = asked_here in record { few = a.few_l; l = g.l; k = g.k; holds = g.holds; pool = g.pool; right = g.right }

  pub against_past : AskLiteral P z
  against_past = let g = asked_here in record { l = g.l; k = g.k; holds = g.holds }

  module _ (w : ℕ) (d : DoneLiteral P z w) (o : w < e) where
    pub against_in : w < length P
    against_in = literal_in P L z w e d a.low a.high m o a.R a.N a.acc a.v a.want a.todo

    module _ (c : get_or P w 0 ≡ 0x14) where
      pub against_operator : w + 1 < length P
      against_operator = operator_in P L z w e d a.low a.high m o a.R a.N a.acc a.v a.want a.todo c

      against_by : (b : Bits) → ((v : Value) → FirstIs S X n first v → (l : Literal) (k : ℕ) → Holds P z (code_literal l k) → Holds L k (pool_literal l) → literal_right l ≡ true → Compares v (literal_value l) (get_or P (w + 1) 0) b)
          → DoneAgainst P L S X n first z e (record { acc = b; q = w + 2; some = true })
      against_by b s =
          let g = asked_here in
          let p = d g.l g.k g.holds in
          record { further = λ t. omega arith; goes = λ t R N acc v want f u. compared P L z w e d a.low a.high m o R N acc v want u c b (s v f) }

      pub against_nothing : n ≡ 0 → DoneAgainst P L S X n first z e (record { acc = false; q = w + 2; some = true })
      against_nothing i = against_by false (λ v f l k h p r. compares_as _ false (sym (f.none i)) refl (none_compares (literal_value l) _))

      pub against_node : (n ≡ 0 → ⊥) → (b : Bits) → DoneNode P L S X first z (get_or P (w + 1) 0) b → DoneAgainst P L S X n first z e (record { acc = b; q = w + 2; some = true })
      against_node i b s = against_by b (λ v f l k h p r. compares_as _ b (sym (f.some (omega arith))) refl (s l k h p r))

-- ---- a query and what is asked of it

module _ {P L S X : List ℕ} {root node q e : ℕ} (a : AskShort P L S X root node q e) (from : ℕ) (b : from ≡ begins_at (get_or P q 0) root node) where
  pub query_at : (acc want : Bits) → Left P L q e (node_at S X root) (node_at S X node) acc want → QueryAt P L q e (node_at S X root) (node_at S X node) acc Value.nothing Value.nothing want (node_at S X from)
  query_at acc want t =
      at_query P L q e (node_at S X root) (node_at S X node) acc Value.nothing Value.nothing want t a.more a.kind (node_at S X from)
      (λ z. ap (node_at S X) (b ∙ begins_root _ root node z)) (λ z. ap (node_at S X) (b ∙ begins_node _ root node z))

  pub short_in : q < length P
  short_in = let y = (query_at a.acc a.want a.todo).bound in omega arith

  pub short_query : Query P L (q + 1)
  short_query = let y = query_at a.acc a.want a.todo in record { f = y.f; k = y.k; at = y.at }

  module _ (r : Nodes) (d : Plain P L S X from q r) where
    pub short_mode : (q < r.z) × (r.z < length P)
    short_mode = let y = query_at a.acc a.want a.todo in let h = y.bound in let p = d.past y.f y.k y.at in (omega arith, omega arith)

    pub short_tested : get_or P r.z 0 ≡ 0x18 → (t : Bits) → t ≡ ltb 0 r.n → DoneShort P L S X root node q e (record { acc = t; q = r.z + 1; some = true })
    short_tested c t u =
        record {
          further = λ i. omega (arith, short_mode.0);
          goes = λ i acc want l.
              let y = query_at acc want l in
              let p = d.past y.f y.k y.at in
              todo_to P L _ (r.z + 1) e _ _ t t _ _ _ _ want (ap (λ (x : ℕ). x + 1) p) refl refl refl
              (y.is_test (subst (λ (x : ℕ). get_or P x 0 ≡ 0x18) p c) t (u ∙ found_test S X _ _ r.n r.first (d.found y.f y.k y.at)));
        }

    module _ (under : get_or P r.z 0 < 0x18) where
      pub first_is : (f : Segments) (k : ℕ) → SegmentsAt P L (q + 1) k f → FirstIs S X r.n r.first (first_value (eval_segments f (node_at S X from) (node_at S X from ∷ [])))
      first_is f k h = let g = d.found f k h in record { none = λ i. sym (found_none S X _ _ r.n r.first g i); some = λ i. sym (found_first S X _ _ r.n r.first g i) }

      pub valued : (acc want : Bits) (l : Left P L q e (node_at S X root) (node_at S X node) acc want)
          → Todo P L r.z e (node_at S X root) (node_at S X node) acc Value.nothing (first_value (eval_segments (query_at acc want l).f (node_at S X from) (node_at S X from ∷ []))) want
      valued acc want l =
          let y = query_at acc want l in
          let p = d.past y.f y.k y.at in
          let c : get_or P r.z 0 ≡ get_or P (q + 1 + length (code_segments y.f y.k)) 0 = ap (λ (x : ℕ). get_or P x 0) p in
          todo_to P L _ r.z e _ _ acc acc _ _ _ _ want p refl refl refl
          (y.is_first_lem (λ i. absurd (omega arith)) (λ i. absurd (omega arith)) (λ i. absurd (omega arith)) _ refl)

    module _ (lo : 0x10 ≤ get_or P r.z 0) (hi : get_or P r.z 0 ≤ 0x13) where
      pub short_asked : AskAgainst P L S X r.n r.first r.z e
      short_asked =
          record {
            few_p = a.within.few_p;
            few_l = a.within.few_l;
            tab = a.within.tab;
            inside = d.inside;
            R = _;
            N = _;
            acc = _;
            v = _;
            want = _;
            todo = valued (omega arith) a.acc a.want a.todo;
            low = lo;
            high = hi;
          }

      pub short_compared : (t : Told) → DoneAgainst P L S X r.n r.first r.z e t → DoneShort P L S X root node q e t
      short_compared t g =
          record {
            further = λ i. omega (arith, g.further i, short_mode.0);
            goes = λ i acc want l. let y = query_at acc want l in g.goes i _ _ acc _ want (first_is (omega arith) y.f y.k y.at) (valued (omega arith) acc want l);
          }

-- ---- the operators between tests

other : (w acc : Bits) → w ≡ not acc → acc ≡ w → ⊥
other true true e i = let n : ◌≡◌ {A = ℕ} 0 1 = cc in omega arith
other true false e i = let n : ◌≡◌ {A = ℕ} 0 1 = cc in omega arith
other false true e i = let n : ◌≡◌ {A = ℕ} 0 1 = cc in omega arith
other false false e i = let n : ◌≡◌ {A = ℕ} 0 1 = cc in omega arith

module _ {P : List ℕ} {acc : Bits} {q : ℕ} (a : AskLogic P acc q) where
  pub logic_in : q < length P
  logic_in = todo_in P a.L q a.e a.R a.N acc _ _ a.want a.todo a.more

  pub logic_not : get_or P q 0 ≡ 0x15 → DoneLogic P acc q (record { acc = not acc; q = q + 1; some = true })
  logic_not c = record { further = omega arith; goes = λ L e R N want t m. at_not P L q e R N acc _ _ want t m c }

  module _ (c : get_or P q 0 ≡ 0x15 → ⊥) where
    right_here : (L : List ℕ) (e : ℕ) (R N : Json) (want : Bits) → Left P L q e R N acc want → q < e → Right P L q e R N acc Value.nothing Value.nothing want
    right_here L e R N want t m = let u = a.low in let v = a.high in at_right P L q e R N acc Value.nothing Value.nothing want a.few t m (omega arith) (omega arith)

    pub logic_right : q + 3 ≤ length P
    logic_right = (right_here a.L a.e a.R a.N a.want a.todo a.more).bound

    -- the side on which it goes on: true for `&&`
    kind_and : (w : Bits) → get_or P q 0 ≡ right_kind w → get_or P q 0 ≡ 0x16 → w ≡ true
    kind_and w i k = right_kind_is w (sym i ∙ k)

    kind_or : (w : Bits) → get_or P q 0 ≡ right_kind w → (get_or P q 0 ≡ 0x16 → ⊥) → w ≡ false
    kind_or w i k = right_kind_else w (λ z. k (i ∙ z))

    enter_by : ((w : Bits) → get_or P q 0 ≡ right_kind w → acc ≡ w) → DoneLogic P acc q (record { acc = acc; q = q + 3; some = true })
    enter_by s = record { further = omega arith; goes = λ L e R N want t m. let g = right_here L e R N want t m in g.enter (s g.w g.byte) }

    skip_by : ((w : Bits) → get_or P q 0 ≡ right_kind w → w ≡ not acc) → (n : ℕ) → n ≡ number (part P (q + 1) 2) → DoneLogic P acc q (record { acc = acc; q = q + 3 + n; some = true })
    skip_by s n i =
        record {
          further = omega arith;
          goes = λ L e R N want t m. let g = right_here L e R N want t m in
              todo_to P L _ _ e R N _ _ _ _ _ _ want (ap (λ (z : ℕ). q + 3 + z) i) refl refl refl (g.skip (other g.w acc (s g.w g.byte)));
        }

    pub logic_and_enter : get_or P q 0 ≡ 0x16 → acc ≡ true → DoneLogic P acc q (record { acc = acc; q = q + 3; some = true })
    logic_and_enter k i = enter_by (λ w j. i ∙ sym (kind_and w j k))

    pub logic_and_skip : get_or P q 0 ≡ 0x16 → acc ≡ false → (n : ℕ) → n ≡ number (part P (q + 1) 2) → DoneLogic P acc q (record { acc = acc; q = q + 3 + n; some = true })
    logic_and_skip k i = skip_by (λ w j. kind_and w j k ∙ ap not (sym i))

    pub logic_or_skip : (get_or P q 0 ≡ 0x16 → ⊥) → acc ≡ true → (n : ℕ) → n ≡ number (part P (q + 1) 2) → DoneLogic P acc q (record { acc = acc; q = q + 3 + n; some = true })
    logic_or_skip k i = skip_by (λ w j. kind_or w j k ∙ ap not (sym i))

    pub logic_or_enter : (get_or P q 0 ≡ 0x16 → ⊥) → acc ≡ false → DoneLogic P acc q (record { acc = acc; q = q + 3; some = true })
    logic_or_enter k i = enter_by (λ w j. i ∙ sym (kind_or w j k))
