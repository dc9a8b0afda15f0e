-- A range of nodes with a test that is read once: what stands in the plan, what the functions ask and give, and that what a test of one member or its negation says,
-- what two such tests with `&&` or `||` between them say, and what the number of children says is what the whole test says. P is the plan, L the pool, S the table, X
-- the text.
-- Assumes nothing.
use Rattle.std.specs.Prelude.{ℕ, ◌+◌, ◌≤◌, ◌<◌, ◌≡◌, refl, List, Bool as Bits, true, false, not, ◌&&◌, leb, ℤ, pos, length, get_or, Option, Some, None, Ok}
use Rattle.std.proofs.Common.{sym, ◌∙◌, subst, arith, leb-true, le-leb}
use Rattle.std.proofs.lemmas.Bool.{lt-leb}
use Rattle.definition.specs.Bytes.{number, part, signed64}
use Rattle.definition.specs.Limits.{max_plan, max_nodes}
use Rattle.definition.specs.Forms.{Test}
use Rattle.definition.specs.Compare.{Value}
use Rattle.definition.specs.Tables.{node_at, child_count}
use Rattle.definition.specs.Evaluation.{eval_test}
use Rattle.basics.specs.Bools.{and_left, and_right}
use Rattle.eval_laws.specs.States.{st, push}
use Rattle.eval_laws.specs.Bytes.{holds_in}
use Rattle.eval_laws.specs.Items.{segments_in}
use Rattle.eval_laws.specs.Todos.{todo_start, todo_end}
use Rattle.eval_values.specs.Alike.{Compares}
use Rattle.eval_values.specs.declared.Operand.TheVariants.{Int}
use Rattle.eval_items.specs.LeafLaws.{literal_room, done_integer}
use Rattle.eval_items.specs.Leaves.{AskOne, DoneOne}
use Rattle.eval_front.specs.Visits.{Query, Head, AskVisit, Emitted, DoneReach}
use Rattle.eval_front.specs.Fronts.{done_found}
use Rattle.eval_front.specs.Turns.{visit_lost, visit_end}
use Rattle.eval_filters.specs.Queries.{Within, begins_node}
use Rattle.eval_filters.specs.Tests.{Left, AskShort, DoneShort, AskLogic, DoneLogic, logic_not, logic_and_enter, logic_and_skip, logic_or_enter, logic_or_skip, short_query}
use Rattle.eval_filters.specs.Children.{Star, AskCount, DoneCount, count_done, AskCounting, AskCounted, counting_counted, counting_done, counted_value, counted_done}
pub use Rattle.eval_filters.specs.Kept.{DoneRange}
use Rattle.eval_filters.specs.Kept.{Tested, AskTest, DoneTest, AskKept, InKept}
use Rattle.eval_filters.specs.Atoms.{AskCode, AtomAt, AgainstAt, NameAt, tells, start_here, name_lost, name_reached, name_one}
use Rattle.eval_filters.specs.declared.atoms.Atom.{Atom}
use Rattle.eval_filters.specs.declared.kept.Pair.{Pair}

-- ---- what follows a test

-- by the number that stands for it: nothing, or one name at the end of the query; 2 for everything else
pub record TailAt (P : List ℕ) (rest r : ℕ) : Type 0 where
  pub ends : r ≡ 0 → get_or P rest 0 ≡ 0x0A
  pub names : r ≡ 1 → NameAt P rest

pub tail_end : {P : List ℕ} {rest : ℕ} → get_or P rest 0 ≡ 0x0A → TailAt P rest 0
tail_end e = record { ends = λ i. e; names = λ i. absurd (omega arith) }

pub tail_name : {P : List ℕ} {rest : ℕ} → NameAt P rest → TailAt P rest 1
tail_name n = record { ends = λ i. absurd (omega arith); names = λ i. n }

pub tail_other : {P : List ℕ} {rest : ℕ} → TailAt P rest 2
tail_other = record { ends = λ i. absurd (omega arith); names = λ i. absurd (omega arith) }

pub tail_named : {P : List ℕ} {rest tail : ℕ} → TailAt P rest tail → tail ≤ 1 → (tail ≡ 0 → ⊥) → NameAt P rest
tail_named d h n = d.names (omega arith)

pub tail_one : {P L S X : List ℕ} {node rest len at cap : ℕ} → AskVisit P L S X node rest len at cap → NameAt P rest → AskOne P L S X (rest + 3) node 5 5
tail_one a n = name_one a.given a.node_in a.query n

-- a node with what follows, and nothing left to do
abbrev pub DonePushed : List ℕ → List ℕ → List ℕ → List ℕ → ℕ → ℕ → ℕ → List ℕ → ℕ → List ℕ → ℕ → Type 0
DonePushed P L S X node rest cap l at l' r = Emitted P L S X node rest cap l at l' r

module _ {P L S X : List ℕ} {node rest len at cap : ℕ} (a : AskVisit P L S X node rest len at cap) (l : List ℕ) where
  reached_here : DoneReach P L S X node rest (record { node = Ok node; pc = rest })
  reached_here = done_found (start_here a.node_in a.query)

  pub pushed_end : get_or P rest 0 ≡ 0x0A → (l' : List ℕ) (r : ℕ) → st cap l' r ≡ push node (st cap l at) → DonePushed P L S X node rest cap l at l' r
  pushed_end e l' r p = visit_end reached_here cap l at refl a.given.tab e l' r p

  module _ (n : NameAt P rest) (r : Option ℕ) (o : DoneOne P L S X (rest + 3) node r) where
    pub pushed_lost : r ≡ None → DonePushed P L S X node rest cap l at l at
    pushed_lost e = visit_lost (name_lost a.given a.node_in a.query n r o e) cap l at refl a.room

    pub pushed_name : (m : ℕ) → r ≡ Some m → (l' : List ℕ) (k : ℕ) → st cap l' k ≡ push m (st cap l at) → DonePushed P L S X node rest cap l at l' k
    pushed_name m e l' k p = visit_end (name_reached a.given a.node_in a.query n r o m e) cap l at refl a.given.tab n.end_is l' k p

-- ---- one test, or two with an operator between them

-- `&&` or `||` at q, and behind it a test of one member that ends at z
pub record JoinedAt (P : List ℕ) (q z join : ℕ) (u : Atom) : Type 0 where
  pub more : q < z
  pub low : 0x16 ≤ join
  pub high : join ≤ 0x17
  pub byte : get_or P q 0 ≡ join
  pub ends : q + 3 + number (part P (q + 1) 2) ≡ z
  pub right : AtomAt P (q + 3) z u
  pub next : u.next ≡ z

-- an operator that joins two tests: it is there, and is not `!`
abbrev pub Joins : ℕ → Type 0
Joins join = (join ≡ 0 → ⊥) × (join ≡ 0x15 → ⊥)

-- the test from p up to z: one test of a member, its negation, or with another
pub record PairAt (P : List ℕ) (p z : ℕ) (t : Atom) (join : ℕ) (u : Atom) : Type 0 where
  pub left : AtomAt P p z t
  pub alone : join ≡ 0 → t.next ≡ z
  pub negated : join ≡ 0x15 → (get_or P t.next 0 ≡ 0x15) × (t.next + 1 ≡ z)
  pub joined : Joins join → JoinedAt P t.next z join u

module _ {P L S X : List ℕ} {root node p z : ℕ} (w : Within P L S X root node) where
  -- at the beginning of a test
  starts : (x : Test) (k : ℕ) → Tested P L p z x k → Left P L p z (node_at S X root) (node_at S X node) false (eval_test x (node_at S X root) (node_at S X node))
  starts x k h = todo_start P L p z k (node_at S X root) (node_at S X node) false Value.nothing Value.nothing x h.test h.place

  pub first_asked : AskTest P L p z → p < z → get_or P p 0 ≤ 2 → AskShort P L S X root node p z
  first_asked a m k = record { within = w; acc = false; want = _; todo = starts a.t a.k a.stands; more = m; kind = k }

  pub pair_asked : {t u : Atom} {join : ℕ} → AskTest P L p z → PairAt P p z t join u → AskShort P L S X root node p z
  pair_asked a g = let m = g.left.more in let c = g.left.current in first_asked a (omega arith) (omega arith)

  pub pair_room : {t u : Atom} {join : ℕ} → PairAt P p z t join u → Joins join → t.next + 3 < max_plan
  pair_room g o = let h = w.few_p in omega (arith, (g.joined o).right.room)

  -- a test that is the whole
  pub tested : (r : Bits) (n : ℕ) → DoneShort P L S X root node p z (tells r n) → n ≡ z → DoneTest P L S X root node p z r
  tested r n d e x k h = todo_end P L n z _ _ r _ _ _ (d.goes refl false _ (starts x k h)) (omega arith)

  -- the negation of a test
  pub not_told : {t u : Atom} {join : ℕ} (g : PairAt P p z t join u) (b : Bits) → DoneShort P L S X root node p z (tells b t.next) → join ≡ 0x15 → (r : Bits) → r ≡ not b → DoneTest P L S X root node p z r
  not_told {t} g b d j r i x k h =
      let y = g.negated j in
      let y1 = y.1 in
      let f = d.goes refl false _ (starts x k h) in
      let l = logic_not (record { few = w.few_p; L = L; e = z; R = _; N = _; want = _; todo = f; more = omega arith; low = omega (arith, y.0); high = omega (arith, y.0) }) y.0 in
      i ∙ todo_end P L (t.next + 1) z _ _ (not b) _ _ _ (l.goes L z _ _ _ f (omega arith)) (omega arith)

  module _ {t u : Atom} {join : ℕ} (g : PairAt P p z t join u) (b : Bits) (d : DoneShort P L S X root node p z (tells b t.next)) (o : Joins join) where
    here : JoinedAt P t.next z join u
    here = g.joined o

    behind : (x : Test) (k : ℕ) → Tested P L p z x k → Left P L t.next z (node_at S X root) (node_at S X node) b (eval_test x (node_at S X root) (node_at S X node))
    behind x k h = d.goes refl false _ (starts x k h)

    logic : (x : Test) (k : ℕ) → Tested P L p z x k → AskLogic P b t.next
    logic x k h =
        let j = here in
        let y = j.byte in
        record { few = w.few_p; L = L; e = z; R = _; N = _; want = _; todo = behind x k h; more = j.more; low = omega (arith, j.low); high = omega (arith, j.high) }

    not_not : get_or P t.next 0 ≡ 0x15 → ⊥
    not_not e = let j = here.byte in omega (arith, here.low)

    -- the right operand is skipped
    skipped : (x : Test) (k : ℕ) (h : Tested P L p z x k) → DoneLogic P b t.next (record { acc = b; q = t.next + 3 + number (part P (t.next + 1) 2); some = true }) → b ≡ eval_test x (node_at S X root) (node_at S X node)
    skipped x k h y = let e = here.ends in todo_end P L _ z _ _ b _ _ _ (y.goes L z _ _ _ (behind x k h) here.more) (omega arith)

    pub and_false : join ≡ 0x16 → b ≡ false → DoneTest P L S X root node p z false
    and_false j i x k h = sym i ∙ skipped x k h (logic_and_skip (logic x k h) not_not (here.byte ∙ j) i _ refl)

    pub or_true : (join ≡ 0x16 → ⊥) → b ≡ true → DoneTest P L S X root node p z true
    or_true j i x k h = sym i ∙ skipped x k h (logic_or_skip (logic x k h) not_not (λ e. j (sym here.byte ∙ e)) i _ refl)

    -- it is entered
    module _ (enters : (x : Test) (k : ℕ) → Tested P L p z x k → DoneLogic P b t.next (record { acc = b; q = t.next + 3; some = true })) where
      inside : (x : Test) (k : ℕ) → Tested P L p z x k → Left P L (t.next + 3) z (node_at S X root) (node_at S X node) b (eval_test x (node_at S X root) (node_at S X node))
      inside x k h = (enters x k h).goes L z _ _ _ (behind x k h) here.more

      entered_asked : AskTest P L p z → AskShort P L S X root node (t.next + 3) z
      entered_asked a =
          let y = here.right in
          let c = y.current in
          let m = y.more in
          record { within = w; acc = b; want = _; todo = inside a.t a.k a.stands; more = omega arith; kind = omega arith }

      entered : (r : Bits) → DoneShort P L S X root node (t.next + 3) z (tells r u.next) → DoneTest P L S X root node p z r
      entered r y x k h = let e = here.next in todo_end P L u.next z _ _ r _ _ _ (y.goes refl b _ (inside x k h)) (omega arith)

    and_enters : join ≡ 0x16 → b ≡ true → (x : Test) (k : ℕ) → Tested P L p z x k → DoneLogic P b t.next (record { acc = b; q = t.next + 3; some = true })
    and_enters j i x k h = logic_and_enter (logic x k h) not_not (here.byte ∙ j) i

    or_enters : (join ≡ 0x16 → ⊥) → b ≡ false → (x : Test) (k : ℕ) → Tested P L p z x k → DoneLogic P b t.next (record { acc = b; q = t.next + 3; some = true })
    or_enters j i x k h = logic_or_enter (logic x k h) not_not (λ e. j (sym here.byte ∙ e)) i

    pub and_asked : join ≡ 0x16 → b ≡ true → AskTest P L p z → AskShort P L S X root node (t.next + 3) z
    and_asked j i = entered_asked (and_enters j i)

    pub and_done : join ≡ 0x16 → b ≡ true → (r : Bits) → DoneShort P L S X root node (t.next + 3) z (tells r u.next) → DoneTest P L S X root node p z r
    and_done j i = entered (and_enters j i)

    pub or_asked : (join ≡ 0x16 → ⊥) → b ≡ false → AskTest P L p z → AskShort P L S X root node (t.next + 3) z
    or_asked j i = entered_asked (or_enters j i)

    pub or_done : (join ≡ 0x16 → ⊥) → b ≡ false → (r : Bits) → DoneShort P L S X root node (t.next + 3) z (tells r u.next) → DoneTest P L S X root node p z r
    or_done j i = entered (or_enters j i)

-- ---- the number of children

-- the test from p up to z: the number of all children of a node and a literal, with the operator between them
pub record CountsAt (P : List ℕ) (p z op : ℕ) : Type 0 where
  pub current : get_or P p 0 ≡ 2
  pub star : Star P (p + 1)
  pub count : get_or P (p + 1 + 5) 0 ≡ 0x19
  pub integer_is : get_or P (p + 1 + 6) 0 ≡ 0x10
  pub against : AgainstAt P (p + 1 + 6) z op z
  pub room : p + 1 + 6 < length P

module _ {P L S X : List ℕ} {root node p z op : ℕ} (w : Within P L S X root node) (a : AskTest P L p z) (g : CountsAt P p z op) (n : ℕ) (c : n ≡ child_count S node) where
  count_first : AskShort P L S X root node p z
  count_first = let m = g.against.more in let e = g.current in first_asked w a (omega arith) (omega arith)

  counting : AskCounting P L S X root node node p node (p + 1)
  counting =
      let q = count_query in
      let i = start_here w.node_in q in
      record { begins = sym (begins_node _ root node g.current); reach = done_found i }
    where
      count_query : Query P L (p + 1)
      count_query = short_query count_first node (sym (begins_node _ root node g.current))

  counted : AskCounted P L S X n (p + 1 + 6) z
  counted = counting_counted count_first counting g.star g.count n c

  count_asked : AskCount P L S X n (p + 1 + 6)
  count_asked = let y = g.against in record { tab = w.tab; few = counted.few; literal = counted_value counted y.more y.low y.high }

  count_told : (r : Bits) → DoneCount P L n (p + 1 + 6) op r → DoneTest P L S X root node p z r
  count_told r d =
      let y = g.against in
      let e = y.next_is in
      let f : DoneCount P L n (p + 1 + 6) (get_or P (y.w + 1) 0) r = subst (λ (o : ℕ). DoneCount P L n (p + 1 + 6) o r) y.op_is d in
      tested w r _ (counting_done count_first counting g.star g.count n c _ (counted_done counted y.more y.low y.high y.w y.past y.inside y.compare_is r f)) (sym e)

  -- the integer is there to be read
  pub count_bound : p + 1 + 6 + 9 ≤ length P
  count_bound = (literal_room P L (p + 1 + 6) count_asked.literal).of_integer_lem g.integer_is

  pub count_small : n ≤ max_nodes
  count_small = counted.few

  pub count_ints : (op' : ℕ) → op' ≡ op → (v y : ℤ) → v ≡ pos n → y ≡ signed64 (number (part P (p + 1 + 6 + 1) 8)) → (r : Bits) → Compares (Value.integer v) (Value.integer y) op' r → DoneTest P L S X root node p z r
  count_ints op' o v y i j r d =
      count_told r (subst (λ (x : ℕ). DoneCount P L n (p + 1 + 6) x r) o (count_done P L S X n (p + 1 + 6) op' r v i (Int y) (done_integer P L (p + 1 + 6) g.integer_is y j) d))

-- ---- a whole range

-- the next node of the loop
pub kept_within : {P L S X : List ℕ} {root i e p z rest at cap : ℕ} {l₀ : List ℕ} {a₀ : ℕ} {l : List ℕ} {a j : ℕ} → AskKept P L S X root i e rest (length l₀) at cap → InKept P L S X root i e p z rest cap l₀ a₀ l a j → j < e → Within P L S X root j
kept_within s i u = let b = i.low in record { few_p = s.given.few_p; few_l = s.given.few_l; tab = s.given.tab; root_in = s.root_in; node_in = omega (arith, s.range (omega arith)) }

pub kept_visit : {P L S X : List ℕ} {root i e p z rest at cap : ℕ} {l₀ : List ℕ} {a₀ : ℕ} {l : List ℕ} {a j : ℕ} → AskKept P L S X root i e rest (length l₀) at cap → InKept P L S X root i e p z rest cap l₀ a₀ l a j → j < e → AskVisit P L S X j rest (length l) a cap
kept_visit s i u = let b = i.low in record { given = s.given; node_in = omega (arith, s.range (omega arith)); query = s.query; room = i.room; wide = omega (arith, i.same, s.wide); small = s.small }

-- where a test stands, its code may be read
pub test_code : {P L : List ℕ} {p z : ℕ} → length P ≤ max_plan → AskTest P L p z → AskCode P p z
test_code {P} {L} {p} {z} few a =
    let h = holds_in P p _ a.stands.test.holds in
    let e = a.stands.place in
    record { few = few; inside = omega arith; near = omega arith }

-- ---- what is read

pub record AskTail (P : List ℕ) (rest : ℕ) : Type 0 where
  pub few : length P ≤ max_plan
  pub inside : rest < length P

pub tail_asked : {P L : List ℕ} {rest : ℕ} → length P ≤ max_plan → Query P L rest → AskTail P rest
tail_asked {P} {L} few q = record { few = few; inside = segments_in P L _ q.k q.f q.at }

unfoldable pub join_kind : ℕ → Bits
join_kind k = leb 0x16 k && leb k 0x17

pub join_below : (k : ℕ) → k < 0x16 → false ≡ join_kind k
unfolding join_kind
join_below k h = rw (lt-leb 0x16 k h)

pub join_from : (k : ℕ) → 0x16 ≤ k → leb k 0x17 ≡ join_kind k
unfolding join_kind
join_from k h = rw (le-leb 0x16 k h)

pub join_kind_lem : (k : ℕ) → join_kind k ≡ true → (0x16 ≤ k) × (k ≤ 0x17)
unfolding join_kind
join_kind_lem k e = (leb-true 0x16 k (and_left (leb 0x16 k) (leb k 0x17) e), leb-true k 0x17 (and_right (leb 0x16 k) (leb k 0x17) e))

abbrev pub DonePair : List ℕ → ℕ → ℕ → Option Pair → Type 0
DonePair P p z None = Unit {0}
DonePair P p z (Some r) = PairAt P p z r.left r.join r.right

pub record JoinedTo (P : List ℕ) (left : Atom) (q z : ℕ) (r : Pair) : Type 0 where
  pub same : r.left ≡ left
  pub other : r.join ≡ 0 → ⊥
  pub negated : r.join ≡ 0x15 → (get_or P q 0 ≡ 0x15) × (q + 1 ≡ z)
  pub joined : Joins r.join → JoinedAt P q z r.join r.right

abbrev pub DoneJoined : List ℕ → Atom → ℕ → ℕ → Option Pair → Type 0
DoneJoined P left q z None = Unit {0}
DoneJoined P left q z (Some r) = JoinedTo P left q z r

-- the first test with what was read behind it
pub pair_joined : {P : List ℕ} {p z : ℕ} {left : Atom} (r : Option Pair) → AtomAt P p z left → DoneJoined P left left.next z r → DonePair P p z r
pair_joined None a d = tt
pair_joined {P} {p} {z} {left} (Some r) a y =
    record {
      left = subst (λ (t : Atom). AtomAt P p z t) (sym y.same) a;
      alone = λ i. absurd (y.other i);
      negated = λ i. subst (λ (t : Atom). (get_or P t.next 0 ≡ 0x15) × (t.next + 1 ≡ z)) (sym y.same) (y.negated i);
      joined = λ i. subst (λ (t : Atom). JoinedAt P t.next z r.join r.right) (sym y.same) (y.joined i);
    }

pub pair_alone : {P : List ℕ} {p z : ℕ} {left right : Atom} → AtomAt P p z left → left.next ≡ z → PairAt P p z left 0 right
pair_alone a d = record { left = a; alone = λ i. d; negated = λ i. absurd (omega arith); joined = λ i. absurd (i.0 refl) }

abbrev pub DoneCounts : List ℕ → ℕ → ℕ → Option ℕ → Type 0
DoneCounts P p z None = Unit {0}
DoneCounts P p z (Some op) = CountsAt P p z op

pub none_counts : (P : List ℕ) (p z : ℕ) → DoneCounts P p z None
none_counts P p z = tt

pub counts_at : {P : List ℕ} {p z op next : ℕ} → get_or P p 0 ≡ 2 → Head P (p + 1) 8 → get_or P (p + 1 + 4) 0 ≡ 0x0A → get_or P (p + 1 + 5) 0 ≡ 0x19 → get_or P (p + 1 + 6) 0 ≡ 0x10 → AgainstAt P (p + 1 + 6) z op next → next ≡ z → p + 1 + 6 < length P → CountsAt P p z op
counts_at {P} {p} {z} {op} {next} a h b c i d e r =
    record {
      current = a;
      star = record { child_is = h.child; alone = h.alone; wildcard_is = h.kind_is; end_is = b };
      count = c;
      integer_is = i;
      against = subst (λ (n : ℕ). AgainstAt P (p + 1 + 6) z op n) e d;
      room = r;
    }
