-- Two queries of names and indices, compared with each other: what is asked and given, and what the comparison leaves of a filter's code. P is the plan, L the pool,
-- S the table, X the text. Assumes nothing.
use Rattle.std.specs.Prelude.{ℕ, ◌+◌, ◌≤◌, ◌<◌, ◌≡◌, refl, Bool as Bits, true, false, ◌&&◌, length, get_or}
use Rattle.std.proofs.Common.{sym, ap, ◌∙◌, arith}
use mathlib.Core.List.{List, [], ◌∷◌}
use Rattle.definition.specs.Bytes.{part, same_bytes}
use Rattle.definition.specs.Forms.{Segments}
use Rattle.definition.specs.Forms.Operator.{eq, ne, lt, le, gt, ge}
use Rattle.definition.specs.Plans.{code_segments}
use Rattle.definition.specs.Tables.{node_count, node_at, kind_at, low_word, high_word}
use Rattle.definition.specs.Compare.{Value, node_value, compare_values, same, same_text, text_of, less, less_or_same, is_some, numbers_less, texts_less, number_of}
use Rattle.definition.specs.Evaluation.{eval_segments, first_value}
use Rattle.table_laws.specs.Accepted.{Accepted}
use Rattle.eval_laws.specs.Items.{SegmentsAt}
use Rattle.eval_laws.specs.Founds.{found_first, found_none}
use Rattle.eval_laws.specs.Todos.{Todo, todo_to, at_compare, QueryAt, at_query}
use Rattle.eval_values.specs.Alike.{Compares}
use Rattle.eval_values.specs.Same.{says_eq}
use Rattle.eval_values.specs.Means.{meaning, OfNode}
use Rattle.eval_values.specs.Values.{of_text_lem}
use Rattle.eval_values.specs.declared.Operand.{Operand}
use Rattle.eval_values.specs.declared.Operand.TheVariants.{Text}
use Rattle.eval_items.specs.Leaves.{begins_at}
use Rattle.eval_front.specs.Visits.{Query}
use Rattle.eval_front.specs.Fronts.{never}
use Rattle.eval_filters.specs.Queries.{Within, begins_root, begins_node}
use Rattle.eval_filters.specs.Tests.{Left, FirstIs, Plain, AskShort, DoneShort, compares_as, none_compares, none_same, none_below, first_is, valued, query_at, short_mode}
use Rattle.eval_filters.specs.declared.Told.{Told}
use Rattle.eval_filters.specs.declared.Nodes.{Nodes}

-- ---- two nodes

pub record AskNodes (S X : List ℕ) (m n : ℕ) : Type 0 where
  pub tab : Accepted S X
  pub first : m < node_count S
  pub second : n < node_count S

module _ {S X : List ℕ} {m n : ℕ} (a : AskNodes S X m n) (op : ℕ) (r : Bits) where
  pub nodes_done : (L : List ℕ) (v w : Operand) → OfNode S X m v → OfNode S X n w → Compares (meaning S X L v) (meaning S X L w) op r → Compares (node_value (node_at S X m)) (node_value (node_at S X n)) op r
  nodes_done L v w i j c = compares_as op r (i.means L) (j.means L) c

  module _ (k : kind_at S m ≡ 5) (h : kind_at S n ≡ 5) (x p y q : ℕ) (i : x ≡ low_word S m) (j : p ≡ high_word S m) (f : y ≡ low_word S n) (g : q ≡ high_word S n) where
    pub texts_inside : (x + p ≤ length X) × (y + q ≤ length X)
    texts_inside = (((of_text_lem S X a.tab m a.first k x p i j).fine []).0, ((of_text_lem S X a.tab n a.second h y q f g).fine []).0)

    pub texts_same : op ≡ 0 → r ≡ same_bytes (part X x p) (part X y q) → Compares (node_value (node_at S X m)) (node_value (node_at S X n)) op r
    unfolding same same_text text_of
    texts_same z e = nodes_done [] (Text x p) (Text y q) (of_text_lem S X a.tab m a.first k x p i j) (of_text_lem S X a.tab n a.second h y q f g) (says_eq _ _ op r z e)

-- ---- the first of some nodes and the first of others

and_false : (b : Bits) → false ≡ (b && false)
and_false true = refl
and_false false = refl

compares_none : (v : Value) (op : ℕ) → Compares v Value.nothing op false
unfolding compare_values same is_some less less_or_same numbers_less texts_less number_of text_of
compares_none v op eq e = sym (none_same v)
compares_none v op ne e = and_false (is_some v)
compares_none v op lt e = sym (none_below v)
compares_none v op le e = rw (none_below v, none_same v) refl
compares_none v op gt e = refl
compares_none v op ge e = refl

pub record AskFirst (S X : List ℕ) (n first k other : ℕ) : Type 0 where
  pub tab : Accepted S X
  pub inside : 0 < n → first < node_count S
  pub beside : 0 < k → other < node_count S

abbrev pub DoneFirst : List ℕ → List ℕ → ℕ → ℕ → ℕ → ℕ → ℕ → Bits → Type 0
DoneFirst S X n first k other op r = (v w : Value) → FirstIs S X n first v → FirstIs S X k other w → Compares v w op r

module _ {S X : List ℕ} {n first k other : ℕ} (op : ℕ) where
  pub first_none : n ≡ 0 → DoneFirst S X n first k other op false
  first_none e v w f g = compares_as op false (sym (f.none e)) refl (none_compares w op)

  pub second_none : k ≡ 0 → DoneFirst S X n first k other op false
  second_none e v w f g = compares_as op false refl (sym (g.none e)) (compares_none v op)

  pub both_some : (n ≡ 0 → ⊥) → (k ≡ 0 → ⊥) → (r : Bits) → Compares (node_value (node_at S X first)) (node_value (node_at S X other)) op r → DoneFirst S X n first k other op r
  both_some a b r c v w f g = compares_as op r (sym (f.some (omega arith))) (sym (g.some (omega arith))) c

-- ---- a query behind the value of another

pub record AskBeside (P L S X : List ℕ) (root node n first z e : ℕ) : Type 0 where
  pub within : Within P L S X root node
  pub inside : 0 < n → first < node_count S
  pub acc : Bits
  pub v : Value
  pub want : Bits
  pub todo : Todo P L z e (node_at S X root) (node_at S X node) acc Value.nothing v want
  pub kind : get_or P z 0 ≤ 2

pub record DoneBeside (P L S X : List ℕ) (root node n first z e : ℕ) (r : Told) : Type 0 where
  pub further : r.some ≡ true → z < r.q
  pub goes : r.some ≡ true → (acc : Bits) (v : Value) (want : Bits) → FirstIs S X n first v → Todo P L z e (node_at S X root) (node_at S X node) acc Value.nothing v want → Left P L r.q e (node_at S X root) (node_at S X node) r.acc want

pub beside_none : {P L S X : List ℕ} {root node n first z e : ℕ} {r : Told} → r.some ≡ false → DoneBeside P L S X root node n first z e r
beside_none o = record { further = λ t. absurd (never (sym o ∙ t)); goes = λ t. absurd (never (sym o ∙ t)) }

module _ {P L S X : List ℕ} {root node n first z e : ℕ} (a : AskBeside P L S X root node n first z e) (more : z < e) (from : ℕ) (b : from ≡ begins_at (get_or P z 0) root node) where
  beside_at : (acc : Bits) (v : Value) (want : Bits) → Todo P L z e (node_at S X root) (node_at S X node) acc Value.nothing v want → QueryAt P L z e (node_at S X root) (node_at S X node) acc Value.nothing v want (node_at S X from)
  beside_at acc v want t =
      at_query P L z e (node_at S X root) (node_at S X node) acc Value.nothing v want t more a.kind (node_at S X from)
      (λ i. ap (node_at S X) (b ∙ begins_root _ root node i)) (λ i. ap (node_at S X) (b ∙ begins_node _ root node i))

  pub beside_in : z < length P
  beside_in = let y = (beside_at a.acc a.v a.want a.todo).bound in omega arith

  pub beside_query : Query P L (z + 1)
  beside_query = let y = beside_at a.acc a.v a.want a.todo in record { f = y.f; k = y.k; at = y.at }

  module _ (r : Nodes) (d : Plain P L S X from z r) where
    pub beside_past : (z < r.z) × (r.z < length P)
    beside_past = let y = beside_at a.acc a.v a.want a.todo in let h = y.bound in let p = d.past y.f y.k y.at in (omega arith, omega arith)

    module _ (o : r.z < e) (c : get_or P r.z 0 ≡ 0x14) where
      beside_valued : (acc : Bits) (v : Value) (want : Bits) (t : Todo P L z e (node_at S X root) (node_at S X node) acc Value.nothing v want)
          → Todo P L r.z e (node_at S X root) (node_at S X node) acc v (first_value (eval_segments (beside_at acc v want t).f (node_at S X from) (node_at S X from ∷ []))) want
      beside_valued acc v want t =
          let y = beside_at acc v want t in
          let p = d.past y.f y.k y.at in
          let i : get_or P r.z 0 ≡ get_or P (z + 1 + length (code_segments y.f y.k)) 0 = ap (λ (x : ℕ). get_or P x 0) p in
          todo_to P L _ r.z e _ _ acc acc _ _ _ _ want p refl refl refl
          (y.is_first_lem (λ j. absurd (omega arith)) (λ j. absurd (omega arith)) (λ j. absurd (omega arith)) _ refl)

      pub beside_operator : r.z + 1 < length P
      beside_operator = (at_compare P L r.z e _ _ _ _ _ _ (beside_valued a.acc a.v a.want a.todo) o c).bound

      other_is : (f : Segments) (k : ℕ) → SegmentsAt P L (z + 1) k f → FirstIs S X r.n r.first (first_value (eval_segments f (node_at S X from) (node_at S X from ∷ [])))
      other_is f k h = let g = d.found f k h in record { none = λ i. sym (found_none S X _ _ r.n r.first g i); some = λ i. sym (found_first S X _ _ r.n r.first g i) }

      pub beside_done : (t : Bits) → DoneFirst S X n first r.n r.first (get_or P (r.z + 1) 0) t → DoneBeside P L S X root node n first z e (record { acc = t; q = r.z + 2; some = true })
      beside_done t h =
          record {
            further = λ i. omega (arith, beside_past.0);
            goes = λ i acc v want f u.
                let y = beside_at acc v want u in
                let g = at_compare P L r.z e _ _ acc v _ want (beside_valued acc v want u) o c in
                g.then t (h v _ f (other_is y.f y.k y.at) g.o g.byte);
          }

-- ---- from the first query on

module _ {P L S X : List ℕ} {root node q e : ℕ} (a : AskShort P L S X root node q e) (from : ℕ) (b : from ≡ begins_at (get_or P q 0) root node) (r : Nodes) (d : Plain P L S X from q r) (k : get_or P r.z 0 ≤ 2) where
  pub short_beside : AskBeside P L S X root node r.n r.first r.z e
  short_beside = record { within = a.within; inside = d.inside; acc = _; v = _; want = _; todo = valued a from b r d (omega arith) a.acc a.want a.todo; kind = k }

  pub beside_short : (t : Told) → DoneBeside P L S X root node r.n r.first r.z e t → DoneShort P L S X root node q e t
  beside_short t g =
      record {
        further = λ i. omega (arith, g.further i, (short_mode a from b r d).0);
        goes = λ i acc want l.
            let y = query_at a from b acc want l in
            g.goes i acc _ want (first_is a from b r d (omega arith) y.f y.k y.at) (valued a from b r d (omega arith) acc want l);
      }
