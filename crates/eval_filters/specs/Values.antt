-- Comparisons of values that need no query evaluated: what is asked and given of each operand, and what the comparison leaves of a filter's code. P is the plan, L the pool, S the
-- table, X the text. Assumes nothing.
use Rattle.std.specs.Prelude.{ℕ, ◌+◌, ◌-◌, ◌≤◌, ◌<◌, ◌≡◌, refl, Bool as Bits, true, false, ℤ, pos, length, get_or, Option, Some, None}
use Rattle.std.proofs.Math.Path.{sym, ap}
use Rattle.std.proofs.Common.{◌∙◌, subst, arith}
use mathlib.Core.List.{List, [], ◌∷◌}
use Rattle.definition.specs.Limits.{max_plan, max_int}
use Rattle.definition.specs.Values.{Json}
use Rattle.definition.specs.Plans.{code_segments}
use Rattle.definition.specs.Tables.{node_count, node_at}
use Rattle.definition.specs.Compare.{Value, node_value}
use Rattle.definition.specs.Evaluation.{eval_segments, only_value, first_value, length_value}
use Rattle.table_laws.specs.Accepted.{Accepted}
use Rattle.eval_laws.specs.Founds.{Found, found_count, found_first, found_none}
use Rattle.eval_laws.specs.Todos.{Todo, todo_to, todo_in, at_compare, at_length, LiteralAt, at_literal, QueryAt, at_query}
use Rattle.eval_values.specs.Alike.{Compares}
use Rattle.eval_values.specs.Means.{meaning, Fine, OfNode, length_in}
use Rattle.eval_values.specs.Values.{length_means}
use Rattle.eval_values.specs.declared.Operand.{Operand}
use Rattle.eval_values.specs.declared.Operand.TheVariants.{Nothing, Null, Int}
use Rattle.eval_items.specs.Ends.{AskLiteral, DoneLiteral}
use Rattle.eval_items.specs.EndLaws.{literal_two}
use Rattle.eval_items.specs.Leaves.{AskValue, DoneValue, begins_at}
use Rattle.eval_front.specs.Visits.{Query}
use Rattle.eval_front.specs.Fronts.{never}
use Rattle.eval_filters.specs.Queries.{Within, begins_root, begins_node}
use Rattle.eval_filters.specs.Tests.{Left, Plain, AskShort, DoneShort, compares_as}
use Rattle.eval_filters.specs.declared.Told.{Told}
use Rattle.eval_filters.specs.declared.Nodes.{Nodes}
use Rattle.eval_filters.specs.declared.values.Valued.{Valued}

-- ---- the nodes of a query

pub record AskNodes (S X : List ℕ) (n first : ℕ) : Type 0 where
  pub tab : Accepted S X
  pub inside : 0 < n → first < node_count S

-- r is the value of the only one
pub record OnlyOf (S X : List ℕ) (n first : ℕ) (r : Operand) : Type 0 where
  pub fine : (L : List ℕ) → Fine S X L r
  pub one : n ≡ 1 → (L : List ℕ) → meaning S X L r ≡ node_value (node_at S X first)
  pub other : (n ≡ 1 → ⊥) → (L : List ℕ) → meaning S X L r ≡ Value.null

-- r is the value of the first one
pub record FirstOf (S X : List ℕ) (n first : ℕ) (r : Operand) : Type 0 where
  pub fine : (L : List ℕ) → Fine S X L r
  pub some : 0 < n → (L : List ℕ) → meaning S X L r ≡ node_value (node_at S X first)
  pub none : n ≡ 0 → (L : List ℕ) → meaning S X L r ≡ Value.nothing

module _ (S X : List ℕ) (n first : ℕ) where
  pub only_one : n ≡ 1 → (v : Operand) → OfNode S X first v → OnlyOf S X n first v
  only_one e v t = record { fine = t.fine; one = λ i. t.means; other = λ i. absurd (i e) }

  pub only_null : (n ≡ 1 → ⊥) → OnlyOf S X n first Null
  only_null e = record { fine = λ L. tt; one = λ i. absurd (e i); other = λ i L. refl }

  pub first_one : 0 < n → (v : Operand) → OfNode S X first v → FirstOf S X n first v
  first_one e v t = record { fine = t.fine; some = λ i. t.means; none = λ i. absurd (omega arith) }

  pub first_nothing : n ≤ 0 → FirstOf S X n first Nothing
  first_nothing e = record { fine = λ L. tt; some = λ i. absurd (omega arith); none = λ i L. refl }

-- ---- what is asked of them

pub record AskFound (P : List ℕ) (n z : ℕ) : Type 0 where
  pub few : n ≤ max_int
  pub small : length P ≤ max_plan
  pub place : z < length P
  pub no_test : get_or P z 0 ≡ 0x18 → ⊥

pub record DoneFound (P S X : List ℕ) (n first z : ℕ) (r : Valued) : Type 0 where
  pub fine : (L : List ℕ) → Fine S X L r.v
  pub later : z ≤ r.q
  pub goes : (L : List ℕ) (q e : ℕ) (R N J : Json) (acc : Bits) (x y : Value) (want : Bits) (a : QueryAt P L q e R N acc x y want J) → z ≡ q + 1 + length (code_segments a.f a.k)
      → Found S X (eval_segments a.f J (J ∷ [])) (max_int - 1) n first → Todo P L r.q e R N acc y (meaning S X L r.v) want

module _ {S X : List ℕ} {n first : ℕ} {v : Operand} (L : List ℕ) where
  only_found : OnlyOf S X n first v → (ns : List Json) → Found S X ns (max_int - 1) n first → meaning S X L v ≡ only_value ns
  unfolding only_value first_value
  only_found t [] f = let k = f.number in t.other (λ i. absurd (omega arith)) L
  only_found t (x ∷ []) f = let k = f.number in t.one (omega arith) L ∙ sym (f.node (omega arith))
  only_found t (x ∷ y ∷ xs) f = let k = f.number in t.other (λ i. absurd (omega arith)) L

  first_found : FirstOf S X n first v → (ns : List Json) → Found S X ns (max_int - 1) n first → meaning S X L v ≡ first_value ns
  first_found t [] f = let k = f.number in let e : n ≡ 0 = omega arith in t.none e L ∙ found_none S X [] _ n first f e
  first_found t (x ∷ xs) f = let k = f.number in let e : 0 < n = omega arith in t.some e L ∙ found_first S X (x ∷ xs) _ n first f e

-- where the query ends is where the byte stands
byte_at : (P : List ℕ) (z k b : ℕ) → z ≡ k → get_or P z 0 ≡ b → get_or P k 0 ≡ b
byte_at P z k b i c = subst (λ (x : ℕ). get_or P x 0 ≡ b) i c

module _ {P S X : List ℕ} {n first z : ℕ} where
  pub found_counted : get_or P z 0 ≡ 0x19 → (v : ℤ) → v ≡ pos n → DoneFound P S X n first z (record { v = Int v; q = z + 1 })
  found_counted c v w =
      record {
        fine = λ L. tt;
        later = omega arith;
        goes = λ L q e R N J acc x y want a i f.
            todo_to P L _ (z + 1) e R N _ _ _ _ _ _ want (ap (λ (x : ℕ). x + 1) i) refl refl refl
            (a.is_count (byte_at P z _ _ i c) (Value.integer v) (ap Value.integer w ∙ found_count S X _ n first f));
      }

  pub found_valued : get_or P z 0 ≡ 0x1B → (v : Operand) → OnlyOf S X n first v → DoneFound P S X n first z (record { v = v; q = z + 1 })
  found_valued c v t =
      record {
        fine = t.fine;
        later = omega arith;
        goes = λ L q e R N J acc x y want a i f.
            todo_to P L _ (z + 1) e R N _ _ _ _ _ _ want (ap (λ (x : ℕ). x + 1) i) refl refl refl
            (a.is_value (byte_at P z _ _ i c) (meaning S X L v) (only_found L t _ f));
      }

  pub found_headed : (get_or P z 0 ≡ 0x18 → ⊥) → (get_or P z 0 ≡ 0x19 → ⊥) → (get_or P z 0 ≡ 0x1B → ⊥) → (v : Operand) → FirstOf S X n first v → DoneFound P S X n first z (record { v = v; q = z })
  found_headed c d g v t =
      record {
        fine = t.fine;
        later = omega arith;
        goes = λ L q e R N J acc x y want a i f.
            todo_to P L _ z e R N _ _ _ _ _ _ want i refl refl refl
            (a.is_first_lem (λ u. c (byte_at P _ z _ (sym i) u)) (λ u. d (byte_at P _ z _ (sym i) u)) (λ u. g (byte_at P _ z _ (sym i) u)) (meaning S X L v) (first_found L t _ f));
      }

-- ---- one operand

pub record AskOperand (P L S X : List ℕ) (root node q e : ℕ) : Type 0 where
  pub within : Within P L S X root node
  pub acc : Bits
  pub x : Value
  pub y : Value
  pub want : Bits
  pub todo : Todo P L q e (node_at S X root) (node_at S X node) acc x y want
  pub more : q < e

-- the value at q is the last one, and the last one before it the one before
pub record Operates (P L S X : List ℕ) (root node q e : ℕ) (r : Valued) : Type 0 where
  pub fine : Fine S X L r.v
  pub further : q < r.q
  pub goes : (acc : Bits) (x y : Value) (want : Bits) → Todo P L q e (node_at S X root) (node_at S X node) acc x y want → Todo P L r.q e (node_at S X root) (node_at S X node) acc y (meaning S X L r.v) want

abbrev pub DoneOperand : List ℕ → List ℕ → List ℕ → List ℕ → ℕ → ℕ → ℕ → ℕ → Option Valued → Type 0
DoneOperand P L S X root node q e None = Unit {0}
DoneOperand P L S X root node q e (Some r) = Operates P L S X root node q e r

pub operand_none : (P L S X : List ℕ) (root node q e : ℕ) → DoneOperand P L S X root node q e None
operand_none P L S X root node q e = tt

module _ {P L S X : List ℕ} {root node q e : ℕ} (a : AskOperand P L S X root node q e) where
  pub operand_in : q < length P
  operand_in = todo_in P L q e _ _ a.acc a.x a.y a.want a.todo a.more

  -- a query
  module _ (low : get_or P q 0 ≤ 2) (from : ℕ) (b : from ≡ begins_at (get_or P q 0) root node) where
    value_at : (acc : Bits) (x y : Value) (want : Bits) → Todo P L q e (node_at S X root) (node_at S X node) acc x y want → QueryAt P L q e (node_at S X root) (node_at S X node) acc x y want (node_at S X from)
    value_at acc x y want t =
        at_query P L q e (node_at S X root) (node_at S X node) acc x y want t a.more low (node_at S X from)
        (λ i. ap (node_at S X) (b ∙ begins_root _ root node i)) (λ i. ap (node_at S X) (b ∙ begins_node _ root node i))

    pub value_query : Query P L (q + 1)
    value_query = let y = value_at a.acc a.x a.y a.want a.todo in record { f = y.f; k = y.k; at = y.at }

    module _ (w : Nodes) (d : Plain P L S X from q w) where
      pub value_past : (q < w.z) × (w.z < length P)
      value_past =
          let y = value_at a.acc a.x a.y a.want a.todo in
          let h = y.bound in
          let p = d.past y.f y.k y.at in
          (omega arith, omega arith)

      pub value_asked : (get_or P w.z 0 ≡ 0x18 → ⊥) → AskFound P w.n w.z
      value_asked t =
          let y = value_at a.acc a.x a.y a.want a.todo in
          let n = (d.found y.f y.k y.at).number in
          record { few = omega arith; small = a.within.few_p; place = value_past.1; no_test = t }

      pub value_done : (r : Valued) → DoneFound P S X w.n w.first w.z r → Operates P L S X root node q e r
      value_done r g =
          let p = value_past.0 in
          let l = g.later in
          record {
            fine = g.fine L;
            further = omega arith;
            goes = λ acc x y want t. let k = value_at acc x y want t in g.goes L q e _ _ _ acc x y want k (d.past k.f k.k k.at) (d.found k.f k.k k.at);
          }

  -- a literal
  module _ (lo : 0x10 ≤ get_or P q 0) (hi : get_or P q 0 ≤ 0x13) where
    value_here : (acc : Bits) (x y : Value) (want : Bits) → Todo P L q e (node_at S X root) (node_at S X node) acc x y want → LiteralAt P L q e (node_at S X root) (node_at S X node) acc x y want
    value_here acc x y want t = at_literal P L q e _ _ acc x y want t a.more lo hi

    asked_here : LiteralAt P L q e (node_at S X root) (node_at S X node) a.acc a.x a.y a.want
    asked_here = value_here a.acc a.x a.y a.want a.todo

    pub value_literal : AskValue P L q
    value_literal = let g = asked_here in record { few = a.within.few_l; l = g.l; k = g.k; holds = g.holds; pool = g.pool; right = g.right }

    pub value_literal_past : AskLiteral P q
    value_literal_past = let g = asked_here in record { l = g.l; k = g.k; holds = g.holds }

    pub literal_operand_lem : (v : Operand) → DoneValue P L q v → (z : ℕ) → DoneLiteral P q z → Operates P L S X root node q e (record { v = v; q = z })
    literal_operand_lem v d z f =
        let h = asked_here in
        let p = f h.l h.k h.holds in
        record {
          fine = (d h.l h.k h.holds h.pool h.right).fine S X;
          further = omega (arith, literal_two h.l h.k);
          goes = λ acc x y want t. let g = value_here acc x y want t in g.then (meaning S X L v) ((d g.l g.k g.holds g.pool g.right).means S X) z (f g.l g.k g.holds);
        }

  -- one with another behind it
  module _ (r : Valued) (d : Operates P L S X root node q e r) (l : r.q < e) where
    pub operand_next : AskOperand P L S X root node r.q e
    operand_next = record { within = a.within; acc = _; x = _; y = _; want = _; todo = d.goes a.acc a.x a.y a.want a.todo; more = l }

    -- and its length
    pub operand_length : get_or P r.q 0 ≡ 0x1A → (n : ℕ) → n ≡ length_in S X L r.v → (k : ℤ) → k ≡ pos n → Operates P L S X root node q e (record { v = Int k; q = r.q + 1 })
    unfolding length_value
    operand_length c n i k j =
        record {
          fine = tt;
          further = omega (arith, d.further);
          goes = λ acc x y want t. at_length P L r.q e _ _ acc y (meaning S X L r.v) want (d.goes acc x y want t) l c (Value.integer k)
              (ap Value.integer j ∙ ap (λ (z : ℕ). Value.integer (pos z)) (i ∙ length_means S X L a.within.tab r.v d.fine));
        }

-- ---- the comparison of two

-- a test that no operator stands before
pub record AskLeft (P L S X : List ℕ) (root node q e : ℕ) : Type 0 where
  pub within : Within P L S X root node
  pub acc : Bits
  pub want : Bits
  pub todo : Left P L q e (node_at S X root) (node_at S X node) acc want
  pub more : q < e

pub test_none : {P L S X : List ℕ} {root node q e : ℕ} {r : Told} → r.some ≡ false → DoneShort P L S X root node q e r
test_none o = record { further = λ t. absurd (never (sym o ∙ t)); goes = λ t. absurd (never (sym o ∙ t)) }

module _ {P L S X : List ℕ} {root node q e : ℕ} (a : AskLeft P L S X root node q e) where
  pub test_short : get_or P q 0 ≤ 2 → AskShort P L S X root node q e
  test_short k = record { within = a.within; acc = a.acc; want = a.want; todo = a.todo; more = a.more; kind = k }

  pub test_operand_lem : AskOperand P L S X root node q e
  test_operand_lem = record { within = a.within; acc = a.acc; x = _; y = _; want = a.want; todo = a.todo; more = a.more }

  module _ (r : Valued) (d : Operates P L S X root node q e r) (u : Valued) (g : Operates P L S X root node r.q e u) (l : u.q < e) where
    both : (acc want : Bits) → Left P L q e (node_at S X root) (node_at S X node) acc want → Todo P L u.q e (node_at S X root) (node_at S X node) acc (meaning S X L r.v) (meaning S X L u.v) want
    both acc want o = g.goes acc _ _ want (d.goes acc _ _ want o)

    pub both_in : u.q < length P
    both_in = todo_in P L u.q e _ _ _ _ _ _ (both a.acc a.want a.todo) l

    module _ (c : get_or P u.q 0 ≡ 0x14) where
      pub both_operator : u.q + 1 < length P
      both_operator = (at_compare P L u.q e _ _ _ _ _ _ (both a.acc a.want a.todo) l c).bound

      pub both_done : (b : Bits) → Compares (meaning S X L r.v) (meaning S X L u.v) (get_or P (u.q + 1) 0) b → DoneShort P L S X root node q e (record { acc = b; q = u.q + 2; some = true })
      both_done b h =
          record {
            further = λ i. omega (arith, d.further, g.further);
            goes = λ i acc want o. let k = at_compare P L u.q e _ _ acc _ _ want (both acc want o) l c in k.then b (h k.o k.byte);
          }

-- two integers
pub integers_compare : (S X L : List ℕ) (x y : Operand) (op : ℕ) (b : Bits) (i j : ℤ) → x ≡ Int i → y ≡ Int j → Compares (Value.integer i) (Value.integer j) op b → Compares (meaning S X L x) (meaning S X L y) op b
integers_compare S X L x y op b i j f g c = compares_as op b (ap (meaning S X L) (sym f)) (ap (meaning S X L) (sym g)) c
