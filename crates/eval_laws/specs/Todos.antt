-- What is left of a test's code to do with two registers, and how each kind of byte takes it further. One law serves all items (`done`), one all operations (`at_operation`), one all that is asked of a query (`query_then`).
-- Assumes nothing.
use Prim.Native.Nat.{ℕ, suc, ◌+◌, ◌≤◌, ◌<◌}
use Rattle.std.specs.Prelude.{◌≡◌, ◌⊎◌, Bool, not, get_or}
use Rattle.std.proofs.Math.Path.{refl, sym, ap, subst}
use Rattle.std.proofs.Common.{◌∙◌, inl, inr, arith}
use mathlib.Core.List.{List, [], ◌∷◌, ◌++◌}
use Rattle.std.proofs.Math.Bool.{true, false}
use Rattle.std.proofs.Math.ListN.{length, drop, length-append}
use borrow.Author.Tests.{ne_eqb}
use Rattle.regex_definition.specs.Scope.{Scope}
use Rattle.definition.specs.Bytes.{part, number}
use Rattle.definition.specs.Limits.{max_plan}
use Rattle.definition.specs.Values.{Json}
use Rattle.definition.specs.Compare.{Value, compare_values}
use Rattle.definition.specs.Compare.Value.{nothing}
use Rattle.definition.specs.Regexps.{regex_values}
use Rattle.definition.specs.Forms.{Literal, Operator, Start, Segments, Test}
use Rattle.definition.specs.Forms.Start.{root, current}
use Rattle.definition.specs.Forms.Query.{query}
use Rattle.definition.specs.QueryForms.{literal_right, query_right}
use Rattle.definition.specs.Plans.{start_kind, operator_byte, scope_kind, code_literal, framed, pool_literal, pool_query, pool_test, code_query, code_segments, code_test}
use Rattle.definition.specs.Evaluation.{is_found, first_value, only_value, literal_value, count_value, length_value, truth, eval_query, eval_segments, eval_test}
use Rattle.eval_laws.specs.Bytes.{Holds, holds_in, holds_first, holds_second, holds_head, holds_tail}
use Rattle.eval_laws.specs.Items.{SegmentsAt, TestAt, framed_at, framed_long}
use Rattle.eval_laws.specs.Operations.{Result, Does, Operation, Ask, Op, Held, held, table, OfKind, asked, ask_of, test_ops, right_kind, pool_op, code_op, kind, op_right, joined, does, takes, result, put, result_by, effect}
use Rattle.eval_laws.specs.Operations.Result.{a_value, an_answer}
use Rattle.eval_laws.specs.Operations.Does.{takes_none}
use Rattle.eval_laws.specs.Operations.Operation.{length_op, truth_op, not_op, compare_op, regex_op}
use Rattle.eval_laws.specs.Operations.Ask.{for_test, for_count, for_value, for_first}
use Rattle.eval_laws.specs.Operations.Op.{query_op, literal_op, right_op, plain_op}
use Rattle.eval_laws.specs.ComesTo.{Fits, Next, AskBehind, Behind, ItemAt, ComesTo, comes_at, comes_test}
use Rattle.eval_laws.specs.Kinds.{op_head, op_some, last_by, of_kind, regex_kind_lem, Shape, shape}
use Rattle.eval_laws.specs.Kinds.Shape.{query_is, literal_is, right_is, plain_is}
use Rattle.eval_laws.specs.Registers.{Tops, enough, result_is, lower, tops_by, tops_none}

-- From q up to e some items are left, and from the answer and the stack that stands in the registers they give what is wanted.
pub record Todo (P L : List ℕ) (q e : ℕ) (R N : Json) (acc : Bool) (x y : Value) (want : Bool) : Type 0 where
  pub K : List Op
  pub k : ℕ
  pub st : List Value
  pub tops : Tops x y st
  pub comes : ComesTo P L e R N want K q k (held acc st)

-- ---- the beginning of a test, and its end

pub todo_start : (P L : List ℕ) (p e k : ℕ) (R N : Json) (acc : Bool) (x y : Value) (t : Test) → TestAt P L p k t → e ≡ p + length (code_test t k) → Todo P L p e R N acc x y (eval_test t R N)
unfolding ComesTo Tops
todo_start P L p e k R N acc x y t a l = record { K = test_ops t []; k = k; st = []; tops = tt; comes = comes_test P L e R N (eval_test t R N) t [] p k acc a (sym l, refl) }

-- what is left ends at e
comes_ends : (P L : List ℕ) (e : ℕ) (R N : Json) (want : Bool) (K : List Op) (q k : ℕ) (s : Held) → ComesTo P L e R N want K q k s → q ≤ e
unfolding ComesTo
comes_ends P L e R N want [] q k s l = let z = l.0 in omega arith
comes_ends P L e R N want (o ∷ K) q k s l = let z = comes_ends P L e R N want K _ _ _ l.1 in omega arith

-- and lies in the plan
comes_inside : (P L : List ℕ) (e : ℕ) (R N : Json) (want : Bool) (K : List Op) (q k : ℕ) (s : Held) → ComesTo P L e R N want K q k s → q ≤ length P → e ≤ length P
unfolding ComesTo
comes_inside P L e R N want [] q k s l m = let z = l.0 in omega arith
comes_inside P L e R N want (o ∷ K) q k s l m = comes_inside P L e R N want K _ _ _ l.1 (holds_in P q (code_op o k) l.0.holds)

end_by : (P L : List ℕ) (e : ℕ) (R N : Json) (want : Bool) (K : List Op) (q k : ℕ) (s : Held) → ComesTo P L e R N want K q k s → e ≤ q → s.acc ≡ want
unfolding ComesTo
end_by P L e R N want [] q k s l m = l.1
end_by P L e R N want (o ∷ K) q k s l m = let z = comes_ends P L e R N want K _ _ _ l.1 in let n = op_some o k in absurd (omega arith)

pub todo_end : (P L : List ℕ) (q e : ℕ) (R N : Json) (acc : Bool) (x y : Value) (want : Bool) → Todo P L q e R N acc x y want → e ≤ q → acc ≡ want
todo_end P L q e R N acc x y want d l = end_by P L e R N want d.K q d.k (held acc d.st) d.comes l

-- ---- what is left, taken apart: the first item and the others

record Cons (P L : List ℕ) (q e : ℕ) (R N : Json) (acc : Bool) (x y : Value) (want : Bool) : Type 0 where
  o : Op
  K : List Op
  k : ℕ
  st : List Value
  tops : Tops x y st
  here : ItemAt P L R N q k (held acc st) o K
  others : ComesTo P L e R N want K (q + length (code_op o k)) (k + length (pool_op o)) (effect (does o R N) (held acc st))

-- the byte behind a query says what is asked of it
ask_byte : (P L : List ℕ) (e : ℕ) (R N : Json) (want : Bool) (m : Ask) (K : List Op) (z k : ℕ) (s : Held) → Holds P z (asked m).bytes → AskBehind m K → ComesTo P L e R N want K (z + length (asked m).bytes) k s
    → (z < length P) × (ask_of (get_or P z 0) ≡ m)
unfolding AskBehind Next ComesTo
ask_byte P L e R N want for_test K z k s h b l = let w = holds_head P z _ _ h in (w.0, rw w.1)
ask_byte P L e R N want for_count K z k s h b l = let w = holds_head P z _ _ h in (w.0, rw w.1)
ask_byte P L e R N want for_value K z k s h b l = let w = holds_head P z _ _ h in (w.0, rw w.1)
ask_byte P L e R N want for_first [] z k s h b l = absurd b
ask_byte P L e R N want for_first (o ∷ K) z k s h b l =
    let w = op_head o k P (z + 0) l.0.holds in
    let i : z + 0 ≡ z = omega arith in
    (omega arith, ap ask_of (ap (λ (n : ℕ). get_or P n 0) (sym i) ∙ w.1) ∙ b)

module _ (P L : List ℕ) (q e : ℕ) (R N : Json) (acc : Bool) (x y : Value) (want : Bool) where
  cons_by : (K : List Op) (k : ℕ) (st : List Value) → Tops x y st → ComesTo P L e R N want K q k (held acc st) → q < e → Cons P L q e R N acc x y want
  unfolding ComesTo
  cons_by [] k st t l m = let z = l.0 in absurd (omega arith)
  cons_by (o ∷ K) k st t l m = record { o = o; K = K; k = k; st = st; tops = t; here = l.0; others = l.1 }

  uncons : Todo P L q e R N acc x y want → q < e → Cons P L q e R N acc x y want
  uncons d l = cons_by d.K d.k d.st d.tops d.comes l

  byte_of : (c : Cons P L q e R N acc x y want) → get_or P q 0 ≡ kind c.o
  byte_of c = (op_head c.o c.k P q c.here.holds).1

  pub todo_in : Todo P L q e R N acc x y want → q < e → q < length P
  todo_in d l = let c = uncons d l in (op_head c.o c.k P q c.here.holds).0

  pub todo_inside : Todo P L q e R N acc x y want → q < e → e ≤ length P
  todo_inside d l = comes_inside P L e R N want d.K q d.k (held acc d.st) d.comes (omega (arith, todo_in d l))

  -- ---- an item done

  -- what is left behind a value, and behind an answer, where the registers hold nothing that is needed
  unfoldable pub After : Result → Does → ℕ → Type 0
  After (a_value v) d q' = Todo P L q' e R N acc (lower d x y) v want
  After (an_answer b) d q' = (u v : Value) → Todo P L q' e R N b u v want

  after_by : (g : Result) (d : Does) (q' : ℕ) (K : List Op) (k : ℕ) (st : List Value) → Tops x y st → Fits g (takes d) st → ComesTo P L e R N want K q' k (put g acc (drop (takes d) st)) → After g d q'
  unfolding After Fits put
  after_by (a_value v) d q' K k st t f l = record { K = K; k = k; st = v ∷ drop (takes d) st; tops = tops_by d x y v st t f; comes = l }
  after_by (an_answer b) d q' K k st t f l = λ u v. record { K = K; k = k; st = drop (takes d) st; tops = tops_none u v (takes d) st f; comes = l }

  -- One law for all items: what it does on the registers it does on the stack.
  done : (c : Cons P L q e R N acc x y want) (d : Does) → does c.o R N ≡ d → (g : Result) → g ≡ result d acc x y → (q' : ℕ) → q' ≡ q + length (code_op c.o c.k) → After g d q'
  unfolding effect
  done c d i g u q' z =
      let st = c.st in
      let f : Fits (result_by d (held acc st)) (takes d) st = subst (λ (w : Does). Fits (result_by w (held acc st)) (takes w) st) i c.here.fits in
      let j : result_by d (held acc st) ≡ g = result_is d acc x y st c.tops (enough _ _ st f) ∙ sym u in
      let m : effect (does c.o R N) (held acc st) ≡ put g acc (drop (takes d) st) = ap (λ (w : Does). effect w (held acc st)) i ∙ ap (λ (w : Result). put w acc (drop (takes d) st)) j in
      let l = subst (λ (s : Held). ComesTo P L e R N want c.K (q + length (code_op c.o c.k)) (c.k + length (pool_op c.o)) s) m c.others in
      after_by g d q' c.K (c.k + length (pool_op c.o)) st c.tops (subst (λ (w : Result). Fits w (takes d) st) j f) (comes_at P L e R N want c.K _ q' _ _ _ z refl l)

  -- ---- an operation: what its line of the table says

  record Operated (o : Operation) : Type 0 where
    holds : Holds P q ((table o).kind ∷ (table o).body)
    then : (g : Result) → g ≡ result (table o).does acc x y → (q' : ℕ) → q' ≡ q + 1 + length (table o).body → After g (table o).does q'

  operated : (c : Cons P L q e R N acc x y want) (o : Operation) → c.o ≡ plain_op o → Operated o
  unfolding code_op does
  operated c o i =
      let n : length (code_op c.o c.k) ≡ suc (length (table o).body) = ap (λ (z : Op). length (code_op z c.k)) i in
      record {
        holds = subst (λ (z : Op). Holds P q (code_op z c.k)) i c.here.holds;
        then = λ g u q' z. done c (table o).does (ap (λ (z : Op). does z R N) i) g u q' (omega arith);
      }

  record Standing : Type 0 where
    o : Operation
    of_kind : OfKind (get_or P q 0) o
    is : Operated o

  at_operation : Todo P L q e R N acc x y want → q < e → 0x14 ≤ get_or P q 0 → (get_or P q 0 ≤ 0x15) ⊎ (0x18 ≤ get_or P q 0) → Standing
  at_operation d l lo hi = let c = uncons d l in go c hi (shape c.o) (byte_of c)
    where
      go : (c : Cons P L q e R N acc x y want) → (get_or P q 0 ≤ 0x15) ⊎ (0x18 ≤ get_or P q 0) → Shape c.o → get_or P q 0 ≡ kind c.o → Standing
      go c h (query_is m s f i a b) k = absurd (omega arith)
      go c h (literal_is j i a b) k = absurd (omega arith)
      go c (inl h) (right_is w t i r a b) k = absurd (omega arith)
      go c (inr h) (right_is w t i r a b) k = absurd (omega arith)
      go c h (plain_is o i r a b) k = record { o = o; of_kind = subst (λ (z : ℕ). OfKind z o) (sym (k ∙ r)) (of_kind o); is = operated c o i }

  -- ---- the operations in turn

  pub record Compared : Type 0 where
    pub o : Operator
    pub bound : q + 1 < length P
    pub byte : operator_byte o ≡ get_or P (q + 1) 0
    pub then : (b : Bool) → b ≡ compare_values o x y → Todo P L (q + 2) e R N b nothing nothing want

  pub at_compare : Todo P L q e R N acc x y want → q < e → get_or P q 0 ≡ 0x14 → Compared
  unfolding table After result
  at_compare d l z =
      let s = at_operation d l (omega arith) (inl (omega arith)) in
      let t : (c : Operator) × (s.o ≡ compare_op c) = subst (λ (k : ℕ). OfKind k s.o) z s.of_kind in
      let w : Operated (compare_op t.0) = subst Operated t.1 s.is in
      let h = holds_head P (q + 1) _ _ (holds_tail P q _ _ w.holds) in
      record { o = t.0; bound = h.0; byte = sym h.1; then = λ b t. w.then (an_answer b) (ap an_answer t) (q + 2) (omega arith) nothing nothing }

  pub record Matched : Type 0 where
    pub scope : Scope
    pub byte : scope_kind scope ≡ get_or P q 0
    pub then : (b : Bool) → b ≡ regex_values scope x y → Todo P L (q + 1) e R N b nothing nothing want

  matched : (s : Scope) → Operated (regex_op s) → Matched
  unfolding table After result
  matched s w = record { scope = s; byte = sym (holds_head P q (scope_kind s) [] w.holds).1; then = λ b t. w.then (an_answer b) (ap an_answer t) (q + 1) (omega arith) nothing nothing }

  pub at_regex : Todo P L q e R N acc x y want → q < e → 0x1C ≤ get_or P q 0 → get_or P q 0 ≤ 0x1D → Matched
  at_regex d l lo hi =
      let s = at_operation d l (omega arith) (inr (omega arith)) in
      let t = regex_kind_lem (get_or P q 0) s.o lo s.of_kind in
      matched t.0 (subst Operated t.1 s.is)

  pub at_not : Todo P L q e R N acc x y want → q < e → get_or P q 0 ≡ 0x15 → Todo P L (q + 1) e R N (not acc) x y want
  unfolding table After result
  at_not d l z =
      let s = at_operation d l (omega arith) (inl (omega arith)) in
      let w : Operated not_op = subst Operated (subst (λ (k : ℕ). OfKind k s.o) z s.of_kind) s.is in
      w.then (an_answer (not acc)) refl (q + 1) (omega arith) x y

  -- the test of a value
  pub at_truth : Todo P L q e R N acc x y want → q < e → get_or P q 0 ≡ 0x18 → (b : Bool) → b ≡ truth y → Todo P L (q + 1) e R N b nothing nothing want
  unfolding table After result
  at_truth d l z b u =
      let s = at_operation d l (omega arith) (inr (omega arith)) in
      let w : Operated truth_op = subst Operated (subst (λ (k : ℕ). OfKind k s.o) z s.of_kind) s.is in
      w.then (an_answer b) (ap an_answer u) (q + 1) (omega arith) nothing nothing

  -- the length of a value
  pub at_length : Todo P L q e R N acc x y want → q < e → get_or P q 0 ≡ 0x1A → (v : Value) → v ≡ length_value y → Todo P L (q + 1) e R N acc x v want
  unfolding table After result lower
  at_length d l z v u =
      let s = at_operation d l (omega arith) (inr (omega arith)) in
      let w : Operated length_op = subst Operated (subst (λ (k : ℕ). OfKind k s.o) z s.of_kind) s.is in
      w.then (a_value v) (ap a_value u) (q + 1) (omega arith)

  -- ---- a literal

  pub record LiteralAt : Type 0 where
    pub l : Literal
    pub k : ℕ
    pub holds : Holds P q (code_literal l k)
    pub pool : Holds L k (pool_literal l)
    pub right : literal_right l ≡ true
    pub then : (v : Value) → v ≡ literal_value l → (q' : ℕ) → q' ≡ q + length (code_literal l k) → Todo P L q' e R N acc y v want

  literal_by : (c : Cons P L q e R N acc x y want) (l : Literal) → c.o ≡ literal_op l → LiteralAt
  unfolding code_op does pool_op op_right After result lower
  literal_by c l i =
      record {
        l = l;
        k = c.k;
        holds = subst (λ (z : Op). Holds P q (code_op z c.k)) i c.here.holds;
        pool = subst (λ (z : Op). Holds L c.k (pool_op z)) i c.here.pool;
        right = ap op_right (sym i) ∙ c.here.right;
        then = λ v u q' p. done c (takes_none (λ a. a_value (literal_value l))) (ap (λ (z : Op). does z R N) i) (a_value v) (ap a_value u) q' (p ∙ ap (λ (z : Op). q + length (code_op z c.k)) (sym i));
      }

  pub at_literal : Todo P L q e R N acc x y want → q < e → 0x10 ≤ get_or P q 0 → get_or P q 0 ≤ 0x13 → LiteralAt
  at_literal d l lo hi = let c = uncons d l in go c (shape c.o) (byte_of c)
    where
      go : (c : Cons P L q e R N acc x y want) → Shape c.o → get_or P q 0 ≡ kind c.o → LiteralAt
      go c (query_is m s f i a b) k = absurd (omega arith)
      go c (literal_is j i a b) k = literal_by c j i
      go c (right_is w t i r a b) k = absurd (omega arith)
      go c (plain_is o i r a b) k = absurd (omega arith)

  -- ---- a right operand: "After the left operand 16 skips the right one if the left is false, 17 if true, else drops it."

  pub record Right : Type 0 where
    pub w : Bool
    pub byte : get_or P q 0 ≡ right_kind w
    pub bound : q + 3 ≤ length P
    pub enter : acc ≡ w → Todo P L (q + 3) e R N acc x y want
    pub skip : (acc ≡ w → ⊥) → Todo P L (q + 3 + number (part P (q + 1) 2)) e R N acc nothing nothing want

  joined_enter : (w a b : Bool) → a ≡ w → joined w a b ≡ b
  unfolding joined
  joined_enter true true b i = refl
  joined_enter true false b i = cc
  joined_enter false true b i = cc
  joined_enter false false b i = refl

  joined_skip : (w a b : Bool) → (a ≡ w → ⊥) → joined w a b ≡ a
  unfolding joined
  joined_skip true true b i = absurd (i refl)
  joined_skip true false b i = refl
  joined_skip false true b i = refl
  joined_skip false false b i = absurd (i refl)

  -- a right operand finds an empty stack
  right_empty : (c : Cons P L q e R N acc x y want) (w : Bool) (b : Test) → c.o ≡ right_op w b → c.st ≡ []
  unfolding does result_by result takes Fits
  right_empty c w b i = empty c.st (subst (λ (z : Op). Fits (result_by (does z R N) (held acc c.st)) (takes (does z R N)) c.st) i c.here.fits)
    where
      empty : (st : List Value) → length st ≡ 0 → st ≡ []
      empty [] l = refl
      empty (v ∷ st) l = absurd (omega arith)

  right_by : length P ≤ max_plan → (c : Cons P L q e R N acc x y want) (w : Bool) (b : Test) → c.o ≡ right_op w b → kind c.o ≡ right_kind w → Right
  unfolding code_op does pool_op op_right effect result_by result takes put After Tops
  right_by few c w b i j =
      let h : Holds P q (framed (right_kind w) (code_test b c.k)) = subst (λ (z : Op). Holds P q (code_op z c.k)) i c.here.holds in
      let f = framed_at P q (right_kind w) (code_test b c.k) few h in
      let u = f.count in
      let n : length (code_op c.o c.k) ≡ 3 + length (code_test b c.k) = ap (λ (z : Op). length (code_op z c.k)) i ∙ framed_long (right_kind w) (code_test b c.k) in
      let m : length (pool_op c.o) ≡ length (pool_test b) = ap (λ (z : Op). length (pool_op z)) i in
      let s : effect (does c.o R N) (held acc c.st) ≡ held (joined w acc (eval_test b R N)) [] = ap (λ (z : Op). effect (does z R N) (held acc c.st)) i ∙ ap (held (joined w acc (eval_test b R N))) (right_empty c w b i) in
      record {
        w = w;
        byte = byte_of c ∙ j;
        bound = f.bound;
        enter = λ t. record {
          K = test_ops b c.K;
          k = c.k;
          st = [];
          tops = tt;
          comes = comes_test P L e R N want b c.K (q + 3) c.k acc (record { holds = f.holds; pool = subst (λ (z : Op). Holds L c.k (pool_op z)) i c.here.pool; right = ap op_right (sym i) ∙ c.here.right })
              (comes_at P L e R N want c.K _ _ _ _ _ (omega arith) (omega arith)
              (subst (λ (z : Held). ComesTo P L e R N want c.K (q + length (code_op c.o c.k)) (c.k + length (pool_op c.o)) z) (s ∙ ap (λ (z : Bool). held z []) (joined_enter w acc (eval_test b R N) t)) c.others));
        };
        skip = λ t. done c (takes_none (λ a. an_answer (joined w a (eval_test b R N)))) (ap (λ (z : Op). does z R N) i) (an_answer acc) (ap an_answer (sym (joined_skip w acc (eval_test b R N) t))) (q + 3 + number (part P (q + 1) 2)) (omega arith) nothing nothing;
      }

  pub at_right : length P ≤ max_plan → Todo P L q e R N acc x y want → q < e → 0x16 ≤ get_or P q 0 → get_or P q 0 ≤ 0x17 → Right
  at_right few d l lo hi = let c = uncons d l in go c (shape c.o) (byte_of c)
    where
      go : (c : Cons P L q e R N acc x y want) → Shape c.o → get_or P q 0 ≡ kind c.o → Right
      go c (query_is m s f i a b) k = absurd (omega arith)
      go c (literal_is j i a b) k = absurd (omega arith)
      go c (right_is w t i r a b) k = right_by few c w t i r
      go c (plain_is o i r a (inl b)) k = absurd (omega arith)
      go c (plain_is o i r a (inr b)) k = absurd (omega arith)

  -- no kind stands between queries and literals
  pub past_queries : Todo P L q e R N acc x y want → q < e → 3 ≤ get_or P q 0 → 0x10 ≤ get_or P q 0
  past_queries d l lo = let c = uncons d l in go c (shape c.o) (byte_of c)
    where
      go : (c : Cons P L q e R N acc x y want) → Shape c.o → get_or P q 0 ≡ kind c.o → 0x10 ≤ get_or P q 0
      go c (query_is m s f i a b) k = absurd (omega arith)
      go c (literal_is j i a b) k = omega arith
      go c (right_is w t i r a b) k = omega arith
      go c (plain_is o i r a b) k = omega arith

  -- behind the right operands stand only the kinds of a test, of a length, and of match and search
  pub last_kind : Todo P L q e R N acc x y want → q < e → 0x18 ≤ get_or P q 0 → (get_or P q 0 ≡ 0x18 → ⊥) → (get_or P q 0 ≡ 0x1A → ⊥) → (0x1C ≤ get_or P q 0) × (get_or P q 0 ≤ 0x1D)
  last_kind d l lo n m = let c = uncons d l in go c (shape c.o) (byte_of c)
    where
      go : (c : Cons P L q e R N acc x y want) → Shape c.o → get_or P q 0 ≡ kind c.o → (0x1C ≤ get_or P q 0) × (get_or P q 0 ≤ 0x1D)
      go c (query_is j s f i a b) k = absurd (omega arith)
      go c (literal_is j i a b) k = absurd (omega arith)
      go c (right_is w t i r a b) k = absurd (omega arith)
      go c (plain_is o i r a b) k = let w = last_by o (omega arith) (λ z. n (k ∙ r ∙ z)) (λ z. m (k ∙ r ∙ z)) in (omega arith, omega arith)

  -- ---- a query, from the node S on

  pub record QueryAt (S : Json) : Type 0 where
    pub f : Segments
    pub k : ℕ
    pub at : SegmentsAt P L (q + 1) k f
    pub bound : q + 1 + length (code_segments f k) < length P
    pub is_test : get_or P (q + 1 + length (code_segments f k)) 0 ≡ 0x18 → (b : Bool) → b ≡ is_found (eval_segments f S (S ∷ [])) → Todo P L (q + 1 + length (code_segments f k) + 1) e R N b nothing nothing want
    pub is_count : get_or P (q + 1 + length (code_segments f k)) 0 ≡ 0x19 → (v : Value) → v ≡ count_value (eval_segments f S (S ∷ [])) → Todo P L (q + 1 + length (code_segments f k) + 1) e R N acc y v want
    pub is_value : get_or P (q + 1 + length (code_segments f k)) 0 ≡ 0x1B → (v : Value) → v ≡ only_value (eval_segments f S (S ∷ [])) → Todo P L (q + 1 + length (code_segments f k) + 1) e R N acc y v want
    pub is_first_lem : (get_or P (q + 1 + length (code_segments f k)) 0 ≡ 0x18 → ⊥) → (get_or P (q + 1 + length (code_segments f k)) 0 ≡ 0x19 → ⊥) → (get_or P (q + 1 + length (code_segments f k)) 0 ≡ 0x1B → ⊥)
        → (v : Value) → v ≡ first_value (eval_segments f S (S ∷ [])) → Todo P L (q + 1 + length (code_segments f k)) e R N acc y v want

  module _ (c : Cons P L q e R N acc x y want) (m : Ask) (s : Start) (f : Segments) (i : c.o ≡ query_op m (query s f)) (S : Json) (v : eval_query (query s f) R N ≡ eval_segments f S (S ∷ [])) where
    query_segments : Holds P (q + 1) (code_segments f c.k ++ (asked m).bytes)
    unfolding code_op code_query
    query_segments = holds_tail P q (start_kind s) (code_segments f c.k ++ (asked m).bytes) (subst (λ (z : Op). Holds P q (code_op z c.k)) i c.here.holds)

    -- how far the whole item goes
    query_long : q + 1 + length (code_segments f c.k) + length (asked m).bytes ≡ q + length (code_op c.o c.k)
    unfolding code_op code_query
    query_long =
        let a : length (code_op c.o c.k) ≡ suc (length (code_segments f c.k ++ (asked m).bytes)) = ap (λ (z : Op). length (code_op z c.k)) i in
        omega (arith, length-append (code_segments f c.k) (asked m).bytes)

    ask_at : (q + 1 + length (code_segments f c.k) < length P) × (ask_of (get_or P (q + 1 + length (code_segments f c.k)) 0) ≡ m)
    unfolding Behind
    ask_at =
        let h = holds_second P (q + 1) (code_segments f c.k) (asked m).bytes query_segments in
        let b = subst (λ (z : Op). Behind z c.K) i c.here.behind in
        ask_byte P L e R N want m c.K (q + 1 + length (code_segments f c.k)) _ _ h b (comes_at P L e R N want c.K _ _ _ _ _ query_long refl c.others)

    segments_here : SegmentsAt P L (q + 1) c.k f
    unfolding pool_op pool_query op_right query_right
    segments_here =
        record {
          holds = holds_first P (q + 1) (code_segments f c.k) (asked m).bytes query_segments;
          pool = subst (λ (z : Op). Holds L c.k (pool_op z)) i c.here.pool;
          right = ap op_right (sym i) ∙ c.here.right;
        }

    -- One law for all that is asked: where it is n, the nodes give what n gives.
    query_then : (n : Ask) → m ≡ n → (g : Result) → g ≡ (asked n).gives (eval_segments f S (S ∷ [])) → (q' : ℕ) → q' ≡ q + 1 + length (code_segments f c.k) + length (asked n).bytes
        → After g (takes_none (λ a. (asked n).gives (eval_segments f S (S ∷ [])))) q'
    unfolding does result
    query_then n t g u q' z =
        done c (takes_none (λ a. (asked n).gives (eval_segments f S (S ∷ []))))
        (ap (λ (w : Op). does w R N) i ∙ ap (λ (w : Ask). takes_none (λ a. (asked w).gives (eval_query (query s f) R N))) t ∙ ap (λ (l : List Json). takes_none (λ a. (asked n).gives l)) v) g u q'
        (z ∙ ap (λ (w : Ask). q + 1 + length (code_segments f c.k) + length (asked w).bytes) (sym t) ∙ query_long)

    query_by : QueryAt S
    unfolding After lower
    query_by =
        let w = ask_at in
        record {
          f = f;
          k = c.k;
          at = segments_here;
          bound = w.0;
          is_test = λ z b u. query_then for_test (sym w.1 ∙ ap ask_of z) (an_answer b) (ap an_answer u) _ refl nothing nothing;
          is_count = λ z b u. query_then for_count (sym w.1 ∙ ap ask_of z) (a_value b) (ap a_value u) _ refl;
          is_value = λ z b u. query_then for_value (sym w.1 ∙ ap ask_of z) (a_value b) (ap a_value u) _ refl;
          is_first_lem = λ n1 n2 n3 b u. query_then for_first (sym w.1 ∙ rw (ne_eqb _ 0x18 n1, ne_eqb _ 0x19 n2, ne_eqb _ 0x1B n3)) (a_value b) (ap a_value u) _ (omega arith);
        }

  -- where a query begins
  begins : (s : Start) (f : Segments) (S : Json) → (start_kind s ≡ 1 → S ≡ R) → (start_kind s ≡ 2 → S ≡ N) → eval_query (query s f) R N ≡ eval_segments f S (S ∷ [])
  unfolding eval_query start_kind
  begins root f S a b = rw (a refl)
  begins current f S a b = rw (b refl)

  pub at_query : Todo P L q e R N acc x y want → q < e → get_or P q 0 ≤ 2 → (S : Json) → (get_or P q 0 ≡ 1 → S ≡ R) → (get_or P q 0 ≡ 2 → S ≡ N) → QueryAt S
  at_query d l lo S a b = let c = uncons d l in go c (shape c.o) (byte_of c)
    where
      go : (c : Cons P L q e R N acc x y want) → Shape c.o → get_or P q 0 ≡ kind c.o → QueryAt S
      go c (query_is m s f i u v) k = query_by c m s f i S (begins s f S (λ z. a (k ∙ u ∙ z)) (λ z. b (k ∙ u ∙ z)))
      go c (literal_is j i u v) k = absurd (omega arith)
      go c (right_is w t i r u v) k = absurd (omega arith)
      go c (plain_is o i r u v) k = absurd (omega arith)

-- the same with what is known to be equal
pub todo_to : (P L : List ℕ) (q q' e : ℕ) (R N : Json) (acc acc' : Bool) (x x' y y' : Value) (want : Bool) → q' ≡ q → acc' ≡ acc → x' ≡ x → y' ≡ y → Todo P L q e R N acc x y want → Todo P L q' e R N acc' x' y' want
todo_to P L q q' e R N acc acc' x x' y y' want a b c d t = rw (a, b, c, d) t
