-- Tests: what a filter's code begins with, and the nots and right operands behind it. Tests are spelled in one way, and so is all that holds tests.
use Rattle.std.specs.Prelude.{ℕ, zero, suc, max, ◌+◌, ◌≤◌, ◌<◌, ◌≡◌, refl, List, [], ◌∷◌, ◌++◌, Bool, true, false, ◌&&◌, leb, length}
use Rattle.std.proofs.Math.Nat.{le-max_left, le-max_right}
use Rattle.std.proofs.Common.{arith, sym, ap, ◌∙◌, append_assoc, append-nil, leb-true, length-append}
use Rattle.std.proofs.Math.Bool.{and_assoc, and-true}
use Rattle.definition.specs.Limits.{max_plan}
use Rattle.definition.specs.Forms.{Query, Test, Argument, Function}
use Rattle.definition.specs.Forms.Test.{exists, compare, regex, not, not_value, both, either}
use Rattle.definition.specs.QueryForms.{argument_right, test_right, nesting_argument, nesting_function, nesting_test}
use Rattle.definition.specs.Plans.{two, framed, pool_argument, pool_test, code_query, code_argument, code_function, code_test}
use Rattle.basics.specs.Bools.{and_left, and_right, both_true}
use Rattle.basics.specs.Lists.{differ, not_cons, same_tail}
use Rattle.plan_laws.specs.Parts.{Part, Spelt, Unique, plan_left, pool_left, plan_rest, pool_rest, move, next_same}
use Rattle.plan_laws.specs.Queries.{is_nil, nil_is, test_part, framed_part, unique_framed}
use Rattle.plan_laws.specs.Operands.{Operand, qry, fun, code_operand, pool_operand, operand_part, unique_operand, operand_begins, no_call, argument_operand, argument_code, argument_pool, argument_nest, argument_stays_right, argument_same}
use Rattle.plan_laws.specs.Relations.{Relation, compares, matches, related, relation_code, relation_deep, related_code, related_pool, related_right, related_nest, relation_no_call, relation_same}

-- ---- what a test begins with: a test of a query, a test of two values, or `!` before a value function

pub data Base : Type 0 where
  base_exists : Query → Base
  base_pair : Relation → Argument → Argument → Base
  base_not : Function → Base

abbrev pub as_test : Base → Test
as_test (base_exists q) = exists q
as_test (base_pair x a b) = related x a b
as_test (base_not f) = not_value f

abbrev pub base_part : Part Base
base_part = record { code = λ b. code_test (as_test b); pool = λ b. pool_test (as_test b); right = λ b. test_right (as_test b); nest = λ b. nesting_test (as_test b); sort = λ b. 0; may = λ r. true }

-- the operands of a base, and what stands behind them
pub data BaseOf (room : ℕ) (s l : List ℕ) (p : ℕ) (r m : List ℕ) : Base → Type 0 where
  of_exists : (q : Query) → Spelt operand_part room s l p (qry q) (0x18 ∷ r) m → BaseOf room s l p r m (base_exists q)
  of_not : (f : Function) → suc (nesting_function f) ≤ room → Spelt operand_part room s l p (fun f) (0x18 ∷ 0x15 ∷ r) m → BaseOf room s l p r m (base_not f)
  of_pair : {s₁ l₁ : List ℕ} (x : Relation) (a b : Argument) → argument_right a ≡ true → argument_right b ≡ true → relation_deep x + max (nesting_argument a) (nesting_argument b) ≤ room → Spelt operand_part room s l p (argument_operand a) s₁ l₁ →
      Spelt operand_part room s₁ l₁ (p + length (pool_operand (argument_operand a))) (argument_operand b) (relation_code x ++ r) m → BaseOf room s l p r m (base_pair x a b)

-- what begins with a kind in 01..13 is no call
pub low_no_call : {k : ℕ} {c r : List ℕ} → r ≡ k ∷ c → k ≤ 0x13 → no_call r ≡ true
low_no_call {k} {c} {r} e h = ap no_call e ∙ go (leb 0x19 k) refl
  where
    go : (b : Bool) → leb 0x19 k ≡ b → no_call (k ∷ c) ≡ true
    go true f = absurd (let g = leb-true 0x19 k f in omega arith)
    go false f = rw f

pub base_of : {room p : ℕ} {s l r m : List ℕ} (b : Base) → Spelt base_part room s l p b r m → BaseOf room s l p r m b
unfolding code_test pool_test test_right nesting_test
base_of {p = p} {r = r} (base_exists q) u = of_exists q (record { plan = u.plan ∙ append_assoc (code_query q p) (0x18 ∷ []) r; pool = u.pool; right = u.right; low = u.low; may = refl })
base_of {p = p} {r = r} (base_not f) u = let z = u.low in of_not f z (record { plan = u.plan ∙ append_assoc (code_function f p) (0x18 ∷ 0x15 ∷ []) r; pool = u.pool; right = u.right; low = omega arith; may = refl })
base_of {room} {p} {r = r} {m = m} (base_pair x a b) u =
    let q = p + length (pool_argument a) in
    let q' = p + length (pool_operand (argument_operand a)) in
    let right : (argument_right a && argument_right b) ≡ true = sym (related_right x a b) ∙ u.right in
    let ra = and_left (argument_right a) (argument_right b) right in
    let rb = and_right (argument_right a) (argument_right b) right in
    let ha = argument_stays_right a ra in
    let hb = argument_stays_right b rb in
    let d : relation_deep x + max (nesting_argument a) (nesting_argument b) ≤ room = let l = u.low in omega (arith, related_nest x a b) in
    let y = le-max_left (nesting_argument a) (nesting_argument b) in
    let z = le-max_right (nesting_argument a) (nesting_argument b) in
    let na = argument_nest a in
    let nb = argument_nest b in
    let tail : List ℕ = relation_code x ++ r in
    let e : code_argument b q ≡ code_operand (argument_operand b) q' = argument_code b q ∙ ap (λ d. code_operand (argument_operand b) (p + length d)) (argument_pool a) in
    let g = operand_begins (argument_operand b) q' hb.0 in
    of_pair x a b ra rb d
    (record {
      plan = u.plan ∙ ap (λ d. d ++ r) (related_code x a b p) ∙ append_assoc (code_argument a p) (code_argument b q ++ relation_code x) r ∙ ap (λ d. code_argument a p ++ d) (append_assoc (code_argument b q) (relation_code x) r) ∙ ap (λ d. code_argument a p ++ (d ++ tail)) e ∙ ap (λ d. d ++ (code_operand (argument_operand b) q' ++ tail)) (argument_code a p);
      pool = u.pool ∙ ap (λ d. d ++ m) (related_pool x a b) ∙ append_assoc (pool_argument a) (pool_argument b) m ∙ ap (λ d. d ++ (pool_argument b ++ m)) (argument_pool a) ∙ ap (λ d. pool_operand (argument_operand a) ++ (d ++ m)) (argument_pool b);
      right = ha.0;
      low = omega arith;
      may = low_no_call (ap (λ d. d ++ tail) g.2) g.4;
    })
    (record { plan = refl; pool = refl; right = hb.0; low = omega arith; may = relation_no_call x r })

pub base_from : {room p : ℕ} {s l r m : List ℕ} {b : Base} → BaseOf room s l p r m b → Spelt base_part room s l p b r m
unfolding code_test pool_test test_right nesting_test
base_from {p = p} {r = r} (of_exists q u) = record { plan = u.plan ∙ sym (append_assoc (code_query q p) (0x18 ∷ []) r); pool = u.pool; right = u.right; low = u.low; may = refl }
base_from {p = p} {r = r} (of_not f h u) = record { plan = u.plan ∙ sym (append_assoc (code_function f p) (0x18 ∷ 0x15 ∷ []) r); pool = u.pool; right = u.right; low = h; may = refl }
base_from {room} {p} {r = r} {m = m} (of_pair x a b ra rb deep u v) =
    let q = p + length (pool_argument a) in
    let q' = p + length (pool_operand (argument_operand a)) in
    let tail : List ℕ = relation_code x ++ r in
    let e : code_argument b q ≡ code_operand (argument_operand b) q' = argument_code b q ∙ ap (λ d. code_operand (argument_operand b) (p + length d)) (argument_pool a) in
    record {
      plan = u.plan ∙ ap (λ d. code_operand (argument_operand a) p ++ d) v.plan ∙ sym (ap (λ d. d ++ r) (related_code x a b p) ∙ append_assoc (code_argument a p) (code_argument b q ++ relation_code x) r ∙ ap (λ d. code_argument a p ++ d) (append_assoc (code_argument b q) (relation_code x) r) ∙ ap (λ d. code_argument a p ++ (d ++ tail)) e ∙ ap (λ d. d ++ (code_operand (argument_operand b) q' ++ tail)) (argument_code a p));
      pool = u.pool ∙ ap (λ d. pool_operand (argument_operand a) ++ d) v.pool ∙ sym (ap (λ d. d ++ m) (related_pool x a b) ∙ append_assoc (pool_argument a) (pool_argument b) m ∙ ap (λ d. d ++ (pool_argument b ++ m)) (argument_pool a) ∙ ap (λ d. pool_operand (argument_operand a) ++ (d ++ m)) (argument_pool b));
      right = related_right x a b ∙ both_true ra rb;
      low = omega (arith, deep, related_nest x a b);
      may = refl;
    }

-- a right operand does not begin with 18
pub argument_no_test : {room p : ℕ} {s l r m t : List ℕ} {x : Operand} → Spelt operand_part room s l p x r m → s ≡ 0x18 ∷ t → ⊥
argument_no_test {p = p} {r = r} {x = x} u e =
    let g = operand_begins x p u.right in
    let f : _ ≡ g.0 ∷ (g.1 ++ r) = u.plan ∙ ap (λ d. d ++ r) g.2 in
    let k : g.0 ≡ 0x18 = cc in
    let z = g.4 in
    omega arith

module _ {n : ℕ} (fits : n ≤ max_plan) (tests : Unique test_part n) where
  base_same : {room room' p : ℕ} {s l r r' m m' : List ℕ} {x x' : Base} → length s < suc n → length l ≤ max_plan → BaseOf room s l p r m x → BaseOf room' s l p r' m' x' → x ≡ x'
  base_same a b (of_exists q u) (of_exists q' v) = let e = (unique_operand fits tests).same (qry q) (qry q') a b u v in let f : q ≡ q' = cc in ap base_exists f
  base_same a b (of_exists q u) (of_not f h v) = let e = (unique_operand fits tests).same (qry q) (fun f) a b u v in absurd (let z : ◌≡◌ {A = ℕ} 0 1 = cc in omega arith)
  base_same a b (of_exists q u) (of_pair x c d rc rd n v w) = let e = (unique_operand fits tests).same (qry q) (argument_operand c) a b u v in absurd (argument_no_test w (sym (plan_rest u v e)))
  base_same a b (of_not f h u) (of_exists q v) = let e = (unique_operand fits tests).same (fun f) (qry q) a b u v in absurd (let z : ◌≡◌ {A = ℕ} 0 1 = cc in omega arith)
  base_same a b (of_not f h u) (of_not f' h' v) = let e = (unique_operand fits tests).same (fun f) (fun f') a b u v in let g : f ≡ f' = cc in ap base_not g
  base_same a b (of_not f h u) (of_pair x c d rc rd n v w) = let e = (unique_operand fits tests).same (fun f) (argument_operand c) a b u v in absurd (argument_no_test w (sym (plan_rest u v e)))
  base_same a b (of_pair x c d rc rd n u w) (of_exists q v) = let e = (unique_operand fits tests).same (qry q) (argument_operand c) a b v u in absurd (argument_no_test w (sym (plan_rest v u e)))
  base_same a b (of_pair x c d rc rd n u w) (of_not f h v) = let e = (unique_operand fits tests).same (fun f) (argument_operand c) a b v u in absurd (argument_no_test w (sym (plan_rest v u e)))
  base_same {p = p} a b (of_pair x c d rc rd n u w) (of_pair x' c' d' rc' rd' n' u' w') =
      let e = (unique_operand fits tests).same (argument_operand c) (argument_operand c') a b u u' in
      let f = next_same (unique_operand fits tests) a b e u u' w w' in
      let v = move w' (sym (plan_rest u u' e)) (sym (pool_rest u u' e)) (ap (λ x. p + length (pool_operand x)) (sym e)) in
      let i = relation_same x x' _ _ (plan_rest w v f) in
      cc (i, argument_same c c' e, argument_same d d' f)

  pub unique_base : Unique base_part (suc n)
  unique_base = record { same = λ x x' a b u v. base_same a b (base_of x u) (base_of x' v) }

-- ---- what stands behind: 15 not, 16 and, 17 or

pub data Ops : Type 0 where
  op_end : Ops
  op_not : Ops → Ops
  op_right : Bool → Test → Ops → Ops

abbrev pub joined : Bool → Test → Test → Test
joined true a b = both a b
joined false a b = either a b

abbrev pub right_kind : Bool → ℕ
right_kind true = 0x16
right_kind false = 0x17

abbrev pub applied : Ops → Test → Test
applied op_end t = t
applied (op_not o) t = applied o (not t)
applied (op_right d b o) t = applied o (joined d t b)

abbrev pub code_ops : Ops → ℕ → List ℕ
code_ops op_end p = []
code_ops (op_not o) p = 0x15 ∷ code_ops o p
code_ops (op_right d b o) p = framed (right_kind d) (code_test b p) ++ code_ops o (p + length (pool_test b))

abbrev pub pool_ops : Ops → List ℕ
pool_ops op_end = []
pool_ops (op_not o) = pool_ops o
pool_ops (op_right d b o) = pool_test b ++ pool_ops o

abbrev pub ops_right : Ops → Bool
ops_right op_end = true
ops_right (op_not o) = ops_right o
ops_right (op_right d b o) = test_right b && ops_right o

-- how deep a test nests that nested h deep before
abbrev pub nesting_ops : Ops → ℕ → ℕ
nesting_ops op_end h = h
nesting_ops (op_not o) h = nesting_ops o (suc h)
nesting_ops (op_right d b o) h = nesting_ops o (max h (suc (nesting_test b)))

abbrev pub ops_part : ℕ → Part Ops
ops_part h = record { code = code_ops; pool = pool_ops; right = ops_right; nest = λ o. nesting_ops o h; sort = λ o. 0; may = is_nil }

pub nesting_grows : (o : Ops) (h : ℕ) → h ≤ nesting_ops o h
nesting_grows op_end h = omega arith
nesting_grows (op_not o) h = let z = nesting_grows o (suc h) in omega arith
nesting_grows (op_right d b o) h = let z = nesting_grows o (max h (suc (nesting_test b))) in let y = le-max_left h (suc (nesting_test b)) in omega arith

-- a right operand, behind its kind and its length, and what stands behind it
pub record InRight (d : Bool) (h room : ℕ) (s l : List ℕ) (p : ℕ) (b : Test) (o : Ops) (r m : List ℕ) : Type 0 where
  pub start : List ℕ
  pub plan : List ℕ
  pub pool : List ℕ
  pub is : s ≡ right_kind d ∷ start
  pub first : Spelt framed_part room start l p b plan pool
  pub rest : Spelt (ops_part (max h (suc (nesting_test b)))) room plan pool (p + length (pool_test b)) o r m

pub into_right : (d : Bool) {h room p : ℕ} {s l r m : List ℕ} {b : Test} {o : Ops} → Spelt (ops_part h) room s l p (op_right d b o) r m → InRight d h room s l p b o r m
into_right d {h} {room} {p} {r = r} {m = m} {b = b} {o = o} u =
    let c = code_test b p in
    let q = p + length (pool_test b) in
    let k = max h (suc (nesting_test b)) in
    let a = nesting_grows o k in
    let e = le-max_right h (suc (nesting_test b)) in
    let f : nesting_ops o k ≤ room = u.low in
    record {
      start = (two (length c) ++ c) ++ (code_ops o q ++ r);
      plan = code_ops o q ++ r;
      pool = pool_ops o ++ m;
      is = u.plan ∙ ap (λ x. right_kind d ∷ x) (append_assoc (two (length c) ++ c) (code_ops o q) r);
      first = record { plan = refl; pool = u.pool ∙ append_assoc (pool_test b) (pool_ops o) m; right = and_left (test_right b) (ops_right o) u.right; low = omega arith; may = refl };
      rest = record { plan = refl; pool = refl; right = and_right (test_right b) (ops_right o) u.right; low = f; may = u.may };
    }

pub from_right : (d : Bool) {h room p : ℕ} {s l r m : List ℕ} {b : Test} {o : Ops} → InRight d h room s l p b o r m → Spelt (ops_part h) room s l p (op_right d b o) r m
from_right d {h} {room} {p} {r = r} {m = m} {b = b} {o = o} g =
    let c = code_test b p in
    let q = p + length (pool_test b) in
    record {
      plan = g.is ∙ ap (λ x. right_kind d ∷ x) (g.first.plan ∙ ap (λ y. (two (length c) ++ c) ++ y) g.rest.plan ∙ sym (append_assoc (two (length c) ++ c) (code_ops o q) r));
      pool = g.first.pool ∙ ap (λ y. pool_test b ++ y) g.rest.pool ∙ sym (append_assoc (pool_test b) (pool_ops o) m);
      right = both_true g.first.right g.rest.right;
      low = g.rest.low;
      may = g.rest.may;
    }

-- a not, and what stands behind it
pub record InNot (h room : ℕ) (s l : List ℕ) (p : ℕ) (o : Ops) (r m : List ℕ) : Type 0 where
  pub start : List ℕ
  pub is : s ≡ 0x15 ∷ start
  pub rest : Spelt (ops_part (suc h)) room start l p o r m

pub into_not : {h room p : ℕ} {s l r m : List ℕ} {o : Ops} → Spelt (ops_part h) room s l p (op_not o) r m → InNot h room s l p o r m
into_not {p = p} {r = r} {o = o} u = record { start = code_ops o p ++ r; is = u.plan; rest = record { plan = refl; pool = u.pool; right = u.right; low = u.low; may = u.may } }

pub from_not : {h room p : ℕ} {s l r m : List ℕ} {o : Ops} → InNot h room s l p o r m → Spelt (ops_part h) room s l p (op_not o) r m
from_not g = record { plan = g.is ∙ ap (λ x. 0x15 ∷ x) g.rest.plan; pool = g.rest.pool; right = g.rest.right; low = g.rest.low; may = g.rest.may }

-- nothing behind
pub into_nothing : {h room p : ℕ} {s l r m : List ℕ} → Spelt (ops_part h) room s l p op_end r m → (s ≡ []) × (l ≡ m)
into_nothing {r = r} u = (u.plan ∙ nil_is r u.may, u.pool)

pub right_differ : (d : Bool) {s s₁ t : List ℕ} → s ≡ right_kind d ∷ s₁ → s ≡ 0x15 ∷ t → ⊥
right_differ true e f = differ 0x16 0x15 refl e f
right_differ false e f = differ 0x17 0x15 refl e f

pub right_same : (d d' : Bool) {s s₁ t : List ℕ} → s ≡ right_kind d ∷ s₁ → s ≡ right_kind d' ∷ t → d ≡ d'
right_same true true e f = refl
right_same true false e f = absurd (differ 0x16 0x17 refl e f)
right_same false true e f = absurd (differ 0x17 0x16 refl e f)
right_same false false e f = refl

nil_not : {s t : List ℕ} {k : ℕ} → s ≡ [] → s ≡ k ∷ t → ⊥
nil_not e f = not_cons (sym e ∙ f)

module _ {n : ℕ} (fits : n ≤ max_plan) (tests : Unique test_part n) where
  ops_same : {h h' room room' p : ℕ} {s l r r' m m' : List ℕ} (x x' : Ops) → length s < suc n → length l ≤ max_plan → Spelt (ops_part h) room s l p x r m → Spelt (ops_part h') room' s l p x' r' m' → x ≡ x'
  ops_same op_end op_end a b u v = refl
  ops_same op_end (op_not o') a b u v = absurd (nil_not (into_nothing u).0 (into_not v).is)
  ops_same op_end (op_right d' y' o') a b u v = absurd (nil_not (into_nothing u).0 (into_right d' v).is)
  ops_same (op_not o) op_end a b u v = absurd (nil_not (into_nothing v).0 (into_not u).is)
  ops_same {h = i} {h' = i'} {s = s} (op_not o) (op_not o') a b u v =
      let h = into_not u in
      let k = into_not v in
      let z : length s ≡ suc (length h.start) = ap length h.is in
      ap op_not (ops_same {h = suc i} {h' = suc i'} o o' (omega arith) b h.rest (move k.rest (same_tail k.is h.is) refl refl))
  ops_same (op_not o) (op_right d' y' o') a b u v = absurd (right_differ d' (into_right d' v).is (into_not u).is)
  ops_same (op_right d y o) op_end a b u v = absurd (nil_not (into_nothing v).0 (into_right d u).is)
  ops_same (op_right d y o) (op_not o') a b u v = absurd (right_differ d (into_right d u).is (into_not v).is)
  ops_same {p = p} {s = s} (op_right d y o) (op_right d' y' o') a b u v =
      let h = into_right d u in
      let k = into_right d' v in
      let z : length s ≡ suc (length h.start) = ap length h.is in
      let e = right_same d d' h.is k.is in
      let w = move k.first (same_tail k.is h.is) refl refl in
      let f = (unique_framed fits tests).same y y' (omega arith) b h.first w in
      let c = plan_left h.first in
      let i = pool_left h.first in
      let g = ops_same {p = p + length (pool_test y)} o o' (omega arith) (omega arith) h.rest (move k.rest (sym (plan_rest h.first w f)) (sym (pool_rest h.first w f)) (ap (λ x. p + length (pool_test x)) (sym f))) in
      cc (e, f, g)

-- ---- a whole test

-- what nots and right operands make of a test
pub applied_code : (o : Ops) (t : Test) (p : ℕ) → code_test (applied o t) p ≡ code_test t p ++ code_ops o (p + length (pool_test t))
unfolding code_test pool_test
applied_code op_end t p = sym (append-nil (code_test t p))
applied_code (op_not o) t p = applied_code o (not t) p ∙ append_assoc (code_test t p) (0x15 ∷ []) (code_ops o (p + length (pool_test t)))
applied_code (op_right true b o) t p =
    let q = p + length (pool_test t) in
    let e : p + length (pool_test t ++ pool_test b) ≡ q + length (pool_test b) = let z = length-append (pool_test t) (pool_test b) in omega arith in
    applied_code o (both t b) p ∙ ap (λ k. (code_test t p ++ framed 0x16 (code_test b q)) ++ code_ops o k) e ∙ append_assoc (code_test t p) (framed 0x16 (code_test b q)) (code_ops o (q + length (pool_test b)))
applied_code (op_right false b o) t p =
    let q = p + length (pool_test t) in
    let e : p + length (pool_test t ++ pool_test b) ≡ q + length (pool_test b) = let z = length-append (pool_test t) (pool_test b) in omega arith in
    applied_code o (either t b) p ∙ ap (λ k. (code_test t p ++ framed 0x17 (code_test b q)) ++ code_ops o k) e ∙ append_assoc (code_test t p) (framed 0x17 (code_test b q)) (code_ops o (q + length (pool_test b)))

pub applied_pool : (o : Ops) (t : Test) → pool_test (applied o t) ≡ pool_test t ++ pool_ops o
unfolding pool_test
applied_pool op_end t = sym (append-nil (pool_test t))
applied_pool (op_not o) t = applied_pool o (not t)
applied_pool (op_right true b o) t = applied_pool o (both t b) ∙ append_assoc (pool_test t) (pool_test b) (pool_ops o)
applied_pool (op_right false b o) t = applied_pool o (either t b) ∙ append_assoc (pool_test t) (pool_test b) (pool_ops o)

pub applied_right : (o : Ops) (t : Test) → test_right (applied o t) ≡ (test_right t && ops_right o)
unfolding test_right
applied_right op_end t = sym (and-true (test_right t))
applied_right (op_not o) t = applied_right o (not t)
applied_right (op_right true b o) t = applied_right o (both t b) ∙ and_assoc (test_right t) (test_right b) (ops_right o)
applied_right (op_right false b o) t = applied_right o (either t b) ∙ and_assoc (test_right t) (test_right b) (ops_right o)

pub applied_nest : (o : Ops) (t : Test) → nesting_test (applied o t) ≡ nesting_ops o (nesting_test t)
unfolding nesting_test
applied_nest op_end t = refl
applied_nest (op_not o) t = applied_nest o (not t)
applied_nest (op_right true b o) t = applied_nest o (both t b)
applied_nest (op_right false b o) t = applied_nest o (either t b)

-- every test is a base with nots and right operands behind it
pub record Applied (t : Test) : Type 0 where
  pub base : Base
  pub ops : Ops
  pub is : t ≡ applied ops (as_test base)

applied_on : (t : Test) (o : Ops) → Applied (applied o t)
applied_on (exists q) o = record { base = base_exists q; ops = o; is = refl }
applied_on (compare c a b) o = record { base = base_pair (compares c) a b; ops = o; is = refl }
applied_on (regex c a b) o = record { base = base_pair (matches c) a b; ops = o; is = refl }
applied_on (not_value f) o = record { base = base_not f; ops = o; is = refl }
applied_on (not t) o = applied_on t (op_not o)
applied_on (both t b) o = applied_on t (op_right true b o)
applied_on (either t b) o = applied_on t (op_right false b o)

pub record InTest (room : ℕ) (s l : List ℕ) (p : ℕ) (t : Test) (r m : List ℕ) : Type 0 where
  pub base : Base
  pub ops : Ops
  pub plan : List ℕ
  pub pool : List ℕ
  pub is : t ≡ applied ops (as_test base)
  pub first : Spelt base_part room s l p base plan pool
  pub rest : Spelt (ops_part (nesting_test (as_test base))) room plan pool (p + length (pool_test (as_test base))) ops r m

pub into_test : {room p : ℕ} {s l r m : List ℕ} {t : Test} → Spelt test_part room s l p t r m → InTest room s l p t r m
into_test {room} {p} {r = r} {m = m} {t = t} u =
    let v = applied_on t op_end in
    let b = as_test v.base in
    let o = v.ops in
    let q = p + length (pool_test b) in
    let k : test_right b && ops_right o ≡ true = sym (applied_right o b) ∙ ap test_right (sym v.is) ∙ u.right in
    let e : nesting_test t ≡ nesting_ops o (nesting_test b) = ap nesting_test v.is ∙ applied_nest o b in
    let f : nesting_test t ≤ room = u.low in
    let g = nesting_grows o (nesting_test b) in
    record {
      base = v.base;
      ops = o;
      plan = code_ops o q ++ r;
      pool = pool_ops o ++ m;
      is = v.is;
      first = record { plan = u.plan ∙ ap (λ x. code_test x p ++ r) v.is ∙ ap (λ c. c ++ r) (applied_code o b p) ∙ append_assoc (code_test b p) (code_ops o q) r; pool = u.pool ∙ ap (λ x. pool_test x ++ m) v.is ∙ ap (λ c. c ++ m) (applied_pool o b) ∙ append_assoc (pool_test b) (pool_ops o) m; right = and_left (test_right b) (ops_right o) k; low = omega arith; may = refl };
      rest = record { plan = refl; pool = refl; right = and_right (test_right b) (ops_right o) k; low = omega arith; may = u.may };
    }

pub from_test : {room p : ℕ} {s s₁ l l₁ r m : List ℕ} {b : Base} {o : Ops} → Spelt base_part room s l p b s₁ l₁ → Spelt (ops_part (nesting_test (as_test b))) room s₁ l₁ (p + length (pool_test (as_test b))) o r m → Spelt test_part room s l p (applied o (as_test b)) r m
from_test {p = p} {r = r} {m = m} {b = b} {o = o} u v =
    let t = as_test b in
    let q = p + length (pool_test t) in
    record {
      plan = u.plan ∙ ap (λ c. code_test t p ++ c) v.plan ∙ sym (append_assoc (code_test t p) (code_ops o q) r) ∙ ap (λ c. c ++ r) (sym (applied_code o t p));
      pool = u.pool ∙ ap (λ c. pool_test t ++ c) v.pool ∙ sym (append_assoc (pool_test t) (pool_ops o) m) ∙ ap (λ c. c ++ m) (sym (applied_pool o t));
      right = applied_right o t ∙ both_true u.right v.right;
      low = rw (applied_nest o t) v.low;
      may = v.may;
    }

module _ {n : ℕ} (fits : n ≤ max_plan) (tests : Unique test_part n) where
  test_same : {room room' p : ℕ} {s l r r' m m' : List ℕ} {x x' : Test} → length s < suc n → length l ≤ max_plan → InTest room s l p x r m → InTest room' s l p x' r' m' → x ≡ x'
  test_same {p = p} a b u v =
      let e = (unique_base fits tests).same u.base v.base a b u.first v.first in
      let y = plan_left u.first in
      let z = pool_left u.first in
      let g = ops_same fits tests u.ops v.ops (omega arith) (omega arith) u.rest (move v.rest (sym (plan_rest u.first v.first e)) (sym (pool_rest u.first v.first e)) (ap (λ x. p + length (pool_test (as_test x))) (sym e))) in
      u.is ∙ ap (λ o. applied o (as_test u.base)) g ∙ ap (λ x. applied v.ops (as_test x)) e ∙ sym v.is

-- the tests of a plan with fewer than n bytes are spelled in one way
pub unique_tests : (n : ℕ) → n ≤ suc max_plan → Unique test_part n
unique_tests zero h = record { same = λ x x' a b u v. absurd (omega arith) }
unique_tests (suc n) h = record { same = λ x x' a b u v. test_same (omega arith) (unique_tests n (omega arith)) a b (into_test u) (into_test v) }
