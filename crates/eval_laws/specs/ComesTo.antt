-- What is left of a filter's code: its items from a place on, each with the stack that it finds, up to the wanted answer. The items of a form stand in its code and come to what it comes to: one case for each form.
-- Assumes nothing.
use Prim.Native.Nat.{ℕ, ◌+◌, ◌≤◌, ◌<◌}
use Rattle.std.specs.Prelude.{◌≡◌, Bool, ◌&&◌, get_or}
use Rattle.std.proofs.Math.Path.{refl}
use Rattle.std.proofs.Common.{sym, ap, ◌∙◌, arith}
use mathlib.Core.List.{List, [], ◌∷◌, ◌++◌, append-nil}
use Rattle.std.proofs.Math.Bool.{true, false}
use Rattle.std.proofs.Math.ListN.{length, length-append}
use Rattle.regex_definition.specs.Scope.{Scope, whole, part}
use Rattle.definition.specs.Values.{Json}
use Rattle.definition.specs.Compare.{Value}
use Rattle.definition.specs.Forms.{Literal, Query, Test, Argument, Function, is_singular}
use Rattle.definition.specs.Forms.Literal.{null, boolean, integer, float, text}
use Rattle.definition.specs.Forms.Start.{root, current}
use Rattle.definition.specs.Forms.Query.{query}
use Rattle.definition.specs.Forms.Test.{exists, compare, regex, not_value, both, either}
use Rattle.definition.specs.Forms.Argument.{literal, singular, value}
use Rattle.definition.specs.Forms.Function.{count_of, length_of, value_of}
use Rattle.definition.specs.QueryForms.{query_right, test_right, argument_right, function_right}
use Rattle.definition.specs.Plans.{start_kind, scope_kind, pooled, code_literal, framed, pool_query, pool_test, pool_argument, pool_function, code_query, code_test, code_argument, code_function}
use Rattle.definition.specs.Evaluation.{truth, eval_query, eval_test, eval_argument, eval_function}
use Rattle.basics.specs.Bools.{and_left, and_right}
use Rattle.eval_laws.specs.Bytes.{Holds, holds_in, holds_first, holds_second, holds_head, holds_is}
use Rattle.eval_laws.specs.Items.{TestAt}
use Rattle.eval_laws.specs.Operations.{Result, Does, Operation, Ask, Op, Held, held, table, asked, ask_of, argument_ops, function_ops, test_ops, right_kind, pool_op, code_op, literal_kind, kind, op_right, joined, does, takes, result, top, under, put, result_by, effect}
use Rattle.eval_laws.specs.Operations.Result.{a_value, an_answer}
use Rattle.eval_laws.specs.Operations.Operation.{length_op, truth_op, not_op, compare_op, regex_op}
use Rattle.eval_laws.specs.Operations.Ask.{for_test, for_count, for_value, for_first}
use Rattle.eval_laws.specs.Operations.Op.{query_op, literal_op, right_op, plain_op}

-- ---- an item where it stands

-- as many values stand on a stack as there are registers, at most
abbrev pub registers : ℕ
registers = 2

-- The stack has the n values that are taken: with room for a value that is given, and nothing below them where an answer is given.
unfoldable pub Fits : Result → ℕ → List Value → Type 0
Fits (a_value v) n st = (n ≤ length st) × (length st < n + registers)
Fits (an_answer b) n st = length st ≡ n

-- the first item asks nothing of a query before it
unfoldable pub Next : List Op → Type 0
Next [] = ⊥
Next (o ∷ K) = ask_of (kind o) ≡ for_first

-- behind a query of which no byte asks, no byte may ask
unfoldable pub AskBehind : Ask → List Op → Type 0
AskBehind for_test K = Unit {0}
AskBehind for_count K = Unit {0}
AskBehind for_value K = Unit {0}
AskBehind for_first K = Next K

unfoldable pub Behind : Op → List Op → Type 0
Behind (query_op m q) K = AskBehind m K
Behind (literal_op l) K = Unit {0}
Behind (right_op w b) K = Unit {0}
Behind (plain_op o) K = Unit {0}

pub record ItemAt (P L : List ℕ) (R N : Json) (q k : ℕ) (s : Held) (o : Op) (K : List Op) : Type 0 where
  pub holds : Holds P q (code_op o k)
  pub pool : Holds L k (pool_op o)
  pub right : op_right o ≡ true
  pub behind : Behind o K
  pub fits : Fits (result_by (does o R N) s) (takes (does o R N)) s.stack

-- From q up to e the items K are left, and from what is held they give what is wanted.
unfoldable pub ComesTo : (P L : List ℕ) (e : ℕ) (R N : Json) (want : Bool) → List Op → ℕ → ℕ → Held → Type 0
ComesTo P L e R N want [] q k s = (q ≡ e) × (s.acc ≡ want)
ComesTo P L e R N want (o ∷ K) q k s = ItemAt P L R N q k s o K × ComesTo P L e R N want K (q + length (code_op o k)) (k + length (pool_op o)) (effect (does o R N) s)

-- ---- first bytes

literal_next : (l : Literal) → ask_of (literal_kind l) ≡ for_first
unfolding literal_kind
literal_next null = refl
literal_next (boolean b) = refl
literal_next (integer z) = refl
literal_next (float b) = refl
literal_next (text s) = refl

query_next : (m : Ask) (q : Query) → ask_of (kind (query_op m q)) ≡ for_first
unfolding kind start_kind
query_next m (query root f) = refl
query_next m (query current f) = refl

scope_next : (s : Scope) → ask_of (scope_kind s) ≡ for_first
unfolding scope_kind
scope_next whole = refl
scope_next part = refl

mutual
  unfolding Next argument_ops kind table

  next_argument : (a : Argument) (K : List Op) → Next (argument_ops a K)
  next_argument (literal l) K = literal_next l
  next_argument (singular q) K = query_next for_first q
  next_argument (value f) K = next_function f K

  next_function : (f : Function) (K : List Op) → Next (function_ops f K)
  next_function (count_of q) K = query_next for_count q
  next_function (length_of a) K = next_argument a (plain_op length_op ∷ K)
  next_function (value_of q) K = query_next for_value q

-- ---- the items of a form

module _ (P L : List ℕ) (e : ℕ) (R N : Json) (want : Bool) where
  pub comes_at : (K : List Op) (q q' k k' : ℕ) (s : Held) → q' ≡ q → k' ≡ k → ComesTo P L e R N want K q k s → ComesTo P L e R N want K q' k' s
  comes_at K q q' k k' s a b l = rw (a, b) l

  -- one item, and then the others

  comes_query : (m : Ask) (f : Query) (K : List Op) (q k : ℕ) (a : Bool) (st : List Value) → Holds P q (code_query f k ++ (asked m).bytes) → Holds L k (pool_query f) → query_right f ≡ true → AskBehind m K
      → Fits ((asked m).gives (eval_query f R N)) 0 st → ComesTo P L e R N want K (q + length (code_query f k ++ (asked m).bytes)) (k + length (pool_query f)) (put ((asked m).gives (eval_query f R N)) a st)
      → ComesTo P L e R N want (query_op m f ∷ K) q k (held a st)
  unfolding ComesTo code_op pool_op op_right Behind does effect result_by result takes
  comes_query m f K q k a st h p r b i l = (record { holds = h; pool = p; right = r; behind = b; fits = i }, l)

  comes_plain : (o : Operation) (K : List Op) (q k : ℕ) (a : Bool) (st : List Value) → k ≤ length L → Holds P q ((table o).kind ∷ (table o).body) → Fits (result_by (table o).does (held a st)) (takes (table o).does) st
      → ComesTo P L e R N want K (q + length ((table o).kind ∷ (table o).body)) k (effect (table o).does (held a st)) → ComesTo P L e R N want (plain_op o ∷ K) q k (held a st)
  unfolding ComesTo code_op pool_op op_right Behind does Holds
  comes_plain o K q k a st f h i l =
      (record { holds = h; pool = f; right = refl; behind = tt; fits = i }, comes_at K _ _ k _ _ refl (omega arith) l)

  comes_right : (w : Bool) (b : Test) (K : List Op) (q k : ℕ) (a : Bool) → Holds P q (framed (right_kind w) (code_test b k)) → Holds L k (pool_test b) → test_right b ≡ true
      → ComesTo P L e R N want K (q + length (framed (right_kind w) (code_test b k))) (k + length (pool_test b)) (held (joined w a (eval_test b R N)) [])
      → ComesTo P L e R N want (right_op w b ∷ K) q k (held a [])
  unfolding ComesTo code_op pool_op op_right Behind does effect result_by result takes put Fits
  comes_right w b K q k a h p r l = (record { holds = h; pool = p; right = r; behind = tt; fits = refl }, l)

  mutual
    unfolding ComesTo argument_ops code_argument pool_argument argument_right eval_argument code_op pool_op op_right Behind AskBehind does effect result_by result takes top put Fits table Next kind

    -- an argument leaves its value on the stack
    comes_argument : (a : Argument) (K : List Op) (q k : ℕ) (acc : Bool) (st : List Value) → Holds P q (code_argument a k) → Holds L k (pool_argument a) → argument_right a ≡ true → length st < registers → Next K
        → ComesTo P L e R N want K (q + length (code_argument a k)) (k + length (pool_argument a)) (held acc (eval_argument a R N ∷ st)) → ComesTo P L e R N want (argument_ops a K) q k (held acc st)
    comes_argument (literal l) K q k acc st h p r s n t = (record { holds = h; pool = p; right = r; behind = tt; fits = (omega arith, omega arith) }, t)
    comes_argument (singular f) K q k acc st h p r s n t =
        let c = append-nil (code_query f k) in
        comes_query for_first f K q k acc st (holds_is P q (code_query f k) _ c h) p (and_right (is_singular f) (query_right f) r) n (omega arith, omega arith)
        (comes_at K _ _ _ _ _ (ap (λ (z : List ℕ). q + length z) c) refl t)
    comes_argument (value f) K q k acc st h p r s n t = comes_function f K q k acc st h p r s t

    comes_function : (f : Function) (K : List Op) (q k : ℕ) (acc : Bool) (st : List Value) → Holds P q (code_function f k) → Holds L k (pool_function f) → function_right f ≡ true → length st < registers
        → ComesTo P L e R N want K (q + length (code_function f k)) (k + length (pool_function f)) (held acc (eval_function f R N ∷ st)) → ComesTo P L e R N want (function_ops f K) q k (held acc st)
    comes_function (count_of f) K q k acc st h p r s t = comes_query for_count f K q k acc st h p r tt (omega arith, omega arith) t
    comes_function (length_of a) K q k acc st h p r s t =
        comes_argument a (plain_op length_op ∷ K) q k acc st (holds_first P q (code_argument a k) _ h) p r s refl
        (comes_plain length_op K (q + length (code_argument a k)) (k + length (pool_argument a)) acc (eval_argument a R N ∷ st) (holds_in L k (pool_argument a) p) (holds_second P q (code_argument a k) _ h) (omega arith, omega arith)
        (comes_at K _ _ _ _ _ (omega (arith, length-append (code_argument a k) (0x1A ∷ []))) refl t))
    comes_function (value_of f) K q k acc st h p r s t = comes_query for_value f K q k acc st h p r tt (omega arith, omega arith) t

  -- two arguments and an operation that takes both and gives an answer
  comes_two : (a b : Argument) (o : Operation) (K : List Op) (q k : ℕ) (acc : Bool)
      → Holds P q (code_argument a k ++ (code_argument b (k + length (pool_argument a)) ++ ((table o).kind ∷ (table o).body))) → Holds L k (pool_argument a ++ pool_argument b) → (argument_right a && argument_right b) ≡ true
      → ask_of (table o).kind ≡ for_first → Fits (result_by (table o).does (held acc (eval_argument b R N ∷ eval_argument a R N ∷ []))) (takes (table o).does) (eval_argument b R N ∷ eval_argument a R N ∷ [])
      → ComesTo P L e R N want K (q + length (code_argument a k ++ (code_argument b (k + length (pool_argument a)) ++ ((table o).kind ∷ (table o).body)))) (k + length (pool_argument a ++ pool_argument b))
      (effect (table o).does (held acc (eval_argument b R N ∷ eval_argument a R N ∷ [])))
      → ComesTo P L e R N want (argument_ops a (argument_ops b (plain_op o ∷ K))) q k (held acc [])
  unfolding Next kind
  comes_two a b o K q k acc h p r n i l =
      let ca = code_argument a k in
      let pa = pool_argument a in
      let pb = pool_argument b in
      let cb = code_argument b (k + length pa) in
      let co : List ℕ = (table o).kind ∷ (table o).body in
      let h2 = holds_second P q ca (cb ++ co) h in
      let x = eval_argument a R N in
      comes_argument a (argument_ops b (plain_op o ∷ K)) q k acc [] (holds_first P q ca (cb ++ co) h) (holds_first L k pa pb p) (and_left (argument_right a) (argument_right b) r) (omega arith) (next_argument b _)
      (comes_argument b (plain_op o ∷ K) (q + length ca) (k + length pa) acc (x ∷ []) (holds_first P _ cb co h2) (holds_second L k pa pb p) (and_right (argument_right a) (argument_right b) r) (omega arith) n
      (comes_plain o K (q + length ca + length cb) (k + length pa + length pb) acc (eval_argument b R N ∷ x ∷ []) (omega (arith, holds_in L k (pa ++ pb) p, length-append pa pb)) (holds_second P _ cb co h2) i
      (comes_at K _ _ _ _ _ (omega (arith, length-append ca (cb ++ co), length-append cb co)) (omega (arith, length-append pa pb)) l)))

  -- a test leaves its answer
  pub comes_test : (t : Test) (K : List Op) (q k : ℕ) (acc : Bool) → TestAt P L q k t → ComesTo P L e R N want K (q + length (code_test t k)) (k + length (pool_test t)) (held (eval_test t R N) [])
      → ComesTo P L e R N want (test_ops t K) q k (held acc [])
  unfolding test_ops code_test pool_test test_right eval_test table AskBehind effect result_by result takes top under put Fits joined right_kind
  comes_test (exists f) K q k acc t l = comes_query for_test f K q k acc [] t.holds t.pool t.right tt refl l
  comes_test (compare o a b) K q k acc t l = comes_two a b (compare_op o) K q k acc t.holds t.pool t.right refl refl l
  comes_test (regex s a b) K q k acc t l = comes_two a b (regex_op s) K q k acc t.holds t.pool t.right (scope_next s) refl l
  comes_test (Test.not u) K q k acc t l =
      let c = code_test u k in
      comes_test u (plain_op not_op ∷ K) q k acc (record { holds = holds_first P q c _ t.holds; pool = t.pool; right = t.right })
      (comes_plain not_op K (q + length c) (k + length (pool_test u)) (eval_test u R N) [] (holds_in L k (pool_test u) t.pool) (holds_second P q c _ t.holds) refl
      (comes_at K _ _ _ _ _ (omega (arith, length-append c (0x15 ∷ []))) refl l))
  comes_test (not_value f) K q k acc t l =
      let c = code_function f k in
      let h = holds_second P q c _ t.holds in
      comes_function f (plain_op truth_op ∷ plain_op not_op ∷ K) q k acc [] (holds_first P q c _ t.holds) t.pool t.right (omega arith)
      (comes_plain truth_op (plain_op not_op ∷ K) (q + length c) (k + length (pool_function f)) acc (eval_function f R N ∷ []) (holds_in L k (pool_function f) t.pool) (holds_first P (q + length c) (0x18 ∷ []) (0x15 ∷ []) h) refl
      (comes_plain not_op K _ (k + length (pool_function f)) (truth (eval_function f R N)) [] (holds_in L k (pool_function f) t.pool) (holds_second P (q + length c) (0x18 ∷ []) (0x15 ∷ []) h) refl
      (comes_at K _ _ _ _ _ (omega (arith, length-append c (0x18 ∷ 0x15 ∷ []))) refl l)))
  comes_test (both a b) K q k acc t l =
      let c = code_test a k in
      let d = framed 0x16 (code_test b (k + length (pool_test a))) in
      comes_test a (right_op true b ∷ K) q k acc (record { holds = holds_first P q c d t.holds; pool = holds_first L k (pool_test a) _ t.pool; right = and_left (test_right a) (test_right b) t.right })
      (comes_right true b K (q + length c) (k + length (pool_test a)) (eval_test a R N) (holds_second P q c d t.holds) (holds_second L k (pool_test a) _ t.pool) (and_right (test_right a) (test_right b) t.right)
      (comes_at K _ _ _ _ _ (omega (arith, length-append c d)) (omega (arith, length-append (pool_test a) (pool_test b))) l))
  comes_test (either a b) K q k acc t l =
      let c = code_test a k in
      let d = framed 0x17 (code_test b (k + length (pool_test a))) in
      comes_test a (right_op false b ∷ K) q k acc (record { holds = holds_first P q c d t.holds; pool = holds_first L k (pool_test a) _ t.pool; right = and_left (test_right a) (test_right b) t.right })
      (comes_right false b K (q + length c) (k + length (pool_test a)) (eval_test a R N) (holds_second P q c d t.holds) (holds_second L k (pool_test a) _ t.pool) (and_right (test_right a) (test_right b) t.right)
      (comes_at K _ _ _ _ _ (omega (arith, length-append c d)) (omega (arith, length-append (pool_test a) (pool_test b))) l))
