-- The laws of the readers of tests: what a test begins with, and the nots and right operands behind it. Assumes nothing.
use Prim.Native.Nat.{ℕ, suc, max, ◌+◌, ◌≤◌, ◌<◌}
use native.Mathlib.Nat.{max-le}
use native.Mathlib.Omega.{arith}
use mathlib.Core.Path.{◌≡◌, refl, sym, ap, subst, ◌∙◌}
use mathlib.Core.List.{List, ◌∷◌, ◌++◌}
use mathlib.Core.Bool.{Bool, true, false, cond, ◌&&◌}
use lib.Dec.{ltb}
use lib.ListN.{length, drop, length-append, length-drop, drop_of_length-le}
use Rattle.definition.specs.Forms.{Query, Function, Argument, Test, is_singular}
use Rattle.definition.specs.Forms.Argument.{literal, singular, value}
use Rattle.definition.specs.QueryForms.{argument_right, nesting_argument, nesting_function, nesting_test}
use Rattle.definition.specs.Plans.{pool_argument, pool_test}
use Rattle.basics.specs.Lists.{not_cons, same_tail}
use Rattle.plan_laws.specs.Parts.{Spelt, move}
use Rattle.plan_laws.specs.Queries.{is_nil, test_part, framed_part}
use Rattle.plan_laws.specs.Operands.{Operand, lit, qry, fun, pool_operand, operand_right, nesting_operand, sort_operand, operand_part, argument_operand, argument_pool, argument_nest, argument_stays_right, argument_same, as_argument}
use Rattle.plan_laws.specs.Relations.{related, relation_deep, related_pool, related_nest}
use Rattle.plan_laws.specs.Tests.{Base, base_exists, base_pair, base_not, as_test, base_part, BaseOf, of_exists, of_not, of_pair, base_of, base_from, argument_no_test, Ops, op_end, op_not, op_right, right_kind, applied, nesting_ops, ops_part, pool_ops, nesting_grows, into_right, from_right, into_not, from_not, into_nothing, right_differ, applied_pool, applied_nest, into_test, from_test}
use Rattle.plan_items.specs.Readings.{Kind, Asks, Read, NoPart, Post, next, stop}
use Rattle.plan_items.specs.declared.Got.{Got}
use Rattle.std.specs.Prelude.{Option, Some, None}
use Rattle.plan_items.proofs.Words.{kind_in, kind_is, kind_at, kind_in_at, kind_not}
use Rattle.plan_check.specs.Loops.{Side, side_part, Tested, tested_query, tested_value, untested}
use Rattle.plan_check.proofs.Steps.{Short, short_of, once_framed, once_operand, once_base, read_same, behind_same, respell, Maps, maps, low_of}
use Rattle.plan_check.proofs.LawsOper.{into_side, from_side}

-- ---- what a test begins with

-- the first operand of what a test begins with
pub base_none : {S L : List ℕ} {at p room : ℕ} → NoPart operand_part room S L at p → Post base_part room S L at p None
base_none {S} {L} {at} {p} {room} x = stop (record { none = λ y r m u. go (base_of y u) })
  where
    go : {y : Base} {r m : List ℕ} → BaseOf room (drop at S) (drop p L) p r m y → ⊥
    go (of_exists q u) = x.none _ _ _ u
    go (of_not f h u) = x.none _ _ _ u
    go (of_pair o a b ra rb d u v) = x.none _ _ _ u

-- an operand as one of two values
abbrev as_side : Operand → Argument
as_side (lit l) = literal l
as_side (qry q) = singular q
as_side (fun f) = value f

side_operand : (x : Operand) → argument_operand (as_side x) ≡ x
side_operand (lit l) = refl
side_operand (qry q) = refl
side_operand (fun f) = refl

side_right : (x : Operand) → operand_right x ≡ true → 1 ≤ sort_operand x → argument_right (as_side x) ≡ true
side_right x h a = let v = as_argument x h a in ap argument_right (argument_same (as_side x) v.argument (side_operand x ∙ sym v.is)) ∙ v.right

-- a query is the operand of the sorts 0 and 1, a function that of the sort 3
query_of : (x : Operand) → sort_operand x ≤ 1 → (q : Query) × (x ≡ qry q)
query_of (lit l) h = absurd (omega arith)
query_of (qry q) h = (q, refl)
query_of (fun f) h = absurd (omega arith)

function_of : (x : Operand) → sort_operand x ≡ 3 → (f : Function) × (x ≡ fun f)
function_of (lit l) h = absurd (omega arith)
function_of (qry q) h = absurd (go (is_singular q) h)
  where
    go : (b : Bool) → ◌≡◌ {A = ℕ} (cond b 1 0) 3 → ⊥
    go true e = omega arith
    go false e = omega arith
function_of (fun f) h = (f, refl)

query_low : (q : Query) → sort_operand (qry q) ≤ 1
query_low q = go (is_singular q)
  where
    go : (b : Bool) → cond b 1 0 ≤ 1
    go true = omega arith
    go false = omega arith

module _ {S L : List ℕ} {room at p : ℕ} (w : Short S L) {a : Got} (rd : Read operand_part room S L at p a) {k : ℕ} (e : Kind S a.at k) where
  side_behind : (k ≡ 0x18 → ⊥) → Maps (side_part a.h a.sort) base_part room S L at p a.at a.p
  unfolding pool_test nesting_test
  side_behind n = record { make = λ x. base_pair x.relation left x.argument; there = there; back = λ y r m u. back (base_of y u); pool = pool; nest = nest; sort = λ x _. refl; from = rd.from }
    where
      left : Argument
      left = as_side rd.form

      deep : (x : Side) → relation_deep x.relation + max a.h (nesting_argument x.argument) ≡ relation_deep x.relation + max (nesting_argument left) (nesting_argument x.argument)
      deep x = ap (λ o. relation_deep x.relation + max o (nesting_argument x.argument)) (rd.nest ∙ sym (argument_nest left ∙ ap nesting_operand (side_operand rd.form)))

      there : (x : Side) (r m : List ℕ) → Spelt (side_part a.h a.sort) room (drop a.at S) (drop a.p L) a.p x r m → Spelt base_part room (drop at S) (drop p L) p (base_pair x.relation left x.argument) r m
      there x r m u =
          let i = into_side a.h a.sort u in
          let s = rd.sort in
          let l = i.left in
          let c = side_operand rd.form in
          base_from (of_pair x.relation left x.argument (side_right rd.form rd.spelt.right (omega arith)) i.right (subst (λ (n : ℕ). n ≤ room) (deep x) i.deep) (respell (sym c) refl rd.spelt) (move i.operand refl refl (rd.grown ∙ ap (λ o. p + length (pool_operand o)) (sym c))))

      back : {y : Base} {r m : List ℕ} → BaseOf room (drop at S) (drop p L) p r m y → (x : Side) × Spelt (side_part a.h a.sort) room (drop a.at S) (drop a.p L) a.p x r m
      back (of_exists q u) = absurd (kind_not e 0x18 n (sym (read_same once_operand w rd u).plan))
      back (of_not f h u) = absurd (kind_not e 0x18 n (sym (read_same once_operand w rd u).plan))
      back (of_pair o c d rc rd' n u v) =
          let j = read_same once_operand w rd u in
          let s = (argument_stays_right c rc).1 in
          let t = j.sort in
          let q : a.h ≡ nesting_argument c = j.nest ∙ sym (argument_nest c) in
          (record { argument = d; relation = o }, from_side a.h a.sort (record { operand = behind_same j v; left = omega arith; right = rd'; deep = subst (λ (k : ℕ). relation_deep o + max k (nesting_argument d) ≤ room) (sym q) n }))

      pl : pool_argument left ≡ pool_operand rd.form
      pl = argument_pool left ∙ ap pool_operand (side_operand rd.form)

      pool : (x : Side) → ltb 0 a.sort && argument_right x.argument ≡ true → a.p + length (pool_argument x.argument) ≡ p + length (pool_test (related x.relation left x.argument))
      pool x _ = let g = rd.grown in let i = ap length pl in let j = length-append (pool_argument left) (pool_argument x.argument) in let k = ap length (related_pool x.relation left x.argument) in omega arith

      nest : (x : Side) → ltb 0 a.sort && argument_right x.argument ≡ true → relation_deep x.relation + max a.h (nesting_argument x.argument) ≡ nesting_test (related x.relation left x.argument)
      nest x _ = deep x ∙ sym (related_nest x.relation left x.argument)

  pub base_side : {r : Option Got} → (k ≡ 0x18 → ⊥) → Post (side_part a.h a.sort) room S L a.at a.p r → Post base_part room S L at p r
  base_side n x = maps (side_behind n) x

  pub base_tested : {r : Option Got} → a.p ≤ length L → k ≡ 0x18 → Tested S a room r → Post base_part room S L at p r
  unfolding pool_test nesting_test
  base_tested q f (tested_query h) =
      let s = rd.sort in
      let v = query_of rd.form (omega arith) in
      let g = rd.from in
      next {g = record { at = a.at + 1; p = a.p; h = a.h; sort = 0 }} (record {
        form = base_exists v.0;
        spelt = base_from (of_exists v.0 (may_read v.1 (kind_at e f)));
        from = omega arith;
        to = kind_in_at e f;
        grown = rd.grown ∙ ap (λ o. p + length (pool_operand o)) v.1;
        held = q;
        nest = rd.nest ∙ ap nesting_operand v.1;
        sort = refl;
      })
    where
      may_read : {x : Operand} {t : List ℕ} → rd.form ≡ x → drop a.at S ≡ 0x18 ∷ t → Spelt operand_part room (drop at S) (drop p L) p x (0x18 ∷ t) (drop a.p L)
      may_read i j = respell i j rd.spelt
  base_tested q f (tested_value i e' l) =
      let s = rd.sort in
      let v = function_of rd.form (sym s ∙ i) in
      let g = rd.from in
      let y : a.at + 1 + 1 ≡ a.at + 2 = omega arith in
      let t : drop (a.at + 1) S ≡ 0x15 ∷ drop (a.at + 2) S = kind_is e' (omega arith) ∙ ap (λ o. 0x15 ∷ drop o S) y in
      let n : a.h ≡ nesting_function v.0 = rd.nest ∙ ap nesting_operand v.1 in
      let z = kind_in_at {j = 0x14} e' refl in
      next {g = record { at = a.at + 2; p = a.p; h = a.h + 1; sort = 0 }} (record {
        form = base_not v.0;
        spelt = base_from (of_not v.0 (omega arith) (respell v.1 (kind_at e f ∙ ap (λ o. 0x18 ∷ o) t) rd.spelt));
        from = omega arith;
        to = omega arith;
        grown = rd.grown ∙ ap (λ o. p + length (pool_operand o)) v.1;
        held = q;
        nest = omega arith;
        sort = refl;
      })
  base_tested q f (untested c d) = stop (record { none = λ y r m u. go (base_of y u) })
    where
      go : {y : Base} {r m : List ℕ} → BaseOf room (drop at S) (drop p L) p r m y → ⊥
      go (of_exists x u) = let j = (read_same once_operand w rd u).sort in let i = query_low x in c (omega arith)
      go (of_not x h u) =
          let j = read_same once_operand w rd u in
          let n = j.nest in
          d j.sort (omega arith) _ (same_tail (kind_at e f) (sym j.plan))
      go (of_pair o x y rx ry n u v) = let j = read_same once_operand w rd u in argument_no_test v (j.plan ∙ kind_at e f)

-- ---- nots and right operands

module _ {S L : List ℕ} {room at p : ℕ} (h : ℕ) where
  -- at the end of the code nothing stands behind
  pub ops_end : length S ≤ at → at ≤ length S → p ≤ length L → h ≤ room → Post (ops_part h) room S L at p (Some (record { at = at; p = p; h = h; sort = 0 }))
  ops_end a b c d = next {g = record { at = at; p = p; h = h; sort = 0 }} (record {
    form = op_end;
    spelt = record { plan = refl; pool = refl; right = refl; low = d; may = ap is_nil (drop_of_length-le S a) };
    from = omega arith;
    to = b;
    grown = omega arith;
    held = c;
    nest = refl;
    sort = refl;
  })

  module _ {k : ℕ} (e : Kind S at k) where
    pub ops_deep : k ≡ 0x15 → room ≤ h → NoPart (ops_part h) room S L at p
    ops_deep f l = record { none = go }
      where
        go : (o : Ops) (r m : List ℕ) → Spelt (ops_part h) room (drop at S) (drop p L) p o r m → ⊥
        go op_end r m u = not_cons (sym (into_nothing u).0 ∙ kind_at e f)
        go (op_not o) r m u = let a = (into_not u).rest.low in let b = nesting_grows o (suc h) in omega arith
        go (op_right d b o) r m u = right_differ d (into_right d u).is (kind_at e f)

    pub ops_not : k ≡ 0x15 → Maps (ops_part (h + 1)) (ops_part h) room S L at p (at + 1) p
    ops_not f = record { make = op_not; there = there; back = back; pool = λ o _. refl; nest = λ o _. ap (nesting_ops o) one; sort = λ o _. refl; from = omega arith }
      where
        one : h + 1 ≡ suc h
        one = omega arith

        there : (o : Ops) (r m : List ℕ) → Spelt (ops_part (h + 1)) room (drop (at + 1) S) (drop p L) p o r m → Spelt (ops_part h) room (drop at S) (drop p L) p (op_not o) r m
        there o r m u = from_not (record { start = drop (at + 1) S; is = kind_at e f; rest = subst (λ i. Spelt (ops_part i) room (drop (at + 1) S) (drop p L) p o r m) one u })

        back : (o : Ops) (r m : List ℕ) → Spelt (ops_part h) room (drop at S) (drop p L) p o r m → (x : Ops) × Spelt (ops_part (h + 1)) room (drop (at + 1) S) (drop p L) p x r m
        back op_end r m u = absurd (not_cons (sym (into_nothing u).0 ∙ kind_at e f))
        back (op_not o) r m u = let i = into_not u in (o, subst (λ j. Spelt (ops_part j) room (drop (at + 1) S) (drop p L) p o r m) (sym one) (move i.rest (same_tail i.is (kind_at e f)) refl refl))
        back (op_right d b o) r m u = absurd (right_differ d (into_right d u).is (kind_at e f))

    module _ (n : k ≡ 0x15 → ⊥) (s : 1 ≤ k) where
      module _ (d : Bool) (ek : k ≡ right_kind d) where
        pub ops_stop : NoPart framed_part room S L (at + 1) p → NoPart (ops_part h) room S L at p
        ops_stop x = record { none = go }
          where
            go : (o : Ops) (r m : List ℕ) → Spelt (ops_part h) room (drop at S) (drop p L) p o r m → ⊥
            go op_end r m u = not_cons (sym (into_nothing u).0 ∙ kind_is e s)
            go (op_not o) r m u = kind_not e 0x15 n (into_not u).is
            go (op_right d' b o) r m u = let i = into_right d' u in x.none b i.plan i.pool (move i.first (same_tail i.is (kind_is e s)) refl refl)

        pub ops_right_lem : {g : Got} {h' : ℕ} → Short S L → h' ≡ max h g.h → Read framed_part room S L (at + 1) p g → Maps (ops_part h') (ops_part h) room S L at p g.at g.p
        ops_right_lem {g} {h'} w eh rd = record { make = λ o. op_right d t o; there = there; back = back; pool = λ o _. pool o; nest = λ o _. ap (nesting_ops o) deep; sort = λ o _. refl; from = let f = rd.from in omega arith }
          where
            t : Test
            t = rd.form

            here : drop at S ≡ right_kind d ∷ drop (at + 1) S
            here = kind_is e s ∙ ap (λ o. o ∷ drop (at + 1) S) ek

            deep : h' ≡ max h (suc (nesting_test t))
            deep = eh ∙ ap (max h) rd.nest

            there : (o : Ops) (r m : List ℕ) → Spelt (ops_part h') room (drop g.at S) (drop g.p L) g.p o r m → Spelt (ops_part h) room (drop at S) (drop p L) p (op_right d t o) r m
            there o r m u = from_right d (record { start = drop (at + 1) S; plan = drop g.at S; pool = drop g.p L; is = here; first = rd.spelt; rest = subst (λ i. Spelt (ops_part i) room (drop g.at S) (drop g.p L) (p + length (pool_test t)) o r m) deep (move u refl refl rd.grown) })

            back : (o : Ops) (r m : List ℕ) → Spelt (ops_part h) room (drop at S) (drop p L) p o r m → (x : Ops) × Spelt (ops_part h') room (drop g.at S) (drop g.p L) g.p x r m
            back op_end r m u = absurd (not_cons (sym (into_nothing u).0 ∙ kind_is e s))
            back (op_not o) r m u = absurd (kind_not e 0x15 n (into_not u).is)
            back (op_right d' b o) r m u =
                let i = into_right d' u in
                let j = read_same once_framed w rd (move i.first (same_tail i.is here) refl refl) in
                let dp : max h (suc (nesting_test b)) ≡ h' = ap (λ x. max h (suc (nesting_test x))) (sym j.is) ∙ sym deep in
                (o, subst (λ x. Spelt (ops_part x) room (drop g.at S) (drop g.p L) g.p o r m) dp (behind_same j i.rest))

            pool : (o : Ops) → g.p + length (pool_ops o) ≡ p + length (pool_test t ++ pool_ops o)
            pool o = let f = rd.grown in let i = length-append (pool_test t) (pool_ops o) in omega arith

-- the kind of a right operand
abbrev pub RightOf : ℕ → Type 0
RightOf k = (d : Bool) × (k ≡ right_kind d)

-- the loop: what is right from here on is right from the start
pub record GoMore (S L : List ℕ) (room at₀ p₀ h₀ at p h : ℕ) : Type 0 where
  pub on : (r : Option Got) → Post (ops_part h) room S L at p r → Post (ops_part h₀) room S L at₀ p₀ r
  pub start : Asks S L at p room
  pub low : h ≤ room
  pub from : at₀ ≤ at

pub more_start : {S L : List ℕ} {room at p h : ℕ} → Asks S L at p room → h ≤ room → GoMore S L room at p h at p h
more_start w l = record { on = λ r x. x; start = w; low = l; from = omega arith }

module _ {S L : List ℕ} {room at₀ p₀ h₀ at p h : ℕ} (i : GoMore S L room at₀ p₀ h₀ at p h) where
  pub more_end : length S ≤ at → Post (ops_part h₀) room S L at₀ p₀ (Some (record { at = at; p = p; h = h; sort = 0 }))
  more_end l = i.on _ (ops_end h l i.start.plan i.start.pool i.low)

  module _ {k : ℕ} (e : Kind S at k) where
    pub more_deep : k ≡ 0x15 → room ≤ h → Post (ops_part h₀) room S L at₀ p₀ None
    more_deep f l = i.on None (stop (ops_deep h e f l))

    pub more_not : k ≡ 0x15 → h < room → GoMore S L room at₀ p₀ h₀ (at + 1) p (h + 1)
    more_not f l =
        let a = i.from in
        record {
          on = λ r x. i.on r (maps (ops_not h e f) x);
          start = record { plan = kind_in_at e f; pool = i.start.pool; small = i.start.small; few = i.start.few; deep = i.start.deep };
          low = omega arith;
          from = omega arith;
        }

    module _ (n : k ≡ 0x15 → ⊥) where
      pub more_none : at < length S → (k ≡ 0x16 → ⊥) → (k ≡ 0x17 → ⊥) → Post (ops_part h₀) room S L at₀ p₀ None
      more_none l a b = i.on None (stop (record { none = go }))
        where
          go : (o : Ops) (r m : List ℕ) → Spelt (ops_part h) room (drop at S) (drop p L) p o r m → ⊥
          go op_end r m u = let z = ap length (into_nothing u).0 in let y = length-drop at S in omega arith
          go (op_not o) r m u = kind_not e 0x15 n (into_not u).is
          go (op_right true x o) r m u = kind_not e 0x16 a (into_right true u).is
          go (op_right false x o) r m u = kind_not e 0x17 b (into_right false u).is

      module _ (dk : (d : Bool) × (k ≡ right_kind d)) where
        some : 1 ≤ k
        some = go dk.0 dk.1
          where
            go : (d : Bool) → k ≡ right_kind d → 1 ≤ k
            go true f = omega arith
            go false f = omega arith

        pub more_behind : Asks S L (at + 1) p room
        more_behind = record { plan = kind_in e some; pool = i.start.pool; small = i.start.small; few = i.start.few; deep = i.start.deep }

        pub more_stop : NoPart framed_part room S L (at + 1) p → Post (ops_part h₀) room S L at₀ p₀ None
        more_stop x = i.on None (stop (ops_stop h e n some dk.0 dk.1 x))

        pub more_right : {g : Got} {h' : ℕ} → h' ≡ max h g.h → Read framed_part room S L (at + 1) p g → GoMore S L room at₀ p₀ h₀ g.at g.p h'
        more_right eh rd =
            let a = i.from in
            let b = rd.from in
            record {
              on = λ r x. i.on r (maps (ops_right_lem h e n some dk.0 dk.1 (short_of i.start) eh rd) x);
              start = record { plan = rd.to; pool = rd.held; small = i.start.small; few = i.start.few; deep = i.start.deep };
              low = rw eh (max-le i.low (low_of rd));
              from = omega arith;
            }

-- ---- a whole test

pub test_none : {S L : List ℕ} {at p room : ℕ} → NoPart base_part room S L at p → Post test_part room S L at p None
test_none x = stop (record { none = λ t r m u. let i = into_test u in x.none i.base i.plan i.pool i.first })

module _ {S L : List ℕ} {at p room : ℕ} (w : Short S L) {g : Got} (rd : Read base_part room S L at p g) where
  test_behind : Maps (ops_part g.h) test_part room S L at p g.at g.p
  test_behind = record { make = λ o. applied o b; there = there; back = back; pool = λ o _. pool o; nest = λ o _. ap (nesting_ops o) rd.nest ∙ sym (applied_nest o b); sort = λ o _. refl; from = rd.from }
    where
      b : Test
      b = as_test rd.form

      there : (o : Ops) (r m : List ℕ) → Spelt (ops_part g.h) room (drop g.at S) (drop g.p L) g.p o r m → Spelt test_part room (drop at S) (drop p L) p (applied o b) r m
      there o r m u = from_test rd.spelt (subst (λ i. Spelt (ops_part i) room (drop g.at S) (drop g.p L) (p + length (pool_test b)) o r m) rd.nest (move u refl refl rd.grown))

      back : (t : Test) (r m : List ℕ) → Spelt test_part room (drop at S) (drop p L) p t r m → (o : Ops) × Spelt (ops_part g.h) room (drop g.at S) (drop g.p L) g.p o r m
      back t r m u =
          let i = into_test u in
          let j = read_same once_base w rd i.first in
          (i.ops, subst (λ x. Spelt (ops_part x) room (drop g.at S) (drop g.p L) g.p i.ops r m) (sym j.nest) (behind_same j i.rest))

      pool : (o : Ops) → g.p + length (pool_ops o) ≡ p + length (pool_test (applied o b))
      pool o = let f = rd.grown in let i = ap length (applied_pool o b) in let j = length-append (pool_test b) (pool_ops o) in omega arith

  pub test_more : {r : Option Got} → Post (ops_part g.h) room S L g.at g.p r → Post test_part room S L at p r
  test_more x = maps test_behind x

-- ---- the end of a test of an operand, in the words of the code

module _ {S : List ℕ} {a : Got} {room : ℕ} (l : 1 < a.sort) where
  pub tested_literal : (a.sort ≡ 3 → ⊥) → Tested S a room None
  tested_literal n = untested (λ h. omega arith) (λ e h t f. n e)

  module _ {k : ℕ} (e : Kind S (a.at + 1) k) where
    pub tested_alone : (k ≡ 0x15 → ⊥) → Tested S a room None
    tested_alone n = untested (λ h. omega arith) (λ i h t f. kind_not e 0x15 n f)

    pub tested_deep : room ≤ a.h → Tested S a room None
    tested_deep d = untested (λ h. omega arith) (λ i h t f. omega arith)

    pub tested_value_lem : a.sort ≡ 3 → k ≡ 0x15 → a.h < room → Tested S a room (Some (record { at = a.at + 2; p = a.p; h = a.h + 1; sort = 0 }))
    tested_value_lem i f h = tested_value i (record { is = sym f ∙ e.is }) h
