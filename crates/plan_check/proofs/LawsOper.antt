-- The laws of the readers of operands and of what stands behind the first of two values. Assumes nothing.
use Prim.Native.Nat.{ℕ, max, ◌+◌, ◌≤◌, ◌<◌}
use native.Mathlib.Nat.{le-max_right}
use native.Mathlib.Omega.{arith}
use mathlib.Core.Path.{◌≡◌, refl, sym, ap, ap₂, ◌∙◌}
use mathlib.Core.List.{List, ◌∷◌, ◌++◌, append_assoc}
use mathlib.Core.Bool.{true}
use borrow.Author.Tests.{ltb-true, lt-ltb}
use lib.Dec.{ltb}
use lib.ListN.{length, drop}
use Rattle.definition.specs.Forms.{Literal, Segments, is_singular}
use Rattle.definition.specs.Forms as F
use Rattle.definition.specs.Forms.Start.{root, current}
use Rattle.definition.specs.Forms.Query.{query}
use Rattle.definition.specs.QueryForms.{argument_right, nesting, nesting_argument}
use Rattle.definition.specs.Plans.{start_kind, pool_query, pool_argument, code_argument}
use Rattle.basics.specs.Bools.{and_left, and_right, both_true}
use Rattle.basics.specs.Lists.{same_tail}
use Rattle.plan_laws.specs.Parts.{Spelt, move}
use Rattle.plan_laws.specs.Leaves.{literals, literal_begins}
use Rattle.plan_laws.specs.Queries.{segments_part, into_query, from_query, start_low}
use Rattle.plan_laws.specs.Operands.{Operand, pool_operand, nesting_operand, sort_operand, operand_part, Basis, basis_literal, basis_query, as_operand, basis_part, into_literal, from_literal, into_basis, from_basis, Call, calls_right, sort_calls, calls_part, called_all, all_calls, into_operand, from_operand, argument_operand, argument_code, argument_pool, argument_nest, argument_stays_right, as_argument}
use Rattle.plan_laws.specs.Relations.{relation_code, relation_deep, relations, relation_low, relation_no_call}
use Rattle.plan_items.specs.Readings.{Kind, Read, NoPart, Post, next, stop, AnyRoom, PostCalls}
use Rattle.plan_items.specs.declared.Got.{Got}
use Rattle.std.specs.Prelude.{Option, Some, None}
use Rattle.plan_items.proofs.Words.{kind_at, kind_not}
use Rattle.plan_items.proofs.Called.{Behind, behind}
use Rattle.plan_check.specs.Loops.{Side, side_part}
use Rattle.plan_check.proofs.Steps.{Short, once_basis, once_operand, once_relation, read_same, behind_same, respell, Maps, maps}

-- ---- what an operand begins with

module _ {room at p : ℕ} {S L : List ℕ} where
  query_behind : (b : F.Start) → drop at S ≡ start_kind b ∷ drop (at + 1) S → Behind segments_part basis_part room S L at p
  unfolding pool_query nesting is_singular
  query_behind b f = record { make = λ q. basis_query (query b q); there = λ q r m u. from_basis (from_query (record { start = drop (at + 1) S; is = f; rest = u })); back = back; pool = λ x. refl; nest = λ x. refl; sort = λ x. refl }
    where
      back : (y : Basis) (r m : List ℕ) → Spelt basis_part room (drop at S) (drop p L) p y r m → (q : Segments) × Spelt segments_part room (drop (at + 1) S) (drop p L) p q r m
      back (basis_literal x) r m u =
          let h = literal_begins x p in
          let g = (into_literal u).plan ∙ ap (λ c. c ++ r) h.2 in
          let e : h.0 ≡ start_kind b = cc in
          let i = h.3 in
          let j = (start_low b).1 in
          absurd (omega arith)
      back (basis_query (query b' q)) r m u = let h = into_query (into_basis u) in (q, move h.rest (same_tail h.is f) refl refl)

  literal_same : {k : ℕ} → Kind S at k → (k ≡ 0x01 → ⊥) → (k ≡ 0x02 → ⊥) → Maps literals basis_part room S L at p at p
  unfolding start_kind
  literal_same e a b = record { make = basis_literal; there = λ x r m u. from_literal u; back = back; pool = λ x _. refl; nest = λ x _. refl; sort = λ x _. refl; from = omega arith }
    where
      back : (y : Basis) (r m : List ℕ) → Spelt basis_part room (drop at S) (drop p L) p y r m → (x : Literal) × Spelt literals room (drop at S) (drop p L) p x r m
      back (basis_literal x) r m u = (x, into_literal u)
      back (basis_query (query root q)) r m u = absurd (kind_not e 0x01 a (into_query (into_basis u)).is)
      back (basis_query (query current q)) r m u = absurd (kind_not e 0x02 b (into_query (into_basis u)).is)

module _ {S L : List ℕ} {at p room k : ℕ} {r : Option Got} (e : Kind S at k) where
  pub basis_root : k ≡ 0x01 → Post segments_part room S L (at + 1) p r → Post basis_part room S L at p r
  unfolding start_kind
  basis_root f a = behind (query_behind root (kind_at e f)) a

  pub basis_current : k ≡ 0x02 → Post segments_part room S L (at + 1) p r → Post basis_part room S L at p r
  unfolding start_kind
  basis_current f a = behind (query_behind current (kind_at e f)) a

  pub basis_literal_lem : (k ≡ 0x01 → ⊥) → (k ≡ 0x02 → ⊥) → AnyRoom literals S L at p r → Post basis_part room S L at p r
  basis_literal_lem f g a = maps (literal_same e f g) (a.any room)

-- ---- an operand with its calls

-- calls on an operand of one depth and sort are calls on one of the same
recall : {room p : ℕ} {s l r m : List ℕ} {cs : List Call} (h h' σ σ' : ℕ) → h ≡ h' → σ ≡ σ' → Spelt (calls_part h σ) room s l p cs r m → Spelt (calls_part h' σ') room s l p cs r m
recall {cs = cs} h h' σ σ' e f u = record { plan = u.plan; pool = u.pool; right = ap (λ o. calls_right o cs) (sym f) ∙ u.right; low = let z = u.low in omega arith; may = u.may }

module _ {S L : List ℕ} {at p room : ℕ} (w : Short S L) {g : Got} (rd : Read basis_part room S L at p g) where
  calls_behind : Maps (calls_part g.h g.sort) operand_part room S L at p g.at g.p
  calls_behind = record { make = λ cs. called_all cs b; there = there; back = back; pool = pool; nest = nest; sort = sort; from = rd.from }
    where
      b : Operand
      b = as_operand rd.form

      there : (cs : List Call) (r m : List ℕ) → Spelt (calls_part g.h g.sort) room (drop g.at S) (drop g.p L) g.p cs r m → Spelt operand_part room (drop at S) (drop p L) p (called_all cs b) r m
      there cs r m u =
          let v = rd.spelt in
          let first : Spelt basis_part room (drop at S) (drop p L) p rd.form (drop g.at S) m = record { plan = v.plan; pool = v.pool ∙ ap (λ o. pool_operand b ++ o) u.pool; right = v.right; low = v.low; may = refl } in
          from_operand first (recall g.h (nesting_operand b) g.sort (sort_operand b) rd.nest rd.sort (move u refl u.pool refl))

      back : (y : Operand) (r m : List ℕ) → Spelt operand_part room (drop at S) (drop p L) p y r m → (cs : List Call) × Spelt (calls_part g.h g.sort) room (drop g.at S) (drop g.p L) g.p cs r m
      back y r m u =
          let i = into_operand u in
          let j = read_same once_basis w rd i.first in
          let c = as_operand i.basis in
          (i.calls, recall (nesting_operand c) g.h (sort_operand c) g.sort (sym j.nest) (sym j.sort) (behind_same j i.rest))

      all : (cs : List Call) → calls_right g.sort cs ≡ true → calls_right (sort_operand b) cs ≡ true
      all cs h = ap (λ o. calls_right o cs) (sym rd.sort) ∙ h

      pool : (cs : List Call) → calls_right g.sort cs ≡ true → g.p + 0 ≡ p + length (pool_operand (called_all cs b))
      pool cs h = let k = ap length (all_calls cs b (all cs h) rd.spelt.right).pool in let z = rd.grown in omega arith

      nest : (cs : List Call) → calls_right g.sort cs ≡ true → g.h + length cs ≡ nesting_operand (called_all cs b)
      nest cs h = let k = (all_calls cs b (all cs h) rd.spelt.right).nest in let z = rd.nest in omega arith

      sort : (cs : List Call) → calls_right g.sort cs ≡ true → sort_calls g.sort cs ≡ sort_operand (called_all cs b)
      sort cs h = ap (λ o. sort_calls o cs) rd.sort ∙ sym (all_calls cs b (all cs h) rd.spelt.right).sort

  pub oper_next : {r : Option Got} → PostCalls S g room r → Post operand_part room S L at p r
  oper_next a = maps calls_behind (a.any L rd.held)

pub oper_none : {S L : List ℕ} {at p room : ℕ} → NoPart basis_part room S L at p → Post operand_part room S L at p None
oper_none x = stop (record { none = λ y r m u. let i = into_operand u in x.none i.basis i.plan m i.first })

-- ---- the second of two values

pub record InSide (h σ room : ℕ) (s l : List ℕ) (p : ℕ) (x : Side) (r m : List ℕ) : Type 0 where
  pub operand : Spelt operand_part room s l p (argument_operand x.argument) (relation_code x.relation ++ r) m
  pub left : 1 ≤ σ
  pub right : argument_right x.argument ≡ true
  pub deep : relation_deep x.relation + max h (nesting_argument x.argument) ≤ room

pub into_side : (h σ : ℕ) {room p : ℕ} {s l r m : List ℕ} {x : Side} → Spelt (side_part h σ) room s l p x r m → InSide h σ room s l p x r m
into_side h σ {room} {p} {r = r} {m = m} {x = x} u =
    let a = x.argument in
    let tail = relation_code x.relation in
    let y = and_right (ltb 0 σ) (argument_right a) u.right in
    let c = le-max_right h (nesting_argument a) in
    let d : relation_deep x.relation + max h (nesting_argument a) ≤ room = u.low in
    let n = argument_nest a in
    record {
      operand = record { plan = u.plan ∙ append_assoc (code_argument a p) tail r ∙ ap (λ o. o ++ (tail ++ r)) (argument_code a p); pool = u.pool ∙ ap (λ o. o ++ m) (argument_pool a); right = (argument_stays_right a y).0; low = omega arith; may = relation_no_call x.relation r };
      left = ltb-true 0 σ (and_left (ltb 0 σ) (argument_right a) u.right);
      right = y;
      deep = d;
    }

pub from_side : (h σ : ℕ) {room p : ℕ} {s l r m : List ℕ} {x : Side} → InSide h σ room s l p x r m → Spelt (side_part h σ) room s l p x r m
from_side h σ {room} {p} {r = r} {m = m} {x = x} i =
    let a = x.argument in
    let tail = relation_code x.relation in
    record {
      plan = i.operand.plan ∙ sym (append_assoc (code_argument a p) tail r ∙ ap (λ o. o ++ (tail ++ r)) (argument_code a p));
      pool = i.operand.pool ∙ ap (λ o. o ++ m) (sym (argument_pool a));
      right = both_true (lt-ltb 0 σ i.left) i.right;
      low = i.deep;
      may = refl;
    }

-- what is asked adds one level at most
pub relation_small : {S L : List ℕ} {room at p : ℕ} {c : Got} → Read relations room S L at p c → c.sort ≤ 1
relation_small rc = omega (arith, rc.sort, relation_low rc.form)

module _ {S L : List ℕ} {room at p : ℕ} (h σ : ℕ) where
  pub side_flat : σ ≡ 0 → Post (side_part h σ) room S L at p None
  side_flat e = stop (record { none = λ x r m u. let a = (into_side h σ u).left in omega arith })

  pub side_none : NoPart operand_part room S L at p → Post (side_part h σ) room S L at p None
  side_none y = stop (record { none = λ x r m u. y.none _ _ m (into_side h σ u).operand })

  module _ (w : Short S L) {b : Got} (rd : Read operand_part room S L at p b) where
    pub side_plural : b.sort ≡ 0 → Post (side_part h σ) room S L at p None
    side_plural e = stop (record {
      none = λ x r m u.
          let i = into_side h σ u in
          let j = (read_same once_operand w rd i.operand).sort in
          let k = (argument_stays_right x.argument i.right).1 in
          omega arith;
    })

    -- what is asked stands behind the second value
    asked : (x : Side) (r m : List ℕ) → Spelt (side_part h σ) room (drop at S) (drop p L) p x r m → Spelt relations room (drop b.at S) (drop b.p L) b.p x.relation r (drop b.p L)
    asked x r m u = record { plan = sym (read_same once_operand w rd (into_side h σ u).operand).plan; pool = refl; right = refl; low = omega arith; may = refl }

    pub side_unasked : NoPart relations room S L b.at b.p → Post (side_part h σ) room S L at p None
    side_unasked y = stop (record { none = λ x r m u. y.none x.relation r (drop b.p L) (asked x r m u) })

    module _ {c : Got} (rc : Read relations room S L b.at b.p c) {h' : ℕ} (eh : h' ≡ c.sort + max h b.h) where
      pub side_deep : room < h' → Post (side_part h σ) room S L at p None
      side_deep l = stop (record {
        none = λ x r m u.
            let i = into_side h σ u in
            let j = (read_same once_operand w rd i.operand).nest in
            let k = (read_same once_relation w rc (asked x r m u)).sort in
            let d = i.deep in
            let n = argument_nest x.argument in
            let q : h' ≡ relation_deep x.relation + max h (nesting_argument x.argument) = eh ∙ ap₂ (λ (y z : ℕ). y + max h z) k (j ∙ sym n) in
            omega arith;
      })

      pub side_found : (σ ≡ 0 → ⊥) → (b.sort ≡ 0 → ⊥) → h' ≤ room → Post (side_part h σ) room S L at p (Some (record { at = c.at; p = b.p; h = h'; sort = 0 }))
      side_found ns nb low =
          let s = rd.sort in
          let v = as_argument rd.form rd.spelt.right (omega arith) in
          let x : Side = record { argument = v.argument; relation = rc.form } in
          let f1 = rd.from in
          let f2 = rc.from in
          let pl : pool_argument v.argument ≡ pool_operand rd.form = argument_pool v.argument ∙ ap pool_operand v.is in
          let ne : nesting_argument v.argument ≡ nesting_operand rd.form = argument_nest v.argument ∙ ap nesting_operand v.is in
          let q : h' ≡ relation_deep rc.form + max h (nesting_argument v.argument) = eh ∙ ap₂ (λ (y z : ℕ). y + max h z) rc.sort (rd.nest ∙ sym ne) in
          next {g = record { at = c.at; p = b.p; h = h'; sort = 0 }} (record {
            form = x;
            spelt = from_side h σ (record { operand = respell (sym v.is) rc.spelt.plan rd.spelt; left = omega arith; right = v.right; deep = omega arith });
            from = omega arith;
            to = rc.to;
            grown = rd.grown ∙ ap (λ q. p + length q) (sym pl);
            held = rd.held;
            nest = q;
            sort = refl;
          })
