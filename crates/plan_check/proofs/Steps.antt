-- The laws that every reader of a part shares: a part that is read in two pieces, and one part that is made of another. Assumes nothing.
use Prim.Native.Nat.{ℕ, suc, max, ◌+◌, ◌≤◌}
use native.Mathlib.Omega.{arith}
use mathlib.Core.Path.{◌≡◌, sym, ap, subst, ◌∙◌}
use mathlib.Core.List.{List}
use mathlib.Core.Bool.{true}
use lib.ListN.{length, drop, length-drop}
use Rattle.definition.specs.Limits.{max_plan}
use Rattle.plan_laws.specs.Parts.{Part, Spelt, Unique, plan_rest, pool_rest, move}
use Rattle.plan_laws.specs.Queries.{framed_part, selector_part, unique_framed, unique_selector}
use Rattle.plan_laws.specs.Operands.{basis_part, operand_part, unique_basis, unique_operand}
use Rattle.plan_laws.specs.Relations.{relations, unique_relations}
use Rattle.plan_laws.specs.Tests.{base_part, unique_base}
use Rattle.plan_laws.specs.One.{tests_once}
use Rattle.plan_items.specs.Readings.{Asks, Read, NoPart, Post, next, stop, AnyPool}
use Rattle.plan_items.specs.declared.Got.{Got}
use Rattle.std.specs.Prelude.{Option, Some, None}

-- ---- what is spelled in one way only, in every plan that is short enough

pub once_framed : Unique framed_part (suc max_plan)
once_framed = unique_framed (omega arith) tests_once

pub once_selector : Unique selector_part (suc max_plan)
once_selector = unique_selector (omega arith) tests_once

pub once_basis : Unique basis_part (suc max_plan)
once_basis = unique_basis (omega arith) tests_once

pub once_operand : Unique operand_part (suc max_plan)
once_operand = unique_operand (omega arith) tests_once

pub once_relation : Unique relations (suc max_plan)
once_relation = unique_relations (suc max_plan)

pub once_base : Unique base_part (suc max_plan)
once_base = unique_base (omega arith) tests_once

-- ---- a part that was read is the only one

-- the plan and the pool are short enough
pub record Short (S L : List ℕ) : Type 0 where
  pub small : length S ≤ max_plan
  pub few : length L ≤ max_plan

pub short_of : {S L : List ℕ} {at p room : ℕ} → Asks S L at p room → Short S L
short_of w = record { small = w.small; few = w.few }

-- what is known of a part that is spelled where one was read
pub record Same {X : Type 0} (F : Part X) (S L : List ℕ) (p : ℕ) (y : X) (g : Got) (x : X) (r m : List ℕ) : Type 0 where
  pub is : y ≡ x
  pub plan : r ≡ drop g.at S
  pub pool : m ≡ drop g.p L
  pub place : p + length (F.pool x) ≡ g.p
  pub nest : g.h ≡ F.nest x
  pub sort : g.sort ≡ F.sort x

pub read_same : {X : Type 0} {F : Part X} {room room' at p : ℕ} {S L : List ℕ} {g : Got} → Unique F (suc max_plan) → Short S L → (rd : Read F room S L at p g) → {x : X} {r m : List ℕ} → Spelt F room' (drop at S) (drop p L) p x r m → Same F S L p rd.form g x r m
read_same {F = F} {at = at} {p = p} {S = S} {L = L} once w rd {x = x} u =
    let a = length-drop at S in
    let b = length-drop p L in
    let c = w.small in
    let d = w.few in
    let e = once.same rd.form x (omega arith) (omega arith) rd.spelt u in
    record {
      is = e;
      plan = sym (plan_rest rd.spelt u e);
      pool = sym (pool_rest rd.spelt u e);
      place = ap (λ y. p + length (F.pool y)) (sym e) ∙ sym rd.grown;
      nest = rd.nest ∙ ap F.nest e;
      sort = rd.sort ∙ ap F.sort e;
    }

-- what stands behind a part stands behind what was read
pub behind_same : {X Y : Type 0} {F : Part X} {G : Part Y} {room p : ℕ} {S L r m r₁ m₁ : List ℕ} {g : Got} {y x : X} {z : Y} → Same F S L p y g x r m → Spelt G room r m (p + length (F.pool x)) z r₁ m₁ → Spelt G room (drop g.at S) (drop g.p L) g.p z r₁ m₁
behind_same e v = move v e.plan e.pool e.place

-- the same part, with the same behind it
pub respell : {X : Type 0} {F : Part X} {room p : ℕ} {s l r r' m : List ℕ} {x x' : X} → x ≡ x' → r ≡ r' → Spelt F room s l p x r m → Spelt F room s l p x' r' m
respell {F = F} {room = room} {p = p} {s = s} {l = l} {r' = r'} {m = m} {x = x} e f u = subst (λ y. Spelt F room s l p y r' m) e (subst (λ q. Spelt F room s l p x q m) f u)

-- ---- a part that is made of one that stands further on

pub record Maps {X Y : Type 0} (F : Part X) (G : Part Y) (room : ℕ) (S L : List ℕ) (at p at' p' : ℕ) : Type 0 where
  pub make : X → Y
  pub there : (x : X) (r m : List ℕ) → Spelt F room (drop at' S) (drop p' L) p' x r m → Spelt G room (drop at S) (drop p L) p (make x) r m
  pub back : (y : Y) (r m : List ℕ) → Spelt G room (drop at S) (drop p L) p y r m → (x : X) × Spelt F room (drop at' S) (drop p' L) p' x r m
  pub pool : (x : X) → F.right x ≡ true → p' + length (F.pool x) ≡ p + length (G.pool (make x))
  pub nest : (x : X) → F.right x ≡ true → F.nest x ≡ G.nest (make x)
  pub sort : (x : X) → F.right x ≡ true → F.sort x ≡ G.sort (make x)
  pub from : at ≤ at'

pub maps : {X Y : Type 0} {F : Part X} {G : Part Y} {room at p at' p' : ℕ} {S L : List ℕ} {r : Option Got} → Maps F G room S L at p at' p' → Post F room S L at' p' r → Post G room S L at p r
maps b (next {g = g} rd) =
    let f = rd.from in
    let h = b.from in
    next {g = g} (record {
      form = b.make rd.form;
      spelt = b.there rd.form _ _ rd.spelt;
      from = omega arith;
      to = rd.to;
      grown = rd.grown ∙ b.pool rd.form rd.spelt.right;
      held = rd.held;
      nest = rd.nest ∙ b.nest rd.form rd.spelt.right;
      sort = rd.sort ∙ b.sort rd.form rd.spelt.right;
    })
maps b (stop n) = stop (record { none = λ y r m u. let v = b.back y r m u in n.none v.0 r m v.1 })

-- ---- an answer taken apart

pub read_of : {X : Type 0} {F : Part X} {room at p : ℕ} {S L : List ℕ} {r : Option Got} {g : Got} → Post F room S L at p r → r ≡ Some g → Read F room S L at p g
read_of {g = g} (next {g = g'} rd) e = let f : g' ≡ g = cc in rw f at rd
read_of (stop n) e = absurd (let z : ◌≡◌ {A = ℕ} 0 1 = cc in omega arith)

pub none_of : {X : Type 0} {F : Part X} {room at p : ℕ} {S L : List ℕ} {r : Option Got} → Post F room S L at p r → r ≡ None → NoPart F room S L at p
none_of (next {g = g'} rd) e = absurd (let z : ◌≡◌ {A = ℕ} 0 1 = cc in omega arith)
none_of (stop n) e = n

-- where the next reader begins
pub asks_on : {X : Type 0} {F : Part X} {room at p : ℕ} {S L : List ℕ} {g : Got} → Asks S L at p room → Read F room S L at p g → Asks S L g.at g.p room
asks_on w rd = record { plan = rd.to; pool = rd.held; small = w.small; few = w.few; deep = w.deep }

-- how deep it may nest
pub low_of : {X : Type 0} {F : Part X} {room at p : ℕ} {S L : List ℕ} {g : Got} → Read F room S L at p g → g.h ≤ room
low_of rd = let a = rd.nest in let b = rd.spelt.low in omega arith

-- ---- the greatest of three numbers

pub max_three : (a b c : ℕ) → max (max a b) c ≡ max a (max b c)
max_three a b c = omega arith

-- ---- a part without texts that was read, whatever the pool

pub small_read : {X : Type 0} {F : Part X} {S L : List ℕ} {at p room : ℕ} {r : Option Got} {g : Got} → AnyPool F S at p r → r ≡ Some g → p ≤ length L → Read F room S L at p g
small_read {L = L} {room = room} a e h = read_of (a.any L room h) e

pub small_none : {X : Type 0} {F : Part X} {S : List ℕ} {at p : ℕ} {r : Option Got} → AnyPool F S at p r → r ≡ None → AnyPool F S at p None
small_none {F = F} {S = S} {at = at} {p = p} a e = subst (λ r. AnyPool F S at p r) e a
