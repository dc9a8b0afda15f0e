-- How far a filter has been told of a node, as one number: the place in its code, and 65,536 more where the answer in front of that place is true. P is the plan, L the
-- pool, S the table, X the text. Assumes nothing.
use Rattle.std.specs.Prelude.{ℕ, ◌+◌, ◌-◌, ◌≤◌, ◌<◌, ◌≡◌, refl, List, [], Bool as Bits, true, false, cond, leb, eqb, length, get_or, set}
use Rattle.std.proofs.Common.{sym, ap, ◌∙◌, subst, length-set, get_or-set_same, get_or-set_other, arith, le-leb, eqb-true}
use Rattle.std.proofs.lemmas.Bool.{lt-leb, eqb-false}
use Rattle.definition.specs.Values.{Json}
use Rattle.definition.specs.Forms.{Test}
use Rattle.definition.specs.Compare.{Value}
use Rattle.definition.specs.Tables.{node_at}
use Rattle.definition.specs.Evaluation.{eval_test}
use Rattle.eval_laws.specs.ComesTo.{ComesTo}
use Rattle.eval_laws.specs.Registers.{Tops}
use Rattle.eval_laws.specs.Todos.{Todo, todo_start, todo_end, todo_to}
use Rattle.eval_filters.specs.Queries.{Within}
use Rattle.eval_filters.specs.Tests.{Left, AskRest, DoneRest}
use Rattle.eval_filters.specs.Values.{AskLeft}
use Rattle.eval_filters.specs.Kept.{Tested, AskTest, DoneTest}

unfoldable pub answer_of : ℕ → Bits
answer_of c = leb 65536 c

unfoldable pub place_of : ℕ → ℕ
place_of c = cond (leb 65536 c) (c - 65536) c

pub answer_is : (c : ℕ) → leb 65536 c ≡ answer_of c
unfolding answer_of
answer_is c = refl

pub place_yes : (c : ℕ) → 65536 ≤ c → c - 65536 ≡ place_of c
unfolding place_of
place_yes c h = rw (le-leb 65536 c h)

pub place_no : (c : ℕ) → c < 65536 → c ≡ place_of c
unfolding place_of
place_no c h = rw (lt-leb 65536 c h)

pub cell_yes : (q : ℕ) → (answer_of (q + 65536) ≡ true) × (place_of (q + 65536) ≡ q)
unfolding answer_of
cell_yes q = (le-leb 65536 (q + 65536) (omega arith), sym (place_yes (q + 65536) (omega arith)) ∙ omega arith)

pub cell_no : (q : ℕ) → q < 65536 → (answer_of q ≡ false) × (place_of q ≡ q)
unfolding answer_of
cell_no q h = (lt-leb 65536 q h, sym (place_no q h))

-- ---- what a node's cell stands for

-- where nothing is left, nothing is left at the end
pub left_ended : {P L : List ℕ} {q z : ℕ} {R N : Json} {acc : Bits} {x y : Value} {want : Bits} → z ≤ q → Todo P L q z R N acc x y want → Left P L z z R N acc want
unfolding ComesTo Tops
left_ended h d = record { K = []; k = 0; st = []; tops = tt; comes = (refl, todo_end _ _ _ _ _ _ _ _ _ _ d h) }

-- the cell of a node: what is left of the code gives the test's answer, for every form that stands from p up to z
pub record InCell (P L S X : List ℕ) (root node p z c : ℕ) : Type 0 where
  pub later : p ≤ place_of c
  pub near : place_of c ≤ z
  pub again : (t : Test) (k : ℕ) → Tested P L p z t k → Left P L (place_of c) z (node_at S X root) (node_at S X node) (answer_of c) (eval_test t (node_at S X root) (node_at S X node))

-- nothing is told
pub cell_start : {P L S X : List ℕ} {root node p z : ℕ} → AskTest P L p z → p < 65536 → InCell P L S X root node p z p
cell_start {P} {L} {S} {X} {root} {node} {p} {z} a h =
    let e = cell_no p h in
    let e1 = e.1 in
    let l = a.stands.place in
    record {
      later = omega arith;
      near = omega arith;
      again = λ t k b. todo_to P L p (place_of p) z _ _ _ _ _ _ _ _ _ e.1 e.0 refl refl (todo_start _ _ _ _ k _ _ _ _ _ t b.test b.place);
    }

-- an answer and a place that follow
pub cell_next : {P L S X : List ℕ} {root node p z c c' : ℕ} {acc : Bits} {q : ℕ} → InCell P L S X root node p z c → (answer_of c' ≡ acc) × (place_of c' ≡ q) → place_of c ≤ q → q ≤ z
    → ((want : Bits) → Left P L (place_of c) z (node_at S X root) (node_at S X node) (answer_of c) want → Left P L q z (node_at S X root) (node_at S X node) acc want) → InCell P L S X root node p z c'
cell_next {P} {L} {c' = c'} {q = q} i e l n g =
    let a = i.later in
    let e1 = e.1 in
    record {
      later = omega arith;
      near = omega arith;
      again = λ t k b. todo_to P L q (place_of c') _ _ _ _ _ _ _ _ _ _ e.1 e.0 refl refl (g _ (i.again t k b));
    }

module _ {P L S X : List ℕ} {root node p z c : ℕ} (i : InCell P L S X root node p z c) (a : AskTest P L p z) where
  -- what is left of the code goes by registers
  pub cell_rest : AskRest P L S X root node (answer_of c) (place_of c) z
  cell_rest = record { want = _; todo = i.again a.t a.k a.stands }

  pub cell_left : Within P L S X root node → place_of c < z → AskLeft P L S X root node (place_of c) z
  cell_left w h = record { within = w; acc = answer_of c; want = _; todo = i.again a.t a.k a.stands; more = h }

pub cell_goes : {P L S X : List ℕ} {root node p z c : ℕ} → InCell P L S X root node p z c → {r : Bits} → DoneRest P L S X root node (answer_of c) (place_of c) z r → DoneTest P L S X root node p z r
cell_goes i d t k b = d _ (i.again t k b)

-- the cells of the nodes from i up to e
pub record Column (P L S X : List ℕ) (root i e p z : ℕ) (l : List ℕ) : Type 0 where
  pub long : e - i ≤ length l
  pub all : (j : ℕ) → i ≤ j → j < e → InCell P L S X root j p z (get_or l (j - i) 0)

-- all of the first n cells are p
abbrev pub Laid : ℕ → ℕ → List ℕ → Type 0
Laid n p l = (k : ℕ) → k < n → get_or l k 0 ≡ p

pub laid_more : {k p : ℕ} (l : List ℕ) → Laid k p l → k < length l → Laid (k + 1) p (set l k p)
laid_more {k} {p} l h n m b = go (eqb m k) refl
  where
    go : (y : Bits) → eqb m k ≡ y → get_or (set l k p) m 0 ≡ p
    go true y = ap (λ (x : ℕ). get_or (set l k p) x 0) (eqb-true m k y) ∙ get_or-set_same l k p 0 n
    go false y = let o : m ≡ k → ⊥ = eqb-false m k y in get_or-set_other l k m p 0 o ∙ h m (omega (arith, o, b))

-- nothing is told of any
pub column_start : {P L S X : List ℕ} {root i e p z : ℕ} {l : List ℕ} → AskTest P L p z → p < 65536 → e - i ≤ length l → Laid (e - i) p l → Column P L S X root i e p z l
column_start {P} {L} {S} {X} {root} {i} {e} {p} {z} {l} a h n g =
    record { long = n; all = λ j b c. subst (InCell P L S X root j p z) (sym (g (j - i) (omega arith))) (cell_start a h) }

-- a node's cell is set
pub column_set : {P L S X : List ℕ} {root i e p z : ℕ} {l : List ℕ} → Column P L S X root i e p z l → (j c : ℕ) → i ≤ j → j < e → InCell P L S X root j p z c → Column P L S X root i e p z (set l (j - i) c)
column_set {P} {L} {S} {X} {root} {i} {e} {p} {z} {l} o j c b h d =
    record { long = omega (arith, o.long, length-set l (j - i) c); all = λ k u v. go k u v (eqb k j) refl }
  where
    go : (k : ℕ) → i ≤ k → k < e → (y : Bits) → eqb k j ≡ y → InCell P L S X root k p z (get_or (set l (j - i) c) (k - i) 0)
    go k u v true y =
        let n : k ≡ j = eqb-true k j y in
        subst (λ (m : ℕ). InCell P L S X root m p z (get_or (set l (j - i) c) (m - i) 0)) (sym n)
        (subst (InCell P L S X root j p z) (sym (get_or-set_same l (j - i) c 0 (omega (arith, o.long)))) d)
    go k u v false y =
        let n : k ≡ j → ⊥ = eqb-false k j y in
        subst (InCell P L S X root k p z) (sym (get_or-set_other l (j - i) (k - i) c 0 (λ w. n (omega (arith, w))))) (o.all k u v)
