-- A child segment of several names and indices at the end of a query: what is asked and given, and where its selectors end. Each answer holds for every form whose code
-- stands there. P is the plan, L the pool, S the table, X the text. Assumes nothing.
use Prim.Native.Nat.{ℕ, zero, suc, ◌+◌, ◌*◌, ◌-◌, ◌≤◌, ◌<◌}
use Rattle.std.specs.Prelude.{◌≡◌, refl, List, Bool as Bits, true, false, eqb}
use Rattle.std.proofs.Common.{sym, eqb-true}
use Rattle.std.proofs.Math.Path.{subst}
use Rattle.std.proofs.Math.ListN.{length, get_or}
use native.Mathlib.Omega.{arith}
use Rattle.std.proofs.lemmas.Bool.{eqb-false}
use Rattle.definition.specs.Bytes.{number, part}
use Rattle.definition.specs.Limits.{max_plan}
use Rattle.definition.specs.Values.{Json}
use Rattle.definition.specs.Forms.{Selectors, Selector, many_selectors}
use Rattle.definition.specs.Forms.Segments.{end}
use Rattle.definition.specs.Plans.{code_selectors, code_selector, pool_selector}
use Rattle.definition.specs.Tables.{node_count, node_at, low_word, child_count}
use Rattle.definition.specs.Evaluation.{eval_selectors, eval_selector}
use Rattle.text.specs.Words.{Word}
use Rattle.eval_laws.specs.States.{st}
use Rattle.eval_laws.specs.Emits.{go}
use Rattle.eval_laws.specs.Items.{SelectorsAt, SelectorAt, front, last, many_some, is_name, is_index}
use Rattle.eval_front.specs.Visits.{Given}
use Rattle.eval_front.specs.Spans.{Room}

-- ---- what is asked and given

-- a node has count children from first on
abbrev pub Below : List ℕ → ℕ → ℕ → ℕ → Type 0
Below S node first count = (first ≡ low_word S node) × (count ≡ child_count S node)

-- n names and indices stand from p up to z: a name is 5 bytes long and an index 9, which is 15 less than four times its kind
unfoldable pub Ones : List ℕ → ℕ → ℕ → ℕ → Type 0
Ones P p zero z = p ≡ z
Ones P p (suc n) z = ((5 ≤ get_or P p 0) × (get_or P p 0 ≤ 6)) × Ones P (p + (4 * get_or P p 0 - 15)) n z

-- n names and indices stand at p, and the query ends behind them
pub record Ends (P : List ℕ) (p n : ℕ) : Type 0 where
  pub z : ℕ
  pub ones : Ones P p n z
  pub inside : z < length P
  pub ended : get_or P z 0 ≡ 0x0A

-- the same of a child segment, which has eight at most
pub record Picks (P : List ℕ) (pc : ℕ) : Type 0 where
  pub bound : pc + 8 ≤ length P
  pub child : get_or P pc 0 ≡ 3
  pub few : number (part P (pc + 1) 2) ≤ 8
  pub ends : Ends P (pc + 3) (number (part P (pc + 1) 2))

-- some n selectors stand at p
pub record Many (P L : List ℕ) (p n : ℕ) : Type 0 where
  pub ss : Selectors
  pub k : ℕ
  pub at : SelectorsAt P L p k ss
  pub number : many_selectors ss ≡ n

-- what the selector at p selects of a node is emitted
pub record DonePut (P L S X : List ℕ) (p node cap : ℕ) (l : List ℕ) (at : ℕ) (l' : List ℕ) (r : ℕ) : Type 0 where
  pub room : r ≤ cap + 1
  pub puts : (x : Selector) (k : ℕ) → SelectorAt P L p k x → (R : Json) → st cap l' r ≡ go end R (eval_selector x R (node_at S X node)) (st cap l at)

-- and what n selectors do
pub record AskPick (P L S X : List ℕ) (node p n len at cap : ℕ) : Type 0 where
  pub given : Given P L S X
  pub node_in : node < node_count S
  pub many : Many P L p n
  pub ends : Ends P p n
  pub list : Room len at cap

pub record DonePick (P L S X : List ℕ) (node p n cap : ℕ) (l : List ℕ) (at : ℕ) (l' : List ℕ) (r : ℕ) : Type 0 where
  pub room : r ≤ cap + 1
  pub gives : (m : Many P L p n) (R : Json) → st cap l' r ≡ go end R (eval_selectors m.ss R (node_at S X node)) (st cap l at)

-- ---- the way through names and indices

module _ (P : List ℕ) where
  pub ones_more : (p p' n z : ℕ) → 0 < n → 5 ≤ get_or P p 0 → get_or P p 0 ≤ 6 → p' ≡ p + (4 * get_or P p 0 - 15) → Ones P p' (n - 1) z → Ones P p n z
  unfolding Ones
  ones_more p p' zero z l a b e o = absurd (omega arith)
  ones_more p p' (suc n) z l a b e o =
      let m : suc n - 1 ≡ n = omega arith in
      ((a, b), subst (λ (i : ℕ). Ones P i n z) e (subst (λ (i : ℕ). Ones P p' i z) m o))

  -- the first of them, and the others
  pub record Opened (p n z : ℕ) : Type 0 where
    pub low : 5 ≤ get_or P p 0
    pub high : get_or P p 0 ≤ 6
    pub others : Ones P (p + (4 * get_or P p 0 - 15)) (n - 1) z

  pub ones_less : (p n z : ℕ) → 0 < n → Ones P p n z → Opened p n z
  unfolding Ones
  ones_less p zero z l o = absurd (omega arith)
  ones_less p (suc n) z l o =
      let m : n ≡ suc n - 1 = omega arith in
      record { low = o.0.0; high = o.0.1; others = subst (λ (i : ℕ). Ones P (p + (4 * get_or P p 0 - 15)) i z) m o.1 }

  pub ones_upto : (p n z : ℕ) → Ones P p n z → p ≤ z
  unfolding Ones
  ones_upto p zero z o = omega (arith, o)
  ones_upto p (suc n) z o = omega (arith, ones_upto (p + (4 * get_or P p 0 - 15)) n z o.1)

-- the loop over them: what is left gives the whole
pub record InEnds (P : List ℕ) (p n q m : ℕ) : Type 0 where
  pub bound : q ≤ length P + 8
  pub again : (z : ℕ) → Ones P q m z → Ones P p n z

pub ends_start : (P : List ℕ) (p n m : ℕ) → m ≡ n → p ≤ length P → InEnds P p n p m
ends_start P p n m e h = record { bound = omega arith; again = λ z o. subst (λ (i : ℕ). Ones P p i z) e o }

module _ {P : List ℕ} {p n q m : ℕ} (t : InEnds P p n q m) where
  pub ends_next : (q' m' : ℕ) → m ≡ m' + 1 → q < length P → 5 ≤ get_or P q 0 → get_or P q 0 ≤ 6 → q' ≡ q + (4 * get_or P q 0 - 15) → InEnds P p n q' m'
  ends_next q' m' l h a b e =
      let u : m' ≡ m - 1 = omega arith in
      record { bound = omega arith; again = λ z o. t.again z (ones_more P q q' m z (omega arith) a b e (subst (λ (i : ℕ). Ones P q' i z) u o)) }

  pub ends_done : m ≤ 0 → q < length P → get_or P q 0 ≡ 0x0A → Ends P p n
  unfolding Ones
  ends_done l h e =
      let z : 0 ≡ m = omega arith in
      record { z = q; ones = t.again q (subst (λ (i : ℕ). Ones P q i q) z refl); inside = h; ended = e }

pub picks_of : (P : List ℕ) (pc n : ℕ) → pc + 8 ≤ length P → get_or P pc 0 ≡ 3 → n ≤ 8 → Word 2 P (pc + 1) n → Ends P (pc + 3) n → Picks P pc
picks_of P pc n b c f w d = record { bound = b; child = c; few = omega (arith, w.is); ends = subst (Ends P (pc + 3)) w.is d }

-- ---- selectors that stand there

module _ (P L : List ℕ) (few_p : length P ≤ max_plan) (few_l : length L ≤ max_plan) where
  -- a name or an index is as long as its kind says
  pub one_long : (p k : ℕ) (x : Selector) → SelectorAt P L p k x → 5 ≤ get_or P p 0 → get_or P p 0 ≤ 6 → length (code_selector x k) ≡ 4 * get_or P p 0 - 15
  one_long p k x a low high = by (eqb (get_or P p 0) 5) refl
    where
      by : (b : Bits) → eqb (get_or P p 0) 5 ≡ b → length (code_selector x k) ≡ 4 * get_or P p 0 - 15
      by true e = let u = eqb-true (get_or P p 0) 5 e in omega (arith, (is_name P L few_p few_l p k x a u).long)
      by false e = let u : get_or P p 0 ≡ 6 = omega (arith, eqb-false (get_or P p 0) 5 e) in omega (arith, (is_index P L few_p few_l p k x a u).long)

  -- selectors of which n are counted end where n names and indices do
  pub many_ends : (n p z : ℕ) → Ones P p n z → (k : ℕ) (ss : Selectors) → SelectorsAt P L p k ss → many_selectors ss ≡ n → p + length (code_selectors ss k) ≡ z
  unfolding Ones
  many_ends zero p z o k ss a e = absurd (omega (arith, many_some ss))
  many_ends (suc zero) p z o k ss a e =
      let y = last P L p k ss a (omega arith) in
      omega (arith, y.long, one_long p k y.s y.here o.0.0 o.0.1, o.1)
  many_ends (suc (suc n)) p z o k ss a e =
      let y = front P L p k ss a (omega arith) in
      let w = one_long p k y.s y.here o.0.0 o.0.1 in
      let r = many_ends (suc n) (p + length (code_selector y.s k)) z (subst (λ (i : ℕ). Ones P (p + i) (suc n) z) (sym w) o.1) (k + length (pool_selector y.s)) y.others y.there (omega (arith, y.fewer)) in
      omega (arith, y.long, r)
