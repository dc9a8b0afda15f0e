-- The nodes of a range for which a test holds: what is asked and given, the invariant of the loop over them, and its turns. Each answer holds for every form whose
-- code stands there. P is the plan, L the pool, S the table, X the text. Assumes nothing.
use Rattle.std.specs.Prelude.{ℕ, ◌+◌, ◌≤◌, ◌<◌, ◌≡◌, List, Bool as Bits, true, false, length}
use Rattle.std.proofs.Common.{sym, ap, ◌∙◌, subst, arith}
use Rattle.definition.specs.Forms.{Segments, Test, Selector}
use Rattle.definition.specs.Plans.{code_test}
use Rattle.definition.specs.Tables.{node_count, node_at}
use Rattle.definition.specs.Evaluation.{eval_test}
use Rattle.text.specs.Words.{Word}
use Rattle.eval_laws.specs.States.{st}
use Rattle.eval_laws.specs.Steps.{kept, kept_in, kept_out}
use Rattle.eval_laws.specs.Items.{SegmentsAt, TestAt, Filtered}
use Rattle.eval_front.specs.Visits.{cap_limit, Given, Query, Emitted, Stopped, Paused, over}
use Rattle.eval_front.specs.declared.More.{More}
use Rattle.eval_front.specs.Overs.{over_step, over_end, over_full}

-- ---- a test

pub record Tested (P L : List ℕ) (p e : ℕ) (t : Test) (k : ℕ) : Type 0 where
  pub test : TestAt P L p k t
  pub place : e ≡ p + length (code_test t k)

pub record AskTest (P L : List ℕ) (p e : ℕ) : Type 0 where
  pub t : Test
  pub k : ℕ
  pub stands : Tested P L p e t k

abbrev pub DoneTest : List ℕ → List ℕ → List ℕ → List ℕ → ℕ → ℕ → ℕ → ℕ → Bits → Type 0
DoneTest P L S X root node p e r = (t : Test) (k : ℕ) → Tested P L p e t k → r ≡ eval_test t (node_at S X root) (node_at S X node)

-- ---- the nodes of a range for which a test holds

pub record AskKept (P L S X : List ℕ) (root i e rest len at cap : ℕ) : Type 0 where
  pub given : Given P L S X
  pub root_in : root < node_count S
  pub range : i < e → e ≤ node_count S
  pub query : Query P L rest
  pub room : at ≤ cap + 1
  pub wide : len ≤ cap + 1
  pub small : cap < cap_limit

-- nothing is left
pub record DoneRange (P L S X : List ℕ) (root i e p z rest cap : ℕ) (l : List ℕ) (at : ℕ) (l' : List ℕ) (r : ℕ) : Type 0 where
  pub room : r ≤ cap + 1
  pub ended : (t : Test) (k : ℕ) (f : Segments) (k' : ℕ) → Tested P L p z t k → SegmentsAt P L rest k' f → st cap l' r ≡ over f (node_at S X root) (kept t (node_at S X root)) S X i e (st cap l at)

-- a filter's test, up to the end that is read
pub tested_of : {P L : List ℕ} {p k : ℕ} {x : Selector} (y : Filtered P L p k x) (n : ℕ) → Word 2 P (p + 1) n → Tested P L (p + 3) (p + 3 + n) y.t k
tested_of {p = p} y n w = record { test = y.test; place = ap (λ (z : ℕ). p + 3 + z) (w.is ∙ y.count) }

-- the nodes of a range for which a test holds
pub record InKept (P L S X : List ℕ) (root i e p z rest cap : ℕ) (l₀ : List ℕ) (a₀ : ℕ) (l : List ℕ) (a j : ℕ) : Type 0 where
  pub low : i ≤ j
  pub same : length l ≡ length l₀
  pub room : a ≤ cap + 1
  pub again : (t : Test) (k : ℕ) (f : Segments) (k' : ℕ) → Tested P L p z t k → SegmentsAt P L rest k' f
      → over f (node_at S X root) (kept t (node_at S X root)) S X j e (st cap l a) ≡ over f (node_at S X root) (kept t (node_at S X root)) S X i e (st cap l₀ a₀)

-- the visit of node j, which the test keeps, stops: all before it are done, and it is paused
pub record DoneKept (P L S X : List ℕ) (root i e p z rest cap : ℕ) (l₀ : List ℕ) (a₀ : ℕ) (l' : List ℕ) (a j : ℕ) (m : More) : Type 0 where
  pub kept_before : InKept P L S X root i e p z rest cap l₀ a₀ l' a j
  pub high : j < e
  pub holds : (t : Test) (k : ℕ) → Tested P L p z t k → eval_test t (node_at S X root) (node_at S X j) ≡ true
  pub paused : Paused P L S X j rest m.node m.pc

-- ---- the turns of the loop

module _ {P L S X : List ℕ} {root i e p z rest cap : ℕ} {l₀ : List ℕ} {a₀ : ℕ} {l : List ℕ} {a j : ℕ} (t : InKept P L S X root i e p z rest cap l₀ a₀ l a j) where
  pub kept_full : cap < a → length l₀ ≤ cap + 1 → DoneRange P L S X root i e p z rest cap l₀ a₀ l a
  kept_full h w =
      record { room = t.room; ended = λ x k f k' b c. sym (over_full f (node_at S X root) (kept x (node_at S X root)) S X j e cap l a h t.room (omega (arith, t.same))) ∙ t.again x k f k' b c }

  pub kept_end : e ≤ j → DoneRange P L S X root i e p z rest cap l₀ a₀ l a
  kept_end h = record { room = t.room; ended = λ x k f k' b c. sym (over_end f (node_at S X root) (kept x (node_at S X root)) S X j e (st cap l a) h) ∙ t.again x k f k' b c }

  module _ {r : Bits} (h : j < e) (y : DoneTest P L S X root j p z r) where
    pub kept_passed : r ≡ false → InKept P L S X root i e p z rest cap l₀ a₀ l a (j + 1)
    kept_passed n =
        record {
          low = omega (arith, t.low);
          same = t.same;
          room = t.room;
          again = λ x k f k' b c.
              over_step f (node_at S X root) (kept x (node_at S X root)) S X j e (st cap l a) (st cap l a) h (kept_out f x (node_at S X root) (node_at S X j) (st cap l a) (sym (y x k b) ∙ n))
              ∙ t.again x k f k' b c;
        }

    pub kept_step : r ≡ true → {l' : List ℕ} {a' : ℕ} → Emitted P L S X j rest cap l a l' a' → length l' ≡ length l → InKept P L S X root i e p z rest cap l₀ a₀ l' a' (j + 1)
    kept_step n {l'} {a'} d w =
        record {
          low = omega (arith, t.low);
          same = w ∙ t.same;
          room = d.room;
          again = λ x k f k' b c.
              over_step f (node_at S X root) (kept x (node_at S X root)) S X j e (st cap l a) (st cap l' a') h
              (kept_in f x (node_at S X root) (node_at S X j) (st cap l a) (st cap l' a') (sym (y x k b) ∙ n) (d.ended f k' c (node_at S X root)))
              ∙ t.again x k f k' b c;
        }

    pub kept_stop : r ≡ true → {l' : List ℕ} {m : More} → Stopped P L S X j rest l l' m → DoneKept P L S X root i e p z rest cap l₀ a₀ l' a j m
    kept_stop n {l'} {m} s =
        record {
          kept_before = subst (λ (k : List ℕ). InKept P L S X root i e p z rest cap l₀ a₀ k a j) (sym s.places) t;
          high = h;
          holds = λ x k b. sym (y x k b) ∙ n;
          paused = s.paused;
        }
