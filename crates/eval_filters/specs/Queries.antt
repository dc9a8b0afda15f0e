-- The plan, the pool, the table and the two nodes of a test, and a query in a filter's code whose names and indices lead to its end, or to nothing. Assumes nothing.
use Prim.Native.Nat.{ℕ, ◌+◌, ◌≤◌, ◌<◌, min}
use Rattle.std.specs.Prelude.{◌≡◌, List, [], ◌∷◌, Bool as Bits, true, false, cond, eqb, length, get_or, Ok, Err}
use Rattle.std.proofs.Common.{◌∙◌, eq-eqb, ne_eqb}
use native.Mathlib.Omega.{arith}
use Rattle.definition.specs.Limits.{max_plan}
use Rattle.definition.specs.Forms.{Segments}
use Rattle.definition.specs.Plans.{code_segments}
use Rattle.definition.specs.Tables.{node_count, node_at}
use Rattle.definition.specs.Evaluation.{eval_segments}
use Rattle.table_laws.specs.Accepted.{Accepted}
use Rattle.eval_laws.specs.States.{st, push}
use Rattle.eval_laws.specs.Steps.{segment_end}
use Rattle.eval_laws.specs.Items.{SegmentsAt, is_end}
use Rattle.eval_laws.specs.Founds.{Found, found_at}
use Rattle.eval_items.specs.Ends.{DonePast}
use Rattle.eval_items.specs.Leaves.{begins_at, cap_for}
use Rattle.eval_front.specs.Visits.{DoneReach}
use Rattle.eval_front.specs.Turns.{leads_in}
use Rattle.eval_front.specs.declared.Reached.{Reached}

-- the plan, the pool, the table and the two nodes of a test
pub record Within (P L S X : List ℕ) (root node : ℕ) : Type 0 where
  pub few_p : length P ≤ max_plan
  pub few_l : length L ≤ max_plan
  pub tab : Accepted S X
  pub root_in : root < node_count S
  pub node_in : node < node_count S

-- ---- where a query begins

cond_in : (b : Bits) (x y c : ℕ) → x < c → y < c → cond b x y < c
cond_in true x y c h g = h
cond_in false x y c h g = g

pub begins_in : (from k root node c : ℕ) → from ≡ begins_at k root node → root < c → node < c → from < c
begins_in from k root node c e h g = rw e (cond_in (eqb k 1) root node c h g)

pub begins_root : (k root node : ℕ) → k ≡ 1 → begins_at k root node ≡ root
begins_root k root node e = rw (eq-eqb k 1 e)

pub begins_node : (k root node : ℕ) → k ≡ 2 → begins_at k root node ≡ node
begins_node k root node e = rw (ne_eqb k 1 (λ z. absurd (omega arith)))

-- ---- the query that stands there

-- z is where the query at p ends
abbrev pub Past : List ℕ → List ℕ → ℕ → ℕ → Type 0
Past P L p z = (f : Segments) (k : ℕ) → SegmentsAt P L p k f → z ≡ p + length (code_segments f k)

-- ---- where the names and indices at its front lead

module _ (P L S X : List ℕ) (tab : Accepted S X) (from q : ℕ) (h : from < node_count S) (r : Reached) (d : DoneReach P L S X from (q + 1) r) where
  pub past_of : (z : ℕ) → DonePast P r.pc z → Past P L (q + 1) z
  past_of z p f k a = let y = d.front f k a in p y.g y.j y.at.holds ∙ y.ends

  -- to nothing
  pub found_lost : {m : ℕ} → r.node ≡ Err m → (mode : ℕ) (f : Segments) (k : ℕ) → SegmentsAt P L (q + 1) k f → Found S X (eval_segments f (node_at S X from) (node_at S X from ∷ [])) (cap_for mode) 0 0
  found_lost {m} e mode f k a = found_at S X tab from h f (cap_for mode) (0 ∷ []) 0 ((d.front f k a).lost m e (node_at S X from) (st (cap_for mode) (0 ∷ []) 0))

  -- to its end
  one_pushed : (cap n : ℕ) → st cap (n ∷ []) 1 ≡ push n (st cap (0 ∷ []) 0)
  unfolding push
  one_pushed cap n = let e : 1 ≡ min (0 + 1) (cap + 1) = omega arith in λ i. record { cap = cap; places = n ∷ []; next = e i }

  pub found_one : (m : ℕ) → r.node ≡ Ok m → get_or P r.pc 0 ≡ 0x0A → (mode : ℕ) (f : Segments) (k : ℕ) → SegmentsAt P L (q + 1) k f → Found S X (eval_segments f (node_at S X from) (node_at S X from ∷ [])) (cap_for mode) 1 m
  found_one m e z mode f k a =
      let y = d.front f k a in
      found_at S X tab from h f (cap_for mode) (m ∷ []) 1
      (one_pushed (cap_for mode) m ∙ segment_end S X tab y.g (node_at S X from) m (leads_in d e) _ (is_end P r.pc y.j y.g y.at.holds z) ∙ y.found m e (node_at S X from) _)
