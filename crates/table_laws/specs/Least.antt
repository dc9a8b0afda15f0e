-- The least node at which the joined rule fails: what is known once all nodes below a place are right. Assumes nothing.
use Rattle.std.specs.Prelude.{ℕ, suc, ◌<◌, ◌≡◌, List, true, false}
use Rattle.std.proofs.Math.Option.{none, some}
use Rattle.table_laws.specs.Failing.{below_more, least_found, none_fails, all_hold}
use Rattle.table_laws.specs.Joined.{node_right, least_wrong}

-- no rule fails at any node below n
abbrev pub RightBelow : List ℕ → List ℕ → ℕ → Type 0
RightBelow T X n = (k : ℕ) → k < n → node_right T X k ≡ true

module _ (T X : List ℕ) where
  -- one node more is right
  pub right_more : (i : ℕ) → RightBelow T X i → node_right T X i ≡ true → RightBelow T X (suc i)
  right_more = below_more (node_right T X)

  -- the first node at which a rule fails is the least
  pub least_wrong_lem : (i n : ℕ) → RightBelow T X i → node_right T X i ≡ false → i < n → least_wrong T X 0 n ≡ some i
  unfolding least_wrong
  least_wrong_lem = least_found (node_right T X)

  -- where every node is right there is no least wrong one
  pub least_none : (n : ℕ) → RightBelow T X n → least_wrong T X 0 n ≡ none
  unfolding least_wrong
  least_none = none_fails (node_right T X)

  -- where there is no least wrong node every node is right
  pub none_right : (n : ℕ) → least_wrong T X 0 n ≡ none → RightBelow T X n
  unfolding least_wrong
  none_right = all_hold (node_right T X)
