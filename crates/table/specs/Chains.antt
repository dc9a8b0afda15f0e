-- Chains of nodes, one for each bucket, from the last node in the bucket down to the first. Assumes nothing: these are definitions.
-- h gives the bucket of a node; from is the first node that counts, and a number below it ends a chain.
use Rattle.std.specs.Prelude.{ℕ, ◌+◌, ◌-◌, ◌≤◌, ◌<◌, ◌≡◌, List, length, get_or}
use Rattle.definition.specs.Limits.{max_members}
use Rattle.definition.specs.Tables.{node_count}
use Rattle.table.specs.Buckets.{bucket_at}

-- v is the last node in bucket b among those from a place up to an end, or a number below the place if there is none
pub record Latest (h : ℕ → ℕ) (b from end v : ℕ) : Type 0 where
  pub earlier : v < end
  pub same : from ≤ v → h v ≡ b
  pub covers : (k : ℕ) → from ≤ k → k < end → h k ≡ b → k ≤ v

-- links holds, for each node from a place up to an end, the node before it in its bucket
pub record Linked (h : ℕ → ℕ) (from end : ℕ) (L : List ℕ) : Type 0 where
  pub room : end ≤ from + length L
  pub before : (j : ℕ) → from ≤ j → j < end → Latest h (h j) from j (get_or L (j - from) 0)

-- there are buckets, and every head is a node below an end
pub record HeadsBelow (end : ℕ) (H : List ℕ) : Type 0 where
  pub some : 0 < length H
  pub below : (b : ℕ) → b < length H → get_or H b 0 < end

-- heads holds the last node in each bucket, and links leads from it to the others
pub record Chained (h : ℕ → ℕ) (from end : ℕ) (H L : List ℕ) : Type 0 where
  pub some : 0 < length H
  pub last : (b : ℕ) → b < length H → Latest h b from end (get_or H b 0)
  pub linked : Linked h from end L

-- head is the last node of a node's bucket, and links leads from it to the others before the node, for some number of buckets
pub record Chain (T X : List ℕ) (from node head : ℕ) (L : List ℕ) : Type 0 where
  pub count : ℕ
  pub latest : Latest (bucket_at count T X) (bucket_at count T X node) from node head
  pub linked : Linked (bucket_at count T X) from node L

-- links has a place for every member of every map of a table
pub record Roomy (T L : List ℕ) : Type 0 where
  pub place : (from i : ℕ) → i < node_count T → i < from + max_members → i - from < length L
