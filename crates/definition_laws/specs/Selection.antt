-- Evaluation selects only nodes of the table: every node number of an answer is below the number of nodes.
use Rattle.std.specs.Prelude.{◌≡◌, refl, true, List, [], ◌∷◌, map, ℕ, ltb}
use Rattle.std.proofs.Common.{lt-ltb}
use Rattle.definition.specs.Bytes.{every}
use Rattle.definition.specs.Values.{Json, id_of}
use Rattle.definition.specs.Tables.{node_count, check_table, tree, node_at}
use Rattle.definition.specs.Tables.Checked.{accepted}
use Rattle.definition.specs.Forms.{Query}
use Rattle.definition.specs.Forms.Query.{query}
use Rattle.definition.specs.Forms.Start.{root, current}
use Rattle.definition.specs.Evaluation.{eval_query, selected}
use Rattle.table_laws.specs.Accepted.{Accepted, accepted_gives}
use Rattle.eval_laws.specs.Within.{AllIn, node_in, all_segments}

-- the numbers of nodes of the table are below the number of nodes
all_below_lem : (T X : List ℕ) (xs : List Json) → AllIn T X xs → every (λ i. ltb i (node_count T)) (map id_of xs) ≡ true
unfolding AllIn
all_below_lem T X [] a = refl
all_below_lem T X (x ∷ xs) a = rw (lt-ltb (id_of x) (node_count T) a.0.below) (all_below_lem T X xs a.1)

-- the root is a node of the table
root_in : (T X : List ℕ) → Accepted T X → AllIn T X (node_at T X 0 ∷ [])
unfolding AllIn
root_in T X t = (node_in T X t 0 t.size.some_node, tt)

query_in : (T X : List ℕ) → Accepted T X → (q : Query) → AllIn T X (eval_query q (node_at T X 0) (node_at T X 0))
unfolding eval_query
query_in T X t (query root s) = all_segments T X t s (node_at T X 0) (node_at T X 0 ∷ []) (root_in T X t)
query_in T X t (query current s) = all_segments T X t s (node_at T X 0) (node_at T X 0 ∷ []) (root_in T X t)

-- what a query selects from an accepted table are nodes of the table
pub selected_below : (T X : List ℕ) → check_table T X ≡ accepted → (q : Query) → every (λ i. ltb i (node_count T)) (selected q (tree T X)) ≡ true
unfolding selected tree
selected_below T X e q = all_below_lem T X (eval_query q (node_at T X 0) (node_at T X 0)) (query_in T X (accepted_gives T X e) q)
