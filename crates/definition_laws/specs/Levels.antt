-- The levels of the tree of values: an accepted table's tree needs no more than 64, so the clause of `tree_at` for no level is never met.
-- Assumes nothing.
use Rattle.std.specs.Prelude.{ℕ, zero, suc, ◌+◌, ◌≤◌, ◌<◌, ◌≡◌, refl, List}
use Rattle.std.proofs.Common.{sym, ap, ap₂, subst, ◌∙◌, arith}
use Rattle.definition.specs.Limits.{max_depth}
use Rattle.definition.specs.Values.{Json, Kids}
use Rattle.definition.specs.Values.Kids.{more}
use Rattle.definition.specs.Tables.{node_count, depth_at, first_child, child_count, key_bytes, check_table, row, value_by, node_at, tree}
use Rattle.definition.specs.Tables.Checked.{accepted}
use Rattle.table_laws.specs.Accepted.{Accepted, accepted_gives}
use Rattle.table_laws.specs.Nodes.{kids, unrolled}

-- the tree of `tree_at`, with any value where no level is left
pub tree_over : (ℕ → Json) → ℕ → List ℕ → List ℕ → ℕ → Json
tree_over z zero T X i = z i
tree_over z (suc f) T X i = value_by T X i (row (tree_over z f T X) (key_bytes T X) (first_child T i) (child_count T i))

-- rows of the same values are the same
same_row : (g h : ℕ → Json) (key : ℕ → List ℕ) (j n : ℕ) → ((k : ℕ) → k < n → g (j + k) ≡ h (j + k)) → row g key j n ≡ row h key j n
unfolding row
same_row g h key j zero e = refl
same_row g h key j (suc n) e =
    let z : j + 0 ≡ j = omega arith in
    ap₂ (λ (x : Json) (y : Kids). more (key j) x y)
    (subst (λ (m : ℕ). g m ≡ h m) z (e 0 (omega arith)))
    (same_row g h key (suc j) n (λ k l. let y : j + suc k ≡ suc j + k = omega arith in subst (λ (m : ℕ). g m ≡ h m) y (e (suc k) (omega arith))))

-- with as many levels as are left below a node's depth, or more, its value is the node's
enough : (z : ℕ → Json) (T X : List ℕ) → Accepted T X → (f i : ℕ) → i < node_count T → suc max_depth ≤ depth_at T i + f → tree_over z f T X i ≡ node_at T X i
unfolding tree_over kids
enough z T X a zero i h l = let d = a.depths i h in absurd (omega arith)
enough z T X a (suc f) i h l =
    ap (value_by T X i) (same_row (tree_over z f T X) (node_at T X) (key_bytes T X) (first_child T i) (child_count T i) (λ k m.
    let d = a.deeper i h k m in
    let b = a.inside i h in
    enough z T X a f (first_child T i + k) (omega arith) (omega arith)))
    ∙ sym (unrolled T X a i h)

-- The tree of an accepted table is the same with 64 levels or more, whatever stands where no level is left.
pub levels_enough : (z : ℕ → Json) (T X : List ℕ) → check_table T X ≡ accepted → (f : ℕ) → 64 ≤ f → tree_over z f T X 0 ≡ tree T X
unfolding tree
levels_enough z T X e f l = let a = accepted_gives T X e in let t = a.top in enough z T X a f 0 a.size.some_node (omega arith)
