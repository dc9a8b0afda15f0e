-- Tables at the greatest depth: lists, one in the other, around the text "a". They stand apart since they take longest to compute.
use Rattle.std.specs.Prelude.{ℕ, zero, suc, ◌-◌, ◌≡◌, refl, List, [], ◌∷◌, ◌++◌, true}
use Rattle.definition_examples.specs.Computes.{computes}
use Rattle.definition_examples.specs.Texts.{bytes}
use Rattle.definition_examples.specs.Sample.{node, under}
use Rattle.definition_examples.specs.Gives.{selects}
use Rattle.definition_examples.specs.Cases.{broken, judged}

-- n lists, the outermost at depth d, and the text; a node's number is its depth
abbrev tower : ℕ → ℕ → List ℕ
tower d zero = under (d - 1) (node 5 d 0 0 0 1)
tower d (suc n) = under (d - 1) (node 6 d 0 0 (suc d) 1) ++ tower (suc d) n

-- 64 levels are accepted, and a query reaches the innermost
pub deepest : selects "$..[?@=='a']" (tower 0 63) (bytes "a") (63 ∷ []) ≡ true
unfolding computes
deepest = refl

-- the 65th level is one too many
pub too_deep : judged (broken (tower 0 64) (bytes "a") 10 64) ≡ true
unfolding computes
too_deep = refl
