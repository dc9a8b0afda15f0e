-- The rules on a node's record and on its text and key as one rule, with the key under the node's parent. The one pass over a table goes by it.
-- It has no part in the definition: Pair.antt proves that it accepts what the two checks accept, and which node each names. Assumes nothing: these are definitions.
use Rattle.std.specs.Prelude.{ℕ, zero, suc, ◌+◌, ◌-◌, List, Bool, true, false, cond, ◌&&◌, eqb, leb, ltb}
use Rattle.std.proofs.Math.Option.{Option, none, some}
use Rattle.definition.specs.Limits.{max_members}
use Rattle.definition.specs.Tables.{Checked, kind_at, depth_at, parent_at, key_start, key_length, payload, low_word, high_word, kind_float, kind_text, kind_list, kind_map, first_child, good_part, parent_of, head_right, is_finite, range_right, no_key, key_differs, least_failing}
use Rattle.definition.specs.Tables.Checked.{accepted, wrong_at}

-- bytes 16-23, with the text that they name
unfoldable pub payload_right : List ℕ → List ℕ → ℕ → Bool
payload_right T X i =
    cond (ltb (kind_at T i) 3) (eqb (payload T i) 0)
    (cond (eqb (kind_at T i) 3) true
    (cond (eqb (kind_at T i) kind_float) (is_finite (payload T i))
    (cond (eqb (kind_at T i) kind_text) (good_part X (low_word T i) (high_word T i))
    (cond (eqb (kind_at T i) kind_list) (range_right T i) (range_right T i && leb (high_word T i) max_members)))))

-- a member's key: inside the text, UTF-8, and unlike the keys of the members before it, which begin where the counts say
unfoldable pub member_right : List ℕ → List ℕ → ℕ → ℕ → Bool
member_right T X p i = good_part X (key_start T i) (key_length T i) && key_differs T X i (first_child T p) (i - first_child T p)

-- what is asked of a node by its parent: its number, the depth, and the rules on keys
unfoldable pub place_right : List ℕ → List ℕ → ℕ → Option ℕ → Bool
place_right T X i none = false
place_right T X i (some p) = eqb (parent_at T i) p && (eqb (depth_at T i) (depth_at T p + 1) && cond (eqb (kind_at T p) kind_map) (member_right T X p i) (no_key T i))

unfoldable pub stands_right : List ℕ → List ℕ → ℕ → Bool
stands_right T X zero = eqb (parent_at T zero) 0 && (eqb (depth_at T zero) 0 && no_key T zero)
stands_right T X (suc i) = place_right T X (suc i) (parent_of T (suc i))

-- no rule fails at node i
unfoldable pub node_right : List ℕ → List ℕ → ℕ → Bool
node_right T X i = head_right T i && (payload_right T X i && stands_right T X i)

-- the least node at which one fails, among the n nodes from i on
unfoldable pub least_wrong : List ℕ → List ℕ → ℕ → ℕ → Option ℕ
least_wrong T X i n = least_failing (node_right T X) i n

unfoldable pub by_least : Option ℕ → Checked
by_least none = accepted
by_least (some i) = wrong_at i
