-- The members of one map in turn, and those of another that have their names. Assumes nothing.
use Rattle.std.specs.Prelude.{Option, Some, None}
use Prim.Native.Nat.{ℕ, ◌+◌, ◌≤◌, ◌<◌}
use mathlib.Core.Path.{◌≡◌, refl}
use mathlib.Core.List.{List}
use mathlib.Core.Bool.{Bool, false}
use native.Mathlib.Omega.{arith}
use Rattle.definition.specs.Tables.{node_count, kind_at, kind_map, low_word, child_count, depth_at, key_bytes}
use Rattle.table_laws.specs.Accepted.{Accepted}
use Rattle.table_laws.specs.Nodes.{kids, kids_at}
use Rattle.eval_laws.specs.Ranges.{Range, range_of_lem, range_in, child_at, kids_at_lem}
use Rattle.eval_values.specs.Alike.{Both, AskMember, same_at, member_at}
use Rattle.eval_values.specs.Members.{Looked}
use Rattle.eval_values.specs.Same.{child_key, found_node, found_nothing, found_in}

module _ {S X : List ℕ} (tab : Accepted S X) {i j : ℕ} (m : Both S i j × (kind_at S i ≡ kind_map) × (kind_at S j ≡ kind_map)) {a b c n : ℕ} (pa : a ≡ low_word S i) (pb : b ≡ low_word S j) (pc : c ≡ child_count S i) (pn : n ≡ child_count S j) where
  -- the members of the first map, and of the second
  pub firsts : Range S i a c
  firsts = range_of_lem S X tab i m.0.first a c pa pc

  seconds : Range S j b n
  seconds = range_of_lem S X tab j m.0.second b n pb pn

  second_kids : kids S X b n ≡ kids_at S X j
  second_kids = kids_at_lem S X tab j m.0.second b n seconds

  module _ {k : ℕ} (l : k < c) where
    -- a member is a node, one deeper, and its name can be looked for
    pub turn_in : a + k < node_count S
    turn_in = (child_at S X tab i m.0.first a c firsts k l).0

    pub turn_deeper : depth_at S (a + k) ≡ depth_at S i + 1
    turn_deeper = (child_at S X tab i m.0.first a c firsts k l).1

    pub turn_asks : AskMember S X (a + k) j
    turn_asks = record { first = turn_in; second = m.0.second; key = child_key S X tab i m.0.first m.1 a c firsts k l; map = m.2 }

    module _ {o : Option ℕ} (f : Looked S X b n (key_bytes S X (a + k)) o) where
      -- its name is not there
      pub turn_missing : o ≡ None → false ≡ member_at S X (a + k) j
      turn_missing u = found_nothing S X (a + k) j b n (key_bytes S X (a + k)) o second_kids f u refl

      module _ {h : ℕ} (u : o ≡ Some h) where
        -- or is that of a member of the second map
        pub turn_between : (b ≤ h) × (h < node_count S)
        turn_between =
            let g = found_in S X b n (key_bytes S X (a + k)) o h f u in
            (g.0, omega (arith, g.0, g.1, range_in S X tab j m.0.second b n seconds (omega (arith, g.0, g.1))))

        -- whose value decides
        pub turn_found : {r : Bool} → r ≡ same_at S X (a + k) h → r ≡ member_at S X (a + k) j
        turn_found {r} w = found_node S X (a + k) j b n (key_bytes S X (a + k)) o h second_kids f u refl r w
