-- Keys inside the text, for one node and for one node more. Assumes nothing.
use Prim.Native.Nat.{ℕ, ◌+◌, ◌≤◌, ◌<◌}
use mathlib.Core.Path.{◌≡◌, refl, subst}
use mathlib.Core.List.{List}
use mathlib.Core.Bool.{Bool, true, false}
use lib.Dec.{ltb}
use lib.ListN.{length}
use native.Mathlib.Omega.{arith}
use borrow.Author.Tests.{ltb-true, ltb-false}
use Rattle.definition.specs.Tables.{node_count, key_start, key_length}
use Rattle.table.specs.Words.{KeysInside}

module _ (T X : List ℕ) (from end : ℕ) (k : KeysInside T X from end) where
  -- the key of one of the nodes
  pub one_key : (j : ℕ) → from ≤ j → j < end → KeysInside T X j (j + 1)
  one_key j a b =
      let n = k.nodes in
      record {
        nodes = omega arith;
        keys = λ m u v. let e : j ≡ m = omega arith in subst (λ (x : ℕ). key_start T x + key_length T x ≤ length X) e (k.keys j a b);
      }

  -- the key of one node more
  pub more_keys : end < node_count T → key_start T end + key_length T end ≤ length X → KeysInside T X from (end + 1)
  more_keys h l = record { nodes = omega arith; keys = λ j a b. go j a b (ltb j end) refl }
    where
      go : (j : ℕ) → from ≤ j → j < end + 1 → (x : Bool) → ltb j end ≡ x → key_start T j + key_length T j ≤ length X
      go j a b true e = k.keys j a (ltb-true j end e)
      go j a b false e = let m = ltb-false j end e in let s : end ≡ j = omega arith in subst (λ (x : ℕ). key_start T x + key_length T x ≤ length X) s l
