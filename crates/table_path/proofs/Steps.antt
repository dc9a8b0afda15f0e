-- The last step to a node behind the root of an accepted table, as its record and its parent's say it. Assumes nothing.
use Prim.Native.Nat.{ℕ, suc, ◌+◌, ◌-◌, ◌≤◌, ◌<◌}
use mathlib.Core.Path.{◌≡◌, refl, sym, ap, ◌∙◌, subst}
use mathlib.Core.List.{List, [], ◌∷◌, ◌++◌}
use mathlib.Core.Option.{some}
use lib.ListN.{length, length-append, length-take, length-drop, drop}
use native.Mathlib.Omega.{arith}
use borrow.Author.Tests.{eq-eqb, ne_eqb}
use Rattle.definition.specs.Limits.{max_text}
use Rattle.definition.specs.Tables.{node_count, kind_at, kind_map, key_start, key_length, low_word, parent_at, child_count, first_child, key_bytes, parent_of}
use Rattle.definition.specs.Paths.{step_at, escaped_all, written, spell_step, path_of}
use Rattle.table_laws.specs.Counts.{counts_next}
use Rattle.table_laws.specs.Parents.{InRange, parent_found}
use Rattle.table_laws.specs.Accepted.{Accepted, parent_written}
use Rattle.table_laws.specs.Outcomes.{key_under, key_inside}
use Rattle.table_path_laws.specs.Upwards.{path_upwards}
use Rattle.table_path.specs.Words.{ChildOf, step_of}

module _ {T X : List ℕ} {i : ℕ} (h : ChildOf T X i) where
  parent_is_written : parent_of T i ≡ some (parent_at T i)
  parent_is_written = parent_written T X h.table i h.behind h.node_in

  -- the parent is an earlier node, and has the node in its range
  pub above_earlier : parent_at T i < i
  above_earlier = (parent_found T (parent_at T i) i parent_is_written).0

  above_range : InRange T (parent_at T i) i
  above_range = (parent_found T (parent_at T i) i parent_is_written).1

  pub above_in : parent_at T i < node_count T
  above_in = let l = above_earlier in let n = h.node_in in omega arith

  -- its record says where its children begin, and the node is one of them
  pub above_first : low_word T (parent_at T i) ≡ first_child T (parent_at T i)
  above_first =
      let a = above_range.above in
      let w = above_range.within in
      let c = counts_next T (parent_at T i) in
      h.table.first (parent_at T i) above_in (omega arith)

  pub above_before : low_word T (parent_at T i) ≤ i
  above_before = let f = above_first in let a = above_range.above in omega arith

  -- the key of a member lies inside the text
  pub member_key : kind_at T (parent_at T i) ≡ kind_map → key_start T i + key_length T i ≤ length X
  member_key k = (key_inside T X h.table i (key_under T i (parent_at T i) h.node_in parent_is_written ∙ eq-eqb (kind_at T (parent_at T i)) kind_map k)).1

  pub key_short : length (key_bytes T X i) ≤ max_text
  key_short =
      let s = h.table.size.short in
      let d = length-drop (key_start T i) X in
      let t = length-take (key_length T i) (drop (key_start T i) X) in
      omega arith

  -- the step to a member and the step to an element
  pub step_member : kind_at T (parent_at T i) ≡ kind_map → step_of T X i ≡ 0x5B ∷ 0x27 ∷ (escaped_all (key_bytes T X i) ++ (0x27 ∷ 0x5D ∷ []))
  unfolding step_at spell_step
  step_member k = rw (eq-eqb (kind_at T (parent_at T i)) kind_map k)

  pub step_element : (kind_at T (parent_at T i) ≡ kind_map → ⊥) → step_of T X i ≡ 0x5B ∷ (written (i - low_word T (parent_at T i)) ++ (0x5D ∷ []))
  unfolding step_at spell_step
  step_element k = rw (ne_eqb (kind_at T (parent_at T i)) kind_map k, above_first)

  pub member_length : kind_at T (parent_at T i) ≡ kind_map → length (step_of T X i) ≡ 4 + length (escaped_all (key_bytes T X i))
  member_length k = let e = length-append (escaped_all (key_bytes T X i)) (0x27 ∷ 0x5D ∷ []) in ap length (step_member k) ∙ omega arith

  pub element_length : (kind_at T (parent_at T i) ≡ kind_map → ⊥) → length (step_of T X i) ≡ 2 + length (written (i - low_word T (parent_at T i)))
  element_length k = let e = length-append (written (i - low_word T (parent_at T i))) (0x5D ∷ []) in ap length (step_element k) ∙ omega arith

  -- the path of the node is its parent's and the step
  pub path_above : path_of T X i ≡ path_of T X (parent_at T i) ++ step_of T X i
  path_above = path_upwards T X h.table i h.behind h.node_in

  pub length_above : length (path_of T X i) ≡ length (path_of T X (parent_at T i)) + length (step_of T X i)
  length_above = ap length path_above ∙ length-append (path_of T X (parent_at T i)) (step_of T X i)

-- the kind of the parent, as the code reads it: p is the number that was read, k the kind
module _ (T : List ℕ) (i p k : ℕ) (n : p ≡ parent_at T i) (e : k ≡ kind_at T p) where
  pub above_map : k ≡ kind_map → kind_at T (parent_at T i) ≡ kind_map
  above_map t = sym (ap (kind_at T) n) ∙ sym e ∙ t

  pub above_other : (k ≡ kind_map → ⊥) → kind_at T (parent_at T i) ≡ kind_map → ⊥
  above_other t z = t (e ∙ ap (kind_at T) n ∙ z)
