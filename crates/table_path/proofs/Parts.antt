-- A step in its parts: what stands behind the key or the index, the key or the index, and what stands before it. Assumes nothing.
use Prim.Native.Nat.{ℕ, ◌+◌, ◌-◌, ◌≤◌}
use mathlib.Core.Path.{◌≡◌, sym}
use mathlib.Core.List.{List, [], ◌∷◌, ◌++◌}
use lib.ListN.{length, length-append}
use native.Mathlib.Omega.{arith}
use Rattle.definition.specs.Tables.{kind_at, kind_map, low_word, parent_at, key_bytes}
use Rattle.definition.specs.Paths.{escaped_all, written}
use Rattle.table_path.specs.Words.{Put, Room, ChildOf, step_of}
use Rattle.table_path.proofs.Puts.{put_before, put_as, room_left}
use Rattle.table_path.proofs.Steps.{step_member, step_element, member_length, element_length}

module _ {T X B : List ℕ} {i end : ℕ} (h : ChildOf T X i) (r : Room B end (length (step_of T X i))) where
  -- a member: `']`, the key, `['`
  module _ (k : kind_at T (parent_at T i) ≡ kind_map) where
    pub quote_room : Room B end 2
    quote_room = let n = member_length h k in let e = r.enough in record { enough = omega arith; inside = r.inside }

    module _ {B₁ : List ℕ} {at₁ : ℕ} (p : Put B end (0x27 ∷ 0x5D ∷ []) B₁ at₁) where
      pub key_room : Room B₁ at₁ (length (escaped_all (key_bytes T X i)))
      key_room = let n = member_length h k in let e = r.enough in room_left (length (escaped_all (key_bytes T X i))) p r.inside (omega arith)

      module _ {B₂ : List ℕ} {at₂ : ℕ} (q : Put B₁ at₁ (escaped_all (key_bytes T X i)) B₂ at₂) where
        pub opening_room : Room B₂ at₂ 2
        opening_room =
            let n = member_length h k in
            let e = r.enough in
            let l = length-append (escaped_all (key_bytes T X i)) (0x27 ∷ 0x5D ∷ []) in
            room_left 2 (put_before p q) r.inside (omega arith)

        pub member_put : {B₃ : List ℕ} {at₃ : ℕ} → Put B₂ at₂ (0x5B ∷ 0x27 ∷ []) B₃ at₃ → Put B end (step_of T X i) B₃ at₃
        member_put o = put_as (sym (step_member h k)) (put_before (put_before p q) o)

  -- an element: `]`, the index, `[`
  module _ (k : kind_at T (parent_at T i) ≡ kind_map → ⊥) where
    pub closing_room : Room B end 1
    closing_room = let n = element_length h k in let e = r.enough in record { enough = omega arith; inside = r.inside }

    module _ {B₁ : List ℕ} {at₁ : ℕ} (p : Put B end (0x5D ∷ []) B₁ at₁) where
      pub index_room : Room B₁ at₁ (length (written (i - low_word T (parent_at T i))))
      index_room = let n = element_length h k in let e = r.enough in room_left (length (written (i - low_word T (parent_at T i)))) p r.inside (omega arith)

      module _ {B₂ : List ℕ} {at₂ : ℕ} (q : Put B₁ at₁ (written (i - low_word T (parent_at T i))) B₂ at₂) where
        pub bracket_room : Room B₂ at₂ 1
        bracket_room =
            let n = element_length h k in
            let e = r.enough in
            let l = length-append (written (i - low_word T (parent_at T i))) (0x5D ∷ []) in
            room_left 1 (put_before p q) r.inside (omega arith)

        pub element_put : {B₃ : List ℕ} {at₃ : ℕ} → Put B₂ at₂ (0x5B ∷ []) B₃ at₃ → Put B end (step_of T X i) B₃ at₃
        element_put o = put_as (sym (step_element h k)) (put_before (put_before p q) o)
