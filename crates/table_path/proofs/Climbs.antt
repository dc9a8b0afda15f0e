-- From a node up to the root: what is counted and what is put on the way. Assumes nothing.
use Prim.Native.Nat.{ℕ, suc, ◌+◌, ◌-◌, ◌≤◌, ◌<◌}
use mathlib.Core.Path.{◌≡◌, refl, sym, ap, ◌∙◌, subst}
use mathlib.Core.List.{List, [], ◌∷◌, ◌++◌, append-nil, append_assoc}
use lib.ListN.{length, length-append, drop, set, get_or}
use lib.Seq.{drop-cons}
use native.Mathlib.Omega.{arith}
use Rattle.definition.specs.Tables.{node_count, parent_at}
use Rattle.definition.specs.Paths.{path_of}
use Rattle.table_path_laws.specs.Upwards.{path_root}
use Rattle.table_path.specs.Words.{Put, Room, NodeOf, ChildOf, step_of}
use Rattle.table_path.proofs.Puts.{put_nothing, put_before, room_left}
use Rattle.table_path.proofs.Steps.{above_in, path_above, length_above}

-- a node on the way that is not the root
pub child_of : {T X : List ℕ} {i n : ℕ} → NodeOf T X i → n < node_count T → 0 < n → ChildOf T X n
child_of h l z = record { table = h.table; node_in = l; behind = z }

-- the root's path has one byte
pub root_length : (T X : List ℕ) (n : ℕ) → n ≡ 0 → length (path_of T X n) ≡ 1
root_length T X n e = ap (λ (x : ℕ). length (path_of T X x)) e ∙ ap length (path_root T X)

-- The steps behind node n are put: with the path of n before them they are the path of the node.
pub record Climbed (T X : List ℕ) (node : ℕ) (B₀ : List ℕ) (size : ℕ) (B : List ℕ) (end n : ℕ) : Type 0 where
  pub node_in : n < node_count T
  pub behind : List ℕ
  pub is : path_of T X node ≡ path_of T X n ++ behind
  pub put : Put B₀ size behind B end

pub climb_start : {T X : List ℕ} {node : ℕ} (B : List ℕ) (size : ℕ) → NodeOf T X node → Climbed T X node B size B size node
climb_start {T} {X} {node} B size h = record { node_in = h.node_in; behind = []; is = sym (append-nil (path_of T X node)); put = put_nothing B size }

module _ {T X B₀ B : List ℕ} {node size end n : ℕ} (x : Climbed T X node B₀ size B end n) (e : size ≡ length (path_of T X node)) where
  lengths : length (path_of T X node) ≡ length (path_of T X n) + length x.behind
  lengths = ap length x.is ∙ length-append (path_of T X n) x.behind

  module _ (h : ChildOf T X n) where
    -- there is room for the step to n
    pub climb_room : size ≤ length B₀ → Room B end (length (step_of T X n))
    climb_room l =
        let a = length_above h in
        let s = lengths in
        room_left (length (step_of T X n)) x.put l (omega arith)

    climb_next : {C : List ℕ} {from : ℕ} → Put B end (step_of T X n) C from → Climbed T X node B₀ size C from (parent_at T n)
    climb_next q =
        record {
          node_in = above_in h;
          behind = step_of T X n ++ x.behind;
          is = x.is ∙ ap (λ (s : List ℕ). s ++ x.behind) (path_above h) ∙ append_assoc (path_of T X (parent_at T n)) (step_of T X n) x.behind;
          put = put_before x.put q;
        }

    pub climb_to : {C : List ℕ} {from : ℕ} (p : ℕ) → p ≡ parent_at T n → Put B end (step_of T X n) C from → Climbed T X node B₀ size C from p
    climb_to {C} {from} p is q = subst (Climbed T X node B₀ size C from) (sym is) (climb_next q)

  -- at the root one byte is left, the first
  module _ (z : n ≡ 0) where
    end_one : end ≡ 1
    end_one = let s = lengths in let r = root_length T X n z in let b = x.put.begins in omega arith

    pub root_room : size ≤ length B₀ → 0 < length B
    root_room l = let s = lengths in let r = root_length T X n z in let b = x.put.same in omega arith

    pub climb_end : size ≤ length B₀ → set B 0 0x24 ≡ path_of T X node ++ drop size B₀
    climb_end l =
        let p : path_of T X node ≡ 0x24 ∷ x.behind = x.is ∙ ap (λ (i : ℕ). path_of T X i ++ x.behind) z ∙ ap (λ (s : List ℕ). s ++ x.behind) (path_root T X) in
        first B (root_room l)
        ∙ ap (λ (s : List ℕ). 0x24 ∷ s) (ap (λ (k : ℕ). drop k B) (sym end_one) ∙ x.put.holds)
        ∙ ap (λ (s : List ℕ). s ++ drop size B₀) (sym p)
      where
        first : (C : List ℕ) → 0 < length C → set C 0 0x24 ≡ 0x24 ∷ drop 1 C
        first [] h = absurd (omega arith)
        first (c ∷ C) h = refl
