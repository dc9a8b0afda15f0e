-- The pass over the nodes of a table, whatever checks the children of one node: what its loop keeps, and what each way out of it gives. T is the table, X the
-- text, q the cursor, H and L the heads and links. Assumes nothing.
use Prim.Native.Nat.{ℕ, ◌≤◌, ◌<◌}
use mathlib.Core.Path.{◌≡◌, refl, sym, ap, ◌∙◌}
use mathlib.Core.List.{List}
use mathlib.Core.Option.{Option}
use lib.ListN.{length}
use native.Mathlib.Omega.{arith}
use Rattle.definition.specs.Limits.{max_nodes}
use Rattle.definition.specs.Tables.{node_count, first_child}
use Rattle.table_laws.specs.Joined.{least_wrong, node_right}
use Rattle.table_laws.specs.Least.{RightBelow, least_wrong_lem, least_none}
use Rattle.table_laws.specs.Rights.{first_inside, stands_alone, wrong_place}
use Rattle.std.specs.Prelude.{Ok, Err}
use Rattle.table.specs.declared.scan.Cursor.{Cursor}
use Rattle.table.specs.declared.scan.Passed.{Passed}
use Rattle.table.specs.Outcomes.{found}
use Rattle.table.specs.Words.{HasParent, CursorAt, ParentAt, Moved, Surely, Kept, Before, Begun, Along, WrongAt, PassedBy}
use Rattle.table.proofs.Along.{begun_at, before_along}
use Rattle.table.proofs.Kept.{kept_moved, before_surely}

-- every node before the one that is looked at is right, and the cursor, heads and links stand before it
pub record InPass (T X H₀ L₀ H L : List ℕ) (q : Cursor) (first node : ℕ) : Type 0 where
  pub first_is : first ≡ first_child T node
  pub before : Before T X node q H L
  pub right : RightBelow T X node
  pub heads : length H ≡ length H₀
  pub links : length L ≡ length L₀

-- a wrong node before which all are right is what is found
pub wrong_found : {T X : List ℕ} {n : ℕ} → WrongAt T X n → found (Err n) ≡ least_wrong T X 0 (node_count T)
unfolding found
wrong_found {T} {X} {n} w = sym (least_wrong_lem T X n (node_count T) w.right w.wrong w.node_in)

module _ {T X H₀ L₀ H L : List ℕ} {q : Cursor} {first node : ℕ} (i : InPass T X H₀ L₀ H L q first node) where
  -- behind the last node
  pub pass_ends : node_count T ≤ node → found (Ok tt) ≡ least_wrong T X 0 (node_count T)
  unfolding found
  pass_ends e = sym (least_none T X (node_count T) (λ k m. i.right k (omega arith)))

  module _ (n : node < node_count T) where
    -- a node that the counts before it do not reach
    pub pass_alone : first ≤ node → found (Err node) ≡ least_wrong T X 0 (node_count T)
    pass_alone h =
        let f = i.first_is in
        let e = i.before.cursor.earlier in
        wrong_found (record { node_in = n; right = i.right; wrong = wrong_place T X node (stands_alone T X node (omega arith) (omega arith)) })

    -- a node that they reach has a parent, which the cursor moves to
    pub pass_parent : node < first → 0 < node_count T → HasParent T node × CursorAt T node q
    pass_parent h o = let f = i.first_is in (record { node_in = n; first_in = first_inside T X node i.right o; reached = omega arith }, i.before.cursor)

    module _ (s : node_count T ≤ max_nodes) {r : Cursor} (p : ParentAt T node r) where
      pub pass_begun : Begun T X node first r
      pass_begun = begun_at T X node first r p n s i.first_is i.right

      pub pass_kept : Moved node q r → Kept T X node r H L
      pass_kept w = kept_moved T X node q r H L i.before p w

      -- behind children that are right, with the cursor at their parent, or with one under which the keys are found to differ
      module _ {H' L' : List ℕ} {m g : ℕ} (a : Along T X node r m g) (k : Kept T X m r H' L') (h : length H' ≡ length H) (l : length L' ≡ length L) where
        pub pass_on : InPass T X H₀ L₀ H' L' r g m
        pass_on = record { first_is = a.first_is; before = before_along T X node first r pass_begun m g H' L' a k; right = a.right; heads = h ∙ i.heads; links = l ∙ i.links }

        pub pass_surely : {r' : Cursor} → Surely T X r r' → InPass T X H₀ L₀ H' L' r' g m
        pass_surely {r'} y = let o = pass_on in record { first_is = o.first_is; before = before_surely T X m r r' H' L' y o.before; right = o.right; heads = o.heads; links = o.links }

-- the cursor's range is not turned round
pub parent_range : {T : List ℕ} {node : ℕ} {r : Cursor} → ParentAt T node r → r.from ≤ r.end
parent_range p = let u = p.place.from_le in let v = p.end_past in omega arith
