-- What a right size of a table and its text gives. Assumes nothing.
use Rattle.std.specs.Prelude.{ℕ, ◌+◌, ◌*◌, ◌/◌, ◌%◌, ◌≤◌, ◌<◌, ◌≡◌, List, false, not, ◌||◌, eqb, ltb, length}
use Rattle.std.proofs.Common.{sym, ◌∙◌, arith, eqb-true, ltb-false}
use Rattle.std.proofs.lemmas.Bool.{eqb-false, not-false}
use Rattle.definition.specs.Limits.{record_size, max_nodes, max_text}
use Rattle.definition.specs.Tables.{node_count, bad_size}
use Rattle.basics.specs.Bools.{or_left, or_right}

-- a table of at least one node and whole records, with no more nodes and no more text than is allowed
pub record RightSize (T X : List ℕ) : Type 0 where
  pub some_node : 0 < node_count T
  pub whole : length T ≡ record_size * node_count T
  pub few : node_count T ≤ max_nodes
  pub short : length X ≤ max_text

pub right_size : (T X : List ℕ) → bad_size T X ≡ false → RightSize T X
unfolding bad_size
right_size T X h =
    let t1 = eqb (length T) 0 in
    let t2 = not (eqb (length T % record_size) 0) in
    let t3 = ltb max_nodes (node_count T) in
    let t4 = ltb max_text (length X) in
    let r1 = or_right t1 (t2 || (t3 || t4)) h in
    let r2 = or_right t2 (t3 || t4) r1 in
    let a = eqb-false (length T) 0 (or_left t1 (t2 || (t3 || t4)) h) in
    let b = eqb-true (length T % record_size) 0 (not-false (eqb (length T % record_size) 0) (or_left t2 (t3 || t4) r1)) in
    let d = ltb-false max_nodes (node_count T) (or_left t3 t4 r2) in
    let e = ltb-false max_text (length X) (or_right t3 t4 r2) in
    record { some_node = omega arith; whole = omega arith; few = d; short = e }
