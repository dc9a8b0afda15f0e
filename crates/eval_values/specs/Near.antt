-- A member at a place where its name is looked for first: members of one map have different names, so that it is the one that a search finds. Assumes nothing.
use Rattle.std.specs.Prelude.{ℕ, ◌+◌, ◌≤◌, ◌<◌, ◌≡◌, refl, List, Bool, true, false, length, Some}
use Rattle.std.proofs.Common.{sym, ap, ◌∙◌, subst, arith}
use Rattle.std.proofs.lemmas.Bool.{false≢true}
use Rattle.definition.specs.Bytes.{same_bytes}
use Rattle.definition.specs.Tables.{node_count, kind_at, kind_map, low_word, high_word, child_count, key_start, key_length, key_bytes}
use Rattle.definition_bytes.specs.Same.{same_true}
use Rattle.table_laws.specs.Accepted.{Accepted}
use Rattle.table_laws.specs.Rights.{count_map}
use Rattle.eval_laws.specs.Ranges.{Range, range_of_lem}
use Rattle.eval_values.specs.Members.{Members, Looked, lookup_passed, lookup_found}
use Rattle.eval_values.specs.Same.{members_of}

-- the node is a map, and its member at place near is the one of the name k
pub record Near (S X : List ℕ) (node near : ℕ) (k : List ℕ) : Type 0 where
  pub map : kind_at S node ≡ kind_map
  pub less : near < child_count S node
  pub looked : Looked S X (low_word S node) (child_count S node) k (Some (low_word S node + near))

abbrev pub DoneNear : List ℕ → List ℕ → ℕ → ℕ → List ℕ → Bool → Type 0
DoneNear S X node near k r = r ≡ true → Near S X node near k

-- an answer of no promises nothing
pub not_near : (S X : List ℕ) (node near : ℕ) (k : List ℕ) → DoneNear S X node near k false
not_near S X node near k e = absurd (false≢true e)

module _ {S X : List ℕ} (tab : Accepted S X) {node : ℕ} (h : node < node_count S) (m : kind_at S node ≡ kind_map) {near n : ℕ} (e : n ≡ high_word S node) (l : near < n) where
  near_less : near < child_count S node
  near_less = let c = count_map S node m in omega arith

  near_range : Range S node (low_word S node) (child_count S node)
  near_range = range_of_lem S X tab node h (low_word S node) (child_count S node) refl refl

  near_members : Members S X (low_word S node) (child_count S node)
  near_members = members_of S X tab node h m (low_word S node) (child_count S node) near_range

  -- the member there is a node, and its key lies inside the text
  pub near_named : (j : ℕ) → j ≡ low_word S node + near → (j < node_count S) × (key_start S j + key_length S j ≤ length X)
  near_named j i =
      subst (λ (x : ℕ). (x < node_count S) × (key_start S x + key_length S x ≤ length X)) (sym i) (near_members.nodes near near_less, near_members.keys near near_less)

  -- a member before it has another name
  near_apart : (i : ℕ) → i < near → same_bytes (key_bytes S X (low_word S node + i)) (key_bytes S X (low_word S node + near)) ≡ false
  near_apart i b =
      let g = near_less in
      subst (λ (x : ℕ). same_bytes (key_bytes S X (x + i)) (key_bytes S X (x + near)) ≡ false) (sym (near_range.first (omega arith))) (tab.apart node h m i near b near_less)

  pub near_is : (k : List ℕ) (j : ℕ) → j ≡ low_word S node + near → (r : Bool) → r ≡ same_bytes (key_bytes S X j) k → DoneNear S X node near k r
  near_is k j i r d t =
      let y : r ≡ same_bytes (key_bytes S X (low_word S node + near)) k = d ∙ ap (λ (x : ℕ). same_bytes (key_bytes S X x) k) i in
      let q = same_true (key_bytes S X (low_word S node + near)) k (sym y ∙ t) in
      let g = near_less in
      let p = lookup_passed S X k (low_word S node) (child_count S node) near (omega arith) (λ x b. subst (λ (z : List ℕ). same_bytes (key_bytes S X (low_word S node + x)) z ≡ false) q (near_apart x b)) in
      record { map = m; less = g; looked = lookup_found S X k (low_word S node) (child_count S node) near p g r y t }

-- a member at a place of a map is found there by its name
pub near_found : {S X : List ℕ} → Accepted S X → {node : ℕ} → node < node_count S → kind_at S node ≡ kind_map → (k : List ℕ) (first count near : ℕ) → first ≡ low_word S node → count ≡ child_count S node → near < count → true ≡ same_bytes (key_bytes S X (first + near)) k
    → Looked S X first count k (Some (first + near))
near_found {S} {X} tab {node} h m k first count near p q l d =
    let g : near < child_count S node = omega (arith, q) in
    let w = near_is tab h m (count_map S node m) g k (low_word S node + near) refl true (d ∙ ap (λ (f : ℕ). same_bytes (key_bytes S X (f + near)) k) p) refl in
    subst (λ (c : ℕ). Looked S X first c k (Some (first + near))) (sym q) (subst (λ (f : ℕ). Looked S X f (child_count S node) k (Some (f + near))) (sym p) w.looked)
