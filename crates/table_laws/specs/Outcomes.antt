-- The answers of text and key of a node, by what the check of the table comes to. Assumes nothing.
use Rattle.std.specs.Prelude.{ℕ, ◌+◌, ◌-◌, ◌≤◌, ◌<◌, ◌≡◌, List, [], Bool, true, false, ◌&&◌, eqb, ltb, length}
use Rattle.std.proofs.Math.Path.{refl, ap}
use Rattle.std.proofs.Common.{sym, ◌∙◌, subst, arith}
use Rattle.std.proofs.lemmas.Bool.{false≢true}
use Rattle.std.proofs.Math.Option.{Option, none, some}
use borrow.Author.Tests.{ltb-true, eqb-true, lt-ltb, le-ltb}
use Rattle.definition.specs.Tables.{Checked, node_count, kind_at, key_start, key_length, low_word, high_word, kind_text, kind_map, first_child, good_part, parent_below, parent_of}
use Rattle.definition.specs.Tables.Checked.{accepted, sized, wrong_at, text_at}
use Rattle.definition.specs.TableOutcomes.{TableOutcome, report_table, PartOutcome, refused_part, found_part, part_by, has_text, is_member, has_key}
use Rattle.basics.specs.Bools.{and_left, and_not_left, and_not_right, and_right}
use Rattle.table_laws.specs.Counts.{counts_next}
use Rattle.table_laws.specs.Parents.{InRange, parent_found}
use Rattle.table_laws.specs.Rights.{good_inside}
use Rattle.table_laws.specs.Accepted.{Accepted}

-- what the check came to, by the refusal that is reported
pub report_accepted : (c : Checked) → (report_table c).refusal ≡ 0 → c ≡ accepted
unfolding report_table
report_accepted accepted h = refl
report_accepted sized h = absurd (omega arith)
report_accepted (wrong_at i) h = absurd (omega arith)
report_accepted (text_at i) h = absurd (omega arith)

pub report_sized : (c : Checked) → (report_table c).refusal ≡ 9 → c ≡ sized
unfolding report_table
report_sized accepted h = absurd (omega arith)
report_sized sized h = refl
report_sized (wrong_at i) h = absurd (omega arith)
report_sized (text_at i) h = absurd (omega arith)

pub report_wrong : (c : Checked) → (report_table c).refusal ≡ 10 → c ≡ wrong_at (report_table c).node
unfolding report_table
report_wrong accepted h = absurd (omega arith)
report_wrong sized h = absurd (omega arith)
report_wrong (wrong_at i) h = refl
report_wrong (text_at i) h = absurd (omega arith)

pub report_text : (c : Checked) → (report_table c).refusal ≡ 17 → c ≡ text_at (report_table c).node
unfolding report_table
report_text accepted h = absurd (omega arith)
report_text sized h = absurd (omega arith)
report_text (wrong_at i) h = absurd (omega arith)
report_text (text_at i) h = refl

module _ (c : Checked) (b : Bool) (s : List ℕ) where
  -- the number, by what the check came to and whether there is such a text
  pub number_sized : c ≡ sized → (part_by c b s).number ≡ 9
  unfolding part_by refused_part
  number_sized e = ap (λ (x : Checked). (part_by x b s).number) e

  pub number_wrong : (i : ℕ) → c ≡ wrong_at i → (part_by c b s).number ≡ 10
  unfolding part_by refused_part
  number_wrong i e = ap (λ (x : Checked). (part_by x b s).number) e

  pub number_text : (i : ℕ) → c ≡ text_at i → (part_by c b s).number ≡ 17
  unfolding part_by refused_part
  number_text i e = ap (λ (x : Checked). (part_by x b s).number) e

  pub number_lacking : c ≡ accepted → b ≡ false → (part_by c b s).number ≡ 15
  unfolding part_by found_part refused_part
  number_lacking e f = ap (λ (x : Checked). (part_by x b s).number) e ∙ ap (λ (x : Bool). (found_part x s).number) f

  pub number_found : c ≡ accepted → b ≡ true → (part_by c b s).number ≡ 0
  unfolding part_by found_part
  number_found e f = ap (λ (x : Checked). (part_by x b s).number) e ∙ ap (λ (x : Bool). (found_part x s).number) f

-- the number 0 is answered with the part, after a check that accepts, where there is such a text
pub found_whole : (c : Checked) (b : Bool) (s : List ℕ) → (part_by c b s).number ≡ 0 → (c ≡ accepted) × (b ≡ true) × ((part_by c b s).part ≡ s)
unfolding part_by found_part refused_part
found_whole accepted true s h = (refl, refl, refl)
found_whole accepted false s h = absurd (omega arith)
found_whole sized b s h = absurd (omega arith)
found_whole (wrong_at i) b s h = absurd (omega arith)
found_whole (text_at i) b s h = absurd (omega arith)

-- a refusal is answered with an empty part
pub refused_empty : (c : Checked) (b : Bool) (s : List ℕ) → ((part_by c b s).number ≡ 0 → ⊥) → (part_by c b s).part ≡ []
unfolding part_by found_part refused_part
refused_empty accepted true s h = absurd (h refl)
refused_empty accepted false s h = refl
refused_empty sized b s h = refl
refused_empty (wrong_at i) b s h = refl
refused_empty (text_at i) b s h = refl

module _ (T : List ℕ) (i : ℕ) where
  -- which nodes have a text
  pub text_beyond : node_count T ≤ i → has_text T i ≡ false
  unfolding has_text
  text_beyond h = and_not_left (ltb i (node_count T)) (eqb (kind_at T i) kind_text) (le-ltb i (node_count T) h)

  pub text_by_kind : i < node_count T → has_text T i ≡ eqb (kind_at T i) kind_text
  unfolding has_text
  text_by_kind h = rw (lt-ltb i (node_count T) h)

  pub text_has : has_text T i ≡ true → (i < node_count T) × (kind_at T i ≡ kind_text)
  unfolding has_text
  text_has h = (
    ltb-true i (node_count T) (and_left (ltb i (node_count T)) (eqb (kind_at T i) kind_text) h),
    eqb-true (kind_at T i) kind_text (and_right (ltb i (node_count T)) (eqb (kind_at T i) kind_text) h),
  )

  -- which nodes have a key
  pub key_beyond : node_count T ≤ i → has_key T i ≡ false
  unfolding has_key
  key_beyond h = and_not_left (ltb i (node_count T)) (is_member T (parent_of T i)) (le-ltb i (node_count T) h)

  pub key_root : i ≡ 0 → has_key T i ≡ false
  unfolding has_key is_member
  key_root h = and_not_right (ltb i (node_count T)) (is_member T (parent_of T i)) (ap (is_member T) (ap (parent_of T) h ∙ root_alone))
    where
      root_alone : parent_of T 0 ≡ none
      root_alone = unfold parent_below in refl

  pub key_under : (p : ℕ) → i < node_count T → parent_of T i ≡ some p → has_key T i ≡ eqb (kind_at T p) kind_map
  unfolding has_key is_member
  key_under p h e = rw (lt-ltb i (node_count T) h, e)

  pub key_has : has_key T i ≡ true → (i < node_count T) × (p : ℕ) × (p < i) × InRange T p i × (kind_at T p ≡ kind_map)
  unfolding has_key
  key_has h = go (parent_of T i) refl (and_right (ltb i (node_count T)) (is_member T (parent_of T i)) h)
    where
      l : i < node_count T
      l = ltb-true i (node_count T) (and_left (ltb i (node_count T)) (is_member T (parent_of T i)) h)

      go : (o : Option ℕ) → parent_of T i ≡ o → is_member T o ≡ true → (i < node_count T) × (p : ℕ) × (p < i) × InRange T p i × (kind_at T p ≡ kind_map)
      go none e m = absurd (false≢true (unfold is_member in m))
      go (some p) e m = let w = parent_found T p i e in (l, p, w.0, w.1, eqb-true (kind_at T p) kind_map (unfold is_member in m))

module _ (T X : List ℕ) (a : Accepted T X) (i : ℕ) where
  -- in an accepted table the text of a node lies inside the text
  pub text_inside_lem : has_text T i ≡ true → (i < node_count T) × (low_word T i + high_word T i ≤ length X)
  text_inside_lem h = let w = text_has T i h in (w.0, good_inside X (low_word T i) (high_word T i) (a.texts i w.0 w.1))

  -- in an accepted table the key of a node lies inside the text
  pub key_inside : has_key T i ≡ true → (i < node_count T) × (key_start T i + key_length T i ≤ length X)
  key_inside h =
      let w = key_has T i h in
      let p = w.1 in
      let l = w.0 in
      let b = w.2 in
      let above = w.3.above in
      let within = w.3.within in
      let s = counts_next T p in
      let e : first_child T p + (i - first_child T p) ≡ i = omega arith in
      let g = a.keys p (omega arith) w.4 (i - first_child T p) (omega arith) in
      (l, good_inside X (key_start T i) (key_length T i) (subst (λ (x : ℕ). good_part X (key_start T x) (key_length T x) ≡ true) e g))
