-- How long a path can be: far below 2 to the 64, so its length can be counted in 64 bits. Assumes nothing.
use Rattle.std.specs.Prelude.{ℕ, zero, suc, ◌+◌, ◌-◌, ◌*◌, ◌≤◌, ◌<◌, ◌≡◌, List, [], ◌∷◌, eqb, length, drop}
use Rattle.std.proofs.Common.{subst, length-take, length-drop, arith}
use Rattle.std.proofs.Math.ListN.{length-append}
use Rattle.definition.specs.Limits.{max_text}
use Rattle.definition.specs.Tables.{node_count, kind_at, kind_map, depth_at, key_start, key_length, first_child, key_bytes}
use Rattle.utf8_laws.specs.Bytes.{by_test}
use Rattle.table_laws.specs.Counts.{counts_next}
use Rattle.table_laws.specs.Parents.{parent_is, parent_some}
use Rattle.table_laws.specs.Accepted.{Accepted}
use Rattle.definition.specs.Paths.{step_at, escaped, escaped_all, written, spell_step, path_of}
use Rattle.table_path_laws.specs.Escapes.{Escapes, escapes}
use Rattle.table_path_laws.specs.Escapes.Escapes.{by_letter, by_quote, by_digits_lem, by_self}
use Rattle.table_path_laws.specs.Digits.{written_length}
use Rattle.table_path_laws.specs.Upwards.{path_root, length_child}

-- a byte has at most six bytes in a path
pub escaped_length : (b : ℕ) → length (escaped b) ≤ 6
escaped_length b = by (escapes b)
  where
    by : Escapes b → length (escaped b) ≤ 6
    by (by_letter c h v l m e) = rw e (omega arith)
    by (by_quote q e) = rw e (omega arith)
    by (by_digits_lem l e) = rw e (omega arith)
    by (by_self l q g e) = rw e (omega arith)

pub escaped_all_length : (k : List ℕ) → length (escaped_all k) ≤ 6 * length k
unfolding escaped_all
escaped_all_length [] = omega arith
escaped_all_length (b ∷ k) = let h = escaped_length b in let r = escaped_all_length k in rw (length-append (escaped b) (escaped_all k)) (omega arith)

-- the longest step: a key of all the text, each byte escaped by digits
abbrev pub max_step : ℕ
max_step = 6 * max_text + 4

module _ (T X : List ℕ) (a : Accepted T X) where
  key_length_lem : (i : ℕ) → length (key_bytes T X i) ≤ max_text
  key_length_lem i =
      let s = a.size.short in
      let d = length-drop (key_start T i) X in
      let t = length-take (key_length T i) (drop (key_start T i) X) in
      omega arith

  step_length_lem : (p i : ℕ) → i < node_count T → length (spell_step (step_at T X p i) []) ≤ max_step
  unfolding step_at spell_step
  step_length_lem p i l =
      by_test (eqb (kind_at T p) kind_map)
      (λ y.
      let k = key_length_lem i in
      let e = escaped_all_length (key_bytes T X i) in
      rw (y, length-append (escaped_all (key_bytes T X i)) (0x27 ∷ 0x5D ∷ [])) (omega arith))
      (λ n.
      let f = a.size.few in
      let w = written_length (i - first_child T p) in
      rw (n, length-append (written (i - first_child T p)) (0x5D ∷ [])) (omega arith))

  length_up_to : (f i : ℕ) → i ≤ f → i < node_count T → length (path_of T X i) ≤ 1 + depth_at T i * max_step
  length_up_to zero zero h l = rw (path_root T X) (omega arith)
  length_up_to zero (suc i) h l = absurd (omega arith)
  length_up_to (suc f) zero h l = rw (path_root T X) (omega arith)
  length_up_to (suc f) (suc i) h l =
      let w = a.later (suc i) l in
      let q = parent_some T (suc i) (omega arith) (omega arith) in
      let p : ℕ = q.0 in
      let below = q.1 in
      let g = q.2 in
      let u = g.above in
      let v = g.within in
      let c = counts_next T p in
      let is : first_child T p + (suc i - first_child T p) ≡ suc i = omega arith in
      let d : depth_at T (suc i) ≡ depth_at T p + 1 = subst (λ (x : ℕ). depth_at T x ≡ depth_at T p + 1) is (a.deeper p (omega arith) (suc i - first_child T p) (omega arith)) in
      let e = length_child T X (suc i) p (parent_is T p (suc i) q.1 g) in
      let s = step_length_lem p (suc i) l in
      let r = length_up_to f p (omega arith) (omega arith) in
      rw d (omega arith)

  -- one byte for the root, and at most 100,663,300 for each level
  pub path_length : (i : ℕ) → i < node_count T → length (path_of T X i) ≤ 1 + depth_at T i * max_step
  path_length i l = length_up_to i i (omega arith) l

  -- so 33 bits are enough
  pub path_short : (i : ℕ) → i < node_count T → length (path_of T X i) < 8589934592
  path_short i l = let h = path_length i l in let d = a.depths i l in omega arith
