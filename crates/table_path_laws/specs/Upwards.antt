-- A path by its parents, for code that goes upwards: the path of a child is its parent's path with one step behind it. Assumes nothing.
use Prim.Native.Nat.{ℕ, zero, suc, ◌+◌, ◌-◌, ◌≤◌, ◌<◌}
use Rattle.std.proofs.Math.Path.{◌≡◌, refl, sym, ap}
use Rattle.std.proofs.Common.{◌∙◌, length-append, arith}
use mathlib.Core.List.{List, [], ◌∷◌, ◌++◌, append_assoc}
use Rattle.std.proofs.Math.Option.{Option, none, some}
use Rattle.std.specs.Prelude.{length}
use Rattle.definition.specs.Tables.{node_count, parent_at, parent_below, parent_of}
use Rattle.table_laws.specs.Parents.{parent_found}
use Rattle.table_laws.specs.Accepted.{Accepted, parent_written}
use Rattle.definition.specs.Paths.{Step, step_at, steps_up, steps_to, escaped_all, written, spell_step, spell_steps, path_of}
use Rattle.definition.specs.Paths.Step.{named, placed}

module _ (T X : List ℕ) where
  -- any number of steps from i on is enough
  up_enough : (f g i : ℕ) (ss : List Step) → i ≤ f → i ≤ g → steps_up f T X i ss ≡ steps_up g T X i ss
  unfolding steps_up parent_below
  up_enough zero zero i ss h k = refl
  up_enough zero (suc g) zero ss h k = refl
  up_enough zero (suc g) (suc i) ss h k = absurd (omega arith)
  up_enough (suc f) zero zero ss h k = refl
  up_enough (suc f) zero (suc i) ss h k = absurd (omega arith)
  up_enough (suc f) (suc g) i ss h k = by (parent_of T i) refl (λ p. up_enough f g p (step_at T X p i ∷ ss))
    where
      by : (o : Option ℕ) → parent_of T i ≡ o → ((p : ℕ) → p ≤ f → p ≤ g → steps_up f T X p (step_at T X p i ∷ ss) ≡ steps_up g T X p (step_at T X p i ∷ ss))
          → ◌≡◌ {A = List Step} (elim o [ none ↦ ss | some p ↦ steps_up f T X p (step_at T X p i ∷ ss) ]) (elim o [ none ↦ ss | some p ↦ steps_up g T X p (step_at T X p i ∷ ss) ])
      by none e ih = refl
      by (some p) e ih = let w = parent_found T p i e in let l = w.0 in ih p (omega arith) (omega arith)

  -- the steps given stand behind the steps to the node
  up_append : (f i : ℕ) (ss : List Step) → steps_up f T X i ss ≡ steps_up f T X i [] ++ ss
  unfolding steps_up
  up_append zero i ss = refl
  up_append (suc f) i ss = by (parent_of T i) (λ p ts. up_append f p ts)
    where
      by : (o : Option ℕ) → ((p : ℕ) (ts : List Step) → steps_up f T X p ts ≡ steps_up f T X p [] ++ ts)
          → elim o [ none ↦ ss | some p ↦ steps_up f T X p (step_at T X p i ∷ ss) ] ≡ elim o [ none ↦ [] | some p ↦ steps_up f T X p (step_at T X p i ∷ []) ] ++ ss
      by none ih = refl
      by (some p) ih =
          ih p (step_at T X p i ∷ ss)
          ∙ sym (append_assoc (steps_up f T X p []) (step_at T X p i ∷ []) ss)
          ∙ ap (λ (x : List Step). x ++ ss) (sym (ih p (step_at T X p i ∷ [])))

  -- no step leads to the root, nor to a node that is nobody's child
  pub steps_root : steps_to T X 0 ≡ []
  unfolding steps_to steps_up
  steps_root = refl

  -- the steps to a child are those to its parent and one more
  pub steps_child : (i p : ℕ) → parent_of T i ≡ some p → steps_to T X i ≡ steps_to T X p ++ (step_at T X p i ∷ [])
  unfolding steps_to steps_up parent_below
  steps_child zero p e = let z : ◌≡◌ {A = ℕ} 0 1 = cc in absurd (omega arith)
  steps_child (suc i) p e =
      let w = parent_found T p (suc i) e in
      let l = w.0 in
      ap (λ (o : Option ℕ). elim o [ none ↦ [] | some y ↦ steps_up i T X y (step_at T X y (suc i) ∷ []) ]) e
      ∙ up_enough i p p (step_at T X p (suc i) ∷ []) (omega arith) (omega arith)
      ∙ up_append p p (step_at T X p (suc i) ∷ [])

-- a step's spelling is followed by what follows it
pub step_append : (s : Step) (r : List ℕ) → spell_step s r ≡ spell_step s [] ++ r
unfolding spell_step
step_append (named k) r = ap (λ (x : List ℕ). 0x5B ∷ 0x27 ∷ x) (sym (append_assoc (escaped_all k) (0x27 ∷ 0x5D ∷ []) r))
step_append (placed n) r = ap (λ (x : List ℕ). 0x5B ∷ x) (sym (append_assoc (written n) (0x5D ∷ []) r))

spell_append : (ss ts : List Step) → spell_steps (ss ++ ts) ≡ spell_steps ss ++ spell_steps ts
unfolding spell_steps
spell_append [] ts = refl
spell_append (s ∷ ss) ts =
    ap (spell_step s) (spell_append ss ts)
    ∙ step_append s (spell_steps ss ++ spell_steps ts)
    ∙ sym (append_assoc (spell_step s []) (spell_steps ss) (spell_steps ts))
    ∙ ap (λ (x : List ℕ). x ++ spell_steps ts) (sym (step_append s (spell_steps ss)))

module _ (T X : List ℕ) where
  -- the root's path is `$`
  pub path_root : path_of T X 0 ≡ 0x24 ∷ []
  unfolding path_of spell_steps
  path_root = rw (steps_root T X)

  -- the path of a child is its parent's and one step: so code that goes upwards writes a path from its last byte to its first
  pub path_child : (i p : ℕ) → parent_of T i ≡ some p → path_of T X i ≡ path_of T X p ++ spell_step (step_at T X p i) []
  unfolding path_of spell_steps
  path_child i p e = ap (λ (x : List Step). 0x24 ∷ spell_steps x) (steps_child T X i p e) ∙ ap (λ (x : List ℕ). 0x24 ∷ x) (spell_append (steps_to T X p) (step_at T X p i ∷ []))

  -- and its length is the sum
  pub length_child : (i p : ℕ) → parent_of T i ≡ some p → length (path_of T X i) ≡ length (path_of T X p) + length (spell_step (step_at T X p i) [])
  length_child i p e = ap length (path_child i p e) ∙ length-append (path_of T X p) (spell_step (step_at T X p i) [])

  -- in an accepted table the parent is the node that bytes 12-15 name
  pub path_upwards : Accepted T X → (i : ℕ) → 0 < i → i < node_count T → path_of T X i ≡ path_of T X (parent_at T i) ++ spell_step (step_at T X (parent_at T i) i) []
  path_upwards a i z l = path_child i (parent_at T i) (parent_written T X a i z l)
