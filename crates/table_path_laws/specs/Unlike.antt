-- Two nodes of one table never share a path. Assumes nothing.
use Rattle.std.specs.Prelude.{ℕ, ◌<◌, ◌≡◌, refl, List, [], ◌∷◌, ◌++◌}
use Rattle.std.proofs.Common.{sym, ap, arith}
use Rattle.definition.specs.Tables.{node_count, check_table}
use Rattle.definition.specs.Tables.Checked.{accepted}
use Rattle.utf8_laws.specs.Bytes.{inside_low}
use Rattle.table_laws.specs.Accepted.{accepted_gives}
use Rattle.definition.specs.Paths.{Step, steps_to, escaped_all, written, spell_step, spell_steps, path_of}
use Rattle.definition.specs.Paths.Step.{named, placed}
use Rattle.table_path_laws.specs.Escapes.{key_unique}
use Rattle.table_path_laws.specs.Digits.{wrote, written_unique}
use Rattle.table_path_laws.specs.Finds.{steps_differ}

-- digits do not begin with a quote
digits_unquoted : (n : ℕ) (r s : List ℕ) → written n ++ r ≡ 0x27 ∷ s → ⊥
digits_unquoted n r s e =
    let w = wrote n in
    let k : w.first ∷ (w.more ++ r) ≡ 0x27 ∷ s = rw w.is at e in
    let z : w.first ≡ 0x27 = cc in
    let l = inside_low 0x30 0x39 w.first w.is_first in
    omega arith

-- a step is told from its spelling, whatever follows
pub step_unique : (a b : Step) (r s : List ℕ) → spell_step a r ≡ spell_step b s → (a ≡ b) × (r ≡ s)
unfolding spell_step
step_unique (named k) (named l) r s e =
    let f : escaped_all k ++ (0x27 ∷ 0x5D ∷ r) ≡ escaped_all l ++ (0x27 ∷ 0x5D ∷ s) = cc in
    let u = key_unique k l (0x5D ∷ r) (0x5D ∷ s) f in
    let v = u.1 in
    let t : r ≡ s = cc in
    (ap named u.0, t)
step_unique (named k) (placed n) r s e =
    let f : 0x27 ∷ (escaped_all k ++ (0x27 ∷ 0x5D ∷ r)) ≡ written n ++ (0x5D ∷ s) = cc in
    absurd (digits_unquoted n (0x5D ∷ s) (escaped_all k ++ (0x27 ∷ 0x5D ∷ r)) (sym f))
step_unique (placed m) (named l) r s e =
    let f : written m ++ (0x5D ∷ r) ≡ 0x27 ∷ (escaped_all l ++ (0x27 ∷ 0x5D ∷ s)) = cc in
    absurd (digits_unquoted m (0x5D ∷ r) (escaped_all l ++ (0x27 ∷ 0x5D ∷ s)) f)
step_unique (placed m) (placed n) r s e =
    let f : written m ++ (0x5D ∷ r) ≡ written n ++ (0x5D ∷ s) = cc in
    let u = written_unique m n r s f in
    (ap placed u.0, u.1)

-- no step is spelled by nothing
step_some : (a : Step) (r : List ℕ) → spell_step a r ≡ [] → ⊥
unfolding spell_step
step_some (named k) r e = let z : ◌≡◌ {A = ℕ} 0 1 = cc in omega arith
step_some (placed n) r e = let z : ◌≡◌ {A = ℕ} 0 1 = cc in omega arith

-- steps are told from their spelling
pub steps_unique : (ss ts : List Step) → spell_steps ss ≡ spell_steps ts → ss ≡ ts
unfolding spell_steps
steps_unique [] [] e = refl
steps_unique [] (t ∷ ts) e = absurd (step_some t (spell_steps ts) (sym e))
steps_unique (s ∷ ss) [] e = absurd (step_some s (spell_steps ss) e)
steps_unique (s ∷ ss) (t ∷ ts) e =
    let u = step_unique s t (spell_steps ss) (spell_steps ts) e in
    rw (u.0, steps_unique ss ts u.1)

-- "two nodes of a table never share a path", of any length
pub paths_differ : (T X : List ℕ) → check_table T X ≡ accepted → (i j : ℕ) → i < node_count T → j < node_count T → path_of T X i ≡ path_of T X j → i ≡ j
unfolding path_of
paths_differ T X h i j l m e =
    let f : spell_steps (steps_to T X i) ≡ spell_steps (steps_to T X j) = cc in
    steps_differ T X (accepted_gives T X h) i j l m (steps_unique (steps_to T X i) (steps_to T X j) f)
