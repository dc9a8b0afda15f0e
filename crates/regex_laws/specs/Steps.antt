-- One step of reading, and what a reading that succeeds has come through. Assumes nothing.
use Rattle.std.specs.Prelude.{◌≡◌, refl, Bool, true, false, cond, List, [], ◌∷◌, ℕ, zero, suc, ◌-◌, ◌<◌, eqb}
use Rattle.std.proofs.Common.{ap, sym, ◌∙◌, true≢false, arith, eqb-true}
use Rattle.std.proofs.lemmas.Bool.{false≢true}
use Rattle.std.proofs.Math.Option.{Option, none, some}
use Rattle.regex_definition.specs.Regexp.{Regexp, empty, then, or}
use Rattle.regex_definition.specs.Read.{begins, rest, and_then, stops, read_quantifier, read_leaf, read_atom, read_piece, read_branch, read_alternatives}
use Rattle.utf8_laws.specs.Bytes.{by_test}

-- a character of a class is none that the class has not
pub apart : (p : ℕ → Bool) (c x : ℕ) → p c ≡ true → p x ≡ false → eqb c x ≡ false
apart p c x e f = by_test (eqb c x) (λ t. absurd (let q : c ≡ x = eqb-true c x t in true≢false (sym e ∙ ap p q ∙ f))) (λ t. t)

abbrev told : {B : Type 0} → Option B → ℕ
told none = 0
told (some y) = 1

pub none_some : {B : Type 0} {y : B} → none ≡ some y → ⊥
none_some e = let n : ◌≡◌ {A = ℕ} 0 1 = ap told e in omega arith

-- a reading that succeeds has read the first part
pub then_inv : {A B : Type 0} (o : Option (A × List ℕ)) (f : A → List ℕ → Option B) {y : B} → and_then o f ≡ some y → (a : A) × (r : List ℕ) × (o ≡ some (a, r)) × (f a r ≡ some y)
then_inv none f e = absurd (none_some e)
then_inv (some p) f e = (p.0, p.1, refl, e)

pub some_left : {A : Type 0} {a b : A} {r r' : List ℕ} → ◌≡◌ {A = Option (A × List ℕ)} (some (a, r)) (some (b, r')) → a ≡ b
some_left {A} {a} {b} {r} {r'} e = let p : ◌≡◌ {A = A × List ℕ} (a, r) (b, r') = cc in ap (λ (q : A × List ℕ). q.0) p

pub some_right : {A : Type 0} {a b : A} {r r' : List ℕ} → ◌≡◌ {A = Option (A × List ℕ)} (some (a, r)) (some (b, r')) → r ≡ r'
some_right {A} {a} {b} {r} {r'} e = let p : ◌≡◌ {A = A × List ℕ} (a, r) (b, r') = cc in ap (λ (q : A × List ℕ). q.1) p

-- a text that begins with x is x and the rest
pub begun : (x : ℕ) (s : List ℕ) → begins x s ≡ true → s ≡ x ∷ rest s
begun x [] e = absurd (false≢true e)
begun x (c ∷ s) e = ap (λ (d : ℕ). d ∷ s) (eqb-true c x e)

-- ---- one step, where one is left

pub alternatives_step : (n : ℕ) (k : Regexp → Regexp) (s : List ℕ) → 0 < n
    → read_alternatives n k s ≡ and_then (read_branch (n - 1) (λ x. x) s) (λ b r. cond (begins 0x7C r) (read_alternatives (n - 1) (λ x. k (or b x)) (rest r)) (some (k b, r)))
unfolding read_alternatives
alternatives_step zero k s h = absurd (omega arith)
alternatives_step (suc n) k s h = let z : suc n - 1 ≡ n = omega arith in rw z refl

pub branch_step : (n : ℕ) (k : Regexp → Regexp) (s : List ℕ) → 0 < n
    → read_branch n k s ≡ cond (stops s) (some (k empty, s)) (and_then (read_piece (n - 1) s) (λ p r. read_branch (n - 1) (λ x. k (then p x)) r))
unfolding read_branch
branch_step zero k s h = absurd (omega arith)
branch_step (suc n) k s h = let z : suc n - 1 ≡ n = omega arith in rw z refl

pub piece_step : (n : ℕ) (s : List ℕ) → 0 < n → read_piece n s ≡ and_then (read_atom (n - 1) s) read_quantifier
unfolding read_piece
piece_step zero s h = absurd (omega arith)
piece_step (suc n) s h = let z : suc n - 1 ≡ n = omega arith in rw z refl

pub atom_step : (n : ℕ) (s : List ℕ) → 0 < n
    → read_atom n s ≡ cond (begins 0x28 s) (and_then (read_alternatives (n - 1) (λ x. x) (rest s)) (λ x r. cond (begins 0x29 r) (some (x, rest r)) none)) (read_leaf (n - 1) s)
unfolding read_atom
atom_step zero s h = absurd (omega arith)
atom_step (suc n) s h = let z : suc n - 1 ≡ n = omega arith in rw z refl
