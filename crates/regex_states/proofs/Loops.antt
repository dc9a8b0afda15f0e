-- The loops over a row, and over known edges: one byte more. Assumes nothing.
use mathlib.Core.Path.{◌≡◌, refl, ap, sym, ◌∙◌, subst}
use mathlib.Core.Bool.{Bool, true, false}
use mathlib.Core.List.{List}
use Prim.Native.Nat.{ℕ, ◌+◌, ◌*◌, ◌≤◌, ◌<◌}
use native.Mathlib.Omega.{arith}
use lib.Dec.{eqb}
use borrow.Author.Tests.{eqb-true, eqb-false}
use lib.ListN.{length, get_or, set}
use lib.Seq.{get_or-set_same, get_or-set_other}
use Rattle.regex_states.specs.Ready.{cells, edge_of}
use Rattle.regex_states.specs.Texts.{Inside, Trail, more}
use Rattle.regex_states.proofs.Cells.{cells_is}

-- what holds below i and at i holds below i + 1
pub one_more : (P : ℕ → Type 0) (i : ℕ) → ((j : ℕ) → j < i → P j) → P i → (j : ℕ) → j < i + 1 → P j
one_more P i f p j h = go (eqb j i) refl
  where
    go : (b : Bool) → eqb j i ≡ b → P j
    go true e = subst P (sym (eqb-true j i e)) p
    go false e = f j (omega (arith, eqb-false j i e))

-- a byte more is written behind `a`
pub put_more :
    (f : ℕ → ℕ) (l : List ℕ) (a i v : ℕ) → a + i < length l → v ≡ f i → ((j : ℕ) → j < i → get_or l (a + j) 0 ≡ f j) → (j : ℕ) → j < i + 1
    → get_or (set l (a + i) v) (a + j) 0 ≡ f j
put_more f l a i v h e g =
    one_more (λ j. get_or (set l (a + i) v) (a + j) 0 ≡ f j) i
    (λ j k. get_or-set_other l (a + i) (a + j) v 0 (λ z. omega arith) ∙ g j k)
    (get_or-set_same l (a + i) v 0 h ∙ e)

pub put_low :
    (l m : List ℕ) (a i v : ℕ) → ((j : ℕ) → j < a → get_or l j 0 ≡ get_or m j 0) → (j : ℕ) → j < a → get_or (set l (a + i) v) j 0 ≡ get_or m j 0
put_low l m a i v g j h = get_or-set_other l (a + i) j v 0 (λ z. omega arith) ∙ g j h

-- .. or from the beginning
pub load_more :
    (f : ℕ → ℕ) (l : List ℕ) (i v : ℕ) → i < length l → v ≡ f i → ((j : ℕ) → j < i → get_or l j 0 ≡ f j) → (j : ℕ) → j < i + 1
    → get_or (set l i v) j 0 ≡ f j
load_more f l i v h e g =
    one_more (λ j. get_or (set l i v) j 0 ≡ f j) i
    (λ j k. get_or-set_other l i j v 0 (λ z. omega arith) ∙ g j k)
    (get_or-set_same l i v 0 h ∙ e)

-- all bytes are those of the cells
pub loaded :
    (l ms : List ℕ) (a n i : ℕ) → length ms ≡ n → length ms ≤ i → ((j : ℕ) → j < i → get_or ms j 0 ≡ get_or l (a + j) 0) → ms ≡ cells l a n
loaded l ms a n i e h f = sym (cells_is l ms a (λ j k. sym (f j (omega arith)))) ∙ ap (cells l a) e

-- an edge more
pub follow_more :
    {es t : List ℕ} {i0 k0 i k b v : ℕ} → Inside es k → Trail es t i0 k0 i k → i < length t → b ≡ get_or t i 0 → b < 128
    → v ≡ get_or es (k * 128 + b) 0 → (v ≡ 0 → ⊥) → Inside es v × Trail es t i0 k0 (i + 1) v
follow_more {es} {t} {i0} {k0} {i} {k} {b} {v} g r h p q e n =
    let z : v ≡ edge_of es k (get_or t i 0) = e ∙ ap (λ j. get_or es (k * 128 + j) 0) p in
    let o = g.inside k b g.here.0 g.here.1 q in (
      record { count = g.count; here = (omega (arith, n), omega arith); fits = g.fits; inside = g.inside },
      subst (λ j. Trail es t i0 k0 (i + 1) j) (sym z) (more r h (omega arith) (λ y. n (z ∙ y))),
    )

pub edge_fits : {es : List ℕ} {k b : ℕ} → Inside es k → b < 128 → k * 128 + b < length es
edge_fits g h = omega (arith, g.here.0, g.here.1, g.fits)
