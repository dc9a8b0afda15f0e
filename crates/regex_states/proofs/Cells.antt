-- Parts of a room: they are the same if their bytes are. Assumes nothing.
use mathlib.Core.Path.{◌≡◌, refl, ap, ◌∙◌}
use mathlib.Core.List.{List, [], ◌∷◌}
use Prim.Native.Nat.{ℕ, zero, suc, ◌+◌, ◌<◌}
use native.Mathlib.Omega.{arith}
use lib.ListN.{length, get_or}
use Rattle.regex_states.specs.Ready.{cells}

-- two places that are one
at_place : (l : List ℕ) (i j : ℕ) → i ≡ j → get_or l i 0 ≡ get_or l j 0
at_place l i j e = ap (λ n. get_or l n 0) e

pub cells_same :
    (n : ℕ) (l m : List ℕ) (a b : ℕ) → ((i : ℕ) → i < n → get_or l (a + i) 0 ≡ get_or m (b + i) 0) → cells l a n ≡ cells m b n
cells_same zero l m a b f = refl
cells_same (suc n) l m a b f =
    let h : get_or l a 0 ≡ get_or m b 0 =
    at_place l a (a + 0) (omega arith) ∙ f 0 (omega arith) ∙ at_place m (b + 0) b (omega arith) in
    let t : cells l (a + 1) n ≡ cells m (b + 1) n =
    cells_same n l m (a + 1) (b + 1)
    (λ i p. at_place l (a + 1 + i) (a + (i + 1)) (omega arith) ∙ f (i + 1) (omega arith)
    ∙ at_place m (b + (i + 1)) (b + 1 + i) (omega arith)) in
    cc

-- all of a list
pub cells_all : (l : List ℕ) → cells l 0 (length l) ≡ l
cells_all [] = refl
cells_all (c ∷ l) =
    let t : cells (c ∷ l) (0 + 1) (length l) ≡ cells l 0 (length l) =
    cells_same (length l) (c ∷ l) l (0 + 1) 0
    (λ i h. at_place (c ∷ l) (0 + 1 + i) (suc i) (omega arith) ∙ at_place l i (0 + i) (omega arith)) in
    ap (λ r. c ∷ r) (t ∙ cells_all l)

-- cells that have the bytes of a list
pub cells_is : (l ms : List ℕ) (a : ℕ) → ((i : ℕ) → i < length ms → get_or l (a + i) 0 ≡ get_or ms i 0) → cells l a (length ms) ≡ ms
cells_is l ms a f =
    cells_same (length ms) l ms a 0 (λ i h. f i h ∙ at_place ms i (0 + i) (omega arith)) ∙ cells_all ms

pub length_cells : (n : ℕ) (l : List ℕ) (a : ℕ) → length (cells l a n) ≡ n
length_cells zero l a = refl
length_cells (suc n) l a = ap suc (length_cells n l (a + 1))

-- cells whose bytes are 0 have no other
pub cells_zero : (n : ℕ) (l : List ℕ) (a : ℕ) → ((i : ℕ) → i < n → get_or l (a + i) 0 ≡ 0) → (i : ℕ) → get_or (cells l a n) i 0 ≡ 0
cells_zero zero l a f i = refl
cells_zero (suc n) l a f zero = at_place l a (a + 0) (omega arith) ∙ f 0 (omega arith)
cells_zero (suc n) l a f (suc i) =
    cells_zero n l (a + 1) (λ j h. at_place l (a + 1 + j) (a + (j + 1)) (omega arith) ∙ f (j + 1) (omega arith)) i
