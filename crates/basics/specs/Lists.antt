-- Laws of lists: the element at a place, how a list begins, and stores in a row. Assumes nothing.
use Rattle.std.specs.Prelude.{ℕ, suc, ◌+◌, ◌<◌, ◌≡◌, refl, false, List, [], ◌∷◌, ◌++◌, eqb, length, drop, get_or, set}
use Rattle.std.proofs.Common.{add-zero, add-one, arith, sym, ap, ◌∙◌, drop-cons}
use Rattle.std.proofs.lemmas.Bool.{eqb-false}
use Rattle.std.proofs.lemmas.List.Edits.{sets}
use Rattle.std.proofs.lemmas.List.{set_comm}

-- ---- the element at a place, and what stands behind it

pub drop_at : (s : List ℕ) (i : ℕ) → i < length s → drop i s ≡ get_or s i 0 ∷ drop (i + 1) s
drop_at s i h = rw (add-one i) (drop-cons s i 0 h)

-- ---- how a list begins

-- an empty list has no first element
pub not_cons : {x : ℕ} {l : List ℕ} → [] ≡ x ∷ l → ⊥
not_cons e = let z : ◌≡◌ {A = ℕ} 0 1 = cc in omega arith

-- and a list with a first element is not empty
pub cons_not : {x : ℕ} {l : List ℕ} → x ∷ l ≡ [] → ⊥
cons_not e = not_cons (sym e)

-- equal lists have equal rests
pub tail_same : {x y : ℕ} {l m : List ℕ} → x ∷ l ≡ y ∷ m → l ≡ m
tail_same e = cc

-- a list has one rest behind its first element
pub same_tail : {s : List ℕ} {x y : ℕ} {l m : List ℕ} → s ≡ x ∷ l → s ≡ y ∷ m → l ≡ m
same_tail f g = cc

-- no list begins with two elements
pub differ : {s : List ℕ} (x y : ℕ) {l m : List ℕ} → eqb x y ≡ false → s ≡ x ∷ l → s ≡ y ∷ m → ⊥
differ x y e f g =
    let h : x ≡ y = cc in
    eqb-false x y e h

-- ---- stores in a row

-- two runs of stores, one behind the other
pub sets_append : (p : List ℕ) (n : ℕ) (c d : List ℕ) → sets (sets p n c) (n + length c) d ≡ sets p n (c ++ d)
sets_append p n [] d = rw add-zero
sets_append p n (x ∷ c) d =
    let e : n + suc (length c) ≡ suc n + length c = omega arith in
    rw e (sets_append (set p n x) (suc n) c d)

-- a store before a run may be made first
pub set_sets : (p : List ℕ) (i x n : ℕ) (c : List ℕ) → i < n → set (sets p n c) i x ≡ sets (set p i x) n c
set_sets p i x n [] h = refl
set_sets p i x n (y ∷ c) h =
    set_sets (set p n y) i x (suc n) c (omega arith) ∙ ap (λ (l : List ℕ). sets l (suc n) c) (set_comm p n i y x (omega arith))
