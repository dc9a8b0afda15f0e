-- Where no class tells two characters apart, one may stand for the other at the head of a word. Assumes nothing.
use Rattle.basics.specs.Lists.{cons_not}
use mathlib.Core.Path.{◌≡◌, refl, ap, sym, ◌∙◌, subst}
use mathlib.Core.Bool.{Bool, true, false, not, ◌&&◌, ◌||◌}
use mathlib.Core.List.{List, [], ◌∷◌}
use mathlib.Core.Logic.{inl, inr, ⊎_elim}
use Prim.Native.Nat.{ℕ, zero, suc, pred, ◌+◌, ◌≤◌, ◌<◌}
use native.Mathlib.Omega.{arith}
use lib.Dec.{leb}
use lib.ListN.{length, get_or}
use borrow.Author.Tests.{leb-true}
use Rattle.regex_definition.specs.Chars.{within}
use Rattle.regex_definition.specs.Words.{Join, Row, Times, Most, upto, any}
use Rattle.regex_definition.specs.Regexp.{Range, inside, hits, Regexp, empty, class, then, or, times, Describes}
use Rattle.regex_definition.specs.Laws.{join_cons, cons_join, nil_join, join_map}
use Rattle.regex_code.specs.Flat.{flat, flat_ranges}
use Rattle.regex_marks.specs.Marks.{size, Rest, RestUpto, RestAny}
use Rattle.regex_states.specs.Ready.{Interchangeable}
use Rattle.regex_states.specs.Rooms.{AllLow}

module _ (c d : ℕ) where
  abbrev Swaps : (List ℕ → Type 0) → Type 0
  Swaps P = (w : List ℕ) → P (c ∷ w) → P (d ∷ w)

  -- each class says the same of both
  abbrev Narrow : Regexp → Type 0
  Narrow empty = Unit {0}
  Narrow (class comp gs) = hits comp gs c ≡ hits comp gs d
  Narrow (then x y) = Narrow x × Narrow y
  Narrow (or x y) = Narrow x × Narrow y
  Narrow (times lo hi x) = Narrow x

  module _ (P Q : List ℕ → Type 0) where
    join_swaps : Swaps P → Swaps Q → Swaps (Join P Q)
    join_swaps f g w j =
        ⊎_elim
        (λ p. nil_join (d ∷ w) p.0 (g w p.1))
        (λ i. cons_join {P = P} {Q = Q} d w (join_map (λ u. P (d ∷ u)) Q f (λ u q. q) w i))
        (join_cons c w j)

  module _ (P : List ℕ → Type 0) (f : Swaps P) where
    row_swaps : (n : ℕ) → Swaps (Row P n)
    row_swaps zero w e = absurd (cons_not e)
    row_swaps (suc n) w j = join_swaps P (Row P n) f (row_swaps n) w j

    times_swaps : (lo : ℕ) (hi : Most) → Swaps (Times lo hi P)
    times_swaps lo hi w t = record { count = t.count; least = t.least; most = t.most; row = row_swaps t.count w t.row }

    module _ (A : ℕ → List ℕ → Type 0) (n : ℕ) (g : (k : ℕ) → Swaps (A k)) where
      upto_swaps : (lo h b : ℕ) → Swaps (RestUpto P A n lo h b)
      upto_swaps lo zero b w r = r
      upto_swaps lo (suc h) b w r =
          ⊎_elim
          (λ j. inl (join_swaps (A b) (Times (pred lo) (upto h) P) (g b) (times_swaps (pred lo) (upto h)) w j))
          (λ i. inr (upto_swaps (pred lo) h (b + n) w i)) r

      any_swaps : (lo b : ℕ) → Swaps (RestAny P A n lo b)
      any_swaps zero b w r = join_swaps (A (b + 1)) (Times 0 any P) (g (b + 1)) (times_swaps 0 any) w r
      any_swaps (suc zero) b w r = join_swaps (A (b + 1)) (Times 0 any P) (g (b + 1)) (times_swaps 0 any) w r
      any_swaps (suc (suc l)) b w r =
          ⊎_elim
          (λ j. inl (join_swaps (A b) (Times (suc l) any P) (g b) (times_swaps (suc l) any) w j))
          (λ i. inr (any_swaps (suc l) (b + n) w i)) r

  describes_swaps : (x : Regexp) → Narrow x → Swaps (Describes x)
  describes_swaps empty n w e = absurd (cons_not e)
  describes_swaps (class comp gs) n w o =
      let z : c ≡ o.char = cc o.eq in
      let y : w ≡ [] = cc o.eq in
      record { char = d; eq = ap (λ l. d ∷ l) y; hit = sym n ∙ ap (hits comp gs) z ∙ o.hit }
  describes_swaps (then x y) n w j =
      join_swaps (Describes x) (Describes y) (describes_swaps x n.0) (describes_swaps y n.1) w j
  describes_swaps (or x y) n w s =
      ⊎_elim (λ p. inl (describes_swaps x n.0 w p)) (λ q. inr (describes_swaps y n.1 w q)) s
  describes_swaps (times lo hi x) n w t = times_swaps (Describes x) (describes_swaps x n) lo hi w t

  rest_swaps : (x : Regexp) → Narrow x → (b : ℕ) (ms : List ℕ) → Swaps (Rest x b ms)
  rest_swaps empty n b ms w r = r
  rest_swaps (class comp gs) n b ms w r = absurd (cons_not r.1)
  rest_swaps (then x y) n b ms w r =
      ⊎_elim
      (λ j. inl (join_swaps (Rest x b ms) (Describes y) (rest_swaps x n.0 b ms) (describes_swaps y n.1) w j))
      (λ i. inr (rest_swaps y n.1 (b + size x) ms w i)) r
  rest_swaps (or x y) n b ms w r =
      ⊎_elim (λ i. inl (rest_swaps x n.0 b ms w i)) (λ i. inr (rest_swaps y n.1 (b + size x) ms w i)) r
  rest_swaps (times lo (upto h) x) n b ms w r =
      upto_swaps (Describes x) (describes_swaps x n) (λ k. Rest x k ms) (size x) (λ k. rest_swaps x n k ms) lo h b w r
  rest_swaps (times lo any x) n b ms w r =
      any_swaps (Describes x) (describes_swaps x n) (λ k. Rest x k ms) (size x) (λ k. rest_swaps x n k ms) lo b w r

-- words below 128
abbrev Low : List ℕ → Type 0
Low [] = Unit {0}
Low (v ∷ l) = (v < 128) × Low l

low_of : (s : List ℕ) → ((i : ℕ) → i < length s → get_or s i 0 < 128) → Low s
low_of [] f = tt
low_of (v ∷ l) f = (f 0 (omega arith), low_of l (λ i h. f (suc i) (omega arith)))

module _ (c : ℕ) (h : 128 ≤ c) where
  outside : (low high : ℕ) → high < 128 → within low high c ≡ false
  outside low high k = go (leb low c) (leb c high) refl
    where
      go : (a b : Bool) → leb c high ≡ b → (a && b) ≡ false
      go true true e = absurd (omega (arith, leb-true c high e))
      go true false e = refl
      go false b e = refl

  low_ranges : (gs : List Range) (r : List ℕ) → Low (flat_ranges gs r) → (inside gs c ≡ false) × Low r
  low_ranges [] r l = (refl, l)
  low_ranges (g ∷ gs) r l =
      let p = low_ranges gs r l.1.1 in
      (ap (λ v. v || inside gs c) (outside g.low g.high l.1.0) ∙ p.0, p.1)

hits_same : (comp : Bool) (gs : List Range) (c d : ℕ) → inside gs c ≡ false → inside gs d ≡ false → hits comp gs c ≡ hits comp gs d
hits_same false gs c d p q = p ∙ sym q
hits_same true gs c d p q = ap not (p ∙ sym q)

module _ (c d : ℕ) (hc : 128 ≤ c) (hd : 128 ≤ d) where
  low_narrow : (x : Regexp) (r : List ℕ) → Low (flat x r) → Narrow c d x × Low r
  low_narrow empty r l = (tt, l.1)
  low_narrow (class comp gs) r l =
      let p = low_ranges c hc gs r l.1.1.1 in
      let q = low_ranges d hd gs r l.1.1.1 in
      (hits_same comp gs c d p.0 q.0, p.1)
  low_narrow (then x y) r l =
      let p = low_narrow x (flat y r) l.1 in
      let q = low_narrow y r p.1 in
      ((p.0, q.0), q.1)
  low_narrow (or x y) r l =
      let p = low_narrow x (flat y r) l.1 in
      let q = low_narrow y r p.1 in
      ((p.0, q.0), q.1)
  low_narrow (times lo (upto n) x) r l = low_narrow x r l.1.1.1
  low_narrow (times lo any x) r l = low_narrow x r l.1.1

pub interchangeable : {s : List ℕ} → AllLow s → Interchangeable s
interchangeable {s} a =
    record {
      of =
          λ x e c d hc hd k ms w.
          let n = (low_narrow c d hc hd x [] (subst Low e (low_of s a.at))).0 in
          ⊎_elim (λ p. inl (p.0, describes_swaps c d x n w p.1)) (λ r. inr (rest_swaps c d x n 0 ms w r));
    }
