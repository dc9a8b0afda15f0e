-- Marks outside a part's own say nothing of the part; and marks that are all 0 await nothing. Assumes nothing.
use mathlib.Core.Path.{◌≡◌, sym, ◌∙◌}
use mathlib.Core.List.{List, []}
use mathlib.Core.Logic.{inl, inr, ⊎_elim}
use Prim.Native.Nat.{ℕ, zero, suc, pred, ◌+◌, ◌≤◌, ◌<◌}
use native.Mathlib.Omega.{arith}
use lib.Dec.{eqb}
use lib.ListN.{get_or}
use Rattle.regex_definition.specs.Words.{Times, upto, any, Told, fails}
use Rattle.regex_definition.specs.Regexp.{Regexp, empty, class, then, or, times, Describes}
use Rattle.regex_definition.specs.Laws.{join_map}
use Rattle.regex_definition.specs.Agree.{told}
use Rattle.regex_marks.specs.Marks.{size, copies, endless, Rest, RestUpto, RestAny, Good, GoodUpto, GoodAny}
use Rattle.regex_marks.specs.Moves.{Kept}

pub record Same (lo hi : ℕ) (ms ms' : List ℕ) : Type 0 where
  pub at : (i : ℕ) → lo ≤ i → i < hi → get_or ms' i 0 ≡ get_or ms i 0

pub flip : {lo hi : ℕ} {ms ms' : List ℕ} → Same lo hi ms ms' → Same lo hi ms' ms
flip s = record { at = λ i p q. sym (s.at i p q) }

pub narrow : {lo hi : ℕ} {ms ms' : List ℕ} (lo' hi' : ℕ) → lo ≤ lo' → hi' ≤ hi → Same lo hi ms ms' → Same lo' hi' ms ms'
narrow lo' hi' p q s = record { at = λ i u v. s.at i (omega arith) (omega arith) }

pub below : {lo hi : ℕ} {ms ms' : List ℕ} (lo' hi' : ℕ) → hi' ≤ lo → Kept lo hi ms ms' → Same lo' hi' ms ms'
below lo' hi' p k = record { at = λ i u v. k.low i (omega arith) }

pub above : {lo hi : ℕ} {ms ms' : List ℕ} (lo' hi' : ℕ) → hi ≤ lo' → Kept lo hi ms ms' → Same lo' hi' ms ms'
above lo' hi' p k = record { at = λ i u v. k.high i (omega arith) }

-- from one kind of rests of a copy to another
module _ (P : List ℕ → Type 0) (A A' : ℕ → List ℕ → Type 0) (n : ℕ) where
  upto_map :
      (lo h b : ℕ) → ((k : ℕ) → b ≤ k → k + n ≤ b + copies n h → (u : List ℕ) → A k u → A' k u) → (w : List ℕ)
      → RestUpto P A n lo h b w → RestUpto P A' n lo h b w
  upto_map lo zero b f w r = r
  upto_map lo (suc h) b f w r =
      ⊎_elim
      (λ j. inl (join_map (A' b) (Times (pred lo) (upto h) P) (f b (omega arith) (omega arith)) (λ u q. q) w j))
      (λ i. inr (upto_map (pred lo) h (b + n) (λ k p q. f k (omega arith) (omega arith)) w i)) r

  any_map :
      (lo b : ℕ) → ((k : ℕ) → b ≤ k → k + n ≤ b + endless n lo → (u : List ℕ) → A k u → A' k u) → (w : List ℕ)
      → RestAny P A n lo b w → RestAny P A' n lo b w
  any_map zero b f w r =
      join_map (A' (b + 1)) (Times 0 any P) (f (b + 1) (omega arith) (omega arith)) (λ u q. q) w r
  any_map (suc zero) b f w r =
      join_map (A' (b + 1)) (Times 0 any P) (f (b + 1) (omega arith) (omega arith)) (λ u q. q) w r
  any_map (suc (suc l)) b f w r =
      ⊎_elim
      (λ j. inl (join_map (A' b) (Times (suc l) any P) (f b (omega arith) (omega arith)) (λ u q. q) w j))
      (λ i. inr (any_map (suc l) (b + n) (λ k p q. f k (omega arith) (omega arith)) w i)) r

pub frame : (x : Regexp) (b : ℕ) (ms ms' : List ℕ) → Same b (b + size x) ms ms' → (w : List ℕ) → Rest x b ms w → Rest x b ms' w
frame empty b ms ms' s w r = r
frame (class k gs) b ms ms' s w r = (s.at b (omega arith) (omega arith) ∙ r.0, r.1)
frame (then x y) b ms ms' s w r =
    ⊎_elim
    (λ j. inl (join_map (Rest x b ms') (Describes y) (frame x b ms ms' (narrow _ _ (omega arith) (omega arith) s)) (λ u q. q) w j))
    (λ i. inr (frame y (b + size x) ms ms' (narrow _ _ (omega arith) (omega arith) s) w i)) r
frame (or x y) b ms ms' s w r =
    ⊎_elim
    (λ i. inl (frame x b ms ms' (narrow _ _ (omega arith) (omega arith) s) w i))
    (λ i. inr (frame y (b + size x) ms ms' (narrow _ _ (omega arith) (omega arith) s) w i)) r
frame (times lo (upto h) x) b ms ms' s w r =
    upto_map (Describes x) (λ k. Rest x k ms) (λ k. Rest x k ms') (size x) lo h b
    (λ k p q. frame x k ms ms' (narrow _ _ (omega arith) (omega arith) s)) w r
frame (times lo any x) b ms ms' s w r =
    any_map (Describes x) (λ k. Rest x k ms) (λ k. Rest x k ms') (size x) lo b
    (λ k p q. frame x k ms ms' (narrow _ _ (omega arith) (omega arith) s)) w r

good_upto :
    (G G' : ℕ → Type 0) (n h b : ℕ) → ((k : ℕ) → b ≤ k → k + n ≤ b + copies n h → G k → G' k) → GoodUpto G n h b
    → GoodUpto G' n h b
good_upto G G' n zero b f g = tt
good_upto G G' n (suc h) b f g =
    (f b (omega arith) (omega arith) g.0, good_upto G G' n h (b + n) (λ k p q. f k (omega arith) (omega arith)) g.1)

module _ (A A' : ℕ → List ℕ → Type 0) (G G' : ℕ → Type 0) (ms ms' : List ℕ) (n : ℕ) where
  good_any :
      (lo b : ℕ) → Same b (b + endless n lo) ms ms'
      → ((k : ℕ) → b ≤ k → k + n ≤ b + endless n lo → (A k [] → A' k []) × (A' k [] → A k []) × (G k → G' k))
      → GoodAny A G ms n lo b → GoodAny A' G' ms' n lo b
  good_any zero b s f g =
      let i = f (b + 1) (omega arith) (omega arith) in
      (rw (s.at b (omega arith) (omega arith)) (told i.0 i.1 g.0), i.2 g.1)
  good_any (suc zero) b s f g =
      let i = f (b + 1) (omega arith) (omega arith) in
      (rw (s.at b (omega arith) (omega arith)) (told i.0 i.1 g.0), i.2 g.1)
  good_any (suc (suc l)) b s f g =
      let i = f b (omega arith) (omega arith) in (
        i.2 g.0,
        good_any (suc l) (b + n) (narrow _ _ (omega arith) (omega arith) s) (λ k p q. f k (omega arith) (omega arith)) g.1,
      )

pub good_frame : (x : Regexp) (b : ℕ) (ms ms' : List ℕ) → Same b (b + size x) ms ms' → Good x b ms → Good x b ms'
good_frame empty b ms ms' s g = tt
good_frame (class k gs) b ms ms' s g = tt
good_frame (then x y) b ms ms' s g = (
  good_frame x b ms ms' (narrow _ _ (omega arith) (omega arith) s) g.0,
  good_frame y (b + size x) ms ms' (narrow _ _ (omega arith) (omega arith) s) g.1,
)
good_frame (or x y) b ms ms' s g = (
  good_frame x b ms ms' (narrow _ _ (omega arith) (omega arith) s) g.0,
  good_frame y (b + size x) ms ms' (narrow _ _ (omega arith) (omega arith) s) g.1,
)
good_frame (times lo (upto h) x) b ms ms' s g =
    good_upto (λ k. Good x k ms) (λ k. Good x k ms') (size x) h b
    (λ k p q. good_frame x k ms ms' (narrow _ _ (omega arith) (omega arith) s)) g
good_frame (times lo any x) b ms ms' s g =
    good_any (λ k. Rest x k ms) (λ k. Rest x k ms') (λ k. Good x k ms) (λ k. Good x k ms') ms ms' (size x) lo b s
    (λ k p q.
    let n : Same k (k + size x) ms ms' = narrow _ _ (omega arith) (omega arith) s in
    (frame x k ms ms' n [], frame x k ms' ms (flip n) [], good_frame x k ms ms' n)) g

-- nothing is marked
module _ (P : List ℕ → Type 0) (A : ℕ → List ℕ → Type 0) (n : ℕ) (f : (k : ℕ) (u : List ℕ) → A k u → ⊥) where
  pub upto_none : (lo h b : ℕ) (w : List ℕ) → RestUpto P A n lo h b w → ⊥
  upto_none lo zero b w r = r
  upto_none lo (suc h) b w r = ⊎_elim (λ j. f b j.fore j.is_fore) (λ i. upto_none (pred lo) h (b + n) w i) r

  pub any_none : (lo b : ℕ) (w : List ℕ) → RestAny P A n lo b w → ⊥
  any_none zero b w j = f (b + 1) j.fore j.is_fore
  any_none (suc zero) b w j = f (b + 1) j.fore j.is_fore
  any_none (suc (suc l)) b w r = ⊎_elim (λ j. f b j.fore j.is_fore) (λ i. any_none (suc l) (b + n) w i) r

module _ (ms : List ℕ) (z : (i : ℕ) → get_or ms i 0 ≡ 0) where
  pub rest_none : (x : Regexp) (b : ℕ) (w : List ℕ) → Rest x b ms w → ⊥
  rest_none empty b w r = r
  rest_none (class k gs) b w r = let e = z b in omega (arith, r.0)
  rest_none (then x y) b w r =
      ⊎_elim (λ j. rest_none x b j.fore j.is_fore) (λ i. rest_none y (b + size x) w i) r
  rest_none (or x y) b w r = ⊎_elim (λ i. rest_none x b w i) (λ i. rest_none y (b + size x) w i) r
  rest_none (times lo (upto h) x) b w r =
      upto_none (Describes x) (λ k. Rest x k ms) (size x) (λ k u. rest_none x k u) lo h b w r
  rest_none (times lo any x) b w r =
      any_none (Describes x) (λ k. Rest x k ms) (size x) (λ k u. rest_none x k u) lo b w r

  zero_upto : (G : ℕ → Type 0) (n h b : ℕ) → ((k : ℕ) → G k) → GoodUpto G n h b
  zero_upto G n zero b g = tt
  zero_upto G n (suc h) b g = (g b, zero_upto G n h (b + n) g)

  flag_zero : (A : List ℕ → Type 0) (b : ℕ) → (A [] → ⊥) → Told (A []) (eqb (get_or ms b 0) 1)
  flag_zero A b f = rw (z b) (fails f)

  zero_any :
      (A : ℕ → List ℕ → Type 0) (G : ℕ → Type 0) (n lo b : ℕ) → ((k : ℕ) → G k) → ((k : ℕ) → A k [] → ⊥)
      → GoodAny A G ms n lo b
  zero_any A G n zero b g f = (flag_zero (A (b + 1)) b (f (b + 1)), g (b + 1))
  zero_any A G n (suc zero) b g f = (flag_zero (A (b + 1)) b (f (b + 1)), g (b + 1))
  zero_any A G n (suc (suc l)) b g f = (g b, zero_any A G n (suc l) (b + n) g f)

  pub good_none : (x : Regexp) (b : ℕ) → Good x b ms
  good_none empty b = tt
  good_none (class k gs) b = tt
  good_none (then x y) b = (good_none x b, good_none y (b + size x))
  good_none (or x y) b = (good_none x b, good_none y (b + size x))
  good_none (times lo (upto h) x) b = zero_upto (λ k. Good x k ms) (size x) h b (λ k. good_none x k)
  good_none (times lo any x) b =
      zero_any (λ k. Rest x k ms) (λ k. Good x k ms) (size x) lo b (λ k. good_none x k) (λ k. rest_none x k [])
