-- A part without marks describes the empty word at most, and awaits nothing; so its copies need no pass of their own. Assumes nothing.
use Rattle.basics.specs.Lists.{cons_not}
use mathlib.Core.Path.{◌≡◌, refl, ap, sym, ◌∙◌, subst}
use mathlib.Core.Bool.{Bool, false, ◌&&◌, ◌||◌}
use mathlib.Core.List.{List, [], ◌∷◌, ◌++◌}
use mathlib.Core.Logic.{◌⊎◌, inl, inr, ⊎_elim}
use Prim.Native.Nat.{ℕ, zero, suc, ◌+◌, ◌≤◌, ◌<◌, zero-le}
use native.Mathlib.Omega.{arith}
use native.Mathlib.Nat.{le_refl}
use lib.Dec.{eqb, leb}
use Rattle.regex_definition.specs.Words.{Row, Times, upto, any, Told}
use Rattle.regex_definition.specs.Regexp.{Regexp, empty, class, then, or, times, Describes}
use Rattle.regex_definition.specs.Laws.{join_nil, nil_join}
use Rattle.regex_definition.specs.Agree.{told, both, either, leb_told}
use Rattle.regex_marks.specs.Marks.{size, copies, endless, Rest, Good, GoodUpto}
use Rattle.regex_marks.specs.Turn.{Turn}
use Rattle.regex_marks.specs.Moves.{Moved}
use Rattle.regex_marks.proofs.Turns.{turn_none, turn_same}
use Rattle.regex_marks.proofs.Frames.{upto_none, any_none, good_frame}
use Rattle.regex_code.specs.Tests.{eqb_told}

-- a repeat without end has a mark
pub endless_some : (n lo : ℕ) → 1 ≤ endless n lo
endless_some n zero = omega arith
endless_some n (suc zero) = omega arith
endless_some n (suc (suc l)) = let h = endless_some n (suc l) in omega arith

-- words that are all empty, in a row
row_empty : (P : List ℕ → Type 0) → ((u : List ℕ) → P u → u ≡ []) → (n : ℕ) (w : List ℕ) → Row P n w → w ≡ []
row_empty P f zero w r = r
row_empty P f (suc n) w j =
    j.eq ∙ ap (λ l. l ++ j.back) (f j.fore j.is_fore) ∙ row_empty P f n j.back j.is_back

-- a part without marks describes the empty word at most
pub bare_empty : (x : Regexp) → size x ≡ 0 → (w : List ℕ) → Describes x w → w ≡ []
bare_empty empty h w d = d
bare_empty (class k rs) h w d = absurd (omega arith)
bare_empty (then x y) h w d =
    d.eq ∙ ap (λ l. l ++ d.back) (bare_empty x (omega arith) d.fore d.is_fore) ∙ bare_empty y (omega arith) d.back d.is_back
bare_empty (or x y) h w d = ⊎_elim (bare_empty x (omega arith) w) (bare_empty y (omega arith) w) d
bare_empty (times lo (upto zero) x) h w d = let k : d.count ≡ 0 = omega (arith, d.most) in rw k at d.row
bare_empty (times lo (upto (suc n)) x) h w d = row_empty (Describes x) (bare_empty x (omega arith)) d.count w d.row
bare_empty (times lo any x) h w d = let k = endless_some (size x) lo in absurd (omega arith)

-- .. and awaits nothing
pub bare_rest : (x : Regexp) → size x ≡ 0 → (b : ℕ) (ms : List ℕ) (w : List ℕ) → Rest x b ms w → ⊥
bare_rest empty h b ms w r = r
bare_rest (class k rs) h b ms w r = absurd (omega arith)
bare_rest (then x y) h b ms w r =
    ⊎_elim (λ j. bare_rest x (omega arith) b ms j.fore j.is_fore) (bare_rest y (omega arith) (b + size x) ms w) r
bare_rest (or x y) h b ms w r = ⊎_elim (bare_rest x (omega arith) b ms w) (bare_rest y (omega arith) (b + size x) ms w) r
bare_rest (times lo (upto zero) x) h b ms w r = r
bare_rest (times lo (upto (suc n)) x) h b ms w r =
    upto_none (Describes x) (λ k. Rest x k ms) (size x) (λ k u. bare_rest x (omega arith) k ms u) lo (suc n) b w r
bare_rest (times lo any x) h b ms w r = let k = endless_some (size x) lo in absurd (omega arith)

-- the empty word, n times
row_nil : (P : List ℕ → Type 0) → P [] → (n : ℕ) → Row P n []
row_nil P p zero = refl
row_nil P p (suc n) = nil_join [] p (row_nil P p n)

module _ (P : List ℕ → Type 0) (lo hi : ℕ) where
  times_nil : (lo ≡ 0) ⊎ (P [] × (lo ≤ hi)) → Times lo (upto hi) P []
  times_nil (inl z) = record { count = 0; least = omega arith; most = zero-le; row = refl }
  times_nil (inr p) = record { count = hi; least = p.1; most = le_refl _; row = row_nil P p.0 hi }

  nil_times : Times lo (upto hi) P [] → (lo ≡ 0) ⊎ (P [] × (lo ≤ hi))
  nil_times t = go t.count t.least t.most t.row
    where
      go : (n : ℕ) → lo ≤ n → n ≤ hi → Row P n [] → (lo ≡ 0) ⊎ (P [] × (lo ≤ hi))
      go zero a b r = inl (omega arith)
      go (suc n) a b r = inr ((join_nil r).0, omega arith)

  -- copies of a part that describes the empty word at most
  turn_bare :
      ((u : List ℕ) → P u → u ≡ []) → {m : Bool} {c : ℕ} {e : Bool} → Told (P []) e
      → Turn (Times lo (upto hi) P) (λ w. ⊥) (λ w. ⊥) m c (eqb lo 0 || (e && leb lo hi)) false false
  turn_bare f {m} {c} {e} k =
      turn_none (Times lo (upto hi) P) (eqb lo 0 || (e && leb lo hi))
      (told times_nil nil_times (either (eqb_told lo 0) (both k (leb_told lo hi))))
      (λ w t. cons_not (row_empty P f t.count (c ∷ w) t.row))

bare_good : (G : ℕ → Type 0) (n h b : ℕ) → n ≡ 0 → G b → GoodUpto G n h b
bare_good G n zero b z g = tt
bare_good G n (suc h) b z g =
    let e : b ≡ b + n = omega arith in
    (g, bare_good G n h (b + n) z (subst G e g))

bare_copies : (n h : ℕ) → n ≡ 0 → 0 ≡ copies n h
bare_copies n zero z = refl
bare_copies n (suc h) z = let k = bare_copies n h z in omega arith

-- one pass over a part without marks is one over all its copies
pub moved_bare :
    {x : Regexp} (lo hi : ℕ) {b c : ℕ} {ms ms' : List ℕ} {m : Bool} {n : ℕ} {e v w : Bool} → n ≡ 0 → Moved x b ms ms' m c n e v w
    → Moved (times lo (upto hi) x) b ms ms' m c 0 (eqb lo 0 || (e && leb lo hi)) false false
moved_bare {x} lo hi {b} {c} {ms} {ms'} {m} {n} {e} z p =
    let y : size x ≡ 0 = sym p.wide ∙ z in
    let none : (l : List ℕ) (u : List ℕ) → Rest (times lo (upto hi) x) b l u → ⊥ =
    λ l u r. upto_none (Describes x) (λ k. Rest x k l) (size x) (λ k u. bare_rest x y k l u) lo hi b u r in
    record {
      wide = bare_copies (size x) hi y;
      turn =
          turn_same (Rest (times lo (upto hi) x) b ms) (Rest (times lo (upto hi) x) b ms')
          (λ u r. absurd r) (λ u r. none ms u r) (λ u r. absurd r) (λ u r. none ms' u r)
          (turn_bare (Describes x) lo hi (bare_empty x y) p.turn.on_empty);
      good = bare_good (λ k. Good x k ms') (size x) hi b y p.good;
      kept =
          record {
            low = λ i h. p.kept.low i h;
            high = λ i h. p.kept.high i (omega arith);
          };
    }

-- ---- without end, from two copies on

hollow_endless : (n lo : ℕ) → n ≡ 0 → 1 ≡ endless n lo
hollow_endless n zero z = omega arith
hollow_endless n (suc zero) z = omega arith
hollow_endless n (suc (suc l)) z = let k = hollow_endless n (suc l) z in omega arith

module _ (P : List ℕ → Type 0) (lo : ℕ) (h : 1 < lo) where
  some_nil : (n : ℕ) → lo ≤ n → Row P n [] → P []
  some_nil zero a r = absurd (omega arith)
  some_nil (suc n) a r = (join_nil r).0

  turn_hollow :
      ((u : List ℕ) → P u → u ≡ []) → {m : Bool} {c : ℕ} {e : Bool} → Told (P []) e
      → Turn (Times lo any P) (λ w. ⊥) (λ w. ⊥) m c e false false
  turn_hollow f {m} {c} {e} k =
      turn_none (Times lo any P) e
      (told (λ p. record { count = lo; least = le_refl _; most = tt; row = row_nil P p lo }) (λ t. some_nil t.count t.least t.row) k)
      (λ w t. cons_not (row_empty P f t.count (c ∷ w) t.row))

-- one pass over a part without marks is one over all its copies
pub moved_hollow :
    {x : Regexp} (lo : ℕ) → 1 < lo → {b c : ℕ} {ms ms' : List ℕ} {m : Bool} {n : ℕ} {e v w : Bool} → n ≡ 0
    → Moved x b ms ms' m c n e v w → Good (times lo any x) b ms → Moved (times lo any x) b ms ms' m c 1 e false false
moved_hollow {x} lo h {b} {c} {ms} {ms'} {m} {n} {e} z p d =
    let y : size x ≡ 0 = sym p.wide ∙ z in
    let none : (l : List ℕ) (u : List ℕ) → Rest (times lo any x) b l u → ⊥ =
    λ l u r. any_none (Describes x) (λ k. Rest x k l) (size x) (λ k u. bare_rest x y k l u) lo b u r in
    record {
      wide = hollow_endless (size x) lo y;
      turn =
          turn_same (Rest (times lo any x) b ms) (Rest (times lo any x) b ms')
          (λ u r. absurd r) (λ u r. none ms u r) (λ u r. absurd r) (λ u r. none ms' u r)
          (turn_hollow (Describes x) lo h (bare_empty x y) p.turn.on_empty);
      good = good_frame (times lo any x) b ms ms' (record { at = λ i u v. p.kept.high i (omega arith) }) d;
      kept =
          record {
            low = λ i u. p.kept.low i u;
            high = λ i u. p.kept.high i (omega arith);
          };
    }
