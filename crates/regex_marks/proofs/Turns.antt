-- One character read by each way to make a set of words of others. Assumes nothing.
use mathlib.Core.Path.{◌≡◌, refl, ap}
use mathlib.Core.Bool.{Bool, true, false, ◌&&◌, ◌||◌}
use mathlib.Core.List.{List, [], ◌∷◌}
use mathlib.Core.Logic.{◌⊎◌, inl, inr, ⊎_elim}
use Prim.Native.Nat.{ℕ, zero, suc, pred, ◌≤◌, zero-le}
use native.Mathlib.Omega.{arith}
use lib.Dec.{eqb, leb}
use Rattle.regex_definition.specs.Words.{Join, Row, Times, upto, any, Told, holds, fails}
use Rattle.regex_definition.specs.Regexp.{One, Range, hits}
use Rattle.regex_definition.specs.Laws.{join_nil, join_cons, cons_join, nil_join, join_map, star_cons, cons_star, star_nil}
use Rattle.regex_definition.specs.Agree.{told, both, either, told_true, true_told, leb_told, bool_told}
use Rattle.regex_marks.specs.Turn.{Turn}
use Rattle.basics.specs.Lists.{cons_not}
use Rattle.regex_code.specs.Tests.{eqb_told}

-- the same with other sets of the same words
pub turn_same :
    {P A A' : List ℕ → Type 0} (B B' : List ℕ → Type 0) {m : Bool} {c : ℕ} {e v n : Bool} → ((w : List ℕ) → A w → B w)
    → ((w : List ℕ) → B w → A w) → ((w : List ℕ) → A' w → B' w) → ((w : List ℕ) → B' w → A' w) → Turn P A A' m c e v n
    → Turn P B B' m c e v n
turn_same B B' {c} f g f' g' t =
    record {
      on_empty = t.on_empty;
      on_was = told (f []) (g []) t.on_was;
      on_now = told (f' []) (g' []) t.on_now;
      forth = λ w h. f' w (t.forth w (⊎_elim inl (λ a. inr (g (c ∷ w) a)) h));
      back = λ w h. ⊎_elim inl (λ a. inr (f (c ∷ w) a)) (t.back w (g' w h));
    }

-- .. with other words, alike but for the empty one
pub turn_words :
    {P A A' : List ℕ → Type 0} (Q : List ℕ → Type 0) {m : Bool} {c : ℕ} {e v n : Bool} (e' : Bool) → Told (Q []) e'
    → ((w : List ℕ) → P (c ∷ w) → Q (c ∷ w)) → ((w : List ℕ) → Q (c ∷ w) → P (c ∷ w)) → Turn P A A' m c e v n
    → Turn Q A A' m c e' v n
turn_words Q e' q f g t =
    record {
      on_empty = q;
      on_was = t.on_was;
      on_now = t.on_now;
      forth = λ w h. t.forth w (⊎_elim (λ a. inl (a.0, g w a.1)) inr h);
      back = λ w h. ⊎_elim (λ a. inl (a.0, f w a.1)) inr (t.back w h);
    }

-- a part without marks, whose words are at most the empty one
pub turn_none :
    (P : List ℕ → Type 0) {m : Bool} {c : ℕ} (e : Bool) → Told (P []) e → ((w : List ℕ) → P (c ∷ w) → ⊥)
    → Turn P (λ w. ⊥) (λ w. ⊥) m c e false false
turn_none P e q f =
    record {
      on_empty = q;
      on_was = fails (λ a. a);
      on_now = fails (λ a. a);
      forth = λ w h. ⊎_elim (λ a. f w a.1) (λ a. a) h;
      back = λ w h. absurd h;
    }

module _ {P A A' Q B B' : List ℕ → Type 0} {m : Bool} {c : ℕ} {e v n e2 v2 n2 : Bool} where
  -- one or the other
  pub turn_or :
      Turn P A A' m c e v n → Turn Q B B' m c e2 v2 n2
      → Turn (λ w. P w ⊎ Q w) (λ w. A w ⊎ B w) (λ w. A' w ⊎ B' w) m c (e || e2) (v || v2) (n || n2)
  turn_or t u =
      record {
        on_empty = either t.on_empty u.on_empty;
        on_was = either t.on_was u.on_was;
        on_now = either t.on_now u.on_now;
        forth = λ w h. go w h;
        back = λ w h. ⊎_elim
            (λ a. ⊎_elim (λ p. inl (p.0, inl p.1)) (λ p. inr (inl p)) (t.back w a))
            (λ a. ⊎_elim (λ p. inl (p.0, inr p.1)) (λ p. inr (inr p)) (u.back w a)) h;
      }
    where
      go : (w : List ℕ) → ((m ≡ true) × (P (c ∷ w) ⊎ Q (c ∷ w))) ⊎ (A (c ∷ w) ⊎ B (c ∷ w)) → A' w ⊎ B' w
      go w (inl a) = ⊎_elim (λ p. inl (t.forth w (inl (a.0, p)))) (λ q. inr (u.forth w (inl (a.0, q)))) a.1
      go w (inr (inl a)) = inl (t.forth w (inr a))
      go w (inr (inr a)) = inr (u.forth w (inr a))

  -- one after the other: the second is entered where the first may end
  pub turn_then :
      Turn P A A' m c e v n → Turn Q B B' (v || (m && e)) c e2 v2 n2
      → Turn (Join P Q) (λ w. Join A Q w ⊎ B w) (λ w. Join A' Q w ⊎ B' w) m c (e && e2) ((v && e2) || v2) ((n && e2) || n2)
  turn_then t u =
      record {
        on_empty = told (λ a. nil_join [] a.0 a.1) join_nil (both t.on_empty u.on_empty);
        on_was =
            either (told (λ a. nil_join [] a.0 a.1) join_nil (both t.on_was u.on_empty)) u.on_was;
        on_now =
            either (told (λ a. nil_join [] a.0 a.1) join_nil (both t.on_now u.on_empty)) u.on_now;
        forth = λ w h. go w h;
        back = λ w h. ⊎_elim
            (λ j.
            ⊎_elim
            (λ p. inl (p.0, cons_join c w (record { fore = j.fore; back = j.back; eq = j.eq; is_fore = p.1; is_back = j.is_back })))
            (λ p. inr (inl (cons_join c w (record { fore = j.fore; back = j.back; eq = j.eq; is_fore = p; is_back = j.is_back }))))
            (t.back j.fore j.is_fore))
            (λ a. ⊎_elim (λ p. through w (told_true enters p.0) p.1) (λ p. inr (inr p)) (u.back w a)) h;
      }
    where
      -- what the Bool that enters the second says
      enters : Told (A [] ⊎ ((m ≡ true) × P [])) (v || (m && e))
      enters = either t.on_was (both (bool_told m) t.on_empty)

      through :
          (w : List ℕ) → A [] ⊎ ((m ≡ true) × P []) → Q (c ∷ w)
          → ((m ≡ true) × Join P Q (c ∷ w)) ⊎ (Join A Q (c ∷ w) ⊎ B (c ∷ w))
      through w (inl a) q = inr (inl (nil_join (c ∷ w) a q))
      through w (inr a) q = inl (a.0, nil_join (c ∷ w) a.1 q)

      go : (w : List ℕ) → ((m ≡ true) × Join P Q (c ∷ w)) ⊎ (Join A Q (c ∷ w) ⊎ B (c ∷ w)) → Join A' Q w ⊎ B' w
      go w (inl a) =
          ⊎_elim
          (λ p. inr (u.forth w (inl (true_told enters (inr (a.0, p.0)), p.1))))
          (λ j. inl (join_map A' Q (λ f p. t.forth f (inl (a.0, p))) (λ f q. q) w j))
          (join_cons c w a.1)
      go w (inr (inl a)) =
          ⊎_elim
          (λ p. inr (u.forth w (inl (true_told enters (inl p.0), p.1))))
          (λ j. inl (join_map A' Q (λ f p. t.forth f (inr p)) (λ f q. q) w j))
          (join_cons c w a)
      go w (inr (inr a)) = inr (u.forth w (inr a))

module _ {P A A' : List ℕ → Type 0} {m : Bool} {c : ℕ} {e v n : Bool} where
  -- without end: it is entered again where it may end
  pub turn_star :
      (f : Bool) → Told (A []) f → Turn P A A' (m || f) c e v n
      → Turn (Times 0 any P) (λ w. Join A (Times 0 any P) w) (λ w. Join A' (Times 0 any P) w) m c true v n
  turn_star f k t =
      record {
        on_empty = holds (star_nil P);
        on_was = told (λ a. nil_join [] a (star_nil P)) (λ j. (join_nil j).0) t.on_was;
        on_now = told (λ a. nil_join [] a (star_nil P)) (λ j. (join_nil j).0) t.on_now;
        forth = λ w h. go w h;
        back = λ w j. ⊎_elim
            (λ p.
            through w (told_true enters p.0)
            (record { fore = j.fore; back = j.back; eq = j.eq; is_fore = p.1; is_back = j.is_back }))
            (λ p.
            inr (cons_join c w (record { fore = j.fore; back = j.back; eq = j.eq; is_fore = p; is_back = j.is_back })))
            (t.back j.fore j.is_fore);
      }
    where
      enters : Told ((m ≡ true) ⊎ A []) (m || f)
      enters = either (bool_told m) k

      through :
          (w : List ℕ) → (m ≡ true) ⊎ A [] → Join (λ u. P (c ∷ u)) (Times 0 any P) w
          → ((m ≡ true) × Times 0 any P (c ∷ w)) ⊎ Join A (Times 0 any P) (c ∷ w)
      through w (inl a) j = inl (a, cons_star P c w j)
      through w (inr a) j = inr (nil_join (c ∷ w) a (cons_star P c w j))

      go : (w : List ℕ) → ((m ≡ true) × Times 0 any P (c ∷ w)) ⊎ Join A (Times 0 any P) (c ∷ w) → Join A' (Times 0 any P) w
      go w (inl a) =
          join_map A' (Times 0 any P) (λ g p. t.forth g (inl (true_told enters (inl a.0), p))) (λ g q. q) w (star_cons P c w a.1)
      go w (inr j) =
          ⊎_elim
          (λ p.
          join_map A' (Times 0 any P) (λ g q. t.forth g (inl (true_told enters (inr p.0), q))) (λ g q. q) w
          (star_cons P c w p.1))
          (λ i. join_map A' (Times 0 any P) (λ g p. t.forth g (inr p)) (λ g q. q) w i)
          (join_cons c w j)

module _ (P : List ℕ → Type 0) where
  -- no copy
  pub turn_zero : (lo : ℕ) {m : Bool} {c : ℕ} → Turn (Times lo (upto 0) P) (λ w. ⊥) (λ w. ⊥) m c (eqb lo 0) false false
  turn_zero lo {m} {c} =
      turn_none (Times lo (upto 0) P) (eqb lo 0)
      (told
      (λ e. record { count = 0; least = omega arith; most = zero-le; row = refl })
      (λ t. omega (arith, t.least, t.most)) (eqb_told lo 0))
      (λ w t. let k : t.count ≡ 0 = omega (arith, t.most) in cons_not (rw k at t.row))

  -- the last copy is followed by none
  pub turn_last : (lo : ℕ) {m : Bool} {c : ℕ} → Turn (Times (pred lo) (upto 0) P) (λ w. ⊥) (λ w. ⊥) m c (leb lo 1) false false
  turn_last lo {m} {c} =
      turn_none (Times (pred lo) (upto 0) P) (leb lo 1)
      (told
      (λ e. record { count = 0; least = omega arith; most = zero-le; row = refl })
      (λ t. omega (arith, t.least, t.most)) (leb_told lo 1))
      (λ w t. let k : t.count ≡ 0 = omega (arith, t.most) in cons_not (rw k at t.row))

  more : (lo h : ℕ) (w : List ℕ) → Join P (Times (pred lo) (upto h) P) w → Times lo (upto (suc h)) P w
  more lo h w j =
      let t = j.is_back in
      record {
        count = suc t.count;
        least = omega (arith, t.least);
        most = omega (arith, t.most);
        row = record { fore = j.fore; back = j.back; eq = j.eq; is_fore = j.is_fore; is_back = t.row };
      }

  less : (lo h : ℕ) (w : List ℕ) → Times lo (upto (suc h)) P w → ((lo ≡ 0) × (w ≡ [])) ⊎ Join P (Times (pred lo) (upto h) P) w
  less lo h w t = go t.count t.least t.most t.row
    where
      go : (n : ℕ) → lo ≤ n → n ≤ suc h → Row P n w → ((lo ≡ 0) × (w ≡ [])) ⊎ Join P (Times (pred lo) (upto h) P) w
      go zero a b r = inl (omega arith, r)
      go (suc n) a b r =
          inr (join_map P (Times (pred lo) (upto h) P) (λ u p. p)
          (λ u q. record { count = n; least = omega arith; most = omega arith; row = q }) w r)

  -- one copy more
  pub turn_more :
      (lo h : ℕ) {A A' B B' : List ℕ → Type 0} {m : Bool} {c : ℕ} {e v n e2 v2 n2 : Bool} → Turn P A A' m c e v n
      → Turn (Times (pred lo) (upto h) P) B B' (v || (m && e)) c e2 v2 n2
      → Turn (Times lo (upto (suc h)) P) (λ w. Join A (Times (pred lo) (upto h) P) w ⊎ B w)
      (λ w. Join A' (Times (pred lo) (upto h) P) w ⊎ B' w) m c (eqb lo 0 || (e && e2)) ((v && e2) || v2) ((n && e2) || n2)
  turn_more lo h {c} {e} {e2} t u =
      turn_words (Times lo (upto (suc h)) P) (eqb lo 0 || (e && e2))
      (told
      (⊎_elim
      (λ z. record { count = 0; least = omega arith; most = zero-le; row = refl })
      (λ a. more lo h [] (nil_join [] a.0 a.1)))
      (λ s. ⊎_elim (λ a. inl a.0) (λ j. inr (join_nil j)) (less lo h [] s))
      (either (eqb_told lo 0) (both t.on_empty u.on_empty)))
      (λ w j. more lo h (c ∷ w) j)
      (λ w s. ⊎_elim (λ a. absurd (cons_not a.1)) (λ j. j) (less lo h (c ∷ w) s))
      (turn_then t u)

  -- without end, from no copy or one on
  pub turn_plus :
      (lo : ℕ) → lo ≤ 1 → {A A' : List ℕ → Type 0} {m : Bool} {c : ℕ} {e v n : Bool} (f : Bool) → Told (A []) f
      → Turn P A A' (m || f) c e v n
      → Turn (Times lo any P) (λ w. Join A (Times 0 any P) w) (λ w. Join A' (Times 0 any P) w) m c (eqb lo 0 || e) v n
  turn_plus lo g {c} {e} f k t =
      turn_words (Times lo any P) (eqb lo 0 || e)
      (told
      (⊎_elim
      (λ z. record { count = 0; least = omega arith; most = tt; row = refl })
      (λ a. record { count = 1; least = g; most = tt; row = nil_join [] a refl }))
      (λ s. back s.count s.least s.row)
      (either (eqb_told lo 0) t.on_empty))
      (λ w s. up w s.count s.row)
      (λ w s. record { count = s.count; least = zero-le; most = tt; row = s.row })
      (turn_star f k t)
    where
      back : (n : ℕ) → lo ≤ n → Row P n [] → (lo ≡ 0) ⊎ P []
      back zero a r = inl (omega arith)
      back (suc n) a r = inr (join_nil r).0

      up : (w : List ℕ) (n : ℕ) → Row P n (c ∷ w) → Times lo any P (c ∷ w)
      up w zero r = absurd (cons_not r)
      up w (suc n) r = record { count = suc n; least = omega arith; most = tt; row = r }

  -- without end, one copy more
  pub turn_next :
      (l : ℕ) {A A' B B' : List ℕ → Type 0} {m : Bool} {c : ℕ} {e v n e2 v2 n2 : Bool} → Turn P A A' m c e v n
      → Turn (Times (suc l) any P) B B' (v || (m && e)) c e2 v2 n2
      → Turn (Times (suc (suc l)) any P) (λ w. Join A (Times (suc l) any P) w ⊎ B w)
      (λ w. Join A' (Times (suc l) any P) w ⊎ B' w) m c (e && e2) ((v && e2) || v2) ((n && e2) || n2)
  turn_next l {c} {e} {e2} t u =
      turn_words (Times (suc (suc l)) any P) (e && e2)
      (told (up []) (down []) (turn_then t u).on_empty)
      (λ w j. up (c ∷ w) j)
      (λ w s. down (c ∷ w) s)
      (turn_then t u)
    where
      up : (w : List ℕ) → Join P (Times (suc l) any P) w → Times (suc (suc l)) any P w
      up w j =
          let t = j.is_back in
          record {
            count = suc t.count;
            least = omega (arith, t.least);
            most = tt;
            row = record { fore = j.fore; back = j.back; eq = j.eq; is_fore = j.is_fore; is_back = t.row };
          }

      down : (w : List ℕ) → Times (suc (suc l)) any P w → Join P (Times (suc l) any P) w
      down w s = go s.count s.least s.row
        where
          go : (n : ℕ) → suc (suc l) ≤ n → Row P n w → Join P (Times (suc l) any P) w
          go zero a r = absurd (omega arith)
          go (suc n) a r =
              join_map P (Times (suc l) any P) (λ u p. p) (λ u q. record { count = n; least = omega arith; most = tt; row = q }) w r

-- one character of a class: F says that its mark is set
pub turn_class :
    (comp : Bool) (gs : List Range) (F F' : Type 0) {m : Bool} (c : ℕ) {v n : Bool} → Told F v → Told F' n → n ≡ (m && hits comp gs c)
    → Turn (One comp gs) (λ w. F × (w ≡ [])) (λ w. F' × (w ≡ [])) m c false v n
turn_class comp gs F F' {m} c {v} {n} t u q =
    record {
      on_empty = fails (λ o. not_one o.eq);
      on_was = told (λ f. (f, refl)) (λ f. f.0) t;
      on_now = told (λ f. (f, refl)) (λ f. f.0) u;
      forth = λ w h. ⊎_elim (λ p. go w p.0 p.1) (λ p. absurd (cons_not p.1)) h;
      back = λ w h. inl (back w h);
    }
  where
    not_one : {k : ℕ} → [] ≡ k ∷ [] → ⊥
    not_one e = let z : ◌≡◌ {A = ℕ} 0 1 = cc in omega arith

    says : Told ((m ≡ true) × (hits comp gs c ≡ true)) n
    says = rw q (both (bool_told m) (bool_told (hits comp gs c)))

    go : (w : List ℕ) → m ≡ true → One comp gs (c ∷ w) → F' × (w ≡ [])
    go w e o =
        let k = o.eq in
        let z : c ≡ o.char = cc in
        (told_true u (true_told says (e, rw z o.hit)), cc)

    back : (w : List ℕ) → F' × (w ≡ []) → (m ≡ true) × One comp gs (c ∷ w)
    back w h =
        let s = told_true says (true_told u h.0) in
        (s.0, record { char = c; eq = ap (λ l. c ∷ l) h.1; hit = s.1 })
