-- What each answer of a pass rests on. Assumes nothing.
use mathlib.Core.Path.{◌≡◌, refl, ap, sym, ◌∙◌, subst}
use mathlib.Core.Bool.{Bool, true, false, ◌&&◌, ◌||◌}
use mathlib.Core.List.{List, [], ◌∷◌}
use Prim.Native.Nat.{ℕ, zero, suc, pred, ◌+◌, ◌-◌, ◌≤◌, ◌<◌}
use native.Mathlib.Omega.{arith}
use lib.ListN.{length, drop, get_or, set, length-drop, length-set, drop_of_length-le}
use lib.Seq.{get_or-set_same, get_or-set_other}
use lib.Dec.{eqb, leb}
use Rattle.regex_definition.specs.Words.{upto, any, Told, holds}
use Rattle.regex_definition.specs.Regexp.{Regexp, times, Describes}
use Rattle.regex_code.specs.Flat.{flat, of_empty, of_class, of_then, of_or, of_upto, of_any, of_short, of_other, of_nothing, word_of}
use Rattle.regex_code.specs.Skips.{Skips, SkipsClass}
use Rattle.regex_marks.specs.Marks.{size, Good}
use Rattle.regex_marks.specs.Moves.{Moved, Shifted, Copied, Endless}
use Rattle.regex_marks.proofs.Turns.{turn_none, turn_zero, turn_class}
use Rattle.regex_marks.specs.Runs.{Entered}
use Rattle.regex_marks.proofs.Hollow.{moved_bare, moved_hollow, endless_some}
use Rattle.basics.specs.Lists.{drop_at as word}
use Rattle.regex_marks.proofs.Moved.{kept_refl, second_ready, moved_then, moved_or, moved_more, moved_next, moved_last, moved_loop}
use Rattle.regex_code.specs.Tests.{eqb_told}

-- what is asked of an expression at a place
Asked : List ℕ → ℕ → List ℕ → List ℕ → Bool → ℕ → ℕ → ℕ → Bool → Bool → Bool → Regexp → List ℕ → Type 0
Asked s b ms ms' m c next n e v w x r =
    b + size x ≤ length ms → Good x b ms → (drop next s ≡ r) × Moved x b ms ms' m c n e v w

module _ (s : List ℕ) (m : Bool) (c b : ℕ) (ms : List ℕ) (room : b ≤ length ms) where
  pub stop_nothing : (at : ℕ) → at ≤ length s → length s ≤ at → Shifted s at m c b ms ms at 0 false false false
  unfolding Asked
  stop_nothing at i h =
      record {
        from = omega arith;
        to = i;
        fits = omega arith;
        long = refl;
        of = λ x r e. of_nothing (Asked s b ms ms m c at 0 false false false) x r (sym (drop_of_length-le s h) ∙ e);
      }

  module _ (at : ℕ) (p : at < length s) where
    pub shift_empty : get_or s at 0 ≡ 0 → Shifted s at m c b ms ms (at + 1) 0 true false false
    unfolding Asked
    shift_empty h =
        record {
          from = omega arith;
          to = omega arith;
          fits = omega arith;
          long = refl;
          of =
              λ x r e. of_empty (Asked s b ms ms m c (at + 1) 0 true false false) _ _ h
              (λ r e z g. (
                e,
                record {
                  wide = refl;
                  turn = turn_none (λ w. w ≡ []) true (holds refl) (λ w q. let k : ◌≡◌ {A = ℕ} 0 1 = cc in omega arith);
                  good = tt;
                  kept = kept_refl;
                },
              ))
              x r (sym (word s at p) ∙ e);
        }

    module _ (is : get_or s at 0 ≡ 1) where
      pub spot_room : length ms ≤ b → Shifted s at m c b ms ms at 0 false false false
      unfolding Asked
      spot_room h =
          record {
            from = omega arith;
            to = omega arith;
            fits = omega arith;
            long = refl;
            of =
                λ x r e. of_class (Asked s b ms ms m c at 0 false false false) _ _ is (λ comp gs r e z g. absurd (omega arith)) x r
                (sym (word s at p) ∙ e);
          }

      pub spot_hit :
          b < length ms → (k : ℕ) {n : Bool} {next : ℕ} → eqb k 1 ≡ n → Entered s at m c n → SkipsClass s at next → next ≤ length s
          → Shifted s at m c b ms (set ms b k) next 1 false (eqb (get_or ms b 0) 1) n
      unfolding Asked
      spot_hit h k {n} {next} k-is q j i =
          record {
            from = j.from;
            to = i;
            fits = omega arith;
            long = length-set ms b k;
            of =
                λ x r e. of_class (Asked s b ms (set ms b k) m c next 1 false (eqb (get_or ms b 0) 1) n) _ _ is
                (λ comp gs r e z g.
                let l : Told (get_or (set ms b k) b 0 ≡ 1) n =
                subst (λ i. Told (get_or (set ms b k) b 0 ≡ 1) i)
                (ap (λ i. eqb i 1) (get_or-set_same ms b k 0 h) ∙ k-is) (eqb_told (get_or (set ms b k) b 0) 1) in (
                  j.rest comp gs r e,
                  record {
                    wide = refl;
                    turn =
                        turn_class comp gs (get_or ms b 0 ≡ 1) (get_or (set ms b k) b 0 ≡ 1) c (eqb_told (get_or ms b 0) 1) l
                        (q.of comp gs r e);
                    good = tt;
                    kept =
                        record {
                          low = λ i j. get_or-set_other ms b i k 0 (λ o. omega arith);
                          high = λ i j. get_or-set_other ms b i k 0 (λ o. omega arith);
                        };
                  },
                ))
                x r (sym (word s at p) ∙ e);
          }

    module _ {ms1 ms2 : List ℕ} {m2 : Bool} {n1 n2 z1 z2 : ℕ} {e v w e2 v2 w2 : Bool} where
      pub shift_then :
          get_or s at 0 ≡ 2 → Shifted s (at + 1) m c b ms ms1 n1 z1 e v w → Shifted s n1 m2 c (b + z1) ms1 ms2 n2 z2 e2 v2 w2
          → m2 ≡ (v || (m && e))
          → Shifted s at m c b ms ms2 n2 (z1 + z2) (e && e2) ((v && e2) || v2) ((w && e2) || w2)
      unfolding Asked
      shift_then h p1 p2 q =
          record {
            from = omega (arith, p1.from, p2.from);
            to = p2.to;
            fits = omega (arith, p2.fits, p1.long);
            long = p2.long ∙ p1.long;
            of =
                λ x r e'. of_then (Asked s b ms ms2 m c n2 (z1 + z2) (e && e2) ((v && e2) || v2) ((w && e2) || w2)) _ _ h
                (λ x y r e' z g.
                let a = p1.of x (flat y r) e' (omega arith) g.0 in
                let d = p2.of y r a.0 (omega (arith, a.1.wide, p1.long)) (second_ready y a.1 g.1) in
                (d.0, moved_then a.1 d.1 q))
                x r (sym (word s at p) ∙ e');
          }

      pub shift_or :
          get_or s at 0 ≡ 3 → Shifted s (at + 1) m c b ms ms1 n1 z1 e v w → Shifted s n1 m2 c (b + z1) ms1 ms2 n2 z2 e2 v2 w2
          → m2 ≡ m → Shifted s at m c b ms ms2 n2 (z1 + z2) (e || e2) (v || v2) (w || w2)
      unfolding Asked
      shift_or h p1 p2 q =
          record {
            from = omega (arith, p1.from, p2.from);
            to = p2.to;
            fits = omega (arith, p2.fits, p1.long);
            long = p2.long ∙ p1.long;
            of =
                λ x r e'. of_or (Asked s b ms ms2 m c n2 (z1 + z2) (e || e2) (v || v2) (w || w2)) _ _ h
                (λ x y r e' z g.
                let a = p1.of x (flat y r) e' (omega arith) g.0 in
                let d = p2.of y r a.0 (omega (arith, a.1.wide, p1.long)) (second_ready y a.1 g.1) in
                (d.0, moved_or a.1 d.1 q))
                x r (sym (word s at p) ∙ e');
          }

    pub stop_short : 3 < get_or s at 0 → length s - at < 3 → Shifted s at m c b ms ms at 0 false false false
    unfolding Asked
    stop_short k h =
        record {
          from = omega arith;
          to = omega arith;
          fits = omega arith;
          long = refl;
          of =
              λ x r e. of_short (Asked s b ms ms m c at 0 false false false) _ _ k (omega (arith, length-drop (at + 1) s)) x r
              (sym (word s at p) ∙ e);
        }

    module _ (n0 : get_or s at 0 ≡ 0 → ⊥) (n1 : get_or s at 0 ≡ 1 → ⊥) (n2 : get_or s at 0 ≡ 2 → ⊥) (n3 : get_or s at 0 ≡ 3 → ⊥) where
      pub stop_other : (get_or s at 0 ≡ 4 → ⊥) → (get_or s at 0 ≡ 5 → ⊥) → Shifted s at m c b ms ms at 0 false false false
      unfolding Asked
      stop_other n4 n5 =
          record {
            from = omega arith;
            to = omega arith;
            fits = omega arith;
            long = refl;
            of = λ x r e. of_other (Asked s b ms ms m c at 0 false false false) _ _ (omega arith) x r (sym (word s at p) ∙ e);
          }

    pub shift_none :
        get_or s at 0 ≡ 4 → {lo hi n : ℕ} → lo ≡ get_or s (at + 1) 0 → hi ≡ get_or s (at + 2) 0 → hi ≡ 0 → Skips s (at + 3) n
        → n ≤ length s → Shifted s at m c b ms ms n 0 (eqb lo 0) false false
    unfolding Asked
    shift_none h {lo} {hi} {n} el eh ez k i' =
        record {
          from = omega (arith, k.from);
          to = i';
          fits = omega arith;
          long = refl;
          of =
              λ x r e. of_upto (Asked s b ms ms m c n 0 (eqb lo 0) false false) _ _ h
              (λ l i x r e.
              let a = word_of s (at + 1) l (i ∷ flat x r) e in
              let d = word_of s (at + 1 + 1) i (flat x r) a.2 in
              let z : at + 2 ≡ at + 1 + 1 = omega arith in
              let z' : at + 3 ≡ at + 1 + 1 + 1 = omega arith in
              let f : lo ≡ l = el ∙ a.1 in
              let g : 0 ≡ i = sym ez ∙ eh ∙ (rw z d.1) in
              subst (λ j. Asked s b ms ms m c n 0 (eqb lo 0) false false (times l (upto j) x) r) g
              (subst (λ j. Asked s b ms ms m c n 0 (eqb lo 0) false false (times j (upto 0) x) r) f
              (λ u v.
              (k.rest x r (rw z' d.2), record { wide = refl; turn = turn_zero (Describes x) lo; good = tt; kept = kept_refl }))))
              x r (sym (word s at p) ∙ e);
        }

    module _ {ms' : List ℕ} {n z : ℕ} {e v w : Bool} where
      pub shift_upto :
          get_or s at 0 ≡ 4 → {lo hi : ℕ} → lo ≡ get_or s (at + 1) 0 → hi ≡ get_or s (at + 2) 0
          → Copied s (at + 3) m c b lo hi ms ms' n z e v w → Shifted s at m c b ms ms' n z e v w
      unfolding Asked
      shift_upto h {lo} {hi} el eh k =
          record {
            from = omega (arith, k.from);
            to = k.to;
            fits = k.fits;
            long = k.long;
            of =
                λ x r e'. of_upto (Asked s b ms ms' m c n z e v w) _ _ h
                (λ l i x r e'.
                let a = word_of s (at + 1) l (i ∷ flat x r) e' in
                let d = word_of s (at + 1 + 1) i (flat x r) a.2 in
                let y : at + 2 ≡ at + 1 + 1 = omega arith in
                let y' : at + 3 ≡ at + 1 + 1 + 1 = omega arith in
                let f : lo ≡ l = el ∙ a.1 in
                let g : hi ≡ i = eh ∙ (rw y d.1) in
                subst (λ j. Asked s b ms ms' m c n z e v w (times l (upto j) x) r) g
                (subst (λ j. Asked s b ms ms' m c n z e v w (times j (upto hi) x) r) f
                (k.of x r (rw y' d.2))))
                x r (sym (word s at p) ∙ e');
          }

      pub shift_any :
          get_or s at 0 ≡ 5 → {lo : ℕ} → lo ≡ get_or s (at + 1) 0 → Endless s (at + 2) m c b lo ms ms' n z e v w
          → Shifted s at m c b ms ms' n z e v w
      unfolding Asked
      shift_any h {lo} el k =
          record {
            from = omega (arith, k.from);
            to = k.to;
            fits = k.fits;
            long = k.long;
            of =
                λ x r e'. of_any (Asked s b ms ms' m c n z e v w) _ _ h
                (λ l x r e'.
                let a = word_of s (at + 1) l (flat x r) e' in
                let y : at + 2 ≡ at + 1 + 1 = omega arith in
                let f : lo ≡ l = el ∙ a.1 in
                subst (λ j. Asked s b ms ms' m c n z e v w (times j any x) r) f (k.of x r (rw y a.2)))
                x r (sym (word s at p) ∙ e');
          }

  -- COPIES
  module _ (at : ℕ) {ms1 : List ℕ} {n z : ℕ} {e v w : Bool} (p : Shifted s at m c b ms ms1 n z e v w) where
    pub copied_one :
        (lo hi : ℕ) → hi ≡ 1
        → Copied s at m c b lo hi ms ms1 n (z + 0) (eqb lo 0 || (e && leb lo 1)) ((v && leb lo 1) || false) ((w && leb lo 1) || false)
    copied_one lo hi h =
        subst (λ i. Copied s at m c b lo i ms ms1 n (z + 0) (eqb lo 0 || (e && leb lo 1)) ((v && leb lo 1) || false) ((w && leb lo 1) || false)) (sym h)
        (record {
          from = p.from;
          to = p.to;
          fits = omega (arith, p.fits);
          long = p.long;
          of =
              λ x r e' y g.
              let a = p.of x r e' (omega arith) g.0 in
              (a.0, moved_more lo 0 a.1 (moved_last x lo {m = v || (m && e)}) refl);
        })

    -- copies of a part without marks
    pub copied_bare :
        (lo hi : ℕ) → 1 ≤ hi → z ≡ 0 → Copied s at m c b lo hi ms ms1 n 0 (eqb lo 0 || (e && leb lo hi)) false false
    copied_bare lo hi k h =
        record {
          from = p.from;
          to = p.to;
          fits = omega (arith, p.fits);
          long = p.long;
          of =
              λ x r e' y g.
              let i = inner hi k x y g in
              let a = p.of x r e' i.0 i.1 in
              (a.0, moved_bare lo hi h a.1);
        }
      where
        inner :
            (hi : ℕ) → 1 ≤ hi → (x : Regexp) → b + size (times lo (upto hi) x) ≤ length ms → Good (times lo (upto hi) x) b ms
            → (b + size x ≤ length ms) × Good x b ms
        inner zero k x y g = absurd (omega arith)
        inner (suc hi) k x y g = (omega arith, g.0)

    pub copied_more :
        (lo hi : ℕ) → 1 ≤ hi → {l m2 : _} {ms2 : List ℕ} {n2 z2 : ℕ} {e2 v2 w2 : Bool} → l ≡ pred lo → m2 ≡ (v || (m && e))
        → Copied s at m2 c (b + z) l (hi - 1) ms1 ms2 n2 z2 e2 v2 w2
        → Copied s at m c b lo hi ms ms2 n2 (z + z2) (eqb lo 0 || (e && e2)) ((v && e2) || v2) ((w && e2) || w2)
    copied_more lo hi h {l} {m2} {ms2} {n2} {z2} {e2} {v2} {w2} el q k =
        let y : hi ≡ suc (hi - 1) = omega arith in
        subst (λ i. Copied s at m c b lo i ms ms2 n2 (z + z2) (eqb lo 0 || (e && e2)) ((v && e2) || v2) ((w && e2) || w2)) (sym y)
        (go (hi - 1) (subst (λ i. Copied s at m2 c (b + z) i (hi - 1) ms1 ms2 n2 z2 e2 v2 w2) el k))
      where
        go :
            (h : ℕ) → Copied s at m2 c (b + z) (pred lo) h ms1 ms2 n2 z2 e2 v2 w2
            → Copied s at m c b lo (suc h) ms ms2 n2 (z + z2) (eqb lo 0 || (e && e2)) ((v && e2) || v2) ((w && e2) || w2)
        go h k =
            record {
              from = k.from;
              to = k.to;
              fits = omega (arith, k.fits, p.long);
              long = k.long ∙ p.long;
              of =
                  λ x r e' y g.
                  let a = p.of x r e' (omega arith) g.0 in
                  let d =
                  k.of x r e' (omega (arith, a.1.wide, p.long)) (second_ready (times (pred lo) (upto h) x) a.1 g.1) in
                  (d.0, moved_more lo h a.1 d.1 q);
            }

    -- ENDLESS, one copy more
    pub endless_more :
        (lo : ℕ) → 1 < lo → {m2 : Bool} {ms2 : List ℕ} {n2 z2 : ℕ} {e2 v2 w2 : Bool} → m2 ≡ (v || (m && e))
        → Endless s at m2 c (b + z) (lo - 1) ms1 ms2 n2 z2 e2 v2 w2
        → Endless s at m c b lo ms ms2 n2 (z + z2) (e && e2) ((v && e2) || v2) ((w && e2) || w2)
    endless_more lo h {m2} {ms2} {n2} {z2} {e2} {v2} {w2} q k =
        let y : lo ≡ suc (suc (lo - 2)) = omega arith in
        let y' : lo - 1 ≡ suc (lo - 2) = omega arith in
        subst (λ i. Endless s at m c b i ms ms2 n2 (z + z2) (e && e2) ((v && e2) || v2) ((w && e2) || w2)) (sym y)
        (go (lo - 2) (subst (λ i. Endless s at m2 c (b + z) i ms1 ms2 n2 z2 e2 v2 w2) y' k))
      where
        go :
            (l : ℕ) → Endless s at m2 c (b + z) (suc l) ms1 ms2 n2 z2 e2 v2 w2
            → Endless s at m c b (suc (suc l)) ms ms2 n2 (z + z2) (e && e2) ((v && e2) || v2) ((w && e2) || w2)
        go l k =
            record {
              from = k.from;
              to = k.to;
              fits = omega (arith, k.fits, p.long);
              long = k.long ∙ p.long;
              of =
                  λ x r e' y g.
                  let a = p.of x r e' (omega arith) g.0 in
                  let d = k.of x r e' (omega (arith, a.1.wide, p.long)) (second_ready (times (suc l) any x) a.1 g.1) in
                  (d.0, moved_next l a.1 d.1 q);
            }

  -- ENDLESS, no room
  pub endless_room : (at lo : ℕ) → at ≤ length s → length ms ≤ b → Endless s at m c b lo ms ms at 0 false false false
  endless_room at lo i l =
      record {
        from = omega arith;
        to = i;
        fits = omega arith;
        long = refl;
        of = λ x r e y g. let k = endless_some (size x) lo in absurd (omega arith);
      }

  -- ENDLESS, two copies or more of a part without marks
  pub endless_hollow :
      (at : ℕ) {ms1 : List ℕ} {n z : ℕ} {e v w : Bool} → Shifted s at m c b ms ms1 n z e v w → (lo : ℕ) → 1 < lo → z ≡ 0
      → b < length ms → Endless s at m c b lo ms ms1 n 1 e false false
  endless_hollow at {ms1} {n} {z} {e} p lo h q k =
      record {
        from = p.from;
        to = p.to;
        fits = omega arith;
        long = p.long;
        of =
            λ x r e' y g.
            let i = inner lo h x y g in
            let a = p.of x r e' i.0 i.1 in
            (a.0, moved_hollow lo h q a.1 g);
      }
    where
      inner :
          (lo : ℕ) → 1 < lo → (x : Regexp) → b + size (times lo any x) ≤ length ms → Good (times lo any x) b ms
          → (b + size x ≤ length ms) × Good x b ms
      inner zero h x y g = absurd (omega arith)
      inner (suc zero) h x y g = absurd (omega arith)
      inner (suc (suc l)) h x y g = (omega arith, g.0)

  -- ENDLESS, the copy that may follow itself
  module _ (at : ℕ) {ms1 : List ℕ} {m2 : Bool} {n z : ℕ} {e v w : Bool} (p : Shifted s at m2 c (b + 1) ms ms1 n z e v w) where
    pub endless_loop :
        (lo : ℕ) → lo ≤ 1 → b < length ms → (k : ℕ) → eqb k 1 ≡ w → (f : Bool) → m2 ≡ (m || f) → f ≡ eqb (get_or ms b 0) 1
        → Endless s at m c b lo ms (set ms1 b k) n (1 + z) (eqb lo 0 || e) v w
    endless_loop lo h l k k-is f q g =
        record {
          from = p.from;
          to = p.to;
          fits = omega (arith, p.fits);
          long = length-set ms1 b k ∙ p.long;
          of =
              λ x r e' y d.
              let i = inner lo h x y d in
              let a = p.of x r e' i.0 i.1 in
              (a.0, moved_loop a.1 k (omega (arith, p.long)) k-is lo h f q g d);
        }
      where
        inner :
            (lo : ℕ) → lo ≤ 1 → (x : Regexp) → b + size (times lo any x) ≤ length ms → Good (times lo any x) b ms
            → (b + 1 + size x ≤ length ms) × Good x (b + 1) ms
        inner zero h x y d = (omega arith, d.1)
        inner (suc zero) h x y d = (omega arith, d.1)
        inner (suc (suc l)) h x y d = absurd (omega arith)
