-- A run over a text, and the number of marks. Assumes nothing.
use mathlib.Core.Path.{◌≡◌, refl, ap, sym, ◌∙◌, subst}
use mathlib.Core.Bool.{Bool, true, false, ◌&&◌}
use mathlib.Core.List.{List, [], ◌∷◌, ◌++◌, append-nil, append_assoc}
use mathlib.Core.Logic.{inl, inr, ⊎_elim}
use Prim.Native.Nat.{ℕ, zero, suc, pred, ◌+◌, ◌*◌, ◌-◌, ◌≤◌, ◌<◌, ◌^◌}
use native.Mathlib.Omega.{arith}
use native.Mathlib.Nat.{mul-suc, mul-zero, mul-le-mul_left, le_of_lt}
use lib.ListN.{length, drop, get_or, set, length-drop, drop_of_length-le, get_or-eq_default}
use lib.Seq.{slice, get_or-set_same, get_or-set_other}
use Rattle.definition.specs.Utf8.{encode_all}
use Rattle.basics.specs.Lists.{drop_at as word}
use Rattle.regex_chars.specs.Chars.{Stands}
use Rattle.regex_chars.specs.Classes.{Hits}
use Rattle.regex_chars.specs.Laws.{slice_end, slice_nil, encode_all_none, encode_all_cons, encode_all_nil}
use lib.Dec.{eqb, leb}
use borrow.Author.Tests.{eqb-true, eqb-false, eq-eqb, leb-true, leb-false}
use Rattle.regex_definition.specs.Words.{Told, holds, fails}
use Rattle.regex_definition.specs.Regexp.{Regexp, Describes, hits}
use Rattle.regex_definition.specs.Agree.{told, told_true}
use Rattle.regex_code.specs.Flat.{flat, of_empty, of_class, of_then, of_or, of_upto, of_any, of_short, of_other, of_nothing, behind, word_of}
use Rattle.regex_code.specs.Skips.{SkipsClass}
use Rattle.regex_marks.specs.Marks.{size, copies, endless, Rest}
use Rattle.regex_marks.specs.Moves.{Moved, Shifted}
use Rattle.regex_marks.specs.Runs.{Clear, Grows, Reading, Read, Ran, Weighs, Capped, Entered}
use Rattle.regex_marks.proofs.Frames.{rest_none, good_none}

-- CLEAR
pub clear_more : (ms : List ℕ) (i : ℕ) → i < length ms → ((k : ℕ) → k < i → get_or ms k 0 ≡ 0) → (k : ℕ) → k < i + 1 → get_or (set ms i 0) k 0 ≡ 0
clear_more ms i h f k g = go (eqb k i) refl
  where
    go : (b : Bool) → eqb k i ≡ b → get_or (set ms i 0) k 0 ≡ 0
    go true e = let z : k ≡ i = eqb-true k i e in rw z (get_or-set_same ms i 0 0 h)
    go false e = get_or-set_other ms i k 0 0 (eqb-false k i e) ∙ f k (omega (arith, eqb-false k i e))

pub clear_next :
    (ms : List ℕ) (i : ℕ) → get_or ms i 0 ≡ 0 → ((k : ℕ) → k < i → get_or ms k 0 ≡ 0) → (k : ℕ) → k < i + 1 → get_or ms k 0 ≡ 0
clear_next ms i h f k g = go (eqb k i) refl
  where
    go : (b : Bool) → eqb k i ≡ b → get_or ms k 0 ≡ 0
    go true e = let z : k ≡ i = eqb-true k i e in rw z h
    go false e = f k (omega (arith, eqb-false k i e))

pub clear_all : (ms : List ℕ) (i : ℕ) → length ms ≤ i → ((k : ℕ) → k < i → get_or ms k 0 ≡ 0) → Clear ms
clear_all ms i h f = record { at = λ k. go k (leb (length ms) k) refl }
  where
    go : (k : ℕ) (b : Bool) → leb (length ms) k ≡ b → get_or ms k 0 ≡ 0
    go k true e = get_or-eq_default ms 0 (leb-true (length ms) k e)
    go k false e = f k (omega (arith, leb-false (length ms) k e))

-- START: a pass that enters nothing leaves nothing, and says whether the empty word is described
pub read_start :
    {s t ms ms' : List ℕ} {c next n : ℕ} {e v w : Bool} → Clear ms → Shifted s 0 false c 0 ms ms' next n e v w → Read s t 0 ms' e
read_start {s} {t} {ms} {ms'} {c} {next} {n} {e} {v} {w} z p =
    record {
      of =
          λ x cs q u r.
          let a = (p.of x [] q (omega (arith, p.long)) (good_none ms z.at x 0)).1 in
          let none : (u : List ℕ) → Rest x 0 ms' u → ⊥ =
          λ u y. ⊎_elim (λ k. let i : ◌≡◌ {A = ℕ} 0 1 = ap number k.0 in omega arith) (rest_none ms z.at x 0 (c ∷ u)) (a.turn.back u y) in
          record {
            done = [];
            left = cs;
            eq = refl;
            rest = slice_end t 0 ∙ u;
            good = a.good;
            told = a.turn.on_empty;
            forth = λ u h. ⊎_elim (λ k. k.1) (λ y. absurd (none u y)) h;
            back = λ u d. inl (refl, d);
          };
    }
  where
    number : Bool → ℕ
    number true = 1
    number false = 0

-- STEP: the next character of the text is read
module _ (t : List ℕ) (i : ℕ) (h : i < length t) {next c : ℕ} (k : Stands t i (length t) next c) where
  module _ {ms ms' : List ℕ} {n : ℕ} {b e v w : Bool} where
    step :
        (x : Regexp) (cs : List ℕ) → Reading x cs t i ms b → Moved x 0 ms ms' (eqb i 0) c n e v w → Reading x cs t next ms' w
    step x cs d a = go d.left d.eq d.rest
      where
        go : (l : List ℕ) → cs ≡ d.done ++ l → slice i (length t) t ≡ encode_all l → Reading x cs t next ms' w
        go [] q r = let z = slice_nil t i (length t) (omega arith) (omega arith) (r ∙ encode_all_none) in absurd (omega arith)
        go (f ∷ l) q r =
            let o = k.of f (encode_all l) (r ∙ encode_all_cons f l) in
            let one_more : (u : List ℕ) → (d.done ++ (c ∷ [])) ++ u ≡ d.done ++ (c ∷ u) =
            λ u. append_assoc d.done (c ∷ []) u in
            let up : (u : List ℕ) → Rest x 0 ms' u → Describes x ((d.done ++ (c ∷ [])) ++ u) =
            λ u r.
            subst (Describes x) (sym (one_more u))
            (d.forth (c ∷ u) (⊎_elim (λ k. inl (eqb-true i 0 k.0, k.1)) inr (a.turn.back u r))) in
            let down : (u : List ℕ) → Describes x ((d.done ++ (c ∷ [])) ++ u) → Rest x 0 ms' u =
            λ u r.
            a.turn.forth u
            (⊎_elim (λ k. inl (eq-eqb i 0 k.0, k.1)) inr (d.back (c ∷ u) (subst (Describes x) (one_more u) r))) in
            record {
              done = d.done ++ (c ∷ []);
              left = l;
              eq = q ∙ ap (λ j. d.done ++ (j ∷ l)) (sym o.0) ∙ sym (append_assoc d.done (c ∷ []) l);
              rest = o.1;
              good = a.good;
              told =
                  told
                  (λ r. subst (Describes x) (append-nil (d.done ++ (c ∷ []))) (up [] r))
                  (λ r. down [] (subst (Describes x) (sym (append-nil (d.done ++ (c ∷ [])))) r))
                  a.turn.on_now;
              forth = λ u r. ⊎_elim (λ y. absurd (omega (arith, y.0, k.after))) (up u) r;
              back = λ u r. inr (down u r);
            }

  pub read_more :
      {s ms ms' : List ℕ} {at n : ℕ} {b e v w : Bool} → Read s t i ms b → Shifted s 0 (eqb i 0) c 0 ms ms' at n e v w
      → Read s t next ms' w
  read_more g p =
      record {
        of =
            λ x cs q u r.
            let d = g.of x cs q u (omega (arith, p.long)) in
            step x cs d (p.of x [] q (omega (arith, p.long)) d.good).1;
      }

pub read_end_lem : (s t ms : List ℕ) (i : ℕ) {b : Bool} (room : ℕ) → room ≡ length ms → length t ≤ i → Read s t i ms b → Ran s t room b
read_end_lem s t ms i {b} room e h g = record { of = λ x cs q u r. go x cs (g.of x cs q u (omega arith)) }
  where
    go : (x : Regexp) (cs : List ℕ) → Reading x cs t i ms b → Told (Describes x cs) b
    go x cs d =
        let n : encode_all d.left ≡ [] = sym d.rest ∙ slice_end t i ∙ drop_of_length-le t h in
        let l : cs ≡ d.done = d.eq ∙ ap (λ j. d.done ++ j) (encode_all_nil d.left n) ∙ append-nil d.done in
        subst (λ j. Told (Describes x j) b) (sym l) d.told

-- where nothing is marked, no text goes on
pub read_dead : {s t ms : List ℕ} {i : ℕ} {b : Bool} (room : ℕ) → room ≡ length ms → 0 < i → Clear ms → Read s t i ms b → Ran s t room false
read_dead {s} {t} {ms} {i} {b} room e h z g =
    record {
      of =
          λ x cs q u r.
          let d = g.of x cs q u (omega arith) in
          fails
          (λ k.
          ⊎_elim (λ y. absurd (omega (arith, y.0))) (rest_none ms z.at x 0 d.left)
          (d.back d.left (subst (Describes x) d.eq k)));
    }

-- where what was read is described, and any end may follow, the text is described
pub read_open : {s t ms : List ℕ} {i : ℕ} {b : Bool} (room : ℕ) → room ≡ length ms → Grows s → b ≡ true → Read s t i ms b → Ran s t room true
read_open {s} {t} {ms} {i} {b} room e o h g =
    record {
      of =
          λ x cs q u r.
          let d = g.of x cs q u (omega arith) in
          holds (subst (Describes x) (sym d.eq) (o.of x q d.done d.left (told_true d.told h)));
    }

-- WEIGHTS
copies_mul : (n h : ℕ) → copies n h ≡ n * h
copies_mul n zero = sym (mul-zero n)
copies_mul n (suc h) = let e = copies_mul n h in let m = mul-suc n h in omega arith

endless_mul : (n lo : ℕ) → endless n lo ≡ n * pred lo + 1 + n
endless_mul n zero = let m = mul-zero n in omega arith
endless_mul n (suc zero) = let m = mul-zero n in omega arith
endless_mul n (suc (suc l)) = let e = endless_mul n (suc l) in let m = mul-suc n l in omega arith

Weighed : List ℕ → ℕ → ℕ → ℕ → Regexp → List ℕ → Type 0
Weighed s cap next n x r = (drop next s ≡ r) × (n ≤ cap → n ≡ size x)

module _ (s : List ℕ) (cap : ℕ) where
  pub weigh_nothing : (at : ℕ) → length s ≤ at → Weighs s at cap at 0
  unfolding Weighed
  weigh_nothing at h =
      record {
        from = omega arith;
        fits = omega arith;
        of = λ x r e. of_nothing (Weighed s cap at 0) x r (sym (drop_of_length-le s h) ∙ e);
      }

  module _ (at : ℕ) (p : at < length s) where
    pub weigh_empty : get_or s at 0 ≡ 0 → Weighs s at cap (at + 1) 0
    unfolding Weighed
    weigh_empty h =
        record {
          from = omega arith;
          fits = omega arith;
          of = λ x r e. of_empty (Weighed s cap (at + 1) 0) _ _ h (λ r e. (e, λ k. refl)) x r (sym (word s at p) ∙ e);
        }

    pub weigh_class : get_or s at 0 ≡ 1 → {n next : ℕ} → SkipsClass s at next → Capped 1 cap n → Weighs s at cap next n
    unfolding Weighed
    weigh_class h {n} {next} j k =
        record {
          from = j.from;
          fits = k.fits;
          of =
              λ x r e. of_class (Weighed s cap next n) _ _ h (λ comp gs r e. (j.rest comp gs r e, k.same)) x r
              (sym (word s at p) ∙ e);
        }

    module _ {n1 n2 z1 z2 n : ℕ} (a : Weighs s (at + 1) cap n1 z1) (b : Weighs s n1 cap n2 z2) (k : Capped (z1 + z2) cap n) where
      sum : (x y : Regexp) → (z1 ≤ cap → z1 ≡ size x) → (z2 ≤ cap → z2 ≡ size y) → n ≤ cap → n ≡ size x + size y
      sum x y f g h =
          let e = k.same h in
          let u = f (omega arith) in
          let v = g (omega arith) in
          omega arith

      pub weigh_then : get_or s at 0 ≡ 2 → Weighs s at cap n2 n
      unfolding Weighed
      weigh_then h =
          record {
            from = omega (arith, a.from, b.from);
            fits = k.fits;
            of =
                λ x r e. of_then (Weighed s cap n2 n) _ _ h
                (λ x y r e.
                let i = a.of x (flat y r) e in
                let j = b.of y r i.0 in
                (j.0, sum x y i.1 j.1))
                x r (sym (word s at p) ∙ e);
          }

      pub weigh_or : get_or s at 0 ≡ 3 → Weighs s at cap n2 n
      unfolding Weighed
      weigh_or h =
          record {
            from = omega (arith, a.from, b.from);
            fits = k.fits;
            of =
                λ x r e. of_or (Weighed s cap n2 n) _ _ h
                (λ x y r e.
                let i = a.of x (flat y r) e in
                let j = b.of y r i.0 in
                (j.0, sum x y i.1 j.1))
                x r (sym (word s at p) ∙ e);
          }

    pub weigh_short : 3 < get_or s at 0 → length s - at < 3 → Weighs s at cap at 0
    unfolding Weighed
    weigh_short k h =
        record {
          from = omega arith;
          fits = omega arith;
          of = λ x r e. of_short (Weighed s cap at 0) _ _ k (omega (arith, length-drop (at + 1) s)) x r (sym (word s at p) ∙ e);
        }

    module _ (n0 : get_or s at 0 ≡ 0 → ⊥) (n1 : get_or s at 0 ≡ 1 → ⊥) (n2 : get_or s at 0 ≡ 2 → ⊥) (n3 : get_or s at 0 ≡ 3 → ⊥) where
      pub weigh_other : (get_or s at 0 ≡ 4 → ⊥) → (get_or s at 0 ≡ 5 → ⊥) → Weighs s at cap at 0
      unfolding Weighed
      weigh_other n4 n5 =
          record {
            from = omega arith;
            fits = omega arith;
            of = λ x r e. of_other (Weighed s cap at 0) _ _ (omega arith) x r (sym (word s at p) ∙ e);
          }

    module _ {next z : ℕ} (is : get_or s at 0 ≡ 4) (a : Weighs s (at + 3) cap next z) where
      pub weigh_upto_much : cap < z → Weighs s at cap next (cap + 1)
      unfolding Weighed
      weigh_upto_much h =
          record {
            from = omega (arith, a.from);
            fits = omega arith;
            of =
                λ x r e. of_upto (Weighed s cap next (cap + 1)) _ _ is
                (λ l i x r e.
                let z : at + 3 ≡ at + 1 + 2 = omega arith in
                ((a.of x r (rw z (behind s at 2 _ e))).0, λ q. absurd (omega arith)))
                x r (sym (word s at p) ∙ e);
          }

      pub weigh_upto : (hi n : ℕ) → hi ≡ get_or s (at + 2) 0 → z ≤ cap → Capped (z * hi) cap n → Weighs s at cap next n
      unfolding Weighed
      weigh_upto hi n eh h k =
          record {
            from = omega (arith, a.from);
            fits = k.fits;
            of =
                λ x r e. of_upto (Weighed s cap next n) _ _ is
                (λ l i x r e.
                let z' : at + 3 ≡ at + 1 + 2 = omega arith in
                let o = a.of x r (rw z' (behind s at 2 _ e)) in
                let f = word_of s (at + 1) l (i ∷ flat x r) e in
                let g = word_of s (at + 1 + 1) i (flat x r) f.2 in
                let y : at + 2 ≡ at + 1 + 1 = omega arith in
                let j : hi ≡ i = eh ∙ (rw y g.1) in
                (o.0, λ q. k.same q ∙ ap (λ v. v * hi) (o.1 h) ∙ ap (λ v. size x * v) j ∙ sym (copies_mul (size x) i)))
                x r (sym (word s at p) ∙ e);
          }

    module _ {next z : ℕ} (is : get_or s at 0 ≡ 5) (a : Weighs s (at + 2) cap next z) where
      pub weigh_any_much : cap < z → Weighs s at cap next (cap + 1)
      unfolding Weighed
      weigh_any_much h =
          record {
            from = omega (arith, a.from);
            fits = omega arith;
            of =
                λ x r e. of_any (Weighed s cap next (cap + 1)) _ _ is
                (λ l x r e.
                let z : at + 2 ≡ at + 1 + 1 = omega arith in
                ((a.of x r (rw z (behind s at 1 _ e))).0, λ q. absurd (omega arith)))
                x r (sym (word s at p) ∙ e);
          }

      pub weigh_any :
          (lo l n : ℕ) → lo ≡ get_or s (at + 1) 0 → l ≡ pred lo → z ≤ cap → Capped (z * l + 1 + z) cap n → Weighs s at cap next n
      unfolding Weighed
      weigh_any lo l n el ep h k =
          record {
            from = omega (arith, a.from);
            fits = k.fits;
            of =
                λ x r e. of_any (Weighed s cap next n) _ _ is
                (λ i x r e.
                let z' : at + 2 ≡ at + 1 + 1 = omega arith in
                let o = a.of x r (rw z' (behind s at 1 _ e)) in
                let f = word_of s (at + 1) i (flat x r) e in
                let j : l ≡ pred i = ep ∙ ap pred (el ∙ f.1) in (
                  o.0,
                  λ q.
                      k.same q ∙ ap (λ v. v * l + 1 + v) (o.1 h) ∙ ap (λ v. size x * v + 1 + size x) j ∙ sym (endless_mul (size x) i),
                ))
                x r (sym (word s at p) ∙ e);
          }

-- a product that fits
pub product : (a b : ℕ) → a < 2 ^ 31 → b < 2 ^ 32 → a * b < 2 ^ 63
product a b p q = let h : a * b ≤ a * 2 ^ 32 = mul-le-mul_left a (le_of_lt q) in omega arith

pub ran_room : {s t : List ℕ} {r r' : ℕ} {b : Bool} → r' ≡ r → Ran s t r' b → Ran s t r b
ran_room e p = record { of = λ x cs q u h. p.of x cs q u (omega arith) }

-- a class that is not entered is not hit
pub not_entered : {s : List ℕ} {at c : ℕ} {m : Bool} → m ≡ false → Entered s at m c false
not_entered {s} {at} {c} e = record { of = λ comp gs r q. sym (ap (λ k. k && hits comp gs c) e) }

pub is_entered : {s : List ℕ} {at c : ℕ} {m b : Bool} → m ≡ true → Hits s at c b → Entered s at m c b
is_entered {s} {at} {c} e h = record { of = λ comp gs r q. h.of comp gs r q ∙ sym (ap (λ k. k && hits comp gs c) e) }
