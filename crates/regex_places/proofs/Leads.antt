-- The places to which an expression leads, by the expression's parts. Assumes nothing.
use mathlib.Core.Path.{◌≡◌, refl, ap, sym, ◌∙◌, subst}
use mathlib.Core.Bool.{Bool, true, false}
use mathlib.Core.List.{List, [], ◌∷◌}
use mathlib.Core.Logic.{◌⊎◌, inl, inr, ⊎_elim}
use Prim.Native.Nat.{ℕ, suc, ◌+◌, ◌-◌, ◌≤◌, ◌<◌, zero-le}
use native.Mathlib.Omega.{arith}
use native.Mathlib.Nat.{le_refl}
use borrow.Author.Tests.{eqb-true, eqb-false}
use lib.Dec.{eqb}
use lib.ListN.{length, set, drop, get_or, replicate, get_or-replicate, length-replicate, length-drop, drop_of_length-le}
use lib.Seq.{slice, get_or-set_same, get_or-set_other}
use Rattle.regex_chars.specs.Laws.{slice_end}
use Rattle.basics.specs.Lists.{drop_at as word}
use Rattle.regex_definition.specs.Words.{Join, Row, Times, upto, any, Told, holds, fails}
use Rattle.regex_definition.specs.Laws.{row_add, row_split, times_split, times_join}
use Rattle.regex_definition.specs.Regexp.{Regexp, Describes}
use Rattle.regex_code.specs.Flat.{flat, of_empty, of_then, of_or, of_upto, of_any, of_short, of_other, of_nothing, word_of, Word}
use Rattle.regex_code.specs.Skips.{Skips}
use Rattle.regex_total.proofs.Count.{any_upto, upto_any, upto_more}
use Rattle.regex_places.specs.Places.{Reach, In, Image, Fits, Reached, once, rows, most, IsRow, Same, Both, None, Wider, Left, Rest, Row-left, Placed}
use Rattle.regex_places.proofs.Sets.{same_or_not}
use Rattle.regex_places.proofs.Reaching.{reach_map, reach_empty, empty_reach, reach_then, then_reach, closed_times, times_grow, grow_times}

module _ {t : List ℕ} where
  pub image_empty : {ms : List ℕ} → Image t (λ w. w ≡ []) ms ms
  image_empty {ms} = record { forth = empty_reach (In ms); back = reach_empty (In ms) }

  image_map :
      {P : List ℕ → Type 0} {ms ms' : List ℕ} (Q : List ℕ → Type 0) → ((w : List ℕ) → length w ≤ length t → P w → Q w)
      → ((w : List ℕ) → length w ≤ length t → Q w → P w) → Image t P ms ms' → Image t Q ms ms'
  image_map {P} {ms} Q f g i =
      record {
        forth = λ j r. i.forth j (reach_map P (In ms) g (λ k h s. s) j r);
        back = λ j h s. reach_map Q (In ms) f (λ k l a. a) j (i.back j h s);
      }

  image_then :
      {P Q : List ℕ → Type 0} {ms m1 m2 : List ℕ} → Image t P ms m1 → Image t Q m1 m2 → Image t (Join P Q) ms m2
  image_then {P} {Q} {ms} {m1} a b =
      record {
        forth = λ j r. b.forth j (reach_map Q (In m1) (λ w l p. p) (λ i h s. a.forth i s) j (reach_then P Q (In ms) j r));
        back = λ j h s. then_reach P Q (In ms) j (reach_map Q (Reach t P (In ms)) (λ w l p. p) (λ i l s. a.back i l s) j (b.back j h s));
      }

  -- from no place to none
  image_none : {P : List ℕ → Type 0} {ms : List ℕ} → None (length t + 1) ms → Image t P ms ms
  image_none n =
      record {
        forth = λ j r. absurd (n.at r.from (omega (arith, r.order, r.end)) r.is_from);
        back = λ j h s. absurd (n.at j (omega arith) s);
      }

  -- where a set grows no more
  kept : {P : List ℕ → Type 0} {ms : List ℕ} (h : ℕ) → ((j : ℕ) → Reach t P (In ms) j → In ms j) → Image t (Times 0 (upto h) P) ms ms
  kept {P} {ms} h f =
      record {
        forth = λ j r. closed_times P (In ms) f 0 (upto h) j r;
        back =
            λ j k p.
            let r = reach_empty {t = t} (In ms) j k p in
            reach_map (Times 0 (upto h) P) (In ms) (λ w l e. record { count = 0; least = zero-le; most = zero-le; row = e }) (λ i l s. s) j r;
      }

module _ {s : List ℕ} {at : ℕ} {t ms : List ℕ} where
  pub nowhere : length s ≤ at → Reached s at t once ms ms
  nowhere h =
      record { long = refl; of = λ x r e. of_nothing (λ x r. Image t (Describes x) ms ms) x r (sym (drop_of_length-le s h) ∙ e) }

  pub of_none : at < length s → get_or s at 0 ≡ 0 → Reached s at t once ms ms
  of_none p z =
      record {
        long = refl;
        of = λ x r e. of_empty (λ x r. Image t (Describes x) ms ms) _ _ z (λ r e. image_empty) x r (sym (word s at p) ∙ e);
      }

  pub too_short : at < length s → 3 < get_or s at 0 → length s - at < 3 → Reached s at t once ms ms
  too_short p g h =
      record {
        long = refl;
        of =
            λ x r e. of_short (λ x r. Image t (Describes x) ms ms) _ _ g (omega (arith, length-drop (at + 1) s)) x r
            (sym (word s at p) ∙ e);
      }

  module _ (p : at < length s) (n0 : get_or s at 0 ≡ 0 → ⊥) (n1 : get_or s at 0 ≡ 1 → ⊥) (n2 : get_or s at 0 ≡ 2 → ⊥) (n3 : get_or s at 0 ≡ 3 → ⊥) where
    pub no_word : (get_or s at 0 ≡ 4 → ⊥) → (get_or s at 0 ≡ 5 → ⊥) → Reached s at t once ms ms
    no_word n4 n5 =
        record {
          long = refl;
          of = λ x r e. of_other (λ x r. Image t (Describes x) ms ms) _ _ (omega arith) x r (sym (word s at p) ∙ e);
        }

  -- one part or the other
  pub by_either :
      {n b : ℕ} {q0 q1 q2 ms1 ms2 : List ℕ} {more : Bool} → Word s at 3 → n ≡ length t + 1 → Same n ms q0 q1
      → Reached s (at + 1) t once ms ms1 → Skips s (at + 1) b → Reached s b t once q1 q2 → Both n ms1 q2 ms2 more
      → Reached s at t once ms ms2
  by_either {n} {b} {q0} {q1} {q2} {ms1} {ms2} d z c a k e o =
      record {
        long = o.long ∙ a.long;
        of =
            λ x r l. of_or (λ x r. Image t (Describes x) ms ms2) _ _ d.is
            (λ x y r l. by (a.of x (flat y r) l) (e.of y r (k.rest x (flat y r) l)))
            x r (sym (word s at d.here) ∙ l);
      }
    where
      by : {P Q : List ℕ → Type 0} → Image t P ms ms1 → Image t Q q1 q2 → Image t (λ w. P w ⊎ Q w) ms ms2
      by {P} {Q} i j =
          record {
            forth = λ k r. o.forth k (omega (arith, r.end)) (side k r r.word);
            back =
                λ k h p. ⊎_elim
                (λ p. reach_map (λ w. P w ⊎ Q w) (In ms) (λ w l p. inl p) (λ i l s. s) k (i.back k h p))
                (λ p. reach_map (λ w. P w ⊎ Q w) (In ms) (λ w l p. inr p) (λ i l s. sym (c.is i (omega arith)) ∙ s) k (j.back k h p))
                (o.back k p);
          }
        where
          side :
              (k : ℕ) (r : Reach t (λ w. P w ⊎ Q w) (In ms) k) → P (slice r.from k t) ⊎ Q (slice r.from k t) → In ms1 k ⊎ In q2 k
          side k r (inl p) =
              inl (i.forth k (record { from = r.from; is_from = r.is_from; order = r.order; end = r.end; word = p }))
          side k r (inr p) =
              inr
              (j.forth k
              (record {
                from = r.from;
                is_from = c.is r.from (omega (arith, r.order, r.end)) ∙ r.is_from;
                order = r.order;
                end = r.end;
                word = p;
              }))

  -- one word more
  pub by_wider :
      {n : ℕ} {q0 q1 q2 ms' : List ℕ} {more : Bool} → n ≡ length t + 1 → Same n ms q0 q1 → Reached s at t once q1 q2 → Both n ms q2 ms' more
      → Wider s at t ms ms' more
  by_wider {n} {q0} {q1} {q2} {ms'} z c e o =
      record {
        long = o.long;
        forth = λ x r l j h. ⊎_elim (λ p. o.forth j (omega arith) (inl p)) (λ p. o.forth j (omega arith) (inr (to x r l j p)));
        back =
            λ x r l j h p. ⊎_elim (λ p. inl p)
            (λ p. inr (reach_map (Describes x) (In ms) (λ w l p. p) (λ i l s. sym (c.is i (omega arith)) ∙ s) j ((e.of x r l).back j h p)))
            (o.back j p);
        still = λ b x r l j p. o.still b j (omega (arith, p.end)) (to x r l j p);
      }
    where
      to : (x : Regexp) (r : List ℕ) → drop at s ≡ flat x r → (j : ℕ) → Reach t (Describes x) (In ms) j → In q2 j
      to x r l j p =
          (e.of x r l).forth j (reach_map (Describes x) (In q1) (λ w l p. p) (λ i l s. c.is i (omega arith) ∙ s) j p)

-- ---- a number of times

module _ {s : List ℕ} {at : ℕ} {t ms₀ : List ℕ} (n : ℕ) where
  pub rows_start : Left s at t (rows n) (rows n) ms₀ ms₀
  rows_start = record { long = refl; of = λ x r e m i. i }

  module _ {ms : List ℕ} where
    pub rows_on :
        (l : ℕ) {ms1 : List ℕ} → 0 < l → Left s at t (rows l) (rows n) ms₀ ms → Reached s at t once ms ms1
        → Left s at t (rows (l - 1)) (rows n) ms₀ ms1
    rows_on l {ms1} h a b =
        let z : l ≡ suc (l - 1) = omega arith in
        let a' : Left s at t (rows (suc (l - 1))) (rows n) ms₀ ms = subst (λ k. Left s at t (rows k) (rows n) ms₀ ms) z a in
        record { long = b.long ∙ a'.long; of = λ x r e m i. a'.of x r e m (image_then (b.of x r e) i) }

    pub rows_none : (l : ℕ) → Left s at t (rows l) (rows n) ms₀ ms → None (length t + 1) ms → Reached s at t (rows n) ms₀ ms
    rows_none l a b = record { long = a.long; of = λ x r e. a.of x r e ms (image_none b) }

    pub rows_end : (l : ℕ) → l ≤ 0 → Left s at t (rows l) (rows n) ms₀ ms → Reached s at t (rows n) ms₀ ms
    rows_end l h a =
        let z : l ≡ 0 = omega arith in
        let a' : Left s at t (rows 0) (rows n) ms₀ ms = subst (λ k. Left s at t (rows k) (rows n) ms₀ ms) z a in
        record { long = a.long; of = λ x r e. a'.of x r e ms image_empty }

  pub most_start : Left s at t (most n) (most n) ms₀ ms₀
  most_start = record { long = refl; of = λ x r e m i. i }

  module _ {ms : List ℕ} where
    pub most_on :
        {l : ℕ} {ms1 : List ℕ} {b : Bool} → 0 < l → Left s at t (most l) (most n) ms₀ ms → Wider s at t ms ms1 b
        → Left s at t (most (l - 1)) (most n) ms₀ ms1
    most_on {l} {ms1} h a b =
        let z : l ≡ suc (l - 1) = omega arith in
        let a' : Left s at t (most (suc (l - 1))) (most n) ms₀ ms = subst (λ k. Left s at t (most k) (most n) ms₀ ms) z a in
        record { long = b.long ∙ a'.long; of = λ x r e m i. a'.of x r e m (grown x r e m i) }
      where
        grown :
            (x : Regexp) (r : List ℕ) → drop at s ≡ flat x r → (m : List ℕ) → Image t (most (l - 1) (Describes x)) ms1 m
            → Image t (most (suc (l - 1)) (Describes x)) ms m
        grown x r e m i =
            record {
              forth =
                  λ j p. i.forth j
                  (reach_map (most (l - 1) (Describes x)) (In ms1) (λ w l p. p) (λ k h q. b.forth x r e k h q) j
                  (times_grow (Describes x) (In ms) (l - 1) j p));
              back =
                  λ j h p. grow_times (Describes x) (In ms) (l - 1) j
                  (reach_map (most (l - 1) (Describes x)) (λ k. In ms k ⊎ Reach t (Describes x) (In ms) k) (λ w l p. p) (λ k h q. b.back x r e k h q) j
                  (i.back j h p));
            }

    pub most_still :
        {l : ℕ} {ms1 : List ℕ} {b : Bool} → Left s at t (most l) (most n) ms₀ ms → Wider s at t ms ms1 b → b ≡ false
        → Reached s at t (most n) ms₀ ms1
    most_still {l} {ms1} a b z =
        record { long = b.long ∙ a.long; of = λ x r e. a.of x r e ms1 (same x r e (kept l (b.still z x r e))) }
      where
        -- nothing was added
        same :
            (x : Regexp) (r : List ℕ) → drop at s ≡ flat x r → Image t (most l (Describes x)) ms ms → Image t (most l (Describes x)) ms ms1
        same x r e i =
            record {
              forth = λ j p. b.forth x r e j p.end (inl (i.forth j p));
              back = λ j h p. i.back j h (⊎_elim (λ q. q) (λ q. b.still z x r e j q) (b.back x r e j h p));
            }

    pub most_end : {l : ℕ} → l ≤ 0 → Left s at t (most l) (most n) ms₀ ms → Reached s at t (most n) ms₀ ms
    most_end {l} h a =
        let z : l ≡ 0 = omega arith in
        let a' : Left s at t (most 0) (most n) ms₀ ms = subst (λ k. Left s at t (most k) (most n) ms₀ ms) z a in
        record { long = a.long; of = λ x r e. a'.of x r e ms (no_more (Describes x)) }
      where
        no_more : (P : List ℕ → Type 0) → Image t (Times 0 (upto 0) P) ms ms
        no_more P =
            image_map (Times 0 (upto 0) P) (λ w l e. record { count = 0; least = zero-le; most = zero-le; row = e })
            (λ w l p. let k : p.count ≡ 0 = omega (arith, p.most) in rw k at p.row) image_empty

-- lo to hi words are lo, and then up to the rest
module _ {P : List ℕ → Type 0} (lo hi : ℕ) (h : lo ≤ hi) where
  cut_times : (w : List ℕ) → Join (Row P lo) (Times 0 (upto (hi - lo)) P) w → Times lo (upto hi) P w
  cut_times w j =
      let i = j.is_back in
      record {
        count = lo + i.count;
        least = omega arith;
        most = omega (arith, i.most);
        row = row_add P lo i.count w (record { fore = j.fore; back = j.back; eq = j.eq; is_fore = j.is_fore; is_back = i.row });
      }

  times_cut : (w : List ℕ) → Times lo (upto hi) P w → Join (Row P lo) (Times 0 (upto (hi - lo)) P) w
  times_cut w i =
      let z : i.count ≡ lo + (i.count - lo) = omega (arith, i.least) in
      let j = row_split P lo (i.count - lo) w (rw z at i.row) in
      record {
        fore = j.fore;
        back = j.back;
        eq = j.eq;
        is_fore = j.is_fore;
        is_back = record { count = i.count - lo; least = zero-le; most = omega (arith, i.most); row = j.is_back };
      }

module _ {s : List ℕ} {at : ℕ} {t ms ms1 ms2 : List ℕ} where
  pub by_counts :
      {lo hi n : ℕ} → Word s at 4 → lo ≡ get_or s (at + 1) 0 → hi ≡ get_or s (at + 2) 0 → lo ≤ hi → n ≡ hi - lo
      → Reached s (at + 3) t (rows lo) ms ms1 → Reached s (at + 3) t (most n) ms1 ms2 → Reached s at t once ms ms2
  by_counts {lo} {hi} {n} d el eh h y a b =
      record {
        long = b.long ∙ a.long;
        of =
            λ x r e. of_upto (λ x r. Image t (Describes x) ms ms2) _ _ d.is
            (λ l k x r e.
            let f = word_of s (at + 1) l (k ∷ flat x r) e in
            let g = word_of s (at + 1 + 1) k (flat x r) f.2 in
            let z : at + 2 ≡ at + 1 + 1 = omega arith in
            let z' : at + 3 ≡ at + 1 + 1 + 1 = omega arith in
            let p : lo ≡ l = el ∙ f.1 in
            let q : hi ≡ k = eh ∙ (rw z g.1) in
            let u : drop (at + 3) s ≡ flat x r = rw z' g.2 in
            let i : Image t (Times 0 (upto (hi - lo)) (Describes x)) ms1 ms2 = subst (λ m. Image t (Times 0 (upto m) (Describes x)) ms1 ms2) y (b.of x r u) in
            subst (λ m. Image t (Times m (upto k) (Describes x)) ms ms2) p
            (subst (λ m. Image t (Times lo (upto m) (Describes x)) ms ms2) q
            (image_map (Times lo (upto hi) (Describes x)) (λ w l. cut_times lo hi h w) (λ w l. times_cut lo hi h w)
            (image_then (a.of x r u) i))))
            x r (sym (word s at d.here) ∙ e);
      }

  pub by_least_lem :
      {lo n : ℕ} → Word s at 5 → lo ≡ get_or s (at + 1) 0 → n ≡ length t
      → Reached s (at + 2) t (rows lo) ms ms1 → Reached s (at + 2) t (most n) ms1 ms2 → Reached s at t once ms ms2
  by_least_lem {lo} {n} d el y a b =
      record {
        long = b.long ∙ a.long;
        of =
            λ x r e. of_any (λ x r. Image t (Describes x) ms ms2) _ _ d.is
            (λ l x r e.
            let f = word_of s (at + 1) l (flat x r) e in
            let z : at + 2 ≡ at + 1 + 1 = omega arith in
            let p : lo ≡ l = el ∙ f.1 in
            let u : drop (at + 2) s ≡ flat x r = rw z f.2 in
            subst (λ m. Image t (Times m any (Describes x)) ms ms2) p
            (image_map (Times lo any (Describes x)) (λ w l. times_join (Describes x) lo w) (λ w l. times_split (Describes x) lo w)
            (image_then (a.of x r u)
            (image_map (Times 0 any (Describes x)) (λ w l. upto_any (Describes x) 0 n w)
            (λ w l k. upto_more (Describes x) 0 (0 + length w) n (omega arith) w (any_upto (Describes x) 0 w k)) (b.of x r u)))))
            x r (sym (word s at d.here) ∙ e);
      }

module _ {s : List ℕ} {at : ℕ} {t ms ms1 : List ℕ} where
  -- more words than there may be
  pub by_none :
      {lo hi : ℕ} → Word s at 4 → lo ≡ get_or s (at + 1) 0 → hi ≡ get_or s (at + 2) 0 → hi < lo → length ms1 ≡ length ms → None (length t + 1) ms1
      → Reached s at t once ms ms1
  by_none {lo} {hi} d el eh h g n =
      record {
        long = g;
        of =
            λ x r e. of_upto (λ x r. Image t (Describes x) ms ms1) _ _ d.is
            (λ l k x r e.
            let f = word_of s (at + 1) l (k ∷ flat x r) e in
            let g = word_of s (at + 1 + 1) k (flat x r) f.2 in
            let z : at + 2 ≡ at + 1 + 1 = omega arith in
            let p : lo ≡ l = el ∙ f.1 in
            let q : hi ≡ k = eh ∙ (rw z g.1) in
            record {
              forth = λ j r. absurd (omega (arith, r.word.least, r.word.most));
              back = λ j h s. absurd (n.at j (omega arith) s);
            })
            x r (sym (word s at d.here) ∙ e);
      }

-- ---- parts in a row

module _ {s : List ℕ} {at : ℕ} {t ms₀ : List ℕ} where
  pub row_start : Row-left s at at t ms₀ ms₀
  row_start = record { long = refl; from = le_refl _; of = λ x r e. record { part = x; code = e; all = λ m i. i } }

  module _ {p : ℕ} {ms : List ℕ} (a : Row-left s at p t ms₀ ms) where
    pub row_on : {b : ℕ} {ms1 : List ℕ} → Word s p 2 → Reached s (p + 1) t once ms ms1 → Skips s (p + 1) b → Row-left s at b t ms₀ ms1
    row_on {b} {ms1} d c k =
        record {
          long = c.long ∙ a.long;
          from = omega (arith, a.from, k.from);
          of = λ x r e. let o = a.of x r e in by x r o.part r o.code o.all;
        }
      where
        by :
            (x : Regexp) (r : List ℕ) (y : Regexp) (l : List ℕ) → drop p s ≡ flat y l
            → ((m : List ℕ) → Image t (Describes y) ms m → Image t (Describes x) ms₀ m) → Rest s b t (Describes x) ms₀ ms1 l
        by x r y l e =
            of_then (λ y l. ((m : List ℕ) → Image t (Describes y) ms m → Image t (Describes x) ms₀ m) → Rest s b t (Describes x) ms₀ ms1 l) _ _ d.is
            (λ u v l e f. record { part = v; code = k.rest u (flat v l) e; all = λ m i. f m (image_then (c.of u (flat v l) e) i) })
            y l (sym (word s p d.here) ∙ e)

    pub row_end : {ms1 : List ℕ} → Reached s p t once ms ms1 → Reached s at t once ms₀ ms1
    row_end {ms1} c =
        record {
          long = c.long ∙ a.long;
          of = λ x r e. let o = a.of x r e in o.all ms1 (c.of o.part r o.code);
        }

-- no word 2 stands there any more
pub row_off : {s : List ℕ} {p : ℕ} {b : Bool} → IsRow s p b → b ≡ false → IsRow s p false
row_off {s} {p} o e = subst (λ c. IsRow s p c) e o

-- the same text in a room of the same length
pub fits_on : {t ms ms' : List ℕ} → Fits t ms → length ms' ≡ length ms → Fits t ms'
fits_on f e = record { short = f.short; room = omega (arith, f.room) }

pub fits_all : {t ms ms' : List ℕ} → Fits t ms → length ms' ≡ 1024 → Fits t ms'
fits_all f e = record { short = f.short; room = omega (arith, f.short) }

-- ---- from the first place to the last

-- only the first place
pub first_only : (n j : ℕ) → j < n → In (set (replicate n 0) 0 1) j → j ≡ 0
first_only n j h i =
    same_or_not j 0 (λ z. z)
    (λ d. absurd (let e : ◌≡◌ {A = ℕ} 0 1 = sym (get_or-replicate n j 0 0 h) ∙ sym (get_or-set_other (replicate n 0) 0 j 1 0 d) ∙ i in omega arith))

pub first_in : (n : ℕ) → 0 < n → In (set (replicate n 0) 0 1) 0
first_in n h = get_or-set_same (replicate n 0) 0 1 0 (let l : length (replicate {A = ℕ} n 0) ≡ n = length-replicate n 0 in omega arith)

pub placed :
    (s t ms ms' : List ℕ) → In ms 0 → ((j : ℕ) → j ≤ length t → In ms j → j ≡ 0) → Reached s 0 t once ms ms'
    → Placed s t (eqb (get_or ms' (length t) 0) 1)
placed s t ms ms' p q r = record { of = λ x e. go x (r.of x [] e) (eqb (get_or ms' (length t) 0) 1) refl }
  where
    all : slice 0 (length t) t ≡ t
    all = slice_end t 0

    go : (x : Regexp) → Image t (Describes x) ms ms' → (b : Bool) → eqb (get_or ms' (length t) 0) 1 ≡ b → Told (Describes x t) b
    go x i true e =
        let r = i.back (length t) (le_refl _) (eqb-true (get_or ms' (length t) 0) 1 e) in
        let o = r.order in
        let z : r.from ≡ 0 = q r.from (omega arith) r.is_from in
        holds (subst (Describes x) (ap (λ k. slice k (length t) t) z ∙ all) r.word)
    go x i false e =
        fails
        (λ d.
        eqb-false (get_or ms' (length t) 0) 1 e
        (i.forth (length t) (record { from = 0; is_from = p; order = zero-le; end = le_refl _; word = subst (Describes x) (sym all) d })))
