-- What each answer of the matcher rests on: the callees' answers in, the function's own answer out. Assumes nothing.
use mathlib.Core.Path.{◌≡◌, refl, ap, sym, ◌∙◌, subst}
use mathlib.Core.Bool.{Bool, true, false}
use mathlib.Core.List.{List, [], ◌∷◌, ◌++◌, append_assoc}
use mathlib.Core.Logic.{inl, inr, ⊎_elim}
use Prim.Native.Nat.{ℕ, zero, suc, ◌+◌, ◌-◌, ◌/◌, ◌≤◌, ◌<◌, zero-le}
use native.Mathlib.Omega.{arith}
use native.Mathlib.Nat.{le_refl}
use lib.ListN.{length, length-append, drop, get_or, length-drop, drop_of_length-le}
use lib.Seq.{slice, slice_empty}
use Rattle.definition.specs.Utf8.{encode, encode_all}
use Rattle.basics.specs.Lists.{drop_at as word}
use Rattle.regex_chars.specs.Chars.{Stands}
use Rattle.regex_chars.specs.Classes.{Hits}
use Rattle.regex_chars.specs.Laws.{encode_all_none, encode_all_cons, encode_all_nil, nil_slice, slice_nil, Spells}
use lib.Dec.{eqb}
use borrow.Author.Tests.{eqb-true, eqb-false}
use Rattle.regex_definition.specs.Words.{Join, Row, Times, upto, Told, holds, fails}
use Rattle.regex_definition.specs.Regexp.{Regexp, Describes, One, Range, hits}
use Rattle.regex_definition.specs.Laws.{join_map, join_nil}
use Rattle.regex_definition.specs.Agree.{told, told_true, bool_told}
use Rattle.regex_code.specs.Flat.{flat, of_empty, of_class, of_then, of_or, of_upto, of_any, of_short, of_other, of_nothing, word_of}
use Rattle.regex_code.specs.Skips.{Skips}
use Rattle.regex_total.specs.Answers.{Inside, Matched, Repeated, Paired, Joined, Enough}
use Rattle.regex_total.proofs.Count.{halves_join, halves_split, of_once, to_once, of_most_once, any_upto, upto_any, upto_more, row_nil}
use Rattle.regex_total.proofs.Parts.{append_same, front_spells, spells_nil, nil_spells, spells_chars}
use Rattle.regex_code.specs.Tests.{eqb_told}

pub told_false : {P : Type 0} {b : Bool} → Told P b → b ≡ false → P → ⊥
told_false (holds p) e q = let z : ◌≡◌ {A = ℕ} 1 0 = ap number e in omega arith
  where
    number : Bool → ℕ
    number true = 1
    number false = 0
told_false (fails n) e q = n q

module _ (s t : List ℕ) (from to : ℕ) (i : Inside t from to) where
  -- the empty word
  empty_told : (w : List ℕ) → Spells t from to w → Told (w ≡ []) (eqb from to)
  empty_told w k = told (spells_nil t from to i w k) (nil_spells t from to i w k) (eqb_told from to)

  -- LEAF: one character
  module _ (at : ℕ) (p : at < length s) (is : get_or s at 0 ≡ 1) where
    -- a class has no empty word
    pub one_none : from ≡ to → Matched s at t from to false
    one_none h =
        record {
          of =
              λ x r w e k. of_class (λ x r. Told (Describes x w) false) _ _ is
              (λ comp gs r e. fails (λ o. absurd (let z = spells_nil t from to i w k h in let y = o.eq in let j : ◌≡◌ {A = ℕ} 0 1 = cc in omega arith)))
              x r (sym (word s at p) ∙ e);
        }

    module _ {next c : ℕ} (q : Stands t from to next c) where
      -- .. nor one of two characters
      long : (comp : Bool) (gs : List Range) (w : List ℕ) → Spells t from to w → One comp gs w → next ≡ to
      long comp gs w k o =
          let e : slice from to t ≡ encode o.char ++ [] =
          k ∙ ap encode_all o.eq ∙ encode_all_cons o.char [] ∙ ap (λ l. encode o.char ++ l) encode_all_none in
          slice_nil t next to q.within i.end (q.of o.char [] e).1

      pub one_long : (next ≡ to → ⊥) → Matched s at t from to false
      one_long h =
          record {
            of =
                λ x r w e k. of_class (λ x r. Told (Describes x w) false) _ _ is
                (λ comp gs r e. fails (λ o. absurd (h (long comp gs w k o)))) x r (sym (word s at p) ∙ e);
          }

      -- the one character that the bytes are of
      single : next ≡ to → (w : List ℕ) → Spells t from to w → (from ≡ to → ⊥) → w ≡ c ∷ []
      single h [] k n = absurd (n (nil_spells t from to i [] k refl))
      single h (d ∷ w) k n =
          let o = q.of d (encode_all w) (k ∙ encode_all_cons d w) in
          let l : w ≡ [] = encode_all_nil w (sym o.1 ∙ nil_slice t next to h) in
          rw (l, o.0)

      pub one_hit : (from ≡ to → ⊥) → next ≡ to → {b : Bool} → Hits s at c b → Matched s at t from to b
      one_hit n h {b} g =
          record {
            of =
                λ x r w e k. of_class (λ x r. Told (Describes x w) b) _ _ is
                (λ comp gs r e.
                let z : w ≡ c ∷ [] = single h w k n in
                let f : b ≡ hits comp gs c = g.of comp gs r e in
                told
                (λ y. record { char = c; eq = z; hit = sym f ∙ y })
                (λ o. let y = o.eq in let j : c ≡ o.char = cc in f ∙ rw j o.hit)
                (bool_told b))
                x r (sym (word s at p) ∙ e);
          }

  -- MATCHES
  pub match_nothing : (at : ℕ) → length s ≤ at → Matched s at t from to false
  match_nothing at h =
      record { of = λ x r w e k. of_nothing (λ x r. Told (Describes x w) false) x r (sym (drop_of_length-le s h) ∙ e) }

  module _ (at : ℕ) (p : at < length s) where
    pub match_empty : get_or s at 0 ≡ 0 → Matched s at t from to (eqb from to)
    match_empty h =
        record {
          of = λ x r w e k. of_empty (λ x r. Told (Describes x w) (eqb from to)) _ _ h (λ r e. empty_told w k) x r (sym (word s at p) ∙ e);
        }

    pub match_then :
        get_or s at 0 ≡ 2 → {n : ℕ} {b : Bool} → Skips s (at + 1) n → Joined s (at + 1) 1 1 n 1 1 t from to b → Matched s at t from to b
    match_then h {n} {b} k j =
        record {
          of =
              λ x r w e f. of_then (λ x r. Told (Describes x w) b) _ _ h
              (λ x y r e.
              told
              (join_map (Describes x) (Describes y) (of_once (Describes x)) (of_once (Describes y)) w)
              (join_map (Times 1 (upto 1) (Describes x)) (Times 1 (upto 1) (Describes y)) (to_once (Describes x) 1 (le_refl _))
              (to_once (Describes y) 1 (le_refl _)) w)
              (j.of x y (flat y r) r w e (k.rest x (flat y r) e) f)) x r
              (sym (word s at p) ∙ e);
        }

    pub match_left : get_or s at 0 ≡ 3 → {b : Bool} → Matched s (at + 1) t from to b → b ≡ true → Matched s at t from to true
    match_left h m q =
        record {
          of =
              λ x r w e k. of_or (λ x r. Told (Describes x w) true) _ _ h
              (λ x y r e. holds (inl (told_true (m.of x (flat y r) w e k) q))) x r
              (sym (word s at p) ∙ e);
        }

    pub match_right :
        get_or s at 0 ≡ 3 → {a b : Bool} {n : ℕ} → Matched s (at + 1) t from to a → a ≡ false → Skips s (at + 1) n
        → Matched s n t from to b → Matched s at t from to b
    match_right h {a} {b} {n} m q k o =
        record {
          of =
              λ x r w e f. of_or (λ x r. Told (Describes x w) b) _ _ h
              (λ x y r e.
              told inr (⊎_elim (λ d. absurd (told_false (m.of x (flat y r) w e f) q d)) (λ d. d)) (o.of y r w (k.rest x (flat y r) e) f))
              x r (sym (word s at p) ∙ e);
        }

    pub match_short : 3 < get_or s at 0 → length s - at < 3 → Matched s at t from to false
    match_short g h =
        record {
          of =
              λ x r w e k. of_short (λ x r. Told (Describes x w) false) _ _ g (omega (arith, length-drop (at + 1) s)) x r
              (sym (word s at p) ∙ e);
        }

    module _ (n0 : get_or s at 0 ≡ 0 → ⊥) (n1 : get_or s at 0 ≡ 1 → ⊥) (n2 : get_or s at 0 ≡ 2 → ⊥) (n3 : get_or s at 0 ≡ 3 → ⊥) where
      pub match_other : (get_or s at 0 ≡ 4 → ⊥) → (get_or s at 0 ≡ 5 → ⊥) → Matched s at t from to false
      match_other n4 n5 =
          record {
            of = λ x r w e k. of_other (λ x r. Told (Describes x w) false) _ _ (omega arith) x r (sym (word s at p) ∙ e);
          }

    pub match_upto :
        get_or s at 0 ≡ 4 → {lo hi : ℕ} {b : Bool} → lo ≡ get_or s (at + 1) 0 → hi ≡ get_or s (at + 2) 0
        → Repeated s (at + 3) lo hi t from to b → Matched s at t from to b
    match_upto h {lo} {hi} {b} el eh m =
        record {
          of =
              λ x r w e k. of_upto (λ x r. Told (Describes x w) b) _ _ h
              (λ l n x r e.
              let a = word_of s (at + 1) l (n ∷ flat x r) e in
              let c = word_of s (at + 1 + 1) n (flat x r) a.2 in
              let z : at + 2 ≡ at + 1 + 1 = omega arith in
              let z' : at + 3 ≡ at + 1 + 1 + 1 = omega arith in
              let f : lo ≡ l = el ∙ a.1 in
              let g : hi ≡ n = eh ∙ (rw z c.1) in
              rw (← f, ← g) (m.of x r w (rw z' c.2) k))
              x r (sym (word s at p) ∙ e);
        }

    -- no more words than lo and one for each character are needed
    pub match_any :
        get_or s at 0 ≡ 5 → {lo hi : ℕ} {b : Bool} → lo ≡ get_or s (at + 1) 0 → hi ≡ lo + (to - from)
        → Repeated s (at + 2) lo hi t from to b → Matched s at t from to b
    match_any h {lo} {hi} {b} el eh m =
        record {
          of =
              λ x r w e k. of_any (λ x r. Told (Describes x w) b) _ _ h
              (λ l x r e.
              let a = word_of s (at + 1) l (flat x r) e in
              let z : at + 2 ≡ at + 1 + 1 = omega arith in
              let f : lo ≡ l = el ∙ a.1 in
              let g : lo + length w ≤ hi = let n = spells_chars t from to i w k in omega arith in
              rw (← f)
              (told (upto_any (Describes x) lo hi w)
              (λ d. upto_more (Describes x) lo (lo + length w) hi g w (any_upto (Describes x) lo w d))
              (m.of x r w (rw z a.2) k)))
              x r (sym (word s at p) ∙ e);
        }

  -- TIMES
  module _ (at : ℕ) where
    pub times_none : (lo hi : ℕ) → hi < lo → Repeated s at lo hi t from to false
    times_none lo hi h = record { of = λ x r w e k. fails (λ d. absurd (omega (arith, d.least, d.most))) }

    pub times_zero : (lo hi : ℕ) → lo ≤ hi → hi ≡ 0 → Repeated s at lo hi t from to (eqb from to)
    times_zero lo hi h z =
        record {
          of =
              λ x r w e k. told
              (λ n. record { count = 0; least = omega arith; most = zero-le; row = n })
              (λ d. let k : d.count ≡ 0 = omega (arith, d.most) in rw k at d.row)
              (empty_told w k);
        }

    -- the empty word, no times
    pub times_skip : (lo hi : ℕ) → lo ≡ 0 → from ≡ to → Repeated s at lo hi t from to true
    times_skip lo hi l z =
        record {
          of =
              λ x r w e k. holds
              (record { count = 0; least = omega arith; most = zero-le; row = spells_nil t from to i w k z });
        }

    -- the empty word some times is the empty word once
    pub times_empty :
        (lo hi : ℕ) → lo ≤ hi → (lo ≡ 0 → ⊥) → from ≡ to → {b : Bool} → Matched s at t from to b → Repeated s at lo hi t from to b
    times_empty lo hi h l z {b} m = record { of = λ x r w e k. go x w (spells_nil t from to i w k z) (m.of x r w e k) }
      where
        first : (P : List ℕ → Type 0) (n : ℕ) → lo ≤ n → Row P n [] → P []
        first P zero g r = absurd (omega arith)
        first P (suc n) g r = (join_nil r).0

        go : (x : Regexp) (w : List ℕ) → w ≡ [] → Told (Describes x w) b → Told (Times lo (upto hi) (Describes x) w) b
        go x w n d =
            rw n
            (told
            (λ p. record { count = hi; least = h; most = le_refl _; row = row_nil (Describes x) p hi })
            (λ y. first (Describes x) y.count y.least y.row)
            (rw n at d))

    -- a word that is not empty, at most once
    pub times_single :
        (lo hi : ℕ) → lo ≤ hi → hi ≡ 1 → (from ≡ to → ⊥) → {b : Bool} → Matched s at t from to b → Repeated s at lo hi t from to b
    times_single lo hi g h z {b} m =
        record {
          of =
              λ x r w e k. rw h
              (told (to_once (Describes x) lo (omega arith) w)
              (λ d.
              of_most_once (Describes x) w (λ n. z (nil_spells t from to i w k n))
              (record { count = d.count; least = zero-le; most = d.most; row = d.row }))
              (m.of x r w e k));
        }

    pub times_halves :
        (lo hi : ℕ) → lo ≤ hi → {b : Bool} → Joined s at (lo / 2) (hi / 2) at (lo - lo / 2) (hi - hi / 2) t from to b
        → Repeated s at lo hi t from to b
    times_halves lo hi h {b} j =
        let f : lo ≡ lo / 2 + (lo - lo / 2) = omega arith in
        let g : hi ≡ hi / 2 + (hi - hi / 2) = omega arith in
        record {
          of =
              λ x r w e k.
              subst (λ l. Told (Times l (upto hi) (Describes x) w) b) (sym f)
              (subst (λ k. Told (Times (lo / 2 + (lo - lo / 2)) (upto k) (Describes x) w) b) (sym g)
              (told (halves_join (Describes x) (lo / 2) (hi / 2) (lo - lo / 2) (hi - hi / 2) w)
              (halves_split (Describes x) (lo / 2) (hi / 2) (lo - lo / 2) (hi - hi / 2) (omega arith) (omega arith) w)
              (j.of x x r r w e e k)));
        }

    -- more words than are enough are never needed
    pub times_enough :
        (lo hi top : ℕ) → Enough lo hi (to - from) top → {b : Bool} → Repeated s at lo top t from to b → Repeated s at lo hi t from to b
    times_enough lo hi top g {b} m =
        record {
          of =
              λ x r w e k.
              let n = spells_chars t from to i w k in
              told
              (upto_more (Describes x) lo top hi g.within w)
              (λ d.
              ⊎_elim
              (λ j. upto_more (Describes x) lo hi top j w d)
              (λ j.
              upto_more (Describes x) lo (lo + length w) top (omega (arith, j)) w
              (any_upto (Describes x) lo w (upto_any (Describes x) lo hi w d)))
              g.all)
              (m.of x r w e k);
        }

-- what is matched is repeated once
pub once :
    {s t : List ℕ} {at from to : ℕ} {b : Bool} → Matched s at t from to b → Repeated s at 1 1 t from to b
once m =
    record { of = λ x r w e k. told (to_once (Describes x) 1 (le_refl _) w) (of_once (Describes x) w) (m.of x r w e k) }

-- PAIR
module _ (s t : List ℕ) (a l h a' l' h' from mid to : ℕ) where
  pub pair_both :
      {b b' : Bool} → Repeated s a l h t from mid b → b ≡ true → Repeated s a' l' h' t mid to b'
      → Paired s a l h a' l' h' t from mid to b'
  pair_both m e n =
      record {
        of =
            λ x y r r' u v p q j k. told (λ d. (told_true (m.of x r u p j) e, d)) (λ d. d.1) (n.of y r' v q k);
      }

  pub pair_none : {b : Bool} → Repeated s a l h t from mid b → b ≡ false → Paired s a l h a' l' h' t from mid to false
  pair_none m e = record { of = λ x y r r' u v p q j k. fails (λ d. told_false (m.of x r u p j) e d.0) }

-- CUTS: the text of from..to is cut at i, and no cut before that is one of P and Q
pub record Going (t : List ℕ) (to i : ℕ) (w : List ℕ) (P Q : List ℕ → Type 0) : Type 0 where
  pub fore : List ℕ
  pub back : List ℕ
  pub eq : w ≡ fore ++ back
  pub rest : Spells t i to back
  pub none : (u v : List ℕ) → w ≡ u ++ v → length u < length fore → P u → Q v → ⊥

pub record Tried (s t : List ℕ) (a l h a' l' h' from to i : ℕ) : Type 0 where
  pub low : from ≤ i
  pub high : i ≤ to
  pub of :
      (x y : Regexp) (r r' w : List ℕ) → drop a s ≡ flat x r → drop a' s ≡ flat y r' → Spells t from to w
      → Going t to i w (Times l (upto h) (Describes x)) (Times l' (upto h') (Describes y))

-- no cut up to the one at i
none_more :
    (P Q : List ℕ → Type 0) (w f k : List ℕ) → w ≡ f ++ k
    → ((u v : List ℕ) → w ≡ u ++ v → length u < length f → P u → Q v → ⊥) → (P f × Q k → ⊥) → (u v : List ℕ) → w ≡ u ++ v
    → length u ≤ length f → P u → Q v → ⊥
none_more P Q w f k e n z u v q h a b = go (eqb (length u) (length f)) refl
  where
    go : (c : Bool) → eqb (length u) (length f) ≡ c → ⊥
    go true c =
        let y = append_same u v f k (sym q ∙ e) (eqb-true (length u) (length f) c) in
        z (subst P y.0 a, subst Q y.1 b)
    go false c = n u v q (omega (arith, eqb-false (length u) (length f) c)) a b

module _ (s t : List ℕ) (a l h a' l' h' from to : ℕ) (o : Inside t from to) where
  pub tried_start : Tried s t a l h a' l' h' from to from
  tried_start =
      record {
        low = omega arith;
        high = o.order;
        of =
            λ x y r r' w p q k.
            record { fore = []; back = w; eq = refl; rest = k; none = λ u v e j d f. absurd (omega arith) };
      }

  -- what the pair at i says of the cut there
  at_cut :
      {i : ℕ} {b : Bool} → Tried s t a l h a' l' h' from to i → Paired s a l h a' l' h' t from i to b
      → (x y : Regexp) (r r' w : List ℕ) → drop a s ≡ flat x r → drop a' s ≡ flat y r' → Spells t from to w
      → (g : Going t to i w (Times l (upto h) (Describes x)) (Times l' (upto h') (Describes y)))
      → Told (Times l (upto h) (Describes x) g.fore × Times l' (upto h') (Describes y) g.back) b
  at_cut {i} k n x y r r' w p q f g =
      n.of x y r r' g.fore g.back p q
      (front_spells t from to o i k.low k.high g.fore g.back (f ∙ ap encode_all g.eq) g.rest) g.rest

  pub tried_more :
      (i : ℕ) {b : Bool} {next c : ℕ} → Tried s t a l h a' l' h' from to i → i < to → Paired s a l h a' l' h' t from i to b
      → b ≡ false → Stands t i to next c → Tried s t a l h a' l' h' from to next
  tried_more i {b} {next} {c} k m n z j =
      record {
        low = omega (arith, k.low, j.after);
        high = j.within;
        of =
            λ x y r r' w p q f.
            let g = k.of x y r r' w p q f in
            let d = at_cut k n x y r r' w p q f g in
            go (Times l (upto h) (Describes x)) (Times l' (upto h') (Describes y)) w g (told_false d z);
      }
    where
      go :
          (P Q : List ℕ → Type 0) (w : List ℕ) (g : Going t to i w P Q) → (P g.fore × Q g.back → ⊥) → Going t to next w P Q
      go P Q w g no' = by g.back g.eq g.rest no'
        where
          by :
              (k : List ℕ) → w ≡ g.fore ++ k → Spells t i to k → (P g.fore × Q k → ⊥) → Going t to next w P Q
          by [] e y n = absurd (let u = slice_nil t i to (omega arith) o.end (y ∙ encode_all_none) in omega arith)
          by (d ∷ k) e y n =
              let v = length-append g.fore (d ∷ []) in
              record {
                fore = g.fore ++ (d ∷ []);
                back = k;
                eq = e ∙ sym (append_assoc g.fore (d ∷ []) k);
                rest = (j.of d (encode_all k) (y ∙ encode_all_cons d k)).1;
                none = λ u z q m. none_more P Q w g.fore (d ∷ k) e g.none n u z q (omega arith);
              }

  pub tried_found :
      (i : ℕ) {b : Bool} → Tried s t a l h a' l' h' from to i → Paired s a l h a' l' h' t from i to b → b ≡ true
      → Joined s a l h a' l' h' t from to true
  tried_found i k n z =
      record {
        of =
            λ x y r r' w p q f.
            let g = k.of x y r r' w p q f in
            let d = told_true (at_cut k n x y r r' w p q f g) z in
            holds (record { fore = g.fore; back = g.back; eq = g.eq; is_fore = d.0; is_back = d.1 });
      }

  -- the last cut is at the end
  pub tried_last :
      (i : ℕ) {b : Bool} → Tried s t a l h a' l' h' from to i → to ≤ i → Paired s a l h a' l' h' t from to to b
      → Joined s a l h a' l' h' t from to b
  tried_last i {b} k m n =
      let e : i ≡ to = omega (arith, k.high) in
      let k' : Tried s t a l h a' l' h' from to to = rw e at k in
      record { of = λ x y r r' w p q f. go k' x y r r' w p q f (k'.of x y r r' w p q f) }
    where
      go :
          Tried s t a l h a' l' h' from to to
          → (x y : Regexp) (r r' w : List ℕ) → drop a s ≡ flat x r → drop a' s ≡ flat y r' → Spells t from to w
          → Going t to to w (Times l (upto h) (Describes x)) (Times l' (upto h') (Describes y))
          → Told (Join (Times l (upto h) (Describes x)) (Times l' (upto h') (Describes y)) w) b
      go k' x y r r' w p q f g =
          let all : length w ≡ length g.fore + length g.back = ap length g.eq ∙ length-append g.fore g.back in
          let end : g.back ≡ [] = encode_all_nil g.back (sym g.rest ∙ slice_empty to t) in
          let last : length g.back ≡ 0 = ap length end in
          by (at_cut k' n x y r r' w p q f g)
          (λ no' j.
          let c = length-append j.fore j.back in
          let c' = ap length j.eq in
          none_more (Times l (upto h) (Describes x)) (Times l' (upto h') (Describes y)) w g.fore g.back g.eq g.none no'
          j.fore j.back j.eq (omega arith) j.is_fore j.is_back)
          (λ d. record { fore = g.fore; back = g.back; eq = g.eq; is_fore = d.0; is_back = d.1 })
        where
          by : {A B : Type 0} {b : Bool} → Told A b → ((A → ⊥) → B → ⊥) → (A → B) → Told B b
          by (holds p) f g = holds (g p)
          by (fails n) f g = fails (f n)
