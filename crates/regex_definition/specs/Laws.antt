-- Laws of sets of words: what a first character leaves of a Join, a Row and a Times. They hold for any sets, so no
-- expression stands here. Assumes nothing.
use Rattle.std.specs.Prelude.{◌≡◌, refl, List, [], ◌∷◌, ◌++◌, ◌⊎◌, ℕ, zero, suc, ◌+◌, ◌-◌}
use Rattle.std.proofs.Common.{ap, sym, ◌∙◌, subst, append_assoc, inl, inr, ⊎_elim, zero-le, arith, zero-add, suc-add}
use Rattle.regex_definition.specs.Words.{Join, Row, Times, any}

module _ {P Q : List ℕ → Type 0} where
  pub join : (u v : List ℕ) → P u → Q v → Join P Q (u ++ v)
  join u v a b = record { fore = u; back = v; eq = refl; is_fore = a; is_back = b }

  pub join_nil : Join P Q [] → P [] × Q []
  join_nil j = go j.fore j.back j.eq j.is_fore j.is_back
    where
      go : (u v : List ℕ) → [] ≡ u ++ v → P u → Q v → P [] × Q []
      go [] v e a b = (a, rw e b)
      go (d ∷ u) v e a b = absurd (let z : ◌≡◌ {A = ℕ} 0 1 = cc in omega arith)

  pub join_cons : (c : ℕ) (w : List ℕ) → Join P Q (c ∷ w) → (P [] × Q (c ∷ w)) ⊎ Join (λ u. P (c ∷ u)) Q w
  join_cons c w j = go j.fore j.back j.eq j.is_fore j.is_back
    where
      go : (u v : List ℕ) → c ∷ w ≡ u ++ v → P u → Q v → (P [] × Q (c ∷ w)) ⊎ Join (λ u. P (c ∷ u)) Q w
      go [] v e a b = inl (a, rw e b)
      go (d ∷ u) v e a b =
          let h : c ≡ d = cc in
          inr (record { fore = u; back = v; eq = cc; is_fore = subst (λ k. P (k ∷ u)) (sym h) a; is_back = b })

  pub cons_join : (c : ℕ) (w : List ℕ) → Join (λ u. P (c ∷ u)) Q w → Join P Q (c ∷ w)
  cons_join c w j =
      record { fore = c ∷ j.fore; back = j.back; eq = ap (λ l. c ∷ l) j.eq; is_fore = j.is_fore; is_back = j.is_back }

  pub nil_join : (w : List ℕ) → P [] → Q w → Join P Q w
  nil_join w a b = record { fore = []; back = w; eq = refl; is_fore = a; is_back = b }

module _ {P Q : List ℕ → Type 0} (R S : List ℕ → Type 0) where
  pub join_map : ((u : List ℕ) → P u → R u) → ((u : List ℕ) → Q u → S u) → (w : List ℕ) → Join P Q w → Join R S w
  join_map f g w j =
      record { fore = j.fore; back = j.back; eq = j.eq; is_fore = f j.fore j.is_fore; is_back = g j.back j.is_back }

-- (P Q) R is P (Q R)
module _ {P Q R : List ℕ → Type 0} where
  pub join_right : (w : List ℕ) → Join (Join P Q) R w → Join P (Join Q R) w
  join_right w j =
      let i = j.is_fore in
      record {
        fore = i.fore;
        back = i.back ++ j.back;
        eq = j.eq ∙ ap (λ l. l ++ j.back) i.eq ∙ append_assoc i.fore i.back j.back;
        is_fore = i.is_fore;
        is_back = join i.back j.back i.is_back j.is_back;
      }

  pub join_left : (w : List ℕ) → Join P (Join Q R) w → Join (Join P Q) R w
  join_left w j =
      let i = j.is_back in
      record {
        fore = j.fore ++ i.fore;
        back = i.back;
        eq = j.eq ∙ ap (λ l. j.fore ++ l) i.eq ∙ sym (append_assoc j.fore i.fore i.back);
        is_fore = join j.fore i.fore j.is_fore i.is_fore;
        is_back = i.is_back;
      }

-- m and n words in a row are m + n
module _ (P : List ℕ → Type 0) where
  pub row_add : (m n : ℕ) (w : List ℕ) → Join (Row P m) (Row P n) w → Row P (m + n) w
  row_add zero n w j =
      let h : w ≡ j.back = j.eq ∙ ap (λ l. l ++ j.back) j.is_fore in
      rw (zero-add n, h) j.is_back
  row_add (suc m) n w j = rw (suc-add m n) (join_map P (Row P (m + n)) (λ u a. a) (λ u a. row_add m n u a) w (join_right w j))

  pub row_split : (m n : ℕ) (w : List ℕ) → Row P (m + n) w → Join (Row P m) (Row P n) w
  row_split zero n w r = nil_join w refl (rw zero-add at r)
  row_split (suc m) n w r =
      join_left w (join_map P (Join (Row P m) (Row P n)) (λ u a. a) (λ u a. row_split m n u a) w (rw suc-add at r))

  -- lo or more are lo, and then any number
  pub times_split : (lo : ℕ) (w : List ℕ) → Times lo any P w → Join (Row P lo) (Times 0 any P) w
  times_split lo w t =
      let h : t.count ≡ lo + (t.count - lo) = omega (arith, t.least) in
      join_map (Row P lo) (Times 0 any P) (λ u a. a) (λ u a. record { count = t.count - lo; least = zero-le; most = tt; row = a }) w
      (row_split lo (t.count - lo) w (rw h at t.row))

  pub times_join : (lo : ℕ) (w : List ℕ) → Join (Row P lo) (Times 0 any P) w → Times lo any P w
  times_join lo w j =
      let t = j.is_back in
      record {
        count = lo + t.count;
        least = omega arith;
        most = tt;
        row =
            row_add lo t.count w
            (record { fore = j.fore; back = j.back; eq = j.eq; is_fore = j.is_fore; is_back = t.row });
      }

  -- a word of any number of words begins with one that is not empty
  pub row_cons : (n : ℕ) (c : ℕ) (w : List ℕ) → Row P n (c ∷ w) → Join (λ u. P (c ∷ u)) (Times 0 any P) w
  row_cons zero c w r = absurd (let z : ◌≡◌ {A = ℕ} 0 1 = cc in omega arith)
  row_cons (suc n) c w r =
      ⊎_elim
      (λ a. row_cons n c w a.1)
      (λ j. join_map (λ u. P (c ∷ u)) (Times 0 any P) (λ u a. a) (λ u a. record { count = n; least = zero-le; most = tt; row = a }) w j)
      (join_cons c w r)

  pub star_cons : (c : ℕ) (w : List ℕ) → Times 0 any P (c ∷ w) → Join (λ u. P (c ∷ u)) (Times 0 any P) w
  star_cons c w t = row_cons t.count c w t.row

  pub cons_star : (c : ℕ) (w : List ℕ) → Join (λ u. P (c ∷ u)) (Times 0 any P) w → Times 0 any P (c ∷ w)
  cons_star c w j =
      let t = j.is_back in
      record {
        count = suc t.count;
        least = zero-le;
        most = tt;
        row =
            cons_join c w
            (record { fore = j.fore; back = j.back; eq = j.eq; is_fore = j.is_fore; is_back = t.row });
      }

  pub star_nil : Times 0 any P []
  star_nil = record { count = 0; least = zero-le; most = tt; row = refl }
