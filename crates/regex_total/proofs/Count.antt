-- Laws of counts of words in a row, for any set of words. Assumes nothing.
use mathlib.Core.Path.{◌≡◌, refl, ap, sym, ◌∙◌, subst}
use mathlib.Core.List.{List, [], ◌∷◌, ◌++◌, append-nil}
use Prim.Native.Nat.{ℕ, zero, suc, max, ◌+◌, ◌-◌, ◌≤◌, zero-le}
use native.Mathlib.Omega.{arith}
use native.Mathlib.Nat.{le_refl}
use lib.ListN.{length, length-append}
use Rattle.regex_definition.specs.Words.{Join, Row, Times, upto, any}
use Rattle.regex_definition.specs.Laws.{nil_join, join_map, row_add, row_split, times_split}

module _ (P : List ℕ → Type 0) where
  -- l + l' to h + h' words are l to h, and then l' to h'
  module _ (l h l' h' : ℕ) where
    pub halves_join : (w : List ℕ) → Join (Times l (upto h) P) (Times l' (upto h') P) w → Times (l + l') (upto (h + h')) P w
    halves_join w j =
        let a = j.is_fore in
        let b = j.is_back in
        record {
          count = a.count + b.count;
          least = omega (arith, a.least, b.least);
          most = omega (arith, a.most, b.most);
          row =
              row_add P a.count b.count w
              (record { fore = j.fore; back = j.back; eq = j.eq; is_fore = a.row; is_back = b.row });
        }

    pub halves_split :
        l ≤ h → l' ≤ h' → (w : List ℕ) → Times (l + l') (upto (h + h')) P w → Join (Times l (upto h) P) (Times l' (upto h') P) w
    halves_split p q w t =
        let n = t.count in
        let a = max l (n - h') in
        let b = n - a in
        let e : n ≡ a + b = omega (arith, t.least, t.most) in
        join_map (Times l (upto h) P) (Times l' (upto h') P)
        (λ u r. record { count = a; least = omega arith; most = omega (arith, t.most); row = r })
        (λ u r. record { count = b; least = omega (arith, t.least); most = omega (arith, t.most); row = r }) w
        (row_split P a b w (rw e at t.row))

  row_one : (w : List ℕ) → Row P 1 w → P w
  row_one w j =
      let e : w ≡ j.fore = j.eq ∙ ap (λ l. j.fore ++ l) j.is_back ∙ append-nil j.fore in
      subst P (sym e) j.is_fore

  pub once : (w : List ℕ) → P w → Row P 1 w
  once w p = record { fore = w; back = []; eq = sym (append-nil w); is_fore = p; is_back = refl }

  pub of_once : (w : List ℕ) → Times 1 (upto 1) P w → P w
  of_once w t = let e : t.count ≡ 1 = omega (arith, t.least, t.most) in row_one w (rw e at t.row)

  pub to_once : (lo : ℕ) → lo ≤ 1 → (w : List ℕ) → P w → Times lo (upto 1) P w
  to_once lo h w p = record { count = 1; least = h; most = le_refl _; row = once w p }

  -- at most once, of a word that is not empty
  pub of_most_once : (w : List ℕ) → (w ≡ [] → ⊥) → Times 0 (upto 1) P w → P w
  of_most_once w no' t = go t.count t.most t.row
    where
      go : (n : ℕ) → n ≤ 1 → Row P n w → P w
      go zero h r = absurd (no' r)
      go (suc zero) h r = row_one w r
      go (suc (suc n)) h r = absurd (omega arith)

  -- of any number of words, no more than the characters are needed
  fewer : (n : ℕ) (w : List ℕ) → Row P n w → (m : ℕ) × (m ≤ length w) × Row P m w
  fewer zero w r = (0, zero-le, r)
  fewer (suc n) w j = go j.fore j.back j.eq j.is_fore (fewer n j.back j.is_back)
    where
      go :
          (u v : List ℕ) → w ≡ u ++ v → P u → (m : ℕ) × (m ≤ length v) × Row P m v → (m : ℕ) × (m ≤ length w) × Row P m w
      go [] v e p k = (k.0, rw e k.1, rw e k.2)
      go (c ∷ u) v e p k =
          let z : length w ≡ suc (length u) + length v = ap length e ∙ length-append (c ∷ u) v in
          (suc k.0, omega (arith, k.1), record { fore = c ∷ u; back = v; eq = e; is_fore = p; is_back = k.2 })

  pub any_upto : (lo : ℕ) (w : List ℕ) → Times lo any P w → Times lo (upto (lo + length w)) P w
  any_upto lo w t =
      let j = times_split P lo w t in
      let s = j.is_back in
      let f = fewer s.count j.back s.row in
      let z : length w ≡ length j.fore + length j.back = ap length j.eq ∙ length-append j.fore j.back in
      record {
        count = lo + f.0;
        least = omega arith;
        most = omega (arith, f.1);
        row =
            row_add P lo f.0 w
            (record { fore = j.fore; back = j.back; eq = j.eq; is_fore = j.is_fore; is_back = f.2 });
      }

  pub upto_any : (lo h : ℕ) (w : List ℕ) → Times lo (upto h) P w → Times lo any P w
  upto_any lo h w t = record { count = t.count; least = t.least; most = tt; row = t.row }

  -- a higher upper end
  pub upto_more : (lo h h' : ℕ) → h ≤ h' → (w : List ℕ) → Times lo (upto h) P w → Times lo (upto h') P w
  upto_more lo h h' k w t = record { count = t.count; least = t.least; most = omega (arith, t.most); row = t.row }

  -- the empty word, n times
  pub row_nil : P [] → (n : ℕ) → Row P n []
  row_nil p zero = refl
  row_nil p (suc n) = nil_join [] p (row_nil p n)
