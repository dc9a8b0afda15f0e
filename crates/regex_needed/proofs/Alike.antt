-- Which repeats have the same short texts. The laws hold for any set of words. Assumes nothing.
use mathlib.Core.Path.{◌≡◌, refl, ap, sym, ◌∙◌}
use mathlib.Core.Bool.{Bool, true, false}
use mathlib.Core.List.{List, [], ◌++◌, append-nil}
use mathlib.Core.Logic.{◌⊎◌, inl, inr, ⊎_elim}
use Prim.Native.Nat.{ℕ, zero, suc, min, ◌+◌, ◌-◌, ◌*◌, ◌≤◌, zero-le}
use native.Mathlib.Omega.{arith}
use native.Mathlib.Nat.{le_refl, mul-suc, mul_comm, mul-le-mul_left}
use borrow.Author.Tests.{leb-true, leb-false}
use lib.Dec.{leb}
use lib.ListN.{length}
use Rattle.regex_chars.specs.Laws.{fewer_chars}
use Rattle.regex_definition.specs.Words.{Join, Row, Times, Most, upto, any}
use Rattle.regex_definition.specs.Laws.{row_add, row_split}
use Rattle.regex_total.specs.Answers.{bytes}
use Rattle.regex_total.proofs.Count.{of_once, to_once, any_upto, upto_any, row_nil}
use Rattle.regex_total.proofs.Lengths.{join_bytes, row_least}
use Rattle.regex_needed.specs.Needed.{Alike, Endless}
use Rattle.regex_needed.specs.Needed.Endless.{zero as from-none, some as from_some}

module _ (P : List ℕ → Type 0) where
  -- empty words fill up a row
  padded : P [] → (k m : ℕ) (w : List ℕ) → Row P k w → Row P (k + m) w
  padded p k m w r =
      row_add P k m w (record { fore = w; back = []; eq = sym (append-nil w); is_fore = r; is_back = row_nil P p m })

  more : P [] → (lo k : ℕ) (w : List ℕ) → Row P k w → (m : ℕ) × (lo ≤ m) × (m ≤ k + (lo - k)) × Row P m w
  more p lo k w r = (k + (lo - k), omega arith, le_refl _, padded p k (lo - k) w r)

  -- rows of rows are a row, and a row is one of rows
  flatten : (a k : ℕ) (w : List ℕ) → Row (Times 0 (upto a) P) k w → (m : ℕ) × (m ≤ a * k) × Row P m w
  flatten a zero w r = (0, zero-le, r)
  flatten a (suc k) w j =
      let t = j.is_fore in
      let i = flatten a k j.back j.is_back in
      let e = mul-suc a k in (
        t.count + i.0,
        omega (arith, i.1, t.most),
        row_add P t.count i.0 w (record { fore = j.fore; back = j.back; eq = j.eq; is_fore = t.row; is_back = i.2 }),
      )

  spread : (a h m : ℕ) (w : List ℕ) → m ≤ a * h → Row P m w → Row (Times 0 (upto a) P) h w
  spread a zero zero w l r = r
  spread a zero (suc m) w l r = absurd (omega arith)
  spread a (suc h) m w l r =
      let e = mul-suc a h in
      let b = min m a in
      let z : m ≡ b + (m - b) = omega arith in
      let j = row_split P b (m - b) w (rw z at r) in
      record {
        fore = j.fore;
        back = j.back;
        eq = j.eq;
        is_fore = record { count = b; least = zero-le; most = omega arith; row = j.is_fore };
        is_back = spread a h (m - b) j.back (omega arith) j.is_back;
      }

module _ {n : ℕ} where
  pub alike_same : {P : List ℕ → Type 0} → Alike n P P
  alike_same = record { forth = λ w h p. p; back = λ w h p. p }

  pub alike_on : {P Q R : List ℕ → Type 0} → Alike n P Q → Alike n Q R → Alike n P R
  alike_on a b = record { forth = λ w h p. b.forth w h (a.forth w h p); back = λ w h p. a.back w h (b.back w h p) }

  pub alike_back : {P Q : List ℕ → Type 0} → Alike n P Q → Alike n Q P
  alike_back a = record { forth = a.back; back = a.forth }

  -- parts of a short word are short
  join_to :
      {P Q R S : List ℕ → Type 0} → ((w : List ℕ) → bytes w ≤ n → P w → R w) → ((w : List ℕ) → bytes w ≤ n → Q w → S w)
      → (w : List ℕ) → bytes w ≤ n → Join P Q w → Join R S w
  join_to f g w h j =
      let l = join_bytes w j in
      record {
        fore = j.fore;
        back = j.back;
        eq = j.eq;
        is_fore = f j.fore (omega arith) j.is_fore;
        is_back = g j.back (omega arith) j.is_back;
      }

  pub alike_join : {P Q R S : List ℕ → Type 0} → Alike n P R → Alike n Q S → Alike n (Join P Q) (Join R S)
  alike_join a b = record { forth = join_to a.forth b.forth; back = join_to a.back b.back }

  pub alike_sum :
      {P Q R S : List ℕ → Type 0} → Alike n P R → Alike n Q S → Alike n (λ w. P w ⊎ Q w) (λ w. R w ⊎ S w)
  alike_sum a b =
      record {
        forth = λ w h. ⊎_elim (λ p. inl (a.forth w h p)) (λ p. inr (b.forth w h p));
        back = λ w h. ⊎_elim (λ p. inl (a.back w h p)) (λ p. inr (b.back w h p));
      }

  row_to :
      {P Q : List ℕ → Type 0} → ((w : List ℕ) → bytes w ≤ n → P w → Q w) → (k : ℕ) (w : List ℕ) → bytes w ≤ n → Row P k w
      → Row Q k w
  row_to f zero w h r = r
  row_to f (suc k) w h r = join_to f (λ u l a. row_to f k u l a) w h r

  pub alike_times : {P Q : List ℕ → Type 0} {lo : ℕ} {hi : Most} → Alike n P Q → Alike n (Times lo hi P) (Times lo hi Q)
  alike_times a =
      record {
        forth = λ w h t. record { count = t.count; least = t.least; most = t.most; row = row_to a.forth t.count w h t.row };
        back = λ w h t. record { count = t.count; least = t.least; most = t.most; row = row_to a.back t.count w h t.row };
      }

  module _ (P : List ℕ → Type 0) where
    pub alike_once : Alike n (Times 1 (upto 1) P) P
    alike_once = record { forth = λ w h t. of_once P w t; back = λ w h p. to_once P 1 (le_refl _) w p }

    -- nothing behind a word
    pub alike_end : Alike n (Join P (λ w. w ≡ [])) P
    alike_end =
        record {
          forth = λ w h j. let e : w ≡ j.fore = j.eq ∙ ap (λ l. j.fore ++ l) j.is_back ∙ append-nil j.fore in rw e j.is_fore;
          back = λ w h p. record { fore = w; back = []; eq = sym (append-nil w); is_fore = p; is_back = refl };
        }

    -- words that are all too long are none
    pub alike_none : (Q : List ℕ → Type 0) → ((w : List ℕ) → bytes w ≤ n → P w → ⊥) → ((w : List ℕ) → Q w → ⊥) → Alike n P Q
    alike_none Q f g = record { forth = λ w h p. absurd (f w h p); back = λ w h q. absurd (g w q) }

    -- where the empty word is one of them, as few as you like are enough
    pub alike_needed : (lo hi : ℕ) → lo ≤ hi → P [] → Alike n (Times lo (upto hi) P) (Times 0 (upto hi) P)
    alike_needed lo hi h p =
        record {
          forth = λ w b t. record { count = t.count; least = zero-le; most = t.most; row = t.row };
          back =
              λ w b t.
              let m = more P p lo t.count w t.row in
              record { count = m.0; least = m.1; most = omega (arith, m.2, t.most); row = m.3 };
        }

    pub alike_needed_any : (lo : ℕ) → P [] → Alike n (Times lo any P) (Times 0 any P)
    alike_needed_any lo p =
        record {
          forth = λ w b t. record { count = t.count; least = zero-le; most = tt; row = t.row };
          back =
              λ w b t.
              let m = more P p lo t.count w t.row in
              record { count = m.0; least = m.1; most = tt; row = m.3 };
        }

    -- up to h times up to a words are up to h * a
    pub alike_fold :
        (lo hi a : ℕ) → lo ≤ hi → Alike n (Times lo (upto hi) (Times 0 (upto a) P)) (Times 0 (upto (hi * a)) P)
    alike_fold lo hi a h =
        record {
          forth =
              λ w b t.
              let f = flatten P a t.count w t.row in
              let g = mul-le-mul_left a t.most in
              let e = mul_comm hi a in
              record { count = f.0; least = zero-le; most = omega (arith, f.1); row = f.2 };
          back =
              λ w b t.
              let e = mul_comm hi a in
              record { count = hi; least = h; most = le_refl _; row = spread P a hi t.count w (omega (arith, t.most)) t.row };
        }

    -- no more words than bytes are needed
    pub alike_few : (h : ℕ) → Alike n (Times 0 (upto h) P) (Times 0 (upto (min h n)) P)
    alike_few h =
        record {
          forth =
              λ w b t.
              let f = any_upto P 0 w (upto_any P 0 h w t) in
              let l = fewer_chars w in
              pick w t f (omega (arith, f.most));
          back = λ w b t. record { count = t.count; least = zero-le; most = omega (arith, t.most); row = t.row };
        }
      where
        pick :
            (w : List ℕ) → Times 0 (upto h) P w → (f : Times 0 (upto (0 + length w)) P w) → f.count ≤ n → Times 0 (upto (min h n)) P w
        pick w t f l = go (leb h n) refl
          where
            go : (b : Bool) → leb h n ≡ b → Times 0 (upto (min h n)) P w
            go true e = let k = leb-true h n e in record { count = t.count; least = zero-le; most = omega (arith, t.most); row = t.row }
            go false e = let k = leb-false h n e in record { count = f.count; least = zero-le; most = omega arith; row = f.row }

    pub alike_endless :
        (lo hi m : ℕ) → ((u : List ℕ) → P u → m ≤ bytes u) → Endless lo hi m n → Alike n (Times lo (upto hi) P) (Times lo any P)
    alike_endless lo hi m f (from-none e l) =
        record {
          forth = λ w b t. upto_any P lo hi w t;
          back =
              λ w b t.
              let g = any_upto P lo w t in
              let c = fewer_chars w in
              record { count = g.count; least = g.least; most = omega (arith, g.most); row = g.row };
        }
    alike_endless lo hi m f (from_some o l) =
        record {
          forth = λ w b t. upto_any P lo hi w t;
          back =
              λ w b t.
              let g = row_least P m f t.count w t.row in
              record { count = t.count; least = t.least; most = within t.count (omega arith); row = t.row };
        }
      where
        within : (k : ℕ) → m * k ≤ n → k ≤ hi
        within k g = go (leb k hi) refl
          where
            go : (b : Bool) → leb k hi ≡ b → k ≤ hi
            go true e = leb-true k hi e
            go false e =
                let i : suc hi ≤ k = omega (arith, leb-false k hi e) in
                let j = mul-le-mul_left m i in
                let z = mul-suc m hi in
                absurd (omega arith)
