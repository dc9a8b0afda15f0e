-- From state to state over the characters of a text. Assumes nothing.
use mathlib.Core.Path.{◌≡◌, refl, ap, sym, ◌∙◌, subst}
use mathlib.Core.Bool.{Bool, true, false}
use mathlib.Core.List.{List, [], ◌∷◌, ◌++◌, append-nil, append_assoc}
use mathlib.Core.Logic.{inl, inr, ⊎_elim}
use Prim.Native.Nat.{ℕ, ◌≤◌, ◌<◌}
use native.Mathlib.Omega.{arith}
use lib.Dec.{eqb}
use borrow.Author.Tests.{eqb-true, eq-eqb}
use lib.ListN.{length, get_or, drop_of_length-le}
use lib.Seq.{slice}
use Rattle.definition.specs.Utf8.{encode_all}
use Rattle.regex_definition.specs.Words.{Told, holds, fails}
use Rattle.regex_definition.specs.Regexp.{Regexp, Describes}
use Rattle.regex_definition.specs.Agree.{told}
use Rattle.regex_code.specs.Flat.{flat}
use Rattle.regex_chars.specs.Chars.{Stands}
use Rattle.regex_chars.specs.Laws.{slice_end, slice_nil, encode_all_none, encode_all_cons, encode_all_nil}
use Rattle.regex_chars.proofs.Bytes.{stands_one}
use Rattle.regex_marks.specs.Marks.{Rest, Good}
use Rattle.regex_marks.specs.Moves.{Moved}
use Rattle.regex_marks.specs.Runs.{Reading}
use Rattle.regex_states.specs.States.{After, Leads, Settles}
use Rattle.regex_states.specs.Ready.{marks_of, count, Tables}
use Rattle.regex_states.specs.Texts.{Along, Reached, Trail, start, more}

-- a move of the marks leads to any state but the start
pub leads_by :
    {x : Regexp} {ms ms' : List ℕ} {c n : ℕ} {e v w : Bool} (k t : ℕ) → (t ≡ 1 → ⊥) → Moved x 0 ms ms' (eqb k 1) c n e v w
    → Leads x c k ms t ms'
leads_by k t f m =
    record {
      forth = λ w a. inr (m.turn.forth w (⊎_elim (λ p. inl (eq-eqb k 1 p.0, p.1)) inr a));
      back =
          λ w a. ⊎_elim (λ p. absurd (f p.0)) (λ r. ⊎_elim (λ p. inl (eqb-true k 1 p.0, p.1)) inr (m.turn.back w r)) a;
    }

pub leads_other :
    {x : Regexp} {ms ms' : List ℕ} {c k : ℕ} (t : ℕ) → (t ≡ 1 → ⊥) → Leads x c k ms 2 ms' → Leads x c k ms t ms'
leads_other t f m =
    record {
      forth = λ w a. ⊎_elim (λ p. absurd (omega (arith, p.0))) inr (m.forth w a);
      back = λ w a. m.back w (⊎_elim (λ p. absurd (f p.0)) inr a);
    }

-- what the marks tell is told of any state but the start
pub told_by : (x : Regexp) (ms : List ℕ) {b : Bool} (t : ℕ) → (t ≡ 1 → ⊥) → Told (Rest x 0 ms []) b → Told (After x t ms []) b
told_by x ms t f r = told inr (⊎_elim (λ p. absurd (f p.0)) (λ q. q)) r

-- the start has read nothing
pub along_start :
    {x : Regexp} {cs t ms : List ℕ} → ((w : List ℕ) → Rest x 0 ms w → ⊥) → t ≡ encode_all cs → Along x cs t 0 1 ms
along_start {x} {cs} {t} {ms} none u =
    record {
      done = [];
      left = cs;
      eq = refl;
      rest = slice_end t 0 ∙ u;
      forth = λ w h. ⊎_elim (λ k. k.1) (λ y. absurd (none w y)) h;
      back = λ w d. inl (refl, d);
    }

-- a character more
pub along_step :
    {x : Regexp} {cs t ms ms' : List ℕ} {i k next c k' : ℕ} → Along x cs t i k ms → i < length t → Stands t i (length t) next c
    → Leads x c k ms k' ms' → Along x cs t next k' ms'
along_step {x} {cs} {t} {ms} {ms'} {i} {k} {next} {c} {k'} d h st m = go d.left d.eq d.rest
  where
    go : (l : List ℕ) → cs ≡ d.done ++ l → slice i (length t) t ≡ encode_all l → Along x cs t next k' ms'
    go [] q r = let z = slice_nil t i (length t) (omega arith) (omega arith) (r ∙ encode_all_none) in absurd (omega arith)
    go (f ∷ l) q r =
        let o = st.of f (encode_all l) (r ∙ encode_all_cons f l) in
        let one_more : (u : List ℕ) → (d.done ++ (c ∷ [])) ++ u ≡ d.done ++ (c ∷ u) =
        λ u. append_assoc d.done (c ∷ []) u in
        record {
          done = d.done ++ (c ∷ []);
          left = l;
          eq = q ∙ ap (λ j. d.done ++ (j ∷ l)) (sym o.0) ∙ sym (append_assoc d.done (c ∷ []) l);
          rest = o.1;
          forth = λ u r. subst (Describes x) (sym (one_more u)) (d.forth (c ∷ u) (m.back u r));
          back = λ u r. m.forth u (d.back (c ∷ u) (subst (Describes x) (one_more u) r));
        }

-- what is told of the text read so far
along_told : {x : Regexp} {cs t ms : List ℕ} {i k : ℕ} {b : Bool} (d : Along x cs t i k ms) → Told (After x k ms []) b → Told (Describes x d.done) b
along_told {x} d r =
    told
    (λ a. subst (Describes x) (append-nil d.done) (d.forth [] a))
    (λ a. d.back [] (subst (Describes x) (sym (append-nil d.done)) a))
    r

pub along_end :
    {x : Regexp} {cs t ms : List ℕ} {i k : ℕ} {b : Bool} → Along x cs t i k ms → length t ≤ i → Told (After x k ms []) b
    → Told (Describes x cs) b
along_end {x} {cs} {t} {ms} {i} {k} {b} d h r =
    let n : encode_all d.left ≡ [] = sym d.rest ∙ slice_end t i ∙ drop_of_length-le t h in
    let l : cs ≡ d.done = d.eq ∙ ap (λ j. d.done ++ j) (encode_all_nil d.left n) ∙ append-nil d.done in
    subst (λ j. Told (Describes x j) b) (sym l) (along_told d r)

pub along_settled :
    {x : Regexp} {cs t ms : List ℕ} {i k : ℕ} {b : Bool} → Along x cs t i k ms → Told (After x k ms []) b → Settles x k ms b
    → Told (Describes x cs) b
along_settled {x} {cs} {t} {ms} {i} {k} {b} d r s = go b (along_told d r) s
  where
    go : (b : Bool) → Told (Describes x d.done) b → Settles x k ms b → Told (Describes x cs) b
    go true (holds p) s = holds (subst (Describes x) (sym d.eq) (s.grows refl d.done d.left p))
    go false (fails n) s = fails (λ q. s.dies refl d.left (d.back d.left (subst (Describes x) d.eq q)))

-- the marks may go on alone
pub along_read :
    {x : Regexp} {cs t ms : List ℕ} {i k : ℕ} {b : Bool} → Along x cs t i k ms → (k ≡ 1 → ⊥) → 0 < i → Good x 0 ms
    → Told (Rest x 0 ms []) b → Reading x cs t i ms b
along_read {x} {cs} {t} {ms} {i} {k} {b} d f h g r =
    record {
      done = d.done;
      left = d.left;
      eq = d.eq;
      rest = d.rest;
      good = g;
      told = along_told d (told_by x ms k f r);
      forth = λ w a. ⊎_elim (λ y. absurd (omega (arith, y.0))) (λ y. d.forth w (inr y)) a;
      back = λ w a. ⊎_elim (λ y. absurd (f y.0)) inr (d.back w a);
    }

-- known edges
module _ {s es ss t : List ℕ} (g : Tables s es ss) (i k : ℕ) (low : 1 ≤ k) (high : k < count ss) where
  pub trail_inside : {j m : ℕ} → Trail es t i k j m → (1 ≤ m) × (m < count ss)
  trail_inside start = (low, high)
  trail_inside (more {j} {m} r h b n) =
      let q = trail_inside r in
      let p = g.inside m (get_or t j 0) q.0 q.1 b in
      (omega (arith, n), p)

  along_trail :
      {x : Regexp} {cs : List ℕ} {j m : ℕ} → s ≡ flat x [] → Trail es t i k j m → Along x cs t i k (marks_of ss k)
      → Along x cs t j m (marks_of ss m)
  along_trail e start a = a
  along_trail {x} e (more {j} {m} r h b n) a =
      let q = trail_inside r in
      along_step (along_trail e r a) h (stands_one t j (length t) h (omega arith) refl b)
      ((g.of x e).edge m (get_or t j 0) q.0 q.1 b n)

  pub reached_trail : {j m : ℕ} → Trail es t i k j m → Reached s t ss i k → Reached s t ss j m
  reached_trail r a = record { of = λ x cs e u. along_trail e r (a.of x cs e u) }
