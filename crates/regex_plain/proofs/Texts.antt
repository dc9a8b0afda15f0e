-- A row of characters at the front of a text, and somewhere in it. Assumes nothing.
use Prim.Native.Nat.{ℕ, zero, suc, ◌+◌, ◌-◌, ◌*◌, ◌≤◌, ◌<◌}
use mathlib.Core.Path.{◌≡◌, refl, ap, sym, ◌∙◌, subst}
use mathlib.Core.Bool.{Bool, true, false}
use mathlib.Core.List.{List, [], ◌∷◌, ◌++◌, append-nil, append_assoc}
use mathlib.Core.Logic.{⊎_elim}
use native.Mathlib.Omega.{arith}
use lib.Dec.{eqb}
use lib.ListN.{length, drop, get_or, drop_of_length-le}
use lib.Seq.{drop-append_seam}
use Rattle.definition.specs.Utf8.{encode_all}
use Rattle.basics.specs.Lists.{not_cons}
use Rattle.regex_definition.specs.Words.{Join, Told, holds, fails}
use Rattle.regex_definition.specs.Regexp.{Describes}
use Rattle.regex_definition.specs.Laws.{join_cons, cons_join, nil_join, join_nil, join_map}
use Rattle.regex_definition.specs.Agree.{told}
use Rattle.regex_chars.specs.Chars.{Stands}
use Rattle.regex_chars.specs.Laws.{slice_end, slice_nil, nil_slice, encode_all_none, encode_all_cons, encode_all_nil, Spells}
use Rattle.regex_plain.specs.Rows.{letters, Every, Front, Begins, Differs, Whole, Found, Sought, Plainly, Known}
use Rattle.regex_code.specs.Tests.{eqb_told}

-- lists with one front that are equal go on alike
append_left : (u v k : List ℕ) → u ++ v ≡ u ++ k → v ≡ k
append_left u v k e = sym (drop-append_seam u v) ∙ ap (drop (length u)) e ∙ drop-append_seam u k

-- no empty text begins with a character, and a text that begins with one has it first
front_nil : (c : ℕ) (l : List ℕ) → Front (c ∷ l) [] → ⊥
front_nil c l j = not_cons (j.eq ∙ ap (λ u. u ++ j.back) j.is_fore)

front_cons : (c d : ℕ) (l w : List ℕ) → Front (c ∷ l) (d ∷ w) → d ≡ c
front_cons c d l w j = let e = j.eq ∙ ap (λ u. u ++ j.back) j.is_fore in first e
  where
    first : {v k : List ℕ} → d ∷ v ≡ c ∷ k → d ≡ c
    first e = cc

-- ---- the front of a text

-- done is compared, and what stands from p on and from i on is left
pub record Passed (s : List ℕ) (at n : ℕ) (t : List ℕ) (to p left i : ℕ) (w : List ℕ) : Type 0 where
  pub done : List ℕ
  pub rest : List ℕ
  pub eq : w ≡ done ++ rest
  pub all : letters s at n ≡ done ++ letters s p left
  pub spelt : Spells t i to rest

pub record Passing (s : List ℕ) (at n : ℕ) (t : List ℕ) (from to p left i : ℕ) : Type 0 where
  pub place : p + 6 * left ≤ length s
  pub within : i ≤ to
  pub of : (w : List ℕ) → Spells t from to w → Passed s at n t to p left i w

module _ (s : List ℕ) (at n : ℕ) (t : List ℕ) (from to : ℕ) (fits : to ≤ length t) where
  pub pass_start : at + 6 * n ≤ length s → from ≤ to → Passing s at n t from to at n from
  pass_start h o =
      record { place = h; within = o; of = λ w k. record { done = []; rest = w; eq = refl; all = refl; spelt = k } }

  module _ (p left i : ℕ) (q : Passing s at n t from to p left i) where
    pub pass_all : left ≤ 0 → Begins s at n t from to i
    pass_all h =
        record {
          within = q.within;
          yes =
              λ w k.
              let a = q.of w k in
              let z : left ≡ 0 = omega arith in
              record {
                fore = a.done;
                back = a.rest;
                eq = a.eq;
                is_fore = sym (a.all ∙ ap (λ m. a.done ++ letters s p m) z ∙ append-nil a.done);
                is_back = a.spelt;
              };
        }

    -- what is left of the characters would have to stand in front of what is left of the text
    ahead : (w : List ℕ) (a : Passed s at n t to p left i w) → Front (letters s at n) w → Front (letters s p left) a.rest
    ahead w a j =
        record {
          fore = letters s p left;
          back = j.back;
          eq =
              append_left a.done a.rest (letters s p left ++ j.back)
              (sym a.eq ∙ j.eq ∙ ap (λ u. u ++ j.back) (j.is_fore ∙ a.all) ∙ append_assoc a.done (letters s p left) j.back);
          is_fore = refl;
          is_back = tt;
        }

    module _ (more : 0 < left) where
      ahead_first : (w : List ℕ) (a : Passed s at n t to p left i w) → Front (letters s at n) w → Front (get_or s (p + 4) 0 ∷ letters s (p + 6) (left - 1)) a.rest
      ahead_first w a j =
          let z : left ≡ suc (left - 1) = omega arith in
          subst (λ m. Front (letters s p m) a.rest) z (ahead w a j)

      pub pass_short : i ≡ to → Differs s at n t from to
      pass_short h =
          record {
            not_so =
                λ w k j.
                let a = q.of w k in
                let z : a.rest ≡ [] = encode_all_nil a.rest (sym a.spelt ∙ nil_slice t i to h) in
                front_nil _ _ (subst (Front (get_or s (p + 4) 0 ∷ letters s (p + 6) (left - 1))) z (ahead_first w a j));
          }

      module _ (h : i ≡ to → ⊥) {next c : ℕ} (k : Stands t i to next c) where
        -- the next character of the text
        next_char : (r : List ℕ) → Spells t i to r → (v : List ℕ) × (r ≡ c ∷ v) × Spells t next to v
        next_char [] e = absurd (h (slice_nil t i to q.within fits (e ∙ encode_all_none)))
        next_char (d ∷ v) e =
            let o = k.of d (encode_all v) (e ∙ encode_all_cons d v) in
            (v, ap (λ m. m ∷ v) (sym o.0), o.1)

        pub pass_differ : (c ≡ get_or s (p + 4) 0 → ⊥) → Differs s at n t from to
        pass_differ f =
            record {
              not_so =
                  λ w y j.
                  let a = q.of w y in
                  let b = next_char a.rest a.spelt in
                  f (front_cons _ _ _ _ (subst (Front (get_or s (p + 4) 0 ∷ letters s (p + 6) (left - 1))) b.1 (ahead_first w a j)));
            }

        pub pass_more : c ≡ get_or s (p + 4) 0 → Passing s at n t from to (p + 6) (left - 1) next
        pass_more f = record { place = omega (arith, q.place); within = k.within; of = λ w y. go w (q.of w y) }
          where
            go : (w : List ℕ) → Passed s at n t to p left i w → Passed s at n t to (p + 6) (left - 1) next w
            go w a =
                let b = next_char a.rest a.spelt in
                let z : left ≡ suc (left - 1) = omega arith in
                record {
                  done = a.done ++ (c ∷ []);
                  rest = b.0;
                  eq = a.eq ∙ ap (λ r. a.done ++ r) b.1 ∙ sym (append_assoc a.done (c ∷ []) b.0);
                  all =
                      a.all ∙ ap (λ m. a.done ++ letters s p m) z
                      ∙ ap (λ m. a.done ++ (m ∷ letters s (p + 6) (left - 1))) (sym f)
                      ∙ sym (append_assoc a.done (c ∷ []) (letters s (p + 6) (left - 1)));
                  spelt = b.2;
                }

-- ---- the whole text

module _ (s : List ℕ) (at n : ℕ) (t : List ℕ) where
  pub whole_no : Differs s at n t 0 (length t) → Whole s at n t false
  whole_no b =
      record {
        of =
            λ w k. fails
            (λ h.
            b.not_so w (slice_end t 0 ∙ k)
            (record { fore = w; back = []; eq = sym (append-nil w); is_fore = h; is_back = tt }));
      }

  pub whole_yes : {next : ℕ} → Begins s at n t 0 (length t) next → Whole s at n t (eqb next (length t))
  whole_yes {next} b = record { of = λ w k. go w (b.yes w (slice_end t 0 ∙ k)) }
    where
      go : (w : List ℕ) → Join (λ u. u ≡ letters s at n) (Spells t next (length t)) w → Told (w ≡ letters s at n) (eqb next (length t))
      go w j =
          told
          (λ h.
          let z : j.back ≡ [] = encode_all_nil j.back (sym j.is_back ∙ nil_slice t next (length t) h) in
          j.eq ∙ ap (λ v. j.fore ++ v) z ∙ append-nil j.fore ∙ j.is_fore)
          (λ h.
          let z : j.back ≡ [] =
          append_left j.fore j.back [] (sym j.eq ∙ h ∙ sym j.is_fore ∙ sym (append-nil j.fore)) in
          slice_nil t next (length t) b.within (omega arith) (j.is_back ∙ ap encode_all z ∙ encode_all_none))
          (eqb_told next (length t))

-- ---- somewhere in the text

-- what is left from i on has the characters if and only if the whole text has them
pub record Left (l t : List ℕ) (i : ℕ) (w : List ℕ) : Type 0 where
  pub rest : List ℕ
  pub spelt : Spells t i (length t) rest
  pub forth : Join Every (Front l) w → Join Every (Front l) rest
  pub back : Join Every (Front l) rest → Join Every (Front l) w

pub record Hunting (l t : List ℕ) (i : ℕ) : Type 0 where
  pub within : i ≤ length t
  pub of : (w : List ℕ) → t ≡ encode_all w → Left l t i w

pub hunt_start : (l t : List ℕ) → Hunting l t 0
hunt_start l t =
    record { within = omega arith; of = λ w k. record { rest = w; spelt = slice_end t 0 ∙ k; forth = λ j. j; back = λ j. j } }

module _ (s : List ℕ) (at n : ℕ) (t : List ℕ) (i : ℕ) (q : Hunting (letters s at n) t i) where
  pub hunt_found : {end : ℕ} → Begins s at n t i (length t) end → Found s at n t true
  hunt_found b =
      record {
        of =
            λ w k.
            let a = q.of w k in
            holds
            (a.back
            (nil_join a.rest tt
            (join_map (λ u. u ≡ letters s at n) Every (λ u v. v) (λ u v. tt) a.rest (b.yes a.rest a.spelt))));
      }

  module _ (b : Differs s at n t i (length t)) where
    pub hunt_more : i < length t → {next c : ℕ} → Stands t i (length t) next c → Hunting (letters s at n) t next
    hunt_more h {next} {c} k = record { within = k.within; of = λ w y. go w (q.of w y) }
      where
        go : (w : List ℕ) → Left (letters s at n) t i w → Left (letters s at n) t next w
        go w a = by a.rest a.spelt a.forth a.back
          where
            by :
                (r : List ℕ) → Spells t i (length t) r → (Join Every (Front (letters s at n)) w → Join Every (Front (letters s at n)) r)
                → (Join Every (Front (letters s at n)) r → Join Every (Front (letters s at n)) w) → Left (letters s at n) t next w
            by [] y f g = absurd (let z = slice_nil t i (length t) q.within (omega arith) (y ∙ encode_all_none) in omega arith)
            by (d ∷ r) y f g =
                record {
                  rest = r;
                  spelt = (k.of d (encode_all r) (y ∙ encode_all_cons d r)).1;
                  forth =
                      λ j.
                      ⊎_elim (λ p. absurd (b.not_so (d ∷ r) y p.1)) (λ p. p) (join_cons d r (f j));
                  back = λ j. g (cons_join d r j);
                }

  -- at the end only no characters stand
  pub hunt_end : length t ≤ i → Found s at n t (eqb n 0)
  hunt_end h = record { of = λ w k. go w (q.of w k) }
    where
      none : (m : ℕ) → letters s at m ≡ [] → m ≡ 0
      none zero e = refl
      none (suc m) e = absurd (not_cons (sym e))

      go : (w : List ℕ) → Left (letters s at n) t i w → Told (Join Every (Front (letters s at n)) w) (eqb n 0)
      go w a =
          let z : a.rest ≡ [] = encode_all_nil a.rest (sym a.spelt ∙ slice_end t i ∙ drop_of_length-le t h) in
          told
          (λ y.
          a.back
          (nil_join a.rest tt (nil_join a.rest (sym (ap (letters s at) y)) tt)))
          (λ j.
          let f = (join_nil (subst (Join Every (Front (letters s at n))) z (a.forth j))).1 in
          none n (sym (join_nil f).0))
          (eqb_told n 0)

-- ---- the answers

pub known_search :
    (s t : List ℕ) {n : ℕ} {b : Bool} → Sought s n → Found s 7 n t b → Known s t b
known_search s t p f =
    record {
      of =
          λ x w q k.
          let a = p.of x q w in
          told a.1 a.0 (f.of w k);
    }

pub known_whole :
    (s t : List ℕ) {n next : ℕ} {b : Bool} → Plainly s 0 n next → Whole s 0 n t b → Known s t b
known_whole s t p f =
    record {
      of =
          λ x w q k.
          let a = p.of x [] q in
          told (λ h. subst (Describes x) (sym h) a.back) (a.forth w) (f.of w k);
    }
