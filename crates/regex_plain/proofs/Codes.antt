-- What the words of a row of characters, and of a search for one, say of the expression. Assumes nothing.
use Prim.Native.Nat.{ℕ, zero, suc, ◌+◌, ◌-◌, ◌*◌, ◌≤◌, ◌<◌}
use mathlib.Core.Path.{◌≡◌, refl, ap, sym, ◌∙◌, subst}
use mathlib.Core.Bool.{Bool, true, false, and-eq-true_iff, or-false}
use mathlib.Core.List.{List, [], ◌∷◌, ◌++◌, append-nil, append_assoc}
use native.Mathlib.Numerals.{add-one}
use native.Mathlib.Omega.{arith}
use borrow.Author.Tests.{leb-true, le-leb}
use lib.Dec.{leb}
use lib.ListN.{length, drop, get_or}
use Rattle.regex_definition.specs.Chars.{within}
use Rattle.regex_definition.specs.Words.{Join, Times, any}
use Rattle.regex_definition.specs.Regexp.{Regexp, Range, then, One, Describes}
use Rattle.regex_definition.specs.Laws.{join, join_map, join_left, nil_join}
use Rattle.regex_definition.specs.Scope.{anything_all}
use Rattle.regex_code.specs.Flat.{flat, flag, flat_ranges, of_empty, of_class, of_then, of_any, word_of}
use Rattle.regex_code.specs.Skips.{Skips}
use Rattle.regex_plain.specs.Rows.{letters, Letter, Free, Every, Front, Past, Spelt, Row, Plainly, Sought, Open}
use Rattle.basics.specs.Lists.{drop_at as word}

-- one character more
letters_snoc : (s : List ℕ) (at n : ℕ) → letters s at (suc n) ≡ letters s at n ++ (get_or s (at + 6 * n + 4) 0 ∷ [])
letters_snoc s at zero =
    let z : at + 4 ≡ at + 6 * 0 + 4 = omega arith in
    ap (λ i. get_or s i 0 ∷ []) z
letters_snoc s at (suc n) =
    let z : at + 6 + 6 * n + 4 ≡ at + 6 * suc n + 4 = omega arith in
    ap (λ l. get_or s (at + 4) 0 ∷ l) (letters_snoc s (at + 6) n ∙ ap (λ i. letters s (at + 6) n ++ (get_or s i 0 ∷ [])) z)

-- the words from i on are those of one character, and the words P are this character
abbrev Single : List ℕ → ℕ → (List ℕ → Type 0) → List ℕ → Type 0
Single s i P r = (drop (i + 6) s ≡ r) × ((u : List ℕ) → P u → u ≡ get_or s (i + 4) 0 ∷ []) × P (get_or s (i + 4) 0 ∷ [])

-- x describes the words in which the n characters from 7 on stand
abbrev Says : List ℕ → ℕ → Regexp → Type 0
Says s n x =
    (w : List ℕ) → (Describes x w → Join Every (Front (letters s 7 n)) w) × (Join Every (Front (letters s 7 n)) w → Describes x w)

module _ (s : List ℕ) where
  pub spelt_start : (at : ℕ) → at ≤ length s → Spelt s at 0 at
  spelt_start at h =
      record {
        place = omega arith;
        fits = h;
        of =
            λ x r e.
            record {
              rest = x;
              is = e;
              forth = λ w d. nil_join w refl d;
              back = λ w j. subst (Describes x) (sym (j.eq ∙ ap (λ l. l ++ j.back) j.is_fore)) j.is_back;
            };
      }

  module _ (i : ℕ) (l : Letter s i) where
    -- a class of one character
    single :
        (comp : Bool) (gs : List Range) (r : List ℕ) → flag comp ≡ 0 → length gs ≡ 1 → drop (i + 4) s ≡ flat_ranges gs r
        → Single s i (One comp gs) r
    single true gs r f k e = absurd (omega arith)
    single false [] r f k e = absurd (omega arith)
    single false (g ∷ h ∷ gs) r f k e = absurd (omega arith)
    single false (g ∷ []) r f k e =
        let a = word_of s (i + 4) g.low (g.high ∷ r) e in
        let b = word_of s (i + 4 + 1) g.high r a.2 in
        let z : i + 5 ≡ i + 4 + 1 = omega arith in
        let z' : i + 6 ≡ i + 4 + 1 + 1 = omega arith in
        let high : get_or s (i + 5) 0 ≡ g.high = rw z b.1 in
        let only : g.low ≡ g.high = sym a.1 ∙ l.same ∙ high in (
          rw z' b.2,
          λ u o.
              let w : within g.low g.high o.char ≡ true = sym (or-false (within g.low g.high o.char)) ∙ o.hit in
              let v = (and-eq-true_iff (leb g.low o.char) (leb o.char g.high)).0 w in
              let x = leb-true g.low o.char v.0 in
              let y = leb-true o.char g.high v.1 in
              let q : o.char ≡ get_or s (i + 4) 0 = omega (arith, a.1) in
              o.eq ∙ ap (λ c. c ∷ []) q,
          record {
            char = get_or s (i + 4) 0;
            eq = refl;
            hit = rw (le-leb g.low (get_or s (i + 4) 0) (omega (arith, a.1)), le-leb (get_or s (i + 4) 0) g.high (omega (arith, a.1)));
          },
        )

    letter_class :
        (comp : Bool) (gs : List Range) (r : List ℕ) → drop (i + 1 + 1) s ≡ flag comp ∷ length gs ∷ flat_ranges gs r → Single s i (One comp gs) r
    letter_class comp gs r e =
        let a = word_of s (i + 1 + 1) (flag comp) (length gs ∷ flat_ranges gs r) e in
        let b = word_of s (i + 1 + 1 + 1) (length gs) (flat_ranges gs r) a.2 in
        let z : i + 2 ≡ i + 1 + 1 = omega arith in
        let z' : i + 3 ≡ i + 1 + 1 + 1 = omega arith in
        let z'' : i + 4 ≡ i + 1 + 1 + 1 + 1 = omega arith in
        let f : get_or s (i + 2) 0 ≡ flag comp = rw z a.1 in
        let k : get_or s (i + 3) 0 ≡ length gs = rw z' b.1 in
        single comp gs r (sym f ∙ l.comp) (sym k ∙ l.one) (rw z'' b.2)

    letter_describes : (y : Regexp) (r : List ℕ) → drop (i + 1) s ≡ flat y r → Single s i (Describes y) r
    letter_describes y r e =
        of_class (λ y r. Single s i (Describes y) r) _ _ l.cls letter_class y r (sym (word s (i + 1) (omega (arith, l.fits))) ∙ e)

    -- one character more of a row
    pub spelt_more : {at n : ℕ} → Spelt s at n i → Spelt s at (n + 1) (i + 6)
    spelt_more {at} {n} p =
        record { place = omega (arith, p.place); fits = l.fits; of = λ x r e. go x r (p.of x r e) }
      where
        last : letters s at (n + 1) ≡ letters s at n ++ (get_or s (i + 4) 0 ∷ [])
        last =
            let z : at + 6 * n + 4 ≡ i + 4 = omega (arith, p.place) in
            ap (letters s at) (add-one n) ∙ letters_snoc s at n ∙ ap (λ k. letters s at n ++ (get_or s k 0 ∷ [])) z

        step :
            (x y z : Regexp) (r : List ℕ) → Single s i (Describes y) (flat z r)
            → ((w : List ℕ) → Describes x w → Join (λ u. u ≡ letters s at n) (Describes (then y z)) w)
            → ((w : List ℕ) → Join (λ u. u ≡ letters s at n) (Describes (then y z)) w → Describes x w) → Past s at (n + 1) (i + 6) x r
        step x y z r d f g =
            record {
              rest = z;
              is = d.0;
              forth =
                  λ w k.
                  let j = join_left w (f w k) in
                  let b = j.is_fore in
                  record {
                    fore = j.fore;
                    back = j.back;
                    eq = j.eq;
                    is_fore =
                        b.eq ∙ ap (λ v. v ++ b.back) b.is_fore ∙ ap (λ v. letters s at n ++ v) (d.1 b.back b.is_back) ∙ sym last;
                    is_back = j.is_back;
                  };
              back =
                  λ w j.
                  g w
                  (record {
                    fore = letters s at n;
                    back = (get_or s (i + 4) 0 ∷ []) ++ j.back;
                    eq =
                        j.eq ∙ ap (λ v. v ++ j.back) (j.is_fore ∙ last)
                        ∙ append_assoc (letters s at n) (get_or s (i + 4) 0 ∷ []) j.back;
                    is_fore = refl;
                    is_back = join (get_or s (i + 4) 0 ∷ []) j.back d.2 j.is_back;
                  });
            }

        go : (x : Regexp) (r : List ℕ) → Past s at n i x r → Past s at (n + 1) (i + 6) x r
        go x r q =
            of_then
            (λ y r.
            ((w : List ℕ) → Describes x w → Join (λ u. u ≡ letters s at n) (Describes y) w)
            → ((w : List ℕ) → Join (λ u. u ≡ letters s at n) (Describes y) w → Describes x w) → Past s at (n + 1) (i + 6) x r)
            _ _ l.seq (λ y z r e. step x y z r (letter_describes y (flat z r) e)) q.rest r
            (sym (word s i (omega (arith, l.fits))) ∙ q.is) q.forth q.back

  -- the row ends where the empty expression stands
  pub row_end : {at n i : ℕ} → Spelt s at n i → i < length s → get_or s i 0 ≡ 0 → Plainly s at n (i + 1)
  row_end {at} {n} {i} p h z =
      record {
        place = omega (arith, p.place, p.fits);
        fits = omega arith;
        of = λ x r d. go x r z (p.of x r d);
      }
    where
      go : (x : Regexp) (r : List ℕ) → get_or s i 0 ≡ 0 → Past s at n i x r → Row s at n (i + 1) x r
      go x r z q =
          of_empty
          (λ y r.
          ((w : List ℕ) → Describes x w → Join (λ u. u ≡ letters s at n) (Describes y) w)
          → ((w : List ℕ) → Join (λ u. u ≡ letters s at n) (Describes y) w → Describes x w) → Row s at n (i + 1) x r)
          _ _ z
          (λ r e f g.
          record {
            behind = e;
            forth =
                λ w d.
                let j = f w d in
                j.eq ∙ ap (λ v. v ++ j.back) j.is_fore ∙ ap (λ v. letters s at n ++ v) j.is_back ∙ append-nil (letters s at n);
            back =
                g (letters s at n)
                (record { fore = letters s at n; back = []; eq = sym (append-nil (letters s at n)); is_fore = refl; is_back = refl });
          })
          q.rest r (sym (word s i h) ∙ q.is) q.forth q.back

  -- the words of any text
  free_any :
      (at : ℕ) → at + 5 ≤ length s → Free s at → (x : Regexp) (r : List ℕ) → drop at s ≡ flat x r
      → (drop (at + 5) s ≡ r) × ((w : List ℕ) → Describes x w)
  free_any at h l x r e =
      of_any (λ x r. (drop (at + 5) s ≡ r) × ((w : List ℕ) → Describes x w)) _ _ l.rep rep x r
      (sym (word s at (omega arith)) ∙ e)
    where
      every :
          (comp : Bool) (gs : List Range) (r : List ℕ) → flag comp ≡ 1 → length gs ≡ 0 → drop (at + 5) s ≡ flat_ranges gs r
          → (drop (at + 5) s ≡ r) × ((w : List ℕ) → Times 0 any (One comp gs) w)
      every false gs r f k e = absurd (omega arith)
      every true (g ∷ gs) r f k e = absurd (omega arith)
      every true [] r f k e = (e, anything_all)

      cls :
          (comp : Bool) (gs : List Range) (r : List ℕ) → drop (at + 1 + 1 + 1) s ≡ flag comp ∷ length gs ∷ flat_ranges gs r
          → (drop (at + 5) s ≡ r) × ((w : List ℕ) → Times 0 any (One comp gs) w)
      cls comp gs r e =
          let a = word_of s (at + 1 + 1 + 1) (flag comp) (length gs ∷ flat_ranges gs r) e in
          let b = word_of s (at + 1 + 1 + 1 + 1) (length gs) (flat_ranges gs r) a.2 in
          let z : at + 3 ≡ at + 1 + 1 + 1 = omega arith in
          let z' : at + 4 ≡ at + 1 + 1 + 1 + 1 = omega arith in
          let z'' : at + 5 ≡ at + 1 + 1 + 1 + 1 + 1 = omega arith in
          let f : get_or s (at + 3) 0 ≡ flag comp = rw z a.1 in
          let k : get_or s (at + 4) 0 ≡ length gs = rw z' b.1 in
          every comp gs r (sym f ∙ l.comp) (sym k ∙ l.few) (rw z'' b.2)

      rep :
          (lo : ℕ) (y : Regexp) (r : List ℕ) → drop (at + 1) s ≡ lo ∷ flat y r
          → (drop (at + 5) s ≡ r) × ((w : List ℕ) → Times lo any (Describes y) w)
      rep lo y r e =
          let a = word_of s (at + 1) lo (flat y r) e in
          let q : 0 ≡ lo = sym l.none ∙ a.1 in
          let z : at + 2 ≡ at + 1 + 1 = omega arith in
          let k : get_or s (at + 1 + 1) 0 ≡ 1 = ap (λ j. get_or s j 0) (sym z) ∙ l.cls in
          subst (λ j. (drop (at + 5) s ≡ r) × ((w : List ℕ) → Times j any (Describes y) w)) q
          (of_class (λ y r. (drop (at + 5) s ≡ r) × ((w : List ℕ) → Times 0 any (Describes y) w)) _ _ k cls y r
          (sym (word s (at + 1 + 1) (omega arith)) ∙ a.2))

  -- a search
  pub sought_row :
      {n i : ℕ} → 12 ≤ length s → get_or s 0 0 ≡ 2 → Free s 1 → get_or s 6 0 ≡ 2 → Plainly s 7 n i → length s - i ≡ 5
      → Free s i → Sought s n
  sought_row {n} {i} h z f k p m g =
      record { place = p.place; of = λ x q. first x [] (sym (word s 0 (omega arith)) ∙ q) }
    where
      says :
          (a b c : Regexp) (r r' : List ℕ) → ((w : List ℕ) → Describes a w) → Row s 7 n i b r' → ((w : List ℕ) → Describes c w)
          → Says s n (then a (then b c))
      says a b c r r' all row all' w = (
        join_map Every (Front (letters s 7 n)) (λ u d. tt)
            (λ u j. join_map (λ v. v ≡ letters s 7 n) Every row.forth (λ v d. tt) u j) w,
        join_map (Describes a) (Describes (then b c)) (λ u d. all u)
            (λ u j.
            join_map (Describes b) (Describes c) (λ v e. subst (Describes b) (sym e) row.back) (λ v d. all' v) u j) w,
      )

      second :
          (a y : Regexp) (r : List ℕ) → ((w : List ℕ) → Describes a w) → drop 6 s ≡ flat y r → Says s n (then a y)
      second a y r all q =
          of_then (λ y r. Says s n (then a y)) _ _ k
          (λ b c r d.
          let row = p.of b (flat c r) d in
          says a b c r (flat c r) all row (free_any i (omega arith) g c r row.behind).1)
          y r (sym (word s 6 (omega arith)) ∙ q)

      first : (x : Regexp) (r : List ℕ) → get_or s 0 0 ∷ drop 1 s ≡ flat x r → Says s n x
      first x r q =
          of_then (λ x r. Says s n x) _ _ z
          (λ a y r d. let b = free_any 1 (omega arith) f a (flat y r) d in second a y r b.1 b.0) x r q

  -- an expression that ends in any text
  pub open_end_lem :
      {a b : ℕ} → 5 ≤ length s → get_or s 0 0 ≡ 2 → Skips s 1 a → a < length s → get_or s a 0 ≡ 2 → Skips s (a + 1) b
      → length s - 5 ≡ b → Free s b → Open s
  open_end_lem {a} {b} h z k l m n o f = record { of = λ x q. first x [] (sym (word s 0 (omega arith)) ∙ q) }
    where
      grown :
          (p y g : Regexp) → ((w : List ℕ) → Describes g w) → (u v : List ℕ) → Describes (then p (then y g)) u
          → Describes (then p (then y g)) (u ++ v)
      grown p y g all u v j =
          let i = j.is_back in
          record {
            fore = j.fore;
            back = j.back ++ v;
            eq = ap (λ t. t ++ v) j.eq ∙ append_assoc j.fore j.back v;
            is_fore = j.is_fore;
            is_back =
                record {
                  fore = i.fore;
                  back = i.back ++ v;
                  eq = ap (λ t. t ++ v) i.eq ∙ append_assoc i.fore i.back v;
                  is_fore = i.is_fore;
                  is_back = all (i.back ++ v);
                };
          }

      second :
          (p q : Regexp) (r : List ℕ) → drop a s ≡ flat q r → (u v : List ℕ) → Describes (then p q) u → Describes (then p q) (u ++ v)
      second p q r e =
          of_then (λ q r. (u v : List ℕ) → Describes (then p q) u → Describes (then p q) (u ++ v)) _ _ m
          (λ y g r d. grown p y g (free_any b (omega arith) f g r (n.rest y (flat g r) d)).1) q r (sym (word s a l) ∙ e)

      first : (x : Regexp) (r : List ℕ) → get_or s 0 0 ∷ drop 1 s ≡ flat x r → (u v : List ℕ) → Describes x u → Describes x (u ++ v)
      first x r e =
          of_then (λ x r. (u v : List ℕ) → Describes x u → Describes x (u ++ v)) _ _ z
          (λ p q r d. second p q r (k.rest p (flat q r) d)) x r e
