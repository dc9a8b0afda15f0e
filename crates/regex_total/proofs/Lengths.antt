-- How long the words of an expression are, and what lengths rule out. Assumes nothing.
use mathlib.Core.Path.{◌≡◌, refl, ap, sym, ◌∙◌}
use mathlib.Core.Bool.{Bool, true, false, and-eq-true_iff, or-false}
use mathlib.Core.List.{List, [], ◌∷◌, ◌++◌}
use mathlib.Core.Logic.{⊎_elim}
use Prim.Native.Nat.{ℕ, zero, suc, min, max, ◌+◌, ◌*◌, ◌-◌, ◌/◌, ◌≤◌, ◌<◌, ◌^◌, zero-le}
use native.Mathlib.Omega.{arith}
use native.Mathlib.Nat.{add-zero, mul-suc, mul-zero, mul_comm, mul-le-mul_left, le_of_lt, div-lt_iff_lt-mul, le-div_iff_mul-le}
use lib.Dec.{leb}
use borrow.Author.Tests.{leb-true}
use lib.ListN.{length, length-append, drop, get_or, length-drop, drop_of_length-le}
use Rattle.definition.specs.Utf8.{encode, encode_all}
use Rattle.basics.specs.Lists.{drop_at as word}
use Rattle.utf8_laws.specs.Texts.{encode_most}
use Rattle.utf8_laws.specs.Encode.{encode_one}
use Rattle.utf8_laws.specs.Decode.{encode_long}
use Rattle.regex_definition.specs.Chars.{within}
use Rattle.regex_chars.specs.Laws.{encode_all_append, encode_all_none, encode_all_cons}
use Rattle.regex_code.specs.Skips.{SkipsClass}
use Rattle.regex_definition.specs.Words.{Join, Row, Times, upto, any, fails}
use Rattle.regex_definition.specs.Regexp.{Regexp, Describes, Range, hits}
use Rattle.regex_code.specs.Flat.{flat, of_empty, of_class, of_then, of_or, of_upto, of_any, of_short, of_other, of_nothing, word_of, flag, flat_ranges}
use Rattle.regex_total.specs.Answers.{Inside, Repeated, Widths, Capped, Apart, few, many, bytes, Reaches}
use Rattle.regex_total.proofs.Parts.{spells_bytes}

pub nil_bytes : (w : List ℕ) → w ≡ [] → bytes w ≡ 0
nil_bytes w e = ap bytes e ∙ ap length encode_all_none

pub join_bytes : {P Q : List ℕ → Type 0} (w : List ℕ) (j : Join P Q w) → bytes w ≡ bytes j.fore + bytes j.back
join_bytes w j =
    ap bytes j.eq ∙ ap length (encode_all_append j.fore j.back) ∙ length-append (encode_all j.fore) (encode_all j.back)

one_bytes : (w : List ℕ) (c : ℕ) → w ≡ c ∷ [] → bytes w ≡ length (encode c)
one_bytes w c e =
    let l = length-append (encode c) [] in
    ap bytes e ∙ ap length (encode_all_cons c []) ∙ ap (λ l. length (encode c ++ l)) encode_all_none ∙ l ∙ add-zero (length (encode c))

module _ (P : List ℕ → Type 0) where
  pub row_least : (a : ℕ) → ((u : List ℕ) → P u → a ≤ bytes u) → (n : ℕ) (w : List ℕ) → Row P n w → a * n ≤ bytes w
  row_least a f zero w r = let m = mul-zero a in omega arith
  row_least a f (suc n) w j =
      let m = mul-suc a n in
      let i = row_least a f n j.back j.is_back in
      let k = f j.fore j.is_fore in
      let l = join_bytes w j in
      omega arith

  row_most : (b : ℕ) → ((u : List ℕ) → P u → bytes u ≤ b) → (n : ℕ) (w : List ℕ) → Row P n w → bytes w ≤ b * n
  row_most b f zero w r = let e = nil_bytes w r in omega arith
  row_most b f (suc n) w j =
      let m = mul-suc b n in
      let i = row_most b f n j.back j.is_back in
      let k = f j.fore j.is_fore in
      let l = join_bytes w j in
      omega arith

  module _ (lo : ℕ) where
    times_least : (a : ℕ) → ((u : List ℕ) → P u → a ≤ bytes u) → (hi : _) (w : List ℕ) → Times lo hi P w → a * lo ≤ bytes w
    times_least a f hi w t =
        let m = mul-le-mul_left a t.least in
        let i = row_least a f t.count w t.row in
        omega arith

    times_most : (b : ℕ) → ((u : List ℕ) → P u → bytes u ≤ b) → (hi : ℕ) (w : List ℕ) → Times lo (upto hi) P w → bytes w ≤ b * hi
    times_most b f hi w t =
        let m = mul-le-mul_left b t.most in
        let i = row_most b f t.count w t.row in
        omega arith

Spans : List ℕ → ℕ → ℕ → ℕ → Regexp → List ℕ → Type 0
Spans s next lo hi x r =
    (drop next s ≡ r) × ((w : List ℕ) → Describes x w → lo ≤ bytes w)
    × ((w : List ℕ) → Describes x w → hi < 2 ^ 31 → bytes w ≤ hi)

module _ (s : List ℕ) where
  pub span_nothing : (at : ℕ) → length s ≤ at → Widths s at at 0 0
  unfolding Spans
  span_nothing at h =
      record {
        from = omega arith;
        lo_fits = omega arith;
        hi_fits = omega arith;
        of = λ x r e. of_nothing (Spans s at 0 0) x r (sym (drop_of_length-le s h) ∙ e);
      }

  module _ (at : ℕ) (p : at < length s) where
    pub span_empty : get_or s at 0 ≡ 0 → Widths s at (at + 1) 0 0
    unfolding Spans
    span_empty h =
        record {
          from = omega arith;
          lo_fits = omega arith;
          hi_fits = omega arith;
          of =
              λ x r e. of_empty (Spans s (at + 1) 0 0) _ _ h
              (λ r e. (e, λ w d. zero-le, λ w d k. let l = nil_bytes w d in omega arith)) x r (sym (word s at p) ∙ e);
        }

    pub span_class : get_or s at 0 ≡ 1 → {next n : ℕ} → SkipsClass s at next → Reaches s at n → Widths s at next 1 n
    unfolding Spans
    span_class h {next} {n} j k =
        record {
          from = j.from;
          lo_fits = omega arith;
          hi_fits = omega (arith, k.fits);
          of =
              λ x r e. of_class (Spans s next 1 n) _ _ h
              (λ comp gs r e. (
                j.rest comp gs r e,
                λ w d. let l = one_bytes w d.char d.eq in let m = encode_long d.char in omega arith,
                λ w d b.
                    let l = one_bytes w d.char d.eq in
                    let m = k.of comp gs r e d.char d.hit in
                    omega arith,
              )) x r
              (sym (word s at p) ∙ e);
        }

    module _ {n1 n2 l1 h1 l2 h2 : ℕ} (a : Widths s (at + 1) n1 l1 h1) (b : Widths s n1 n2 l2 h2) where
      pub span_then : get_or s at 0 ≡ 2 → {l h : ℕ} → Capped (l1 + l2) l → Capped (h1 + h2) h → Widths s at n2 l h
      unfolding Spans
      span_then is {l} {h} cl ch =
          record {
            from = omega (arith, a.from, b.from);
            lo_fits = cl.fits;
            hi_fits = ch.fits;
            of =
                λ x r e. of_then (Spans s n2 l h) _ _ is
                (λ x y r e.
                let i = a.of x (flat y r) e in
                let j = b.of y r i.0 in (
                  j.0,
                  λ w d.
                      let m = join_bytes w d in
                      let u = i.1 d.fore d.is_fore in
                      let v = j.1 d.back d.is_back in
                      omega (arith, cl.low),
                  λ w d k.
                      let q = ch.same k in
                      let m = join_bytes w d in
                      let u = i.2 d.fore d.is_fore (omega arith) in
                      let v = j.2 d.back d.is_back (omega arith) in
                      omega arith,
                ))
                x r (sym (word s at p) ∙ e);
          }

      pub span_or : get_or s at 0 ≡ 3 → {l h : ℕ} → l ≡ min l1 l2 → h ≡ max h1 h2 → Widths s at n2 l h
      unfolding Spans
      span_or is {l} {h} el eh =
          record {
            from = omega (arith, a.from, b.from);
            lo_fits = omega (arith, a.lo_fits);
            hi_fits = omega (arith, a.hi_fits, b.hi_fits);
            of =
                λ x r e. of_or (Spans s n2 l h) _ _ is
                (λ x y r e.
                let i = a.of x (flat y r) e in
                let j = b.of y r i.0 in (
                  j.0,
                  λ w d. ⊎_elim (λ q. omega (arith, i.1 w q)) (λ q. omega (arith, j.1 w q)) d,
                  λ w d k. ⊎_elim (λ q. omega (arith, i.2 w q (omega arith))) (λ q. omega (arith, j.2 w q (omega arith))) d,
                ))
                x r (sym (word s at p) ∙ e);
          }

    pub span_short : 3 < get_or s at 0 → length s - at < 3 → Widths s at at 0 0
    unfolding Spans
    span_short g h =
        record {
          from = omega arith;
          lo_fits = omega arith;
          hi_fits = omega arith;
          of = λ x r e. of_short (Spans s at 0 0) _ _ g (omega (arith, length-drop (at + 1) s)) x r (sym (word s at p) ∙ e);
        }

    module _ (n0 : get_or s at 0 ≡ 0 → ⊥) (n1 : get_or s at 0 ≡ 1 → ⊥) (n2 : get_or s at 0 ≡ 2 → ⊥) (n3 : get_or s at 0 ≡ 3 → ⊥) where
      pub span_other : (get_or s at 0 ≡ 4 → ⊥) → (get_or s at 0 ≡ 5 → ⊥) → Widths s at at 0 0
      unfolding Spans
      span_other n4 n5 =
          record {
            from = omega arith;
            lo_fits = omega arith;
            hi_fits = omega arith;
            of = λ x r e. of_other (Spans s at 0 0) _ _ (omega arith) x r (sym (word s at p) ∙ e);
          }

    -- the upper end: one that is no bound, or the product
    pub span_upto :
        get_or s at 0 ≡ 4 → {next l1 h1 lo hi l h : ℕ} → Widths s (at + 3) next l1 h1 → lo ≡ get_or s (at + 1) 0
        → hi ≡ get_or s (at + 2) 0 → Capped (l1 * lo) l → h ≤ 2 ^ 31 → (h < 2 ^ 31 → (h1 < 2 ^ 31) × (h ≡ h1 * hi)) → Widths s at next l h
    unfolding Spans
    span_upto is {next} {l1} {h1} {lo} {hi} {l} {h} a el eh cl hf ch =
        record {
          from = omega (arith, a.from);
          lo_fits = cl.fits;
          hi_fits = hf;
          of =
              λ x r e. of_upto (Spans s next l h) _ _ is
              (λ k n x r e.
              let f = word_of s (at + 1) k (n ∷ flat x r) e in
              let g = word_of s (at + 1 + 1) n (flat x r) f.2 in
              let z : at + 2 ≡ at + 1 + 1 = omega arith in
              let z' : at + 3 ≡ at + 1 + 1 + 1 = omega arith in
              let ek : lo ≡ k = el ∙ f.1 in
              let en : hi ≡ n = eh ∙ (rw z g.1) in
              let i = a.of x r (rw z' g.2) in (
                i.0,
                λ w d.
                    let m = times_least (Describes x) k l1 i.1 (upto n) w d in
                    let q : l1 * lo ≡ l1 * k = ap (λ v. l1 * v) ek in
                    omega (arith, cl.low),
                λ w d b.
                    let c = ch b in
                    let m = times_most (Describes x) k h1 (λ u v. i.2 u v c.0) n w d in
                    let q : h1 * hi ≡ h1 * n = ap (λ v. h1 * v) en in
                    omega (arith, c.1),
              ))
              x r (sym (word s at p) ∙ e);
        }

    pub span_any :
        get_or s at 0 ≡ 5 → {next l1 h1 lo l : ℕ} → Widths s (at + 2) next l1 h1 → lo ≡ get_or s (at + 1) 0 → Capped (l1 * lo) l
        → Widths s at next l (2 ^ 31)
    unfolding Spans
    span_any is {next} {l1} {h1} {lo} {l} a el cl =
        record {
          from = omega (arith, a.from);
          lo_fits = cl.fits;
          hi_fits = omega arith;
          of =
              λ x r e. of_any (Spans s next l (2 ^ 31)) _ _ is
              (λ k x r e.
              let f = word_of s (at + 1) k (flat x r) e in
              let z : at + 2 ≡ at + 1 + 1 = omega arith in
              let ek : lo ≡ k = el ∙ f.1 in
              let i = a.of x r (rw z f.2) in (
                i.0,
                λ w d.
                    let m = times_least (Describes x) k l1 i.1 any w d in
                    let q : l1 * lo ≡ l1 * k = ap (λ v. l1 * v) ek in
                    omega (arith, cl.low),
                λ w d b. absurd (omega arith),
              ))
              x r (sym (word s at p) ∙ e);
        }

pub capped_both : {h1 h : ℕ} (hi : ℕ) → h1 < 2 ^ 31 → Capped (h1 * hi) h → h < 2 ^ 31 → (h1 < 2 ^ 31) × (h ≡ h1 * hi)
capped_both hi p c h = (p, c.same h)

pub product : (a b : ℕ) → a ≤ 2 ^ 31 → b < 2 ^ 32 → a * b ≤ 2 ^ 63
product a b p q = let h : a * b ≤ a * 2 ^ 32 = mul-le-mul_left a (le_of_lt q) in omega arith

-- a part that is too short or too long
pub times_apart :
    (s t : List ℕ) (from to : ℕ) → Inside t from to → (at lo hi : ℕ) {next l h : ℕ} → Widths s at next l h
    → Apart (to - from) lo hi l h → Repeated s at lo hi t from to false
times_apart s t from to i at lo hi {next} {l} {h} a (few q) =
    record {
      of =
          λ x r w e k. fails
          (λ d.
          let m = times_least (Describes x) lo l (a.of x r e).1 (upto hi) w d in
          let n = spells_bytes t from to i w k in
          let c = mul_comm l lo in
          absurd (omega arith));
    }
times_apart s t from to i at lo hi {next} {l} {h} a (many b q) =
    record {
      of =
          λ x r w e k. fails
          (λ d.
          let m = times_most (Describes x) lo h (λ u v. (a.of x r e).2 u v b) hi w d in
          let n = spells_bytes t from to i w k in
          let c = mul_comm h hi in
          absurd (omega arith));
    }

-- the tests that tell it
module _ (n lo hi least most : ℕ) where
  pub apart_few : 0 < least → n / least < lo → true ≡ true → Apart n lo hi least most
  apart_few p q e = few ((div-lt_iff_lt-mul p).0 q)

  pub apart_none : false ≡ true → Apart n lo hi least most
  apart_none e = absurd (let z : ◌≡◌ {A = ℕ} 0 1 = ap number e in omega arith)
    where
      number : Bool → ℕ
      number true = 1
      number false = 0

  pub apart_zero : (n ≡ 0 → ⊥) → most ≡ 0 → true ≡ true → Apart n lo hi least most
  apart_zero p q e =
      let m : hi * most ≡ 0 = ap (λ v. hi * v) q ∙ mul-zero hi in
      many (omega arith) (omega arith)

  pub apart_many : (n ≡ 0 → ⊥) → (most ≡ 0 → ⊥) → most < 2 ^ 31 → leb hi ((n - 1) / most) ≡ true → Apart n lo hi least most
  apart_many p q b e =
      let z : 0 < most = omega arith in
      let m = (le-div_iff_mul-le z).0 (leb-true hi ((n - 1) / most) e) in
      many b (omega arith)

module _ (s : List ℕ) (at : ℕ) where
  pub reach_any : Reaches s at 4
  reach_any = record { fits = omega arith; of = λ comp gs r e c h. encode_most c }

  -- one range of ASCII characters
  pub reach_one : (get_or s (at + 1) 0 ≡ 1 → ⊥) → get_or s (at + 2) 0 ≡ 1 → get_or s (at + 4) 0 < 0x80 → Reaches s at 1
  reach_one n1 n2 h = record { fits = omega arith; of = go }
    where
      low : (c : ℕ) → c < 0x80 → length (encode c) ≤ 1
      low c k = rw (encode_one c k) (omega arith)

      by :
          (comp : Bool) (gs : List Range) (r : List ℕ) → (flag comp ≡ 1 → ⊥) → length gs ≡ 1
          → drop (at + 1 + 1 + 1) s ≡ flat_ranges gs r → (c : ℕ) → hits comp gs c ≡ true → length (encode c) ≤ 1
      by true gs r a b e c k = absurd (a refl)
      by false [] r a b e c k = absurd (omega arith)
      by false (g ∷ f ∷ gs) r a b e c k = absurd (omega arith)
      by false (g ∷ []) r a b e c k =
          let x = word_of s (at + 1 + 1 + 1) g.low (g.high ∷ r) e in
          let y = word_of s (at + 1 + 1 + 1 + 1) g.high r x.2 in
          let z : at + 4 ≡ at + 1 + 1 + 1 + 1 = omega arith in
          let v : get_or s (at + 4) 0 ≡ g.high = rw z y.1 in
          let w : within g.low g.high c ≡ true = sym (or-false (within g.low g.high c)) ∙ k in
          let u = leb-true c g.high ((and-eq-true_iff (leb g.low c) (leb c g.high)).0 w).1 in
          low c (omega arith)

      go :
          (comp : Bool) (gs : List Range) (r : List ℕ) → drop (at + 1) s ≡ flag comp ∷ length gs ∷ flat_ranges gs r → (c : ℕ)
          → hits comp gs c ≡ true → length (encode c) ≤ 1
      go comp gs r e =
          let x = word_of s (at + 1) _ _ e in
          let y = word_of s (at + 1 + 1) _ _ x.2 in
          let z : at + 2 ≡ at + 1 + 1 = omega arith in
          let v : get_or s (at + 2) 0 ≡ length gs = rw z y.1 in
          by comp gs r (λ q. n1 (x.1 ∙ q)) (sym v ∙ n2) y.2
