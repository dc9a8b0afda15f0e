-- Equality of texts: what the test says of the texts, and a comparison piece by piece.
-- Assumes nothing.
use Prim.Native.Nat.{ℕ, ◌+◌, ◌-◌, ◌≤◌, ◌<◌}
use native.Mathlib.Nat.{suc_inj, suc-ne-zero}
use native.Mathlib.Omega.{arith}
use mathlib.Core.Path.{◌≡◌, refl, sym, ap, ◌∙◌}
use mathlib.Core.Bool.{Bool, true, false, ◌&&◌, and-eq-true_iff}
use mathlib.Core.List.{List, [], ◌∷◌, ◌++◌}
use borrow.Author.Tests.{eq-eqb, eqb-true, eqb-false, ltb-true}
use lib.Dec.{eqb}
use lib.ListN.{length, take, drop, get_or, take-append-drop, drop_of_length-le, length-drop}
use lib.Seq.{drop-drop, take_all}
use Rattle.std.specs.Cmp.Lexicographic.{pointwise}
use Rattle.std.specs.Prelude.{nat_eq}
use Rattle.definition.specs.Bytes.{every, part, number, same_bytes}
use Rattle.definition_bytes.specs.Same.{part_length, same_self, same_true, unlike_length}
use Rattle.utf8_laws.specs.Bytes.{by_test}
use Rattle.text.specs.Words.{Word}
use Rattle.text.specs.Ends.{EndsOf}
use Rattle.text.proofs.Numbers.{part_one}
use Rattle.text.proofs.Ascii.{is_byte, are_bytes, every_part}

-- ---- what the test says

-- equal texts pass the test
pub same_equal : (s t : List ℕ) → s ≡ t → same_bytes s t ≡ true
same_equal s t e = rw (← e) (same_self s)

-- texts that are not equal fail it
pub same_unlike : (s t : List ℕ) → (s ≡ t → ⊥) → same_bytes s t ≡ false
same_unlike s t n = by_test (same_bytes s t) (λ e. absurd (n (same_true s t e))) (λ e. e)

-- a common front makes no difference
pub same_append : (p s t : List ℕ) → same_bytes (p ++ s) (p ++ t) ≡ same_bytes s t
unfolding same_bytes
same_append [] s t = refl
same_append (x ∷ p) s t = rw (eq-eqb x x refl) (same_append p s t)

-- ---- piece by piece

-- a part and what lies behind it
pub part_rest : (s : List ℕ) (i n : ℕ) → part s i n ++ drop (i + n) s ≡ drop i s
part_rest s i n = rw (← drop-drop n i s) (take-append-drop n (drop i s))

-- behind equal parts the test goes on
pub same_on : (s t : List ℕ) (i n : ℕ) → part s i n ≡ part t i n → same_bytes (drop i s) (drop i t) ≡ same_bytes (drop (i + n) s) (drop (i + n) t)
same_on s t i n e = rw (← part_rest s i n, ← part_rest t i n, e) (same_append (part t i n) (drop (i + n) s) (drop (i + n) t))

-- at unlike parts the test fails
pub same_stop : (s t : List ℕ) (i n : ℕ) → (part s i n ≡ part t i n → ⊥) → same_bytes (drop i s) (drop i t) ≡ false
same_stop s t i n d = same_unlike (drop i s) (drop i t) (λ e. d (ap (take n) e))

-- behind the ends of both texts there is nothing to compare
pub same_ends : (s t : List ℕ) (i : ℕ) → length s ≤ i → length t ≤ i → same_bytes (drop i s) (drop i t) ≡ true
same_ends s t i h k = rw (drop_of_length-le s h, drop_of_length-le t k) (same_self [])

-- ---- parts by their numbers

-- bytes are equal if their numbers are
pub number_injective : (s t : List ℕ) → every is_byte s ≡ true → every is_byte t ≡ true → length s ≡ length t → number s ≡ number t → s ≡ t
unfolding number
number_injective [] [] p q l e = refl
number_injective [] (y ∷ t) p q l e = absurd (suc-ne-zero (length t) (sym l))
number_injective (x ∷ s) [] p q l e = absurd (suc-ne-zero (length s) l)
number_injective (x ∷ s) (y ∷ t) p q l e =
    let a = (and-eq-true_iff (is_byte x) (every is_byte s)).0 p in
    let b = (and-eq-true_iff (is_byte y) (every is_byte t)).0 q in
    let xb = ltb-true x 256 a.0 in
    let yb = ltb-true y 256 b.0 in
    let h : x ≡ y = omega arith in
    let n : number s ≡ number t = omega arith in
    rw (h, number_injective s t a.1 b.1 (suc_inj l) n)

module _ {s t : List ℕ} {i n x y : ℕ} (hs : i + n ≤ length s) (ht : i + n ≤ length t) (bs : (k : ℕ) → get_or s k 0 < 256) (bt : (k : ℕ) → get_or t k 0 < 256) (ws : Word n s i x) (wt : Word n t i y) where
  -- parts of equal numbers are equal
  pub words_equal : x ≡ y → part s i n ≡ part t i n
  words_equal e =
      number_injective (part s i n) (part t i n) (every_part is_byte s i n (are_bytes s bs)) (every_part is_byte t i n (are_bytes t bt))
      (part_length s i n hs ∙ sym (part_length t i n ht)) (sym ws.is ∙ e ∙ wt.is)

-- parts of unlike numbers are not
pub words_unlike : {s t : List ℕ} {i n x y : ℕ} → Word n s i x → Word n t i y → (x ≡ y → ⊥) → part s i n ≡ part t i n → ⊥
words_unlike ws wt d e = d (ws.is ∙ ap number e ∙ sym wt.is)

-- parts of one byte
pub byte_equal : (s t : List ℕ) (i : ℕ) → i < length s → i < length t → get_or s i 0 ≡ get_or t i 0 → part s i 1 ≡ part t i 1
byte_equal s t i hs ht e = rw (part_one s i hs, part_one t i ht, e)

-- unlike bytes make unlike parts
pub byte_unlike : (s t : List ℕ) (i : ℕ) → i < length s → i < length t → (get_or s i 0 ≡ get_or t i 0 → ⊥) → part s i 1 ≡ part t i 1 → ⊥
byte_unlike s t i hs ht d e =
    let f = part_one s i hs in
    let g = part_one t i ht in
    d (cc)

-- ---- the last word

-- what lies behind a later place, from what lies behind an earlier one
later_equal : (s t : List ℕ) (j i : ℕ) → j ≤ i → drop j s ≡ drop j t → drop i s ≡ drop i t
later_equal s t j i h e =
    let k : j + (i - j) ≡ i = omega arith in
    rw (← k, ← drop-drop (i - j) j s, ← drop-drop (i - j) j t, e)

-- the last n elements
last_part : (s : List ℕ) (j n : ℕ) → j + n ≡ length s → part s j n ≡ drop j s
last_part s j n h = take_all n (drop j s) (omega (arith, length-drop j s))

-- the last words decide, where the texts are the same up to a place in them or behind them
pub same_last : {s t : List ℕ} {j n x y : ℕ} (i : ℕ) → length s ≡ length t → j + n ≡ length s → j ≤ i → ((k : ℕ) → get_or s k 0 < 256) → ((k : ℕ) → get_or t k 0 < 256) → Word n s j x → Word n t j y → same_bytes s t ≡ same_bytes (drop i s) (drop i t) → eqb x y ≡ same_bytes s t
same_last {s} {t} {j} {n} {x} {y} i l h a bs bt ws wt u =
    by_test (eqb x y)
    (λ e.
    let p = words_equal (omega arith) (omega arith) bs bt ws wt (eqb-true x y e) in
    let d = sym (last_part s j n h) ∙ p ∙ last_part t j n (h ∙ l) in
    e ∙ sym (u ∙ same_equal (drop i s) (drop i t) (later_equal s t j i a d)))
    (λ f. f ∙ sym (same_unlike s t (λ e. words_unlike ws wt (eqb-false x y f) (ap (λ (r : List ℕ). part r j n) e))))

-- std's test of two lists of numbers is that of two texts
pub pointwise-same : (s t : List ℕ) → pointwise nat_eq s t ≡ same_bytes s t
unfolding same_bytes
pointwise-same [] [] = refl
pointwise-same [] (y ∷ t) = refl
pointwise-same (x ∷ s) [] = refl
pointwise-same (x ∷ s) (y ∷ t) = ap (λ (b : Bool). eqb x y && b) (pointwise-same s t)

-- ---- a text by its first and its last four bytes

-- the same text, as a part
pub ends_as : {n m : ℕ} {t u : List ℕ} {low high : ℕ} → n ≡ m → t ≡ u → EndsOf n t low high → EndsOf m u low high
ends_as p q e = rw (← p, ← q) e

module _ (s : List ℕ) {t : List ℕ} {n low high : ℕ} (e : EndsOf n t low high) where
  pub ends_lengths : (length s ≡ n → ⊥) → false ≡ same_bytes s t
  ends_lengths d = sym (unlike_length s t (λ l. d (l ∙ e.long)))

  pub ends_first : {x : ℕ} → Word 4 s 0 x → (x ≡ low → ⊥) → false ≡ same_bytes s t
  ends_first w d = sym (same_stop s t 0 4 (words_unlike w e.first d))

  pub ends_last : {j x y : ℕ} → length s ≡ n → ((k : ℕ) → get_or s k 0 < 256) → Word 4 s 0 x → x ≡ low → j + 4 ≡ length s → Word 4 s j y → eqb y high ≡ same_bytes s t
  ends_last {j} l b w d h v =
      let f = e.least in
      let m = e.most in
      let g = e.long in
      let p : n - 4 ≡ j = omega arith in
      let z : Word 4 t j high = rw (← p) e.last in
      same_last 4 (l ∙ sym g) h (omega arith) b e.bytes v z (same_on s t 0 4 (words_equal (omega arith) (omega arith) b e.bytes w e.first d))
