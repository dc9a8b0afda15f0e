-- A text in which every byte may stand behind the three before it is UTF-8. Assumes nothing.
use Prim.Native.Nat.{ℕ, zero, suc, ◌+◌, ◌-◌, ◌≤◌, ◌<◌}
use mathlib.Core.Path.{◌≡◌, refl, sym, ap, ◌∙◌, subst}
use Rattle.std.specs.Prelude.{Option, Some, None, OnSome, is_some}
use mathlib.Core.Bool.{Bool, true, false, not, ◌&&◌, ◌||◌, and-eq-true_iff, true≢false, false≢true}
use mathlib.Core.List.{List, [], ◌∷◌}
use native.Mathlib.Omega.{arith}
use borrow.Author.Tests.{le-leb, lt-leb, leb-true, leb-false, ltb-true, ltb-false, eqb-true, eqb-false, eq-eqb, le-ltb, not-true}
use lib.Dec.{eqb, leb, ltb}
use lib.ListN.{length, take, drop, get_or, drop_of_length-le, length-drop}
use lib.Seq.{drop-cons, get_or-drop}
use Rattle.definition.specs.Bytes.{every, part}
use Rattle.definition.specs.Utf8.{is_utf8_from, is_utf8}
use Rattle.utf8_laws.specs.Bytes.{by_test, inside, inside_low, inside_high, low3, high3, low4, high4}
use Rattle.utf8_laws.specs.Encode.{utf8_ascii, utf8_two, utf8_three, utf8_four}
use Rattle.text.specs.Chars.{is_ascii}
use Rattle.text.specs.Placed.{is_tail, is_asked_plain, is_asked, Bounded, Unbound, Placed, Plain, PlacedAt, PlacedIn, Ends}

-- ---- what three bytes ask for

pub asked_last : (a b c : ℕ) → 0xC0 ≤ c → is_asked a b c ≡ true
asked_last a b c l = rw (le-leb 0xC0 c l)

pub asked_middle : (a b c : ℕ) → 0xE0 ≤ b → is_asked a b c ≡ true
asked_middle a b c l = by_test (leb 0xC0 c) (λ t. rw t) (λ f. rw (f, le-leb 0xE0 b l))

pub asked_first : (a b c : ℕ) → 0xF0 ≤ a → is_asked a b c ≡ true
asked_first a b c l = by_test (is_asked_plain b c) (λ t. rw t) (λ f. rw (f, le-leb 0xF0 a l))

pub asked_plain : (a b c : ℕ) → a < 0xF0 → is_asked a b c ≡ is_asked_plain b c
asked_plain a b c h = by_test (is_asked_plain b c) (λ t. rw t) (λ f. rw (f, lt-leb 0xF0 a h))

pub asked_none : (a b c : ℕ) → a < 0xF0 → b < 0xE0 → c < 0xC0 → is_asked a b c ≡ false
asked_none a b c x y z = rw (lt-leb 0xC0 c z, lt-leb 0xE0 b y, lt-leb 0xF0 a x)

-- a byte that continues no character
not_tail_lem : (x : ℕ) → (0x80 ≤ x → 0xC0 ≤ x) → is_tail x ≡ false
not_tail_lem x h =
    by_test (leb 0x80 x)
    (λ t. let m = h (leb-true 0x80 x t) in rw (t, lt-leb x 0xBF m))
    (λ f. rw f)

-- ---- bytes that are found to be placed

-- one behind bytes without bounds of their own
plain_placed : (a b c x : ℕ) → a < 0xF0 → Plain b c x → Placed a b c x
plain_placed a b c x h p =
    let u = p.unbound in
    let t = u.top in
    record {
      agrees = p.agrees ∙ sym (asked_plain a b c h);
      bounded = record { low3 = λ e. absurd (u.first3 e); high3 = λ e. absurd (u.last3 e); low4 = λ e. absurd (omega arith); high4 = λ e. absurd (omega arith); lead = u.lead; top = omega arith };
    }

-- an ASCII byte behind bytes that ask for none
pub ascii_placed : (a b c x : ℕ) → a < 0xF0 → b < 0xE0 → c < 0xC0 → x < 0x80 → Placed a b c x
ascii_placed a b c x la lb lc lx =
    record {
      agrees = not_tail_lem x (λ m. absurd (omega arith)) ∙ sym (asked_none a b c la lb lc);
      bounded = record { low3 = λ e. absurd (omega arith); high3 = λ e. absurd (omega arith); low4 = λ e. absurd (omega arith); high4 = λ e. absurd (omega arith); lead = λ m. absurd (omega arith); top = omega arith };
    }

-- ---- along a text

-- each byte of a text may stand where it does, behind three others, and the text may end
abbrev pub Along : ℕ → ℕ → ℕ → List ℕ → Type 0
Along a b c [] = Placed a b c 0
Along a b c (x ∷ s) = Placed a b c x × Along b c x s

-- what is left begins with a byte that continues a character
record Next (a b c : ℕ) (s : List ℕ) : Type 0 where
  byte : ℕ
  rest : List ℕ
  is : s ≡ byte ∷ rest
  low : 0x80 ≤ byte
  high : byte ≤ 0xBF
  placed : Placed a b c byte
  along : Along b c byte rest

next : (a b c : ℕ) (s : List ℕ) → is_asked a b c ≡ true → Along a b c s → Next a b c s
next a b c [] e p = absurd (false≢true (p.agrees ∙ e))
next a b c (x ∷ s) e p =
    let t = p.0.agrees ∙ e in
    record { byte = x; rest = s; is = refl; low = inside_low 0x80 0xBF x t; high = inside_high 0x80 0xBF x t; placed = p.0; along = p.1 }

-- the bounds of a second byte
second_low3 : (c x : ℕ) → Bounded c x → 0x80 ≤ x → low3 c ≤ x
second_low3 c x b l = by_test (eqb c 0xE0) (λ t. rw t (b.low3 (eqb-true c 0xE0 t))) (λ f. rw f l)

second_high3 : (c x : ℕ) → Bounded c x → x ≤ 0xBF → x ≤ high3 c
second_high3 c x b l = by_test (eqb c 0xED) (λ t. rw t (b.high3 (eqb-true c 0xED t))) (λ f. rw f l)

second_low4 : (c x : ℕ) → Bounded c x → 0x80 ≤ x → low4 c ≤ x
second_low4 c x b l = by_test (eqb c 0xF0) (λ t. rw t (b.low4 (eqb-true c 0xF0 t))) (λ f. rw f l)

second_high4 : (c x : ℕ) → Bounded c x → x ≤ 0xBF → x ≤ high4 c
second_high4 c x b l = by_test (eqb c 0xF4) (λ t. rw t (b.high4 (eqb-true c 0xF4 t))) (λ f. rw f l)

-- the byte before what is left occurs in UTF-8
before_bounded : (a b c : ℕ) (s : List ℕ) → Along a b c s → Bounded c (get_or s 0 0)
before_bounded a b c [] p = p.bounded
before_bounded a b c (x ∷ s) p = p.0.bounded

-- texts of at most n bytes that stand behind bytes which ask for none
abbrev Shorter : ℕ → Type 0
Shorter n = (s : List ℕ) → length s ≤ n → (a b c : ℕ) → a < 0xF0 → b < 0xE0 → c < 0xC0 → Along a b c s → is_utf8 s ≡ true

module _ (n : ℕ) (on : Shorter n) (b c x : ℕ) (s : List ℕ) (h : length s ≤ n) (lb : b < 0xE0) (lc : c < 0xC0) (p : Along b c x s) where
  -- a text that a character of two bytes, of three and of four begins
  two : 0xC2 ≤ x → x ≤ 0xDF → is_utf8 (x ∷ s) ≡ true
  two l m =
      let y = next b c x s (asked_last b c x (omega arith)) p in
      let yl = y.low in
      let yh = y.high in
      let k = ap length y.is in
      rw y.is (utf8_two x y.byte y.rest l m yl yh ∙ on y.rest (omega arith) c x y.byte (omega arith) (omega arith) (omega arith) y.along)

  three : 0xE0 ≤ x → x ≤ 0xEF → is_utf8 (x ∷ s) ≡ true
  three l m =
      let y = next b c x s (asked_last b c x (omega arith)) p in
      let yl = y.low in
      let yh = y.high in
      let z = next c x y.byte y.rest (asked_middle c x y.byte l) y.along in
      let zl = z.low in
      let zh = z.high in
      let k = ap length y.is in
      let j = ap length z.is in
      rw (y.is, z.is)
      (utf8_three x y.byte z.byte z.rest l m (second_low3 x y.byte y.placed.bounded yl) (second_high3 x y.byte y.placed.bounded yh) zl zh
      ∙ on z.rest (omega arith) x y.byte z.byte (omega arith) (omega arith) (omega arith) z.along)

  four : 0xF0 ≤ x → x ≤ 0xF4 → is_utf8 (x ∷ s) ≡ true
  four l m =
      let y = next b c x s (asked_last b c x (omega arith)) p in
      let yl = y.low in
      let yh = y.high in
      let z = next c x y.byte y.rest (asked_middle c x y.byte (omega arith)) y.along in
      let zl = z.low in
      let zh = z.high in
      let w = next x y.byte z.byte z.rest (asked_first x y.byte z.byte l) z.along in
      let wl = w.low in
      let wh = w.high in
      let k = ap length y.is in
      let j = ap length z.is in
      let i = ap length w.is in
      rw (y.is, z.is, w.is)
      (utf8_four x y.byte z.byte w.byte w.rest l m (second_low4 x y.byte y.placed.bounded yl) (second_high4 x y.byte y.placed.bounded yh) zl zh wl wh
      ∙ on w.rest (omega arith) y.byte z.byte w.byte (omega arith) (omega arith) (omega arith) w.along)

-- one byte more
longer : (n : ℕ) → Shorter n → (s : List ℕ) → length s ≤ suc n → (a b c : ℕ) → a < 0xF0 → b < 0xE0 → c < 0xC0 → Along a b c s → is_utf8 s ≡ true
unfolding is_utf8 is_utf8_from
longer n on [] h a b c la lb lc p = refl
longer n on (x ∷ s) h a b c la lb lc p =
    let t = p.0.agrees ∙ asked_none a b c la lb lc in
    let d = before_bounded b c x s p.1 in
    let dl = d.lead in
    let dt = d.top in
    let m : length s ≤ n = omega arith in
    by_test (ltb x 0x80) (λ e. let l = ltb-true x 0x80 e in utf8_ascii x s l ∙ on s m b c x (omega arith) (omega arith) (omega arith) p.1) (λ f.
    by_test (leb x 0xBF) (λ e. absurd (true≢false (sym (inside 0x80 0xBF x (ltb-false x 0x80 f) (leb-true x 0xBF e)) ∙ t))) (λ g.
    by_test (leb x 0xDF) (λ e. let k = leb-false x 0xBF g in two n on b c x s m lb lc p.1 (dl (omega arith)) (leb-true x 0xDF e)) (λ i.
    by_test (leb x 0xEF) (λ e. let k = leb-false x 0xDF i in three n on b c x s m lb lc p.1 (omega arith) (leb-true x 0xEF e)) (λ j.
    let k = leb-false x 0xEF j in four n on b c x s m lb lc p.1 (omega arith) dt))))

none : (s : List ℕ) → length s ≤ 0 → is_utf8 s ≡ true
unfolding is_utf8 is_utf8_from
none [] h = refl
none (x ∷ s) h = absurd (omega arith)

-- such a text is UTF-8
along_utf8 : (n : ℕ) → Shorter n
along_utf8 zero = λ s h a b c la lb lc p. none s h
along_utf8 (suc n) = longer n (along_utf8 n)

-- ---- by places

module _ (s : List ℕ) (e : Ends s) (p : PlacedIn s 0 (length s - 3)) where
  -- from the three bytes at a place on
  along_from : (m j : ℕ) → j + 3 + m ≡ length s → Along (get_or s j 0) (get_or s (j + 1) 0) (get_or s (j + 2) 0) (drop (j + 3) s)
  along_from zero j h =
      let l : length s ≤ j + 3 = omega arith in
      rw (drop_of_length-le s l) (e.end j (omega arith))
  along_from (suc m) j h =
      let l : j + 3 < length s = omega arith in
      let x : j + 1 + 1 ≡ j + 2 = omega arith in
      let y : j + 1 + 2 ≡ j + 3 = omega arith in
      let z : j + 1 + 3 ≡ suc (j + 3) = omega arith in
      rw (drop-cons s (j + 3) 0 l) (p j (omega arith) (omega arith), rw (x, y, z) at (along_from m (j + 1) (omega arith)))

-- a text with the bytes before it
along_all : (s : List ℕ) → 3 ≤ length s → Ends s → PlacedIn s 0 (length s - 3) → Along 0 0 0 s
along_all [] h e p = absurd (omega arith)
along_all (x ∷ []) h e p = absurd (omega arith)
along_all (x ∷ y ∷ []) h e p = absurd (omega arith)
along_all (x ∷ y ∷ z ∷ s) h e p = (e.first, (e.second, (e.third, along_from (x ∷ y ∷ z ∷ s) e p (length s) 0 (omega arith))))

-- A text of three bytes or more whose bytes are all placed is UTF-8.
pub placed_utf8 : (s : List ℕ) → 3 ≤ length s → Ends s → PlacedIn s 0 (length s - 3) → is_utf8 s ≡ true
placed_utf8 s h e p = along_utf8 (length s) s (omega arith) 0 0 0 (omega arith) (omega arith) (omega arith) (along_all s h e p)

-- ---- many bytes at once

-- tests of places that follow each other
pub placed_join : (s : List ℕ) (a b c : ℕ) → PlacedIn s a b → PlacedIn s b c → PlacedIn s a c
placed_join s a b c p q j l h = by_test (ltb j b) (λ t. p j l (ltb-true j b t)) (λ f. q j (ltb-false j b f) h)

-- some of the places
pub placed_part : (s : List ℕ) {a b : ℕ} (i j : ℕ) → PlacedIn s a b → a ≤ i → j ≤ b → PlacedIn s i j
placed_part s i j p l h k x y = p k (omega arith) (omega arith)

-- the places behind some others
pub placed_behind : (s : List ℕ) (at n m : ℕ) → PlacedIn s (at + n) (at + n + m) → PlacedIn s (at + n) (at + (n + m))
placed_behind s at n m p j l h = p j l (omega arith)

-- four blocks of n places each, one behind another
pub placed_four : (s : List ℕ) (at n m k l : ℕ) → m ≡ n + n → k ≡ m + n → l ≡ k + n → PlacedIn s at (at + n) → PlacedIn s (at + n) (at + n + n) → PlacedIn s (at + m) (at + m + n) → PlacedIn s (at + k) (at + k + n) → PlacedIn s at (at + l)
placed_four s at n m k l e f g p q r t j x y =
    by_test (ltb j (at + n)) (λ h. p j x (ltb-true j (at + n) h)) (λ h.
    let z = ltb-false j (at + n) h in
    by_test (ltb j (at + m)) (λ i. let w = ltb-true j (at + m) i in q j z (omega arith)) (λ i.
    let w = ltb-false j (at + m) i in
    by_test (ltb j (at + k)) (λ o. let v = ltb-true j (at + k) o in r j w (omega arith)) (λ o. t j (ltb-false j (at + k) o) (omega arith))))

-- blocks of n places up to i, and one that ends where the text does
pub placed_last : (s : List ℕ) (n i : ℕ) → n + 3 ≤ length s → length s - (n + 3) ≤ i → PlacedIn s 0 i → PlacedIn s (length s - (n + 3)) (length s - (n + 3) + n) → PlacedIn s 0 (length s - 3)
placed_last s n i h l p q j x y = by_test (ltb j i) (λ t. p j x (ltb-true j i t)) (λ f. let m = ltb-false j i f in q j (omega arith) (omega arith))

-- none is tested yet; and one more
pub placed_none : (s : List ℕ) (a : ℕ) → PlacedIn s a (a + 0)
placed_none s a j l h = absurd (omega arith)

pub placed_more : (s : List ℕ) (a i : ℕ) → PlacedIn s a (a + i) → PlacedAt s (a + i) → PlacedIn s a (a + (i + 1))
placed_more s a i p q j l h = by_test (ltb j (a + i)) (λ t. p j l (ltb-true j (a + i) t)) (λ f. let m = ltb-false j (a + i) f in let k : a + i ≡ j = omega arith in subst (PlacedAt s) k q)

-- the bytes behind a place, of which none has bounds of its own
pub record PlainIn (s : List ℕ) (at n : ℕ) : Type 0 where
  pub first : get_or s at 0 < 0xF0
  pub second : get_or s (at + 1) 0 < 0xF0
  pub each : (j : ℕ) → at ≤ j → j < at + n → Plain (get_or s (j + 1) 0) (get_or s (j + 2) 0) (get_or s (j + 3) 0)

pub plain_more : (s : List ℕ) (at i : ℕ) → PlainIn s at i → Plain (get_or s (at + i + 1) 0) (get_or s (at + i + 2) 0) (get_or s (at + i + 3) 0) → PlainIn s at (i + 1)
plain_more s at i p q = record { first = p.first; second = p.second; each = λ j l h. by_test (ltb j (at + i)) (λ t. p.each j l (ltb-true j (at + i) t)) (λ f. let m = ltb-false j (at + i) f in let k : at + i ≡ j = omega arith in subst (λ (x : ℕ). Plain (get_or s (x + 1) 0) (get_or s (x + 2) 0) (get_or s (x + 3) 0)) k q) }

-- no byte there begins a character of four bytes
plain_low : (s : List ℕ) (at n j : ℕ) → PlainIn s at n → at ≤ j → j < at + n → get_or s j 0 < 0xF0
plain_low s at n j p l h =
    by_test (eqb j at) (λ t. rw (eqb-true j at t) p.first) (λ f.
    by_test (eqb j (at + 1)) (λ t. rw (eqb-true j (at + 1) t) p.second) (λ g.
    let x = eqb-false j at f in
    let y = eqb-false j (at + 1) g in
    let k : j - 2 + 2 ≡ j = omega arith in
    rw k at (p.each (j - 2) (omega arith) (omega arith)).unbound.top))

pub plain_all : (s : List ℕ) (at n : ℕ) → PlainIn s at n → PlacedIn s at (at + n)
plain_all s at n p j l h = plain_placed (get_or s j 0) (get_or s (j + 1) 0) (get_or s (j + 2) 0) (get_or s (j + 3) 0) (plain_low s at n j p l h) (p.each j l h)

-- ASCII bytes behind three that ask for no byte
module _ (s : List ℕ) (at n : ℕ) (fa : get_or s at 0 < 0xF0) (fb : get_or s (at + 1) 0 < 0xE0) (fc : get_or s (at + 2) 0 < 0xC0) (each : (j : ℕ) → at + 3 ≤ j → j < at + 3 + n → get_or s j 0 < 0x80) where
  below_c : (j : ℕ) → at + 2 ≤ j → j < at + 3 + n → get_or s j 0 < 0xC0
  below_c j l h =
      by_test (eqb j (at + 2)) (λ t. rw (eqb-true j (at + 2) t) fc) (λ f.
      let x = eqb-false j (at + 2) f in
      let y = each j (omega arith) h in
      omega arith)

  below_b : (j : ℕ) → at + 1 ≤ j → j < at + 3 + n → get_or s j 0 < 0xE0
  below_b j l h =
      by_test (eqb j (at + 1)) (λ t. rw (eqb-true j (at + 1) t) fb) (λ f.
      let x = eqb-false j (at + 1) f in
      let y = below_c j (omega arith) h in
      omega arith)

  below_a : (j : ℕ) → at ≤ j → j < at + 3 + n → get_or s j 0 < 0xF0
  below_a j l h =
      by_test (eqb j at) (λ t. rw (eqb-true j at t) fa) (λ f.
      let x = eqb-false j at f in
      let y = below_b j (omega arith) h in
      omega arith)

  pub ascii_all : PlacedIn s at (at + n)
  ascii_all j l h =
      ascii_placed (get_or s j 0) (get_or s (j + 1) 0) (get_or s (j + 2) 0) (get_or s (j + 3) 0) (below_a j l (omega arith)) (below_b (j + 1) (omega arith) (omega arith)) (below_c (j + 2) (omega arith) (omega arith)) (each (j + 3) (omega arith) (omega arith))

-- ---- what the code's tests say

-- one of two holds, and not the first
or_second : (p q : Bool) → (p || q) ≡ true → p ≡ false → q ≡ true
or_second true q e f = absurd (true≢false f)
or_second false q e f = e

-- where a number is another, what is then asked holds
if_equal : (c n : ℕ) (q : Bool) → (not (eqb c n) || q) ≡ true → c ≡ n → q ≡ true
if_equal c n q e h = or_second (not (eqb c n)) q e (ap not (eq-eqb c n h))

-- two tests of which both hold or none
pub same_answer : (p q : Bool) → ((p && q) || not (p || q)) ≡ true → q ≡ p
same_answer true true e = refl
same_answer true false e = absurd (false≢true e)
same_answer false true e = absurd (false≢true e)
same_answer false false e = refl

-- a first byte of more than one byte, and none of C0 and C1
lead_by : (c : ℕ) → (ltb c 0xC0 || leb 0xC2 c) ≡ true → 0xC0 ≤ c → 0xC2 ≤ c
lead_by c e l = leb-true 0xC2 c (or_second (ltb c 0xC0) (leb 0xC2 c) e (le-ltb c 0xC0 l))

pub bounded_by : (c x : ℕ) → ((((((not (eqb c 0xE0) || leb 0xA0 x) && (not (eqb c 0xED) || leb x 0x9F)) && ((not (eqb c 0xF0) || leb 0x90 x) && (not (eqb c 0xF4) || leb x 0x8F))) && (ltb c 0xC0 || leb 0xC2 c)) && leb c 0xF4) ≡ true) → Bounded c x
bounded_by c x e =
    let a = (and-eq-true_iff _ (leb c 0xF4)).0 e in
    let b = (and-eq-true_iff _ (ltb c 0xC0 || leb 0xC2 c)).0 a.0 in
    let d = (and-eq-true_iff ((not (eqb c 0xE0) || leb 0xA0 x) && (not (eqb c 0xED) || leb x 0x9F)) ((not (eqb c 0xF0) || leb 0x90 x) && (not (eqb c 0xF4) || leb x 0x8F))).0 b.0 in
    let three = (and-eq-true_iff (not (eqb c 0xE0) || leb 0xA0 x) (not (eqb c 0xED) || leb x 0x9F)).0 d.0 in
    let four = (and-eq-true_iff (not (eqb c 0xF0) || leb 0x90 x) (not (eqb c 0xF4) || leb x 0x8F)).0 d.1 in
    record {
      low3 = λ h. leb-true 0xA0 x (if_equal c 0xE0 (leb 0xA0 x) three.0 h);
      high3 = λ h. leb-true x 0x9F (if_equal c 0xED (leb x 0x9F) three.1 h);
      low4 = λ h. leb-true 0x90 x (if_equal c 0xF0 (leb 0x90 x) four.0 h);
      high4 = λ h. leb-true x 0x8F (if_equal c 0xF4 (leb x 0x8F) four.1 h);
      lead = lead_by c b.1;
      top = leb-true c 0xF4 a.1;
    }

pub unbound_by : (c : ℕ) → (((not (eqb c 0xE0) && not (eqb c 0xED)) && ltb c 0xF0) && (ltb c 0xC0 || leb 0xC2 c)) ≡ true → Unbound c
unbound_by c e =
    let a = (and-eq-true_iff _ (ltb c 0xC0 || leb 0xC2 c)).0 e in
    let b = (and-eq-true_iff _ (ltb c 0xF0)).0 a.0 in
    let d = (and-eq-true_iff (not (eqb c 0xE0)) (not (eqb c 0xED))).0 b.0 in
    record { first3 = eqb-false c 0xE0 (not-true _ d.0); last3 = eqb-false c 0xED (not-true _ d.1); top = ltb-true c 0xF0 b.1; lead = lead_by c a.1 }

-- ---- ASCII bytes

-- where the second 32 bytes begin
pub ascii_next : (a : ℕ) → a + 35 ≡ a + 3 + 32
ascii_next a = omega arith

-- an element of a front of which a test holds throughout
every_front : (p : ℕ → Bool) (n i : ℕ) (s : List ℕ) → i < n → i < length s → every p (take n s) ≡ true → p (get_or s i 0) ≡ true
every_front p zero i s l h e = absurd (omega arith)
every_front p (suc n) i [] l h e = absurd (omega arith)
every_front p (suc n) zero (x ∷ s) l h e = ((and-eq-true_iff (p x) (every p (take n s))).0 e).0
every_front p (suc n) (suc i) (x ∷ s) l h e = every_front p n i s (omega arith) (omega arith) ((and-eq-true_iff (p x) (every p (take n s))).0 e).1

-- the bytes of a part that is ASCII
pub ascii_bytes : (s : List ℕ) (at n : ℕ) → at + n ≤ length s → every is_ascii (part s at n) ≡ true → (j : ℕ) → at ≤ j → j < at + n → get_or s j 0 < 0x80
ascii_bytes s at n f e j l h =
    let k : at + (j - at) ≡ j = omega arith in
    let m = length-drop at s in
    let q = every_front is_ascii n (j - at) (drop at s) (omega arith) (omega arith) e in
    ltb-true (get_or s j 0) 0x80 (rw (get_or-drop at s (j - at) 0, k) at q)

-- what an answer says if there is one
pub on_some : {A : Type 0} (r : Option A) (P : Type 0) → OnSome r P → is_some r ≡ true → P
on_some (Some x) P h e = h
on_some None P h e = absurd (false≢true e)
