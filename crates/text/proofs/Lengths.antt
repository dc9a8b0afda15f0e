-- A block of bytes of a text of some kind: that its bytes are placed, and what the turned bytes say. Assumes nothing.
use Prim.Native.Nat.{ℕ, zero, suc, ◌+◌, ◌-◌, ◌≤◌, ◌<◌}
use mathlib.Core.Path.{◌≡◌, refl, sym, ◌∙◌, subst}
use mathlib.Core.Bool.{Bool, true, false, not, ◌&&◌, ◌||◌, and-eq-true_iff, true≢false}
use mathlib.Core.List.{List}
use native.Mathlib.Nat.{le_trans}
use native.Mathlib.Omega.{arith}
use borrow.Author.Tests.{le-leb, lt-leb, le-ltb, leb-true, leb-false, ltb-true, ltb-false, eqb-true, eqb-false, eq-eqb, ne_eqb, not-true}
use lib.Bits.{bit_xor, bit_and}
use lib.Dec.{eqb, leb, ltb}
use lib.ListN.{get_or}
use Rattle.utf8_laws.specs.Bytes.{by_test, inside_low}
use Rattle.text.specs.Placed.{is_tail, is_asked_plain, is_asked, Placed, PlacedIn}
use Rattle.text.specs.Lengths.{low_mark, Within, Fits, least_of, Under, top_of, Agrees, Start4, Bounds3, Starts}
use Rattle.text.proofs.Along.{asked_last, asked_middle, asked_first, asked_none, asked_plain}

-- ---- one byte is placed, by the kind of the text

-- a byte that is less than those which begin a character begins none
begins_none : (lo hi y : ℕ) → Within lo hi y → y < lo → y < 0xC0
begins_none lo hi y w h = by_test (ltb y 0xC0) (ltb-true y 0xC0) (λ f. let k = w.lead (ltb-false y 0xC0 f) in absurd (omega arith))

module _ (a b c x : ℕ) where
  -- all have two bytes
  two_placed : Within 0xC2 0xDF a → Within 0xC2 0xDF b → Within 0xC2 0xDF c → is_tail x ≡ leb 0xC0 c → Placed a b c x
  two_placed p q r e =
      let pt = p.top in
      let qt = q.top in
      let rt = r.top in
      let same : leb 0xC0 c ≡ is_asked a b c =
      by_test (leb 0xC0 c) (λ t. t ∙ sym (asked_last a b c (leb-true 0xC0 c t))) (λ f. let k = leb-false 0xC0 c f in f ∙ sym (asked_none a b c (omega arith) (omega arith) (omega arith))) in
      record {
        agrees = e ∙ same;
        bounded = record { low3 = λ h. absurd (omega arith); high3 = λ h. absurd (omega arith); low4 = λ h. absurd (omega arith); high4 = λ h. absurd (omega arith); lead = r.lead; top = omega arith };
      }

  -- what one of the bytes before asks for continues a character
  asked_low : is_tail x ≡ is_asked a b c → 0xC0 ≤ c → 0x80 ≤ x
  asked_low e l = inside_low 0x80 0xBF x (e ∙ asked_last a b c l)

  -- any lengths
  any_placed : (0xC0 ≤ c → 0xC2 ≤ c) → c ≤ 0xF4 → Bounds3 c x → Start4 c x → (c ≡ 0xF4 → x ≤ 0x8F) → is_tail x ≡ is_asked a b c → Placed a b c x
  any_placed r u g h k e =
      record {
        agrees = e;
        bounded = record { low3 = λ i. g.low i (asked_low e (omega arith)); high3 = g.high; low4 = λ i. h i (asked_low e (omega arith)); high4 = k; lead = r; top = u };
      }

  -- at most three bytes
  wide_placed : a ≤ 0xEF → (0xC0 ≤ c → 0xC2 ≤ c) → c ≤ 0xEF → Bounds3 c x → is_tail x ≡ is_asked_plain b c → Placed a b c x
  wide_placed o r u g e = any_placed r (omega arith) g (λ i. absurd (omega arith)) (λ i. absurd (omega arith)) (e ∙ sym (asked_plain a b c (omega arith)))

  -- all have three bytes
  three_placed : Within 0xE0 0xEF a → Within 0xE0 0xEF b → Within 0xE0 0xEF c → Bounds3 c x → is_tail x ≡ (leb 0xE0 c || leb 0xE0 b) → Placed a b c x
  three_placed p q r g e =
      let rl = r.lead in
      let same : (leb 0xE0 c || leb 0xE0 b) ≡ is_asked_plain b c =
      by_test (leb 0xC0 c) (λ t. let k = rl (leb-true 0xC0 c t) in rw (t, le-leb 0xE0 c k)) (λ f. let k = leb-false 0xC0 c f in rw (f, lt-leb 0xE0 c (omega arith))) in
      wide_placed p.top (λ h. let k = rl h in omega arith) r.top g (e ∙ same)

  -- all have four bytes
  four_placed : Within 0xF0 0xF3 a → Within 0xF0 0xF3 b → Within 0xF0 0xF3 c → Start4 c x → is_tail x ≡ ((leb 0xF0 c || leb 0xF0 b) || leb 0xF0 a) → Placed a b c x
  four_placed p q r g e =
      let rl = r.lead in
      let rt = r.top in
      let same : ((leb 0xF0 c || leb 0xF0 b) || leb 0xF0 a) ≡ is_asked a b c =
      by_test (leb 0xF0 c) (λ t. let k = leb-true 0xF0 c t in rw t (sym (asked_last a b c (omega arith)))) (λ f.
      let k = leb-false 0xF0 c f in
      by_test (leb 0xF0 b) (λ t. let m = leb-true 0xF0 b t in rw (f, t) (sym (asked_middle a b c (omega arith)))) (λ h.
      let m = leb-false 0xF0 b h in
      by_test (leb 0xF0 a) (λ t. rw (f, h) (t ∙ sym (asked_first a b c (leb-true 0xF0 a t)))) (λ i.
      let n = begins_none 0xF0 0xF3 b q m in
      rw (f, h) (i ∙ sym (asked_none a b c (leb-false 0xF0 a i) (omega arith) (begins_none 0xF0 0xF3 c r k)))))) in
      let three : Bounds3 c x = record { low = λ h. let k = rl (omega arith) in absurd (omega arith); high = λ h. let k = rl (omega arith) in absurd (omega arith) } in
      any_placed (λ h. let k = rl h in omega arith) (omega arith) three g (λ h. absurd (omega arith)) (e ∙ same)

-- one of the five
placed_as : (n a b c x : ℕ) → 2 ≤ n → n ≤ 6 → Fits n a b → Fits n b c → Fits n c x → Under n a b → Under n c x → Starts n c x → Agrees n a b c x → Placed a b c x
placed_as n a b c x l h p q r o u g e =
    by_test (eqb n 2) (λ t. let k = eqb-true n 2 t in two_placed a b c x (p.two k) (q.two k) (r.two k) (e.two k)) (λ f₂.
    let y₂ = eqb-false n 2 f₂ in
    by_test (eqb n 3) (λ t. let k = eqb-true n 3 t in three_placed a b c x (p.three k).0 (q.three k).0 (r.three k).0 (r.three k).1 (e.three k)) (λ f₃.
    let y₃ = eqb-false n 3 f₃ in
    by_test (eqb n 4) (λ t. let k = eqb-true n 4 t in four_placed a b c x (p.four k).0 (q.four k).0 (r.four k).0 (r.four k).1 (e.four k)) (λ f₄.
    let y₄ = eqb-false n 4 f₄ in
    by_test (eqb n 5) (λ t. let k = eqb-true n 5 t in wide_placed a b c x (o.wide k).0 (r.mixed (omega arith)) (u.wide k).0 (u.wide k).1 (e.wide k)) (λ f₅.
    let y₅ = eqb-false n 5 f₅ in
    let k : n ≡ 6 = omega arith in
    any_placed a b c x (r.mixed (omega arith)) (u.any k).0 (g.any k).0 (g.any k).1 (u.any k).1 (e.any k)))))

-- ---- a block

-- what holds at n places from a place on
abbrev pub Each : (ℕ → Type 0) → ℕ → ℕ → Type 0
Each P at n = (j : ℕ) → at ≤ j → j < at + n → P j

pub each_none : (P : ℕ → Type 0) (at : ℕ) → Each P at 0
each_none P at j l h = absurd (omega arith)

pub each_more : (P : ℕ → Type 0) (at i : ℕ) → Each P at i → P (at + i) → Each P at (i + 1)
each_more P at i p q j l h = by_test (ltb j (at + i)) (λ t. p j l (ltb-true j (at + i) t)) (λ f. let m = ltb-false j (at + i) f in let k : at + i ≡ j = omega arith in subst P k q)

-- what is tested of the bytes behind three at j
abbrev pub AgreesAt : ℕ → List ℕ → ℕ → Type 0
AgreesAt n s j = Agrees n (get_or s j 0) (get_or s (j + 1) 0) (get_or s (j + 2) 0) (get_or s (j + 3) 0)

abbrev pub StartsAt : ℕ → List ℕ → ℕ → Type 0
StartsAt n s j = Starts n (get_or s (j + 2) 0) (get_or s (j + 3) 0)

-- and of two bytes at j
abbrev pub FitsAt : ℕ → List ℕ → ℕ → Type 0
FitsAt n s j = Fits n (get_or s j 0) (get_or s (j + 1) 0)

abbrev pub UnderAt : ℕ → List ℕ → ℕ → Type 0
UnderAt n s j = Under n (get_or s j 0) (get_or s (j + 1) 0)

-- two bytes, of which the place of the second is written in another way
at_two : (P : ℕ → ℕ → Type 0) (s : List ℕ) (j k m : ℕ) → m ≡ k → P (get_or s j 0) (get_or s m 0) → P (get_or s j 0) (get_or s k 0)
at_two P s j k m e p = subst (λ (y : ℕ). P (get_or s j 0) (get_or s y 0)) e p

-- a block whose bytes pass these tests is placed
pub block_placed : (n : ℕ) (s : List ℕ) (at m : ℕ) → 2 ≤ n → n ≤ 6 → Each (FitsAt n s) at (m + 2) → Each (UnderAt n s) at (m + 2) → Each (StartsAt n s) at m → Each (AgreesAt n s) at m → PlacedIn s at (at + m)
block_placed n s at m l h p u g e j x y = placed_as n (get_or s j 0) (get_or s (j + 1) 0) (get_or s (j + 2) 0) (get_or s (j + 3) 0) l h (p j x (omega arith)) (at_two (Fits n) s (j + 1) (j + 2) (j + 1 + 1) (omega arith) (p (j + 1) (omega arith) (omega arith))) (at_two (Fits n) s (j + 2) (j + 3) (j + 2 + 1) (omega arith) (p (j + 2) (omega arith) (omega arith))) (u j x (omega arith)) (at_two (Under n) s (j + 2) (j + 3) (j + 2 + 1) (omega arith) (u (j + 2) (omega arith) (omega arith))) (g j x y) (e j x y)

-- ---- turned bytes

-- whether a test holds of all numbers below n
unfoldable all_below : ℕ → (ℕ → Bool) → Bool
all_below zero p = true
all_below (suc n) p = p n && all_below n p

all_below_lem : (n : ℕ) (p : ℕ → Bool) → all_below n p ≡ true → (c : ℕ) → c < n → p c ≡ true
unfolding all_below
all_below_lem zero p e c h = absurd (omega arith)
all_below_lem (suc n) p e c h =
    let t = (and-eq-true_iff (p n) (all_below n p)).0 e in
    by_test (eqb c n) (λ i. rw (eqb-true c n i) t.0) (λ f. let k = eqb-false c n f in all_below_lem n p t.1 c (omega arith))

-- one of two holds, and not the first
or_else : (p q : Bool) → (p || q) ≡ true → p ≡ false → q ≡ true
or_else true q e f = absurd (true≢false f)
or_else false q e f = e

-- whether c is within lo..hi, if it begins a character
abbrev between : ℕ → ℕ → ℕ → Bool
between lo hi c = (ltb c 0xC0 || leb lo c) && leb c hi

between_within : (lo hi c : ℕ) → between lo hi c ≡ true → Within lo hi c
between_within lo hi c e =
    let q = (and-eq-true_iff (ltb c 0xC0 || leb lo c) (leb c hi)).0 e in
    record { lead = λ m. leb-true lo c (or_else (ltb c 0xC0) (leb lo c) q.0 (le-ltb c 0xC0 m)); top = leb-true c hi q.1 }

-- whether c, turned by t, is less than k, or else is within lo..hi, if it begins a character, and is not d
abbrev turned : (ℕ → ℕ) → ℕ → ℕ → ℕ → ℕ → ℕ → Bool
turned t k lo hi d c = ltb (t c) k || (between lo hi c && not (eqb c d))

turned_within : (t : ℕ → ℕ) (k lo hi d : ℕ) → all_below 256 (turned t k lo hi d) ≡ true → (c : ℕ) → c < 256 → k ≤ t c → Within lo hi c × (c ≡ d → ⊥)
turned_within t k lo hi d a c h l =
    let q = (and-eq-true_iff (between lo hi c) (not (eqb c d))).0 (or_else (ltb (t c) k) _ (all_below_lem 256 (turned t k lo hi d) a c h) (le-ltb (t c) k l)) in
    (between_within lo hi c q.0, λ e. true≢false (sym q.1 ∙ rw (eq-eqb c d e)))

-- the same where c, turned, is at most k, or else
abbrev turned_top : (ℕ → ℕ) → ℕ → ℕ → ℕ → ℕ → Bool
turned_top t k hi d c = ltb k (t c) || (leb c hi && not (eqb c d))

turned_under : (t : ℕ → ℕ) (k hi d : ℕ) → all_below 256 (turned_top t k hi d) ≡ true → (c : ℕ) → c < 256 → t c ≤ k → (c ≤ hi) × (c ≡ d → ⊥)
turned_under t k hi d a c h l =
    let q = (and-eq-true_iff (leb c hi) (not (eqb c d))).0 (or_else (ltb k (t c)) _ (all_below_lem 256 (turned_top t k hi d) a c h) (le-ltb k (t c) l)) in
    (leb-true c hi q.0, λ e. true≢false (sym q.1 ∙ rw (eq-eqb c d e)))

-- ---- a mark of a low byte

-- where x is in 80..top the mark stands, and else 0
module _ (x top mark : ℕ) where
  mark_low : (leb 0x80 x && leb x top) ≡ true → low_mark x top mark ≡ mark
  unfolding low_mark
  mark_low t = rw t

  mark_none : (leb 0x80 x && leb x top) ≡ false → low_mark x top mark ≡ 0
  unfolding low_mark
  mark_none f = rw f

  pub mark_taken : (leb 0x80 x && leb x top) ≡ true → mark ≡ low_mark x top mark
  mark_taken t = sym (mark_low t)

  pub mark_left : (leb 0x80 x && leb x top) ≡ false → 0 ≡ low_mark x top mark
  mark_left f = sym (mark_none f)

-- what that says of x
low_top : (x top : ℕ) → (leb 0x80 x && leb x top) ≡ true → x ≤ top
low_top x top t = leb-true x top ((and-eq-true_iff (leb 0x80 x) (leb x top)).0 t).1

beyond : (x top : ℕ) → (leb 0x80 x && leb x top) ≡ false → 0x80 ≤ x → top < x
beyond x top f l = leb-false x top (by_test (leb x top) (λ t. absurd (true≢false (sym (rw (le-leb 0x80 x l, t)) ∙ f))) (λ g. g))

-- the bounds of E0 and ED, by whether x is low
low_bounds : (c x : ℕ) → (leb 0x80 x && leb x 0x9F) ≡ true → (c ≡ 0xE0 → ⊥) → Bounds3 c x
low_bounds c x t n = record { low = λ e. absurd (n e); high = λ _. low_top x 0x9F t }

high_bounds : (c x : ℕ) → (leb 0x80 x && leb x 0x9F) ≡ false → (c ≡ 0xED → ⊥) → Bounds3 c x
high_bounds c x f n = record { low = λ _ l. let k = beyond x 0x9F f l in omega arith; high = λ e. absurd (n e) }

-- ---- what a turned byte says, by the kind of the text

two_turned : (c : ℕ) → c < 256 → 0x22 ≤ bit_xor c 0xE0 → Within 0xC2 0xDF c
unfolding all_below
two_turned c h l = (turned_within (λ (y : ℕ). bit_xor y 0xE0) 0x22 0xC2 0xDF 256 refl c h l).0

any_turned : (c : ℕ) → c < 256 → 2 ≤ bit_xor c 0xC0 → Within 0xC2 0xFF c
unfolding all_below
any_turned c h l = (turned_within (λ (y : ℕ). bit_xor y 0xC0) 2 0xC2 0xFF 256 refl c h l).0

three_turned : (c x : ℕ) → c < 256 → 0x31 ≤ bit_xor (bit_xor c 0xDD) (low_mark x 0x9F 0x0D) → Within 0xE0 0xEF c × Bounds3 c x
unfolding all_below
three_turned c x h l =
    by_test (leb 0x80 x && leb x 0x9F)
    (λ t. let w = turned_within (λ (y : ℕ). bit_xor (bit_xor y 0xDD) 0x0D) 0x31 0xE0 0xEF 0xE0 refl c h (rw (mark_low x 0x9F 0x0D t) at l) in (w.0, low_bounds c x t w.1))
    (λ f. let w = turned_within (λ (y : ℕ). bit_xor (bit_xor y 0xDD) 0) 0x31 0xE0 0xEF 0xED refl c h (rw (mark_none x 0x9F 0x0D f) at l) in (w.0, high_bounds c x f w.1))

four_turned : (c x : ℕ) → c < 256 → 0x3C + low_mark x 0x8F 1 ≤ bit_xor c 0xCC → Within 0xF0 0xF3 c × Start4 c x
unfolding all_below
four_turned c x h l =
    by_test (leb 0x80 x && leb x 0x8F)
    (λ t. let w = turned_within (λ (y : ℕ). bit_xor y 0xCC) 0x3D 0xF0 0xF3 0xF0 refl c h (rw (mark_low x 0x8F 1 t) at l) in (w.0, λ e _. absurd (w.1 e)))
    (λ f. let w = turned_within (λ (y : ℕ). bit_xor y 0xCC) 0x3C 0xF0 0xF3 256 refl c h (rw (mark_none x 0x8F 1 f) at l) in (w.0, λ _ m. beyond x 0x8F f m))

wide_turned : (c x : ℕ) → c < 256 → bit_xor (bit_xor c 2) (low_mark x 0x9F 0x0D) ≤ 0xEE → (c ≤ 0xEF) × Bounds3 c x
unfolding all_below
wide_turned c x h l =
    by_test (leb 0x80 x && leb x 0x9F)
    (λ t. let w = turned_under (λ (y : ℕ). bit_xor (bit_xor y 2) 0x0D) 0xEE 0xEF 0xE0 refl c h (rw (mark_low x 0x9F 0x0D t) at l) in (w.0, low_bounds c x t w.1))
    (λ f. let w = turned_under (λ (y : ℕ). bit_xor (bit_xor y 2) 0) 0xEE 0xEF 0xED refl c h (rw (mark_none x 0x9F 0x0D f) at l) in (w.0, high_bounds c x f w.1))

last_turned : (c x : ℕ) → c < 0xF4 + low_mark x 0x8F 1 → (c ≤ 0xF4) × (c ≡ 0xF4 → x ≤ 0x8F)
last_turned c x l =
    by_test (leb 0x80 x && leb x 0x8F)
    (λ t. let k : c < 0xF4 + 1 = rw (mark_low x 0x8F 1 t) at l in (omega arith, λ _. low_top x 0x8F t))
    (λ f. let k : c < 0xF4 + 0 = rw (mark_none x 0x8F 1 f) at l in (omega arith, λ e. absurd (omega arith)))

-- a byte that is turned into ED, or else is neither d nor e
abbrev turned_not : (ℕ → ℕ) → ℕ → ℕ → ℕ → Bool
turned_not t d e c = eqb (t c) 0xED || (not (eqb c d) && not (eqb c e))

turned_not_lem : (t : ℕ → ℕ) (d e : ℕ) → all_below 256 (turned_not t d e) ≡ true → (c : ℕ) → c < 256 → not (eqb (t c) 0xED) ≡ true → (c ≡ d → ⊥) × (c ≡ e → ⊥)
turned_not_lem t d e a c h l =
    let q = (and-eq-true_iff (not (eqb c d)) (not (eqb c e))).0 (or_else (eqb (t c) 0xED) _ (all_below_lem 256 (turned_not t d e) a c h) (not-true (eqb (t c) 0xED) l)) in
    (λ i. true≢false (sym q.0 ∙ rw (eq-eqb c d i)), λ i. true≢false (sym q.1 ∙ rw (eq-eqb c e i)))

-- a byte in 80..8F is in 80..9F
lower : (x : ℕ) → (leb 0x80 x && leb x 0x8F) ≡ true → (leb 0x80 x && leb x 0x9F) ≡ true
lower x t = let q = (and-eq-true_iff (leb 0x80 x) (leb x 0x8F)).0 t in let k = leb-true x 0x8F q.1 in rw (q.0, le-leb x 0x9F (omega arith))

-- the code's test for E0, ED and F0
abbrev start_turned : ℕ → ℕ → ℕ → ℕ
start_turned m n c = bit_xor (bit_and c (0xFF - m)) n

start_turned_lem : (c x : ℕ) → c < 256 → not (eqb (start_turned (low_mark x 0x8F 0x10) (low_mark x 0x9F 0x0D) c) 0xED) ≡ true → Bounds3 c x × Start4 c x
unfolding all_below
start_turned_lem c x h l =
    by_test (leb 0x80 x && leb x 0x8F)
    (λ t.
    let w = turned_not_lem (start_turned 0x10 0x0D) 0xE0 0xF0 refl c h (rw (mark_low x 0x8F 0x10 t, mark_low x 0x9F 0x0D (lower x t)) at l) in
    (low_bounds c x (lower x t) w.0, λ e _. absurd (w.1 e)))
    (λ f.
    by_test (leb 0x80 x && leb x 0x9F)
    (λ t. let w = turned_not_lem (start_turned 0 0x0D) 0xE0 256 refl c h (rw (mark_none x 0x8F 0x10 f, mark_low x 0x9F 0x0D t) at l) in (low_bounds c x t w.0, λ _ m. beyond x 0x8F f m))
    (λ g. let w = turned_not_lem (start_turned 0 0) 0xED 256 refl c h (rw (mark_none x 0x8F 0x10 f, mark_none x 0x9F 0x0D g) at l) in (high_bounds c x g w.0, λ _ m. beyond x 0x8F f m)))

module _ (n : ℕ) where
  pub least_two : n ≡ 2 → least_of n ≡ 0x22
  unfolding least_of
  least_two e = rw e

  pub least_three : n ≡ 3 → least_of n ≡ 0x31
  unfolding least_of
  least_three e = rw e

  pub least_four : n ≡ 4 → least_of n ≡ 0x3C
  unfolding least_of
  least_four e = rw e

  pub least_wide : (n ≡ 2 → ⊥) → (n ≡ 3 → ⊥) → (n ≡ 4 → ⊥) → least_of n ≡ 2
  unfolding least_of
  least_wide x y z = rw (ne_eqb n 2 x, ne_eqb n 3 y, ne_eqb n 4 z)

  pub top_wide : n ≡ 5 → top_of n ≡ 0xEE
  unfolding top_of
  top_wide e = rw e

  pub top_any : n ≡ 6 → top_of n ≡ 0xF3
  unfolding top_of
  top_any e = rw e

  pub top_none : (n ≡ 5 → ⊥) → (n ≡ 6 → ⊥) → top_of n ≡ 0xFF
  unfolding top_of
  top_none x y = rw (ne_eqb n 5 x, ne_eqb n 6 y)

  module _ (c x : ℕ) (h : c < 256) where
    pub fits_two : n ≡ 2 → least_of n ≤ bit_xor c 0xE0 → Fits n c x
    fits_two e z =
        let w = two_turned c h (rw (least_two e) at z) in
        record { two = λ _. w; three = λ i. absurd (omega arith); four = λ i. absurd (omega arith); mixed = λ i. absurd (omega arith) }

    pub fits_three : n ≡ 3 → (m : ℕ) → m ≡ low_mark x 0x9F 0x0D → least_of n ≤ bit_xor (bit_xor c 0xDD) m → Fits n c x
    fits_three e m k z =
        let w = three_turned c x h (rw (least_three e, k) at z) in
        record { two = λ i. absurd (omega arith); three = λ _. w; four = λ i. absurd (omega arith); mixed = λ i. absurd (omega arith) }

    pub fits_four : n ≡ 4 → (m : ℕ) → m ≡ low_mark x 0x8F 1 → (r : ℕ) → ((k : ℕ) → 1 ≤ k → leb k r ≡ leb (k + m) (bit_xor c 0xCC)) → least_of n ≤ r → Fits n c x
    fits_four e m k r f z =
        let l : 0x3C ≤ r = rw (least_four e) at z in
        let t : 0x3C + m ≤ bit_xor c 0xCC = leb-true (0x3C + m) (bit_xor c 0xCC) (sym (f 0x3C (omega arith)) ∙ le-leb 0x3C r l) in
        let w = four_turned c x h (rw k at t) in
        record { two = λ i. absurd (omega arith); three = λ i. absurd (omega arith); four = λ _. w; mixed = λ i. absurd (omega arith) }

    pub fits_mixed : (n ≡ 2 → ⊥) → (n ≡ 3 → ⊥) → (n ≡ 4 → ⊥) → least_of n ≤ bit_xor c 0xC0 → Fits n c x
    fits_mixed f₂ f₃ f₄ z =
        let w = any_turned c h (rw (least_wide f₂ f₃ f₄) at z) in
        record { two = λ i. absurd (f₂ i); three = λ i. absurd (f₃ i); four = λ i. absurd (f₄ i); mixed = λ _. w.lead }

    pub under_wide : n ≡ 5 → (m : ℕ) → m ≡ low_mark x 0x9F 0x0D → bit_xor (bit_xor c 2) m ≤ top_of n → Under n c x
    under_wide e m k z =
        let w = wide_turned c x h (rw (top_wide e, k) at z) in
        record { wide = λ _. w; any = λ i. absurd (omega arith) }

    pub under_any : (n ≡ 5 → ⊥) → (m : ℕ) → m ≡ low_mark x 0x8F 1 → (r : ℕ) → ((k : ℕ) → 1 ≤ k → leb k r ≡ leb (k + m) c) → r ≤ top_of n → Under n c x
    under_any f₅ m k r f z =
        record {
          wide = λ i. absurd (f₅ i);
          any = λ e.
              let l : r ≤ 0xF3 = rw (top_any e) at z in
              let t : c < 0xF4 + m = leb-false (0xF4 + m) c (sym (f 0xF4 (omega arith)) ∙ lt-leb 0xF4 r (omega arith)) in
              last_turned c x (rw k at t);
        }

    pub starts_any : (m : ℕ) → m ≡ low_mark x 0x8F 0x10 → (k : ℕ) → k ≡ low_mark x 0x9F 0x0D → not (eqb (bit_xor (bit_and c (0xFF - m)) k) 0xED) ≡ true → Starts n c x
    starts_any m e k f z = let w = start_turned_lem c x h (rw (e, f) at z) in record { any = λ _. w }

  pub starts_none : (c x : ℕ) → n < 6 → Starts n c x
  starts_none c x h = record { any = λ i. absurd (omega arith) }

-- ---- what the code's numbers say

-- a difference of two bytes, and none
pub above_none : (x k m : ℕ) → x < k → 1 ≤ m → leb m 0 ≡ leb (m + k) x
above_none x k m h l = lt-leb m 0 (omega arith) ∙ sym (lt-leb (m + k) x (omega arith))

pub above_some : (x k m : ℕ) → k ≤ x → leb m (x - k) ≡ leb (m + k) x
above_some x k m h =
    by_test (leb m (x - k))
    (λ t. let l = leb-true m (x - k) t in t ∙ sym (le-leb (m + k) x (omega arith)))
    (λ f. let l = leb-false m (x - k) f in f ∙ sym (lt-leb (m + k) x (omega arith)))

-- the greater of two is at least k if and only if one of them is
pub leb_right : (k p q : ℕ) → p < q → leb k q ≡ (leb k p || leb k q)
leb_right k p q h = by_test (leb k p) (λ t. let l = leb-true k p t in rw t (le-leb k q (omega arith))) (λ f. rw f)

pub leb_left : (k p q : ℕ) → q ≤ p → leb k p ≡ (leb k p || leb k q)
leb_left k p q h = by_test (leb k p) (λ t. rw t) (λ f. let l = leb-false k p f in rw f (sym (lt-leb k q (omega arith))))

-- and it is no less than they
pub greater_both : (r p q : ℕ) → ((k : ℕ) → leb k r ≡ (leb k p || leb k q)) → (p ≤ r) × (q ≤ r)
greater_both r p q f = (
  leb-true p r (f p ∙ rw (le-leb p p (omega arith))),
  leb-true q r (f q ∙ by_test (leb q p) (λ t. rw t) (λ e. rw (e, le-leb q q (omega arith)))),
)

-- a byte that continues a character, and one that does not
pub agreed_tail : (x asked : ℕ) → is_tail x ≡ true → 0x80 ≤ asked → is_tail x ≡ leb 0x80 asked
agreed_tail x asked e z = e ∙ sym (le-leb 0x80 asked z)

pub agreed_other : (x asked : ℕ) → is_tail x ≡ false → 0x80 ≤ 0xFF - asked → is_tail x ≡ leb 0x80 asked
agreed_other x asked e z = e ∙ sym (lt-leb 0x80 asked (omega arith))

-- by the kind of the text
module _ {n a b c x : ℕ} where
  pub agrees_two : n ≡ 2 → is_tail x ≡ leb 0xC0 c → Agrees n a b c x
  agrees_two e t = record { two = λ _. t; three = λ i. absurd (omega arith); four = λ i. absurd (omega arith); wide = λ i. absurd (omega arith); any = λ i. absurd (omega arith) }

  pub agrees_three : n ≡ 3 → is_tail x ≡ (leb 0xE0 c || leb 0xE0 b) → Agrees n a b c x
  agrees_three e t = record { two = λ i. absurd (omega arith); three = λ _. t; four = λ i. absurd (omega arith); wide = λ i. absurd (omega arith); any = λ i. absurd (omega arith) }

  pub agrees_four : n ≡ 4 → is_tail x ≡ ((leb 0xF0 c || leb 0xF0 b) || leb 0xF0 a) → Agrees n a b c x
  agrees_four e t = record { two = λ i. absurd (omega arith); three = λ i. absurd (omega arith); four = λ _. t; wide = λ i. absurd (omega arith); any = λ i. absurd (omega arith) }

  pub agrees_wide : n ≡ 5 → is_tail x ≡ is_asked_plain b c → Agrees n a b c x
  agrees_wide e t = record { two = λ i. absurd (omega arith); three = λ i. absurd (omega arith); four = λ i. absurd (omega arith); wide = λ _. t; any = λ i. absurd (omega arith) }

  pub agrees_any : (n ≡ 2 → ⊥) → (n ≡ 3 → ⊥) → (n ≡ 4 → ⊥) → (n ≡ 5 → ⊥) → is_tail x ≡ is_asked a b c → Agrees n a b c x
  agrees_any f₂ f₃ f₄ f₅ t = record { two = λ i. absurd (f₂ i); three = λ i. absurd (f₃ i); four = λ i. absurd (f₄ i); wide = λ i. absurd (f₅ i); any = λ _. t }

-- ---- along a block

-- what the least numbers, the greatest and the answer say, after i bytes
pub record Tested (n : ℕ) (s : List ℕ) (at even low top : ℕ) (right : Bool) (i : ℕ) : Type 0 where
  pub agrees : 0x80 ≤ even → Each (AgreesAt n s) at i
  pub fits : least_of n ≤ low → Each (FitsAt n s) at (i + 2)
  pub under : top ≤ top_of n → Each (UnderAt n s) at (i + 2)
  pub starts : right ≡ true → Each (StartsAt n s) at i

-- what holds of two bytes, and of the next one behind some
each_two : (P : ℕ → Type 0) (at : ℕ) → P at → P (at + 1) → Each P at 2
each_two P at f g j u v = by_test (eqb j at) (λ t. subst P (sym (eqb-true j at t)) f) (λ h. let k = eqb-false j at h in let m : at + 1 ≡ j = omega arith in subst P m g)

each_next : (P : ℕ → Type 0) (at i : ℕ) → Each P at (i + 2) → P (at + i + 2) → Each P at (i + 1 + 2)
each_next P at i p q j u v = by_test (ltb j (at + i + 2)) (λ t. let k = ltb-true j (at + i + 2) t in p j u (omega arith)) (λ f. let k = ltb-false j (at + i + 2) f in let m : at + i + 2 ≡ j = omega arith in subst P m q)

module _ (n : ℕ) (s : List ℕ) (at : ℕ) where
  pub tested_first : (p q l : ℕ) → l ≤ p → l ≤ q → (least_of n ≤ p → FitsAt n s at) → (least_of n ≤ q → Fits n (get_or s (at + 1) 0) (get_or s (at + 2) 0)) → (u v top : ℕ) → ((k : ℕ) → leb k top ≡ (leb k u || leb k v)) → (u ≤ top_of n → UnderAt n s at) → (v ≤ top_of n → Under n (get_or s (at + 1) 0) (get_or s (at + 2) 0)) → Tested n s at 0xFF l top true 0
  tested_first p q l x y f g u v top t d e =
      let o = greater_both top u v t in
      record {
        agrees = λ z. each_none (AgreesAt n s) at;
        fits = λ z. each_two (FitsAt n s) at (f (le_trans z x)) (at_two (Fits n) s (at + 1) (at + 1 + 1) (at + 2) (omega arith) (g (le_trans z y)));
        under = λ z. each_two (UnderAt n s) at (d (le_trans o.0 z)) (at_two (Under n) s (at + 1) (at + 1 + 1) (at + 2) (omega arith) (e (le_trans o.1 z)));
        starts = λ z. each_none (StartsAt n s) at;
      }

  pub tested_more : (i : ℕ) {even low top : ℕ} {right : Bool} → Tested n s at even low top right i → {even' r : ℕ} → even' ≤ even → even' ≤ r → (0x80 ≤ r → AgreesAt n s (at + i)) → {low' q : ℕ} → low' ≤ low → low' ≤ q → (least_of n ≤ q → Fits n (get_or s (at + i + 2) 0) (get_or s (at + i + 3) 0)) → {top' u : ℕ} → ((k : ℕ) → leb k top' ≡ (leb k top || leb k u)) → (u ≤ top_of n → Under n (get_or s (at + i + 2) 0) (get_or s (at + i + 3) 0)) → {b : Bool} → (b ≡ true → StartsAt n s (at + i)) → Tested n s at even' low' top' (right && b) (i + 1)
  tested_more i {even} {low} {top} {right} p {even'} {r} e₁ e₂ ag {low'} {q} l₁ l₂ ft {top'} {u} t un {b} st =
      let o = greater_both top' top u t in
      record {
        agrees = λ z. each_more (AgreesAt n s) at i (p.agrees (le_trans z e₁)) (ag (le_trans z e₂));
        fits = λ z. each_next (FitsAt n s) at i (p.fits (le_trans z l₁)) (at_two (Fits n) s (at + i + 2) (at + i + 2 + 1) (at + i + 3) (omega arith) (ft (le_trans z l₂)));
        under = λ z. each_next (UnderAt n s) at i (p.under (le_trans o.0 z)) (at_two (Under n) s (at + i + 2) (at + i + 2 + 1) (at + i + 3) (omega arith) (un (le_trans o.1 z)));
        starts = λ z. let t = (and-eq-true_iff right b).0 z in each_more (StartsAt n s) at i (p.starts t.0) (st t.1);
      }

  pub tested_all : 2 ≤ n → n ≤ 6 → (w : ℕ) {even low top k m : ℕ} {right : Bool} → Tested n s at even low top right w → k ≡ least_of n → m ≡ top_of n → (((right && leb 0x80 even) && leb k low) && leb top m) ≡ true → PlacedIn s at (at + w)
  tested_all l h w {even} {low} {top} {k} {m} {right} p e f z =
      let v = (and-eq-true_iff ((right && leb 0x80 even) && leb k low) (leb top m)).0 z in
      let t = (and-eq-true_iff (right && leb 0x80 even) (leb k low)).0 v.0 in
      let u = (and-eq-true_iff right (leb 0x80 even)).0 t.0 in
      block_placed n s at w l h (p.fits (rw e at (leb-true k low t.1))) (p.under (rw f at (leb-true top m v.1))) (p.starts u.0) (p.agrees (leb-true 0x80 even u.1))
