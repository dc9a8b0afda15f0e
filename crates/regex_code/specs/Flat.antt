-- The flat code of an expression, in words: operator first, then its operands, with the words r behind it.
--   0                      the empty expression
--   1 F N L H L H ..       a class: F is 1 for the complement and 0 else, N the number of ranges, each from L to H
--   2 X Y                  X and then Y
--   3 X Y                  X or Y
--   4 L H X                X from L to H times
--   5 L X                  X at least L times
-- `of-..`: what holds of each expression with such a first word holds of the expression. Assumes nothing.
use Rattle.std.specs.Prelude.{◌≡◌, refl, List, [], ◌∷◌, ◌++◌, Bool, true, false, ℕ, suc, ◌+◌, ◌-◌, ◌*◌, ◌≤◌, ◌<◌, length, drop, get_or}
use Rattle.std.proofs.Common.{ap, sym, ◌∙◌, arith, length-drop, drop-drop}
use Rattle.regex_definition.specs.Words.{Most, upto, any}
use Rattle.regex_definition.specs.Regexp.{Range, Regexp, empty, class, then, or, times}
use Rattle.basics.specs.Lists.{drop_at as word, tail_same as tail}

abbrev pub flag : Bool → ℕ
flag false = 0
flag true = 1

abbrev pub flat_ranges : List Range → List ℕ → List ℕ
flat_ranges [] r = r
flat_ranges (g ∷ gs) r = g.low ∷ g.high ∷ flat_ranges gs r

abbrev pub flat_times : ℕ → Most → List ℕ → List ℕ
flat_times lo (upto h) r = 4 ∷ lo ∷ h ∷ r
flat_times lo any r = 5 ∷ lo ∷ r

abbrev pub flat : Regexp → List ℕ → List ℕ
flat empty r = 0 ∷ r
flat (class comp gs) r = 1 ∷ flag comp ∷ length gs ∷ flat_ranges gs r
flat (then x y) r = 2 ∷ flat x (flat y r)
flat (or x y) r = 3 ∷ flat x (flat y r)
flat (times lo hi x) r = flat_times lo hi (flat x r)

module _ (k : ℕ) (l : List ℕ) where
  differ : (n : ℕ) (m : List ℕ) → (k ≡ n → ⊥) → k ∷ l ≡ n ∷ m → ⊥
  differ n m h e = h (cc)

pub head : {k n : ℕ} {l m : List ℕ} → k ∷ l ≡ n ∷ m → k ≡ n
head e = cc

-- every expression has a word
some_code : (x : Regexp) (r : List ℕ) → 1 ≤ length (flat x r)
some_code empty r = omega arith
some_code (class comp gs) r = omega arith
some_code (then x y) r = omega arith
some_code (or x y) r = omega arith
some_code (times lo (upto n) x) r = omega arith
some_code (times lo any x) r = omega arith

module _ (F : Regexp → List ℕ → Type 0) (k : ℕ) (l : List ℕ) where
  pub of_empty : k ≡ 0 → ((r : List ℕ) → l ≡ r → F empty r) → (x : Regexp) (r : List ℕ) → k ∷ l ≡ flat x r → F x r
  of_empty h f empty r e = f r (tail e)
  of_empty h f (class comp gs) r e = absurd (differ k l _ _ (omega arith) e)
  of_empty h f (then x y) r e = absurd (differ k l _ _ (omega arith) e)
  of_empty h f (or x y) r e = absurd (differ k l _ _ (omega arith) e)
  of_empty h f (times lo (upto n) x) r e = absurd (differ k l _ _ (omega arith) e)
  of_empty h f (times lo any x) r e = absurd (differ k l _ _ (omega arith) e)

  pub of_class :
      k ≡ 1 → ((comp : Bool) (gs : List Range) (r : List ℕ) → l ≡ flag comp ∷ length gs ∷ flat_ranges gs r → F (class comp gs) r)
      → (x : Regexp) (r : List ℕ) → k ∷ l ≡ flat x r → F x r
  of_class h f empty r e = absurd (differ k l _ _ (omega arith) e)
  of_class h f (class comp gs) r e = f comp gs r (tail e)
  of_class h f (then x y) r e = absurd (differ k l _ _ (omega arith) e)
  of_class h f (or x y) r e = absurd (differ k l _ _ (omega arith) e)
  of_class h f (times lo (upto n) x) r e = absurd (differ k l _ _ (omega arith) e)
  of_class h f (times lo any x) r e = absurd (differ k l _ _ (omega arith) e)

  pub of_then :
      k ≡ 2 → ((x y : Regexp) (r : List ℕ) → l ≡ flat x (flat y r) → F (then x y) r) → (x : Regexp) (r : List ℕ)
      → k ∷ l ≡ flat x r → F x r
  of_then h f empty r e = absurd (differ k l _ _ (omega arith) e)
  of_then h f (class comp gs) r e = absurd (differ k l _ _ (omega arith) e)
  of_then h f (then x y) r e = f x y r (tail e)
  of_then h f (or x y) r e = absurd (differ k l _ _ (omega arith) e)
  of_then h f (times lo (upto n) x) r e = absurd (differ k l _ _ (omega arith) e)
  of_then h f (times lo any x) r e = absurd (differ k l _ _ (omega arith) e)

  pub of_or :
      k ≡ 3 → ((x y : Regexp) (r : List ℕ) → l ≡ flat x (flat y r) → F (or x y) r) → (x : Regexp) (r : List ℕ)
      → k ∷ l ≡ flat x r → F x r
  of_or h f empty r e = absurd (differ k l _ _ (omega arith) e)
  of_or h f (class comp gs) r e = absurd (differ k l _ _ (omega arith) e)
  of_or h f (then x y) r e = absurd (differ k l _ _ (omega arith) e)
  of_or h f (or x y) r e = f x y r (tail e)
  of_or h f (times lo (upto n) x) r e = absurd (differ k l _ _ (omega arith) e)
  of_or h f (times lo any x) r e = absurd (differ k l _ _ (omega arith) e)

  pub of_upto :
      k ≡ 4 → ((lo n : ℕ) (x : Regexp) (r : List ℕ) → l ≡ lo ∷ n ∷ flat x r → F (times lo (upto n) x) r) → (x : Regexp)
      (r : List ℕ) → k ∷ l ≡ flat x r → F x r
  of_upto h f empty r e = absurd (differ k l _ _ (omega arith) e)
  of_upto h f (class comp gs) r e = absurd (differ k l _ _ (omega arith) e)
  of_upto h f (then x y) r e = absurd (differ k l _ _ (omega arith) e)
  of_upto h f (or x y) r e = absurd (differ k l _ _ (omega arith) e)
  of_upto h f (times lo (upto n) x) r e = f lo n x r (tail e)
  of_upto h f (times lo any x) r e = absurd (differ k l _ _ (omega arith) e)

  pub of_any :
      k ≡ 5 → ((lo : ℕ) (x : Regexp) (r : List ℕ) → l ≡ lo ∷ flat x r → F (times lo any x) r) → (x : Regexp) (r : List ℕ)
      → k ∷ l ≡ flat x r → F x r
  of_any h f empty r e = absurd (differ k l _ _ (omega arith) e)
  of_any h f (class comp gs) r e = absurd (differ k l _ _ (omega arith) e)
  of_any h f (then x y) r e = absurd (differ k l _ _ (omega arith) e)
  of_any h f (or x y) r e = absurd (differ k l _ _ (omega arith) e)
  of_any h f (times lo (upto n) x) r e = absurd (differ k l _ _ (omega arith) e)
  of_any h f (times lo any x) r e = f lo x r (tail e)

  -- a repeat has three words or more
  pub of_short : 3 < k → length l < 2 → (x : Regexp) (r : List ℕ) → k ∷ l ≡ flat x r → F x r
  of_short h m empty r e = absurd (differ k l _ _ (omega arith) e)
  of_short h m (class comp gs) r e = absurd (differ k l _ _ (omega arith) e)
  of_short h m (then x y) r e = absurd (differ k l _ _ (omega arith) e)
  of_short h m (or x y) r e = absurd (differ k l _ _ (omega arith) e)
  of_short h m (times lo (upto n) x) r e = absurd (omega (arith, ap length e))
  of_short h m (times lo any x) r e = absurd (omega (arith, ap length e, some_code x r))

  -- any other word begins no code
  pub of_other : 5 < k → (x : Regexp) (r : List ℕ) → k ∷ l ≡ flat x r → F x r
  of_other h empty r e = absurd (differ k l _ _ (omega arith) e)
  of_other h (class comp gs) r e = absurd (differ k l _ _ (omega arith) e)
  of_other h (then x y) r e = absurd (differ k l _ _ (omega arith) e)
  of_other h (or x y) r e = absurd (differ k l _ _ (omega arith) e)
  of_other h (times lo (upto n) x) r e = absurd (differ k l _ _ (omega arith) e)
  of_other h (times lo any x) r e = absurd (differ k l _ _ (omega arith) e)

-- and so does nothing at all
pub of_nothing : (F : Regexp → List ℕ → Type 0) (x : Regexp) (r : List ℕ) → [] ≡ flat x r → F x r
of_nothing F empty r e = absurd (let z : ◌≡◌ {A = ℕ} 0 1 = cc in omega arith)
of_nothing F (class comp gs) r e = absurd (let z : ◌≡◌ {A = ℕ} 0 1 = cc in omega arith)
of_nothing F (then x y) r e = absurd (let z : ◌≡◌ {A = ℕ} 0 1 = cc in omega arith)
of_nothing F (or x y) r e = absurd (let z : ◌≡◌ {A = ℕ} 0 1 = cc in omega arith)
of_nothing F (times lo (upto n) x) r e = absurd (let z : ◌≡◌ {A = ℕ} 0 1 = cc in omega arith)
of_nothing F (times lo any x) r e = absurd (let z : ◌≡◌ {A = ℕ} 0 1 = cc in omega arith)

pub behind : (s : List ℕ) (i n : ℕ) (l : List ℕ) → drop (i + 1) s ≡ l → drop (i + 1 + n) s ≡ drop n l
behind s i n l e = sym (drop-drop n (i + 1) s) ∙ ap (drop n) e

pub word_of : (s : List ℕ) (i k : ℕ) (l : List ℕ) → drop i s ≡ k ∷ l → (i < length s) × (get_or s i 0 ≡ k) × (drop (i + 1) s ≡ l)
word_of s i k l e =
    let h : length s - i ≡ suc (length l) = sym (length-drop i s) ∙ ap length e in
    let p : i < length s = omega arith in
    let w = word s i p in
    (p, cc, cc)

-- the word k stands at a place
pub record Word (s : List ℕ) (at k : ℕ) : Type 0 where
  pub here : at < length s
  pub is : get_or s at 0 ≡ k

-- the words of ranges are two for each, and what is behind them is behind them
pub drop_ranges : (gs : List Range) (r : List ℕ) → drop (2 * length gs) (flat_ranges gs r) ≡ r
drop_ranges [] r = refl
drop_ranges (g ∷ gs) r =
    let z : 2 * length (g ∷ gs) ≡ suc (suc (2 * length gs)) = omega arith in
    rw z (drop_ranges gs r)

-- appended to the ranges, one more has its words behind theirs
pub flat_ranges_append : (gs : List Range) (g : Range) (r : List ℕ) → flat_ranges (gs ++ g ∷ []) r ≡ flat_ranges gs (g.low ∷ g.high ∷ r)
flat_ranges_append [] g r = refl
flat_ranges_append (h ∷ gs) g r = ap (λ l. h.low ∷ h.high ∷ l) (flat_ranges_append gs g r)
