-- The scalar values of a text: of the bytes of any code points they are these, so of a UTF-8 text they are what it encodes; and how many they are can be counted by bytes.
-- Assumes nothing.
use Rattle.std.specs.Prelude.{ℕ, ◌+◌, ◌-◌, ◌*◌, ◌/◌, ◌%◌, ◌≤◌, ◌<◌, ◌≡◌, refl, ◌⊎◌, List, [], ◌∷◌, ◌++◌, Bool, true, false, cond, leb, ltb, length}
use Rattle.std.proofs.Common.{sym, ◌∙◌, subst, inl, inr}
use Rattle.std.proofs.Math.Path.{ap}
use Rattle.std.proofs.Math.Bool.{and-false}
use Rattle.std.proofs.Math.Nat.{div-div-eq-div-mul}
use native.Mathlib.Omega.{arith}
use borrow.Author.Tests.{lt-ltb, le-ltb, le-leb, lt-leb, ltb-true, ltb-false}
use Rattle.definition.specs.Bytes.{every}
use Rattle.definition.specs.Utf8.{is_scalar, encode, encode_all, is_utf8, continues, leading, continued, scalars_of}
use Rattle.utf8_laws.specs.Bytes.{by_test, inside}
use Rattle.utf8_laws.specs.Encode.{encode_one, encode_two, encode_three, encode_four}
use Rattle.utf8_laws.specs.Decode.{decode}

-- ---- bytes that continue a character, and bytes that begin one

-- bytes from 80 to BF continue a character
pub continues_inside : (b : ℕ) → 0x80 ≤ b → b ≤ 0xBF → continues b ≡ true
continues_inside b l h = inside 0x80 0xBF b l h

-- all others begin one
pub begins_below : (b : ℕ) → b < 0x80 → continues b ≡ false
begins_below b h = rw (lt-leb 0x80 b h)

pub begins_above : (b : ℕ) → 0xC0 ≤ b → continues b ≡ false
begins_above b h = rw (lt-leb b 0xBF (omega arith)) (and-false (leb 0x80 b))

-- a byte that continues a character adds six bits to it, and no character
more : (c b : ℕ) (s : List ℕ) → b < 64 → (continued c ((0x80 + b) ∷ s) ≡ continued (c * 64 + b) s) × (scalars_of ((0x80 + b) ∷ s) ≡ scalars_of s)
unfolding continued scalars_of
more c b s h =
    let e = continues_inside (0x80 + b) (omega arith) (omega arith) in
    let k : 0x80 + b - 0x80 ≡ b = omega arith in
    (rw (e, k), rw e)

-- a byte that begins a character is the first of one
first : (b c : ℕ) (s : List ℕ) → continues b ≡ false → leading b ≡ c → scalars_of (b ∷ s) ≡ continued c s ∷ scalars_of s
unfolding scalars_of
first b c s e k = rw (e, k)

-- ---- the bytes of a code point, in front of what continues no character

-- such a text
abbrev Apart : List ℕ → Type 0
Apart s = (c : ℕ) → continued c s ≡ c

-- the bytes of a code point c in front of it have c as their first scalar value, and continue no character
abbrev Reads : ℕ → List ℕ → List ℕ → Type 0
Reads c e r = (scalars_of (e ++ r) ≡ c ∷ scalars_of r) × Apart (e ++ r)

-- a byte that begins a character ends the one before it
apart_first : (b : ℕ) (s : List ℕ) → continues b ≡ false → Apart (b ∷ s)
unfolding continued
apart_first b s e c = rw e

module _ (c : ℕ) (r : List ℕ) (a : Apart r) where
  reads_one : c < 0x80 → Reads c (c ∷ []) r
  unfolding leading
  reads_one h =
      let e = begins_below c h in
      (first c c r e (rw (lt-ltb c 0xC0 (omega arith))) ∙ ap (λ (x : ℕ). x ∷ scalars_of r) (a c), apart_first c r e)

  reads_two : c < 0x800 → Reads c ((0xC0 + c / 64) ∷ (0x80 + c % 64) ∷ []) r
  unfolding leading
  reads_two h =
      let e = begins_above (0xC0 + c / 64) (omega arith) in
      let l : leading (0xC0 + c / 64) ≡ c / 64 = rw (le-ltb (0xC0 + c / 64) 0xC0 (omega arith), lt-ltb (0xC0 + c / 64) 0xE0 (omega arith)) (omega arith) in
      let m = more (c / 64) (c % 64) r (omega arith) in
      let k : c / 64 * 64 + c % 64 ≡ c = omega arith in
      (first (0xC0 + c / 64) (c / 64) _ e l ∙ rw (m.0, m.1, k, a c), apart_first _ _ e)

  reads_three : c < 0x10000 → Reads c ((0xE0 + c / 4096) ∷ (0x80 + c / 64 % 64) ∷ (0x80 + c % 64) ∷ []) r
  unfolding leading
  reads_three h =
      let e = begins_above (0xE0 + c / 4096) (omega arith) in
      let l : leading (0xE0 + c / 4096) ≡ c / 4096 =
      rw (le-ltb (0xE0 + c / 4096) 0xC0 (omega arith), le-ltb (0xE0 + c / 4096) 0xE0 (omega arith), lt-ltb (0xE0 + c / 4096) 0xF0 (omega arith)) (omega arith) in
      let m = more (c / 4096) (c / 64 % 64) ((0x80 + c % 64) ∷ r) (omega arith) in
      let n = more (c / 4096 * 64 + c / 64 % 64) (c % 64) r (omega arith) in
      let x = div-div-eq-div-mul c 64 64 in
      let k : (c / 4096 * 64 + c / 64 % 64) * 64 + c % 64 ≡ c = omega arith in
      (first (0xE0 + c / 4096) (c / 4096) _ e l ∙ rw (m.0, m.1, n.0, n.1, k, a c), apart_first _ _ e)

  reads_four : Reads c ((0xF0 + c / 262144) ∷ (0x80 + c / 4096 % 64) ∷ (0x80 + c / 64 % 64) ∷ (0x80 + c % 64) ∷ []) r
  unfolding leading
  reads_four =
      let e = begins_above (0xF0 + c / 262144) (omega arith) in
      let l : leading (0xF0 + c / 262144) ≡ c / 262144 =
      rw (le-ltb (0xF0 + c / 262144) 0xC0 (omega arith), le-ltb (0xF0 + c / 262144) 0xE0 (omega arith), le-ltb (0xF0 + c / 262144) 0xF0 (omega arith)) (omega arith) in
      let m = more (c / 262144) (c / 4096 % 64) ((0x80 + c / 64 % 64) ∷ (0x80 + c % 64) ∷ r) (omega arith) in
      let n = more (c / 262144 * 64 + c / 4096 % 64) (c / 64 % 64) ((0x80 + c % 64) ∷ r) (omega arith) in
      let o = more ((c / 262144 * 64 + c / 4096 % 64) * 64 + c / 64 % 64) (c % 64) r (omega arith) in
      let x = div-div-eq-div-mul c 64 64 in
      let y = div-div-eq-div-mul c 4096 64 in
      let k : ((c / 262144 * 64 + c / 4096 % 64) * 64 + c / 64 % 64) * 64 + c % 64 ≡ c = omega arith in
      (first (0xF0 + c / 262144) (c / 262144) _ e l ∙ rw (m.0, m.1, n.0, n.1, o.0, o.1, k, a c), apart_first _ _ e)

  reads_code : Reads c (encode c) r
  reads_code =
      by_test (ltb c 0x80)
      (λ t. let h = ltb-true c 0x80 t in subst (λ (e : List ℕ). Reads c e r) (sym (encode_one c h)) (reads_one h))
      (λ f.
      by_test (ltb c 0x800)
      (λ t. let h = ltb-true c 0x800 t in subst (λ (e : List ℕ). Reads c e r) (sym (encode_two c (ltb-false c 0x80 f) h)) (reads_two h))
      (λ g.
      by_test (ltb c 0x10000)
      (λ t. let h = ltb-true c 0x10000 t in subst (λ (e : List ℕ). Reads c e r) (sym (encode_three c (ltb-false c 0x800 g) h)) (reads_three h))
      (λ t. subst (λ (e : List ℕ). Reads c e r) (sym (encode_four c (ltb-false c 0x10000 t))) reads_four)))

-- ---- the whole text

-- the bytes of code points have these as their scalar values, and continue no character
reads_all : (cs : List ℕ) → (scalars_of (encode_all cs) ≡ cs) × Apart (encode_all cs)
unfolding encode_all scalars_of continued
reads_all [] = (refl, λ c. refl)
reads_all (c ∷ cs) =
    let d = reads_all cs in
    let h = reads_code c (encode_all cs) d.1 in
    (h.0 ∙ ap (λ (l : List ℕ). c ∷ l) d.0, h.1)

-- what code points are encoded to has these as its scalar values
pub scalars_encoded : (cs : List ℕ) → scalars_of (encode_all cs) ≡ cs
scalars_encoded cs = (reads_all cs).0

-- the scalar values of a UTF-8 text are scalar values, and are encoded to it
pub scalars_utf8 : (s : List ℕ) → is_utf8 s ≡ true → (every is_scalar (scalars_of s) ≡ true) × (encode_all (scalars_of s) ≡ s)
scalars_utf8 s e =
    let d = decode s e in
    let k : scalars_of s ≡ d.0 = ap scalars_of (sym d.2) ∙ scalars_encoded d.0 in
    (rw k d.1, ap encode_all k ∙ d.2)

-- ---- how many they are

-- how many bytes of a text continue a character
unfoldable pub continuing : List ℕ → ℕ
continuing [] = 0
continuing (b ∷ s) = cond (continues b) 1 0 + continuing s

-- every other byte begins a scalar value
pub scalars_count : (s : List ℕ) → length (scalars_of s) + continuing s ≡ length s
unfolding scalars_of continuing
scalars_count [] = refl
scalars_count (b ∷ s) =
    let h = scalars_count s in
    by_test (continues b) (λ e. rw e (omega arith)) (λ e. rw e (omega arith))

-- no text has more of them than bytes
pub scalars_few : (s : List ℕ) → length (scalars_of s) ≤ length s
scalars_few s = let h = scalars_count s in omega arith

-- no more bytes continue a character than there are
pub continuing_few : (s : List ℕ) → continuing s ≤ length s
continuing_few s = let h = scalars_count s in omega arith

-- the bytes of two texts, one behind the other
pub continuing_append : (a b : List ℕ) → continuing (a ++ b) ≡ continuing a + continuing b
unfolding continuing
continuing_append [] b = omega arith
continuing_append (x ∷ a) b = let h = continuing_append a b in omega arith
