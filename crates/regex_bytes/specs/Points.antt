-- What the reader of bytes writes, for any bytes: a byte in 80..BF begins no character and is passed over. Of a UTF-8 text it is the scalar values. Assumes nothing.
use Rattle.std.specs.Prelude.{ℕ, ◌+◌, ◌/◌, ◌%◌, ◌≤◌, ◌<◌, ◌≡◌, refl, List, [], ◌∷◌, ◌++◌, true, false, cond, ltb}
use Rattle.std.proofs.Common.{sym, ap, ◌∙◌, arith, le-leb, ltb-true, ltb-false}
use Rattle.std.proofs.lemmas.Bool.{lt-leb}
use Rattle.definition.specs.Bytes.{within}
use Rattle.definition.specs.Utf8.{encode, encode_all, is_utf8, scalars_of}
use Rattle.utf8_laws.specs.Bytes.{by_test}
use Rattle.utf8_laws.specs.Encode.{encode_one, encode_two, encode_three, encode_four}
use Rattle.utf8_laws.specs.Unique.{point, point_encode}
use Rattle.utf8_laws.specs.Scalars.{scalars_utf8}

unfoldable pub points_of : List ℕ → List ℕ
points_of [] = []
points_of (b ∷ s) = cond (within 0x80 0xBF b) (points_of s) (point (b ∷ s) ∷ points_of s)

-- a first byte gives the character
first : (b : ℕ) (s : List ℕ) → within 0x80 0xBF b ≡ false → points_of (b ∷ s) ≡ point (b ∷ s) ∷ points_of s
unfolding points_of
first b s e = rw e

-- a byte behind it gives nothing
later : (b : ℕ) (s : List ℕ) → 0x80 ≤ b → b < 0xC0 → points_of (b ∷ s) ≡ points_of s
unfolding points_of
later b s l h = rw (le-leb 0x80 b l, le-leb b 0xBF (omega arith))

below : (b : ℕ) → b < 0x80 → within 0x80 0xBF b ≡ false
below b h = rw (lt-leb 0x80 b h)

above : (b : ℕ) → 0xC0 ≤ b → within 0x80 0xBF b ≡ false
above b h = rw (le-leb 0x80 b (omega arith), lt-leb b 0xBF h)

-- one first byte, and one, two and three behind it
two : (b t : ℕ) (r : List ℕ) → 0xC0 ≤ b → 0x80 ≤ t → t < 0xC0 → points_of (b ∷ t ∷ r) ≡ point (b ∷ t ∷ r) ∷ points_of r
two b t r h l u = first b (t ∷ r) (above b h) ∙ ap (λ w. point (b ∷ t ∷ r) ∷ w) (later t r l u)

three : (b t u : ℕ) (r : List ℕ) → 0xC0 ≤ b → 0x80 ≤ t → t < 0xC0 → 0x80 ≤ u → u < 0xC0 → points_of (b ∷ t ∷ u ∷ r) ≡ point (b ∷ t ∷ u ∷ r) ∷ points_of r
three b t u r h l m k n = first b (t ∷ u ∷ r) (above b h) ∙ ap (λ w. point (b ∷ t ∷ u ∷ r) ∷ w) (later t (u ∷ r) l m ∙ later u r k n)

four : (b t u v : ℕ) (r : List ℕ) → 0xC0 ≤ b → 0x80 ≤ t → t < 0xC0 → 0x80 ≤ u → u < 0xC0 → 0x80 ≤ v → v < 0xC0
    → points_of (b ∷ t ∷ u ∷ v ∷ r) ≡ point (b ∷ t ∷ u ∷ v ∷ r) ∷ points_of r
four b t u v r h l m k n i j =
    first b (t ∷ u ∷ v ∷ r) (above b h) ∙ ap (λ w. point (b ∷ t ∷ u ∷ v ∷ r) ∷ w) (later t (u ∷ v ∷ r) l m ∙ later u (v ∷ r) k n ∙ later v r i j)

-- the bytes of a character, in front of any text
pub points_encode : (c : ℕ) (r : List ℕ) → points_of (encode c ++ r) ≡ c ∷ points_of r
points_encode c r = spelled ∙ ap (λ d. d ∷ points_of r) (point_encode c r)
  where
    spelled : points_of (encode c ++ r) ≡ point (encode c ++ r) ∷ points_of r
    spelled =
        by_test (ltb c 0x80)
        (λ t. let h = ltb-true c 0x80 t in rw (encode_one c h) (first c r (below c h)))
        (λ f.
        by_test (ltb c 0x800)
        (λ t.
        rw (encode_two c (ltb-false c 0x80 f) (ltb-true c 0x800 t))
        (two (0xC0 + c / 64) (0x80 + c % 64) r (omega arith) (omega arith) (omega arith)))
        (λ g.
        by_test (ltb c 0x10000)
        (λ t.
        rw (encode_three c (ltb-false c 0x800 g) (ltb-true c 0x10000 t))
        (three (0xE0 + c / 4096) (0x80 + c / 64 % 64) (0x80 + c % 64) r (omega arith) (omega arith) (omega arith) (omega arith) (omega arith)))
        (λ t.
        rw (encode_four c (ltb-false c 0x10000 t))
        (four (0xF0 + c / 262144) (0x80 + c / 4096 % 64) (0x80 + c / 64 % 64) (0x80 + c % 64) r (omega arith) (omega arith) (omega arith) (omega arith) (omega arith) (omega arith) (omega arith)))))

-- of the bytes of characters it is the characters
pub points_of_lem : (cs : List ℕ) → points_of (encode_all cs) ≡ cs
unfolding points_of encode_all
points_of_lem [] = refl
points_of_lem (c ∷ cs) = points_encode c (encode_all cs) ∙ ap (λ l. c ∷ l) (points_of_lem cs)

-- THE LAW: of a UTF-8 text it is the scalar values
pub points_utf8 : (s : List ℕ) → is_utf8 s ≡ true → points_of s ≡ scalars_of s
points_utf8 s u = ap points_of (sym (scalars_utf8 s u).1) ∙ points_of_lem (scalars_of s)
