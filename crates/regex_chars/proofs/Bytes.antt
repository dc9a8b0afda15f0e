-- What the bytes at a place tell of the character that stands there, by the number of its bytes. Assumes nothing.
use Prim.Native.Nat.{ℕ, ◌+◌, ◌-◌, ◌*◌, ◌/◌, ◌%◌, ◌≤◌, ◌<◌}
use mathlib.Core.Path.{◌≡◌, ◌∙◌}
use mathlib.Core.List.{List, [], ◌∷◌, ◌++◌}
use native.Mathlib.Nat.{div-div-eq-div-mul}
use native.Mathlib.Omega.{arith}
use borrow.Author.Tests.{ltb-true, ltb-false}
use lib.Dec.{ltb}
use lib.ListN.{length, get_or}
use lib.Seq.{slice}
use Rattle.definition.specs.Utf8.{encode}
use Rattle.utf8_laws.specs.Bytes.{by_test}
use Rattle.utf8_laws.specs.Encode.{encode_one, encode_two, encode_three, encode_four}
use Rattle.regex_chars.specs.Chars.{Stands}
use Rattle.regex_chars.specs.Laws.{slice_first}

-- the bytes of a code point, by its size
data Coded (d : ℕ) : Type 0 where
  one : d < 0x80 → encode d ≡ d ∷ [] → Coded d
  two : 0x80 ≤ d → d < 0x800 → encode d ≡ (0xC0 + d / 64) ∷ (0x80 + d % 64) ∷ [] → Coded d
  three : 0x800 ≤ d → d < 0x10000 → encode d ≡ (0xE0 + d / 4096) ∷ (0x80 + d / 64 % 64) ∷ (0x80 + d % 64) ∷ [] → Coded d
  four :
      0x10000 ≤ d → encode d ≡ (0xF0 + d / 262144) ∷ (0x80 + d / 4096 % 64) ∷ (0x80 + d / 64 % 64) ∷ (0x80 + d % 64) ∷ []
      → Coded d

coded : (d : ℕ) → Coded d
coded d =
    by_test (ltb d 0x80) (λ t. let h = ltb-true d 0x80 t in one h (encode_one d h)) (λ f.
    let l = ltb-false d 0x80 f in
    by_test (ltb d 0x800) (λ t. let h = ltb-true d 0x800 t in two l h (encode_two d l h)) (λ g.
    let m = ltb-false d 0x800 g in
    by_test (ltb d 0x10000) (λ t. let h = ltb-true d 0x10000 t in three m h (encode_three d m h))
    (λ k. let n = ltb-false d 0x10000 k in four n (encode_four d n))))

-- the first byte without its mark, and a later one
lead3 : (q : ℕ) → q < 16 → (0xE0 + q) % 16 ≡ q
lead3 q h = omega arith

lead4 : (q : ℕ) → q < 16 → (0xF0 + q) % 16 ≡ q
lead4 q h = omega arith

later : (q : ℕ) → (0x80 + q % 64) % 64 ≡ q % 64
later q = omega arith

-- a code point by its digits to the base 64
digits3 : (d : ℕ) → d / 4096 * 4096 + d / 64 % 64 * 64 + d % 64 ≡ d
digits3 d = let v = div-div-eq-div-mul d 64 64 in omega arith

digits4 : (d : ℕ) → d / 262144 * 262144 + d / 4096 % 64 * 4096 + d / 64 % 64 * 64 + d % 64 ≡ d
digits4 d = let v = div-div-eq-div-mul d 4096 64 in let w = digits3 d in omega arith

value3 :
    (b c e d : ℕ) → d < 0x10000 → b ≡ 0xE0 + d / 4096 → c ≡ 0x80 + d / 64 % 64 → e ≡ 0x80 + d % 64
    → b % 16 * 4096 + c % 64 * 64 + e % 64 ≡ d
value3 b c e d h x y z = rw (x, y, z, lead3 (d / 4096) (omega arith), later (d / 64), later d) (digits3 d)

value4 :
    (b c e f d : ℕ) → b < 256 → b ≡ 0xF0 + d / 262144 → c ≡ 0x80 + d / 4096 % 64 → e ≡ 0x80 + d / 64 % 64 → f ≡ 0x80 + d % 64
    → b % 16 * 262144 + c % 64 * 4096 + e % 64 * 64 + f % 64 ≡ d
value4 b c e f d h x y z u =
    let k : d / 262144 < 16 = omega (arith, h, x) in
    rw (x, y, z, u, lead4 (d / 262144) k, later (d / 4096), later (d / 64), later d) (digits4 d)

module _ (t : List ℕ) (at to : ℕ) (p : at < to) (fits : to ≤ length t) where
  -- the bytes that a character of each size has at the place
  module _ (d : ℕ) (r : List ℕ) where
    bytes_one : slice at to t ≡ d ∷ r → (get_or t at 0 ≡ d) × (slice (at + 1) to t ≡ r)
    bytes_one e = let a = slice_first t at to d r fits e in (a.1, a.2)

    module _ (b c : ℕ) where
      bytes_two :
          slice at to t ≡ b ∷ c ∷ r → (at + 1 < to) × (get_or t at 0 ≡ b) × (get_or t (at + 1) 0 ≡ c) × (slice (at + 2) to t ≡ r)
      bytes_two e =
          let x = slice_first t at to b (c ∷ r) fits e in
          let y = slice_first t (at + 1) to c r fits x.2 in
          let z : at + 2 ≡ at + 1 + 1 = omega arith in
          (y.0, x.1, y.1, rw z y.2)

  bytes_three :
      (b c d : ℕ) (r : List ℕ) → slice at to t ≡ b ∷ c ∷ d ∷ r
      → (at + 2 < to) × (get_or t at 0 ≡ b) × (get_or t (at + 1) 0 ≡ c) × (get_or t (at + 2) 0 ≡ d) × (slice (at + 3) to t ≡ r)
  bytes_three b c d r e =
      let x = slice_first t at to b (c ∷ d ∷ r) fits e in
      let y = slice_first t (at + 1) to c (d ∷ r) fits x.2 in
      let z : at + 2 ≡ at + 1 + 1 = omega arith in
      let k : slice (at + 2) to t ≡ d ∷ r = rw z y.2 in
      let w = slice_first t (at + 2) to d r fits k in
      let z' : at + 3 ≡ at + 2 + 1 = omega arith in
      (w.0, x.1, y.1, w.1, rw z' w.2)

  bytes_four :
      (b c d f : ℕ) (r : List ℕ) → slice at to t ≡ b ∷ c ∷ d ∷ f ∷ r
      → (at + 3 < to) × (get_or t at 0 ≡ b) × (get_or t (at + 1) 0 ≡ c) × (get_or t (at + 2) 0 ≡ d) × (get_or t (at + 3) 0 ≡ f) × (slice (at + 4) to t ≡ r)
  bytes_four b c d f r e =
      let x = bytes_three b c d (f ∷ r) e in
      let w = slice_first t (at + 3) to f r fits x.4 in
      let z : at + 4 ≡ at + 3 + 1 = omega arith in
      (w.0, x.1, x.2, x.3, w.1, rw z w.2)

  -- the first byte tells the size
  pub stands_one : {b : ℕ} → b ≡ get_or t at 0 → b < 0x80 → Stands t at to (at + 1) b
  stands_one {b} q h = record { after = omega arith; within = omega arith; of = λ d r e. go d r e (coded d) }
    where
      go : (d : ℕ) (r : List ℕ) → slice at to t ≡ encode d ++ r → Coded d → (b ≡ d) × (slice (at + 1) to t ≡ r)
      go d r e (one k z) = let x = bytes_one d r (rw z at e) in (q ∙ x.0, x.1)
      go d r e (two l k z) = let x = slice_first t at to _ _ fits (rw z at e) in absurd (omega (arith, x.1))
      go d r e (three l k z) = let x = slice_first t at to _ _ fits (rw z at e) in absurd (omega (arith, x.1))
      go d r e (four l z) = let x = slice_first t at to _ _ fits (rw z at e) in absurd (omega (arith, x.1))

  module _ {b : ℕ} (q : b ≡ get_or t at 0) (low : 0x80 ≤ b) where
    -- a character of more than one byte does not end here
    pub stands_short_two : to - at < 2 → Stands t at to to 0
    stands_short_two h = record { after = p; within = omega arith; of = λ d r e. go d r e (coded d) }
      where
        go : (d : ℕ) (r : List ℕ) → slice at to t ≡ encode d ++ r → Coded d → (0 ≡ d) × (slice to to t ≡ r)
        go d r e (one k z) = let x = slice_first t at to _ _ fits (rw z at e) in absurd (omega (arith, x.1))
        go d r e (two l k z) = let x = bytes_two d r _ _ (rw z at e) in absurd (omega (arith, x.0))
        go d r e (three l k z) = let x = bytes_three _ _ _ _ (rw z at e) in absurd (omega (arith, x.0))
        go d r e (four l z) = let x = bytes_four _ _ _ _ _ (rw z at e) in absurd (omega (arith, x.0))

    pub stands_two :
        {c n : ℕ} → c ≡ get_or t (at + 1) 0 → b < 0xE0 → 2 ≤ to - at → n ≡ b % 32 * 64 + c % 64 → Stands t at to (at + 2) n
    stands_two {c} {n} y h k is = record { after = omega arith; within = omega arith; of = λ d r e. go d r e (coded d) }
      where
        go : (d : ℕ) (r : List ℕ) → slice at to t ≡ encode d ++ r → Coded d → (n ≡ d) × (slice (at + 2) to t ≡ r)
        go d r e (one k z) = let x = slice_first t at to _ _ fits (rw z at e) in absurd (omega (arith, x.1))
        go d r e (two l k z) = let x = bytes_two d r _ _ (rw z at e) in (omega (arith, x.1, x.2), x.3)
        go d r e (three l k z) = let x = slice_first t at to _ _ fits (rw z at e) in absurd (omega (arith, x.1))
        go d r e (four l z) = let x = slice_first t at to _ _ fits (rw z at e) in absurd (omega (arith, x.1))

    module _ (mid : 0xE0 ≤ b) where
      pub stands_short_three : to - at < 3 → Stands t at to to 0
      stands_short_three h = record { after = p; within = omega arith; of = λ d r e. go d r e (coded d) }
        where
          go : (d : ℕ) (r : List ℕ) → slice at to t ≡ encode d ++ r → Coded d → (0 ≡ d) × (slice to to t ≡ r)
          go d r e (one k z) = let x = slice_first t at to _ _ fits (rw z at e) in absurd (omega (arith, x.1))
          go d r e (two l k z) = let x = slice_first t at to _ _ fits (rw z at e) in absurd (omega (arith, x.1))
          go d r e (three l k z) = let x = bytes_three _ _ _ _ (rw z at e) in absurd (omega (arith, x.0))
          go d r e (four l z) = let x = bytes_four _ _ _ _ _ (rw z at e) in absurd (omega (arith, x.0))

      pub stands_three :
          {c c2 n : ℕ} → c ≡ get_or t (at + 1) 0 → c2 ≡ get_or t (at + 2) 0 → b < 0xF0 → 3 ≤ to - at
          → n ≡ b % 16 * 4096 + c % 64 * 64 + c2 % 64 → Stands t at to (at + 3) n
      stands_three {c} {c2} {n} y y2 h k is =
          record { after = omega arith; within = omega arith; of = λ d r e. go d r e (coded d) }
        where
          go : (d : ℕ) (r : List ℕ) → slice at to t ≡ encode d ++ r → Coded d → (n ≡ d) × (slice (at + 3) to t ≡ r)
          go d r e (one k z) = let x = slice_first t at to _ _ fits (rw z at e) in absurd (omega (arith, x.1))
          go d r e (two l k z) = let x = slice_first t at to _ _ fits (rw z at e) in absurd (omega (arith, x.1))
          go d r e (three l k z) =
              let x = bytes_three _ _ _ _ (rw z at e) in
              (is ∙ value3 b c c2 d k (q ∙ x.1) (y ∙ x.2) (y2 ∙ x.3), x.4)
          go d r e (four l z) = let x = slice_first t at to _ _ fits (rw z at e) in absurd (omega (arith, x.1))

      module _ (high : 0xF0 ≤ b) where
        pub stands_short_four : to - at < 4 → Stands t at to to 0
        stands_short_four h = record { after = p; within = omega arith; of = λ d r e. go d r e (coded d) }
          where
            go : (d : ℕ) (r : List ℕ) → slice at to t ≡ encode d ++ r → Coded d → (0 ≡ d) × (slice to to t ≡ r)
            go d r e (one k z) = let x = slice_first t at to _ _ fits (rw z at e) in absurd (omega (arith, x.1))
            go d r e (two l k z) = let x = slice_first t at to _ _ fits (rw z at e) in absurd (omega (arith, x.1))
            go d r e (three l k z) = let x = slice_first t at to _ _ fits (rw z at e) in absurd (omega (arith, x.1))
            go d r e (four l z) = let x = bytes_four _ _ _ _ _ (rw z at e) in absurd (omega (arith, x.0))

        -- a byte is below 256, so what the first one has above F0 is below 16
        pub stands_four :
            {c c2 c3 n : ℕ} → b < 256 → c ≡ get_or t (at + 1) 0 → c2 ≡ get_or t (at + 2) 0 → c3 ≡ get_or t (at + 3) 0 → 4 ≤ to - at
            → n ≡ b % 16 * 262144 + c % 64 * 4096 + c2 % 64 * 64 + c3 % 64 → Stands t at to (at + 4) n
        stands_four {c} {c2} {c3} {n} byte y y2 y3 k is =
            record { after = omega arith; within = omega arith; of = λ d r e. go d r e (coded d) }
          where
            go : (d : ℕ) (r : List ℕ) → slice at to t ≡ encode d ++ r → Coded d → (n ≡ d) × (slice (at + 4) to t ≡ r)
            go d r e (one k z) = let x = slice_first t at to _ _ fits (rw z at e) in absurd (omega (arith, x.1))
            go d r e (two l k z) = let x = slice_first t at to _ _ fits (rw z at e) in absurd (omega (arith, x.1))
            go d r e (three l k z) = let x = slice_first t at to _ _ fits (rw z at e) in absurd (omega (arith, x.1))
            go d r e (four l z) =
                let x = bytes_four _ _ _ _ _ (rw z at e) in
                (is ∙ value4 b c c2 c3 d byte (q ∙ x.1) (y ∙ x.2) (y2 ∙ x.3) (y3 ∙ x.4), x.5)
