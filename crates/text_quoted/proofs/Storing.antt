-- The bytes of a code point stored one by one, and a copy of plain bytes. Assumes nothing.
use Prim.Native.Nat.{ℕ, suc, ◌+◌, ◌-◌, ◌/◌, ◌%◌, ◌≤◌, ◌<◌}
use mathlib.Core.Path.{◌≡◌, refl, ◌∙◌}
use mathlib.Core.List.{List, [], ◌∷◌}
use mathlib.Core.Bool.{true, false}
use native.Mathlib.Numerals.{towards_suc}
use native.Mathlib.Omega.{arith}
use lib.ListN.{length, drop, get_or, set, length-set, drop_of_length-le}
use lib.Seq.{sets}
use Rattle.definition.specs.Utf8.{encode}
use Rattle.basics.specs.Lists.{drop_at as here}
use Rattle.utf8_laws.specs.Encode.{encode_one, encode_two, encode_three, encode_four}
use Rattle.utf8_laws.specs.Scan.{front, behind, behind_on, behind_stop, behind_end}
use Rattle.utf8_laws.specs.Names.{unescaped_byte}
use Rattle.text_quoted.specs.Pieces.{Encoded, Copied}

-- ---- how many bytes

pub size_one : (c : ℕ) → c < 0x80 → length (encode c) ≡ 1
size_one c h = rw (encode_one c h)

pub size_two : (c : ℕ) → 0x80 ≤ c → c < 0x800 → length (encode c) ≡ 2
size_two c l h = rw (encode_two c l h)

pub size_three : (c : ℕ) → 0x800 ≤ c → c < 0x10000 → length (encode c) ≡ 3
size_three c l h = rw (encode_three c l h)

pub size_four : (c : ℕ) → 0x10000 ≤ c → length (encode c) ≡ 4
size_four c l = rw (encode_four c l)

-- ---- the stores

module _ (p : List ℕ) (len c : ℕ) where
  pub stored_one : c < 0x80 → Encoded p len c (set p len c) (len + 1)
  stored_one h = record { wrote = record { is = rw (encode_one c h) }; grown = rw (size_one c h) }

  pub stored_two : 0x80 ≤ c → c < 0x800 → Encoded p len c (set (set p len (0xC0 + c / 64)) (len + 1) (0x80 + c % 64)) (len + 2)
  stored_two l h = record { wrote = record { is = rw (encode_two c l h) (simp towards_suc) }; grown = rw (size_two c l h) }

  pub stored_three : 0x800 ≤ c → c < 0x10000 → Encoded p len c (set (set (set p len (0xE0 + c / 4096)) (len + 1) (0x80 + c / 64 % 64)) (len + 2) (0x80 + c % 64)) (len + 3)
  stored_three l h = record { wrote = record { is = rw (encode_three c l h) (simp towards_suc) }; grown = rw (size_three c l h) }

  pub stored_four : 0x10000 ≤ c → Encoded p len c (set (set (set (set p len (0xF0 + c / 262144)) (len + 1) (0x80 + c / 4096 % 64)) (len + 2) (0x80 + c / 64 % 64)) (len + 3) (0x80 + c % 64)) (len + 4)
  stored_four l = record { wrote = record { is = rw (encode_four c l) (simp towards_suc) }; grown = rw (size_four c l) }

-- ---- a copy of plain bytes

-- From `at` on, the plain bytes up to i are stored from `len` on: what is left to copy gives the whole copy.
pub record Copying (s : List ℕ) (at : ℕ) (p : List ℕ) (len : ℕ) (q : List ℕ) (i : ℕ) : Type 0 where
  pub from : at ≤ i
  pub to : i ≤ length s
  pub rest : behind unescaped_byte (drop i s) ≡ behind unescaped_byte (drop at s)
  pub left : sets q (len + (i - at)) (front unescaped_byte (drop i s)) ≡ sets p len (front unescaped_byte (drop at s))
  pub size : length q ≡ length p

pub copying_start : (s : List ℕ) (at : ℕ) (p : List ℕ) (len : ℕ) → at ≤ length s → Copying s at p len p at
copying_start s at p len h =
    let e : len + (at - at) ≡ len = omega arith in
    record { from = omega arith; to = h; rest = refl; left = rw e refl; size = refl }

module _ (s : List ℕ) (at : ℕ) (p : List ℕ) (len : ℕ) (q : List ℕ) (i : ℕ) (c : Copying s at p len q i) where
  -- a plain byte is copied
  pub copying_on : i < length s → unescaped_byte (get_or s i 0) ≡ true → Copying s at p len (set q (len + (i - at)) (get_or s i 0)) (i + 1)
  copying_on h t =
      let f = c.from in
      let one : front unescaped_byte (drop i s) ≡ get_or s i 0 ∷ front unescaped_byte (drop (i + 1) s) = rw (here s i h, t) in
      let e : len + (i + 1 - at) ≡ suc (len + (i - at)) = omega arith in
      record {
        from = omega arith;
        to = omega arith;
        rest = behind_on unescaped_byte s i h t ∙ c.rest;
        left = rw e (rw one at c.left);
        size = length-set q (len + (i - at)) (get_or s i 0) ∙ c.size;
      }

  -- a byte that is not plain ends the copy
  pub copying_stop : i < length s → unescaped_byte (get_or s i 0) ≡ false → Copied s at p len q i
  copying_stop h t =
      let none : front unescaped_byte (drop i s) ≡ [] = rw (here s i h, t) in
      record { from = c.from; to = c.to; rest = behind_stop unescaped_byte s i h t ∙ c.rest; wrote = record { is = rw none at c.left } }

  -- and so does the end of the text
  pub copying_end : length s ≤ i → Copied s at p len q (length s)
  copying_end h =
      let none : front unescaped_byte (drop i s) ≡ [] = rw (drop_of_length-le s h) in
      let e : i ≡ length s = omega (arith, c.to) in
      let f = c.from in
      record { from = omega arith; to = omega arith; rest = rw (← e) (behind_end unescaped_byte s i h ∙ c.rest); wrote = record { is = rw none at c.left } }
