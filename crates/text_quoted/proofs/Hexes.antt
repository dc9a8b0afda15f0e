-- Hexadecimal digits: what the tests of a byte tell, and four of them at a place. Assumes nothing.
use Prim.Native.Nat.{ℕ, ◌+◌, ◌-◌, ◌*◌, ◌≤◌, ◌<◌}
use mathlib.Core.Path.{◌≡◌, refl, sym, ap, ◌∙◌}
use mathlib.Core.Logic.{◌⊎◌, inl, inr}
use mathlib.Core.List.{List}
use mathlib.Core.Bool.{true, false, ◌&&◌, and-eq-true_iff, and-false, true≢false}
use native.Mathlib.Omega.{arith}
use borrow.Author.Tests.{le-leb, lt-leb}
use lib.Dec.{leb}
use lib.ListN.{length, get_or, length-drop}
use Rattle.definition.specs.Bytes.{within}
use Rattle.definition.specs.Lexical.{Hex4, is_hex, hex_value, hex4_value, spell_hex4}
use Rattle.utf8_laws.specs.Bytes.{by_test, inside, inside_low, inside_high}
use Rattle.std.proofs.lemmas.Bool.Decides.{nat_tests}
use Rattle.std.specs.Char.{digit_value}
use Rattle.std.specs.Prelude.{Option, Some, None, SomeIff}
use Rattle.text_quoted.specs.Pieces.{HexDigit, HasDigits, NoDigits}
use Rattle.text_quoted.proofs.Places.{here_four}

-- ---- one digit

-- a byte beyond one end of a range fails the test of the range
pub under : (lo hi b : ℕ) → b < lo → within lo hi b ≡ false
under lo hi b h = rw (lt-leb lo b h)

pub beyond : (lo hi b : ℕ) → hi < b → within lo hi b ≡ false
beyond lo hi b h = rw (lt-leb b hi h) (and-false (leb lo b))

-- the three ranges of a digit
pub hex_ranges : (b : ℕ) → is_hex b ≡ true → ((0x30 ≤ b) × (b ≤ 0x39)) ⊎ (((0x41 ≤ b) × (b ≤ 0x46)) ⊎ ((0x61 ≤ b) × (b ≤ 0x66)))
hex_ranges b e =
    by_test (within 0x30 0x39 b) (λ t. inl (inside_low 0x30 0x39 b t, inside_high 0x30 0x39 b t)) (λ f.
    by_test (within 0x41 0x46 b) (λ t. inr (inl (inside_low 0x41 0x46 b t, inside_high 0x41 0x46 b t))) (λ g.
    let t : within 0x61 0x66 b ≡ true = rw (f, g) at e in inr (inr (inside_low 0x61 0x66 b t, inside_high 0x61 0x66 b t))))

-- a digit is an ASCII byte, and its value is below 16
pub hex_ascii : (b : ℕ) → is_hex b ≡ true → b < 0x80
hex_ascii b e = by (hex_ranges b e)
  where
    by : ((0x30 ≤ b) × (b ≤ 0x39)) ⊎ (((0x41 ≤ b) × (b ≤ 0x46)) ⊎ ((0x61 ≤ b) × (b ≤ 0x66))) → b < 0x80
    by (inl h) = omega arith
    by (inr (inl h)) = omega arith
    by (inr (inr h)) = omega arith

pub hex_small : (b : ℕ) → is_hex b ≡ true → hex_value b < 16
hex_small b e = by (hex_ranges b e)
  where
    by : ((0x30 ≤ b) × (b ≤ 0x39)) ⊎ (((0x41 ≤ b) × (b ≤ 0x46)) ⊎ ((0x61 ≤ b) × (b ≤ 0x66))) → hex_value b < 16
    by (inl h) = rw (inside 0x30 0x39 b h.0 h.1) (omega arith)
    by (inr (inl h)) = rw (beyond 0x30 0x39 b (omega arith), lt-leb 0x61 b (omega arith)) (omega arith)
    by (inr (inr h)) = rw (beyond 0x30 0x39 b (omega arith), le-leb 0x61 b h.0) (omega arith)

-- a byte in none of the three ranges is no digit
hex_none : (b : ℕ) → within 0x30 0x39 b ≡ false → within 0x41 0x46 b ≡ false → within 0x61 0x66 b ≡ false → is_hex b ≡ false
hex_none b d u l = rw (d, u, l) refl

-- the value that std gives a byte in any base up to 36 tells whether it is a hexadecimal digit, and which
std_value : (b : ℕ) → is_hex b ≡ true → hex_value b ≡ digit_value b
std_value b e = by (hex_ranges b e)
  where
    by : ((0x30 ≤ b) × (b ≤ 0x39)) ⊎ (((0x41 ≤ b) × (b ≤ 0x46)) ⊎ ((0x61 ≤ b) × (b ≤ 0x66))) → hex_value b ≡ digit_value b
    by (inl h) = grind (arith, nat_tests)
    by (inr (inl h)) = grind (arith, nat_tests)
    by (inr (inr h)) = grind (arith, nat_tests)

std_none : (b : ℕ) → digit_value b < 16 → is_hex b ≡ true
std_none b h = grind (arith, nat_tests)

pub HexDigit-from_std : (b : ℕ) (o : Option ℕ) → SomeIff o (digit_value b < 16) (digit_value b) → HexDigit b o
HexDigit-from_std b None h = by_test (is_hex b) (λ t. let e = std_value b t in let l = hex_small b t in absurd (h (omega arith))) (λ f. f)
HexDigit-from_std b (Some v) h = let t = std_none b h.0 in (t, std_value b t ∙ sym h.1)

-- ---- four digits

-- each of four digits is one
pub record AllHex (a b c d : ℕ) : Type 0 where
  pub a_is : is_hex a ≡ true
  pub b_is : is_hex b ≡ true
  pub c_is : is_hex c ≡ true
  pub d_is : is_hex d ≡ true

pub all_hex : (a b c d : ℕ) → (is_hex a && (is_hex b && (is_hex c && is_hex d))) ≡ true → AllHex a b c d
all_hex a b c d e =
    let x = (and-eq-true_iff (is_hex a) (is_hex b && (is_hex c && is_hex d))).0 e in
    let y = (and-eq-true_iff (is_hex b) (is_hex c && is_hex d)).0 x.1 in
    let z = (and-eq-true_iff (is_hex c) (is_hex d)).0 y.1 in
    record { a_is = x.0; b_is = y.0; c_is = z.0; d_is = z.1 }

pub hex_all : (a b c d : ℕ) → AllHex a b c d → (is_hex a && (is_hex b && (is_hex c && is_hex d))) ≡ true
hex_all a b c d x = rw (x.a_is, x.b_is, x.c_is, x.d_is)

-- the number that four digits write is below 10000
pub hex4_small : (h : Hex4) → hex4_value h < 0x10000
hex4_small h =
    let x = all_hex h.a h.b h.c h.d h.good in
    omega (arith, hex_small h.a x.a_is, hex_small h.b x.b_is, hex_small h.c x.c_is, hex_small h.d x.d_is)

-- two spellings of four digits that are equal have equal values and equal rests
pub hex4_same : (h k : Hex4) (r t : List ℕ) → spell_hex4 h r ≡ spell_hex4 k t → (hex4_value h ≡ hex4_value k) × (r ≡ t)
hex4_same h k r t e =
    let ea : h.a ≡ k.a = cc in
    let eb : h.b ≡ k.b = cc in
    let ec : h.c ≡ k.c = cc in
    let ed : h.d ≡ k.d = cc in
    (rw (ea, eb, ec, ed), cc)

-- ---- what the code has found

module _ (s : List ℕ) (at : ℕ) where
  -- too few bytes are left
  pub digits_short : length s - at < 4 → NoDigits s at
  digits_short l = record { none = λ h r e. let k = ap length e in let m = length-drop at s in absurd (omega arith) }

  -- one of the four is no digit
  pub digits_wrong : at + 4 ≤ length s → (AllHex (get_or s at 0) (get_or s (at + 1) 0) (get_or s (at + 2) 0) (get_or s (at + 3) 0) → ⊥) → NoDigits s at
  digits_wrong l n =
      record {
        none = λ h r e.
            let f = here_four s at l in
            let ea : h.a ≡ get_or s at 0 = cc in
            let eb : h.b ≡ get_or s (at + 1) 0 = cc in
            let ec : h.c ≡ get_or s (at + 2) 0 = cc in
            let ed : h.d ≡ get_or s (at + 3) 0 = cc in
            n (rw (ea, eb, ec, ed) at (all_hex h.a h.b h.c h.d h.good));
      }

-- an answer for the byte at k
module _ (s : List ℕ) (at : ℕ) (room : at + 4 ≤ length s) where
  pub first_wrong : HexDigit (get_or s at 0) None → NoDigits s at
  first_wrong f = digits_wrong s at room (λ x. true≢false (sym x.a_is ∙ f))

  pub second_wrong : HexDigit (get_or s (at + 1) 0) None → NoDigits s at
  second_wrong f = digits_wrong s at room (λ x. true≢false (sym x.b_is ∙ f))

  pub third_wrong : HexDigit (get_or s (at + 2) 0) None → NoDigits s at
  third_wrong f = digits_wrong s at room (λ x. true≢false (sym x.c_is ∙ f))

  pub fourth_wrong : HexDigit (get_or s (at + 3) 0) None → NoDigits s at
  fourth_wrong f = digits_wrong s at room (λ x. true≢false (sym x.d_is ∙ f))

  -- the four bytes are digits of the number that they write
  pub four_digits : (a b c d : ℕ) → HexDigit (get_or s at 0) (Some a) → HexDigit (get_or s (at + 1) 0) (Some b) → HexDigit (get_or s (at + 2) 0) (Some c) → HexDigit (get_or s (at + 3) 0) (Some d) → HasDigits s at (((a * 16 + b) * 16 + c) * 16 + d)
  four_digits a b c d x y z w =
      record {
        digits =
            record {
              a = get_or s at 0;
              b = get_or s (at + 1) 0;
              c = get_or s (at + 2) 0;
              d = get_or s (at + 3) 0;
              good = hex_all (get_or s at 0) (get_or s (at + 1) 0) (get_or s (at + 2) 0) (get_or s (at + 3) 0) (record { a_is = x.0; b_is = y.0; c_is = z.0; d_is = w.0 });
            };
        is = here_four s at room;
        value = rw (x.1, y.1, z.1, w.1);
        to = room;
      }

-- a digit's value is below 16
pub digit_small : (b v : ℕ) → HexDigit b (Some v) → v < 16
digit_small b v h = let l = hex_small b h.0 in let e = h.1 in omega arith
