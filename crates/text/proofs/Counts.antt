-- The bracket count along a text: where it is too high, where too few bytes are left that add one, and one byte more.
-- Assumes nothing.
use Prim.Native.Nat.{ℕ, suc, ◌+◌, ◌-◌, ◌≤◌, ◌<◌}
use mathlib.Core.Path.{◌≡◌}
use mathlib.Core.Bool.{Bool, true, false, cond, ◌||◌}
use mathlib.Core.List.{List, [], ◌∷◌}
use native.Mathlib.Numerals.{add-one}
use native.Mathlib.Omega.{arith}
use borrow.Author.Tests.{lt-ltb, le-ltb}
use lib.Dec.{eqb}
use lib.ListN.{length, drop, get_or, length-drop}
use lib.Seq.{drop-cons}
use Rattle.definition.specs.Brackets.Place.{outside, quoted, escaped}
use Rattle.definition.specs.Brackets.{Place, place_after, count_after, too_deep_from}
use Rattle.definition.specs.Limits.{max_brackets}
use Rattle.text.specs.Places.{opening_in}

-- a count above the limit is too deep, whatever follows
pub deep_now : (p : Place) (n : ℕ) (s : List ℕ) → max_brackets < n → too_deep_from p n s ≡ true
unfolding too_deep_from
deep_now p n [] h = lt-ltb max_brackets n h
deep_now p n (b ∷ s) h = rw (lt-ltb max_brackets n h)

-- a byte adds at most one, and only one that opens does
count_most : (p : Place) (n b : ℕ) (s : List ℕ) → count_after p n b + opening_in s ≤ n + opening_in (b ∷ s)
unfolding count_after opening_in
count_most p n b s = at p (eqb b 0x5B || eqb b 0x28) (eqb b 0x5D || eqb b 0x29)
  where
    by : (opens closes : Bool) → cond opens (suc n) (cond closes (n - 1) n) + opening_in s ≤ n + cond opens (suc (opening_in s)) (opening_in s)
    by true closes = omega arith
    by false true = omega arith
    by false false = omega arith

    least : (opens : Bool) → n + opening_in s ≤ n + cond opens (suc (opening_in s)) (opening_in s)
    least true = omega arith
    least false = omega arith

    at : (p : Place) (opens closes : Bool) → count_after p n b + opening_in s ≤ n + cond (eqb b 0x5B || eqb b 0x28) (suc (opening_in s)) (opening_in s)
    at outside o c = by (eqb b 0x5B || eqb b 0x28) (eqb b 0x5D || eqb b 0x29)
    at (quoted q) o c = least (eqb b 0x5B || eqb b 0x28)
    at (escaped q) o c = least (eqb b 0x5B || eqb b 0x28)

-- a count that the bytes left cannot bring above the limit is never too deep
pub deep_few : (p : Place) (n : ℕ) (s : List ℕ) → n + opening_in s ≤ max_brackets → too_deep_from p n s ≡ false
unfolding too_deep_from
deep_few p n [] h = le-ltb max_brackets n (omega (arith, h))
deep_few p n (b ∷ s) h =
    let m = count_most p n b s in
    rw (le-ltb max_brackets n (omega (arith, h))) (deep_few (place_after p b) (count_after p n b) s (omega (arith, m, h)))

opening_most : (s : List ℕ) → opening_in s ≤ length s
unfolding opening_in
opening_most [] = omega arith
opening_most (b ∷ s) = by (opening_most s) (eqb b 0x5B || eqb b 0x28)
  where
    by : opening_in s ≤ length s → (opens : Bool) → cond opens (suc (opening_in s)) (opening_in s) ≤ suc (length s)
    by h true = omega arith
    by h false = omega arith

-- the same from a place of a text on, by the number of bytes left
pub deep_never : (s : List ℕ) (i : ℕ) (p : Place) (n : ℕ) → length s - i ≤ max_brackets - n → n ≤ max_brackets → too_deep_from p n (drop i s) ≡ false
deep_never s i p n h l =
    let m = opening_most (drop i s) in
    deep_few p n (drop i s) (omega (arith, h, l, m, length-drop i s))

-- ---- counting the bytes that open

-- one byte more
pub opening_on : (s : List ℕ) (i : ℕ) → i < length s → (o : Bool) → o ≡ (eqb (get_or s i 0) 0x5B || eqb (get_or s i 0) 0x28) → opening_in (drop i s) ≡ cond o (suc (opening_in (drop (i + 1) s))) (opening_in (drop (i + 1) s))
unfolding opening_in
opening_on s i h o k = rw (add-one, drop-cons s i 0 h, k)

pub opening_behind : (s : List ℕ) (i : ℕ) → length s ≤ i → opening_in (drop i s) ≡ 0
opening_behind s i h = let m = opening_most (drop i s) in omega (arith, m, length-drop i s)

-- one byte more
pub deep_on : (s : List ℕ) (i : ℕ) (p : Place) (n : ℕ) → i < length s → n ≤ max_brackets
    → too_deep_from p n (drop i s) ≡ too_deep_from (place_after p (get_or s i 0)) (count_after p n (get_or s i 0)) (drop (i + 1) s)
unfolding too_deep_from
deep_on s i p n h l = rw (add-one, drop-cons s i 0 h, le-ltb max_brackets n l)
