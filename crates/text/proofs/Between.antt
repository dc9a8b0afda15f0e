-- A part of a UTF-8 text by its two ends. Assumes nothing.
use Prim.Native.Nat.{ℕ, ◌+◌, ◌-◌, ◌≤◌, ◌<◌}
use mathlib.Core.Path.{◌≡◌, ◌∙◌}
use mathlib.Core.Bool.{true, false, not, ◌&&◌, ◌||◌}
use mathlib.Core.List.{List}
use native.Mathlib.Omega.{arith}
use borrow.Author.Tests.{le-leb, lt-leb, ltb-true, ltb-false}
use lib.Dec.{ltb}
use lib.ListN.{length, get_or, drop_of_length-le}
use lib.Seq.{drop-cons}
use Rattle.definition.specs.Bytes.{part, within}
use Rattle.definition.specs.Utf8.{is_utf8_from, is_utf8}
use Rattle.utf8_laws.specs.Bytes.{by_test}
use Rattle.utf8_laws.specs.Boundaries.{begins_fresh, is_between, part_between}

-- the end of a text is between characters
pub between_end : (s : List ℕ) (at : ℕ) → length s ≤ at → is_between s at ≡ true
unfolding is_between begins_fresh
between_end s at h = rw (drop_of_length-le s h)

-- a byte that is outside of 80..BF
outside : (b : ℕ) → not (within 0x80 0xBF b) ≡ (ltb b 0x80 || ltb 0xBF b)
outside b =
    by_test (ltb b 0x80)
    (λ t. let h = ltb-true b 0x80 t in rw (t, lt-leb 0x80 b h))
    (λ f. let h = ltb-false b 0x80 f in rw (f, le-leb 0x80 b h) (by_test (ltb 0xBF b) (λ t. rw (t, lt-leb b 0xBF (ltb-true 0xBF b t))) (λ g. rw (g, le-leb b 0xBF (ltb-false 0xBF b g)))))

-- another place is, if no byte stands there that continues a character
pub between_at : (s : List ℕ) (at : ℕ) → at < length s → is_between s at ≡ (ltb (get_or s at 0) 0x80 || ltb 0xBF (get_or s at 0))
unfolding is_between begins_fresh
between_at s at h = rw (drop-cons s at 0 h) (outside (get_or s at 0))

-- an empty part
pub part_none : (s : List ℕ) (a b : ℕ) → a ≡ b → is_utf8 (part s a (b - a)) ≡ true
unfolding is_utf8 is_utf8_from
part_none s a b e = let z : b - a ≡ 0 = omega arith in rw z

module _ (s : List ℕ) (a b : ℕ) (u : is_utf8 s ≡ true) (l : a < b) where
  by_ends : is_utf8 (part s a (b - a)) ≡ (is_between s a && is_between s b)
  by_ends = let e : a + (b - a) ≡ b = omega arith in rw e at (part_between s a (b - a) u (omega arith))

  -- a part that begins inside a character; and one that does not
  pub part_begins : is_between s a ≡ false → is_utf8 (part s a (b - a)) ≡ false
  part_begins e = by_ends ∙ rw e

  pub part_ends : is_between s a ≡ true → is_utf8 (part s a (b - a)) ≡ is_between s b
  part_ends e = by_ends ∙ rw e
