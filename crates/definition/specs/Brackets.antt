-- Refusal 3: the bracket count over the raw bytes of a query, before the grammar.
use Rattle.std.specs.Prelude.{ℕ, suc, ◌-◌, List, [], ◌∷◌, Bool, cond, ◌||◌, eqb, ltb}
use Rattle.definition.specs.Limits.{max_brackets}

-- Where a byte stands: outside quoted text, inside text that the given quote opened, or there right behind a backslash.
pub data Place : Type 0 where
  outside : Place
  quoted : ℕ → Place
  escaped : ℕ → Place

-- "A quote opens text up to the next same quote; inside, a backslash and the byte after it are skipped."
unfoldable pub place_after : Place → ℕ → Place
place_after outside b = cond (eqb b 0x22 || eqb b 0x27) (quoted b) outside
place_after (quoted q) b = cond (eqb b q) outside (cond (eqb b 0x5C) (escaped q) (quoted q))
place_after (escaped q) b = quoted q

-- "outside quoted text `[` and `(` add one, `]` and `)` take one, never below 0"
unfoldable pub count_after : Place → ℕ → ℕ → ℕ
count_after outside n b = cond (eqb b 0x5B || eqb b 0x28) (suc n) (cond (eqb b 0x5D || eqb b 0x29) (n - 1) n)
count_after (quoted q) n b = n
count_after (escaped q) n b = n

-- whether the count passes 32 at some moment, from the place p and the count n on
unfoldable pub too_deep_from : Place → ℕ → List ℕ → Bool
too_deep_from p n [] = ltb max_brackets n
too_deep_from p n (b ∷ s) = ltb max_brackets n || too_deep_from (place_after p b) (count_after p n b) s

unfoldable pub too_deep : List ℕ → Bool
too_deep s = too_deep_from outside 0 s
