-- The places of the bracket count, as the definition has them, and how many bytes may add one to it.
use Rattle.std.specs.Prelude.{ℕ, suc, List, [], ◌∷◌, cond, ◌||◌, eqb}
use Rattle.definition.specs.Brackets.{Place}
use Rattle.definition.specs.Brackets.Place.{outside, quoted, escaped}
use Rattle.text.specs.declared.brackets.Place.{Place as Held}
use Rattle.text.specs.declared.brackets.Place.TheVariants.{Outside, Quoted, Escaped}

-- the place that a value of the code stands for
abbrev pub place_of : Held → Place
place_of Outside = outside
place_of (Quoted q) = quoted q
place_of (Escaped q) = escaped q

-- how many bytes of a text add one outside quoted text
unfoldable pub opening_in : List ℕ → ℕ
opening_in [] = 0
opening_in (b ∷ s) = cond (eqb b 0x5B || eqb b 0x28) (suc (opening_in s)) (opening_in s)
