-- Texts of the examples as characters: their code points, their UTF-8 bytes, and the bytes that a row of hexadecimal digits writes.
use Rattle.std.specs.Prelude.{ℕ, ◌+◌, ◌*◌, List, [], ◌∷◌, cond, eqb}
use Prim.Native.Char.{code}
use Prim.Native.String.{String, [] as noChar, ◌∷◌ as ◌before◌}
use Rattle.definition.specs.Utf8.{encode_all}
use Rattle.definition.specs.Lexical.{hex_value}

abbrev pub codes : String → List ℕ
codes noChar = []
codes (c before s) = code c ∷ codes s

abbrev pub bytes : String → List ℕ
bytes s = encode_all (codes s)

-- two digits for a byte, with blanks between the bytes
abbrev pairs : List ℕ → List ℕ
pairs [] = []
pairs (a ∷ []) = []
pairs (a ∷ b ∷ s) = cond (eqb a 0x20) (pairs (b ∷ s)) ((hex_value a * 16 + hex_value b) ∷ pairs s)

abbrev pub hex : String → List ℕ
hex s = pairs (codes s)
