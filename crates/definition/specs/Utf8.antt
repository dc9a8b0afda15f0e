-- UTF-8 (RFC 3629): the bytes of a code point, which byte strings are UTF-8, and the scalar values of one.
use Rattle.std.specs.Prelude.{ℕ, zero, suc, ◌+◌, ◌-◌, ◌*◌, ◌/◌, ◌%◌, List, [], ◌∷◌, ◌++◌, Bool, true, false, cond, ◌||◌, eqb, leb, ltb}
use Rattle.definition.specs.Bytes.{within}

-- a Unicode scalar value: a code point that is no surrogate
abbrev pub is_scalar : ℕ → Bool
is_scalar c = ltb c 0xD800 || within 0xE000 0x10FFFF c

-- RFC 3629, section 3: the bytes of a code point
unfoldable pub encode : ℕ → List ℕ
encode c =
    cond (ltb c 0x80) (c ∷ [])
    (cond (ltb c 0x800) ((0xC0 + c / 64) ∷ (0x80 + c % 64) ∷ [])
    (cond (ltb c 0x10000) ((0xE0 + c / 4096) ∷ (0x80 + c / 64 % 64) ∷ (0x80 + c % 64) ∷ [])
    ((0xF0 + c / 262144) ∷ (0x80 + c / 4096 % 64) ∷ (0x80 + c / 64 % 64) ∷ (0x80 + c % 64) ∷ [])))

unfoldable pub encode_all : List ℕ → List ℕ
encode_all [] = []
encode_all (c ∷ cs) = encode c ++ encode_all cs

-- What may come next in a UTF-8 text: a character's first byte; a byte in lo..hi and n bytes in 80..BF after it; or nothing, since a byte was wrong.
pub data Wait : Type 0 where
  ready : Wait
  tail : ℕ → ℕ → ℕ → Wait
  bad : Wait

-- RFC 3629, section 4, by the first byte of a character
unfoldable pub after_first : ℕ → Wait
after_first b =
    cond (ltb b 0x80) ready
    (cond (ltb b 0xC2) bad
    (cond (leb b 0xDF) (tail 0x80 0xBF 0)
    (cond (eqb b 0xE0) (tail 0xA0 0xBF 1)
    (cond (eqb b 0xED) (tail 0x80 0x9F 1)
    (cond (leb b 0xEF) (tail 0x80 0xBF 1)
    (cond (eqb b 0xF0) (tail 0x90 0xBF 2)
    (cond (leb b 0xF3) (tail 0x80 0xBF 2)
    (cond (eqb b 0xF4) (tail 0x80 0x8F 2) bad))))))))

unfoldable pub more_tails : ℕ → Wait
more_tails zero = ready
more_tails (suc n) = tail 0x80 0xBF n

unfoldable pub after_byte : Wait → ℕ → Wait
after_byte ready b = after_first b
after_byte (tail lo hi n) b = cond (within lo hi b) (more_tails n) bad
after_byte bad b = bad

unfoldable pub is_utf8_from : Wait → List ℕ → Bool
is_utf8_from ready [] = true
is_utf8_from (tail lo hi n) [] = false
is_utf8_from bad [] = false
is_utf8_from w (b ∷ s) = is_utf8_from (after_byte w b) s

-- refusal 2 is that this fails; "Texts and keys .. are UTF-8". The crate `utf8_laws` proves that these are the texts that `encode_all` gives for scalar values.
unfoldable pub is_utf8 : List ℕ → Bool
is_utf8 s = is_utf8_from ready s

-- ---- the scalar values of a text

-- a byte that continues a character
abbrev pub continues : ℕ → Bool
continues b = within 0x80 0xBF b

-- what the first byte of a character holds of its code point
unfoldable pub leading : ℕ → ℕ
leading b = cond (ltb b 0xC0) b (cond (ltb b 0xE0) (b - 0xC0) (cond (ltb b 0xF0) (b - 0xE0) (b - 0xF0)))

-- the code point that is c so far, with the six bits of each byte that continues it
unfoldable pub continued : ℕ → List ℕ → ℕ
continued c [] = c
continued c (b ∷ s) = cond (continues b) (continued (c * 64 + (b - 0x80)) s) c

-- RFC 3629, section 3, read backwards: a byte that continues no character begins one. The crate `utf8_laws` proves that these are the scalar values whose bytes a UTF-8 text is.
unfoldable pub scalars_of : List ℕ → List ℕ
scalars_of [] = []
scalars_of (b ∷ s) = cond (continues b) (scalars_of s) (continued (leading b) s ∷ scalars_of s)
