-- Classes of characters, UTF-8 and hexadecimal digits, at their ends.
use Rattle.std.specs.Prelude.{ℕ, zero, suc, ◌≡◌, refl, List, [], ◌∷◌, map, Bool, true, cond, not, ◌&&◌}
use Prim.Native.String.{String}
use Rattle.definition.specs.Bytes.{every, same_bytes}
use Rattle.definition.specs.Utf8.{is_scalar, encode, is_utf8}
use Rattle.definition.specs.Lexical.{is_blank, is_digit, is_digit1, is_lcalpha, is_alpha, is_name_first, is_name_char, is_function_char, is_unescaped, is_hex, is_e, is_short, is_high, is_low, hex_value}
use Rattle.definition_examples.specs.Computes.{computes}
use Rattle.definition_examples.specs.Texts.{codes, hex}
use Rattle.definition_examples.specs.Gives.{all}

-- ---- ASCII: a class is the characters of a text

-- the members of a class among the n numbers from c on
abbrev members_from : ℕ → ℕ → (ℕ → Bool) → List ℕ
members_from c zero p = []
members_from c (suc n) p = cond (p c) (c ∷ members_from (suc c) n p) (members_from (suc c) n p)

abbrev ascii : (ℕ → Bool) → String → Bool
ascii p s = same_bytes (members_from 0 128 p) (codes s)

pub ascii_classes :
    all
    (ascii is_blank "\t\n\r " ∷
    ascii is_digit "0123456789" ∷
    ascii is_digit1 "123456789" ∷
    ascii is_lcalpha "abcdefghijklmnopqrstuvwxyz" ∷
    ascii is_alpha "ABCDEFGHIJKLMNOPQRSTUVWXYZabcdefghijklmnopqrstuvwxyz" ∷
    ascii is_name_first "ABCDEFGHIJKLMNOPQRSTUVWXYZ_abcdefghijklmnopqrstuvwxyz" ∷
    ascii is_name_char "0123456789ABCDEFGHIJKLMNOPQRSTUVWXYZ_abcdefghijklmnopqrstuvwxyz" ∷
    ascii is_function_char "0123456789_abcdefghijklmnopqrstuvwxyz" ∷
    ascii is_unescaped " !#$%&()*+,-./0123456789:;<=>?@ABCDEFGHIJKLMNOPQRSTUVWXYZ[]^_`abcdefghijklmnopqrstuvwxyz{|}~\u{7f}" ∷
    ascii is_hex "0123456789ABCDEFabcdef" ∷
    ascii is_e "Ee" ∷
    ascii is_short "/\\bfnrt" ∷
    []) ≡ true
unfolding computes
ascii_classes = refl

-- ---- above ASCII: all but surrogates

abbrev wide : (ℕ → Bool) → Bool
wide p = every p (0x80 ∷ 0xD7FF ∷ 0xE000 ∷ 0x10FFFF ∷ []) && every (λ c. not (p c)) (0xD800 ∷ 0xDFFF ∷ 0x110000 ∷ [])

pub wide_classes : (wide is_name_first && (wide is_name_char && (wide is_unescaped && wide is_scalar))) ≡ true
unfolding computes
wide_classes = refl

pub surrogates :
    all
    (every is_high (0xD800 ∷ 0xDBFF ∷ []) ∷
    every is_low (0xDC00 ∷ 0xDFFF ∷ []) ∷
    every (λ c. not (is_high c)) (0xD7FF ∷ 0xDC00 ∷ []) ∷
    every (λ c. not (is_low c)) (0xDBFF ∷ 0xE000 ∷ []) ∷
    []) ≡ true
unfolding computes
surrogates = refl

pub hex_digits : map hex_value (codes "0123456789abcdefABCDEF") ≡ hex "00 01 02 03 04 05 06 07 08 09 0A 0B 0C 0D 0E 0F 0A 0B 0C 0D 0E 0F"
unfolding computes
hex_digits = refl

-- ---- UTF-8: the ends of each length, and what is none

abbrev encodes : ℕ → String → Bool
encodes c s = same_bytes (encode c) (hex s) && is_utf8 (hex s)

pub encodings :
    all
    (encodes 0x7F "7F" ∷
    encodes 0x80 "C2 80" ∷
    encodes 0x7FF "DF BF" ∷
    encodes 0x800 "E0 A0 80" ∷
    encodes 0xD7FF "ED 9F BF" ∷
    encodes 0xE000 "EE 80 80" ∷
    encodes 0xFFFF "EF BF BF" ∷
    encodes 0x10000 "F0 90 80 80" ∷
    encodes 0x4F312 "F1 8F 8C 92" ∷
    encodes 0x10FFFF "F4 8F BF BF" ∷
    []) ≡ true
unfolding computes
encodings = refl

abbrev no_utf8 : List String → Bool
no_utf8 [] = true
no_utf8 (s ∷ ss) = not (is_utf8 (hex s)) && no_utf8 ss

pub not_utf8 :
    no_utf8 ("80" ∷ "BF" ∷ "C1 BF" ∷ "C2" ∷ "C2 7F" ∷ "C2 C0" ∷ "E0 9F BF" ∷ "ED A0 80" ∷ "E1 80" ∷ "E1 80 C0" ∷ "F0 8F BF BF" ∷ "F1 80 80" ∷ "F4 90 80 80" ∷ "F5 80 80 80" ∷ "FF" ∷ "FF 61" ∷ "61 C2 61" ∷ []) ≡ true
unfolding computes
not_utf8 = refl
