-- Laws of the characters of names and texts: quotes are ASCII, names are made of scalar values, and a character has four bytes at most. Assumes nothing.
use Rattle.std.specs.Prelude.{ℕ, ◌≤◌, ◌<◌, ◌≡◌, refl, true, List, [], ◌∷◌, ltb, length}
use Rattle.std.proofs.Common.{arith, lit<}
use Rattle.std.proofs.Math.Bool.{and-eq-true_iff}
use Rattle.definition.specs.Bytes.{every}
use Rattle.definition.specs.Lexical.{Quote, own_byte, other_byte, is_name_char}
use Rattle.definition.specs.Lexical.Quote.{double, single}
use Rattle.definition.specs.Utf8.{encode, is_scalar}
use Rattle.utf8_laws.specs.Bytes.{by_test}
use Rattle.utf8_laws.specs.Names.{name_scalar}

-- ---- the quotes

pub own_ascii : (q : Quote) → own_byte q < 0x80
own_ascii double = lit< tt
own_ascii single = lit< tt

pub other_ascii : (q : Quote) → other_byte q < 0x80
other_ascii double = lit< tt
other_ascii single = lit< tt

-- ---- characters

-- the characters of a name are scalar values
pub name_scalars : (cs : List ℕ) → every is_name_char cs ≡ true → every is_scalar cs ≡ true
name_scalars [] e = refl
name_scalars (c ∷ cs) e =
    let t = (and-eq-true_iff (is_name_char c) (every is_name_char cs)).0 e in
    rw (name_scalar c t.0) (name_scalars cs t.1)

-- a code point has four bytes at most
pub encode_most : (c : ℕ) → length (encode c) ≤ 4
unfolding encode
encode_most c =
    by_test (ltb c 0x80) (λ t. rw t (omega arith)) (λ f.
    by_test (ltb c 0x800) (λ t. rw (f, t) (omega arith)) (λ g.
    by_test (ltb c 0x10000) (λ t. rw (f, g, t) (omega arith)) (λ h. rw (f, g, h) (omega arith))))
