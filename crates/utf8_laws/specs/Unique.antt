-- A text has one list of code points at most: the bytes of a code point can be told from those of any other, whatever follows.
-- Assumes nothing.
use Rattle.std.specs.Prelude.{ℕ, ◌+◌, ◌-◌, ◌*◌, ◌/◌, ◌≡◌, refl, List, [], ◌∷◌, ◌++◌, cond, ltb, length, drop, get_or}
use Rattle.std.proofs.Common.{sym, ap, ◌∙◌, arith, lt-ltb, le-ltb, ltb-true, ltb-false, length-append}
use Rattle.std.proofs.Math.Nat.{div-div-eq-div-mul}
use Rattle.std.proofs.Math.Seq.{drop-append_seam}
use Rattle.definition.specs.Utf8.{encode, encode_all}
use Rattle.utf8_laws.specs.Bytes.{by_test}
use Rattle.utf8_laws.specs.Encode.{encode_one, encode_two, encode_three, encode_four}
use Rattle.utf8_laws.specs.Decode.{marks2, marks3, marks4, encode_long}

-- the code point that a text's first bytes stand for, by the number of bytes that the first one announces
unfoldable pub point : List ℕ → ℕ
point s =
    let b = get_or s 0 0 in
    let t = get_or s 1 0 in
    let u = get_or s 2 0 in
    let v = get_or s 3 0 in
    cond (ltb b 0x80) b
    (cond (ltb b 0xE0) (b * 64 + t - marks2)
    (cond (ltb b 0xF0) (b * 4096 + t * 64 + u - marks3)
    (b * 262144 + t * 4096 + u * 64 + v - marks4)))

-- in front of any text, the bytes of a code point stand for it
pub point_encode : (c : ℕ) (r : List ℕ) → point (encode c ++ r) ≡ c
unfolding point
point_encode c r =
    by_test (ltb c 0x80) (λ t. rw (encode_one c (ltb-true c 0x80 t), t)) (λ f.
    by_test (ltb c 0x800)
    (λ t.
    let l = ltb-false c 0x80 f in
    let h = ltb-true c 0x800 t in
    rw (encode_two c l h, le-ltb (0xC0 + c / 64) 0x80 (omega arith), lt-ltb (0xC0 + c / 64) 0xE0 (omega arith)) (omega arith))
    (λ g.
    let l = ltb-false c 0x800 g in
    by_test (ltb c 0x10000)
    (λ t.
    let h = ltb-true c 0x10000 t in
    rw (encode_three c l h, le-ltb (0xE0 + c / 4096) 0x80 (omega arith), le-ltb (0xE0 + c / 4096) 0xE0 (omega arith), lt-ltb (0xE0 + c / 4096) 0xF0 (omega arith)) (omega arith))
    (λ t.
    let m = ltb-false c 0x10000 t in
    let x = div-div-eq-div-mul c 64 64 in
    let y = div-div-eq-div-mul c 4096 64 in
    rw (encode_four c m, le-ltb (0xF0 + c / 262144) 0x80 (omega arith), le-ltb (0xF0 + c / 262144) 0xE0 (omega arith), le-ltb (0xF0 + c / 262144) 0xF0 (omega arith)) (omega arith))))

-- texts that begin with the bytes of code points and are equal begin with those of one, and go on alike
pub encode_unique : (c d : ℕ) (r s : List ℕ) → encode c ++ r ≡ encode d ++ s → (c ≡ d) × (r ≡ s)
encode_unique c d r s e =
    let q : c ≡ d = sym (point_encode c r) ∙ ap point e ∙ point_encode d s in
    let f : encode d ++ r ≡ encode d ++ s = rw q at e in
    (q, sym (drop-append_seam (encode d) r) ∙ ap (drop (length (encode d))) f ∙ drop-append_seam (encode d) s)

-- a text that begins with a code point is not empty
pub never_empty : (c : ℕ) (r : List ℕ) → encode c ++ r ≡ [] → ⊥
never_empty c r e = let h = encode_long c in let l = length-append (encode c) r in let k = ap length e in omega arith

-- no text has two lists of code points
pub encode_all_unique : (cs ds : List ℕ) → encode_all cs ≡ encode_all ds → cs ≡ ds
unfolding encode_all
encode_all_unique [] [] e = refl
encode_all_unique [] (d ∷ ds) e = absurd (never_empty d (encode_all ds) (sym e))
encode_all_unique (c ∷ cs) [] e = absurd (never_empty c (encode_all cs) e)
encode_all_unique (c ∷ cs) (d ∷ ds) e =
    let u = encode_unique c d (encode_all cs) (encode_all ds) e in
    rw (u.0, encode_all_unique cs ds u.1)
