-- Laws of lists and of little-endian numbers: what one list that is read in two ways tells of both.
-- Assumes nothing.
use Rattle.std.specs.Prelude.{ℕ, suc, ◌^◌, ◌<◌, ◌≡◌, refl, List, [], ◌∷◌, ◌++◌, length}
use Rattle.std.proofs.Common.{arith, sym, ap, ◌∙◌}
use Rattle.definition.specs.Bytes.{number, little_endian}
use Rattle.definition_bytes.specs.Numbers.{little_endian_length, number_little}

-- two lists with parts of one length in front have equal parts and equal rests
pub append_same : (a b r t : List ℕ) → length a ≡ length b → a ++ r ≡ b ++ t → (a ≡ b) × (r ≡ t)
append_same [] [] r t l e = (refl, e)
append_same [] (y ∷ b) r t l e = absurd (let z : 0 ≡ suc (length b) = l in omega arith)
append_same (x ∷ a) [] r t l e = absurd (let z : suc (length a) ≡ 0 = l in omega arith)
append_same (x ∷ a) (y ∷ b) r t l e =
    let n : length a ≡ length b = omega arith in
    let u : x ≡ y = cc in
    let v : a ++ r ≡ b ++ t = cc in
    let h = append_same a b r t n v in
    (cc (u, h.0), h.1)

-- two numbers that fit w bytes, spelled in one place, are equal, and so are the rests
pub number_same : (w n m : ℕ) {s r t : List ℕ} → n < 256 ^ w → m < 256 ^ w → s ≡ little_endian w n ++ r → s ≡ little_endian w m ++ t → (n ≡ m) × (r ≡ t)
number_same w n m {s} {r} {t} f g a b =
    let e : little_endian w n ++ r ≡ little_endian w m ++ t = sym a ∙ b in
    let h = append_same (little_endian w n) (little_endian w m) r t (little_endian_length w n ∙ sym (little_endian_length w m)) e in
    (sym (number_little w n f) ∙ ap number h.0 ∙ number_little w m g, h.1)
