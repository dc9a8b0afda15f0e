-- Bytes that stand in a plan or a pool from a place on, and the numbers that they are. Assumes nothing.
use Rattle.std.specs.Prelude.{ℕ, zero, suc, ◌+◌, ◌*◌, ◌-◌, ◌%◌, ◌≤◌, ◌<◌, ◌^◌, ◌≡◌, refl, true, false, length, get_or, take, drop, ltb, leb, ℤ, pos, negsuc, nat_abs}
use Rattle.std.proofs.Common.{sym, ap, ◌∙◌, subst, length-append, drop-cons, arith, ltb-true, le-ltb}
use mathlib.Core.List.{List, [], ◌∷◌, ◌++◌, nil≢cons, head-eq_of_cons-eq, tail-eq_of_cons-eq}
use Rattle.definition.specs.Bytes.{part, number, little_endian, signed64, unsigned64}
use Rattle.definition.specs.QueryForms.{inside_i64}
use Rattle.definition_bytes.specs.Numbers.{little_endian_length, number_little, unsigned_fits}

-- the bytes xs stand in P from p on
unfoldable pub Holds : List ℕ → ℕ → List ℕ → Type 0
Holds P p [] = p ≤ length P
Holds P p (x ∷ xs) = (p < length P) × (get_or P p 0 ≡ x) × Holds P (suc p) xs

-- what stands at a place is within the plan
pub holds_in : (P : List ℕ) (p : ℕ) (xs : List ℕ) → Holds P p xs → p + length xs ≤ length P
unfolding Holds
holds_in P p [] h = omega arith
holds_in P p (x ∷ xs) h = let w = holds_in P (suc p) xs h.2 in omega arith

-- the first part, and the second
pub holds_first : (P : List ℕ) (p : ℕ) (xs ys : List ℕ) → Holds P p (xs ++ ys) → Holds P p xs
unfolding Holds
holds_first P p [] ys h = let w = holds_in P p ys h in omega arith
holds_first P p (x ∷ xs) ys h = (h.0, h.1, holds_first P (suc p) xs ys h.2)

pub holds_second : (P : List ℕ) (p : ℕ) (xs ys : List ℕ) → Holds P p (xs ++ ys) → Holds P (p + length xs) ys
unfolding Holds
holds_second P p [] ys h = let e : p ≡ p + 0 = omega arith in subst (λ (x : ℕ). Holds P x ys) e h
holds_second P p (x ∷ xs) ys h = let e : suc p + length xs ≡ p + suc (length xs) = omega arith in subst (λ (x : ℕ). Holds P x ys) e (holds_second P (suc p) xs ys h.2)

pub holds_append : (P : List ℕ) (p : ℕ) (xs ys : List ℕ) → Holds P p xs → Holds P (p + length xs) ys → Holds P p (xs ++ ys)
unfolding Holds
holds_append P p [] ys h g = let e : p + 0 ≡ p = omega arith in subst (λ (x : ℕ). Holds P x ys) e g
holds_append P p (x ∷ xs) ys h g = let e : p + suc (length xs) ≡ suc p + length xs = omega arith in (h.0, h.1, holds_append P (suc p) xs ys h.2 (subst (λ (z : ℕ). Holds P z ys) e g))

pub holds_tail : (P : List ℕ) (p x : ℕ) (xs : List ℕ) → Holds P p (x ∷ xs) → Holds P (p + 1) xs
unfolding Holds
holds_tail P p x xs h = let e : suc p ≡ p + 1 = omega arith in subst (λ (z : ℕ). Holds P z xs) e h.2

pub holds_head : (P : List ℕ) (p x : ℕ) (xs : List ℕ) → Holds P p (x ∷ xs) → (p < length P) × (get_or P p 0 ≡ x)
unfolding Holds
holds_head P p x xs h = (h.0, h.1)

pub holds_at : (P : List ℕ) (p r : ℕ) (xs : List ℕ) → r ≡ p → Holds P p xs → Holds P r xs
holds_at P p r xs e h = rw e h

pub holds_is : (P : List ℕ) (p : ℕ) (xs ys : List ℕ) → ys ≡ xs → Holds P p xs → Holds P p ys
holds_is P p xs ys e h = rw e h

-- the part that is as long as the bytes is the bytes
pub holds_part : (P : List ℕ) (p : ℕ) (xs : List ℕ) → Holds P p xs → part P p (length xs) ≡ xs
unfolding Holds
holds_part P p [] h = refl
holds_part P p (x ∷ xs) h = ap (take (suc (length xs))) (drop-cons P p 0 h.0) ∙ ap (λ (y : ℕ). y ∷ part P (suc p) (length xs)) h.1 ∙ ap (λ (l : List ℕ). x ∷ l) (holds_part P (suc p) xs h.2)

-- a list holds itself
uncons : (P : List ℕ) (p x : ℕ) (ys : List ℕ) → drop p P ≡ x ∷ ys → (p < length P) × (get_or P p 0 ≡ x) × (drop (suc p) P ≡ ys)
uncons [] zero x ys e = absurd (nil≢cons e)
uncons [] (suc p) x ys e = absurd (nil≢cons e)
uncons (y ∷ P) zero x ys e = (omega arith, head-eq_of_cons-eq e, tail-eq_of_cons-eq e)
uncons (y ∷ P) (suc p) x ys e = let u = uncons P p x ys e in (omega arith, u.1, u.2)

holds_drop : (P : List ℕ) (p : ℕ) (xs : List ℕ) → p ≤ length P → drop p P ≡ xs → Holds P p xs
unfolding Holds
holds_drop P p [] l e = l
holds_drop P p (x ∷ xs) l e = let u = uncons P p x xs e in let v = u.0 in (u.0, u.1, holds_drop P (suc p) xs (omega arith) u.2)

pub holds_whole : (P xs : List ℕ) → xs ≡ P → Holds P 0 xs
holds_whole P xs e = holds_drop P 0 xs (omega arith) (sym e)

-- ---- numbers

-- a number that stands in a plan is read
pub number_at : (P : List ℕ) (p w n : ℕ) (ys : List ℕ) → n < 256 ^ w → Holds P p (little_endian w n ++ ys) → number (part P p w) ≡ n
number_at P p w n ys l h =
    ap (λ (k : ℕ). number (part P p k)) (sym (little_endian_length w n)) ∙ ap number (holds_part P p (little_endian w n) (holds_first P p (little_endian w n) ys h)) ∙ number_little w n l

-- what stands behind a number
pub holds_after : (P : List ℕ) (p w n : ℕ) (ys : List ℕ) → Holds P p (little_endian w n ++ ys) → Holds P (p + w) ys
holds_after P p w n ys h = holds_at P (p + length (little_endian w n)) (p + w) ys (ap (λ (k : ℕ). p + k) (sym (little_endian_length w n))) (holds_second P p (little_endian w n) ys h)

-- ---- two's complement

pub signed_unsigned : (z : ℤ) → inside_i64 z ≡ true → signed64 (unsigned64 z) ≡ z
unfolding inside_i64
signed_unsigned (pos n) h = rw h
signed_unsigned (negsuc n) h =
    let l = ltb-true n (2 ^ 63) h in
    let e : 2 ^ 64 - suc (2 ^ 64 - suc n) ≡ n = omega arith in
    rw (le-ltb (2 ^ 64 - suc n) (2 ^ 63) (omega arith)) (ap negsuc e)

-- an integer that stands in a plan is read
pub signed_at : (P : List ℕ) (p : ℕ) (z : ℤ) (ys : List ℕ) → inside_i64 z ≡ true → Holds P p (little_endian 8 (unsigned64 z) ++ ys) → signed64 (number (part P p 8)) ≡ z
signed_at P p z ys h b = ap signed64 (number_at P p 8 (unsigned64 z) ys (unsigned_fits z h) b) ∙ signed_unsigned z h
