-- The bytes of a scalar value are UTF-8, whatever follows them: in front of a text they change nothing.
-- Assumes nothing.
use Rattle.std.specs.Prelude.{ℕ, ◌+◌, ◌/◌, ◌%◌, ◌≤◌, ◌<◌, ◌≡◌, refl, ◌⊎◌, List, [], ◌∷◌, ◌++◌, true, eqb, ltb}
use Rattle.std.proofs.Common.{◌∙◌, inl, inr, append_assoc, append-nil, arith, lt-ltb, le-ltb, eqb-true, ltb-true, ltb-false}
use Rattle.std.proofs.Math.Bool.{and-eq-true_iff}
use Rattle.definition.specs.Bytes.{every, within}
use Rattle.definition.specs.Utf8.{is_scalar, encode, encode_all, after_byte, more_tails, is_utf8_from, is_utf8}
use Rattle.utf8_laws.specs.Bytes.{by_test, inside_low, inside_high, low3, high3, low4, high4, after_one, after_two, after_three, after_four, pass}

-- a scalar value is below the surrogates or above them, and at most 10FFFF
pub scalar_range : (c : ℕ) → is_scalar c ≡ true → (c < 0xD800) ⊎ ((0xE000 ≤ c) × (c ≤ 0x10FFFF))
scalar_range c e =
    by_test (ltb c 0xD800)
    (λ t. inl (ltb-true c 0xD800 t))
    (λ f. let w : within 0xE000 0x10FFFF c ≡ true = rw f at e in inr (inside_low 0xE000 0x10FFFF c w, inside_high 0xE000 0x10FFFF c w))

-- ---- the bytes by the size of the code point

-- a code point below 80 is its own byte
pub encode_one : (c : ℕ) → c < 0x80 → encode c ≡ c ∷ []
unfolding encode
encode_one c h = rw (lt-ltb c 0x80 h)

-- a code point from 80 on and below 800 has two bytes
pub encode_two : (c : ℕ) → 0x80 ≤ c → c < 0x800 → encode c ≡ (0xC0 + c / 64) ∷ (0x80 + c % 64) ∷ []
unfolding encode
encode_two c l h = rw (le-ltb c 0x80 l, lt-ltb c 0x800 h)

-- a code point from 800 on and below 10000 has three bytes
pub encode_three : (c : ℕ) → 0x800 ≤ c → c < 0x10000 → encode c ≡ (0xE0 + c / 4096) ∷ (0x80 + c / 64 % 64) ∷ (0x80 + c % 64) ∷ []
unfolding encode
encode_three c l h = rw (le-ltb c 0x80 (omega arith), le-ltb c 0x800 l, lt-ltb c 0x10000 h)

-- a code point from 10000 on has four bytes
pub encode_four : (c : ℕ) → 0x10000 ≤ c → encode c ≡ (0xF0 + c / 262144) ∷ (0x80 + c / 4096 % 64) ∷ (0x80 + c / 64 % 64) ∷ (0x80 + c % 64) ∷ []
unfolding encode
encode_four c l = rw (le-ltb c 0x80 (omega arith), le-ltb c 0x800 (omega arith), le-ltb c 0x10000 l)

-- ---- the bounds of the second byte

-- a code point from 800 on keeps the lower bound of its second byte
low3_holds : (c : ℕ) → 0x800 ≤ c → low3 (0xE0 + c / 4096) ≤ 0x80 + c / 64 % 64
low3_holds c l =
    by_test (eqb (0xE0 + c / 4096) 0xE0)
    (λ e. let q : 0xE0 + c / 4096 ≡ 0xE0 = eqb-true (0xE0 + c / 4096) 0xE0 e in rw e (omega arith))
    (λ e. rw e (omega arith))

-- a code point that is no surrogate keeps the upper bound
high3_holds : (c : ℕ) → (c < 0xD800) ⊎ (0xE000 ≤ c) → 0x80 + c / 64 % 64 ≤ high3 (0xE0 + c / 4096)
high3_holds c (inl h) =
    by_test (eqb (0xE0 + c / 4096) 0xED)
    (λ e. let q : 0xE0 + c / 4096 ≡ 0xED = eqb-true (0xE0 + c / 4096) 0xED e in rw e (omega arith))
    (λ e. rw e (omega arith))
high3_holds c (inr h) =
    by_test (eqb (0xE0 + c / 4096) 0xED)
    (λ e. let q : 0xE0 + c / 4096 ≡ 0xED = eqb-true (0xE0 + c / 4096) 0xED e in absurd (omega arith))
    (λ e. rw e (omega arith))

-- a code point from 10000 on keeps the lower bound of its second byte
low4_holds : (c : ℕ) → 0x10000 ≤ c → low4 (0xF0 + c / 262144) ≤ 0x80 + c / 4096 % 64
low4_holds c l =
    by_test (eqb (0xF0 + c / 262144) 0xF0)
    (λ e. let q : 0xF0 + c / 262144 ≡ 0xF0 = eqb-true (0xF0 + c / 262144) 0xF0 e in rw e (omega arith))
    (λ e. rw e (omega arith))

-- a code point up to 10FFFF keeps the upper bound
high4_holds : (c : ℕ) → c ≤ 0x10FFFF → 0x80 + c / 4096 % 64 ≤ high4 (0xF0 + c / 262144)
high4_holds c h =
    by_test (eqb (0xF0 + c / 262144) 0xF4)
    (λ e. let q : 0xF0 + c / 262144 ≡ 0xF4 = eqb-true (0xF0 + c / 262144) 0xF4 e in rw e (omega arith))
    (λ e. rw e (omega arith))

-- ---- a character in front of a text

-- an ASCII byte is a character of its own
pub utf8_ascii : (b : ℕ) (r : List ℕ) → b < 0x80 → is_utf8 (b ∷ r) ≡ is_utf8 r
unfolding is_utf8 is_utf8_from after_byte
utf8_ascii b r h = rw (after_one b h)

-- the bytes of a character of two bytes
pub utf8_two : (b t : ℕ) (r : List ℕ) → 0xC2 ≤ b → b ≤ 0xDF → 0x80 ≤ t → t ≤ 0xBF → is_utf8 (b ∷ t ∷ r) ≡ is_utf8 r
unfolding is_utf8 is_utf8_from after_byte more_tails
utf8_two b t r l h tl th = rw (after_two b l h) (pass 0x80 0xBF 0 t r tl th)

-- the bytes of a character of three bytes
pub utf8_three : (b t u : ℕ) (r : List ℕ) → 0xE0 ≤ b → b ≤ 0xEF → low3 b ≤ t → t ≤ high3 b → 0x80 ≤ u → u ≤ 0xBF → is_utf8 (b ∷ t ∷ u ∷ r) ≡ is_utf8 r
unfolding is_utf8 is_utf8_from after_byte more_tails
utf8_three b t u r l h tl th ul uh = rw (after_three b l h) (pass (low3 b) (high3 b) 1 t (u ∷ r) tl th ∙ pass 0x80 0xBF 0 u r ul uh)

-- the bytes of a character of four bytes
pub utf8_four : (b t u v : ℕ) (r : List ℕ) → 0xF0 ≤ b → b ≤ 0xF4 → low4 b ≤ t → t ≤ high4 b → 0x80 ≤ u → u ≤ 0xBF → 0x80 ≤ v → v ≤ 0xBF → is_utf8 (b ∷ t ∷ u ∷ v ∷ r) ≡ is_utf8 r
unfolding is_utf8 is_utf8_from after_byte more_tails
utf8_four b t u v r l h tl th ul uh vl vh =
    rw (after_four b l h)
    (pass (low4 b) (high4 b) 2 t (u ∷ v ∷ r) tl th ∙ pass 0x80 0xBF 1 u (v ∷ r) ul uh ∙ pass 0x80 0xBF 0 v r vl vh)

-- a scalar value of three bytes in front of a text
three : (c : ℕ) (r : List ℕ) → 0x800 ≤ c → c < 0x10000 → (c < 0xD800) ⊎ (0xE000 ≤ c) → is_utf8 (encode c ++ r) ≡ is_utf8 r
three c r l h s =
    rw (encode_three c l h)
    (utf8_three (0xE0 + c / 4096) (0x80 + c / 64 % 64) (0x80 + c % 64) r (omega arith) (omega arith) (low3_holds c l) (high3_holds c s) (omega arith) (omega arith))

-- a scalar value of four bytes in front of a text
four : (c : ℕ) (r : List ℕ) → 0x10000 ≤ c → c ≤ 0x10FFFF → is_utf8 (encode c ++ r) ≡ is_utf8 r
four c r l h =
    rw (encode_four c l)
    (utf8_four (0xF0 + c / 262144) (0x80 + c / 4096 % 64) (0x80 + c / 64 % 64) (0x80 + c % 64) r (omega arith) (omega arith) (low4_holds c l) (high4_holds c h) (omega arith) (omega arith) (omega arith) (omega arith))

-- a scalar value from 800 on in front of a text
long : (c : ℕ) (r : List ℕ) → 0x800 ≤ c → (c < 0xD800) ⊎ ((0xE000 ≤ c) × (c ≤ 0x10FFFF)) → is_utf8 (encode c ++ r) ≡ is_utf8 r
long c r l (inl s) = three c r l (omega arith) (inl s)
long c r l (inr s) =
    by_test (ltb c 0x10000)
    (λ t. three c r l (ltb-true c 0x10000 t) (inr s.0))
    (λ f. four c r (ltb-false c 0x10000 f) s.1)

-- the bytes of a scalar value in front of a text leave it UTF-8, or not, as it was
pub utf8_encode : (c : ℕ) (r : List ℕ) → is_scalar c ≡ true → is_utf8 (encode c ++ r) ≡ is_utf8 r
utf8_encode c r e =
    by_test (ltb c 0x80) (λ t. let h : c < 0x80 = ltb-true c 0x80 t in rw (encode_one c h) (utf8_ascii c r h)) (λ a.
    by_test (ltb c 0x800)
    (λ t.
    let l : 0x80 ≤ c = ltb-false c 0x80 a in
    let h : c < 0x800 = ltb-true c 0x800 t in
    rw (encode_two c l h) (utf8_two (0xC0 + c / 64) (0x80 + c % 64) r (omega arith) (omega arith) (omega arith) (omega arith)))
    (λ f. long c r (ltb-false c 0x800 f) (scalar_range c e)))

-- so do the bytes of a list of scalar values
pub utf8_encode_all : (cs : List ℕ) (r : List ℕ) → every is_scalar cs ≡ true → is_utf8 (encode_all cs ++ r) ≡ is_utf8 r
unfolding encode_all
utf8_encode_all [] r e = refl
utf8_encode_all (c ∷ cs) r e =
    let b = (and-eq-true_iff (is_scalar c) (every is_scalar cs)).0 e in
    rw append_assoc (utf8_encode c (encode_all cs ++ r) b.0 ∙ utf8_encode_all cs r b.1)

-- a list of scalar values encodes to UTF-8
pub encode_all_utf8 : (cs : List ℕ) → every is_scalar cs ≡ true → is_utf8 (encode_all cs) ≡ true
unfolding is_utf8 is_utf8_from
encode_all_utf8 cs e = rw append-nil at (utf8_encode_all cs [] e)
