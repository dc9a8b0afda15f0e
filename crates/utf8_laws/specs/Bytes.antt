-- What a UTF-8 text may hold next, by ranges of bytes: four kinds of first byte, and the bytes behind one.
-- The second byte of a character of three bytes, and of one of four, has bounds that depend on the first.
-- Assumes nothing.
use Rattle.std.specs.Prelude.{ℕ, ◌≤◌, ◌<◌, ◌≡◌, refl, List, [], ◌∷◌, Bool, true, false, cond, eqb, leb, ltb}
use Rattle.std.proofs.Common.{sym, ◌∙◌, arith, lt-ltb, le-ltb, le-leb, ne_eqb, eqb-true, leb-true, leb-false, ltb-true, ltb-false}
use Rattle.std.proofs.Math.Bool.{and-eq-true_iff}
use Rattle.std.proofs.lemmas.Bool.{false≢true, lt-leb, eqb-false}
use Rattle.definition.specs.Bytes.{within}
use Rattle.definition.specs.Utf8.{after_first, after_byte, more_tails, is_utf8_from}
use Rattle.definition.specs.Utf8.Wait.{ready, tail, bad}

-- a proof by the two outcomes of a test
pub by_test : {A : Type 0} (t : Bool) → (t ≡ true → A) → (t ≡ false → A) → A
by_test true f g = f refl
by_test false f g = g refl

-- ---- ranges

-- a byte between two bounds passes the test of the range
pub inside : (lo hi b : ℕ) → lo ≤ b → b ≤ hi → within lo hi b ≡ true
inside lo hi b l h = rw (le-leb lo b l, le-leb b hi h)

-- a byte that passes the test of a range is at least its lower bound
pub inside_low : (lo hi b : ℕ) → within lo hi b ≡ true → lo ≤ b
inside_low lo hi b e = leb-true lo b ((and-eq-true_iff (leb lo b) (leb b hi)).0 e).0

-- a byte that passes the test of a range is at most its upper bound
pub inside_high : (lo hi b : ℕ) → within lo hi b ≡ true → b ≤ hi
inside_high lo hi b e = leb-true b hi ((and-eq-true_iff (leb lo b) (leb b hi)).0 e).1

-- ---- first bytes

-- the bounds of the second byte of a character of three bytes, by its first
abbrev pub low3 : ℕ → ℕ
low3 b = cond (eqb b 0xE0) 0xA0 0x80

abbrev pub high3 : ℕ → ℕ
high3 b = cond (eqb b 0xED) 0x9F 0xBF

-- the bounds of the second byte of a character of four bytes, by its first
abbrev pub low4 : ℕ → ℕ
low4 b = cond (eqb b 0xF0) 0x90 0x80

abbrev pub high4 : ℕ → ℕ
high4 b = cond (eqb b 0xF4) 0x8F 0xBF

-- a byte below 80 is a character
pub after_one : (b : ℕ) → b < 0x80 → after_first b ≡ ready
unfolding after_first
after_one b h = rw (lt-ltb b 0x80 h)

-- a byte in C2..DF begins a character of two bytes
pub after_two : (b : ℕ) → 0xC2 ≤ b → b ≤ 0xDF → after_first b ≡ tail 0x80 0xBF 0
unfolding after_first
after_two b l h = rw (le-ltb b 0x80 (omega arith), le-ltb b 0xC2 l, le-leb b 0xDF h)

-- a byte in E0..EF begins a character of three bytes
pub after_three : (b : ℕ) → 0xE0 ≤ b → b ≤ 0xEF → after_first b ≡ tail (low3 b) (high3 b) 1
unfolding after_first
after_three b l h =
    rw (le-ltb b 0x80 (omega arith), le-ltb b 0xC2 (omega arith), lt-leb b 0xDF l)
    (by_test (eqb b 0xE0)
    (λ e. let q : b ≡ 0xE0 = eqb-true b 0xE0 e in rw (e, ne_eqb b 0xED (λ d. omega arith)))
    (λ e. rw (e, le-leb b 0xEF h)
    (by_test (eqb b 0xED)
    (λ d. rw d)
    (λ d. rw d))))

-- a byte in F0..F4 begins a character of four bytes
pub after_four : (b : ℕ) → 0xF0 ≤ b → b ≤ 0xF4 → after_first b ≡ tail (low4 b) (high4 b) 2
unfolding after_first
after_four b l h =
    rw (le-ltb b 0x80 (omega arith), le-ltb b 0xC2 (omega arith), lt-leb b 0xDF (omega arith), ne_eqb b 0xE0 (λ e. omega arith), ne_eqb b 0xED (λ e. omega arith), lt-leb b 0xEF l)
    (by_test (eqb b 0xF0)
    (λ e. let q : b ≡ 0xF0 = eqb-true b 0xF0 e in rw (e, ne_eqb b 0xF4 (λ d. omega arith)))
    (λ e. rw e
    (by_test (eqb b 0xF4)
    (λ d. let q : b ≡ 0xF4 = eqb-true b 0xF4 d in rw (d, lt-leb b 0xF3 (omega arith)))
    (λ d. rw (d, le-leb b 0xF3 (let n : b ≡ 0xF4 → ⊥ = eqb-false b 0xF4 d in omega arith))))))

-- a byte in 80..C1 begins no character
pub after_low : (b : ℕ) → 0x80 ≤ b → b < 0xC2 → after_first b ≡ bad
unfolding after_first
after_low b l h = rw (le-ltb b 0x80 l, lt-ltb b 0xC2 h)

-- a byte above F4 begins none either
pub after_high : (b : ℕ) → 0xF4 < b → after_first b ≡ bad
unfolding after_first
after_high b l =
    rw (le-ltb b 0x80 (omega arith), le-ltb b 0xC2 (omega arith), lt-leb b 0xDF (omega arith), ne_eqb b 0xE0 (λ e. omega arith), ne_eqb b 0xED (λ e. omega arith), lt-leb b 0xEF (omega arith), ne_eqb b 0xF0 (λ e. omega arith), lt-leb b 0xF3 (omega arith), ne_eqb b 0xF4 (λ e. omega arith))

-- the kinds of a byte where a character may begin
pub data Lead (b : ℕ) : Type 0 where
  one : b < 0x80 → Lead b
  two : 0xC2 ≤ b → b ≤ 0xDF → Lead b
  three : 0xE0 ≤ b → b ≤ 0xEF → Lead b
  four : 0xF0 ≤ b → b ≤ 0xF4 → Lead b
  wrong : after_first b ≡ bad → Lead b

-- every byte is of one of the kinds
pub lead : (b : ℕ) → Lead b
lead b =
    by_test (ltb b 0x80) (λ t. one (ltb-true b 0x80 t)) (λ a.
    by_test (ltb b 0xC2) (λ t. wrong (after_low b (ltb-false b 0x80 a) (ltb-true b 0xC2 t))) (λ c.
    by_test (leb b 0xDF) (λ t. two (ltb-false b 0xC2 c) (leb-true b 0xDF t)) (λ d.
    by_test (leb b 0xEF) (λ t. three (leb-false b 0xDF d) (leb-true b 0xEF t)) (λ e.
    by_test (leb b 0xF4) (λ t. four (leb-false b 0xEF e) (leb-true b 0xF4 t)) (λ f. wrong (after_high b (leb-false b 0xF4 f)))))))

-- ---- a text behind a state

-- a wrong byte stays wrong
pub stays_bad : (s : List ℕ) → is_utf8_from bad s ≡ false
unfolding is_utf8_from after_byte
stays_bad [] = refl
stays_bad (b ∷ s) = stays_bad s

-- a byte in the bounds that are waited for is passed
pub pass : (lo hi n b : ℕ) (s : List ℕ) → lo ≤ b → b ≤ hi → is_utf8_from (tail lo hi n) (b ∷ s) ≡ is_utf8_from (more_tails n) s
unfolding is_utf8_from after_byte
pass lo hi n b s l h = rw (inside lo hi b l h)

-- what a text behind a state that waits for a byte begins with
pub record Passed (lo hi n : ℕ) (s : List ℕ) : Type 0 where
  pub byte : ℕ
  pub rest : List ℕ
  pub is : s ≡ byte ∷ rest
  pub low : lo ≤ byte
  pub high : byte ≤ hi
  pub then : is_utf8_from (more_tails n) rest ≡ true

-- a text that is right behind a state that waits for a byte begins with such a byte
pub passed : (lo hi n : ℕ) (s : List ℕ) → is_utf8_from (tail lo hi n) s ≡ true → Passed lo hi n s
unfolding is_utf8_from after_byte
passed lo hi n [] e = absurd (false≢true e)
passed lo hi n (b ∷ s) e =
    by_test (within lo hi b)
    (λ t. record { byte = b; rest = s; is = refl; low = inside_low lo hi b t; high = inside_high lo hi b t; then = rw t at e })
    (λ f. absurd (false≢true (sym (stays_bad s) ∙ (rw f at e))))
