-- Eight ASCII bytes at once: bytes are ASCII if and only if their number has none of the bytes' highest bits.
-- Assumes nothing.
use Prim.Native.Nat.{ℕ, zero, suc, ◌+◌, ◌-◌, ◌*◌, ◌/◌, ◌%◌, ◌^◌, ◌≤◌, ◌<◌}
use mathlib.Core.Path.{◌≡◌, refl, ap, ◌∙◌}
use mathlib.Core.Bool.{Bool, true, false, ◌&&◌, and-eq-true_iff, false≢true}
use mathlib.Core.List.{List, [], ◌∷◌, ◌++◌}
use native.Mathlib.Omega.{arith}
use borrow.Author.Tests.{lt-ltb, eq-eqb, ne_eqb, eqb-true, eqb-false, ltb-true, ltb-false}
use lib.Bits.{bit_and, and_block, and_high}
use lib.Dec.{eqb, ltb}
use lib.ListN.{length, take, drop, get_or, replicate, length-drop, take-append-drop}
use lib.Seq.{take-add, take_all, drop-drop}
use Rattle.std.specs.Bool.{MatchBool}
use Rattle.std.specs.List.{AllWithin}
use Rattle.std.proofs.lemmas.Bool.Decides.{Decides-by_and, Decides-ltb}
use Rattle.definition.specs.Bytes.{every, part, number}
use Rattle.definition_bytes.specs.Same.{part_length}
use Rattle.utf8_laws.specs.Bytes.{by_test}
use Rattle.text.specs.Chars.{is_ascii}
use Rattle.text.specs.Words.{Word}
use Rattle.text.proofs.Numbers.{part_one}

-- ---- bytes

-- a number that a byte holds
abbrev pub is_byte : ℕ → Bool
is_byte b = ltb b 256

-- what holds at every place of a text holds of its elements
pub are_bytes : (s : List ℕ) → ((i : ℕ) → get_or s i 0 < 256) → every is_byte s ≡ true
are_bytes [] h = refl
are_bytes (b ∷ s) h = rw (lt-ltb b 256 (h 0)) (are_bytes s (λ i. h (suc i)))

module _ (p : ℕ → Bool) where
  -- what holds of a text's elements holds of its front's
  pub every_take : (n : ℕ) (s : List ℕ) → every p s ≡ true → every p (take n s) ≡ true
  every_take zero s e = refl
  every_take (suc n) [] e = refl
  every_take (suc n) (b ∷ s) e =
      let t = (and-eq-true_iff (p b) (every p s)).0 e in
      rw t.0 (every_take n s t.1)

  -- what holds of a text's elements holds of its rest's
  pub every_drop : (n : ℕ) (s : List ℕ) → every p s ≡ true → every p (drop n s) ≡ true
  every_drop zero s e = e
  every_drop (suc n) [] e = refl
  every_drop (suc n) (b ∷ s) e = every_drop n s ((and-eq-true_iff (p b) (every p s)).0 e).1

  -- what holds of a text's elements holds of a part's
  pub every_part : (s : List ℕ) (at n : ℕ) → every p s ≡ true → every p (part s at n) ≡ true
  every_part s at n e = every_take n (drop at s) (every_drop at s e)

-- ---- the highest bits

-- the highest bit of each of n bytes, as one number
unfoldable pub high_bits : ℕ → ℕ
high_bits n = number (replicate n 0x80)

-- the bits that a byte more adds to the common bits of two numbers
common : (b n m : ℕ) → b < 256 → bit_and (b + 256 * n) (0x80 + 256 * m) ≡ bit_and n m * 256 + b / 128 % 2 * 128
common b n m h =
    let x : b + 256 * n ≡ n * 2 ^ 8 + b = omega arith in
    let y : 0x80 + 256 * m ≡ m * 2 ^ 8 + 0x80 = omega arith in
    rw (x, y, and_block 8 n m b 0x80 h (omega arith), and_high b 1 7)

-- such common bits are none if and only if the byte is ASCII and there are none above it
none_above : (b x : ℕ) → b < 256 → eqb (x * 256 + b / 128 % 2 * 128) 0 ≡ (is_ascii b && eqb x 0)
none_above b x h =
    by_test (ltb b 0x80)
    (λ t.
    let l = ltb-true b 0x80 t in
    by_test (eqb x 0)
    (λ e. let z = eqb-true x 0 e in rw (t, e) (eq-eqb (x * 256 + b / 128 % 2 * 128) 0 (omega arith)))
    (λ e. let z = eqb-false x 0 e in rw (t, e) (ne_eqb (x * 256 + b / 128 % 2 * 128) 0 (λ q. z (omega arith)))))
    (λ f. let l = ltb-false b 0x80 f in rw f (ne_eqb (x * 256 + b / 128 % 2 * 128) 0 (λ q. omega arith)))

-- bytes are ASCII if and only if their number has none of the highest bits
pub ascii_bits : (s : List ℕ) → every is_byte s ≡ true → eqb (bit_and (number s) (high_bits (length s))) 0 ≡ every is_ascii s
unfolding number high_bits
ascii_bits [] e = refl
ascii_bits (b ∷ s) e =
    let t = (and-eq-true_iff (is_byte b) (every is_byte s)).0 e in
    let h = ltb-true b 256 t.0 in
    rw (common b (number s) (number (replicate (length s) 0x80)) h)
    (none_above b (bit_and (number s) (number (replicate (length s) 0x80))) h ∙ ap (λ (r : Bool). is_ascii b && r) (ascii_bits s t.1))

-- the same of a part whose number was read
pub ascii_at : {s : List ℕ} {at n r : ℕ} → at + n ≤ length s → ((i : ℕ) → get_or s i 0 < 256) → Word n s at r → eqb (bit_and r (high_bits n)) 0 ≡ every is_ascii (part s at n)
ascii_at {s} {at} {n} {r} h b w =
    let e = ascii_bits (part s at n) (every_part is_byte s at n (are_bytes s b)) in
    rw w.is (rw (part_length s at n h) at e)

-- ---- whole texts, from their parts

module _ (p : ℕ → Bool) where
  every_append : (a b : List ℕ) → every p a ≡ true → every p b ≡ true → every p (a ++ b) ≡ true
  every_append [] b e f = f
  every_append (x ∷ a) b e f =
      let t = (and-eq-true_iff (p x) (every p a)).0 e in
      rw t.0 (every_append a b t.1 f)

  -- what holds of a front and of the part behind it holds of the longer front
  pub every_more : (s : List ℕ) (i n : ℕ) → every p (take i s) ≡ true → every p (part s i n) ≡ true → every p (take (i + n) s) ≡ true
  every_more s i n e f = rw (take-add i n s) (every_append (take i s) (part s i n) e f)

  -- what holds of two parts that meet holds of the part that they make
  pub every_join : (s : List ℕ) (at n m : ℕ) → every p (part s at n) ≡ true → every p (part s (at + n) m) ≡ true → every p (part s at (n + m)) ≡ true
  every_join s at n m e f = every_more (drop at s) n m e (rw (drop-drop n at s) f)

  -- what holds of a front and of the last elements holds of the whole, where they meet
  pub every_whole : (s : List ℕ) (i j n : ℕ) → j ≤ i → j + n ≡ length s → every p (take i s) ≡ true → every p (part s j n) ≡ true → every p s ≡ true
  every_whole s i j n h l e f =
      let d : every p (drop j s) ≡ true = rw (take_all n (drop j s) (omega (arith, length-drop j s))) at f in
      let k : j + (i - j) ≡ i = omega arith in
      let g : every p (drop i s) ≡ true = rw (← k, ← drop-drop (i - j) j s) (every_drop p (i - j) (drop j s) d) in
      rw take-append-drop at (every_append (take i s) (drop i s) e g)

  -- a front that is as long as the text is the text
  pub every_all : (s : List ℕ) (i : ℕ) → length s ≤ i → every p (take i s) ≡ true → every p s ≡ true
  every_all s i h e = rw (take_all i s h) at e

  -- one element
  pub every_one : (s : List ℕ) (i : ℕ) → i < length s → p (get_or s i 0) ≡ true → every p (part s i 1) ≡ true
  every_one s i h e = rw (part_one s i h, e)

-- ---- std's test of every byte

pub ascii_from_all : (s : List ℕ) (r : Bool) (Q : Type 0) → MatchBool r (AllWithin (λ x. x < 0x80) s 0 (length s)) Q → r ≡ true → every is_ascii s ≡ true
ascii_from_all s true Q h e = (Decides-by_and is_ascii (λ x. x < 0x80) (every is_ascii) (λ x. Decides-ltb x 0x80) refl (λ _ _. refl) s).1 (λ k d l. h k d (omega arith) l)
ascii_from_all s false Q h e = absurd (false≢true e)
