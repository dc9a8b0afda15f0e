-- Bytes that continue a character, eight at once: of each byte the highest bit and the one below it, moved to its lowest place, and the bytes of such a word added up.
-- Assumes nothing.
use Prim.Native.Nat.{ℕ, ◌+◌, ◌-◌, ◌*◌, ◌/◌, ◌%◌, ◌^◌, ◌≤◌, ◌<◌}
use mathlib.Core.Path.{◌≡◌, refl, sym, ap, ◌∙◌, subst}
use mathlib.Core.Bool.{Bool, true, cond, and-eq-true_iff}
use mathlib.Core.List.{List, [], ◌∷◌}
use native.Mathlib.Omega.{arith}
use borrow.Author.Tests.{ltb-true, ltb-false}
use lib.Bits.{bit_and, and_block, and_mask, and_le_l, and_zero_l}
use lib.Dec.{ltb}
use lib.ListN.{length, get_or, replicate}
use Rattle.definition.specs.Bytes.{every, part, number}
use Rattle.definition.specs.Utf8.{continues, scalars_of}
use Rattle.definition_bytes.specs.Same.{part_length}
use Rattle.utf8_laws.specs.Bytes.{by_test}
use Rattle.utf8_laws.specs.Scalars.{continuing, continues_inside, begins_below, begins_above, scalars_count, continuing_append, continuing_few}
use Rattle.text.specs.Words.{Word}
use Rattle.text.specs.Continuing.{Continuing}
use Rattle.text.proofs.Ascii.{is_byte, are_bytes, every_part}
use Rattle.text.proofs.Numbers.{part_add, part_one}

-- ---- a word of bits

-- the lowest bit of each of n bytes, as one number
unfoldable pub low_bits : ℕ → ℕ
low_bits n = number (replicate n 1)

-- the lowest bits of a number, by its last byte r and what stands above it
low_step : (x y r l : ℕ) → x ≡ y * 256 + r → r < 256 → bit_and x (1 + 256 * l) ≡ bit_and y l * 256 + r % 2
low_step x y r l e h =
    let m : 1 + 256 * l ≡ l * 2 ^ 8 + 1 = omega arith in
    let k : x ≡ y * 2 ^ 8 + r = omega arith in
    rw (k, m, and_block 8 y l r 1 h (omega arith), and_mask r 1)

-- the highest bit of each byte of a text, at the byte's lowest place
unfoldable pub high : List ℕ → ℕ
high s = bit_and (number s / 2 ^ 7) (low_bits (length s))

-- the bit below it
unfoldable pub next : List ℕ → ℕ
next s = bit_and (number s / 2 ^ 6) (low_bits (length s))

high_step : (b : ℕ) (s : List ℕ) → b < 256 → high (b ∷ s) ≡ high s * 256 + b / 128
unfolding high low_bits number
high_step b s h =
    let x = (b + 256 * number s) / 128 in
    low_step x (number s / 128) (x % 256) (low_bits (length s)) (omega arith) (omega arith) ∙ ap (λ (r : ℕ). high s * 256 + r) (omega arith)

next_step : (b : ℕ) (s : List ℕ) → b < 256 → next (b ∷ s) ≡ next s * 256 + b / 64 % 2
unfolding next low_bits number
next_step b s h =
    let x = (b + 256 * number s) / 64 in
    low_step x (number s / 64) (x % 256) (low_bits (length s)) (omega arith) (omega arith) ∙ ap (λ (r : ℕ). next s * 256 + r) (omega arith)

-- ---- the bytes that continue a character

-- of one byte: the highest bit is set, and the one below it is not
one_byte : (b : ℕ) → b < 256 → b / 128 - bit_and (b / 128) (b / 64 % 2) ≡ cond (continues b) 1 0
one_byte b h =
    by_test (ltb b 0x80)
    (λ t. let l = ltb-true b 0x80 t in let x : b / 128 ≡ 0 = omega arith in rw (begins_below b l, x, and_zero_l (b / 64 % 2)))
    (λ f.
    let l = ltb-false b 0x80 f in
    let x : b / 128 ≡ 1 = omega arith in
    by_test (ltb b 0xC0)
    (λ t. let m = ltb-true b 0xC0 t in let y : b / 64 % 2 ≡ 0 = omega arith in rw (continues_inside b l (omega arith), x, y))
    (λ g. let m = ltb-false b 0xC0 g in let y : b / 64 % 2 ≡ 1 = omega arith in rw (begins_above b m, x, y)))

-- a 1 for each byte of a text that continues a character
unfoldable pub marked : List ℕ → ℕ
marked s = high s - bit_and (high s) (next s)

marked_step : (b : ℕ) (s : List ℕ) → b < 256 → marked (b ∷ s) ≡ marked s * 256 + cond (continues b) 1 0
unfolding marked
marked_step b s h =
    let a : bit_and (high s * 2 ^ 8 + b / 128) (next s * 2 ^ 8 + b / 64 % 2) ≡ bit_and (high s) (next s) * 2 ^ 8 + bit_and (b / 128) (b / 64 % 2) = and_block 8 (high s) (next s) (b / 128) (b / 64 % 2) (omega arith) (omega arith) in
    let u = and_le_l (high s) (next s) in
    let v = and_le_l (b / 128) (b / 64 % 2) in
    let w = one_byte b h in
    rw (high_step b s h, next_step b s h, a) (omega arith)

marked_none : marked [] ≡ 0
unfolding marked high next low_bits number
marked_none = refl

one_most : (b : Bool) → cond b 1 0 ≤ 1
one_most b = by_test b (λ e. rw e (omega arith)) (λ e. rw e (omega arith))

-- sums by the remainder of 255
sum_mod : (a b c d : ℕ) → a % 255 ≡ c % 255 → b % 255 ≡ d % 255 → (a + b) % 255 ≡ (c + d) % 255
sum_mod a b c d e f = omega arith

byte_mod : (w k c : ℕ) → w % 255 ≡ c % 255 → (w * 256 + k) % 255 ≡ (k + c) % 255
byte_mod w k c e = omega arith

byte_most : (w k l : ℕ) → k ≤ 1 → w ≤ l → w * 256 + k ≤ 1 + 256 * l
byte_most w k l e f = omega arith

-- the bytes of that word add up to how many these are
pub marked_sum : (s : List ℕ) → every is_byte s ≡ true → (marked s % 255 ≡ continuing s % 255) × (marked s ≤ low_bits (length s))
unfolding low_bits number continuing
marked_sum [] e = (rw marked_none, omega (arith, marked_none))
marked_sum (b ∷ s) e =
    let t = (and-eq-true_iff (is_byte b) (every is_byte s)).0 e in
    let k = marked_step b s (ltb-true b 256 t.0) in
    let m = one_most (continues b) in
    let d = marked_sum s t.1 in
    (rw k (byte_mod (marked s) (cond (continues b) 1 0) (continuing s) d.0), rw k (byte_most (marked s) (cond (continues b) 1 0) (number (replicate (length s) 1)) m d.1))

low_eight : (t : List ℕ) → length t ≡ 8 → marked t ≤ low_bits (length t) → marked t ≤ 1 * 0x0101010101010101
unfolding low_bits number
low_eight t l h = subst (λ (n : ℕ). marked t ≤ number (replicate n 1)) l h

-- the same of eight bytes whose number was read
pub marked_at : (s : List ℕ) (at r : ℕ) → at + 8 ≤ length s → ((i : ℕ) → get_or s i 0 < 256) → Word 8 s at r
    → (x y : ℕ) → x ≡ bit_and (r / 2 ^ 7) 0x0101010101010101 → y ≡ bit_and (r / 2 ^ 6) 0x0101010101010101 → Continuing (part s at 8) 1 (x - bit_and x y)
unfolding marked high next low_bits number
marked_at s at r h f w x y e g =
    let l = part_length s at 8 h in
    let d = marked_sum (part s at 8) (every_part is_byte s at 8 (are_bytes s f)) in
    let m : marked (part s at 8) ≡ x - bit_and x y = rw (e, g, w.is, l) in
    record { sum = rw (← m) d.0; low = rw (← m) (low_eight (part s at 8) l d.1) }

-- ---- sums of such words

-- none so far
pub none_so_far : (s : List ℕ) (at : ℕ) → Continuing (part s at (8 * 0)) 0 0
unfolding continuing
none_so_far s at = record { sum = refl; low = omega arith }

-- a part in two pieces
pub continuing_part : (s : List ℕ) (at n m : ℕ) → continuing (part s at (n + m)) ≡ continuing (part s at n) + continuing (part s (at + n) m)
continuing_part s at n m = ap continuing (part_add s at n m) ∙ continuing_append (part s at n) (part s (at + n) m)

-- words behind words
pub words_more : (s : List ℕ) (at i k : ℕ) → continuing (part s at (8 * (i + k))) ≡ continuing (part s at (8 * i)) + continuing (part s (at + 8 * i) (8 * k))
words_more s at i k = let e : 8 * (i + k) ≡ 8 * i + 8 * k = omega arith in ap (λ (x : ℕ). continuing (part s at x)) e ∙ continuing_part s at (8 * i) (8 * k)

-- one block of 31 words more, and the words behind the last whole block
pub blocks_more : (s : List ℕ) (at k : ℕ) → continuing (part s at (8 * 31 * (k + 1))) ≡ continuing (part s at (8 * 31 * k)) + continuing (part s (at + 8 * 31 * k) (8 * 31))
blocks_more s at k = let e : 8 * 31 * (k + 1) ≡ 8 * 31 * k + 8 * 31 = omega arith in ap (λ (x : ℕ). continuing (part s at x)) e ∙ continuing_part s at (8 * 31 * k) (8 * 31)

pub blocks_rest : (s : List ℕ) (at k words : ℕ) → k ≡ words / 31 → continuing (part s at (8 * words)) ≡ continuing (part s at (8 * 31 * k)) + continuing (part s (at + 8 * (words - words % 31)) (8 * (words % 31)))
blocks_rest s at k words h =
    let e : 8 * words ≡ 8 * 31 * k + 8 * (words % 31) = omega arith in
    let f : at + 8 * 31 * k ≡ at + 8 * (words - words % 31) = omega arith in
    ap (λ (x : ℕ). continuing (part s at x)) e ∙ continuing_part s at (8 * 31 * k) (8 * (words % 31)) ∙ ap (λ (x : ℕ). continuing (part s at (8 * 31 * k)) + continuing (part s x (8 * (words % 31)))) f

-- one word more
pub one_more : (s : List ℕ) (at i a b : ℕ) → Continuing (part s at (8 * i)) i a → Continuing (part s (at + 8 * i) 8) 1 b → Continuing (part s at (8 * (i + 1))) (i + 1) (a + b)
one_more s at i a b x y =
    let e : 8 * (i + 1) ≡ 8 * i + 8 = omega arith in
    let k = continuing_part s at (8 * i) 8 in
    let u = x.low in
    let v = y.low in
    record { sum = rw (e, k) (sum_mod a b (continuing (part s at (8 * i))) (continuing (part s (at + 8 * i) 8)) x.sum y.sum); low = more_low u v }
  where
    more_low : a ≤ i * 0x0101010101010101 → b ≤ 1 * 0x0101010101010101 → a + b ≤ (i + 1) * 0x0101010101010101
    more_low u v = omega arith

-- up to 31 words have fewer such bytes than 255
pub block_sum : (s : List ℕ) (at i a : ℕ) → at + 8 * i ≤ length s → i ≤ 31 → Continuing (part s at (8 * i)) i a → a % 255 ≡ continuing (part s at (8 * i))
block_sum s at i a h l x =
    few_mod a (continuing (part s at (8 * i))) (omega (arith, continuing_few (part s at (8 * i)), part_length s at (8 * i) h)) x.sum
  where
    few_mod : (a k : ℕ) → k < 255 → a % 255 ≡ k % 255 → a % 255 ≡ k
    few_mod a k l e = omega arith

-- one byte more
pub byte_more : (s : List ℕ) (at i : ℕ) → at + i < length s → continuing (part s at (i + 1)) ≡ continuing (part s at i) + continuing (get_or s (at + i) 0 ∷ [])
byte_more s at i h = continuing_part s at i 1 ∙ ap (λ (t : List ℕ). continuing (part s at i) + continuing t) (part_one s (at + i) h)

-- ---- the scalar values of a part, of which w words and the bytes behind them were looked at

pub scalars_by : (s : List ℕ) (from n w c f : ℕ) → from + n ≤ length s → 8 * w ≤ n → c ≡ continuing (part s from (8 * w)) → f ≡ continuing (part s (from + 8 * w) (n - 8 * w))
    → (c + f ≤ n) × (n - c - f ≡ length (scalars_of (part s from n)))
scalars_by s from n w c f h l e g =
    let m : 8 * w + (n - 8 * w) ≡ n = omega arith in
    let k : continuing (part s from n) ≡ continuing (part s from (8 * w)) + continuing (part s (from + 8 * w) (n - 8 * w)) = ap (λ (x : ℕ). continuing (part s from x)) (sym m) ∙ continuing_part s from (8 * w) (n - 8 * w) in
    let p = scalars_count (part s from n) in
    let q = part_length s from n h in
    (omega arith, omega arith)
