-- A UTF-8 text character by character: single first bytes, the later bytes, the length of a character, and a run of ASCII bytes.
-- Assumes nothing.
use Prim.Native.Nat.{ℕ, zero, suc, ◌+◌, ◌-◌, ◌≤◌, ◌<◌}
use mathlib.Core.Path.{◌≡◌, refl, ap, ◌∙◌}
use mathlib.Core.Bool.{true, false, cond, ◌&&◌, and-false, and-eq-true_iff, false≢true}
use mathlib.Core.List.{List, [], ◌∷◌, ◌++◌}
use native.Mathlib.Numerals.{add-one, add-two}
use native.Mathlib.Omega.{arith}
use borrow.Author.Tests.{ne_eqb, lt-ltb, ltb-true, ltb-false, leb-true, lt-leb, le-leb}
use lib.Dec.{leb, ltb}
use lib.ListN.{length, take, drop, get_or, take-append-drop, drop_of_length-le, length-drop}
use lib.Seq.{drop-cons, drop-drop}
use Rattle.definition.specs.Bytes.{every, within, part}
use Rattle.definition.specs.Utf8.{Wait, after_first, after_byte, more_tails, is_utf8_from, is_utf8}
use Rattle.definition.specs.Utf8.Wait.{ready, tail, bad}
use Rattle.utf8_laws.specs.Bytes.{by_test, Lead, lead, after_one, after_two, after_three, after_four, stays_bad}
use Rattle.utf8_laws.specs.Bytes.Lead.{one, two, three, four, wrong}
use Rattle.utf8_laws.specs.Encode.{utf8_ascii}
use Rattle.text.specs.Chars.{tails_pass, tails_length, length_after, char_length, is_ascii, ascii_run, step_length}
use Rattle.text.proofs.Ascii.{every_part}

-- ---- first bytes

-- the first byte of a character of three bytes with no bound of its own
pub after_three_plain : (b : ℕ) → 0xE0 ≤ b → b ≤ 0xEF → (b ≡ 0xE0 → ⊥) → (b ≡ 0xED → ⊥) → after_first b ≡ tail 0x80 0xBF 1
after_three_plain b l h x y = after_three b l h ∙ rw (ne_eqb b 0xE0 x, ne_eqb b 0xED y)

-- the first byte of a character of four bytes with no bound of its own
pub after_four_plain : (b : ℕ) → 0xF0 < b → b < 0xF4 → after_first b ≡ tail 0x80 0xBF 2
after_four_plain b l h = after_four b (omega arith) (omega arith) ∙ rw (ne_eqb b 0xF0 (λ e. omega arith), ne_eqb b 0xF4 (λ e. omega arith))

-- how many bytes a state waits for behind the next one
abbrev more_of : Wait → ℕ
more_of ready = 0
more_of (tail lo hi n) = n
more_of bad = 0

-- at most two bytes follow the second byte of a character
pub after_few : (b lo hi n : ℕ) → tail lo hi n ≡ after_first b → n ≤ 2
after_few b lo hi n e = rw (ap more_of e) (by (lead b))
  where
    by : Lead b → more_of (after_first b) ≤ 2
    by (one h) = rw (after_one b h) (omega arith)
    by (two l h) = rw (after_two b l h) (omega arith)
    by (three l h) = rw (after_three b l h) (omega arith)
    by (four l h) = rw (after_four b l h) (omega arith)
    by (wrong w) = rw w (omega arith)

-- ---- later bytes

-- a text's right later bytes and what is behind them
pub tails_split : (lo hi n : ℕ) (s : List ℕ) → is_utf8_from (tail lo hi n) s ≡ (tails_pass lo hi n s && is_utf8 (drop (suc n) s))
unfolding is_utf8_from is_utf8 after_byte more_tails tails_pass
tails_split lo hi zero [] = refl
tails_split lo hi (suc n) [] = refl
tails_split lo hi zero (b ∷ s) = by_test (within lo hi b) (λ t. rw t) (λ f. rw f (stays_bad s))
tails_split lo hi (suc n) (b ∷ s) = by_test (within lo hi b) (λ t. rw t (tails_split 0x80 0xBF n s)) (λ f. rw f (stays_bad s))

-- a byte at a place
pub tails_at : (s : List ℕ) (at lo hi : ℕ) → at < length s → tails_pass lo hi 0 (drop at s) ≡ within lo hi (get_or s at 0)
unfolding tails_pass
tails_at s at lo hi h = rw (drop-cons s at 0 h)

-- no byte stands behind the end
pub tails_out : (s : List ℕ) (at lo hi n : ℕ) → length s ≤ at → tails_pass lo hi n (drop at s) ≡ false
unfolding tails_pass
tails_out s at lo hi n h = rw (drop_of_length-le s h)

-- one byte, and those behind it
pub tails_next : (s : List ℕ) (at lo hi n : ℕ) → tails_pass lo hi (suc n) (drop at s) ≡ (tails_pass lo hi 0 (drop at s) && tails_pass 0x80 0xBF n (drop (at + 1) s))
unfolding tails_pass
tails_next s at lo hi n =
    by_test (ltb at (length s))
    (λ t. let h = ltb-true at (length s) t in rw (add-one, drop-cons s at 0 h))
    (λ f. let h = ltb-false at (length s) f in rw (drop_of_length-le s h))

-- where the first of some bytes is wrong, they are
tails_wrong : (s : List ℕ) (at lo hi n : ℕ) → tails_pass lo hi 0 (drop at s) ≡ false → tails_pass lo hi n (drop at s) ≡ false
tails_wrong s at lo hi zero e = e
tails_wrong s at lo hi (suc n) e = tails_next s at lo hi n ∙ rw e

-- The length of a character by its second, third and fourth byte, of which the first is at `at`.
module _ (s : List ℕ) (at lo hi n : ℕ) where
  -- a wrong second byte
  pub second_wrong : tails_pass lo hi 0 (drop at s) ≡ false → tails_length lo hi n (drop at s) ≡ 0
  unfolding tails_length
  second_wrong e = rw (tails_wrong s at lo hi n e)

  -- a wrong third byte
  pub third_wrong : (n ≡ 0 → ⊥) → tails_pass 0x80 0xBF 0 (drop (at + 1) s) ≡ false → tails_length lo hi n (drop at s) ≡ 0
  unfolding tails_length
  third_wrong z e =
      let k : n ≡ suc (n - 1) = omega arith in
      rw (k, tails_next s at lo hi (n - 1), tails_wrong s (at + 1) 0x80 0xBF (n - 1) e, and-false)

  -- a character of two bytes
  pub two_right : n ≡ 0 → tails_pass lo hi 0 (drop at s) ≡ true → tails_length lo hi n (drop at s) ≡ 2
  unfolding tails_length
  two_right z e = rw (z, e)

  -- a character of three bytes
  pub three_right : n ≡ 1 → tails_pass lo hi 0 (drop at s) ≡ true → tails_pass 0x80 0xBF 0 (drop (at + 1) s) ≡ true → tails_length lo hi n (drop at s) ≡ 3
  unfolding tails_length
  three_right z e f = rw (z, tails_next s at lo hi 0, e, f)

  -- of a fourth byte all depends on it
  pub four_by : n ≡ 2 → tails_pass lo hi 0 (drop at s) ≡ true → tails_pass 0x80 0xBF 0 (drop (at + 1) s) ≡ true → tails_length lo hi n (drop at s) ≡ cond (tails_pass 0x80 0xBF 0 (drop (at + 2) s)) 4 0
  unfolding tails_length
  four_by z e f =
      let k : at + 1 + 1 ≡ at + 2 = omega arith in
      rw (z, tails_next s at lo hi 1, e, tails_next s (at + 1) 0x80 0xBF 0, f, k)

-- later bytes that are right are there
tails_fit : (lo hi n : ℕ) (s : List ℕ) → tails_pass lo hi n s ≡ true → suc n ≤ length s
unfolding tails_pass
tails_fit lo hi zero [] e = absurd (false≢true e)
tails_fit lo hi (suc n) [] e = absurd (false≢true e)
tails_fit lo hi zero (b ∷ s) e = omega arith
tails_fit lo hi (suc n) (b ∷ s) e =
    let h = tails_fit 0x80 0xBF n s ((and-eq-true_iff (within lo hi b) (tails_pass 0x80 0xBF n s)).0 e).1 in
    omega arith

-- ---- a character

-- a text is UTF-8 if and only if a character begins it and what is behind that is UTF-8
char_split : (w : Wait) (b : ℕ) (s : List ℕ) → is_utf8_from w s ≡ (ltb 0 (length_after w s) && is_utf8 (drop (length_after w s) (b ∷ s)))
unfolding length_after tails_length is_utf8
char_split ready b s = refl
char_split bad b s = stays_bad s
char_split (tail lo hi n) b s =
    tails_split lo hi n s
    ∙ by_test (tails_pass lo hi n s)
    (λ t. rw (t, add-two, lt-ltb 0 (suc (suc n)) (omega arith)))
    (λ f. rw f)

-- a character lies inside the text
char_fits : (w : Wait) (b : ℕ) (s : List ℕ) → length_after w s ≤ length (b ∷ s)
unfolding length_after tails_length
char_fits ready b s = omega arith
char_fits bad b s = omega arith
char_fits (tail lo hi n) b s =
    by_test (tails_pass lo hi n s)
    (λ t. let h = tails_fit lo hi n s t in rw t (omega arith))
    (λ f. rw f (omega arith))

-- the length of the character at a place, by what its first byte leaves
pub char_at : (s : List ℕ) (at : ℕ) (w : Wait) → at < length s → w ≡ after_first (get_or s at 0) → char_length (drop at s) ≡ length_after w (drop (at + 1) s)
unfolding char_length
char_at s at w h e = rw (add-one, drop-cons s at 0 h, e)

-- ---- what the test passes at once

-- the number at a place where eight ASCII bytes stand, and where they do not
pub step_run : (s : List ℕ) (at : ℕ) → at + 8 ≤ length s → every is_ascii (part s at 8) ≡ true → step_length (drop at s) ≡ 8
unfolding step_length
step_run s at h e = rw (length-drop at s, le-leb 8 (length s - at) (omega arith), e)

-- where fewer than eight bytes are left, a character is passed
pub step_short : (s : List ℕ) (at : ℕ) → length s < at + 8 → step_length (drop at s) ≡ char_length (drop at s)
unfolding step_length
step_short s at h = rw (length-drop at s, lt-leb 8 (length s - at) (omega arith))

-- where one of them is not ASCII, too
pub step_char : (s : List ℕ) (at : ℕ) → every is_ascii (part s at 8) ≡ false → step_length (drop at s) ≡ char_length (drop at s)
unfolding step_length
step_char s at e = rw (e, and-false)

-- ASCII bytes in front of a text leave it UTF-8, or not, as it was
pub utf8_ascii_all : (a r : List ℕ) → every is_ascii a ≡ true → is_utf8 (a ++ r) ≡ is_utf8 r
utf8_ascii_all [] r e = refl
utf8_ascii_all (b ∷ a) r e =
    let t = (and-eq-true_iff (is_ascii b) (every is_ascii a)).0 e in
    utf8_ascii b (a ++ r) (ltb-true b 0x80 t.0) ∙ utf8_ascii_all a r t.1

-- a text that is ASCII throughout is UTF-8
pub utf8_plain : (s : List ℕ) → every is_ascii s ≡ true → is_utf8 s ≡ true
unfolding is_utf8 is_utf8_from
utf8_plain [] e = refl
utf8_plain (b ∷ s) e =
    let t = (and-eq-true_iff (is_ascii b) (every is_ascii s)).0 e in
    utf8_ascii b s (ltb-true b 0x80 t.0) ∙ utf8_plain s t.1

-- and so is each part of it
pub utf8_plain_part : (s : List ℕ) (at n : ℕ) → every is_ascii s ≡ true → is_utf8 (part s at n) ≡ true
utf8_plain_part s at n e = utf8_plain (part s at n) (every_part is_ascii s at n e)

-- a run of ASCII bytes is passed at once
run_split : (n : ℕ) (s : List ℕ) → ascii_run n s ≡ true → is_utf8 s ≡ is_utf8 (drop n s)
run_split n s e =
    let t = (and-eq-true_iff (leb n (length s)) (every is_ascii (take n s))).0 e in
    rw take-append-drop at (utf8_ascii_all (take n s) (drop n s) t.1)

-- a text is UTF-8 if and only if something is passed and what is behind that is UTF-8
step_split : (s : List ℕ) → 0 < length s → is_utf8 s ≡ (ltb 0 (step_length s) && is_utf8 (drop (step_length s) s))
unfolding step_length char_length is_utf8 is_utf8_from after_byte
step_split [] h = absurd (omega arith)
step_split (b ∷ s) h =
    by_test (ascii_run 8 (b ∷ s))
    (λ t. rw t (run_split 8 (b ∷ s) t))
    (λ f. rw f (char_split (after_first b) b s))

-- what is passed at once lies inside the text
step_fits : (s : List ℕ) → step_length s ≤ length s
unfolding step_length char_length
step_fits [] = omega arith
step_fits (b ∷ s) =
    by_test (ascii_run 8 (b ∷ s))
    (λ t. rw t (leb-true 8 (length (b ∷ s)) ((and-eq-true_iff (leb 8 (length (b ∷ s))) (every is_ascii (take 8 (b ∷ s)))).0 t).0))
    (λ f. rw f (char_fits (after_first b) b s))

-- ---- along a text

module _ (s : List ℕ) (i n : ℕ) (h : i < length s) (e : n ≡ step_length (drop i s)) where
  left : 0 < length (drop i s)
  left = rw length-drop (omega arith)

  -- where no character stands, the text is not UTF-8
  pub step_wrong : n ≡ 0 → is_utf8 (drop i s) ≡ false
  step_wrong z = rw (← e, z) at (step_split (drop i s) left)

  -- where some stand, it is UTF-8 if and only if what is behind them is
  pub step_on : (n ≡ 0 → ⊥) → is_utf8 (drop i s) ≡ is_utf8 (drop (i + n) s)
  step_on z = rw (← drop-drop n i s) (rw (← e, lt-ltb 0 n (omega arith)) at (step_split (drop i s) left))

  -- and the next place is in the text
  pub step_in : i + n ≤ length s
  step_in =
      let f : n ≤ length (drop i s) = rw e (step_fits (drop i s)) in
      let g = length-drop i s in
      omega arith

-- at the end nothing is wrong
pub step_end : (s : List ℕ) (i : ℕ) → length s ≤ i → is_utf8 (drop i s) ≡ true
unfolding is_utf8 is_utf8_from
step_end s i h = rw (drop_of_length-le s h)
